-- What placing a page answers where it has another number and its commands have other places. Assumes nothing.
use Rattle.std.specs.Prelude.{ℕ, cond, map, eqb}
use Rattle.refusals.specs.Numbers.{position_out_of_range}
use Rattle.refusals.specs.Answer.{Answer, refused, given}
use Rattle.placements.specs.declared.Record.{Record}
use Rattle.turns.specs.Placing.{Contents}

-- a record on another page (rule 12.6)
abbrev pub record_on : ℕ → Record → Record
record_on page r = record { kind = r.kind; font = r.font; page = page; hh = r.hh; vv = r.vv; content = r.content; extent = r.extent }

-- the same contents on another page (rule 12.6)
abbrev pub contents_on : ℕ → Contents → Contents
contents_on page p = record { placements = map (record_on page) p.placements; missing_characters = p.missing_characters; specials = p.specials }

-- the same answer on another page: 16 is at the command's new place (rule 12.6)
abbrev pub renumbered : ℕ → (ℕ → ℕ) → Answer Contents → Answer Contents
renumbered page moved (refused number place) = refused number (cond (eqb number position_out_of_range) (moved place) place)
renumbered page moved (given p) = given (contents_on page p)

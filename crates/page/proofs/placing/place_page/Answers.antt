-- `page::placing::place_page` meets its contract: the file is judged first, then the page. Assumes nothing.
use mathlib.Core.Path.{refl, sym, ap, ◌∙◌}
use mathlib.Core.List.{List}
use Prim.Native.Nat.{ℕ}
use lib.ListN.{length}
use Rattle.std.proofs.lemmas.Result.{err_from_is_err_and}
use Rattle.std.specs.declared.result.Result.TheVariants.{Err}
use Rattle.refusals.specs.Answer.{Answer, answered, and_then}
use Rattle.volume.specs.declared.Summary.{Summary}
use Rattle.turns.specs.Placing.{Contents}
use Rattle.page.specs.Answers.{placed_accepted, placed_counts, area_after}
use Rattle.page.proofs.PlaceLaws.{refused_to}
use Rattle.page.proofs.placing.place_page.Goals as goal

pub scan-requires : goal.scan-requires
scan-requires c = refl

pub place_accepted-requires : goal.place_accepted-requires
place_accepted-requires c = record { judgement = sym c.in_ok-volume.ensures.result_value; keeps = c.in_ok-volume.ensures.scan_keeps }

-- what follows the judgement of a file
next : List ℕ → List ℕ → ℕ → ℕ → ℕ → Summary → Answer Contents
next file table resolution page room found = placed_accepted file table resolution page room found.pages

pub returns-in_err-volume : goal.returns-in_err-volume
unfolding next
returns-in_err-volume c =
    let s = c.args in
    let (passed, is, same) = err_from_is_err_and c.from_residual.result c.from_residual.ensures.1 in
    let both = refused_to (ap (λ (a : Answer Summary). and_then a (next s.file.now s.widths.now s.resolution s.page (length s.out.now))) (sym c.in_err-volume.ensures.result_value)) s.out.now in
    record { result_value = ap answered (is ∙ ap Err same) ∙ both.0; out_after = both.1 }

pub returns : goal.returns
unfolding next
returns c =
    let s = c.args in
    let meant = ap (λ (a : Answer Summary). and_then a (next s.file.now s.widths.now s.resolution s.page (length s.out.now))) c.in_ok-volume.ensures.result_value in
    let placed = c.place_accepted.ensures in
    record { result_value = placed.result_value ∙ ap placed_counts meant; out_after = placed.out_after ∙ ap (area_after s.out.now) meant }

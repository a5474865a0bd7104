-- `page::walking::recalled` meets its contract: what stands in a slot is right for its number, and so is what is put there. Assumes nothing.
use native.Mathlib.Omega.{arith}
use Rattle.std.proofs.Common.{rules}
use Rattle.volume.specs.History.{history}
use Rattle.page.proofs.Remembered.{seen_stored}
use Rattle.page.proofs.walking.recalled.Goals as goal

pub kept_for-kept-requires : goal.kept_for-kept-requires
kept_for-kept-requires c = (c.font_of-font.ensures (history c.args.file.now) c.requires.told).1

pub returns-then-last-number-clause-value : goal.returns-then-last-number-clause-value
returns-then-last-number-clause-value c = (c.requires.seen_is.1 _ (omega (arith, c.requires.seen_is.0)), search rules)

pub returns-clause-seen_after : goal.returns-clause-seen_after
returns-clause-seen_after c =
    seen_stored c.args.file.now c.args.fonts.now c.args.widths c.args.seen.now _ _ (c.font_of-font.ensures, c.kept_for-kept.ensures) c.requires.seen_is

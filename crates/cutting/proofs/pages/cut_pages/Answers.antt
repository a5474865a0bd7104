-- `cutting::pages::cut_pages` meets its contract. Assumes nothing.
use mathlib.Core.Bool.{Bool, true, false, not, true≢false}
use Rattle.cutting.specs.Chosen.{wrong_list}
use Rattle.volume.proofs.History.{history_counts}
use Rattle.volume.proofs.Accepts.{accepts_lawful}
use Rattle.volume.specs.History.{history}
use Rattle.volume.specs.Judged.{judged}
use Rattle.volume.specs.declared.Summary.{Summary}
use Rattle.list.specs.Past.{pages}
use Rattle.refusals.specs.Answer.{answered, given}
use mathlib.Core.Path.{◌≡◌, refl, sym, ap, ◌∙◌}
use Prim.Native.Nat.{ℕ}
use Rattle.cutting.proofs.pages.cut_pages.Goals as goal

right_there : (wrong answer : Bool) → answer ≡ not wrong → answer ≡ true → wrong ≡ false
right_there true answer e t = absurd (true≢false (sym t ∙ e))
right_there false answer e t = refl

pub cut_accepted-requires : goal.cut_accepted-requires
cut_accepted-requires c =
    let found = c.in_ok-summary.summary in
    let accepted : judged c.args.file.now ≡ given found = sym c.check_file.ensures ∙ ap answered c.in_ok-summary.was in
    let right = right_there (wrong_list found.pages c.args.list.now) c.right_list.result c.right_list.ensures c.if-not-right_list.false in
    let same : pages (history c.args.file.now) ≡ found.pages = ap (λ (s : Summary). s.pages) (history_counts c.args.file.now found accepted) in
    (accepts_lawful c.args.file.now found accepted, ap (λ (n : ℕ). wrong_list n c.args.list.now) same ∙ right)

-- `cutting::pages::cut_accepted` meets its contract. Assumes nothing.
use Rattle.cutting.specs.Steps.{forms_of}
use Rattle.cutting.specs.CutFile.{bytes_cut, cut_file, cut_area}
use Rattle.cutting.proofs.Pasted.{put_sets}
use Rattle.cutting.proofs.NewFiles.{file_length, cut_short, cut_given, area_filled}
use Rattle.cutting.specs.Chosen.{is_in}
use Rattle.cutting.specs.CutList.{cut_past, fillers_at}
use Rattle.volume.specs.History.{history}
use Rattle.refusals.specs.Answer.{given}
use Rattle.commands.specs.Commands.{place}
use lib.Seq.{sets, length-take-le}
use lib.ListN.{length, take, drop, replicate, length-drop, length-replicate}
use native.Mathlib.Omega.{arith}
use mathlib.Core.List.{List}
use mathlib.Core.Path.{◌≡◌, refl, sym, ap, ◌∙◌}
use Prim.Native.Nat.{ℕ, ◌+◌, ◌-◌, ◌≤◌}
use Rattle.cutting.proofs.pages.cut_accepted.Goals as goal

-- the tail behind what was written
tail_there : (entry forms written : List ℕ) (size is_size count is_count : ℕ) → written ≡ sets entry 0 forms → size ≡ is_size → count ≡ is_count
    → sets written size (replicate count 223) ≡ sets (sets entry 0 forms) is_size (replicate is_count 223)
tail_there entry forms written size is_size count is_count w s c = rw (w, s, c) refl

pub returns-then-out-end : goal.returns-then-out-end
returns-then-out-end c =
    let n = c.count-counted.ensures in
    let filled = c.fillers_at.ensures ∙ ap fillers_at n.all_is in
    let made = cut_short c.args.file.now c.args.list.now (length c.args.out.now) (omega (arith, n.all_is, filled, c.if-out-end.true)) in
    record { result_value = sym (ap bytes_cut made); out_after = sym (ap (cut_area c.args.out.now) made) }

pub returns : goal.returns
returns c =
    let file = c.args.file.now in
    let list = c.args.list.now in
    let entry = c.args.out.now in
    let written = c.write.new.out in
    let new = cut_past (is_in list) (history file) in
    let n = c.count-counted.ensures in
    let size = c.count-counted.result.opened + c.count-counted.result.kept in
    let count = c.fillers_at.result in
    let filled : count ≡ fillers_at (place new) = c.fillers_at.ensures ∙ ap fillers_at n.all_is in
    let fits : place new + fillers_at (place new) ≤ length entry = omega (arith, n.all_is, filled, c.if-out-end.false) in
    let made = cut_given file list (length entry) fits in
    let bytes : size + count ≡ length (cut_file file list) = omega (arith, n.all_is, filled, file_length file list) in
    let room : size + count ≤ length written = omega (arith, c.if-out-end.false, c.write.auto.out) in
    let part : length (take (size + count - size) (drop size written)) ≡ count = length-take-le (size + count - size) (drop size written) (omega (arith, length-drop size written, room)) ∙ omega arith in
    let tail : c.fill.new.self ≡ replicate count 223 = c.fill.ensures.after (λ y e. e) ∙ ap (λ (k : ℕ). replicate k 223) part in
    let long : length c.fill.new.self ≡ size + count - size = ap length tail ∙ length-replicate {A = ℕ} count 223 ∙ omega arith in
    record {
      result_value = ap given bytes ∙ sym (ap bytes_cut made);
      out_after =
          put_sets written size (size + count) c.fill.new.self (omega arith) room long
          ∙ ap (sets written size) tail
          ∙ tail_there entry (forms_of new) written size (place new) count (fillers_at (place new)) c.write.ensures n.all_is filled
          ∙ area_filled file list entry fits
          ∙ sym (ap (cut_area entry) made);
    }

-- `cutting::writing::mended` meets its contract. Assumes nothing.
use Rattle.cutting.proofs.Pasted.{pasted_sets, written_within}
use Rattle.cutting.specs.Steps.{mended_size}
use Rattle.commands.specs.Kinds.{is}
use Rattle.cutting.proofs.Others.{not_of_kind}
use mathlib.Core.Bool.{false}
use Rattle.commands.specs.declared.Kind.TheVariants.{Bop, Post}
use Rattle.numbers.proofs.Bytes.{length_bytes}
use Rattle.numbers.specs.Bytes.{bytes_of}
use lib.Seq.{sets, length-sets}
use lib.ListN.{length}
use native.Mathlib.Omega.{arith}
use mathlib.Core.Path.{◌≡◌, refl, ◌∙◌}
use Prim.Native.Nat.{◌+◌, ◌≤◌}
use Rattle.cutting.proofs.writing.mended.Goals as goal

pub returns-in-Bop : goal.returns-in-Bop
returns-in-Bop c =
    let m = c.args.m in
    let command = c.args.command.now in
    let k = c.in-Bop.is in
    let long : length command ≡ 45 = rw k at c.requires.0 in
    let fits : m.size + 45 ≤ length c.args.out.now = rw k at c.requires.1 in
    let copied = pasted_sets c.args.out.now m.size command _ (omega (arith, fits, long)) c.paste_part.ensures in
    record { value = rw (k, long) refl; out_after = rw k (written_within c.args.out.now m.size command 41 (bytes_of 4 m.bop) _ _ copied c.put_number.ensures (omega (arith, long, length_bytes 4 m.bop))) }

pub returns-in-Post : goal.returns-in-Post
returns-in-Post c =
    let out = c.args.out.now in
    let m = c.args.m in
    let command = c.args.command.now in
    let k = c.in-Post.is in
    let long : length command ≡ 29 = rw k at c.requires.0 in
    let fits : m.size + 29 ≤ length out = rw k at c.requires.1 in
    let copied = pasted_sets out m.size command _ (omega (arith, fits, long)) c.paste_part.ensures in
    let pointed = written_within out m.size command 1 (bytes_of 4 m.bop) _ _ copied c.put_number-in-Post.ensures (omega (arith, long, length_bytes 4 m.bop)) in
    let long-pointed : length (sets command 1 (bytes_of 4 m.bop)) ≡ 29 = length-sets command 1 (bytes_of 4 m.bop) ∙ long in
    let deep = written_within out m.size (sets command 1 (bytes_of 4 m.bop)) 25 (bytes_of 2 c.args.totals.greatest) _ _ pointed c.put_number-in-Post-2.ensures (omega (arith, long-pointed, length_bytes 2 c.args.totals.greatest)) in
    let long-deep : length (sets (sets command 1 (bytes_of 4 m.bop)) 25 (bytes_of 2 c.args.totals.greatest)) ≡ 29 = length-sets (sets command 1 (bytes_of 4 m.bop)) 25 (bytes_of 2 c.args.totals.greatest) ∙ long-pointed in
    record { value = rw (k, long) refl; out_after = rw k (written_within out m.size (sets (sets command 1 (bytes_of 4 m.bop)) 25 (bytes_of 2 c.args.totals.greatest)) 27 (bytes_of 2 c.args.totals.pages) _ _ deep c.put_number-in-Post-3.ensures (omega (arith, long-deep, length_bytes 2 c.args.totals.pages))) }

pub returns-in_default : goal.returns-in_default
returns-in_default c =
    let out = c.args.out.now in
    let m = c.args.m in
    let command = c.args.command.now in
    let bop : is c.args.kind Bop ≡ false = not_of_kind c.args.kind Bop c.in_default.not-Bop in
    let post : is c.args.kind Post ≡ false = not_of_kind c.args.kind Post c.in_default.not-Post in
    let small : mended_size c.args.kind ≡ 6 = rw (bop, post) refl in
    let long : length command ≡ 6 = c.requires.0 ∙ small in
    let copied = pasted_sets out m.size command _ (omega (arith, c.requires.0, c.requires.1)) c.paste_part.ensures in
    record {
      value = rw (bop, post, long) refl;
      out_after = rw (bop, post) (written_within out m.size command 1 (bytes_of 4 m.post) _ _ copied c.put_number-in_default.ensures (omega (arith, long, length_bytes 4 m.post)));
    }

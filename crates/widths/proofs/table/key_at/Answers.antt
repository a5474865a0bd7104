-- `widths::table::key_at` meets its contract: sixteen bytes as two numbers are the name. Assumes nothing.
use mathlib.Core.Path.{ap, ap₂, subst, ◌∙◌}
use Prim.Native.Nat.{ℕ, ◌+◌, ◌*◌, ◌^◌, ◌<◌}
use Rattle.names.specs.Names.{name_number}
use Rattle.names.proofs.NameLaws.{number_at}
use Rattle.widths.proofs.table.key_at.Goals as goal

pub returns : goal.returns
returns c =
    let scale = c.unsigned_at-scale.ensures.value in
    let key = c.key_of.ensures in
    record {
      head_is = key.head_is ∙ ap₂ (λ (checksum scale : ℕ). checksum * 2 ^ 32 + scale) c.unsigned_at-checksum.ensures.value scale;
      scale_below = subst (λ (n : ℕ). n < 2 ^ 32) scale key.scale_below;
      name_is = key.name_is ∙ ap name_number c.name_at-name.ensures.0 ∙ number_at c.args.table.now (c.args.at + 8);
      high_below = key.high_below;
      low_below = key.low_below;
      code_is = key.code_is ∙ c.from.ensures;
      code_below = key.code_below;
    }

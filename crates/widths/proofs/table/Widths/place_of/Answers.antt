-- `widths::table::Widths::place_of` meets its contract: a record of a right table lies within it. Assumes nothing.
use native.Mathlib.Omega.{arith}
use Rattle.names.specs.Names.{name_size}
use Rattle.widths.proofs.TableLaws.{record_inside}
use Rattle.widths.proofs.table.Widths.place_of.Goals as goal

pub overflow_mul-result : goal.overflow_mul-result
overflow_mul-result c = omega (arith, record_inside name_size c.args.self.bytes.now c.args.self.records c.args.self.right c.args.index c.requires)

pub returns-clause-inside : goal.returns-clause-inside
returns-clause-inside c = record_inside name_size c.args.self.bytes.now c.args.self.records c.args.self.right c.args.index c.requires

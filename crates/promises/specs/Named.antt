-- What an answer of font_name names, wherever the file stands in memory. Assumes nothing.
use Rattle.std.specs.Prelude.{ℕ, List}
use Rattle.std.specs.declared.result.Result.{Result}
use Rattle.std.specs.declared.result.Result.TheVariants.{Ok, Err}
use Rattle.refusals.specs.declared.Refusal.{Refusal}
use Rattle.reader.specs.declared.FontName.{FontName}

-- the name's bytes, or the refusal (rule 9.4)
abbrev pub bytes_named : Result FontName Refusal → Result (List ℕ) Refusal
bytes_named (Ok name) = Ok name.bytes.now
bytes_named (Err why) = Err why

-- where in the file the name starts, and its bytes; or the refusal (rule 9.4)
abbrev pub part_named : Result FontName Refusal → Result (ℕ × List ℕ) Refusal
part_named (Ok name) = Ok (name.start, name.bytes.now)
part_named (Err why) = Err why

-- where in the file the name starts, or the refusal (rule 9.4)
abbrev pub start_named : Result FontName Refusal → Result ℕ Refusal
start_named (Ok name) = Ok name.start
start_named (Err why) = Err why

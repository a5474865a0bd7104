-- What the answers of two entries say, where the code's result is not the answer's own. Assumes nothing.
use Rattle.std.specs.Prelude.{◌+◌, length}
use Rattle.std.specs.declared.option.Option.{Option}
use Rattle.std.specs.declared.option.Option.TheVariants.{None, Some}
use Rattle.std.specs.declared.result.Result.{Result}
use Rattle.std.specs.declared.result.Result.TheVariants.{Ok, Err}
use Rattle.refusals.specs.declared.Refusal.{Refusal}
use Rattle.refusals.specs.Answer.{Answer, given, refusal}
use Rattle.widths.specs.declared.Metric.{Metric}
use Rattle.widths.specs.LookUp.{LookUp, found, absent}
use Rattle.list.specs.declared.Part.{Part}
use Rattle.reader.specs.declared.FontName.{FontName}

-- font_name: the part of the file that starts at the name's place and is as long as the name (rule 9.4)
abbrev pub name_answer : Result FontName Refusal → Answer Part
name_answer (Ok name) = given (record { start = name.start; end = name.start + length name.bytes.now })
name_answer (Err r) = refusal r

-- look_up: escapement and fix word, or absent (rule 9.7)
abbrev pub looked_answer : Result (Option Metric) Refusal → Answer LookUp
looked_answer (Ok (Some metric)) = given (found metric)
looked_answer (Ok None) = given absent
looked_answer (Err r) = refusal r

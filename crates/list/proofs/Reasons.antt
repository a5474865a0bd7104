-- What a fault that the code answers is as a number: 0 where it answers none, and only there. Assumes nothing.
use mathlib.Core.Path.{◌≡◌, refl}
use mathlib.Core.Bool.{true}
use Prim.Native.Nat.{ℕ, ◌<◌}
use native.Mathlib.Omega.{arith}
use Rattle.std.specs.Result.{is_ok}
use Rattle.std.specs.declared.result.Result.{Result}
use Rattle.std.specs.declared.result.Result.TheVariants.{Ok, Err}
use Rattle.refusals.specs.Numbers.{number_of}
use Rattle.refusals.specs.declared.Reason.{Reason}
use Rattle.list.specs.Steps.{fault_number}

pub some_number : (reason : Reason) → 0 < number_of reason
some_number Reason.FileTooLong = omega arith
some_number Reason.FileEnds = omega arith
some_number Reason.UndefinedOpcode = omega arith
some_number Reason.WrongPreamble = omega arith
some_number Reason.MisplacedCommand = omega arith
some_number Reason.WrongDepth = omega arith
some_number Reason.WrongFontDefinition = omega arith
some_number Reason.NoFont = omega arith
some_number Reason.WrongPointer = omega arith
some_number Reason.WrongPostamble = omega arith
some_number Reason.WrongTail = omega arith
some_number Reason.WrongResolution = omega arith
some_number Reason.UnitOutOfRange = omega arith
some_number Reason.WrongWidthTable = omega arith
some_number Reason.NoSuchPage = omega arith
some_number Reason.PositionOutOfRange = omega arith
some_number Reason.AreaTooShort = omega arith
some_number Reason.FontEnds = omega arith
some_number Reason.MisplacedInFont = omega arith
some_number Reason.PacketTooShort = omega arith
some_number Reason.WrongPacket = omega arith
some_number Reason.WrongScale = omega arith
some_number Reason.WrongPages = omega arith
some_number Reason.NamedRecord = omega arith

pub no_fault : (r : Result (Unit {0}) Reason) → is_ok r ≡ true → fault_number r ≡ 0
no_fault (Ok done) e = refl
no_fault (Err reason) e = let z : ◌≡◌ {A = ℕ} 0 1 = cc in absurd (omega arith)

-- No file is the written forms of two lists of commands that keep the rules. Assumes nothing.
use Prim.Native.Nat.{ℕ, zero, suc}
use mathlib.Core.Path.{◌≡◌, refl, ap, sym, ◌∙◌}
use mathlib.Core.List.{List, [], ◌∷◌}
use native.Mathlib.Omega.{arith}
use lib.Dec.{lit<}
use Rattle.commands.specs.Kinds.{kind_of}
use Rattle.commands.specs.Lengths.{lengths, fixed_length, inner_length, size_of}
use Rattle.commands.specs.Commands.{Command, Whole, written, front, whole}
use Rattle.commands.proofs.Fronts.{front_written}
use Rattle.list.specs.Lawful.{filler, fillers, Follows, ends, goes, Keeps}

-- every command of a list is whole
data AllWhole : List Command → Type 0 where
  none : AllWhole []
  more : {c : Command} {cs : List Command} → Whole c → AllWhole cs → AllWhole (c ∷ cs)

unique : {cs ds : List Command} → AllWhole cs → AllWhole ds → written cs ≡ written ds → cs ≡ ds
unique none none e = refl
unique none (more w ws) e = let z : ◌≡◌ {A = ℕ} 0 1 = cc in absurd (omega arith)
unique (more w ws) none e = let z : ◌≡◌ {A = ℕ} 0 1 = cc in absurd (omega arith)
unique (more {c = c} {cs = cs} w ws) (more {c = d} {cs = ds} v vs) e =
    let same : whole c (written cs) ≡ whole d (written ds) =
    sym (front_written c (written cs) w) ∙ ap front e ∙ front_written d (written ds) v in
    let same_first : c ≡ d = cc in
    let same_bytes : written cs ≡ written ds = cc in
    let same_rest : cs ≡ ds = unique ws vs same_bytes in
    cc

filler_whole : Whole filler
unfolding kind_of lengths fixed_length inner_length size_of
filler_whole = record { defined = lit< tt; exact = refl }

fillers_whole : (n : ℕ) → AllWhole (fillers n)
fillers_whole zero = none
fillers_whole (suc n) = more filler_whole (fillers_whole n)

follows_whole : {past cs : List Command} → Follows past cs → AllWhole cs
follows_whole (ends n w allowed last enough) = more w (fillers_whole n)
follows_whole (goes w allowed not_last follows) = more w (follows_whole follows)

pub one_list : (cs ds : List Command) → Keeps cs → Keeps ds → written cs ≡ written ds → cs ≡ ds
one_list cs ds keeps also-keeps e = unique (follows_whole keeps) (follows_whole also-keeps) e

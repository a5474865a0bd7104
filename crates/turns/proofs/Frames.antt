-- Push, pop and eop by what they are to the blocks of a page. Assumes nothing.
use mathlib.Core.Path.{◌≡◌, refl, sym, ap, ◌∙◌}
use mathlib.Core.Bool.{Bool, true, false, cond}
use Prim.Native.Nat.{ℕ, ◌+◌, ◌-◌}
use Rattle.commands.specs.declared.Kind.{Kind}
use Rattle.commands.specs.declared.Kind.TheVariants.{Push, Pop, Eop}
use Rattle.commands.specs.Kinds.{is}
use Rattle.list.specs.Past.{depth_after}
use Rattle.list.proofs.Arms.{is_kind, on_kinds}
use Rattle.turns.specs.Blocks.{Frame, opening, closing, ending, inside, frame_of}

abbrev pub is_opening : Frame → Bool
is_opening opening = true
is_opening closing = false
is_opening ending = false
is_opening inside = false

abbrev pub is_closing : Frame → Bool
is_closing opening = false
is_closing closing = true
is_closing ending = false
is_closing inside = false

abbrev pub is_ending : Frame → Bool
is_ending opening = false
is_ending closing = false
is_ending ending = true
is_ending inside = false

module _ (kind : Kind) where
  -- only push opens a block
  pub opening_push : opening ≡ frame_of kind → kind ≡ Push
  opening_push e = is_kind kind Push (sym (on_kinds (λ k. is_opening (frame_of k)) (λ k. is k Push) refl kind) ∙ sym (ap is_opening e))

  -- only pop closes one
  pub closing_pop : closing ≡ frame_of kind → kind ≡ Pop
  closing_pop e = is_kind kind Pop (sym (on_kinds (λ k. is_closing (frame_of k)) (λ k. is k Pop) refl kind) ∙ sym (ap is_closing e))

  -- only eop ends the page
  pub ending_eop : is_ending (frame_of kind) ≡ is kind Eop
  ending_eop = on_kinds (λ k. is_ending (frame_of k)) (λ k. is k Eop) refl kind

-- what a frame does to the depth
abbrev pub depth_by : Frame → ℕ → ℕ
depth_by opening depth = depth + 1
depth_by closing depth = depth - 1
depth_by ending depth = depth
depth_by inside depth = depth

-- it is what the kind does to it
pub frame_depth : (kind : Kind) (depth : ℕ) → depth_by (frame_of kind) depth ≡ depth_after kind depth
frame_depth kind depth = by (is kind Push) (is kind Pop) (is kind Eop)
  where
    by : (push pop eop : Bool) → depth_by (cond push opening (cond pop closing (cond eop ending inside))) depth ≡ cond push (depth + 1) (cond pop (depth - 1) depth)
    by true pop eop = refl
    by false true eop = refl
    by false false true = refl
    by false false false = refl

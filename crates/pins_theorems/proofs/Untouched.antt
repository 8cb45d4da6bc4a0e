-- What a later byte, and the loading of an output byte, leave of the frame as it was.
use mathlib.Core.Path.{◌≡◌, refl}
use mathlib.Core.List.{List, []}
use Prim.Native.Nat.{◌+◌, ℕ}
use lib.Dec.{eqb, leb}
use Rattle.laws.specs.Pick.{pick_case}
use Rattle.codes.specs.Part.{Part}
use Rattle.chip.specs.Lents.{Lent}
use Rattle.chip.specs.declared.Core.{Core}
use Rattle.codes.specs.declared.Instruction.{Instruction}
use Rattle.codes.specs.declared.Instruction.TheVariants.{Wren, Wrdi, Rdsr, Wrsr, Read, Write, Rdid, Wrid, Silence}
use Rattle.codes.specs.Instructions.{picks_lock}
use Rattle.edges.specs.declared.Frame.{Frame}
use Rattle.edges.specs.Frames.{with_value, with_out, with_address, with_latch}
use Rattle.edges.specs.Rising.{taking}
use Rattle.edges.specs.Falling.{loading}

-- a frame but for what a later byte fills
abbrev pub unfilled : Frame → Frame
unfilled f = with_value 0 (with_address 0 (with_latch (record { bytes = []; marks = [] }) f))

-- a frame but for what is loaded
abbrev pub unloaded : Frame → Frame
unloaded f = with_out 0 0 (with_address 0 f)

module _ (P : Part) (n v : ℕ) (f : Frame) where
  pub taking_same : (i : Instruction) → unfilled (taking P i n v f) ≡ unfilled f
  taking_same Wren = refl
  taking_same Wrdi = refl
  taking_same Rdsr = refl
  taking_same Wrsr = pick_case (λ (g : Frame). unfilled g ≡ unfilled f) (eqb n 1) (λ e. refl) (λ e. refl)
  taking_same Read = pick_case (λ (g : Frame). unfilled g ≡ unfilled f) (leb n P.address_bytes) (λ e. refl) (λ e. refl)
  taking_same Write = pick_case (λ (g : Frame). unfilled g ≡ unfilled f) (leb n P.address_bytes) (λ e. refl) (λ e. refl)
  taking_same Rdid = pick_case (λ (g : Frame). unfilled g ≡ unfilled f) (leb n P.address_bytes) (λ e. refl) (λ e. refl)
  taking_same Wrid =
      pick_case (λ (g : Frame). unfilled g ≡ unfilled f) (leb n P.address_bytes) (λ e. refl)
      (λ e. pick_case (λ (g : Frame). unfilled g ≡ unfilled f) (picks_lock f.address)
      (λ k. pick_case (λ (g : Frame). unfilled g ≡ unfilled f) (eqb n (P.address_bytes + 1)) (λ o. refl) (λ o. refl)) (λ k. refl))
  taking_same Silence = refl

module _ (P : Part) (m : Lent) (c : Core) (f : Frame) where
  pub loading_same : (i : Instruction) → unloaded (loading P m c i f) ≡ unloaded f
  loading_same Wren = refl
  loading_same Wrdi = refl
  loading_same Rdsr = refl
  loading_same Wrsr = refl
  loading_same Read = refl
  loading_same Write = refl
  loading_same Rdid = refl
  loading_same Wrid = refl
  loading_same Silence = refl

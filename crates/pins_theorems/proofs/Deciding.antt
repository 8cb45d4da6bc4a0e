-- What deselect decides is a core inside its ranges.
use mathlib.Core.Path.{◌≡◌, refl, subst}
use mathlib.Core.Bool.{Bool, true, false, not, ◌&&◌, ◌||◌}
use Prim.Native.Nat.{ℕ, ◌+◌, ◌*◌, ◌/◌, ◌%◌, ◌<◌, ◌≤◌}
use native.Mathlib.Omega.{arith}
use lib.Dec.{eqb, leb}
use borrow.Author.Tests.{leb-true, ltb-false, eqb-true}
use Rattle.laws.specs.Pick.{pick_case, and_left}
use Rattle.laws.specs.And.{never}
use Rattle.codes.specs.Part.{Part, pages}
use Rattle.codes.specs.Status.{on}
use Rattle.chip.specs.Records.{running}
use Rattle.codes.specs.Instructions.{decode, row, count_fits}
use Rattle.chip.specs.Questions.{barred}
use Rattle.codes.specs.Verdicts.{is_executed}
use Rattle.chip.specs.Effects.{effect}
use Rattle.latch.specs.declared.Latch.{Latch}
use Rattle.chip.specs.declared.Core.{Core}
use Rattle.codes.specs.declared.Instruction.{Instruction}
use Rattle.codes.specs.declared.Instruction.TheVariants.{Wren, Wrdi, Rdsr, Wrsr, Read, Write, Rdid, Wrid, Silence}
use Rattle.chip.proofs.Within.{Within}
use Rattle.latch.proofs.Fitting.{more_fits}
use Rattle.chip.proofs.Executed.{executed_within}
use Rattle.codes.proofs.Sound.{Sound}
use Rattle.codes.proofs.Judged.{wrid_identified}
use Rattle.codes.proofs.Starts.{page_of_memory}
use Rattle.edges.specs.declared.Frame.{Frame}
use Rattle.pins.specs.declared.Device.{Device}
use Rattle.edges.specs.Ranges.{latches}
use Rattle.pins.specs.Events.{judged_now, executed_now, decided}
use Rattle.pins_theorems.proofs.Parts.{FieldsFit, Fits}
use Rattle.pins_theorems.proofs.InHold.{passed_now}
use Rattle.pins_theorems.proofs.Fields.{bounded_below}

-- ---- the tie "if a frame is past its eighth edge and a cycle runs now, one ran at that edge"

pub tie_out : (first run ran : Bool) → (first || not run || ran) ≡ true → first ≡ false → run ≡ true → ran ≡ true
tie_out true run ran e f r = absurd (never refl f)
tie_out false true ran e f r = e
tie_out false false ran e f r = absurd (never r refl)

pub tie_in : (first run ran : Bool) → (first ≡ false → run ≡ true → ran ≡ true) → (first || not run || ran) ≡ true
tie_in true run ran h = refl
tie_in false true ran h = h refl refl
tie_in false false ran h = refl

-- ---- the address of a frame in hand is one of the memory's, or 0

none_below : (P : Part) → Sound P → (a : ℕ) → eqb a 0 ≡ true → a < P.size
none_below P sound a e = omega (arith, eqb-true a 0 e, sound.size_some)

address_below : (P : Part) → Sound P → (f : Frame) (i : Instruction) → FieldsFit P i f → f.address < P.size
address_below P sound f Wren t = none_below P sound f.address t.address
address_below P sound f Wrdi t = none_below P sound f.address t.address
address_below P sound f Rdsr t = none_below P sound f.address t.address
address_below P sound f Wrsr t = none_below P sound f.address t.address
address_below P sound f Read t = bounded_below P f.taken f.address t.address
address_below P sound f Write t = bounded_below P f.taken f.address t.address
address_below P sound f Rdid t = bounded_below P f.taken f.address t.address
address_below P sound f Wrid t = bounded_below P f.taken f.address t.address
address_below P sound f Silence t = none_below P sound f.address t.address

-- ---- deselect

module _ (P : Part) (sound : Sound P) (x : Device) (t : Fits P x) where
  ran_then : is_executed (judged_now P x) ≡ true → running x.core ≡ true → on x.frame.ran ≡ true
  ran_then e r = go (eqb x.frame.taken 0) refl
    where
      go : (b : Bool) → eqb x.frame.taken 0 ≡ b → on x.frame.ran ≡ true
      go true z =
          let few : x.frame.bits ≤ 7 = t.frame.bits in
          let whole : 8 ≤ 8 * x.frame.taken + x.frame.bits = ltb-false _ _ (passed_now P x e).whole in
          let none : x.frame.taken ≡ 0 = eqb-true _ _ z in
          absurd (omega arith)
      go false z = tie_out (eqb x.frame.taken 0) (running x.core) (on x.frame.ran) t.ran z r

  executed_fits : is_executed (judged_now P x) ≡ true → Within P (executed_now P x)
  executed_fits e =
      let f = x.frame in
      let i = decode P f.code in
      executed_within P i f.address f.value f.value (8 * f.taken + f.bits) (on f.ran) (on x.core.srwd && not (on x.pins.w))
      (barred P x.core i f.address) (on x.held) f.latch x.core (wrid_identified P f.code) e (ran_then e)
      (page_of_memory sound f.address (address_below P sound f i t.frame.fields))
      (more_fits P (latches P i f.address f.taken) f.latch t.frame.fields.latch) t.core

  pub decided_within : Within P (decided P x)
  decided_within = pick_case (Within P) (is_executed (judged_now P x)) executed_fits (λ e. t.core)

-- With no readings the timed frame's call is the plain frame's, in both modes: the same answer and output, and no cell changes.
use mathlib.Core.Path.{◌≡◌, refl, ap₂, sym, ◌∙◌}
use mathlib.Core.Bool.{Bool, true, ◌||◌}
use mathlib.Core.List.{List, [], ◌∷◌}
use Prim.Native.Nat.{ℕ}
use native.Mathlib.Omega.{arith}
use lib.Dec.{eqb, leb}
use lib.ListN.{length}
use Rattle.laws.specs.Pick.{pick, pick_case, yes_so, and_left}
use Rattle.codes.specs.Part.{Part}
use Rattle.codes.specs.Status.{on}
use Rattle.chip.specs.Lents.{Lent}
use Rattle.chip.specs.declared.Core.{Core}
use Rattle.frames.specs.Answers.{framed, framed_output}
use Rattle.frames.specs.Answers.{Framed}
use Rattle.timed_frames.specs.declared.Mode.{Mode}
use Rattle.timed_frames.proofs.Untimed.{untimed, untimed_cells, untimed_output}
use Rattle.bench.specs.Calls.{bad_level, frame_answer, framed_answer, frame_call, frame_call_output, timed_taken, timed_call, timed_call_memory}
use Rattle.bench.specs.Calls.{timed_call_identification, timed_call_output, mode_of}
use Rattle.bench.specs.declared.FrameAnswer.{FrameAnswer}
use Rattle.bench.proofs.Kept.{mode_number, mode_taken}

-- where the mode's number is one of the two
module _ (P : Part) (c : Core) (m : Lent) (w k : ℕ) (s : List ℕ) (n : ℕ) (taken : timed_taken w k ≡ leb w 1) where
  same_answer : (room : ℕ) → timed_call P c m w k s n [] [] room ≡ frame_call P c m.memory m.identification w s n room
  same_answer room =
      ap₂ (λ (t : Bool) (r : Framed). pick t (framed_answer r) (frame_answer (bad_level P (length m.memory) (length m.identification)) 0 c))
      taken (untimed P c m s n (on w) room)

  same_memory : (room : ℕ) → timed_call_memory P c m w k s n [] [] room ≡ m.memory
  same_memory room =
      pick_case (λ (x : List ℕ). x ≡ m.memory) (timed_taken w k) (λ t. (untimed_cells P c m s n (on w) room).0) (λ t. refl)

  same_identification : (room : ℕ) → timed_call_identification P c m w k s n [] [] room ≡ m.identification
  same_identification room =
      pick_case (λ (x : List ℕ). x ≡ m.identification) (timed_taken w k) (λ t. (untimed_cells P c m s n (on w) room).1) (λ t. refl)

  same_output : (out : List ℕ)
      → timed_call_output P c m w k s n [] [] out ≡ frame_call_output P c m.memory m.identification w s n out
  same_output out =
      ap₂ (λ (t : Bool) (x : List ℕ). pick t x out) taken (untimed_output P c m s n (mode_of k) out)

-- in either mode
module _ (P : Part) (c : Core) (m : Lent) (w : ℕ) (o : Mode) (s : List ℕ) (n : ℕ) where
  pub untimed_call : (room : ℕ) → timed_call P c m w (mode_number o) s n [] [] room ≡ frame_call P c m.memory m.identification w s n room
  untimed_call = same_answer P c m w (mode_number o) s n (mode_taken w o)

  pub untimed_call_memory : (room : ℕ) → timed_call_memory P c m w (mode_number o) s n [] [] room ≡ m.memory
  untimed_call_memory = same_memory P c m w (mode_number o) s n (mode_taken w o)

  pub untimed_call_identification : (room : ℕ) → timed_call_identification P c m w (mode_number o) s n [] [] room ≡ m.identification
  untimed_call_identification = same_identification P c m w (mode_number o) s n (mode_taken w o)

  pub untimed_call_output : (out : List ℕ)
      → timed_call_output P c m w (mode_number o) s n [] [] out ≡ frame_call_output P c m.memory m.identification w s n out
  untimed_call_output = same_output P c m w (mode_number o) s n (mode_taken w o)

-- .. over lists of no elements: what the plain frame hands back and leaves is what this call does
pub plain_call : (P : Part) (c : Core) (m : Lent) (w k : ℕ) (s : List ℕ) (n : ℕ) (ps ts out : List ℕ) {r : FrameAnswer} {shown : List ℕ}
    → timed_taken w k ≡ true → length ps ≡ 0 → length ts ≡ 0
    → r ≡ framed_answer (framed P c m.memory m.identification (on w) s n (length out))
    → shown ≡ framed_output P c m.memory m.identification s n out
    → record {
      value : r ≡ timed_call P c m w k s n ps ts (length out);
      memory_after : m.memory ≡ timed_call_memory P c m w k s n ps ts (length out);
      identification_after : m.identification ≡ timed_call_identification P c m w k s n ps ts (length out);
      out_after : shown ≡ timed_call_output P c m w k s n ps ts out;
    }
plain_call P c m w k s n [] [] out is i j e h =
    let level = and_left (leb w 1) (eqb k 0 || eqb k 3) is in
    let taken = is ∙ sym level in
    record {
      value = yes_so _ level e ∙ sym (same_answer P c m w k s n taken (length out));
      memory_after = sym (same_memory P c m w k s n taken (length out));
      identification_after = sym (same_identification P c m w k s n taken (length out));
      out_after = yes_so _ level h ∙ sym (same_output P c m w k s n taken out);
    }
plain_call P c m w k s n [] (t ∷ ts) out is i j e h = absurd (omega arith)
plain_call P c m w k s n (p ∷ ps) ts out is i j e h = absurd (omega arith)

-- A list of events that is taken, and one that is refused: the answer, and its number in document 01.
use Rattle.std.specs.Prelude.{Err, Ok}
use mathlib.Core.Path.{◌≡◌, refl, ap, sym, ◌∙◌}
use mathlib.Core.List.{List}
use mathlib.Core.Bool.{Bool, true, false}
use Prim.Native.Nat.{ℕ}
use lib.ListN.{length}
use lib.Dec.{eqb}
use borrow.Author.Tests.{eq-eqb, eqb-true}
use Rattle.laws.specs.Pick.{pick, yes_so, pick_ap, pick_cong}
use Rattle.codes.specs.Part.{Part}
use Rattle.chip.specs.Lents.{Lent}
use Rattle.chip.specs.Time.{lent_fits}
use Rattle.codes.specs.Refusals.{number, refusal_number, no_refusal}
use Rattle.codes.specs.declared.Refusal.{Refusal}
use Rattle.codes.specs.declared.Refusal.TheVariants.{MemoryLength, RecordRange, OutputLength}
use Rattle.codes.specs.Refusals.{Outcome}
use Rattle.pins.specs.declared.Device.{Device}
use Rattle.pins.specs.Ranges.{device_fits}
use Rattle.codes.proofs.Tested.{passed}
use Rattle.pins.specs.Answers.{stepped_to, admitted, answer, answer_memory}
use Rattle.events.specs.Events.{are_events}
use Rattle.lists.specs.Answers.{play_outcome, play_number}
use Rattle.pins.proofs.Answering.{done_so, refused_so, kept_so, left_so}

-- what stands behind two tests, where they hold; and what stops at them
on : (t u : Bool) (o : Outcome) → pick t (pick u no_refusal (Err RecordRange)) (Err MemoryLength) ≡ no_refusal → pick t (pick u o (Err RecordRange)) (Err MemoryLength) ≡ o
unfolding pick
on true true o e = refl
on true false o e = absurd cc
on false u o e = absurd cc

off : (t u : Bool) {f : Refusal} (o : Outcome) → pick t (pick u no_refusal (Err RecordRange)) (Err MemoryLength) ≡ Err f → pick t (pick u o (Err RecordRange)) (Err MemoryLength) ≡ Err f
unfolding pick
off true true o e = absurd cc
off true false o e = e
off false u o e = e

-- all four tests hold
room_so : (t u v : Bool) (room n : ℕ)
    → pick t (pick u (pick v (pick (eqb room n) no_refusal (Err OutputLength)) (Err RecordRange)) (Err RecordRange)) (Err MemoryLength) ≡ no_refusal → room ≡ n
unfolding pick
room_so true true true room n e = eqb-true room n (passed (eqb room n) OutputLength refl e)
room_so true true false room n e = absurd cc
room_so true false v room n e = absurd cc
room_so false u v room n e = absurd cc

module _ (P : Part) (x : Device) (m : Lent) (es : List ℕ) (room : ℕ) where
  -- both lent slices have their lengths
  abbrev fits : Bool
  fits = lent_fits P (length m.memory) (length m.identification)

  play_number_law : {o : Outcome} → play_outcome P x m es room ≡ o → number o ≡ play_number P x m es room
  play_number_law e =
      ap number (sym e)
      ∙ pick_ap number fits _ _
      ∙ pick_cong fits 1 (λ p. pick_ap number (device_fits P x) _ _
      ∙ pick_cong (device_fits P x) 2 (λ q. pick_ap number (are_events es) _ _
      ∙ pick_cong (are_events es) 2 (λ r. pick_ap number (eqb room (length es)) _ _)))

  pub play_done : fits ≡ true → device_fits P x ≡ true → are_events es ≡ true → room ≡ length es → play_outcome P x m es room ≡ no_refusal
  play_done l h g r = sym (yes_so _ l (yes_so _ h (yes_so _ g (yes_so _ (eq-eqb _ _ r) refl))))

  -- by refusals 1 and 2, which every event has, and then by what is asked of a list alone
  pub play_stopped : {f : Refusal} → admitted P x (length m.memory) (length m.identification) ≡ Err f → Err f ≡ play_outcome P x m es room
  play_stopped e = sym (off fits (device_fits P x) _ e)

  pub play_passed : {o : Outcome} → admitted P x (length m.memory) (length m.identification) ≡ no_refusal
      → o ≡ pick (are_events es) (pick (eqb room (length es)) no_refusal (Err OutputLength)) (Err RecordRange) → o ≡ play_outcome P x m es room
  play_passed e p = p ∙ sym (on fits (device_fits P x) _ e)

  -- a list that is taken has room
  pub play_room : play_outcome P x m es room ≡ no_refusal → room ≡ length es
  play_room e = room_so fits (device_fits P x) (are_events es) room (length es) e

  pub play_taken : {y y' : Device} {n n' d d' v v' : List ℕ} (out : List ℕ) → play_outcome P x m es room ≡ no_refusal → y' ≡ y → n' ≡ n → d' ≡ d → v' ≡ v
      → record {
        value : stepped_to no_refusal y' ≡ answer (play_outcome P x m es room) y x;
        as_number : 0 ≡ play_number P x m es room;
        memory_after : n' ≡ answer_memory (play_outcome P x m es room) n m.memory;
        identification_after : d' ≡ answer_memory (play_outcome P x m es room) d m.identification;
        out_after : v' ≡ answer_memory (play_outcome P x m es room) v out;
      }
  play_taken out o p q i r =
      record {
        value = done_so x o p refl;
        as_number = play_number_law o;
        memory_after = left_so m.memory o q;
        identification_after = left_so m.identification o i;
        out_after = left_so out o r;
      }

  pub play_untaken : {f : Refusal} (y : Device) (n d v out : List ℕ) → play_outcome P x m es room ≡ Err f
      → record {
        value : stepped_to (Err f) x ≡ answer (play_outcome P x m es room) y x;
        as_number : refusal_number f ≡ play_number P x m es room;
        memory_after : m.memory ≡ answer_memory (play_outcome P x m es room) n m.memory;
        identification_after : m.identification ≡ answer_memory (play_outcome P x m es room) d m.identification;
        out_after : out ≡ answer_memory (play_outcome P x m es room) v out;
      }
  play_untaken y n d v out o =
      record {
        value = refused_so y o refl;
        as_number = play_number_law o;
        memory_after = kept_so n m.memory o;
        identification_after = kept_so d m.identification o;
        out_after = kept_so v out o;
      }

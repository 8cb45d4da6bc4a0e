-- An event that is taken, and one that is refused: the answer, and its number in document 01.
use Rattle.std.specs.Prelude.{Err}
use mathlib.Core.Path.{◌≡◌, refl, ap, ap₂, sym, ◌∙◌}
use mathlib.Core.List.{List}
use mathlib.Core.Bool.{true, false}
use Prim.Native.Nat.{ℕ}
use lib.ListN.{length}
use Rattle.laws.specs.Pick.{pick, at_yes, at_no, yes_so, no_so, pick_ap, pick_cong}
use Rattle.codes.specs.Part.{Part}
use Rattle.chip.specs.Lents.{Lent}
use Rattle.chip.specs.Time.{lent_fits}
use Rattle.codes.specs.Refusals.{number, no_refusal}
use Rattle.codes.specs.declared.Refusal.{Refusal}
use Rattle.codes.specs.declared.Refusal.TheVariants.{MemoryLength, RecordRange}
use Rattle.codes.specs.Refusals.{Outcome}
use Rattle.pins.specs.declared.Device.{Device}
use Rattle.pins.specs.declared.Stepped.{Stepped}
use Rattle.pins.specs.Ranges.{device_fits}
use Rattle.pins.specs.Answers.{stepped_to, answer, answer_memory, record_outcome, memory_outcome, record_number, memory_number}

-- the answer, once the outcome is known
pub done_so : {o : Outcome} {r : Stepped} {y y' : Device} (x : Device) → o ≡ no_refusal → y' ≡ y → r ≡ stepped_to no_refusal y' → r ≡ answer o y x
unfolding pick
done_so x e p q = rw (q, e, p) refl

pub refused_so : {o : Outcome} {f : Refusal} {r : Stepped} {x : Device} (y : Device) → o ≡ Err f → r ≡ stepped_to (Err f) x → r ≡ answer o y x
unfolding pick
refused_so y e q = rw (q, e) refl

-- the number of an answer with a known outcome
number_so : {o : Outcome} {r : Stepped} {x : Device} {n : ℕ} → r ≡ stepped_to o x → number o ≡ n → number r.outcome ≡ n
number_so q e = ap (λ (s : Stepped). number s.outcome) q ∙ e

-- ---- refusal 2 alone

module _ (P : Part) (x : Device) where
  pub record_number_law : {o : Outcome} → record_outcome P x ≡ o → number o ≡ record_number P x
  record_number_law e = ap number (sym e) ∙ pick_ap number (device_fits P x) no_refusal (Err RecordRange)

  pub answered : {o : Outcome} {r : Stepped} {y y' : Device} → o ≡ record_outcome P x → y' ≡ y → r ≡ answer o y' x
      → record { value : r ≡ answer (record_outcome P x) y x; as_number : number r.outcome ≡ record_number P x }
  answered e p q =
      let so = q ∙ ap₂ (λ (u : Outcome) (z : Device). answer u z x) e p in
      record { value = so; as_number = ap (λ (s : Stepped). number s.outcome) so ∙ record_number_law refl }

  pub taken : {r : Stepped} {y y' : Device} → device_fits P x ≡ true → y' ≡ y → r ≡ stepped_to no_refusal y'
      → record { value : r ≡ answer (record_outcome P x) y x; as_number : number r.outcome ≡ record_number P x }
  taken h p q =
      let o : record_outcome P x ≡ no_refusal = at_yes _ _ h in
      record { value = done_so x o p q; as_number = number_so q (record_number_law o) }

  pub untaken : {r : Stepped} (y : Device) → device_fits P x ≡ false → r ≡ stepped_to (Err RecordRange) x
      → record { value : r ≡ answer (record_outcome P x) y x; as_number : number r.outcome ≡ record_number P x }
  untaken y h q =
      let o : record_outcome P x ≡ Err RecordRange = at_no _ _ h in
      record { value = refused_so y o q; as_number = number_so q (record_number_law o) }

-- ---- refusal 1 before it

module _ (P : Part) (x : Device) (m : Lent) where
  memory_number_law : {o : Outcome} → memory_outcome P x m ≡ o → number o ≡ memory_number P x m
  memory_number_law e =
      ap number (sym e)
      ∙ pick_ap number (lent_fits P (length m.memory) (length m.identification)) (record_outcome P x) (Err MemoryLength)
      ∙ pick_cong (lent_fits P (length m.memory) (length m.identification)) 1 (λ q. record_number_law P x refl)

  pub memory_done : lent_fits P (length m.memory) (length m.identification) ≡ true → device_fits P x ≡ true → memory_outcome P x m ≡ no_refusal
  memory_done l h = sym (yes_so _ l (yes_so _ h refl))

  pub memory_record : lent_fits P (length m.memory) (length m.identification) ≡ true → device_fits P x ≡ false → memory_outcome P x m ≡ Err RecordRange
  memory_record l h = sym (yes_so _ l (no_so _ h refl))

  pub memory_length : lent_fits P (length m.memory) (length m.identification) ≡ false → memory_outcome P x m ≡ Err MemoryLength
  memory_length l = at_no _ _ l

  pub lent_taken : {r : Stepped} {y y' : Device} → memory_outcome P x m ≡ no_refusal → y' ≡ y → r ≡ stepped_to no_refusal y'
      → record { value : r ≡ answer (memory_outcome P x m) y x; as_number : number r.outcome ≡ memory_number P x m }
  lent_taken o p q = record { value = done_so x o p q; as_number = number_so q (memory_number_law o) }

  pub lent_untaken : {r : Stepped} {f : Refusal} (y : Device) → memory_outcome P x m ≡ Err f → r ≡ stepped_to (Err f) x
      → record { value : r ≡ answer (memory_outcome P x m) y x; as_number : number r.outcome ≡ memory_number P x m }
  lent_untaken y o q = record { value = refused_so y o q; as_number = number_so q (memory_number_law o) }

-- what is left of lent cells
pub kept_so : {o : Outcome} {f : Refusal} (n m : List ℕ) → o ≡ Err f → m ≡ answer_memory o n m
unfolding pick
kept_so n m e = rw e refl

pub left_so : {o : Outcome} {n n' : List ℕ} (m : List ℕ) → o ≡ no_refusal → n' ≡ n → n' ≡ answer_memory o n m
unfolding pick
left_so m e p = rw (e, p) refl

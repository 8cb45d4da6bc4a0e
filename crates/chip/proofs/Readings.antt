-- Which slices are lent in the part's lengths, and which answer the public clock reading gives.
use Rattle.codes.specs.Refusals.{no_refusal}
use Rattle.std.specs.Prelude.{Err}
use Rattle.std.proofs.Common.{◌≡◌, ℕ, true, false, eqb, List, length, sym, refl, eq-eqb, eqb-true}
use Rattle.laws.specs.Pick.{at_no, yes_so, no_so, and_left, and_right, and_both}
use Rattle.codes.specs.Part.{Part}
use Rattle.chip.specs.Ranges.{in_ranges}
use Rattle.chip.specs.Time.{lent_fits, reading_outcome}
use Rattle.chip.specs.declared.Core.{Core}
use Rattle.codes.specs.declared.Refusal.TheVariants.{MemoryLength, RecordRange}

-- slices that fit are as long as the part has it, and the other way round
module _ (P : Part) (size cells : ℕ) where
  pub lent_memory : lent_fits P size cells ≡ true → size ≡ P.size
  lent_memory e = eqb-true _ _ (and_left (eqb size P.size) (eqb cells P.page) e)

  pub lent_identification : lent_fits P size cells ≡ true → cells ≡ P.page
  lent_identification e = eqb-true _ _ (and_right (eqb size P.size) (eqb cells P.page) e)

  pub lent_both : size ≡ P.size → cells ≡ P.page → lent_fits P size cells ≡ true
  lent_both h k = and_both (eqb size P.size) (eqb cells P.page) (eq-eqb _ _ h) (eq-eqb _ _ k)

module _ (P : Part) (c : Core) (m d : List ℕ) where
  pub memory_refused : lent_fits P (length m) (length d) ≡ false → reading_outcome P c m d ≡ Err MemoryLength
  memory_refused h = at_no _ _ h

  pub record_refused : lent_fits P (length m) (length d) ≡ true → in_ranges P c ≡ false → reading_outcome P c m d ≡ Err RecordRange
  record_refused h e = sym (yes_so _ h (no_so _ e refl))

  pub reading_taken : lent_fits P (length m) (length d) ≡ true → in_ranges P c ≡ true → reading_outcome P c m d ≡ no_refusal
  reading_taken h e = sym (yes_so _ h (yes_so _ e refl))

-- Where import answers 12, and what it leaves in each cell where it does not; where export answers 12; and that the M95M01 is the part
-- for which both do.
use mathlib.Core.Path.{◌≡◌, refl, ap, sym, ◌∙◌}
use mathlib.Core.Bool.{Bool, true, false, not, ◌&&◌, true≢false}
use mathlib.Core.Logic.{◌⊎◌, inl, inr}
use mathlib.Core.List.{List}
use Prim.Native.Nat.{ℕ}
use native.Mathlib.Decide.{ℕ_discrete}
use native.Mathlib.Omega.{arith}
use lib.ListN.{length, get_or}
use lib.Dec.{eqb}
use borrow.Author.Tests.{eqb-true}
use Rattle.laws.specs.Pick.{pick, at_no, yes_so, no_so, eq_so, and_both, and_no_left, and_no_right}
use Rattle.codes.specs.Part.{Part, m95512}
use Rattle.codes.proofs.Parts.{of_megabit, of_others}
use Rattle.chip.specs.declared.Core.{Core}
use Rattle.chip.specs.Records.{own_part, running}
use Rattle.chip.specs.Ranges.{in_ranges}
use Rattle.intel_hex.specs.Writing.{HexRecord, image_room}
use Rattle.intel_hex.specs.Reading.{Parted, parted, is_good, laid_records}
use Rattle.intel_hex.specs.Answers.{imaged, export_number, export_output, takes, import_number, import_memory}
use Rattle.intel_hex.proofs.Fronts.{by_test_law}
use Rattle.hex_theorems.specs.Fitting.{Says, last_given}
use Rattle.hex_theorems.proofs.Texts.{good_says, says_parted, says_good}
use Rattle.hex_theorems.proofs.Cells.{laid_cells}

module _ (P : Part) (c : Core) (m t : List ℕ) where
  -- the record's part has no such images, or no records that fit are written as the text, or a cycle runs
  abbrev pub NotTakable : Type 0
  NotTakable = (imaged P c ≡ false) ⊎ (((rs : List HexRecord) → Says P t rs → ⊥) ⊎ (running c ≡ true))

  not_taken : NotTakable → takes P c t ≡ false
  not_taken (inl other) = and_no_left (imaged P c) (not (running c) && is_good P t) other
  not_taken (inr (inl none)) =
      and_no_right (imaged P c) (not (running c) && is_good P t)
      (and_no_right (not (running c)) (is_good P t)
      (by_test_law (is_good P t) (λ e. absurd (none (parted P t).records (good_says P t e))) (λ e. e)))
  not_taken (inr (inr run)) =
      and_no_right (imaged P c) (not (running c) && is_good P t) (and_no_left (not (running c)) (is_good P t) (ap not run))

  -- ---- 12, where 1 and 2 are not

  module _ (long : length m ≡ (own_part c).size) (within : in_ranges (own_part c) c ≡ true) where
    pub twelve : NotTakable → import_number P c m t ≡ 12
    twelve n = sym (eq_so _ long (yes_so _ within (no_so _ (not_taken n) refl)))

    pub twelve_memory : NotTakable → import_memory P c m t ≡ m
    twelve_memory n = sym (eq_so _ long (yes_so _ within (no_so _ (not_taken n) refl)))

    -- ---- else it is done, and each cell has the byte of the last record that names it

    module _ (rs : List HexRecord) (says : Says P t rs) (image : imaged P c ≡ true) (still : running c ≡ false) where
      taken : takes P c t ≡ true
      taken =
          and_both (imaged P c) (not (running c) && is_good P t) image
          (and_both (not (running c)) (is_good P t) (ap not still) (says_good P t rs says))

      pub taken_number : import_number P c m t ≡ 0
      taken_number = sym (eq_so _ long (yes_so _ within (yes_so _ taken refl)))

      pub taken_memory : import_memory P c m t ≡ laid_records rs m
      taken_memory =
          sym (eq_so _ long (yes_so _ within (yes_so _ taken (ap (λ (p : Parted). laid_records p.records m) (sym (says_parted P t rs says))))))

      pub taken_cells : (i : ℕ) → get_or (import_memory P c m t) i 0 ≡ last_given rs i (get_or m i 0)
      taken_cells i =
          ap (λ (l : List ℕ). get_or l i 0) taken_memory ∙ laid_cells P rs m i says.fitting (long ∙ eqb-true _ _ image)

    -- ---- so 12 is answered only there

    pub only_twelve : import_number P c m t ≡ 12 → NotTakable
    only_twelve e =
        by_test_law (imaged P c)
        (λ image. inr (by_test_law (running c) inr (λ still. inl (λ rs says. absurd (no_twelve (sym (taken_number rs says image still) ∙ e))))))
        inl
      where
        no_twelve : ◌≡◌ {A = ℕ} 0 12 → ⊥
        no_twelve q = omega arith

  -- ---- and never before 1 and 2 are looked at

  pub twelve_length : import_number P c m t ≡ 12 → length m ≡ (own_part c).size
  twelve_length e =
      by_test_law (eqb (length m) (own_part c).size) (λ q. eqb-true _ _ q) (λ q. let one : ◌≡◌ {A = ℕ} 1 12 = sym (at_no _ _ q) ∙ e in absurd (omega (arith, one)))

  pub twelve_within : import_number P c m t ≡ 12 → in_ranges (own_part c) c ≡ true
  twelve_within e =
      by_test_law (in_ranges (own_part c) c) (λ q. q)
      (λ q. let two : ◌≡◌ {A = ℕ} 2 12 = eq_so _ (twelve_length e) (no_so _ q refl) ∙ e in absurd (omega (arith, two)))

-- ---- export: 12 exactly where 1 and 2 are not and the record's part has no such images

-- by the four tests in their order
by_tests : (a b i f : Bool) → pick {A = ℕ} a (pick b (pick i (pick f 0 5) 12) 2) 1 ≡ 12 → (a ≡ true) × ((b ≡ true) × (i ≡ false))
unfolding pick
by_tests true true true true e = absurd (omega arith)
by_tests true true true false e = absurd (omega arith)
by_tests true true false f e = (refl, (refl, refl))
by_tests true false i f e = absurd (omega arith)
by_tests false b i f e = absurd (omega arith)

module _ (P : Part) (c : Core) (m d : List ℕ) where
  module _ (long : length m ≡ (own_part c).size) (within : in_ranges (own_part c) c ≡ true) (other : imaged P c ≡ false) where
    pub export_twelve : export_number P c m (length d) ≡ 12
    export_twelve = sym (eq_so _ long (yes_so _ within (no_so _ other refl)))

    -- and nothing is written
    pub export_twelve_output : export_output P c m d ≡ d
    export_twelve_output = sym (eq_so _ long (yes_so _ within (no_so _ other refl)))

  pub only_export_twelve : export_number P c m (length d) ≡ 12
      → (length m ≡ (own_part c).size) × ((in_ranges (own_part c) c ≡ true) × (imaged P c ≡ false))
  only_export_twelve e =
      let t = by_tests (eqb (length m) (own_part c).size) (in_ranges (own_part c) c) (imaged P c) (eqb (length d) (image_room P)) e in
      (eqb-true _ _ t.0, t.1)

-- ---- the parts that have no image of the M95512: exactly the M95M01

module _ (c : Core) where
  pub megabit_other : c.part ≡ 2 → imaged m95512 c ≡ false
  megabit_other e = of_megabit (λ (P : Part). eqb P.size m95512.size ≡ false) e refl

  pub others_imaged : (c.part ≡ 2 → ⊥) → imaged m95512 c ≡ true
  others_imaged n = of_others (λ (P : Part). eqb P.size m95512.size ≡ true) n refl refl

  pub other_megabit : imaged m95512 c ≡ false → c.part ≡ 2
  other_megabit e = elim (ℕ_discrete c.part 2) [
    | yes q ↦ q
    | no q ↦ absurd (true≢false (sym (others_imaged q) ∙ e))
  ]

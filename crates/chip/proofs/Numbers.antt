-- The numbers of document 01, of the answers as they are defined.
use Rattle.codes.specs.Status.{bit}
use Rattle.codes.specs.declared.Refusal.{Refusal}
use Rattle.std.specs.Prelude.{Err, Ok, Result}
use Rattle.codes.specs.Refusals.{value_of, value_by}
use Rattle.std.proofs.Common.{◌≡◌, ℕ, Bool, eqb, ltb, List, length, sym, refl, ap, ◌∙◌}
use Rattle.laws.specs.Pick.{pick, pick_ap, pick_cong}
use Rattle.codes.specs.Part.{Part, part_of, is_part}
use Rattle.codes.specs.Refusals.{number}
use Rattle.chip.specs.Ranges.{cycle_fits, in_ranges}
use Rattle.chip.specs.Questions.{protects, protected_from, lowest_number, lowest_value, protection}
use Rattle.chip.specs.Questions.{question_number, question_value}
use Rattle.chip.specs.Power.{powered_up, power_up_number}
use Rattle.chip.specs.Time.{lent_fits, reading_outcome, reading_number}
use Rattle.chip.specs.declared.Core.{Core}
use Rattle.codes.specs.Refusals.{Outcome}
use Rattle.chip.specs.declared.Answered.{Answered}
use Rattle.codes.specs.declared.Refusal.TheVariants.{RecordRange, AddressRange}

module _ (part : ℕ) (k : Bool) (n : ℕ) (s b a : Bool) (t : ℕ) (m : List ℕ) where
  -- an answer that is the right one has the right number
  pub powered : {r : Answered (Unit {0}) Refusal} → r ≡ powered_up part k n s b a t m
      → record { value : r ≡ powered_up part k n s b a t m; as_number : number r.answer ≡ power_up_number part n m }
  powered e = record {
    value = e;
    as_number = ap its e
        ∙ pick_ap its (eqb (length m) (part_of part).size) _ _
        ∙ pick_cong (eqb (length m) (part_of part).size) 1 (λ h. pick_ap its (is_part part) _ _
        ∙ pick_cong (is_part part) 2 (λ q. pick_ap its (cycle_fits (part_of part) n) _ _));
  }
    where
      its : Answered (Unit {0}) Refusal → ℕ
      its x = number x.answer

module _ (P : Part) (c : Core) (m d : List ℕ) where
  pub reading_number_law : {o : Outcome} → reading_outcome P c m d ≡ o → number o ≡ reading_number P c m d
  reading_number_law e =
      ap number (sym e)
      ∙ pick_ap number (lent_fits P (length m) (length d)) _ _
      ∙ pick_cong (lent_fits P (length m) (length d)) 1 (λ q. pick_ap number (in_ranges P c) _ _)

module _ (P : Part) (c : Core) where
  pub started : {r : Result ℕ Refusal} → r ≡ protected_from P c
      → record {
        value : r ≡ protected_from P c;
        as_number : number r ≡ lowest_number P c;
        as_value : value_of r ≡ lowest_value P c;
      }
  started e = record {
    value = e;
    as_number = ap number e ∙ pick_ap number (in_ranges P c) _ _;
    as_value = ap value_of e ∙ pick_ap value_of (in_ranges P c) _ _;
  }

module _ (P : Part) (c : Core) (a : ℕ) where
  -- a function of the answer, taken through its two refusals
  through : (f : Result Bool Refusal → ℕ) {n : ℕ} → f (Ok (protects P c a)) ≡ n
      → f (protection P c a) ≡ pick (in_ranges P c) (pick (ltb a P.size) n (f (Err AddressRange))) (f (Err RecordRange))
  through f e =
      pick_ap f (in_ranges P c) _ _
      ∙ pick_cong (in_ranges P c) (f (Err RecordRange)) (λ q. pick_ap f (ltb a P.size) _ _
      ∙ pick_cong (ltb a P.size) (f (Err AddressRange)) (λ r. e))

  pub question_number_law : number (protection P c a) ≡ question_number P c a
  question_number_law = through number refl

  pub question_value_law : (value_by bit) (protection P c a) ≡ question_value P c a
  question_value_law = through (value_by bit) refl

  -- an answer that is the right one has the right number and value
  pub answered : {r : Result Bool Refusal} → r ≡ protection P c a
      → record {
        value : r ≡ protection P c a;
        as_number : number r ≡ question_number P c a;
        as_value : (value_by bit) r ≡ question_value P c a;
      }
  answered e = record {
    value = e;
    as_number = ap number e ∙ question_number_law;
    as_value = ap (value_by bit) e ∙ question_value_law;
  }

-- Where protection starts: an address is protected exactly where the lowest protected one is at most it, of the definitions and of the two
-- public answers.
use Rattle.std.proofs.Common.{◌≡◌, ℕ, ◌<◌, ◌≤◌, Bool, true, false, leb, ◌↔◌, sym, ap, ◌∙◌, arith, lt-ltb, le-leb, leb-true}
use Rattle.laws.specs.Pick.{pick, at_yes}
use Rattle.codes.specs.Part.{Part}
use Rattle.codes.specs.Status.{bit, on}
use Rattle.codes.specs.Protect.{lowest_protected}
use Rattle.chip.specs.Ranges.{in_ranges}
use Rattle.chip.specs.Questions.{lowest, protects, lowest_value, question_value}
use Rattle.chip.specs.declared.Core.{Core}

-- no address of the memory lies above it for none
lowest_protected_most : (P : Part) (bp1 bp0 : Bool) → lowest_protected P bp1 bp0 ≤ P.size
unfolding pick
lowest_protected_most P true true = omega arith
lowest_protected_most P true false = omega arith
lowest_protected_most P false true = omega arith
lowest_protected_most P false false = omega arith

module _ (P : Part) (c : Core) where
  pub lowest_most : lowest P c ≤ P.size
  lowest_most = lowest_protected_most P (on c.bp1) (on c.bp0)

  pub protected_exactly : (a : ℕ) → (protects P c a ≡ true) ↔ (lowest P c ≤ a)
  protected_exactly a = (leb-true _ _, le-leb _ _)

  -- the answer for one address, by that where protection starts
  pub answers_agree : (a : ℕ) → in_ranges P c ≡ true → a < P.size → question_value P c a ≡ bit (leb (lowest_value P c) a)
  answers_agree a ranges low =
      at_yes _ _ ranges ∙ at_yes _ _ (lt-ltb _ _ low) ∙ sym (ap (λ (n : ℕ). bit (leb n a)) (at_yes _ _ ranges))

-- What a `?` knows of the test that it follows.
use Rattle.std.specs.Prelude.{Bool, true, false, Err, ◌≡◌}
use Rattle.std.proofs.Common.{refl, sym, ◌∙◌}
use Rattle.laws.specs.Pick.{pick}
use Rattle.codes.specs.declared.Refusal.{Refusal}
use Rattle.codes.specs.Refusals.{Outcome, no_refusal}

by_test : (t : Bool) (r : Refusal) → pick t no_refusal (Err r) ≡ no_refusal → t ≡ true
unfolding pick
by_test true r e = refl
by_test false r e = absurd cc

by_other : (t : Bool) (r : Refusal) {f : Refusal} → pick t no_refusal (Err r) ≡ Err f → (t ≡ false) × (f ≡ r)
unfolding pick
by_other true r e = absurd cc
by_other false r e = (refl, cc)

module _ (t : Bool) (r : Refusal) {o : Outcome} (e : o ≡ pick t no_refusal (Err r)) where
  pub passed : o ≡ no_refusal → t ≡ true
  passed h = by_test t r (sym e ∙ h)

  pub stopped : {f : Refusal} → o ≡ Err f → (t ≡ false) × (f ≡ r)
  stopped h = by_other t r (sym e ∙ h)

-- An array made by a closure of the index, as `array::from_fn` makes it, is the table of what the closure computes.
use Prim.Native.Nat.{ℕ, zero, suc, ◌+◌, ◌<◌, ◌≤◌}
use mathlib.Core.List.{List}
use mathlib.Core.Path.{◌≡◌, sym, ap, subst, ◌∙◌}
use native.Mathlib.Decide.{ℕ_discrete}
use native.Mathlib.Omega.{arith}
use lib.ListN.{get_or}
use denote.Param.Members.{Mut, Called}
use Rattle.std.specs.Array.{IsFromFnResult, IsFromFnResultFrom}
use Rattle.laws.specs.Table.{table, table_is}

module _ {F : Type 0} (g : Mut F (ℕ × Unit {0}) ℕ) (f : F) (h : ℕ → ℕ) (xs : List ℕ)
    (acts : (i x : ℕ) (q : F) → Called g f (i, tt) x q → (q ≡ f) × (x ≡ h i)) where
  made_at : (i n k : ℕ) → IsFromFnResultFrom g f xs i n → i ≤ k → k < i + n → get_or xs k 0 ≡ h k
  made_at i zero k m a b = absurd (omega arith)
  made_at i (suc n) k m a b =
      let done = acts i m.1 m.0 m.3 in
      elim (ℕ_discrete k i) [
        | yes e ↦ ap (λ (j : ℕ). get_or xs j 0) e ∙ m.2.1 0 ∙ done.1 ∙ ap h (sym e)
        | no e ↦
            made_at (i + 1) n k (subst (λ p. IsFromFnResultFrom g p xs (i + 1) n) done.0 m.4)
            (omega arith) (omega arith)
      ]

  pub made_table : (n : ℕ) → IsFromFnResult g f xs n → xs ≡ table n h
  made_table n made = table_is h xs n 0 made.long (λ i b. made_at 0 n i made.each (omega arith) (omega arith))

-- Lengths that go together, one by one, and back.
use mathlib.Core.Path.{◌≡◌}
use mathlib.Core.Bool.{true}
use Prim.Native.Nat.{ℕ, ◌≤◌}
use lib.Dec.{eqb, leb}
use borrow.Author.Tests.{eq-eqb, le-leb, eqb-true, leb-true}
use Rattle.laws.specs.And.{and_5_out, and_5_in}
use Rattle.codes.specs.Part.{Part}
use Rattle.fields.specs.Counts.{bits_fit, longest_frame}
use Rattle.shown.specs.Lengths.{lengths_fit}

module _ (P : Part) (size cells len n room : ℕ) where
  pub lengths_out : lengths_fit P size cells len n room ≡ true
      → ((size ≡ P.size) × (cells ≡ P.page)) × ((len ≤ longest_frame P) × ((bits_fit len n ≡ true) × (room ≡ len)))
  lengths_out e =
      let t = and_5_out (eqb size P.size) (eqb cells P.page) (leb len (longest_frame P)) (bits_fit len n) (eqb room len) e in
      ((eqb-true _ _ t.0, eqb-true _ _ t.1.0), (leb-true _ _ t.1.1.0, (t.1.1.1.0, eqb-true _ _ t.1.1.1.1)))

  pub lengths_in : size ≡ P.size → cells ≡ P.page → len ≤ longest_frame P → bits_fit len n ≡ true → room ≡ len → lengths_fit P size cells len n room ≡ true
  lengths_in whole page short counted roomy =
      and_5_in (eqb size P.size) (eqb cells P.page) (leb len (longest_frame P)) (bits_fit len n) (eqb room len)
      (eq-eqb _ _ whole) (eq-eqb _ _ page) (le-leb _ _ short) counted (eq-eqb _ _ roomy)

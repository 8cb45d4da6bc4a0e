-- From one position to the next come the readings at it, where no position falls; and where no cycle ran at the eighth edge, cells, status and lock stay.
use Prim.Native.Nat.{ℕ, suc, ◌≤◌, ◌<◌}
use mathlib.Core.Bool.{true, ◌&&◌}
use mathlib.Core.List.{List, [], ◌∷◌}
use mathlib.Core.Path.{◌≡◌, refl, sym, ap, ap₂, ◌∙◌}
use native.Mathlib.Omega.{arith}
use native.Mathlib.Decide.{ℕ_discrete, dec_le}
use lib.Dec.{leb}
use lib.ListN.{length, take}
use borrow.Author.Tests.{lt-ltb, le-ltb, leb-true, eq-eqb, ne_eqb}
use Rattle.laws.specs.Pick.{at_yes, at_no, and_left, and_right}
use Rattle.codes.specs.Part.{Part}
use Rattle.frames.specs.Play.{reading, FrameBench, acted}
use Rattle.timed_frames.specs.Schedules.{rising, due, passed, bench_at}
use Rattle.agree.specs.Drawings.{readings_at}

module _ (most : ℕ) where
  first_low : (low p : ℕ) (ps : List ℕ) → rising low most (p ∷ ps) ≡ true → low ≤ p
  unfolding rising
  first_low low p ps e =
      leb-true low p (and_left (leb low p) (leb p most) (and_left (leb low p && leb p most) (rising p most ps) e))

  rest_rises : (low p : ℕ) (ps : List ℕ) → rising low most (p ∷ ps) ≡ true → rising p most ps ≡ true
  unfolding rising
  rest_rises low p ps e = and_right (leb low p && leb p most) (rising p most ps) e

  -- none is due up to the lowest position
  due_early : (low k : ℕ) (ps : List ℕ) → rising low most ps ≡ true → k ≤ low → due k ps ≡ 0
  unfolding due
  due_early low k [] e l = refl
  due_early low k (p ∷ ps) e l = at_no _ _ (le-ltb p k (omega (arith, first_low low p ps e)))

  none_early : (low k : ℕ) (ps ts : List ℕ) → rising low most ps ≡ true → k < low → readings_at ps ts k ≡ []
  unfolding readings_at
  none_early low k [] ts e l = refl
  none_early low k (p ∷ ps) [] e l = refl
  none_early low k (p ∷ ps) (t ∷ ts) e l =
      let far = first_low low p ps e in
      at_no _ _ (ne_eqb p k (λ q. omega arith)) ∙ none_early p k ps ts (rest_rises low p ps e) (omega arith)

  module _ (P : Part) where
    -- the first reading came before k, comes at k, or comes later
    pub bench_next : (low k : ℕ) (ps ts : List ℕ) (b : FrameBench) → length ps ≡ length ts → rising low most ps ≡ true
        → passed P (readings_at ps ts k) (bench_at P ps ts b k) ≡ bench_at P ps ts b (suc k)
    unfolding readings_at due passed
    bench_next low k [] ts b l e = refl
    bench_next low k (p ∷ ps) [] b l e = absurd (omega arith)
    bench_next low k (p ∷ ps) (t ∷ ts) b l e =
        by_place (dec_le k p) (ℕ_discrete p k) (bench_next p k ps ts (acted P (reading t) b) (omega arith) rises)
      where
        rises : rising p most ps ≡ true
        rises = rest_rises low p ps e

        told : FrameBench
        told = acted P (reading t) b

        later : List ℕ
        later = readings_at ps ts k

        -- its part of the lists at k and at k + 1
        now : List ℕ → ℕ → FrameBench
        now l n = passed P l (passed P (take n (t ∷ ts)) b)

        then : p < suc k → passed P (take (due (suc k) ps) ts) told ≡ bench_at P (p ∷ ps) (t ∷ ts) b (suc k)
        then h = sym (ap (λ n. passed P (take n (t ∷ ts)) b) (at_yes _ _ (lt-ltb p (suc k) h)))

        by_place : Dec (k ≤ p) → Dec (p ≡ k) → passed P later (bench_at P ps ts told k) ≡ bench_at P ps ts told (suc k)
            → passed P (readings_at (p ∷ ps) (t ∷ ts) k) (bench_at P (p ∷ ps) (t ∷ ts) b k) ≡ bench_at P (p ∷ ps) (t ∷ ts) b (suc k)
        by_place (no h) q ih =
            let below : p < k = omega (arith, h) in
            ap₂ now (at_no _ _ (ne_eqb p k (λ z. omega (arith, below, z)))) (at_yes _ _ (lt-ltb p k below)) ∙ ih ∙ then (omega arith)
        by_place (yes h) (yes q) ih =
            ap₂ now (at_yes _ _ (eq-eqb p k q)) (at_no _ _ (le-ltb p k h))
            ∙ sym (ap (λ n. passed P later (passed P (take n ts) told)) (due_early p k ps rises h)) ∙ ih ∙ then (omega (arith, q))
        by_place (yes h) (no q) ih =
            let above : k < p = omega (arith, h, q) in
            ap₂ now (at_no _ _ (ne_eqb p k q)) (at_no _ _ (le-ltb p k h))
            ∙ ap (λ l. passed P l b) (none_early p k ps ts rises above)
            ∙ sym (ap (λ n. passed P (take n (t ∷ ts)) b) (at_no _ _ (le-ltb p (suc k) above)))

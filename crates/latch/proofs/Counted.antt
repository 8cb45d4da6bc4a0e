-- The ones of a row of words, added up as an iterator's `sum` does.
use Prim.Native.Nat.{ℕ, zero, suc, ◌+◌, ◌*◌, ◌≤◌}
use mathlib.Core.List.{List}
use mathlib.Core.Path.{◌≡◌, refl, sym, ap, ◌∙◌}
use native.Mathlib.Omega.{arith}
use lib.ListN.{length, get_or, take}
use Rattle.std.proofs.Common.{take_all}
use Rattle.std.proofs.lemmas.List.Sums.{sum_by_more}
use Rattle.std.specs.Int.Count.{ones}
use Rattle.std.specs.List.{sum_by}
use Rattle.laws.specs.Bits.{bit_on, ones_count}
use Rattle.laws.specs.Count.{count, count_le}
use Rattle.laws.specs.Marks.{Wide, ones_of}

-- the first n words
first_ones : (n : ℕ) (ws : List ℕ) → n ≤ length ws → sum_by ones (take n ws) ≡ ones_of n ws
unfolding ones_of
first_ones zero ws h = refl
first_ones (suc n) ws h =
    let next : suc n ≡ n + 1 = omega arith in
    ap (λ (k : ℕ). sum_by ones (take k ws)) next
    ∙ sum_by_more ones ws n 0 (omega arith)
    ∙ ap (λ (x : ℕ). x + ones (get_or ws n 0)) (first_ones n ws (omega arith))

pub ones_sum : (n : ℕ) (ws : List ℕ) → length ws ≡ n → sum_by ones ws ≡ ones_of n ws
ones_sum n ws e = sym (ap (sum_by ones) (take_all n ws (omega arith))) ∙ first_ones n ws (omega arith)

few_ones : (n : ℕ) (ws : List ℕ) → Wide n ws → ones_of n ws ≤ n * 64
unfolding ones_of
few_ones zero ws w = omega arith
few_ones (suc n) ws w =
    let one : ones (get_or ws n 0) ≡ count (bit_on (get_or ws n 0)) 64 = ones_count 64 (get_or ws n 0) (w n (omega arith)) in
    omega (arith, one, few_ones n ws (λ j h. w j (omega arith)), count_le (bit_on (get_or ws n 0)) 64)

pub ones_few : (n : ℕ) (ws : List ℕ) → length ws ≡ n → Wide n ws → sum_by ones ws ≤ n * 64
ones_few n ws e w = omega (arith, ones_sum n ws e, few_ones n ws w)

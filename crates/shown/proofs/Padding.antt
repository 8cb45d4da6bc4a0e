-- Low bits set to 1, at every width; and the bits past the count, in the last byte of an output.
use mathlib.Core.Path.{◌≡◌, ap, sym, ◌∙◌}
use Prim.Native.Nat.{ℕ, ◌+◌, ◌*◌, ◌-◌, ◌/◌, ◌%◌, ◌^◌, ◌<◌, ◌≤◌}
use native.Mathlib.Nat.{mod-lt, mod-eq_of_lt, zero-mul, zero-add, one-mul}
use native.Mathlib.Omega.{arith}
use native.Mathlib.Decide.{ℕ_discrete}
use mathlib.Core.Bool.{true}
use lib.ListN.{length, get_or}
use lib.Dec.{eqb, leb}
use borrow.Author.Tests.{eq-eqb, ne_eqb, eqb-true, leb-true}
use Rattle.laws.specs.Pick.{pick, at_yes, at_no, and_left, and_right}
use Rattle.laws.specs.Table.{table, table_length, table_at, table_cong}
use lib.Pow.{pow_pos, pow-lt, split, ones_lt}
use lib.Bits.{bit_and, bit_or, or_block, or_zero_r, or_add_and, and_mask}
use Rattle.shown.specs.Shown.{padded, padded_at}
use Rattle.fields.specs.Counts.{bits_fit}

-- all the low bits of a number below 2 ^ u
ones_or : (u r : ℕ) → r < 2 ^ u → bit_or r (2 ^ u - 1) ≡ 2 ^ u - 1
ones_or u r h =
    let all : bit_or r (2 ^ u - 1) + bit_and r (2 ^ u - 1) ≡ r + (2 ^ u - 1) = or_add_and r (2 ^ u - 1) in
    let same : bit_and r (2 ^ u - 1) ≡ r = and_mask r u ∙ mod-eq_of_lt h in
    omega arith

pub padded_or : (u v : ℕ) → bit_or v (2 ^ u - 1) ≡ padded u v
padded_or u v =
    let q = v / 2 ^ u in
    let r = v % 2 ^ u in
    let small : r < 2 ^ u = mod-lt v (pow_pos u) in
    ap (λ (x : ℕ). bit_or x (2 ^ u - 1)) (sym (split v u))
    ∙ ap (bit_or (q * 2 ^ u + r)) (sym (ap (λ (x : ℕ). x + (2 ^ u - 1)) (zero-mul (2 ^ u)) ∙ zero-add (2 ^ u - 1)))
    ∙ or_block u q 0 r (2 ^ u - 1) small (ones_lt u)
    ∙ ap (λ (x : ℕ). x * 2 ^ u + bit_or r (2 ^ u - 1)) (or_zero_r q)
    ∙ ap (λ (x : ℕ). q * 2 ^ u + x) (ones_or u r small)

-- one bit, shifted up within a byte
pub one_bit : (u : ℕ) → u < 8 → 1 * 2 ^ u % 256 ≡ 2 ^ u
one_bit u h = rw one-mul (mod-eq_of_lt (pow-lt {j = 8} h))

-- ---- the bits past the count

-- fewer than eight
pub few_unused : (len n : ℕ) → bits_fit len n ≡ true → (n ≤ 8 * len) × (8 * len - n < 8)
few_unused len n e = elim (ℕ_discrete len 0) [
  | yes h ↦
      let none : n ≡ 0 = eqb-true n 0 (sym (at_yes _ _ (eq-eqb len 0 h)) ∙ e) in
      (omega arith, omega arith)
  | no h ↦
      let fits = sym (at_no _ _ (ne_eqb len 0 h)) ∙ e in
      let low : 8 * len - 7 ≤ n = leb-true (8 * len - 7) n (and_left (leb (8 * len - 7) n) (leb n (8 * len)) fits) in
      let high : n ≤ 8 * len = leb-true n (8 * len) (and_right (leb (8 * len - 7) n) (leb n (8 * len)) fits) in
      (high, omega arith)
]

-- an output whose last byte is padded
pub padded_last : (f : ℕ → ℕ) (k n : ℕ)
    → table (length (table k f)) (λ j. pick (eqb (j + 1) (length (table k f))) (padded (8 * k - n) (get_or (table k f) j 0)) (get_or (table k f) j 0))
    ≡ table k (λ j. padded_at k n j (f j))
padded_last f k n = rw (table_length f k) (table_cong _ _ k 0 (λ j b. ap (padded_at k n j) (table_at f k j 0 b)))

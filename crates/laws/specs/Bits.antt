-- Bit j of a word: what it is in an or, in an and, in a power of two, in no ones, in all ones and in a run of ones; the
-- ones of a word as the count of its bits; two words that agree bit by bit are equal. No law names a width but as a
-- bound.
use Rattle.std.specs.Prelude.{ℕ, zero, suc, ◌+◌, ◌-◌, ◌*◌, ◌/◌, ◌%◌, ◌^◌, ◌<◌, ◌≤◌, min, max, Bool, true, false, ◌&&◌, ◌||◌, ◌≡◌, refl, eqb}
use Rattle.std.proofs.Common.{sym, ap, ap₂, ◌∙◌, pow-suc, mul_comm, div-one, mul-div_cancel, mod-eq_of_lt, div-add-mod', arith, pow_pos, eq-eqb}
use Rattle.std.proofs.Math.Nat.{div-div-eq-div-mul, zero-div, mul-mod_left, mul-add-mod_self_right}
use Rattle.std.proofs.Math.Dec.{eqb-zero-suc, eqb-suc-zero, eqb-suc-suc}
use Rattle.std.proofs.Math.Arith.{bin_ind, lt-one}
use Rattle.std.specs.Int.Bits.{bit_and, bit_or, and_step, or_step}
use Rattle.std.proofs.lemmas.Nat.{and_shr, or_shr, and_mask}
use Rattle.std.specs.Int.Count.{ones, ones_step}
use Rattle.laws.specs.Flags.{bit, on, bit_on_law}
use Rattle.laws.specs.Count.{count, count_cong, count_front}

-- bit k of a word, as a number
abbrev pub bit_of : ℕ → ℕ → ℕ
bit_of k w = w / 2 ^ k % 2

-- and as a test
unfoldable pub bit_on : ℕ → ℕ → Bool
bit_on w j = on (bit_of j w)

-- a shift and a mask read it
pub masked_bit : (k w : ℕ) → bit_and (w / 2 ^ k) 1 ≡ bit_of k w
masked_bit k w = and_mask (w / 2 ^ k) 1

pub bit_read : (w j : ℕ) → eqb (bit_and (w / 2 ^ j) 1) 1 ≡ bit_on w j
unfolding bit_on
bit_read w j = ap on (masked_bit j w)

-- ---- one bit at a time

pub bit_first : (w : ℕ) → bit_on w 0 ≡ eqb (w % 2) 1
unfolding bit_on
bit_first w = ap (λ (x : ℕ). eqb (x % 2) 1) (div-one w)

pub bit_next : (w j : ℕ) → bit_on w (suc j) ≡ bit_on (w / 2) j
unfolding bit_on
bit_next w j =
    ap (λ (x : ℕ). eqb (x % 2) 1)
    (ap (λ (x : ℕ). w / x) (pow-suc 2 j ∙ mul_comm (2 ^ j) 2) ∙ sym (div-div-eq-div-mul w 2 (2 ^ j)))

-- half of a word
half_below : (k : ℕ) {w : ℕ} → w < 2 ^ suc k → w / 2 < 2 ^ k
half_below k {w} h =
    let g : w < 2 ^ k * 2 = rw pow-suc at h in
    omega arith

-- ---- no ones, all ones, one one

pub bit_none : (j : ℕ) → bit_on 0 j ≡ false
unfolding bit_on
bit_none j = ap (λ (x : ℕ). eqb (x % 2) 1) (zero-div (2 ^ j))

pub bit_full : (k j : ℕ) → j < k → bit_on (2 ^ k - 1) j ≡ true
bit_full zero j h = absurd (omega arith)
bit_full (suc k) zero h =
    let p = pow_pos k in
    let odd : (2 ^ k * 2 - 1) % 2 ≡ 1 = omega arith in
    bit_first (2 ^ suc k - 1) ∙ eq-eqb _ _ (ap (λ (x : ℕ). (x - 1) % 2) (pow-suc 2 k) ∙ odd)
bit_full (suc k) (suc j) h =
    let p = pow_pos k in
    let half : (2 ^ k * 2 - 1) / 2 ≡ 2 ^ k - 1 = omega arith in
    bit_next (2 ^ suc k - 1) j
    ∙ ap (λ (x : ℕ). bit_on x j) (ap (λ (x : ℕ). (x - 1) / 2) (pow-suc 2 k) ∙ half)
    ∙ bit_full k j (omega arith)

pub bit_power : (b j : ℕ) → bit_on (2 ^ b) j ≡ eqb j b
bit_power zero zero = bit_first 1
bit_power zero (suc j) = bit_next 1 j ∙ bit_none j ∙ sym (eqb-suc-zero j)
bit_power (suc b) zero =
    bit_first (2 ^ suc b)
    ∙ ap (λ (x : ℕ). eqb x 1) (ap (λ (x : ℕ). x % 2) (pow-suc 2 b) ∙ mul-mod_left (2 ^ b) 2)
    ∙ sym (eqb-zero-suc b)
bit_power (suc b) (suc j) =
    bit_next (2 ^ suc b) j
    ∙ ap (λ (x : ℕ). bit_on x j) (ap (λ (x : ℕ). x / 2) (pow-suc 2 b) ∙ mul-div_cancel (2 ^ b) (omega arith))
    ∙ bit_power b j
    ∙ sym (eqb-suc-suc j b)

-- ---- a run of ones, from bit a up to bit b

-- the run moved down by a bit
run_half : (a b : ℕ) → (2 ^ suc b - 2 ^ suc a) / 2 ≡ 2 ^ b - 2 ^ a
run_half a b = rw (pow-suc 2 b, pow-suc 2 a) (omega arith)

pub bit_run_in : (a b j : ℕ) → a ≤ j → j < b → bit_on (2 ^ b - 2 ^ a) j ≡ true
bit_run_in a zero j h k = absurd (omega arith)
bit_run_in zero (suc b) j h k = bit_full (suc b) j k
bit_run_in (suc a) (suc b) zero h k = absurd (omega arith)
bit_run_in (suc a) (suc b) (suc j) h k =
    bit_next (2 ^ suc b - 2 ^ suc a) j
    ∙ ap (λ (x : ℕ). bit_on x j) (run_half a b)
    ∙ bit_run_in a b j (omega arith) (omega arith)

pub bit_run_before : (a b j : ℕ) → j < a → bit_on (2 ^ b - 2 ^ a) j ≡ false
bit_run_before zero b j h = absurd (omega arith)
bit_run_before (suc a) zero j h =
    let p = pow_pos (suc a) in
    let none : 2 ^ 0 - 2 ^ suc a ≡ 0 = omega arith in
    ap (λ (x : ℕ). bit_on x j) none ∙ bit_none j
bit_run_before (suc a) (suc b) zero h =
    let even : (2 ^ suc b - 2 ^ suc a) % 2 ≡ 0 = rw (pow-suc 2 b, pow-suc 2 a) (omega arith) in
    bit_first (2 ^ suc b - 2 ^ suc a) ∙ ap (λ (x : ℕ). eqb x 1) even
bit_run_before (suc a) (suc b) (suc j) h =
    bit_next (2 ^ suc b - 2 ^ suc a) j
    ∙ ap (λ (x : ℕ). bit_on x j) (run_half a b)
    ∙ bit_run_before a b j (omega arith)

-- a word below 2 ^ b has no bit from b on
pub bit_past : (b w j : ℕ) → w < 2 ^ b → b ≤ j → bit_on w j ≡ false
bit_past zero w j h k = ap (λ (x : ℕ). bit_on x j) (lt-one h) ∙ bit_none j
bit_past (suc b) w zero h k = absurd (omega arith)
bit_past (suc b) w (suc j) h k = bit_next w j ∙ bit_past b (w / 2) j (half_below b h) (omega arith)

pub bit_run_after : (a b j : ℕ) → b ≤ j → bit_on (2 ^ b - 2 ^ a) j ≡ false
bit_run_after a b j h =
    let p = pow_pos a in
    let q = pow_pos b in
    bit_past b (2 ^ b - 2 ^ a) j (omega arith) h

-- ---- or

max_bit : (x y : ℕ) → x < 2 → y < 2 → eqb (max x y) 1 ≡ (eqb x 1 || eqb y 1)
max_bit zero zero h k = refl
max_bit zero (suc zero) h k = refl
max_bit (suc zero) zero h k = refl
max_bit (suc zero) (suc zero) h k = refl
max_bit zero (suc (suc y)) h k = absurd (omega arith)
max_bit (suc zero) (suc (suc y)) h k = absurd (omega arith)
max_bit (suc (suc x)) y h k = absurd (omega arith)

or_odd : (w v : ℕ) → bit_or w v % 2 ≡ max (w % 2) (v % 2)
or_odd w v =
    ap (λ (x : ℕ). x % 2) (or_step w v)
    ∙ mul-add-mod_self_right (bit_or (w / 2) (v / 2)) 2 (max (w % 2) (v % 2))
    ∙ mod-eq_of_lt (omega arith)

or_half : (w v : ℕ) → bit_or w v / 2 ≡ bit_or (w / 2) (v / 2)
or_half w v = or_shr w v 1

pub bit_or_law : (w v j : ℕ) → bit_on (bit_or w v) j ≡ (bit_on w j || bit_on v j)
unfolding bit_on
bit_or_law w v j =
    ap (λ (x : ℕ). eqb (x % 2) 1) (or_shr w v j)
    ∙ ap (λ (x : ℕ). eqb x 1) (or_odd (w / 2 ^ j) (v / 2 ^ j))
    ∙ max_bit (w / 2 ^ j % 2) (v / 2 ^ j % 2) (omega arith) (omega arith)

-- one more bit set
pub bit_set : (w b j : ℕ) → bit_on (bit_or w (2 ^ b)) j ≡ (bit_on w j || eqb j b)
bit_set w b j = bit_or_law w (2 ^ b) j ∙ ap (λ t. bit_on w j || t) (bit_power b j)

-- ---- and

min_bit : (x y : ℕ) → x < 2 → y < 2 → eqb (min x y) 1 ≡ (eqb x 1 && eqb y 1)
min_bit zero zero h k = refl
min_bit zero (suc zero) h k = refl
min_bit zero (suc (suc y)) h k = absurd (omega arith)
min_bit (suc zero) zero h k = refl
min_bit (suc zero) (suc zero) h k = refl
min_bit (suc zero) (suc (suc y)) h k = absurd (omega arith)
min_bit (suc (suc x)) y h k = absurd (omega arith)

and_odd : (w v : ℕ) → bit_and w v % 2 ≡ min (w % 2) (v % 2)
and_odd w v = ap (λ (x : ℕ). x % 2) (and_step w v) ∙ omega arith

pub bit_and_law : (w v j : ℕ) → bit_on (bit_and w v) j ≡ (bit_on w j && bit_on v j)
unfolding bit_on
bit_and_law w v j =
    ap (λ (x : ℕ). eqb (x % 2) 1) (and_shr w v j)
    ∙ ap (λ (x : ℕ). eqb x 1) (and_odd (w / 2 ^ j) (v / 2 ^ j))
    ∙ min_bit (w / 2 ^ j % 2) (v / 2 ^ j % 2) (omega arith) (omega arith)

-- ---- the ones of a word are its bits, counted

ones_none : ones 0 ≡ 0
unfolding ones
ones_none = refl

pub ones_count : (k w : ℕ) → w < 2 ^ k → ones w ≡ count (bit_on w) k
unfolding count
ones_count zero w h = ap ones (lt-one h) ∙ ones_none
ones_count (suc k) w h =
    ones_step w
    ∙ ap₂ ◌+◌ (bit_on_law (w % 2) (omega arith) ∙ ap bit (sym (bit_first w)))
    (ones_count k (w / 2) (half_below k h)
    ∙ count_cong (bit_on (w / 2)) (λ j. bit_on w (suc j)) k (λ j b. sym (bit_next w j)))
    ∙ sym (count_front (bit_on w) k)

-- ---- bit by bit

digit_same : (x y : ℕ) → x < 2 → y < 2 → eqb x 1 ≡ eqb y 1 → x ≡ y
digit_same x y h k e = bit_on_law x (omega arith) ∙ ap bit e ∙ sym (bit_on_law y (omega arith))

pub bit_ext : (k w v : ℕ) → w < 2 ^ k → v < 2 ^ k → ((j : ℕ) → j < k → bit_on w j ≡ bit_on v j) → w ≡ v
bit_ext zero w v h h' f = lt-one h ∙ sym (lt-one h')
bit_ext (suc k) w v h h' f =
    sym (div-add-mod' w 2)
    ∙ ap₂ (λ (x y : ℕ). x * 2 + y)
    (bit_ext k (w / 2) (v / 2) (half_below k h) (half_below k h')
    (λ j b. sym (bit_next w j) ∙ f (suc j) (omega arith) ∙ bit_next v j))
    (digit_same (w % 2) (v % 2) (omega arith) (omega arith) (sym (bit_first w) ∙ f 0 (omega arith) ∙ bit_first v))
    ∙ div-add-mod' v 2

-- no bit set below the width: the word is 0
pub bit_zero : (k w : ℕ) → w < 2 ^ k → ((j : ℕ) → j < k → bit_on w j ≡ false) → w ≡ 0
bit_zero k w h f = bit_ext k w 0 h (pow_pos k) (λ j b. f j b ∙ sym (bit_none j))

-- ---- grouping of or

max_assoc : (x y z : ℕ) → max (max x y) z ≡ max x (max y z)
max_assoc x y z = omega arith

pub or_assoc : (a b c : ℕ) → bit_or (bit_or a b) c ≡ bit_or a (bit_or b c)
or_assoc a =
    bin_ind (λ (n : ℕ). (b c : ℕ) → bit_or (bit_or n b) c ≡ bit_or n (bit_or b c)) (λ b c. refl)
    (λ n ih b c.
    or_step (bit_or n b) c
    ∙ ap₂ (λ (x y : ℕ). bit_or x (c / 2) * 2 + max y (c % 2)) (or_half n b) (or_odd n b)
    ∙ ap₂ (λ (x y : ℕ). x * 2 + y) (ih (b / 2) (c / 2)) (max_assoc (n % 2) (b % 2) (c % 2))
    ∙ sym (ap₂ (λ (x y : ℕ). bit_or (n / 2) x * 2 + max (n % 2) y) (or_half b c) (or_odd b c))
    ∙ sym (or_step n (bit_or b c))) a

-- What `decimal` gives of a number below ten million (line numbers end at 1,000,001): digits that say the number, the first of them not 0, but for the number
-- 0, which is one digit.
use mathlib.Core.Path.{◌≡◌, refl, ap, sym, ◌∙◌}
use mathlib.Core.Bool.{Bool, true, ◌&&◌, and_assoc}
use mathlib.Core.List.{List, [], ◌∷◌, ◌++◌}
use Prim.Native.Nat.{ℕ, zero, suc, ◌+◌, ◌*◌, ◌-◌, ◌/◌, ◌%◌, ◌^◌, ◌<◌, ◌≤◌}
use native.Mathlib.Nat.{pow-suc}
use native.Mathlib.Omega.{arith}
use lib.ListN.{length, get_or, length-append, get_or-append}
use lib.Dec.{leb, ltb}
use borrow.Author.Tests.{le-leb, lt-ltb, ltb-true, ltb-false}
use Rattle.laws.specs.Pick.{pick, pick_case, and_both}
use Rattle.laws.specs.And.{and_3_in}
use Rattle.printing.specs.Digits.{digits, places, decimal, said_by, all_digits}

-- ---- the last k digits of a number that has no more

said_end : (v : ℕ) (l : List ℕ) (b : ℕ) → said_by v (l ++ (b ∷ [])) ≡ said_by v l * 10 + (b - 48)
unfolding said_by
said_end v [] b = refl
said_end v (c ∷ l) b = said_end (v * 10 + (c - 48)) l b

digits_say_law : (k n : ℕ) → n < 10 ^ k → said_by 0 (digits k n) ≡ n
unfolding digits said_by
digits_say_law zero n h = omega arith
digits_say_law (suc k) n h =
    said_end 0 (digits k (n / 10)) (48 + n % 10) ∙ rw (digits_say_law k (n / 10) (omega (arith, pow-suc 10 k))) (omega arith)

all_both : (l k : List ℕ) → all_digits (l ++ k) ≡ (all_digits l && all_digits k)
all_both [] k = refl
all_both (b ∷ l) k = ap (λ (t : Bool). (leb 48 b && leb b 57) && t) (all_both l k) ∙ sym (and_assoc (leb 48 b && leb b 57) (all_digits l) (all_digits k))

digits_all : (k n : ℕ) → all_digits (digits k n) ≡ true
unfolding digits
digits_all zero n = refl
digits_all (suc k) n =
    all_both (digits k (n / 10)) ((48 + n % 10) ∷ [])
    ∙ and_both (all_digits (digits k (n / 10))) (all_digits ((48 + n % 10) ∷ [])) (digits_all k (n / 10))
    (and_3_in (leb 48 (48 + n % 10)) (leb (48 + n % 10) 57) true (le-leb 48 (48 + n % 10) (omega arith)) (le-leb (48 + n % 10) 57 (omega arith)) refl)

digits_length : (k n : ℕ) → length (digits k n) ≡ k
unfolding digits
digits_length zero n = refl
digits_length (suc k) n = length-append (digits k (n / 10)) ((48 + n % 10) ∷ []) ∙ rw (digits_length k (n / 10)) (omega arith)

first_above : (k n : ℕ) → 10 ^ k ≤ n → n < 10 ^ suc k → 49 ≤ get_or (digits (suc k) n) 0 0
unfolding digits
first_above zero n l h = omega arith
first_above (suc k) n l h =
    let rest = digits (suc k) (n / 10) in
    let some : 0 < length rest = rw (digits_length (suc k) (n / 10)) (omega arith) in
    rw (get_or-append rest ((48 + n % 10) ∷ []) 0 0 some) (first_above k (n / 10) (omega (arith, pow-suc 10 k)) (omega (arith, pow-suc 10 (suc k))))

-- ---- as many digits as the number has

enough : (n : ℕ) → n < 10000000 → n < 10 ^ places n
enough n h =
    let P : ℕ → Type 0 = λ k. n < 10 ^ k in
    pick_case P (ltb n 10) (λ e. ltb-true n 10 e)
    (λ _. pick_case P (ltb n 100) (λ e. ltb-true n 100 e)
    (λ _. pick_case P (ltb n 1000) (λ e. ltb-true n 1000 e)
    (λ _. pick_case P (ltb n 10000) (λ e. ltb-true n 10000 e)
    (λ _. pick_case P (ltb n 100000) (λ e. ltb-true n 100000 e) (λ _. pick_case P (ltb n 1000000) (λ e. ltb-true n 1000000 e) (λ _. h))))))

no_more : (n : ℕ) → 10 ≤ n → (k : ℕ) × ((places n ≡ suc k) × (10 ^ k ≤ n))
no_more n h =
    let P : ℕ → Type 0 = λ p. (k : ℕ) × ((p ≡ suc k) × (10 ^ k ≤ n)) in
    pick_case P (ltb n 10) (λ e. absurd (omega (arith, ltb-true n 10 e)))
    (λ a. pick_case P (ltb n 100) (λ _. (1, (refl, ltb-false n 10 a)))
    (λ b. pick_case P (ltb n 1000) (λ _. (2, (refl, ltb-false n 100 b)))
    (λ c. pick_case P (ltb n 10000) (λ _. (3, (refl, ltb-false n 1000 c)))
    (λ d. pick_case P (ltb n 100000) (λ _. (4, (refl, ltb-false n 10000 d)))
    (λ e. pick_case P (ltb n 1000000) (λ _. (5, (refl, ltb-false n 100000 e))) (λ f. (6, (refl, ltb-false n 1000000 f))))))))

-- ---- the law

pub decimal_says : (n : ℕ) → n < 10000000 → said_by 0 (decimal n) ≡ n
unfolding decimal
decimal_says n h = digits_say_law (places n) n (enough n h)

pub decimal_digits : (n : ℕ) → all_digits (decimal n) ≡ true
unfolding decimal
decimal_digits n = digits_all (places n) n

-- from 10 on the first digit is not 0
pub decimal_first : (n : ℕ) → 10 ≤ n → n < 10000000 → 48 < get_or (decimal n) 0 0
unfolding decimal
decimal_first n l h =
    let m = no_more n l in
    let most : n < 10 ^ suc m.0 = rw (← m.1.0) (enough n h) in
    rw m.1.0 (first_above m.0 n m.1.1 most)

-- below it there is one digit
pub decimal_one : (n : ℕ) → n < 10 → decimal n ≡ (48 + n) ∷ []
unfolding pick digits decimal
decimal_one n h = rw (lt-ltb n 10 h) (ap (λ (d : ℕ). (48 + d) ∷ []) (omega arith))

-- A list of numbers that are events: one number more at its end, two lists one after the other; which kinds and
-- values make an event; and that numbers and events stand for one another.
use mathlib.Core.Path.{◌≡◌, refl, ap, sym, ◌∙◌}
use mathlib.Core.Bool.{Bool, true, false, ◌&&◌, ◌||◌, and-true, and_assoc, or-false, true≢false}
use mathlib.Core.List.{List, [], ◌∷◌, ◌++◌}
use Prim.Native.Nat.{ℕ, zero, suc, ◌+◌, ◌*◌, ◌/◌, ◌%◌, ◌^◌, ◌<◌, ◌≤◌}
use native.Mathlib.Numerals.{add-one}
use native.Mathlib.Nat.{mul-le-mul_right, le_of_lt}
use native.Mathlib.Omega.{arith}
use lib.ListN.{length, take, get_or}
use lib.Seq.{take-suc}
use lib.Dec.{eqb, leb, ltb}
use lib.Bits.{bit_or, or_zero_l, or_add_and, and_le_r}
use borrow.Author.Tests.{le-leb, leb-true, lt-ltb, ltb-true, ltb-false, le-ltb, eq-eqb, ne_eqb}
use Rattle.laws.specs.Pick.{pick, and_both}
use Rattle.laws.specs.And.{or_left, or_right}
use Rattle.laws.specs.Flags.{bit_on_law}
use Rattle.pins.specs.declared.Event.{Event}
use Rattle.pins.specs.declared.Event.TheVariants.{S, C, D, W, Hold, Time}
use Rattle.pins.specs.Events.{event_of}
use Rattle.events.specs.Events.{is_event, are_events, number_of, has_number}

pub none_are : true ≡ are_events []
unfolding are_events
none_are = refl

pub both_are : (ns ks : List ℕ) → are_events (ns ++ ks) ≡ (are_events ns && are_events ks)
unfolding are_events
both_are [] ks = refl
both_are (n ∷ ns) ks = ap (λ (t : Bool). is_event n && t) (both_are ns ks) ∙ sym (and_assoc (is_event n) (are_events ns) (are_events ks))

pub one_is : (n : ℕ) → are_events (n ∷ []) ≡ is_event n
unfolding are_events
one_is n = and-true (is_event n)

pub more_are : (ns : List ℕ) (i : ℕ) → i < length ns → are_events (take (i + 1) ns) ≡ (are_events (take i ns) && is_event (get_or ns i 0))
more_are ns i h =
    ap (λ (k : ℕ). are_events (take k ns)) (add-one i) ∙ ap are_events (take-suc ns i 0 h)
    ∙ both_are (take i ns) (get_or ns i 0 ∷ []) ∙ ap (λ (t : Bool). are_events (take i ns) && t) (one_is (get_or ns i 0))

-- ---- a kind and a value: a pin at 0 or 1, or a reading

-- a number that is 0 where a value is a level
of_level : (w v : ℕ) → (w ≡ 0 → v ≤ 1) → (v ≤ 1 → w ≡ 0) → eqb w 0 ≡ (leb v 1 || false)
of_level w v to from = by_test_law (leb v 1) refl
  where
    by_test_law : (t : Bool) → leb v 1 ≡ t → eqb w 0 ≡ (leb v 1 || false)
    by_test_law true e = eq-eqb w 0 (from (leb-true v 1 e)) ∙ sym (or_left (leb v 1) false e)
    by_test_law false e = ne_eqb w 0 (λ z. true≢false (sym (le-leb v 1 (to z)) ∙ e)) ∙ sym (or-false (leb v 1) ∙ e)

-- the sum of the code is 0 for an event alone
pub no_fault : (k v : ℕ) → eqb ((k + 2) / 8 + (k + 3) % 8 * (v / 2)) 0 ≡ (ltb k 5 && leb v 1 || eqb k 5)
no_fault zero v = of_level (0 + 3 * (v / 2)) v (λ e. omega arith) (λ h. omega arith)
no_fault (suc zero) v = of_level (0 + 4 * (v / 2)) v (λ e. omega arith) (λ h. omega arith)
no_fault (suc (suc zero)) v = of_level (0 + 5 * (v / 2)) v (λ e. omega arith) (λ h. omega arith)
no_fault (suc (suc (suc zero))) v = of_level (0 + 6 * (v / 2)) v (λ e. omega arith) (λ h. omega arith)
no_fault (suc (suc (suc (suc zero)))) v = of_level (0 + 7 * (v / 2)) v (λ e. omega arith) (λ h. omega arith)
no_fault (suc (suc (suc (suc (suc zero))))) v = eq-eqb (0 + 0 * (v / 2)) 0 (omega arith)
no_fault (suc (suc (suc (suc (suc (suc k)))))) v =
    let six = suc (suc (suc (suc (suc (suc k))))) in
    rw (le-ltb six 5 (omega arith), ne_eqb six 5 (λ e. omega arith)) (ne_eqb ((six + 2) / 8 + (six + 3) % 8 * (v / 2)) 0 (λ e. omega arith))

-- .. and fits a word
pub product_below : (x y : ℕ) → x < 8 → y < 2 ^ 32 → x * y < 2 ^ 64
product_below x y h k = omega (arith, mul-le-mul_right y (le_of_lt h))

pub sum_below : (w x y : ℕ) → w < 2 ^ 32 → x < 8 → y < 2 ^ 32 → w + x * y < 2 ^ 64
sum_below w x y i h k = omega (arith, mul-le-mul_right y (le_of_lt h))

-- two sums in one word
pub none_of : (a b : ℕ) → eqb (bit_or a b) 0 ≡ (eqb a 0 && eqb b 0)
none_of zero b = ap (λ (n : ℕ). eqb n 0) (or_zero_l b)
none_of (suc a) b =
    ne_eqb (bit_or (suc a) b) 0 (λ e. omega (arith, e, or_add_and (suc a) b, and_le_r (suc a) b))
    ∙ sym (ap (λ (t : Bool). t && eqb b 0) (ne_eqb (suc a) 0 (λ e. omega arith)))

kind_of_law : (k v : ℕ) → v < 2 ^ 32 → (k * 2 ^ 32 + v) / 2 ^ 32 ≡ k
kind_of_law k v h = omega arith

value_of : (k v : ℕ) → v < 2 ^ 32 → (k * 2 ^ 32 + v) % 2 ^ 32 ≡ v
value_of k v h = omega arith

pub event_is : (k v : ℕ) → k ≤ 5 → (k < 5 → v ≤ 1) → v < 2 ^ 32 → is_event (k * 2 ^ 32 + v) ≡ true
event_is k v h l s = rw (kind_of_law k v s, value_of k v s) (by_kind (ltb k 5) refl)
  where
    by_kind : (t : Bool) → ltb k 5 ≡ t → (ltb k 5 && leb v 1 || eqb k 5) ≡ true
    by_kind true e = or_left (ltb k 5 && leb v 1) (eqb k 5) (and_both (ltb k 5) (leb v 1) e (le-leb v 1 (l (ltb-true k 5 e))))
    by_kind false e = or_right (ltb k 5 && leb v 1) (eqb k 5) (eq-eqb k 5 (omega (arith, ltb-false k 5 e)))

-- ---- the number that stands for an event is one, and means that event; and no other number is one

pub number_is : (e : Event) → has_number e ≡ true → is_event (number_of e) ≡ true
number_is (S true) h = refl
number_is (S false) h = refl
number_is (C true) h = refl
number_is (C false) h = refl
number_is (D true) h = refl
number_is (D false) h = refl
number_is (W true) h = refl
number_is (W false) h = refl
number_is (Hold true) h = refl
number_is (Hold false) h = refl
number_is (Time t) h = event_is 5 t (omega arith) (λ i. absurd (omega arith)) (ltb-true t (2 ^ 32) h)

pub number_means : (e : Event) → has_number e ≡ true → event_of (number_of e) ≡ e
unfolding pick
number_means (S true) h = refl
number_means (S false) h = refl
number_means (C true) h = refl
number_means (C false) h = refl
number_means (D true) h = refl
number_means (D false) h = refl
number_means (W true) h = refl
number_means (W false) h = refl
number_means (Hold true) h = refl
number_means (Hold false) h = refl
number_means (Time t) h = let s = ltb-true t (2 ^ 32) h in rw (kind_of_law 5 t s, value_of 5 t s) refl

pin_out : (k v : ℕ) → k < 5 → (ltb k 5 && leb v 1 || eqb k 5) ≡ true → v ≤ 1
pin_out k v i h = leb-true v 1 (sym (rw (lt-ltb k 5 i, ne_eqb k 5 (λ e. omega arith)) (or-false (leb v 1))) ∙ h)

-- a number that is an event is the one that stands for what it means
pub means_number : (n : ℕ) → is_event n ≡ true → number_of (event_of n) ≡ n
unfolding pick
means_number n h = by_kind (n / 2 ^ 32) refl h
  where
    by_kind : (k : ℕ) → n / 2 ^ 32 ≡ k → (ltb k 5 && leb (n % 2 ^ 32) 1 || eqb k 5) ≡ true → number_of (event_of n) ≡ n
    by_kind zero p h = let v = pin_out 0 (n % 2 ^ 32) (omega arith) h in rw p (omega (arith, bit_on_law (n % 2) (omega arith)))
    by_kind (suc zero) p h = let v = pin_out 1 (n % 2 ^ 32) (omega arith) h in rw p (omega (arith, bit_on_law (n % 2) (omega arith)))
    by_kind (suc (suc zero)) p h = let v = pin_out 2 (n % 2 ^ 32) (omega arith) h in rw p (omega (arith, bit_on_law (n % 2) (omega arith)))
    by_kind (suc (suc (suc zero))) p h = let v = pin_out 3 (n % 2 ^ 32) (omega arith) h in rw p (omega (arith, bit_on_law (n % 2) (omega arith)))
    by_kind (suc (suc (suc (suc zero)))) p h = let v = pin_out 4 (n % 2 ^ 32) (omega arith) h in rw p (omega (arith, bit_on_law (n % 2) (omega arith)))
    by_kind (suc (suc (suc (suc (suc zero))))) p h = rw p (omega arith)
    by_kind (suc (suc (suc (suc (suc (suc k)))))) p h =
        let six = suc (suc (suc (suc (suc (suc k))))) in
        absurd (true≢false (sym h ∙ rw (le-ltb six 5 (omega arith), ne_eqb six 5 (λ e. omega arith)) refl))

-- The line in hand: what its ranges say, and that every byte keeps them.
use mathlib.Core.Path.{◌≡◌, refl, sym, ◌∙◌}
use mathlib.Core.Bool.{Bool, true, false, ◌&&◌, ◌||◌, true≢false}
use mathlib.Core.List.{List, [], ◌∷◌}
use Prim.Native.Nat.{ℕ, zero, suc, ◌+◌, ◌-◌, ◌*◌, ◌^◌, ◌<◌, ◌≤◌, min}
use native.Mathlib.Omega.{arith}
use lib.Dec.{eqb, leb, ltb}
use borrow.Author.Tests.{le-leb, leb-true, lt-ltb, ltb-true, eq-eqb, eqb-true, ne_eqb, le-ltb, ltb-false}
use Rattle.laws.specs.Pick.{pick, pick_case, and_left, and_right}
use Rattle.laws.specs.And.{and_3_out, and_3_in}
use Rattle.lines.specs.declared.Line.{Line}
use Rattle.lines.specs.Reading.{kind_of, is_digit, line_at, fresh, stopped, named, tabbed, begun, closed, counted, next, read, ended, line_fits}

pub digit_low : (b : ℕ) → is_digit b ≡ true → 48 ≤ b
digit_low b e = leb-true 48 b (and_left (leb 48 b) (leb b 57) e)

-- a line that is not past the last counts one more
pub one_more : (w : ℕ) → w < 1000000 → min 1000000 (w + 1) ≡ w + 1
one_more w h = omega arith

-- ---- what the ranges say by the place, and back

none_in : (w : ℕ) → w ≤ 1000000 → (leb w 1000000 && eqb 0 0 && eqb 0 0) ≡ true
none_in w h = and_3_in (leb w 1000000) true true (le-leb w 1000000 h) refl refl

pub fresh_fits : (w : ℕ) → w ≤ 1000000 → line_fits (fresh w) ≡ true
unfolding pick line_fits
fresh_fits w h = none_in w h

pub stopped_fits : (w : ℕ) → w ≤ 1000000 → line_fits (stopped w) ≡ true
unfolding pick line_fits
stopped_fits w h = none_in w h

none_whole : (w k v : ℕ) → (leb w 1000000 && eqb k 0 && eqb v 0) ≡ true → w ≤ 1000000
none_whole w k v e = leb-true w 1000000 (and_3_out (leb w 1000000) (eqb k 0) (eqb v 0) e).0

-- a line in hand: it is not past the last, its kind, and what its value is held to
hand_out : (w k : ℕ) (t : Bool) → (ltb w 1000000 && leb k 5 && t) ≡ true → (w < 1000000) × ((k ≤ 5) × (t ≡ true))
hand_out w k t e =
    let h = and_3_out (ltb w 1000000) (leb k 5) t e in
    (ltb-true w 1000000 h.0, (leb-true k 5 h.1.0, h.1.1))

hand_in : (w k : ℕ) (t : Bool) → w < 1000000 → k ≤ 5 → t ≡ true → (ltb w 1000000 && leb k 5 && t) ≡ true
hand_in w k t h i e = and_3_in (ltb w 1000000) (leb k 5) t (lt-ltb w 1000000 h) (le-leb k 5 i) e

hand_whole : (w k v p : ℕ) → p < 4 → line_fits (line_at w (suc p) k v) ≡ true → w < 1000000
unfolding pick line_fits
hand_whole w k v zero h f = (hand_out w k (eqb v 0) f).0
hand_whole w k v (suc zero) h f = (hand_out w k (eqb v 0) f).0
hand_whole w k v (suc (suc zero)) h f = (hand_out w k (leb v 1) f).0
hand_whole w k v (suc (suc (suc zero))) h f = (hand_out w k (eqb k 5) f).0
hand_whole w k v (suc (suc (suc (suc p)))) h f = absurd (omega arith)

pub in_hand : (l : Line) (p : ℕ) → l.place ≡ suc p → p < 4 → line_fits l ≡ true → l.whole < 1000000
in_hand l p e h f = hand_whole l.whole l.kind l.value p h (rw (← e) f)

-- ---- every byte keeps them

abbrev Fit : Line → Type 0
Fit l = line_fits l ≡ true

named_fits : (w k v b : ℕ) → w ≤ 1000000 → Fit (named (line_at w 0 k v) b)
unfolding pick line_fits
named_fits w k v b h =
    pick_case Fit (ltb w 1000000 && ltb (kind_of b) 6)
    (λ e. hand_in w (kind_of b) true (ltb-true w 1000000 (and_left (ltb w 1000000) (ltb (kind_of b) 6) e))
    (omega (arith, ltb-true (kind_of b) 6 (and_right (ltb w 1000000) (ltb (kind_of b) 6) e))) refl)
    (λ e. stopped_fits w h)

tabbed_fits : (w k v b : ℕ) → w < 1000000 → k ≤ 5 → Fit (tabbed (line_at w 1 k v) b)
unfolding pick line_fits
tabbed_fits w k v b h i = pick_case Fit (eqb b 9) (λ e. hand_in w k true h i refl) (λ e. stopped_fits w (omega arith))

begun_fits : (w k v b : ℕ) → w < 1000000 → k ≤ 5 → Fit (begun (line_at w 2 k v) b)
unfolding pick line_fits
begun_fits w k v b h i =
    pick_case Fit (eqb b 48) (λ e. hand_in w k true h i refl)
    (λ e. pick_case Fit (ltb k 5) (λ j. pick_case Fit (eqb b 49) (λ q. hand_in w k true h i refl) (λ q. stopped_fits w (omega arith)))
    (λ j. pick_case Fit (is_digit b) (λ q. hand_in w k (eqb k 5) h i (eq-eqb k 5 (omega (arith, ltb-false k 5 j)))) (λ q. stopped_fits w (omega arith))))

closed_fits : (w p k v b : ℕ) → w < 1000000 → Fit (closed (line_at w p k v) b)
closed_fits w p k v b h = pick_case Fit (eqb b 10) (λ e. fresh_fits (min 1000000 (w + 1)) (omega arith)) (λ e. stopped_fits w (omega arith))

counted_fits : (w k v b : ℕ) → w < 1000000 → k ≤ 5 → eqb k 5 ≡ true → Fit (counted (line_at w 4 k v) b)
unfolding pick line_fits
counted_fits w k v b h i e =
    pick_case Fit (is_digit b)
    (λ q. pick_case Fit (ltb (v * 10 + (b - 48)) (2 ^ 32)) (λ r. hand_in w k (eqb k 5) h i e) (λ r. stopped_fits w (omega arith)))
    (λ q. closed_fits w 4 k v b h)

-- there is no place past 5
pub past_fits : (w p k v : ℕ) → 5 < p → line_fits (line_at w p k v) ≡ false
unfolding pick line_fits
past_fits w p k v h = rw (ne_eqb p 0 (λ e. omega arith), ne_eqb p 5 (λ e. omega arith), le-ltb p 5 (omega arith)) refl

next_at : (w p k v b : ℕ) → Fit (line_at w p k v) → Fit (next (line_at w p k v) b)
unfolding pick line_fits next
next_at w zero k v b f = named_fits w k v b (none_whole w k v f)
next_at w (suc zero) k v b f = let h = hand_out w k (eqb v 0) f in tabbed_fits w k v b h.0 h.1.0
next_at w (suc (suc zero)) k v b f = let h = hand_out w k (eqb v 0) f in begun_fits w k v b h.0 h.1.0
next_at w (suc (suc (suc zero))) k v b f = let h = hand_out w k (leb v 1) f in closed_fits w 3 k v b h.0
next_at w (suc (suc (suc (suc zero)))) k v b f = let h = hand_out w k (eqb k 5) f in counted_fits w k v b h.0 h.1.0 h.1.1
next_at w (suc (suc (suc (suc (suc zero))))) k v b f = f
next_at w (suc (suc (suc (suc (suc (suc p)))))) k v b f = absurd (true≢false (sym f ∙ past_fits w (suc (suc (suc (suc (suc (suc p)))))) k v (omega arith)))

pub next_fits : (l : Line) (b : ℕ) → Fit l → Fit (next l b)
next_fits l b f = next_at l.whole l.place l.kind l.value b f

pub read_fits : (l : Line) (x : List ℕ) → Fit l → Fit (read l x)
unfolding read
read_fits l [] f = f
read_fits l (b ∷ x) f = read_fits (next l b) x (next_fits l b f)

-- ---- a value is at most 4294967295, as its type says of the first

abbrev Small : Line → Type 0
Small l = l.value < 2 ^ 32

small_at : (w p k v b : ℕ) → v < 2 ^ 32 → Small (next (line_at w p k v) b)
unfolding pick next
small_at w zero k v b h = pick_case Small (ltb w 1000000 && ltb (kind_of b) 6) (λ e. omega arith) (λ e. omega arith)
small_at w (suc zero) k v b h = pick_case Small (eqb b 9) (λ e. omega arith) (λ e. omega arith)
small_at w (suc (suc zero)) k v b h =
    pick_case Small (eqb b 48) (λ e. omega arith)
    (λ e. pick_case Small (ltb k 5) (λ i. pick_case Small (eqb b 49) (λ j. omega arith) (λ j. omega arith))
    (λ i. pick_case Small (is_digit b) (λ j. omega (arith, leb-true b 57 (and_right (leb 48 b) (leb b 57) j))) (λ j. omega arith)))
small_at w (suc (suc (suc zero))) k v b h = pick_case Small (eqb b 10) (λ e. omega arith) (λ e. omega arith)
small_at w (suc (suc (suc (suc zero)))) k v b h =
    pick_case Small (is_digit b)
    (λ e. pick_case Small (ltb (v * 10 + (b - 48)) (2 ^ 32)) (λ i. ltb-true (v * 10 + (b - 48)) (2 ^ 32) i) (λ i. omega arith))
    (λ e. pick_case Small (eqb b 10) (λ i. omega arith) (λ i. omega arith))
small_at w (suc (suc (suc (suc (suc p))))) k v b h =
    let not : (n : ℕ) → n < 5 → eqb (suc (suc (suc (suc (suc p))))) n ≡ false = λ n i. ne_eqb (suc (suc (suc (suc (suc p))))) n (λ e. omega arith) in
    rw (not 0 (omega arith), not 1 (omega arith), not 2 (omega arith), not 3 (omega arith), not 4 (omega arith)) h

pub next_small : (l : Line) (b : ℕ) → Small l → Small (next l b)
next_small l b h = small_at l.whole l.place l.kind l.value b h

-- ---- a whole value is a level, 0 or 1, or a reading

value_at : (w p k v : ℕ) → Fit (line_at w p k v) → (eqb p 3 || eqb p 4) ≡ true → (k ≤ 5) × (k < 5 → v ≤ 1)
unfolding pick line_fits
value_at w zero k v f e = absurd (true≢false (sym e))
value_at w (suc zero) k v f e = absurd (true≢false (sym e))
value_at w (suc (suc zero)) k v f e = absurd (true≢false (sym e))
value_at w (suc (suc (suc zero))) k v f e = let h = hand_out w k (leb v 1) f in (h.1.0, λ i. leb-true v 1 h.1.1)
value_at w (suc (suc (suc (suc zero)))) k v f e = let h = hand_out w k (eqb k 5) f in (h.1.0, λ i. omega (arith, eqb-true k 5 h.1.1))
value_at w (suc (suc (suc (suc (suc p))))) k v f e =
    let not : (n : ℕ) → n < 5 → eqb (suc (suc (suc (suc (suc p))))) n ≡ false = λ n i. ne_eqb (suc (suc (suc (suc (suc p))))) n (λ j. omega arith) in
    absurd (true≢false (sym e ∙ rw (not 3 (omega arith), not 4 (omega arith)) refl))

pub value_out : (l : Line) → Fit l → (eqb l.place 3 || eqb l.place 4) ≡ true → (l.kind ≤ 5) × (l.kind < 5 → l.value ≤ 1)
value_out l f e = value_at l.whole l.place l.kind l.value f e

-- ---- at most a million lines are whole

whole_at : (w p k v : ℕ) → Fit (line_at w p k v) → w ≤ 1000000
unfolding pick line_fits
whole_at w zero k v f = none_whole w k v f
whole_at w (suc zero) k v f = let h = hand_whole w k v 0 (omega arith) f in omega arith
whole_at w (suc (suc zero)) k v f = let h = hand_whole w k v 1 (omega arith) f in omega arith
whole_at w (suc (suc (suc zero))) k v f = let h = hand_whole w k v 2 (omega arith) f in omega arith
whole_at w (suc (suc (suc (suc zero)))) k v f = let h = hand_whole w k v 3 (omega arith) f in omega arith
whole_at w (suc (suc (suc (suc (suc zero))))) k v f = none_whole w k v f
whole_at w (suc (suc (suc (suc (suc (suc p)))))) k v f = absurd (true≢false (sym f ∙ past_fits w (suc (suc (suc (suc (suc (suc p)))))) k v (omega arith)))

pub whole_small : (l : Line) → Fit l → l.whole ≤ 1000000
whole_small l f = whole_at l.whole l.place l.kind l.value f

-- ---- the end of the text keeps the ranges

pub ended_fits : (l : Line) → line_fits l ≡ true → line_fits (ended l) ≡ true
unfolding pick ended
ended_fits l f = either (eqb l.place 0)
  where
    either : (t : Bool) → line_fits (pick t l (stopped l.whole)) ≡ true
    either true = f
    either false = stopped_fits l.whole (whole_small l f)

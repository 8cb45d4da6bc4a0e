-- A run of bytes: two runs one after the other, one byte more, and how many lines end in it.
use mathlib.Core.Path.{◌≡◌, refl, ap, sym, ◌∙◌}
use mathlib.Core.Bool.{Bool, true, false, ◌&&◌, ◌||◌, true≢false}
use mathlib.Core.List.{List, [], ◌∷◌, ◌++◌, append_assoc, append-nil}
use Prim.Native.Nat.{ℕ, zero, suc, ◌+◌, ◌-◌, ◌*◌, ◌^◌, ◌<◌, ◌≤◌}
use native.Mathlib.Omega.{arith}
use lib.ListN.{length, take, get_or, length-append}
use lib.Seq.{take-suc}
use lib.Dec.{eqb, ltb}
use borrow.Author.Tests.{ne_eqb}
use Rattle.laws.specs.Pick.{pick, pick_case, and_both, and_no_left, and_no_right}
use Rattle.lines.specs.declared.Line.{Line}
use Rattle.lines.specs.Reading.{kind_of, event_number, is_digit, line_at, closed, next, closes, said, read, found, line_fits}
use Rattle.lines.proofs.Hand.{digit_low, one_more, in_hand, next_fits, read_fits, past_fits, whole_small}

pub read_append : (l : Line) (x y : List ℕ) → read l (x ++ y) ≡ read (read l x) y
unfolding read
read_append l [] y = refl
read_append l (b ∷ x) y = read_append (next l b) x y

pub found_append : (l : Line) (x y : List ℕ) → found l (x ++ y) ≡ found l x ++ found (read l x) y
unfolding read found
found_append l [] y = refl
found_append l (b ∷ x) y =
    ap (λ (es : List ℕ). said l b ++ es) (found_append (next l b) x y) ∙ sym (append_assoc (said l b) (found (next l b) x) (found (read (next l b) x) y))

-- ---- one byte more

read_end : (l : Line) (x : List ℕ) (b : ℕ) → read l (x ++ (b ∷ [])) ≡ next (read l x) b
unfolding read
read_end l x b = read_append l x (b ∷ [])

found_end : (l : Line) (x : List ℕ) (b : ℕ) → found l (x ++ (b ∷ [])) ≡ found l x ++ said (read l x) b
unfolding found
found_end l x b = found_append l x (b ∷ []) ∙ ap (λ (es : List ℕ). found l x ++ es) (append-nil (said (read l x) b))

pub read_more : (l : Line) (x : List ℕ) (i : ℕ) → i < length x → read l (take (suc i) x) ≡ next (read l (take i x)) (get_or x i 0)
read_more l x i h = ap (read l) (take-suc x i 0 h) ∙ read_end l (take i x) (get_or x i 0)

pub found_more : (l : Line) (x : List ℕ) (i : ℕ) → i < length x → found l (take (suc i) x) ≡ found l (take i x) ++ said (read l (take i x)) (get_or x i 0)
found_more l x i h = ap (found l) (take-suc x i 0 h) ∙ found_end l (take i x) (get_or x i 0)

pub said_length : (l : Line) (b : ℕ) → length (said l b) ≡ pick (closes l b) 1 0
unfolding pick
said_length l b = pick_case (λ (k : List ℕ). length k ≡ pick (closes l b) 1 0) (closes l b) (λ e. rw e refl) (λ e. rw e refl)

-- what a byte says, as the event in hand, taken once or not at all
pub said_taken : (l : Line) (b : ℕ) → take (pick (closes l b) 1 0) (event_number l.kind l.value ∷ []) ≡ said l b
unfolding pick
said_taken l b = pick_case (λ (n : ℕ). take n (event_number l.kind l.value ∷ []) ≡ said l b) (closes l b) (λ e. rw e refl) (λ e. rw e refl)

-- ---- the lines that end are the events

pub one_or_none : (t : Bool) → pick {A = ℕ} t 1 0 ≤ 1
unfolding pick
one_or_none true = omega arith
one_or_none false = omega arith

pub found_length : (l : Line) (x : List ℕ) → length (found l x) ≤ length x
unfolding found
found_length l [] = omega arith
found_length l (b ∷ x) =
    rw length-append (omega (arith, said_length l b, one_or_none (closes l b), found_length (next l b) x))

none_said : (w : ℕ) (l : Line) (b : ℕ) → closes l b ≡ false → w ≡ w + length (said l b)
unfolding pick
none_said w l b e = rw (said_length l b, e) (omega arith)

one_said : (w : ℕ) (l : Line) (b : ℕ) → closes l b ≡ true → w + 1 ≡ w + length (said l b)
unfolding pick
one_said w l b e = rw (said_length l b, e) refl

closed_whole : (l : Line) (b : ℕ) → l.whole < 1000000 → (eqb l.place 3 || eqb l.place 4) ≡ true → (closed l b).whole ≡ l.whole + length (said l b)
closed_whole l b i h =
    pick_case (λ (y : Line). y.whole ≡ l.whole + length (said l b)) (eqb b 10)
    (λ e. one_more l.whole i ∙ one_said l.whole l b (and_both (eqb b 10) (eqb l.place 3 || eqb l.place 4) e h))
    (λ e. none_said l.whole l b (and_no_left (eqb b 10) (eqb l.place 3 || eqb l.place 4) e))

next_whole_at : (w p k v b : ℕ) → line_fits (line_at w p k v) ≡ true → (next (line_at w p k v) b).whole ≡ w + length (said (line_at w p k v) b)
unfolding pick next
next_whole_at w zero k v b f =
    pick_case (λ (y : Line). y.whole ≡ w + length (said (line_at w 0 k v) b)) (ltb w 1000000 && ltb (kind_of b) 6)
    (λ e. none_said w (line_at w 0 k v) b (and_no_right (eqb b 10) false refl)) (λ e. none_said w (line_at w 0 k v) b (and_no_right (eqb b 10) false refl))
next_whole_at w (suc zero) k v b f =
    pick_case (λ (y : Line). y.whole ≡ w + length (said (line_at w 1 k v) b)) (eqb b 9)
    (λ e. none_said w (line_at w 1 k v) b (and_no_right (eqb b 10) false refl)) (λ e. none_said w (line_at w 1 k v) b (and_no_right (eqb b 10) false refl))
next_whole_at w (suc (suc zero)) k v b f =
    let no : w ≡ w + length (said (line_at w 2 k v) b) = none_said w (line_at w 2 k v) b (and_no_right (eqb b 10) false refl) in
    let P : Line → Type 0 = λ y. y.whole ≡ w + length (said (line_at w 2 k v) b) in
    pick_case P (eqb b 48) (λ e. no)
    (λ e. pick_case P (ltb k 5) (λ i. pick_case P (eqb b 49) (λ j. no) (λ j. no)) (λ i. pick_case P (is_digit b) (λ j. no) (λ j. no)))
next_whole_at w (suc (suc (suc zero))) k v b f = closed_whole (line_at w 3 k v) b (in_hand (line_at w 3 k v) 2 refl (omega arith) f) refl
next_whole_at w (suc (suc (suc (suc zero)))) k v b f =
    let P : Line → Type 0 = λ y. y.whole ≡ w + length (said (line_at w 4 k v) b) in
    pick_case P (is_digit b)
    (λ e. let no : w ≡ w + length (said (line_at w 4 k v) b) = none_said w (line_at w 4 k v) b
    (and_no_left (eqb b 10) true (ne_eqb b 10 (λ i. omega (arith, digit_low b e)))) in
    pick_case P (ltb (v * 10 + (b - 48)) (2 ^ 32)) (λ i. no) (λ i. no))
    (λ e. closed_whole (line_at w 4 k v) b (in_hand (line_at w 4 k v) 3 refl (omega arith) f) refl)
next_whole_at w (suc (suc (suc (suc (suc zero))))) k v b f = none_said w (line_at w 5 k v) b (and_no_right (eqb b 10) false refl)
next_whole_at w (suc (suc (suc (suc (suc (suc p)))))) k v b f =
    absurd (true≢false (sym f ∙ past_fits w (suc (suc (suc (suc (suc (suc p)))))) k v (omega arith)))

pub next_whole : (l : Line) (b : ℕ) → line_fits l ≡ true → (next l b).whole ≡ l.whole + length (said l b)
next_whole l b f = next_whole_at l.whole l.place l.kind l.value b f

pub read_whole : (l : Line) (x : List ℕ) → line_fits l ≡ true → (read l x).whole ≡ l.whole + length (found l x)
unfolding read found
read_whole l [] f = omega arith
read_whole l (b ∷ x) f =
    read_whole (next l b) x (next_fits l b f) ∙ rw (next_whole l b f, length-append) (omega arith)

-- so their numbers stay in the million
pub found_room : (l : Line) (x : List ℕ) → line_fits l ≡ true → l.whole + length (found l x) ≤ 1000000
found_room l x f = omega (arith, read_whole l x f, whole_small (read l x) (read_fits l x f))

-- ---- after the bad line nothing is looked at

still : (l : Line) (b : ℕ) → l.place ≡ 5 → next l b ≡ l
unfolding pick next
still l b e = rw e refl

pub read_still : (l : Line) (x : List ℕ) → l.place ≡ 5 → read l x ≡ l
unfolding read
read_still l [] e = refl
read_still l (b ∷ x) e = ap (λ (k : Line). read k x) (still l b e) ∙ read_still l x e

pub said_none : (l : Line) (b : ℕ) → closes l b ≡ false → said l b ≡ []
unfolding pick
said_none l b e = rw e refl

pub found_still : (l : Line) (x : List ℕ) → l.place ≡ 5 → found l x ≡ []
unfolding found
found_still l [] e = refl
found_still l (b ∷ x) e =
    let no : closes l b ≡ false = and_no_right (eqb b 10) (eqb l.place 3 || eqb l.place 4) (rw e refl) in
    rw (said_none l b no, still l b e) (found_still l x e)

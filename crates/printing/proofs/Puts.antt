-- Lent bytes with a run of writes in them, and the digits of a number: what the loops that write the output need.
use mathlib.Core.Path.{◌≡◌, refl, ap, sym, ◌∙◌}
use mathlib.Core.List.{List, [], ◌∷◌, ◌++◌, append_assoc, append-nil}
use Prim.Native.Nat.{ℕ, zero, suc, ◌+◌, ◌-◌, ◌/◌, ◌%◌, ◌<◌, ◌≤◌}
use native.Mathlib.Nat.{add-zero}
use native.Mathlib.Omega.{arith}
use native.Mathlib.Numerals.{add-one}
use lib.ListN.{length, take, drop, get_or, set, length-append, take-append-drop}
use lib.Seq.{drop-cons, set_split, length-take-le, take_at, drop_at, drop-drop, take-suc, take-set-le, drop-set-add}
use Rattle.laws.specs.Spliced.{spliced_length}
use Rattle.printing.specs.Digits.{digits}
use Rattle.printing.specs.Printing.{good_line, printed}
use Rattle.printing.specs.Put.{put}

pub put_nil : (d : List ℕ) (at : ℕ) → put d at [] ≡ d
unfolding put
put_nil d at = take-append-drop at d

put_one : (d : List ℕ) (at v : ℕ) → at < length d → set d at v ≡ put d at (v ∷ [])
unfolding put
put_one d at v h = set_split d at v h ∙ rw (drop-drop 1 at d, add-one)

pub put_length : (d : List ℕ) (at : ℕ) (s : List ℕ) → at + length s ≤ length d → length (put d at s) ≡ length d
unfolding put
put_length d at s h = spliced_length d s at (length s) 0 h refl

-- a write after a write
pub put_put : (d : List ℕ) (at : ℕ) (s t : List ℕ) → at + length s + length t ≤ length d → put (put d at s) (at + length s) t ≡ put d at (s ++ t)
unfolding put
put_put d at s t h =
    let p : List ℕ = take at d ++ s in
    let q : List ℕ = drop (length s) (drop at d) in
    let whole : take at d ++ (s ++ q) ≡ p ++ q = sym (append_assoc (take at d) s q) in
    let n : length p ≡ at + length s = length-append (take at d) s ∙ ap (λ (k : ℕ). k + length s) (length-take-le at d (omega arith)) in
    let front : take (at + length s) (p ++ q) ≡ p = take_at p q (at + length s) n in
    let rest : List ℕ = drop (length (s ++ t)) (drop at d) in
    let back : drop (length t) (drop (at + length s) (p ++ q)) ≡ rest =
    ap (drop (length t)) (drop_at p q (at + length s) n) ∙ drop-drop (length t) (length s) (drop at d)
    ∙ ap (λ (k : ℕ). drop k (drop at d)) (sym (length-append s t)) in
    rw whole (rw (front, back) (append_assoc (take at d) s (t ++ rest) ∙ ap (λ (l : List ℕ). take at d ++ l) (sym (append_assoc s t rest))))

-- one more element
pub put_more : (d : List ℕ) (at : ℕ) (s : List ℕ) (i v : ℕ) → i ≡ at + length s → i < length d → set (put d at s) i v ≡ put d at (s ++ (v ∷ []))
put_more d at s i v e h =
    rw e (put_one (put d at s) (at + length s) v (rw (put_length d at s (omega arith)) (omega arith)) ∙ put_put d at s (v ∷ []) (omega arith))

-- three more
pub put_three : (d : List ℕ) (at : ℕ) (s : List ℕ) (i a b c : ℕ) → i ≡ at + length s → i + 2 < length d
    → set (set (set (put d at s) i a) (i + 1) b) (i + 2) c ≡ put d at (s ++ (a ∷ b ∷ c ∷ []))
put_three d at s i a b c e h =
    rw (put_more d at s i a e (omega arith))
    (rw (put_more d at (s ++ (a ∷ [])) (i + 1) b (simp length-append (omega arith)) (omega arith))
    (rw (put_more d at ((s ++ (a ∷ [])) ++ (b ∷ [])) (i + 2) c (simp length-append (omega arith)) h)
    (ap (put d at) (append_assoc (s ++ (a ∷ [])) (b ∷ []) (c ∷ []) ∙ append_assoc s (a ∷ []) (b ∷ c ∷ [])))))

-- the last element first
put_last : (d : List ℕ) (at : ℕ) (s : List ℕ) (i v : ℕ) → i ≡ at + length s → i < length d → put (set d i v) at s ≡ put d at (s ++ (v ∷ []))
unfolding put
put_last d at s i v e h =
    let n : suc i ≡ at + length (s ++ (v ∷ [])) = simp length-append (omega arith) in
    let rest : List ℕ = drop (length (s ++ (v ∷ []))) (drop at d) in
    let rest-is : drop (suc i) d ≡ rest = ap (λ (k : ℕ). drop k d) n ∙ sym (drop-drop (length (s ++ (v ∷ []))) at d) in
    let last : drop (at + length s) (set d i v) ≡ v ∷ drop (suc i) d =
    ap (λ (n : ℕ). drop n (set d i v)) (sym e) ∙ ap (λ (n : ℕ). drop i (set d n v)) (sym (add-zero i)) ∙ drop-set-add i d 0 v ∙ rw (drop-cons d i 0) refl in
    let back : drop (length s) (drop at (set d i v)) ≡ v ∷ rest = drop-drop (length s) at (set d i v) ∙ last ∙ ap (λ (l : List ℕ). v ∷ l) rest-is in
    rw (take-set-le at d i v (omega arith), back) (ap (λ (l : List ℕ). take at d ++ l) (sym (append_assoc s (v ∷ []) rest)))

-- ---- digits

pub digits_length : (k n : ℕ) → length (digits k n) ≡ k
unfolding digits
digits_length zero n = refl
digits_length (suc k) n = length-append (digits k (n / 10)) ((48 + n % 10) ∷ []) ∙ simp (digits_length k (n / 10)) (omega arith)

pub digits_none : (d : List ℕ) (at k n : ℕ) → k ≡ 0 → put d at (digits k n) ≡ d
unfolding digits
digits_none d at k n e = rw e (put_nil d at)

-- a turn: the last digit is written
pub digits_turn : (d : List ℕ) (at k n : ℕ) → 0 < k → at + k ≤ length d
    → put (set d (at + (k - 1)) (48 + n % 10)) at (digits (k - 1) (n / 10)) ≡ put d at (digits k n)
unfolding digits
digits_turn d at k n h r =
    let e : k ≡ suc (k - 1) = omega arith in
    let l : length (digits (k - 1) (n / 10)) ≡ k - 1 = digits_length (k - 1) (n / 10) in
    put_last d at (digits (k - 1) (n / 10)) (at + (k - 1)) (48 + n % 10) (ap (λ (j : ℕ). at + j) (sym l)) (omega arith)
    ∙ sym (ap (λ (j : ℕ). put d at (digits j n)) e)

-- ---- one more line

printed_end : (n : ℕ) (qs : List ℕ) (q : ℕ) → printed n (qs ++ (q ∷ [])) ≡ printed n qs ++ good_line (n + length qs) q
unfolding printed
printed_end n [] q = rw (append-nil, add-zero) refl
printed_end n (p ∷ qs) q =
    let e : suc n + length qs ≡ n + length (p ∷ qs) = omega arith in
    ap (λ (l : List ℕ). good_line n p ++ l) (printed_end (suc n) qs q ∙ ap (λ (k : ℕ). printed (suc n) qs ++ good_line k q) e)
    ∙ sym (append_assoc (good_line n p) (printed (suc n) qs) (good_line (n + length (p ∷ qs)) q))

pub printed_append : (n : ℕ) (qs rs : List ℕ) → printed n (qs ++ rs) ≡ printed n qs ++ printed (n + length qs) rs
unfolding printed
printed_append n [] rs = rw add-zero refl
printed_append n (p ∷ qs) rs =
    let e : suc n + length qs ≡ n + length (p ∷ qs) = omega arith in
    ap (λ (l : List ℕ). good_line n p ++ l) (printed_append (suc n) qs rs ∙ ap (λ (k : ℕ). printed (suc n) qs ++ printed k rs) e)
    ∙ sym (append_assoc (good_line n p) (printed (suc n) qs) (printed (n + length (p ∷ qs)) rs))

pub printed_more : (n : ℕ) (qs : List ℕ) (i : ℕ) → i < length qs → printed n (take (suc i) qs) ≡ printed n (take i qs) ++ good_line (n + i) (get_or qs i 0)
printed_more n qs i h =
    ap (printed n) (take-suc qs i 0 h) ∙ printed_end n (take i qs) (get_or qs i 0)
    ∙ ap (λ (k : ℕ). printed n (take i qs) ++ good_line (n + k) (get_or qs i 0)) (length-take-le i qs (omega arith))

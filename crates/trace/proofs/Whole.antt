-- A text byte by byte and line by line: the events that the bytes give are those of the good lines, and the text is stopped at the end exactly where it
-- has a bad line.
use mathlib.Core.Path.{◌≡◌, refl, ap, sym, subst, ◌∙◌}
use mathlib.Core.Bool.{Bool, true, false, ◌||◌, true≢false}
use mathlib.Core.List.{List, [], ◌∷◌, ◌++◌, map}
use Prim.Native.Nat.{ℕ, zero, suc, ◌+◌, ◌-◌, ◌*◌, ◌^◌, ◌<◌, ◌≤◌}
use native.Mathlib.Nat.{add-zero}
use native.Mathlib.Omega.{arith}
use lib.ListN.{length}
use lib.Dec.{eqb, leb, ltb}
use borrow.Author.Tests.{eqb-true, leb-true, ltb-true, ltb-false, lt-ltb, le-ltb, ne_eqb}
use Rattle.laws.specs.Pick.{pick, yes_so, no_so, and_right, and_no_left, and_no_right}
use Rattle.lines.specs.declared.Line.{Line}
use Rattle.pins.specs.declared.Event.{Event}
use Rattle.pins.specs.declared.Event.TheVariants.{S, C, D, W, Hold, Time}
use Rattle.events.specs.Events.{number_of}
use Rattle.lines.specs.Reading.{kind_of, event_number, is_digit, line_at, fresh, stopped, next, closes, read, found, ended}
use Rattle.lines.proofs.Hand.{digit_low, one_more}
use Rattle.lines.proofs.Runs.{read_still, found_still, said_none}
use Rattle.trace.specs.Lines.{Said, event, bad, is_empty, end_says, level_says, digits_say, reading_says, tab_says, line_says}
use Rattle.trace.specs.Texts.{first_line, after_line, good_then, good_lines, bad_then, has_bad}

pub split : {A : Type 0} (t : Bool) → (t ≡ true → A) → (t ≡ false → A) → A
split true f g = f refl
split false f g = g refl

-- ---- what the line in hand comes to, where the rest of it says A: an event, and the text goes on after the line; or the bad line

abbrev Goes : Line → List ℕ → Said → Type 0
Goes l x (event e) = (found l x ≡ number_of e ∷ found (fresh (l.whole + 1)) (after_line x)) × (read l x ≡ read (fresh (l.whole + 1)) (after_line x))
Goes l x bad = (found l x ≡ []) × (ended (read l x) ≡ stopped l.whole)

goes_as : (l : Line) (x : List ℕ) {A A' : Said} → A ≡ A' → Goes l x A → Goes l x A'
goes_as l x e g = subst (Goes l x) e g

goes_bad : (l : Line) (b : ℕ) (x : List ℕ) → closes l b ≡ false → next l b ≡ stopped l.whole → Goes l (b ∷ x) bad
unfolding pick found read ended
goes_bad l b x shut e =
    let s = stopped l.whole in (
      ap (λ (es : List ℕ). es ++ found (next l b) x) (said_none l b shut) ∙ ap (λ (k : Line). found k x) e ∙ found_still s x refl,
      ap (λ (k : Line). ended (read k x)) e ∙ ap ended (read_still s x refl),
    )

goes_on : (l k : Line) (b : ℕ) (x : List ℕ) (A : Said) → k.whole ≡ l.whole → eqb b 10 ≡ false → next l b ≡ k → Goes k x A → Goes l (b ∷ x) A
unfolding pick found read after_line
goes_on l k b x (event e) w n q g =
    let no = and_no_left (eqb b 10) (eqb l.place 3 || eqb l.place 4) n in
    (rw (said_none l b no, q, n, ← w) g.0, rw (q, n, ← w) g.1)
goes_on l k b x bad w n q g =
    let no = and_no_left (eqb b 10) (eqb l.place 3 || eqb l.place 4) n in
    (rw (said_none l b no, q) g.0, rw (q, ← w) g.1)

-- ---- by the place in the line, which is not past the last

module _ (w : ℕ) (h : w < 1000000) where
  -- the value is whole, and stands for the event e
  goes_end : (k v : ℕ) (e : Event) → event_number k v ≡ number_of e → (x : List ℕ) → Goes (line_at w 3 k v) x (end_says e (first_line x))
  unfolding pick next found read ended first_line after_line
  goes_end k v e i [] = (refl, refl)
  goes_end k v e i (b ∷ x) =
      split (eqb b 10) (λ j. rw (eqb-true b 10 j, one_more w h) (ap (λ (n : ℕ). n ∷ found (fresh (w + 1)) x) i, refl))
      (λ j. goes_as (line_at w 3 k v) (b ∷ x) (no_so _ (and_no_left (eqb b 10) _ j) refl)
      (goes_bad (line_at w 3 k v) b x (and_no_left (eqb b 10) true j) (rw j refl)))

  -- a reading that is too large stays so
  too_large : (v : ℕ) (l : List ℕ) → 2 ^ 32 ≤ v → digits_say v l ≡ bad
  unfolding digits_say
  too_large v [] h = refl
  too_large v (b ∷ l) h =
      sym (split (is_digit b) (λ e. yes_so _ e (sym (too_large (v * 10 + (b - 48)) l (omega arith)))) (λ e. no_so _ e (no_so _ (le-ltb v (2 ^ 32) h) refl)))

  small : (b : ℕ) → is_digit b ≡ true → b - 48 < 2 ^ 32
  small b e = omega (arith, leb-true b 57 (and_right (leb 48 b) (leb b 57) e))

  -- LF is no name
  name_lf : (b : ℕ) → ltb (kind_of b) 6 ≡ true → eqb b 10 ≡ false
  unfolding pick kind_of
  name_lf b e = split (eqb b 10) (λ i. absurd (true≢false (sym e ∙ rw (eqb-true b 10 i) refl))) (λ i. i)

  digit_lf : (b : ℕ) → is_digit b ≡ true → eqb b 10 ≡ false
  digit_lf b e = ne_eqb b 10 (λ i. omega (arith, digit_low b e))

  goes_digits : (v : ℕ) (x : List ℕ) → v < 2 ^ 32 → Goes (line_at w 4 5 v) x (digits_say v (first_line x))
  unfolding pick next found read ended first_line after_line digits_say
  goes_digits v [] s = (refl, refl)
  goes_digits v (b ∷ x) s =
      split (is_digit b)
      (λ d. let n = digit_lf b d in
      let says : digits_say (v * 10 + (b - 48)) (first_line x) ≡ digits_say v (first_line (b ∷ x)) = yes_so _ d (rw n refl) in
      split (ltb (v * 10 + (b - 48)) (2 ^ 32))
      (λ i. goes_as (line_at w 4 5 v) (b ∷ x) says (goes_on (line_at w 4 5 v) (line_at w 4 5 (v * 10 + (b - 48))) b x
      (digits_say (v * 10 + (b - 48)) (first_line x)) refl n (rw (d, i) refl) (goes_digits (v * 10 + (b - 48)) x (ltb-true _ _ i))))
      (λ i. goes_as (line_at w 4 5 v) (b ∷ x) (sym (too_large (v * 10 + (b - 48)) (first_line x) (ltb-false _ _ i)) ∙ says)
      (goes_bad (line_at w 4 5 v) b x (and_no_left (eqb b 10) true n) (rw (d, i) refl))))
      (λ d. split (eqb b 10)
      (λ e. rw (eqb-true b 10 e, lt-ltb v (2 ^ 32) s, one_more w h) (refl, refl))
      (λ e. goes_as (line_at w 4 5 v) (b ∷ x)
      (no_so _ d (yes_so _ (lt-ltb v (2 ^ 32) s) (no_so _ (and_no_left (eqb b 10) (is_empty (pick (eqb b 10) [] (first_line x))) e) refl)))
      (goes_bad (line_at w 4 5 v) b x (and_no_left (eqb b 10) true e) (rw (d, e) refl))))

  -- a level, of a kind whose numbers stand for the events that `sets` makes
  Stands : ℕ → (Bool → Event) → Type 0
  Stands k sets = (k < 5) × ((event_number k 0 ≡ number_of (sets false)) × (event_number k 1 ≡ number_of (sets true)))

  goes_level : (k : ℕ) (sets : Bool → Event) → Stands k sets → (v : ℕ) (x : List ℕ) → Goes (line_at w 2 k v) x (level_says sets (first_line x))
  unfolding pick next found read ended first_line after_line Stands
  goes_level k sets m v [] = (refl, refl)
  goes_level k sets m v (b ∷ x) =
      let here = line_at w 2 k v in
      let pin : ltb k 5 ≡ true = lt-ltb k 5 m.0 in
      split (eqb b 48)
      (λ z. let n = ne_eqb b 10 (λ i. omega (arith, eqb-true b 48 z)) in
      goes_as here (b ∷ x) {A =
      end_says (sets false) (first_line x)} (yes_so _ z (rw n refl))
      (goes_on here (line_at w 3 k 0) b x (end_says (sets false) (first_line x)) refl n (rw z refl) (goes_end k 0 (sets false) m.1.0 x)))
      (λ z. split (eqb b 49)
      (λ o. let n = ne_eqb b 10 (λ j. omega (arith, eqb-true b 49 o)) in
      goes_as here (b ∷ x) {A =
      end_says (sets true) (first_line x)} (no_so _ z (yes_so _ o (rw n refl)))
      (goes_on here (line_at w 3 k 1) b x (end_says (sets true) (first_line x)) refl n (rw (z, pin, o) refl) (goes_end k 1 (sets true) m.1.1 x)))
      (λ o. goes_as here (b ∷ x) {A = bad} (no_so _ z (no_so _ o refl)) (goes_bad here b x (and_no_right (eqb b 10) false refl) (rw (z, pin, o) refl))))

  goes_reading : (v : ℕ) (x : List ℕ) → Goes (line_at w 2 5 v) x (reading_says (first_line x))
  unfolding pick next found read ended first_line after_line
  goes_reading v [] = (refl, refl)
  goes_reading v (b ∷ x) =
      let here = line_at w 2 5 v in
      split (eqb b 48)
      (λ z. let n = ne_eqb b 10 (λ i. omega (arith, eqb-true b 48 z)) in
      goes_as here (b ∷ x) {A =
      end_says (Time 0) (first_line x)} (yes_so _ z (rw n refl))
      (goes_on here (line_at w 3 5 0) b x (end_says (Time 0) (first_line x)) refl n (rw z refl) (goes_end 5 0 (Time 0) refl x)))
      (λ z. split (is_digit b)
      (λ d. let n = digit_lf b d in
      goes_as here (b ∷ x) {A = digits_say (b - 48) (first_line x)} (no_so _ z (yes_so _ d (rw n refl)))
      (goes_on here (line_at w 4 5 (b - 48)) b x (digits_say (b - 48) (first_line x)) refl n (rw (z, d) refl) (goes_digits (b - 48) x (small b d))))
      (λ d. goes_as here (b ∷ x) {A = bad} (no_so _ z (no_so _ d refl)) (goes_bad here b x (and_no_right (eqb b 10) false refl) (rw (z, d) refl))))

  -- the name and the tab, before a value that goes as `value` says
  goes_tab : (k : ℕ) (value : List ℕ → Said) → ((v : ℕ) (x : List ℕ) → Goes (line_at w 2 k v) x (value (first_line x)))
      → (v : ℕ) (x : List ℕ) → Goes (line_at w 1 k v) x (tab_says value (first_line x))
  unfolding pick next found read ended first_line after_line
  goes_tab k value g v [] = (refl, refl)
  goes_tab k value g v (b ∷ x) =
      let here = line_at w 1 k v in
      split (eqb b 9)
      (λ e. let n = ne_eqb b 10 (λ i. omega (arith, eqb-true b 9 e)) in
      goes_as here (b ∷ x) {A =
      value (first_line x)} (yes_so _ e (rw n refl)) (goes_on here (line_at w 2 k 0) b x (value (first_line x)) refl n (rw e refl) (g 0 x)))
      (λ e. goes_as here (b ∷ x) {A = bad} (no_so _ e refl) (goes_bad here b x (and_no_right (eqb b 10) false refl) (rw e refl)))

  goes_name : (b k : ℕ) (value : List ℕ → Said) → kind_of b ≡ k → k < 6 → ((v : ℕ) (x : List ℕ) → Goes (line_at w 2 k v) x (value (first_line x)))
      → (x : List ℕ) → Goes (fresh w) (b ∷ x) (tab_says value (pick (eqb b 10) [] (first_line x)))
  unfolding pick next
  goes_name b k value i m g x =
      let name : ltb (kind_of b) 6 ≡ true = rw i (lt-ltb k 6 m) in
      let n = name_lf b name in
      let same : tab_says value (first_line x) ≡ tab_says value (pick (eqb b 10) [] (first_line x)) = rw n refl in
      goes_as (fresh w) (b ∷ x) same
      (goes_on (fresh w) (line_at w 1 k 0) b x (tab_says value (first_line x)) refl n (rw (lt-ltb w 1000000 h, name, i) refl) (goes_tab k value g 0 x))

  -- a line from its start
  goes_line : (b : ℕ) (x : List ℕ) → Goes (fresh w) (b ∷ x) (line_says (first_line (b ∷ x)))
  unfolding pick next kind_of first_line line_says Stands
  goes_line b x =
      let here = fresh w in
      split (eqb b 83)
      (λ s. goes_as here (b ∷ x) (yes_so _ s refl) (goes_name b 0 (level_says S) (rw s refl) (omega arith) (goes_level 0 S (omega arith, (refl, refl))) x))
      (λ s. split (eqb b 67)
      (λ c. goes_as here (b ∷ x) (no_so _ s (yes_so _ c refl))
      (goes_name b 1 (level_says C) (rw (s, c) refl) (omega arith) (goes_level 1 C (omega arith, (refl, refl))) x))
      (λ c. split (eqb b 68)
      (λ d. goes_as here (b ∷ x) (no_so _ s (no_so _ c (yes_so _ d refl)))
      (goes_name b 2 (level_says D) (rw (s, c, d) refl) (omega arith) (goes_level 2 D (omega arith, (refl, refl))) x))
      (λ d. split (eqb b 87)
      (λ k. goes_as here (b ∷ x) (no_so _ s (no_so _ c (no_so _ d (yes_so _ k refl))))
      (goes_name b 3 (level_says W) (rw (s, c, d, k) refl) (omega arith) (goes_level 3 W (omega arith, (refl, refl))) x))
      (λ k. split (eqb b 72)
      (λ p. goes_as here (b ∷ x) (no_so _ s (no_so _ c (no_so _ d (no_so _ k (yes_so _ p refl)))))
      (goes_name b 4 (level_says Hold) (rw (s, c, d, k, p) refl) (omega arith) (goes_level 4 Hold (omega arith, (refl, refl))) x))
      (λ p. split (eqb b 84)
      (λ t. goes_as here (b ∷ x) (no_so _ s (no_so _ c (no_so _ d (no_so _ k (no_so _ p (yes_so _ t refl))))))
      (goes_name b 5 reading_says (rw (s, c, d, k, p, t) refl) (omega arith) goes_reading x))
      (λ t. goes_as here (b ∷ x) {A = bad} (no_so _ s (no_so _ c (no_so _ d (no_so _ k (no_so _ p (no_so _ t refl))))))
      (goes_bad here b x (and_no_right (eqb b 10) false refl) (rw (lt-ltb w 1000000 h, s, c, d, k, p, t) refl))))))))

-- ---- the whole text, from a line start with n lines left of the million

-- the text at its end: stopped after w lines where it is bad, else at the start of a line
abbrev Ends : ℕ → Bool → Line
Ends w t = pick t (stopped w) (fresh w)

Right : (n w : ℕ) (x : List ℕ) → Type 0
Right n w x = (found (fresh w) x ≡ map number_of (good_lines n x)) × (ended (read (fresh w) x) ≡ Ends (w + length (good_lines n x)) (has_bad n x))

-- what holds after the first line holds of the text
after_first : (n w : ℕ) (b : ℕ) (x : List ℕ) (A : Said) → Goes (fresh w) (b ∷ x) A → Right n (w + 1) (after_line (b ∷ x))
    → (found (fresh w) (b ∷ x) ≡ map number_of (good_then A (λ _. good_lines n (after_line (b ∷ x)))))
    × (ended (read (fresh w) (b ∷ x)) ≡ Ends (w + length (good_then A (λ _. good_lines n (after_line (b ∷ x))))) (bad_then A (λ _. has_bad n (after_line (b ∷ x)))))
unfolding pick Right
after_first n w b x (event e) g r =
    let more : w + 1 + length (good_lines n (after_line (b ∷ x))) ≡ w + length (e ∷ good_lines n (after_line (b ∷ x))) = omega arith in
    (g.0 ∙ ap (λ (es : List ℕ). number_of e ∷ es) r.0, ap ended g.1 ∙ r.1 ∙ ap (λ (k : ℕ). Ends k (has_bad n (after_line (b ∷ x)))) more)
after_first n w b x bad g r = (g.0, g.1 ∙ ap stopped (sym (add-zero w)))

right_none : (w : ℕ) (x : List ℕ) → w ≡ 1000000 → Right 0 w x
unfolding pick Right next found read ended good_lines has_bad
right_none w [] h = (refl, ap fresh (sym (add-zero w)))
right_none w (b ∷ x) h =
    let full : next (fresh w) b ≡ stopped w = rw (le-ltb w 1000000 (omega arith)) refl in
    let g = goes_bad (fresh w) b x (and_no_right (eqb b 10) false refl) full in
    (g.0, g.1 ∙ ap stopped (sym (add-zero w)))

right_more : (n w : ℕ) (x : List ℕ) → w < 1000000 → Right n (w + 1) (after_line x) → Right (suc n) w x
unfolding pick Right found read ended first_line line_says good_lines has_bad
right_more n w [] h r = (refl, ap fresh (sym (add-zero w)))
right_more n w (b ∷ x) h r = after_first n w b x (line_says (first_line (b ∷ x))) (goes_line w h b x) r

right : (n w : ℕ) (x : List ℕ) → w + n ≡ 1000000 → Right n w x
right zero w x h = right_none w x (omega arith)
right (suc n) w x h = right_more n w x (omega arith) (right n (w + 1) (after_line x) (omega arith))

pub text_found : (x : List ℕ) → found (fresh 0) x ≡ map number_of (good_lines 1000000 x)
unfolding Right
text_found x = (right 1000000 0 x refl).0

pub text_ended : (x : List ℕ) → ended (read (fresh 0) x)
    ≡ pick (has_bad 1000000 x) (stopped (0 + length (good_lines 1000000 x))) (fresh (0 + length (good_lines 1000000 x)))
unfolding Right
text_ended x = (right 1000000 0 x refl).1

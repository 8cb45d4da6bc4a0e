-- A line of a level, whole: its four bytes one after another make the next line's start, and say its event.
use mathlib.Core.Path.{◌≡◌, refl, ap, sym, ◌∙◌}
use mathlib.Core.Bool.{Bool, true, false, ◌&&◌, ◌||◌, and-false}
use mathlib.Core.List.{List, [], ◌∷◌, ◌++◌, append_assoc}
use Rattle.std.specs.Prelude.{Some, None}
use Prim.Native.Nat.{ℕ, suc, ◌+◌, ◌%◌, ◌<◌, ◌≤◌, min}
use native.Mathlib.Omega.{arith}
use lib.ListN.{length, take, get_or}
use lib.Dec.{eqb, ltb}
use borrow.Author.Tests.{eqb-true, lt-ltb, ltb-true}
use Rattle.laws.specs.Pick.{pick, and_left, and_right, and_no_right}
use Rattle.laws.specs.And.{and_4_out}
use Rattle.lines.specs.declared.Line.{Line}
use Rattle.lines.specs.Reading.{kind_of, event_number, is_level_line, line_at, fresh, next, said, read, found}
use Rattle.lines.proofs.Runs.{said_none, read_more, found_more}

level_cases : (w k e : ℕ) → ltb k 5 ≡ true → (eqb e 48 || eqb e 49) ≡ true → next (line_at w 2 k 0) e ≡ line_at w 3 k (e % 2)
unfolding pick next
level_cases w k e i h = by_zero (eqb e 48) refl h
  where
    by_zero : (t : Bool) → eqb e 48 ≡ t → (t || eqb e 49) ≡ true → next (line_at w 2 k 0) e ≡ line_at w 3 k (e % 2)
    by_zero true p h = rw (eqb-true e 48 p) refl
    by_zero false p h = rw (eqb-true e 49 h, i) refl

module _ (l : Line) (name tab level end : ℕ) (at : (eqb l.place 0 && ltb l.whole 1000000) ≡ true) (is : is_level_line name tab level end ≡ true) where
  all : (ltb (kind_of name) 5 ≡ true) × ((eqb tab 9 ≡ true) × (((eqb level 48 || eqb level 49) ≡ true) × (eqb end 10 ≡ true)))
  all = and_4_out (ltb (kind_of name) 5) (eqb tab 9) (eqb level 48 || eqb level 49) (eqb end 10) is

  start : l.place ≡ 0
  start = eqb-true l.place 0 (and_left (eqb l.place 0) (ltb l.whole 1000000) at)

  -- the line in hand after each byte
  one : next l name ≡ line_at l.whole 1 (kind_of name) 0
  unfolding pick next
  one =
      let k : ltb (kind_of name) 6 ≡ true = lt-ltb (kind_of name) 6 (omega (arith, ltb-true (kind_of name) 5 all.0)) in
      rw (start, and_right (eqb l.place 0) (ltb l.whole 1000000) at, k) refl

  two : next (next l name) tab ≡ line_at l.whole 2 (kind_of name) 0
  unfolding pick next
  two = rw (one, eqb-true tab 9 all.1.0) refl

  three : next (next (next l name) tab) level ≡ line_at l.whole 3 (kind_of name) (level % 2)
  three = rw two (level_cases l.whole (kind_of name) level all.0 all.1.1.0)

  pub line_read : next (next (next (next l name) tab) level) end ≡ fresh (min 1000000 (l.whole + 1))
  unfolding pick next
  line_read = rw (three, eqb-true end 10 all.1.1.1) refl

  -- only the last byte ends it
  pub line_said : said l name ++ (said (next l name) tab ++ (said (next (next l name) tab) level ++ said (next (next (next l name) tab) level) end))
      ≡ event_number (kind_of name) (level % 2) ∷ []
  unfolding pick
  line_said =
      rw (
        said_none l name (and_no_right (eqb name 10) (eqb l.place 3 || eqb l.place 4) (rw start refl)),
        three,
        two,
        one,
        eqb-true end 10
            all.1.1.1,
        and-false (eqb tab 10),
        and-false (eqb level 10),
      ) refl

-- ---- the kind that the code gives for four bytes

pub kind_known : (name tab level end k : ℕ) → pick (is_level_line name tab level end) (Some (kind_of name)) None ≡ Some k
    → (is_level_line name tab level end ≡ true) × (k ≡ kind_of name)
unfolding pick
kind_known name tab level end k = by_test_law (is_level_line name tab level end) refl
  where
    by_test_law : (t : Bool) → is_level_line name tab level end ≡ t → pick t (Some (kind_of name)) None ≡ Some k
        → (is_level_line name tab level end ≡ true) × (k ≡ kind_of name)
    by_test_law true p e = (p, cc)
    by_test_law false p e = cc

-- ---- the same within a text

module _ (l : Line) (x : List ℕ) where
  -- one byte more of the text
  more_read : (i j : ℕ) (h : Line) → j ≡ i + 1 → i < length x → h ≡ read l (take i x) → next h (get_or x i 0) ≡ read l (take j x)
  more_read i j h e b p =
      let up : suc i ≡ j = omega (arith, e) in
      ap (λ (k : Line). next k (get_or x i 0)) p ∙ sym (read_more l x i b) ∙ ap (λ (n : ℕ). read l (take n x)) up

  more_found : (i j : ℕ) (h : Line) → j ≡ i + 1 → i < length x → h ≡ read l (take i x) → found l (take j x) ≡ found l (take i x) ++ said h (get_or x i 0)
  more_found i j h e b p =
      let up : j ≡ suc i = omega (arith, e) in
      ap (λ (n : ℕ). found l (take n x)) up ∙ found_more l x i b ∙ ap (λ (k : Line). found l (take i x) ++ said k (get_or x i 0)) (sym p)

  pub byte_read : (i : ℕ) (h : Line) → i < length x → h ≡ read l (take i x) → next h (get_or x i 0) ≡ read l (take (i + 1) x)
  byte_read i h b p = more_read i (i + 1) h refl b p

  pub byte_found : (i : ℕ) (h : Line) → i < length x → h ≡ read l (take i x) → found l (take i x) ++ said h (get_or x i 0) ≡ found l (take (i + 1) x)
  byte_found i h b p = sym (more_found i (i + 1) h refl b p)

  module _ (i : ℕ) (h : Line) (b : i + 4 ≤ length x) (p : h ≡ read l (take i x)) where
    first : next h (get_or x i 0) ≡ read l (take (i + 1) x)
    first = more_read i (i + 1) h refl (omega arith) p

    second : next (next h (get_or x i 0)) (get_or x (i + 1) 0) ≡ read l (take (i + 2) x)
    second = more_read (i + 1) (i + 2) _ (omega arith) (omega arith) first

    third : next (next (next h (get_or x i 0)) (get_or x (i + 1) 0)) (get_or x (i + 2) 0) ≡ read l (take (i + 3) x)
    third = more_read (i + 2) (i + 3) _ (omega arith) (omega arith) second

    module _ (at : (eqb h.place 0 && ltb h.whole 1000000) ≡ true)
        (is : is_level_line (get_or x i 0) (get_or x (i + 1) 0) (get_or x (i + 2) 0) (get_or x (i + 3) 0) ≡ true) where
      pub whole_read : fresh (min 1000000 (h.whole + 1)) ≡ read l (take (i + 4) x)
      whole_read =
          sym (line_read h (get_or x i 0) (get_or x (i + 1) 0) (get_or x (i + 2) 0) (get_or x (i + 3) 0) at is) ∙ more_read (i + 3) (i + 4) _ (omega arith)
          (omega arith) third

      pub whole_found : found l (take i x) ++ (event_number (kind_of (get_or x i 0)) (get_or x (i + 2) 0 % 2) ∷ []) ≡ found l (take (i + 4) x)
      whole_found =
          let F = found l (take i x) in
          let s0 = said h (get_or x i 0) in
          let s1 = said (next h (get_or x i 0)) (get_or x (i + 1) 0) in
          let s2 = said (next (next h (get_or x i 0)) (get_or x (i + 1) 0)) (get_or x (i + 2) 0) in
          let s3 = said (next (next (next h (get_or x i 0)) (get_or x (i + 1) 0)) (get_or x (i + 2) 0)) (get_or x (i + 3) 0) in
          let all : found l (take (i + 4) x) ≡ F ++ (s0 ++ (s1 ++ (s2 ++ s3))) =
          more_found (i + 3) (i + 4) _ (omega arith) (omega arith) third
          ∙ ap (λ (e : List ℕ). e ++ s3) (more_found (i + 2) (i + 3) _ (omega arith) (omega arith) second)
          ∙ ap (λ (e : List ℕ). (e ++ s2) ++ s3) (more_found (i + 1) (i + 2) _ (omega arith) (omega arith) first)
          ∙ ap (λ (e : List ℕ). ((e ++ s1) ++ s2) ++ s3) (more_found i (i + 1) h refl (omega arith) p)
          ∙ append_assoc ((F ++ s0) ++ s1) s2 s3 ∙ append_assoc (F ++ s0) s1 (s2 ++ s3) ∙ append_assoc F s0 (s1 ++ (s2 ++ s3)) in
          ap (λ (e : List ℕ). F ++ e) (sym (line_said h (get_or x i 0) (get_or x (i + 1) 0) (get_or x (i + 2) 0) (get_or x (i + 3) 0) at is)) ∙ sym all

-- The record at the front of a text: what its being good says, and where it is not.
use mathlib.Core.Path.{◌≡◌, refl, ap, sym, ◌∙◌}
use mathlib.Core.Bool.{Bool, true, false, ◌&&◌, true≢false}
use mathlib.Core.List.{List}
use Prim.Native.Nat.{ℕ, ◌+◌, ◌*◌, ◌%◌, ◌<◌, ◌≤◌}
use native.Mathlib.Decide.{dec_lt}
use native.Mathlib.Omega.{arith}
use lib.ListN.{length, get_or, get_or-eq_default}
use lib.Dec.{eqb, leb}
use borrow.Author.Tests.{eqb-true, leb-true, ltb-true, le-ltb}
use Rattle.laws.specs.Pick.{and_left, and_right, and_no_left, and_no_right}
use Rattle.laws.specs.And.{and_3_out}
use Rattle.laws.specs.Each.{each, each_at}
use Rattle.laws.specs.Table.{table}
use Rattle.codes.specs.Part.{Part}
use Rattle.intel_hex.specs.Writing.{total}
use Rattle.intel_hex.specs.Reading.{line_byte, is_byte, data_length, address_at, type_at, is_framed, is_placed, sums_up, says_record, line_length}

pub by_test_law : {A : Type 0} (t : Bool) → (t ≡ true → A) → (t ≡ false → A) → A
by_test_law true f g = f refl
by_test_law false f g = g refl

-- a test of each that one fails
pub each_not : (f : ℕ → Bool) (n i : ℕ) → i < n → f i ≡ false → each f n ≡ false
each_not f n i h e = by_test_law (each f n) (λ p. absurd (true≢false (sym (each_at f n i p h) ∙ e))) (λ p. p)

-- no LF after the digits: the text is too short for them
pub unframed : (t : List ℕ) → length t < 2 * data_length t + 12 → is_framed t ≡ false
unframed t h =
    and_no_right (eqb (get_or t 0 0) 58) (eqb (get_or t (2 * data_length t + 11) 0) 10)
    (ap (λ (b : ℕ). eqb b 10) (get_or-eq_default t 0 {n = 2 * data_length t + 11} (omega arith)))

pub too_short : (P : Part) (t : List ℕ) → length t < 2 * data_length t + 12 → says_record P t ≡ false
unfolding says_record
too_short P t h =
    and_no_left (is_framed t && is_placed P t) (sums_up t (data_length t + 5)) (and_no_left (is_framed t) (is_placed P t) (unframed t h))

-- a length that is not two digits
pub no_length : (P : Part) (t : List ℕ) → 256 ≤ data_length t → says_record P t ≡ false
unfolding says_record
no_length P t h =
    let no : each (is_byte t) (data_length t + 5) ≡ false = each_not (is_byte t) (data_length t + 5) 0 (omega arith) (le-ltb (line_byte t 0) 256 h) in
    and_no_right (is_framed t && is_placed P t) (sums_up t (data_length t + 5))
    (and_no_left (each (is_byte t) (data_length t + 5)) (eqb (total (table (data_length t + 5) (line_byte t)) % 256) 0) no)

-- ---- what a good record has

module _ (P : Part) (t : List ℕ) (h : says_record P t ≡ true) where
  parts : (is_framed t ≡ true) × ((is_placed P t ≡ true) × (sums_up t (data_length t + 5) ≡ true))
  unfolding says_record
  parts = and_3_out (is_framed t) (is_placed P t) (sums_up t (data_length t + 5)) h

  pub front_colon : get_or t 0 0 ≡ 58
  front_colon = eqb-true _ _ (and_left (eqb (get_or t 0 0) 58) (eqb (get_or t (2 * data_length t + 11) 0) 10) parts.0)

  pub front_lf : get_or t (2 * data_length t + 11) 0 ≡ 10
  front_lf = eqb-true _ _ (and_right (eqb (get_or t 0 0) 58) (eqb (get_or t (2 * data_length t + 11) 0) 10) parts.0)

  pub front_type : type_at t ≡ 0
  front_type = eqb-true _ _ (and_left (eqb (type_at t) 0) (leb (address_at t + data_length t) P.size) parts.1.0)

  pub front_end : address_at t + data_length t ≤ P.size
  front_end = leb-true _ _ (and_right (eqb (type_at t) 0) (leb (address_at t + data_length t) P.size) parts.1.0)

  pub front_digits : each (is_byte t) (data_length t + 5) ≡ true
  front_digits =
      and_left (each (is_byte t) (data_length t + 5)) (eqb (total (table (data_length t + 5) (line_byte t)) % 256) 0) parts.1.1

  pub front_sum : total (table (data_length t + 5) (line_byte t)) % 256 ≡ 0
  front_sum =
      eqb-true _ _
      (and_right (each (is_byte t) (data_length t + 5)) (eqb (total (table (data_length t + 5) (line_byte t)) % 256) 0) parts.1.1)

  pub front_byte : (i : ℕ) → i < data_length t + 5 → line_byte t i < 256
  front_byte i b = ltb-true _ _ (each_at (is_byte t) (data_length t + 5) i front_digits b)

  pub front_length : line_length t ≤ length t
  front_length = elim (dec_lt (length t) (2 * data_length t + 12)) [
    | yes b ↦ absurd (true≢false (sym h ∙ too_short P t b))
    | no b ↦ omega arith
  ]

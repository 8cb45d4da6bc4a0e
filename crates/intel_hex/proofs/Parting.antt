-- What a text says, from one record to the next.
use mathlib.Core.Path.{◌≡◌, refl, ap, sym, ◌∙◌}
use mathlib.Core.Bool.{Bool, true, false}
use mathlib.Core.List.{List, []}
use Prim.Native.Nat.{ℕ, zero, suc, ◌+◌, ◌-◌, ◌<◌, ◌≤◌}
use native.Mathlib.Omega.{arith}
use lib.ListN.{length, take, drop, length-drop}
use lib.Seq.{take_all}
use Rattle.laws.specs.Pick.{pick, pick_case, pick_cong, at_yes, at_no}
use Rattle.codes.specs.Part.{Part}
use Rattle.intel_hex.specs.Writing.{end_line}
use Rattle.intel_hex.specs.Reading.{line_length, record_at, says_record, Parted, parted_first, parted_none, parted_by, parted, same_bytes, is_good}
use Rattle.intel_hex.proofs.Fronts.{by_test_law, too_short, front_length}

-- ---- what is lent of a text from an index on
pub tail_part : (t : List ℕ) (k : ℕ) → take (length t - k) (drop k t) ≡ drop k t
tail_part t k = take_all (length t - k) (drop k t) (rw length-drop (omega arith))

-- the test of what is left is the test of the text
pub good_told : (P : Part) (t : List ℕ) (at : ℕ) (r : Bool) → drop at t ≡ (parted P t).rest → r ≡ same_bytes (take (length t - at) (drop at t)) end_line
    → is_good P t ≡ r
good_told P t at r ends e = sym (e ∙ ap (λ (l : List ℕ). same_bytes l end_line) (tail_part t at ∙ ends))

module _ (P : Part) where
  none_left : (t : List ℕ) → length t ≤ 0 → says_record P t ≡ false
  none_left t h = too_short P t (omega arith)

  shorter : (t : List ℕ) (n : ℕ) → length t ≤ suc n → length (drop (line_length t) t) ≤ n
  shorter t n h = rw length-drop (omega arith)

  -- the count is no bound
  enough : (n k : ℕ) (t : List ℕ) → length t ≤ n → length t ≤ k → parted_by P n t ≡ parted_by P k t
  unfolding parted_by
  enough zero zero t h i = refl
  enough zero (suc k) t h i = sym (at_no _ _ (none_left t h))
  enough (suc n) zero t h i = at_no _ _ (none_left t i)
  enough (suc n) (suc k) t h i =
      pick_cong (says_record P t) (parted_none t)
      (λ e. ap (parted_first (record_at t)) (enough n k (drop (line_length t) t) (shorter t n h) (shorter t k i)))

  by_one : (t : List ℕ) → parted_by P (suc (length t)) t
      ≡ pick (says_record P t) (parted_first (record_at t) (parted_by P (length t) (drop (line_length t) t))) (parted_none t)
  unfolding parted_by
  by_one t = refl

  pub parted_more : (t : List ℕ) → says_record P t ≡ true → parted P t ≡ parted_first (record_at t) (parted P (drop (line_length t) t))
  unfolding parted
  parted_more t e =
      enough (length t) (suc (length t)) t (omega arith) (omega arith) ∙ by_one t ∙ at_yes _ _ e
      ∙ ap (parted_first (record_at t))
      (enough (length t) (length (drop (line_length t) t)) (drop (line_length t) t) (shorter t (length t) (omega arith)) (omega arith))

  pub parted_done : (t : List ℕ) → says_record P t ≡ false → parted P t ≡ parted_none t
  unfolding parted
  parted_done t e = enough (length t) (suc (length t)) t (omega arith) (omega arith) ∙ by_one t ∙ at_no _ _ e

  -- ---- where the records end

  rest_by : (n : ℕ) (t : List ℕ) → length (parted_by P n t).rest ≤ length t
  unfolding parted_by
  rest_by zero t = omega arith
  rest_by (suc n) t =
      pick_case (λ (s : Parted). length s.rest ≤ length t) (says_record P t)
      (λ e. omega (arith, rest_by n (drop (line_length t) t), length-drop (line_length t) t)) (λ e. omega arith)

  pub rest_length : (t : List ℕ) → length (parted P t).rest ≤ length t
  unfolding parted
  rest_length t = rest_by (length t) t

  -- less is left than there is: there is a record
  pub before_end : (t : List ℕ) → length (parted P t).rest < length t → says_record P t ≡ true
  before_end t h =
      by_test_law (says_record P t) (λ e. e)
      (λ e. let as_long : length (parted P t).rest ≡ length t = ap (λ (s : Parted). length s.rest) (parted_done t e) in absurd (omega (arith, as_long)))

  -- all of it is left: there is none
  pub at_end : (t : List ℕ) → length (parted P t).rest ≡ length t → (parted P t).records ≡ []
  at_end t h =
      by_test_law (says_record P t)
      (λ e. let less : length (parted P t).rest ≡ length (parted P (drop (line_length t) t)).rest = ap (λ (s : Parted). length s.rest) (parted_more t e) in
      absurd (omega (arith, less, rest_length (drop (line_length t) t), length-drop (line_length t) t, front_length P t e)))
      (λ e. ap (λ (s : Parted). s.records) (parted_done t e))

  -- at an index before the end of the records
  module _ (t : List ℕ) (at end : ℕ) (fits : end ≤ length t) (ends : drop end t ≡ (parted P t).rest) (here : (parted P (drop at t)).rest ≡ (parted P t).rest) where
    left : length (parted P (drop at t)).rest ≡ length t - end
    left = ap length here ∙ ap length (sym ends) ∙ length-drop end t

    pub more_left : at < end → says_record P (drop at t) ≡ true
    more_left h = before_end (drop at t) (omega (arith, left, length-drop at t))

    -- its line ends before it too
    pub line_inside : at < end → at + line_length (drop at t) ≤ end
    line_inside h =
        let good = more_left h in
        let n = line_length (drop at t) in
        let as_long : length (parted P (drop at t)).rest ≡ length (parted P (drop n (drop at t))).rest = ap (λ (s : Parted). length s.rest)
        (parted_more (drop at t) good) in
        omega (arith, as_long, left, rest_length (drop n (drop at t)), length-drop n (drop at t), length-drop at t, front_length P (drop at t) good)

    -- at the end there is no record
    pub none_left_at : at ≡ end → (parted P (drop at t)).records ≡ []
    none_left_at h = at_end (drop at t) (omega (arith, left, length-drop at t))

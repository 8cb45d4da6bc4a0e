-- Which texts are good: exactly the written texts of records that fit, and each says its records.
use mathlib.Core.Path.{◌≡◌, refl, ap, sym, ◌∙◌}
use mathlib.Core.Bool.{Bool, true, false, ◌&&◌}
use mathlib.Core.List.{List, [], ◌∷◌, ◌++◌, append_assoc}
use Prim.Native.Nat.{ℕ, zero, suc, ◌<◌}
use native.Mathlib.Omega.{arith}
use lib.ListN.{length, get_or, drop}
use lib.Seq.{ext_get_or}
use lib.Dec.{eqb}
use borrow.Author.Tests.{eqb-true, eq-eqb}
use Rattle.laws.specs.Pick.{pick, pick_case, and_left, and_right, and_both}
use Rattle.laws.specs.Each.{each, each_at, each_of}
use Rattle.codes.specs.Part.{Part}
use Rattle.intel_hex.specs.Writing.{HexRecord, record_line, records_text, end_line, hex_text}
use Rattle.intel_hex.specs.Reading.{record_at, line_length, says_record, Parted, parted_first, parted_none, parted_by, parted, same_bytes, is_good}
use Rattle.intel_hex.proofs.Parting.{parted_more, parted_done}
use Rattle.hex_theorems.specs.Fitting.{Fits, AllFit, Says}
use Rattle.hex_theorems.proofs.Lines.{line_record, line_rest, line_says_law, end_says_law}
use Rattle.hex_theorems.proofs.Rewritten.{first_line_law, first_fits}

-- ---- the test of two lists

same_equal : (x y : List ℕ) → same_bytes x y ≡ true → x ≡ y
same_equal x y e =
    let long : length x ≡ length y = eqb-true _ _ (and_left (eqb (length x) (length y)) (each (λ i. eqb (get_or x i 0) (get_or y i 0)) (length y)) e) in
    let all = and_right (eqb (length x) (length y)) (each (λ i. eqb (get_or x i 0) (get_or y i 0)) (length y)) e in
    ext_get_or 0 x y long (λ i h. eqb-true _ _ (each_at (λ j. eqb (get_or x j 0) (get_or y j 0)) (length y) i all (omega arith)))

same_itself : (y : List ℕ) → same_bytes y y ≡ true
same_itself y =
    and_both (eqb (length y) (length y)) (each (λ i. eqb (get_or y i 0) (get_or y i 0)) (length y)) (eq-eqb (length y) (length y) refl)
    (each_of (λ i. eqb (get_or y i 0) (get_or y i 0)) (length y) (λ i h. eq-eqb (get_or y i 0) (get_or y i 0) refl))

module _ (P : Part) where
  -- ---- every text is the lines of its records and what is left, and they fit

  -- what holds of a text in two parts
  Whole : List ℕ → Parted → Type 0
  Whole t s = (records_text s.records ++ s.rest ≡ t) × AllFit P s.records

  whole_by : (k : ℕ) (t : List ℕ) → Whole t (parted_by P k t)
  unfolding Whole parted_by records_text
  whole_by zero t = (refl, tt)
  whole_by (suc k) t =
      pick_case (Whole t) (says_record P t)
      (λ e. let u = drop (line_length t) t in
      let more = whole_by k u in (
        append_assoc (record_line (record_at t)) (records_text (parted_by P k u).records) (parted_by P k u).rest
            ∙ ap (λ (l : List ℕ). record_line (record_at t) ++ l) more.0 ∙ first_line_law P t e,
        (first_fits P t e, more.1),
      ))
      (λ e. (refl, tt))

  -- a good text is the text of its records, and they fit
  pub good_says : (t : List ℕ) → is_good P t ≡ true → Says P t (parted P t).records
  unfolding Whole parted
  good_says t e =
      let whole = whole_by (length t) t in
      let end : (parted P t).rest ≡ end_line = same_equal (parted P t).rest end_line e in
      record { written = sym whole.0 ∙ ap (λ (l : List ℕ). records_text (parted P t).records ++ l) end; fitting = whole.1 }

  -- ---- the text of records that fit is read as them

  read_back : (rs : List HexRecord) → AllFit P rs → parted P (hex_text rs) ≡ record { records = rs; rest = end_line }
  unfolding records_text
  read_back [] f = parted_done P end_line (end_says_law P)
  read_back (r ∷ rs) f =
      let u = record_line r ++ hex_text rs in
      ap (parted P) (append_assoc (record_line r) (records_text rs) end_line) ∙ parted_more P u (line_says_law P r f.0 (hex_text rs))
      ∙ ap (λ (x : HexRecord). parted_first x (parted P (drop (line_length u) u))) (line_record P r f.0 (hex_text rs))
      ∙ ap (λ (l : List ℕ). parted_first r (parted P l)) (line_rest P r f.0 (hex_text rs)) ∙ ap (parted_first r) (read_back rs f.1)

  pub says_parted : (t : List ℕ) (rs : List HexRecord) → Says P t rs → parted P t ≡ record { records = rs; rest = end_line }
  says_parted t rs s = ap (parted P) s.written ∙ read_back rs s.fitting

  pub says_good : (t : List ℕ) (rs : List HexRecord) → Says P t rs → is_good P t ≡ true
  says_good t rs s = ap (λ (p : Parted). same_bytes p.rest end_line) (says_parted t rs s) ∙ same_itself end_line

  -- a text says one list of records
  pub says_one : (t : List ℕ) (rs qs : List HexRecord) → Says P t rs → Says P t qs → rs ≡ qs
  says_one t rs qs a b = ap (λ (p : Parted). p.records) (sym (says_parted t rs a) ∙ says_parted t qs b)

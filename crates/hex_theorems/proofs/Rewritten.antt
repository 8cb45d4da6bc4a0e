-- A good record at the front of a text, written again: it fits, and its line is what the text begins with.
use mathlib.Core.Path.{◌≡◌, refl, ap, sym, ◌∙◌}
use mathlib.Core.Bool.{Bool, true, false, ◌&&◌}
use mathlib.Core.List.{List, [], ◌∷◌, ◌++◌, append_assoc}
use Prim.Native.Nat.{ℕ, zero, suc, ◌+◌, ◌-◌, ◌*◌, ◌/◌, ◌%◌, ◌<◌, ◌≤◌}
use native.Mathlib.Decide.{dec_lt}
use native.Mathlib.Omega.{arith}
use lib.ListN.{length, get_or, take, drop, length-append, length-drop, take-append-drop, get_or-eq_default}
use lib.Seq.{take-suc, drop-cons, drop-drop, get_or-drop}
use Rattle.laws.specs.Table.{table, table_length, table_at, table_is}
use Rattle.codes.specs.Part.{Part}
use Rattle.intel_hex.specs.Writing.{HexRecord, byte_text, bytes_text, total, sum_byte, fields, record_line}
use Rattle.intel_hex.specs.Reading.{digit, line_byte, data_length, address_at, type_at, record_at, line_length, says_record}
use Rattle.intel_hex.proofs.Sums.{table_more, total_append, total_one}
use Rattle.intel_hex.proofs.Fronts.{front_colon, front_lf, front_type, front_end, front_sum, front_byte, front_length}
use Rattle.intel_hex.proofs.Writes.{bytes_text_append}
use Rattle.hex_theorems.specs.Fitting.{Bytes, Fits}
use Rattle.hex_theorems.proofs.Digits.{byte_written}

-- ---- the digits that follow a first byte

module _ (t : List ℕ) where
  -- byte k in digits is the two that stand there
  there : (k : ℕ) → line_byte t k < 256 → byte_text (line_byte t k) ≡ get_or (drop 1 t) (2 * k) 0 ∷ get_or (drop 1 t) (2 * k + 1) 0 ∷ []
  unfolding line_byte
  there k h =
      let one : 1 + 2 * k ≡ 2 * k + 1 = omega arith in
      let two : 1 + (2 * k + 1) ≡ 2 * k + 2 = omega arith in
      let a : get_or (drop 1 t) (2 * k) 0 ≡ get_or t (2 * k + 1) 0 = get_or-drop 1 t (2 * k) 0 ∙ ap (λ (i : ℕ). get_or t i 0) one in
      let b : get_or (drop 1 t) (2 * k + 1) 0 ≡ get_or t (2 * k + 2) 0 = get_or-drop 1 t (2 * k + 1) 0 ∙ ap (λ (i : ℕ). get_or t i 0) two in
      byte_written (get_or t (2 * k + 1) 0) (get_or t (2 * k + 2) 0) h ∙ ap (λ (x : ℕ). x ∷ get_or t (2 * k + 2) 0 ∷ []) (sym a)
      ∙ ap (λ (x : ℕ). get_or (drop 1 t) (2 * k) 0 ∷ x ∷ []) (sym b)

  two_more : (w : List ℕ) (k : ℕ) → 2 * k + 2 ≤ length w → take (2 * (k + 1)) w ≡ take (2 * k) w ++ (get_or w (2 * k) 0 ∷ get_or w (2 * k + 1) 0 ∷ [])
  two_more w k h =
      let on : 2 * (k + 1) ≡ suc (suc (2 * k)) = omega arith in
      let next : suc (2 * k) ≡ 2 * k + 1 = omega arith in
      ap (λ (i : ℕ). take i w) on ∙ take-suc w (suc (2 * k)) 0 (omega arith)
      ∙ ap (λ (l : List ℕ). l ++ (get_or w (suc (2 * k)) 0 ∷ [])) (take-suc w (2 * k) 0 (omega arith))
      ∙ append_assoc (take (2 * k) w) (get_or w (2 * k) 0 ∷ []) (get_or w (suc (2 * k)) 0 ∷ [])
      ∙ ap (λ (i : ℕ). take (2 * k) w ++ (get_or w (2 * k) 0 ∷ get_or w i 0 ∷ [])) next

  digits_none : bytes_text (table 0 (line_byte t)) ≡ take (2 * 0) (drop 1 t)
  unfolding bytes_text table Rattle.laws.specs.Table.from
  digits_none = refl

  one_byte : (v : ℕ) → bytes_text (v ∷ []) ≡ byte_text v
  unfolding bytes_text
  one_byte v = refl

  -- the first k bytes in digits are the digits that stand there
  digits_there : (k : ℕ) → 2 * k ≤ length (drop 1 t) → ((i : ℕ) → i < k → line_byte t i < 256) → bytes_text (table k (line_byte t)) ≡ take (2 * k) (drop 1 t)
  digits_there zero h b = digits_none
  digits_there (suc k) h b =
      let on : k + 1 ≡ suc k = omega arith in
      ap (λ (j : ℕ). bytes_text (table j (line_byte t))) (sym on) ∙ ap bytes_text (table_more (line_byte t) k)
      ∙ bytes_text_append (table k (line_byte t)) (line_byte t k ∷ [])
      ∙ ap (λ (l : List ℕ). bytes_text (table k (line_byte t)) ++ l) (one_byte (line_byte t k) ∙ there k (b k (omega arith)))
      ∙ ap (λ (l : List ℕ). l ++ (get_or (drop 1 t) (2 * k) 0 ∷ get_or (drop 1 t) (2 * k + 1) 0 ∷ [])) (digits_there k (omega arith) (λ i g. b i (omega arith)))
      ∙ sym (two_more (drop 1 t) k (omega arith)) ∙ ap (λ (j : ℕ). take (2 * j) (drop 1 t)) on

module _ (P : Part) (t : List ℕ) (good : says_record P t ≡ true) where
  abbrev n : ℕ
  n = data_length t

  abbrev f : ℕ → ℕ
  f = line_byte t

  small : (i : ℕ) → i < n + 5 → f i < 256
  small i h = front_byte P t good i h

  long : 2 * n + 12 ≤ length t
  long = front_length P t good

  -- ---- the fields and the sum are the bytes of the line

  fields_length : length (fields (record_at t)) ≡ n + 4
  fields_length = ap (λ (k : ℕ). suc (suc (suc (suc k)))) (table_length (λ i. f (i + 4)) n) ∙ omega arith

  fields_at : (i : ℕ) → i < n + 4 → get_or (fields (record_at t)) i 0 ≡ f i
  fields_at zero h = table_length (λ i. f (i + 4)) n
  fields_at (suc zero) h = omega (arith, small 2 (omega arith))
  fields_at (suc (suc zero)) h = omega (arith, small 2 (omega arith))
  fields_at (suc (suc (suc zero))) h = sym (front_type P t good)
  fields_at (suc (suc (suc (suc i)))) h =
      let on : i + 4 ≡ suc (suc (suc (suc i))) = omega arith in
      table_at (λ j. f (j + 4)) n i 0 (omega arith) ∙ ap f on

  fields_are : fields (record_at t) ≡ table (n + 4) f
  fields_are = table_is f (fields (record_at t)) (n + 4) 0 fields_length fields_at

  five : table (n + 5) f ≡ table (n + 4) f ++ (f (n + 4) ∷ [])
  five =
      let on : n + 5 ≡ n + 4 + 1 = omega arith in
      ap (λ (k : ℕ). table k f) on ∙ table_more f (n + 4)

  sum_is : f (n + 4) ≡ sum_byte (total (fields (record_at t)))
  sum_is =
      let whole : total (table (n + 5) f) ≡ total (table (n + 4) f) + f (n + 4) =
      ap total five ∙ total_append (table (n + 4) f) (f (n + 4) ∷ []) ∙ ap (λ (k : ℕ). total (table (n + 4) f) + k) (total_one (f (n + 4))) in
      let none : total (table (n + 5) f) % 256 ≡ 0 = front_sum P t good in
      let v = small (n + 4) (omega arith) in
      let s : f (n + 4) ≡ sum_byte (total (table (n + 4) f)) = omega (arith, whole, none, v) in
      s ∙ ap (λ (l : List ℕ). sum_byte (total l)) (sym fields_are)

  line_are : table (n + 5) f ≡ fields (record_at t) ++ (sum_byte (total (fields (record_at t))) ∷ [])
  line_are = five ∙ ap (λ (l : List ℕ). l ++ (f (n + 4) ∷ [])) (sym fields_are) ∙ ap (λ (v : ℕ). fields (record_at t) ++ (v ∷ [])) sum_is

  -- ---- the text is cut after the colon, after the digits and after LF

  cut_colon : t ≡ 58 ∷ drop 1 t
  cut_colon = drop-cons t 0 0 (omega (arith, long)) ∙ ap (λ (b : ℕ). b ∷ drop 1 t) (front_colon P t good)

  cut_lf : drop (2 * (n + 5)) (drop 1 t) ≡ 10 ∷ drop (line_length t) t
  cut_lf =
      let at : 1 + 2 * (n + 5) ≡ 2 * n + 11 = omega arith in
      let next : suc (2 * n + 11) ≡ 2 * n + 12 = omega arith in
      drop-drop (2 * (n + 5)) 1 t ∙ ap (λ (k : ℕ). drop k t) at ∙ drop-cons t (2 * n + 11) 0 (omega (arith, long))
      ∙ ap (λ (b : ℕ). b ∷ drop (suc (2 * n + 11)) t) (front_lf P t good) ∙ ap (λ (k : ℕ). 10 ∷ drop k t) next

  digits : bytes_text (table (n + 5) f) ≡ take (2 * (n + 5)) (drop 1 t)
  digits = digits_there t (n + 5) (omega (arith, long, length-drop 1 t)) small

  text_line : bytes_text (fields (record_at t)) ++ byte_text (sum_byte (total (fields (record_at t)))) ≡ bytes_text (table (n + 5) f)
  text_line =
      ap (λ (l : List ℕ). bytes_text (fields (record_at t)) ++ l) (sym (one_byte t (sum_byte (total (fields (record_at t))))))
      ∙ sym (bytes_text_append (fields (record_at t)) (sum_byte (total (fields (record_at t))) ∷ [])) ∙ ap bytes_text (sym line_are)

  pub first_line_law : record_line (record_at t) ++ drop (line_length t) t ≡ t
  unfolding record_line
  first_line_law =
      let a = bytes_text (fields (record_at t)) in
      let s = byte_text (sum_byte (total (fields (record_at t)))) in
      let rest = drop (line_length t) t in
      ap (λ (l : List ℕ). 58 ∷ l)
      (append_assoc a (s ++ (10 ∷ [])) rest ∙ sym (append_assoc a s (10 ∷ rest)) ∙ ap (λ (l : List ℕ). l ++ (10 ∷ rest)) (text_line ∙ digits)
      ∙ ap (λ (l : List ℕ). take (2 * (n + 5)) (drop 1 t) ++ l) (sym cut_lf) ∙ take-append-drop (2 * (n + 5)) (drop 1 t))
      ∙ sym cut_colon

  -- ---- it fits

  data_small : Bytes (record_at t).bytes
  data_small i = elim (dec_lt i n) [
    | yes h ↦ rw (table_at (λ j. f (j + 4)) n i 0 h) (small (i + 4) (omega arith))
    | no h ↦ rw (get_or-eq_default (record_at t).bytes 0 {n = i} (omega (arith, table_length (λ j. f (j + 4)) n))) (omega arith)
  ]

  pub first_fits : Fits P (record_at t)
  first_fits =
      record {
        placed = omega (arith, small 1 (omega arith), small 2 (omega arith));
        short = omega (arith, small 0 (omega arith), table_length (λ i. f (i + 4)) n);
        inside = omega (arith, front_end P t good, table_length (λ i. f (i + 4)) n);
        small = data_small;
      }

-- The line of a record that fits, read: it says that record, and the text goes on after it.
use mathlib.Core.Path.{◌≡◌, refl, ap, sym, ◌∙◌}
use mathlib.Core.Bool.{Bool, true, false, ◌&&◌}
use mathlib.Core.List.{List, [], ◌∷◌, ◌++◌, append_assoc}
use Prim.Native.Nat.{ℕ, zero, suc, ◌+◌, ◌-◌, ◌*◌, ◌/◌, ◌%◌, ◌<◌, ◌≤◌}
use native.Mathlib.Omega.{arith}
use lib.ListN.{length, get_or, drop, length-append, get_or-append}
use lib.Seq.{get_or_at, drop_at, append_snoc}
use lib.Dec.{eqb, leb, ltb}
use borrow.Author.Tests.{eq-eqb, le-leb, lt-ltb}
use Rattle.laws.specs.Pick.{and_both, and_no_left, and_no_right}
use Rattle.laws.specs.Each.{each, each_of}
use Rattle.laws.specs.Table.{table, table_is}
use Rattle.codes.specs.Part.{Part}
use Rattle.intel_hex.specs.Writing.{HexRecord, byte_text, bytes_text, total, sum_byte, fields, record_line, end_line}
use Rattle.intel_hex.specs.Reading.{digit, line_byte, is_byte, data_length, address_at, type_at, record_at, line_length, is_framed, is_placed, sums_up, says_record}
use Rattle.intel_hex.proofs.Sums.{total_append, total_one}
use Rattle.intel_hex.proofs.Writes.{bytes_text_append, bytes_text_length}
use Rattle.hex_theorems.specs.Fitting.{Bytes, Fits}
use Rattle.hex_theorems.proofs.Digits.{byte_read}

-- ---- byte i of digits that follow a first byte

pub pair_at : List ℕ → ℕ → ℕ
pair_at w i = digit (get_or w (2 * i) 0) * 16 + digit (get_or w (2 * i + 1) 0)

pub byte_pair : (b : ℕ) (w : List ℕ) (i : ℕ) → line_byte (b ∷ w) i ≡ pair_at w i
unfolding line_byte pair_at
byte_pair b w i =
    let one : 2 * i + 1 ≡ suc (2 * i) = omega arith in
    let two : 2 * i + 2 ≡ suc (2 * i + 1) = omega arith in
    ap (λ (k : ℕ). digit (get_or (b ∷ w) k 0) * 16 + digit (get_or (b ∷ w) (2 * i + 2) 0)) one
    ∙ ap (λ (k : ℕ). digit (get_or w (2 * i) 0) * 16 + digit (get_or (b ∷ w) k 0)) two

pair_text : (l s : List ℕ) (i : ℕ) → Bytes l → i < length l → pair_at (bytes_text l ++ s) i ≡ get_or l i 0
unfolding pair_at bytes_text
pair_text [] s i b h = absurd (omega arith)
pair_text (v ∷ l) s zero b h = byte_read v (b 0)
pair_text (v ∷ l) s (suc i) b h =
    let w = bytes_text (v ∷ l) ++ s in
    let one : 2 * suc i ≡ suc (suc (2 * i)) = omega arith in
    let two : 2 * suc i + 1 ≡ suc (suc (2 * i + 1)) = omega arith in
    ap (λ (k : ℕ). digit (get_or w k 0) * 16 + digit (get_or w (2 * suc i + 1) 0)) one
    ∙ ap (λ (k : ℕ). digit (get_or (bytes_text l ++ s) (2 * i) 0) * 16 + digit (get_or w k 0)) two ∙ pair_text l s i (λ j. b (suc j)) (omega arith)

-- ---- lists of bytes

pub bytes_cons : (v : ℕ) (l : List ℕ) → v < 256 → Bytes l → Bytes (v ∷ l)
bytes_cons v l h b zero = h
bytes_cons v l h b (suc i) = b i

pub bytes_snoc : (l : List ℕ) (v : ℕ) → Bytes l → v < 256 → Bytes (l ++ (v ∷ []))
bytes_snoc [] v b h = bytes_cons v [] h (λ i. omega arith)
bytes_snoc (x ∷ l) v b h = bytes_cons x (l ++ (v ∷ [])) (b 0) (bytes_snoc l v (λ i. b (suc i)) h)

-- ---- the bytes of a line: the fields and the sum

abbrev pub sum_of : HexRecord → ℕ
sum_of r = sum_byte (total (fields r))

abbrev pub line_bytes : HexRecord → List ℕ
line_bytes r = fields r ++ (sum_of r ∷ [])

shape : (r : HexRecord) (t : List ℕ) → record_line r ++ t ≡ 58 ∷ (bytes_text (line_bytes r) ++ (10 ∷ t))
unfolding record_line bytes_text
shape r t =
    ap (λ (l : List ℕ). 58 ∷ l)
    (append_assoc (bytes_text (fields r)) (byte_text (sum_of r) ++ (10 ∷ [])) t
    ∙ sym (append_assoc (bytes_text (fields r)) (byte_text (sum_of r)) (10 ∷ t))
    ∙ ap (λ (l : List ℕ). l ++ (10 ∷ t)) (sym (bytes_text_append (fields r) (sum_of r ∷ []))))

module _ (P : Part) (r : HexRecord) (fits : Fits P r) (t : List ℕ) where
  abbrev n : ℕ
  n = length r.bytes

  abbrev u : List ℕ
  u = record_line r ++ t

  line_small : Bytes (line_bytes r)
  line_small =
      let high : r.address / 256 < 256 = omega (arith, fits.placed) in
      let low : r.address % 256 < 256 = omega arith in
      let sum : sum_of r < 256 = omega arith in
      let rest : Bytes (r.bytes ++ (sum_of r ∷ [])) = bytes_snoc r.bytes (sum_of r) fits.small sum in
      let typed : Bytes (0 ∷ (r.bytes ++ (sum_of r ∷ []))) = bytes_cons 0 (r.bytes ++ (sum_of r ∷ [])) (omega arith) rest in
      let lower : Bytes (r.address % 256 ∷ 0 ∷ (r.bytes ++ (sum_of r ∷ []))) = bytes_cons (r.address % 256) (0 ∷ (r.bytes ++ (sum_of r ∷ []))) low typed in
      bytes_cons n (r.address / 256 ∷ r.address % 256 ∷ 0 ∷ (r.bytes ++ (sum_of r ∷ []))) fits.short
      (bytes_cons (r.address / 256) (r.address % 256 ∷ 0 ∷ (r.bytes ++ (sum_of r ∷ []))) high lower)

  line_count : length (line_bytes r) ≡ n + 5
  line_count = ap (λ (k : ℕ). suc (suc (suc (suc k)))) (length-append r.bytes (sum_of r ∷ [])) ∙ omega arith

  line_bytes_law : (i : ℕ) → i < n + 5 → line_byte u i ≡ get_or (line_bytes r) i 0
  line_bytes_law i h =
      ap (λ (l : List ℕ). line_byte l i) (shape r t) ∙ byte_pair 58 (bytes_text (line_bytes r) ++ (10 ∷ t)) i
      ∙ pair_text (line_bytes r) (10 ∷ t) i line_small (omega (arith, line_count))

  line_length_law : data_length u ≡ n
  line_length_law = line_bytes_law 0 (omega arith)

  line_address : address_at u ≡ r.address
  line_address = rw (line_bytes_law 1 (omega arith), line_bytes_law 2 (omega arith)) (omega arith)

  line_type : type_at u ≡ 0
  line_type = line_bytes_law 3 (omega arith)

  line_data : (i : ℕ) → i < n → line_byte u (i + 4) ≡ get_or r.bytes i 0
  line_data i h =
      let on : i + 4 ≡ suc (suc (suc (suc i))) = omega arith in
      line_bytes_law (i + 4) (omega arith) ∙ ap (λ (k : ℕ). get_or (line_bytes r) k 0) on ∙ get_or-append r.bytes (sum_of r ∷ []) 0 i h

  pub line_record : record_at u ≡ r
  line_record =
      let data_is : r.bytes ≡ table n (λ i. line_byte u (i + 4)) = table_is (λ i. line_byte u (i + 4)) r.bytes n 0 refl (λ i h. sym (line_data i h)) in
      let long : table (data_length u) (λ i. line_byte u (i + 4)) ≡ table n (λ i. line_byte u (i + 4)) = ap
      (λ (k : ℕ). table k (λ i. line_byte u (i + 4))) line_length_law in
      ap (λ (a : ℕ). record { address = a; bytes = table (data_length u) (λ i. line_byte u (i + 4)) }) line_address
      ∙ ap (λ (l : List ℕ). record { address = r.address; bytes = l }) (long ∙ sym data_is)

  -- ---- where it ends

  digits_length : length (58 ∷ bytes_text (line_bytes r)) ≡ 2 * n + 11
  digits_length = ap suc (bytes_text_length (line_bytes r)) ∙ omega (arith, line_count)

  line_lf : get_or u (2 * data_length u + 11) 0 ≡ 10
  line_lf =
      ap (λ (k : ℕ). get_or u (2 * k + 11) 0) line_length_law ∙ ap (λ (l : List ℕ). get_or l (2 * n + 11) 0) (shape r t)
      ∙ get_or_at (58 ∷ bytes_text (line_bytes r)) 10 t 0 (2 * n + 11) digits_length

  line_colon : get_or u 0 0 ≡ 58
  line_colon = ap (λ (l : List ℕ). get_or l 0 0) (shape r t)

  pub line_rest : drop (line_length u) u ≡ t
  line_rest =
      let x : List ℕ = 58 ∷ bytes_text (line_bytes r) in
      ap (λ (k : ℕ). drop (2 * k + 12) u) line_length_law ∙ ap (drop (2 * n + 12)) (shape r t ∙ sym (append_snoc x 10 t))
      ∙ drop_at (x ++ (10 ∷ [])) t (2 * n + 12) (length-append x (10 ∷ []) ∙ omega (arith, digits_length))

  -- ---- it is good

  line_framed : is_framed u ≡ true
  line_framed = and_both (eqb (get_or u 0 0) 58) (eqb (get_or u (2 * data_length u + 11) 0) 10) (eq-eqb _ _ line_colon) (eq-eqb _ _ line_lf)

  line_placed : is_placed P u ≡ true
  line_placed =
      and_both (eqb (type_at u) 0) (leb (address_at u + data_length u) P.size) (eq-eqb _ _ line_type)
      (le-leb (address_at u + data_length u) P.size (omega (arith, line_address, line_length_law, fits.inside)))

  line_table : table (n + 5) (line_byte u) ≡ line_bytes r
  line_table = sym (table_is (line_byte u) (line_bytes r) (n + 5) 0 line_count (λ i h. sym (line_bytes_law i h)))

  line_sums : sums_up u (n + 5) ≡ true
  line_sums =
      let sum : total (table (n + 5) (line_byte u)) ≡ total (fields r) + sum_of r =
      ap total line_table ∙ total_append (fields r) (sum_of r ∷ []) ∙ ap (λ (k : ℕ). total (fields r) + k) (total_one (sum_of r)) in
      let none : (total (fields r) + sum_of r) % 256 ≡ 0 = omega arith in
      and_both (each (is_byte u) (n + 5)) (eqb (total (table (n + 5) (line_byte u)) % 256) 0)
      (each_of (is_byte u) (n + 5) (λ i h. lt-ltb (line_byte u i) 256 (rw (line_bytes_law i h) (line_small i)))) (eq-eqb _ _ (ap (λ (k : ℕ). k % 256) sum ∙ none))

  pub line_says_law : says_record P u ≡ true
  unfolding says_record
  line_says_law =
      and_both (is_framed u && is_placed P u) (sums_up u (data_length u + 5)) (and_both (is_framed u) (is_placed P u) line_framed line_placed)
      (ap (λ (k : ℕ). sums_up u (k + 5)) line_length_law ∙ line_sums)

-- the closing line says no record: its type is 01
pub end_says_law : (P : Part) → says_record P end_line ≡ false
unfolding says_record line_byte digit Rattle.laws.specs.Pick.pick end_line
end_says_law P =
    and_no_left (is_framed end_line && is_placed P end_line) (sums_up end_line (data_length end_line + 5))
    (and_no_right (is_framed end_line) (is_placed P end_line) (and_no_left (eqb (type_at end_line) 0) (leb (address_at end_line + data_length end_line) P.size) refl))

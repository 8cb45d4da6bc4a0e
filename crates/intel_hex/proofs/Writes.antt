-- Lent bytes with a line written into them, piece by piece.
use mathlib.Core.Path.{◌≡◌, refl, ap, sym, ◌∙◌}
use mathlib.Core.List.{List, [], ◌∷◌, ◌++◌, append_assoc, append-nil}
use Prim.Native.Nat.{ℕ, zero, suc, ◌+◌, ◌*◌, ◌<◌, ◌≤◌}
use native.Mathlib.Omega.{arith}
use lib.ListN.{length, get_or, set, take, drop, length-append, length-drop}
use lib.Seq.{take-suc, length-take-le, drop-length}
use Rattle.laws.specs.Table.{from, table}
use Rattle.printing.specs.Put.{put}
use Rattle.printing.proofs.Puts.{put_nil, put_put, put_more}
use Rattle.intel_hex.specs.Writing.{HexRecord, byte_text, bytes_text, total, sum_byte, line_of, fields, record_line, records_text, record_of}
use Rattle.intel_hex.proofs.Sums.{total_append, table_more}

pub put_set : (d : List ℕ) (at v : ℕ) → at < length d → set d at v ≡ put d at (v ∷ [])
put_set d at v h = ap (λ (l : List ℕ). set l at v) (sym (put_nil d at)) ∙ put_more d at [] at v (omega arith) h

-- a write after those so far
pub put_then : (d e : List ℕ) (at j : ℕ) (s t : List ℕ) → e ≡ put d at s → j ≡ at + length s → at + length s + length t ≤ length d
    → put e j t ≡ put d at (s ++ t)
put_then d e at j s t p q h =
    ap (λ (l : List ℕ). put l j t) p ∙ ap (λ (k : ℕ). put (put d at s) k t) q ∙ put_put d at s t h

-- ---- bytes in digits

pub bytes_text_append : (x y : List ℕ) → bytes_text (x ++ y) ≡ bytes_text x ++ bytes_text y
unfolding bytes_text
bytes_text_append [] y = refl
bytes_text_append (v ∷ x) y = ap (λ (l : List ℕ). byte_text v ++ l) (bytes_text_append x y)

pub bytes_text_length : (x : List ℕ) → length (bytes_text x) ≡ 2 * length x
unfolding bytes_text
bytes_text_length [] = refl
bytes_text_length (v ∷ x) = omega (arith, bytes_text_length x)

bytes_text_one : (v : ℕ) → bytes_text (v ∷ []) ≡ byte_text v
unfolding bytes_text
bytes_text_one v = refl

pub bytes_text_none : (x : List ℕ) → bytes_text (take 0 x) ≡ []
unfolding bytes_text
bytes_text_none x = refl

pub bytes_text_more : (x : List ℕ) (i : ℕ) → i < length x → bytes_text (take (suc i) x) ≡ bytes_text (take i x) ++ byte_text (get_or x i 0)
bytes_text_more x i h =
    ap bytes_text (take-suc x i 0 h) ∙ bytes_text_append (take i x) (get_or x i 0 ∷ [])
    ∙ ap (λ (l : List ℕ). bytes_text (take i x) ++ l) (bytes_text_one (get_or x i 0))

-- ---- a line

pub record_line_length : (r : HexRecord) → length (record_line r) ≡ 2 * length r.bytes + 12
unfolding record_line
record_line_length r = rw (length-append, bytes_text_length (fields r)) (omega arith)

-- the colon, the head, the data, the sum and LF, one after another
pub line_written : (d w x y z v : List ℕ) (at n s : ℕ) (hd bs : List ℕ) → length hd ≡ 4 → length bs ≡ n → at + 2 * n + 12 ≤ length d
    → w ≡ put d at (58 ∷ []) → x ≡ put w (at + 1) (bytes_text hd) → y ≡ put x (at + 9) (bytes_text bs) → z ≡ put y (at + 2 * n + 9) (byte_text s)
    → v ≡ put z (at + 2 * n + 9 + 2) (10 ∷ [])
    → s ≡ sum_byte (total hd + total bs) → v ≡ put d at (line_of (hd ++ bs))
line_written d w x y z v at n s hd bs e f h o p q r k i =
    let u : List ℕ = 58 ∷ [] in
    let a = bytes_text hd in
    let b = bytes_text bs in
    let c = byte_text s in
    let la : length a ≡ 8 = bytes_text_length hd ∙ ap (λ (k : ℕ). 2 * k) e in
    let lb : length b ≡ 2 * n = bytes_text_length bs ∙ ap (λ (k : ℕ). 2 * k) f in
    let lua : length (u ++ a) ≡ 9 = rw length-append (omega (arith, la)) in
    let luab : length (u ++ a ++ b) ≡ 9 + 2 * n = rw length-append (omega (arith, lua, lb)) in
    let luabc : length (u ++ a ++ b ++ c) ≡ 11 + 2 * n = rw length-append (omega (arith, luab)) in
    let one : x ≡ put d at (u ++ a) = p ∙ put_then d w at (at + 1) u a o refl (omega (arith, la)) in
    let two : y ≡ put d at (u ++ a ++ b) = q ∙ put_then d x at (at + 9) (u ++ a) b one (omega (arith, lua)) (omega (arith, lua, lb)) in
    let three : z ≡ put d at (u ++ a ++ b ++ c) =
    r ∙ put_then d y at (at + 2 * n + 9) (u ++ a ++ b) c two (omega (arith, luab)) (omega (arith, luab)) in
    let last : v ≡ put d at (u ++ a ++ b ++ c ++ (10 ∷ [])) =
    k ∙ put_then d z at (at + 2 * n + 9 + 2) (u ++ a ++ b ++ c) (10 ∷ []) three (omega (arith, luabc)) (omega (arith, luabc)) in
    let whole : u ++ a ++ b ++ c ++ (10 ∷ []) ≡ u ++ (bytes_text (hd ++ bs) ++ (c ++ (10 ∷ []))) =
    append_assoc (u ++ a ++ b) c (10 ∷ []) ∙ append_assoc (u ++ a) b (c ++ (10 ∷ [])) ∙ append_assoc u a (b ++ (c ++ (10 ∷ [])))
    ∙ ap (λ (l : List ℕ). u ++ l) (sym (append_assoc a b (c ++ (10 ∷ []))) ∙ ap (λ (l : List ℕ). l ++ (c ++ (10 ∷ []))) (sym (bytes_text_append hd bs))) in
    last ∙ ap (put d at) whole
    ∙ ap (λ (j : ℕ). put d at (58 ∷ (bytes_text (hd ++ bs) ++ (byte_text j ++ (10 ∷ []))))) (i ∙ ap sum_byte (sym (total_append hd bs)))

-- ---- lines

pub records_text_append : (x y : List HexRecord) → records_text (x ++ y) ≡ records_text x ++ records_text y
unfolding records_text
records_text_append [] y = refl
records_text_append (r ∷ x) y =
    ap (λ (l : List ℕ). record_line r ++ l) (records_text_append x y) ∙ sym (append_assoc (record_line r) (records_text x) (records_text y))

pub records_text_none : (f : ℕ → HexRecord) → records_text (table 0 f) ≡ []
unfolding records_text table from
records_text_none f = refl

pub records_text_one : (r : HexRecord) → records_text (r ∷ []) ≡ record_line r
unfolding records_text
records_text_one r = append-nil (record_line r)

pub records_text_more : (f : ℕ → HexRecord) (k : ℕ) → records_text (table (k + 1) f) ≡ records_text (table k f) ++ record_line (f k)
records_text_more f k =
    ap records_text (table_more f k) ∙ records_text_append (table k f) (f k ∷ []) ∙ ap (λ (l : List ℕ). records_text (table k f) ++ l) (records_text_one (f k))

-- ---- the lines of an image, 44 bytes each

module _ (m : List ℕ) where
  pub sixteen : (k : ℕ) → 16 * k + 16 ≤ length m → length (record_of m k).bytes ≡ 16
  sixteen k h = length-take-le 16 (drop (16 * k) m) (rw length-drop (omega arith))

  pub lines_length : (k : ℕ) → 16 * k ≤ length m → length (records_text (table k (record_of m))) ≡ 44 * k
  lines_length zero h = ap length (records_text_none (record_of m))
  lines_length (suc k) h =
      let one : k + 1 ≡ suc k = omega arith in
      let more : records_text (table (suc k) (record_of m)) ≡ records_text (table k (record_of m)) ++ record_line (record_of m k) =
      ap (λ (j : ℕ). records_text (table j (record_of m))) (sym one) ∙ records_text_more (record_of m) k in
      ap length more ∙ length-append (records_text (table k (record_of m))) (record_line (record_of m k))
      ∙ omega (arith, lines_length k (omega arith), record_line_length (record_of m k), sixteen k (omega arith))

-- bytes of the same number take the place of all
pub put_all : (d s : List ℕ) → length s ≡ length d → put d 0 s ≡ s
unfolding put
put_all d s e =
    ap (λ (l : List ℕ). s ++ l) (ap (λ (n : ℕ). drop n d) e ∙ drop-length d) ∙ append-nil s

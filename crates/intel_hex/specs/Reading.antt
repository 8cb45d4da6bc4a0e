-- Intel HEX as it is read: the record at the front of a text, the records that a text says, the cells that they give.
-- That a good text is the written text of its records, and no other text is good, is a theorem of `hex_theorems` (its
-- proofs/Texts.antt).
use Rattle.std.specs.Prelude.{ℕ, zero, suc, ◌+◌, ◌*◌, ◌-◌, ◌%◌, Bool, ◌&&◌, List, [], ◌∷◌, length, get_or, take, drop, eqb, leb, ltb}
use Rattle.laws.specs.Pick.{pick}
use Rattle.laws.specs.Each.{each}
use Rattle.laws.specs.Table.{table}
use Rattle.codes.specs.Part.{Part}
use Rattle.printing.specs.Put.{put}
use Rattle.intel_hex.specs.Writing.{HexRecord, total, end_line}

-- the value of a digit, 0 to 9 and upper case A to F; 256 for every other byte
unfoldable pub digit : ℕ → ℕ
digit b = pick (ltb b 48) 256 (pick (leb b 57) (b - 48) (pick (ltb b 65) 256 (pick (leb b 70) (b - 55) 256)))

-- byte i of the line at the front of a text, which begins with a colon: 256 or more where it is not two digits
unfoldable pub line_byte : List ℕ → ℕ → ℕ
line_byte t i = digit (get_or t (2 * i + 1) 0) * 16 + digit (get_or t (2 * i + 2) 0)

abbrev pub is_byte : List ℕ → ℕ → Bool
is_byte t i = ltb (line_byte t i) 256

-- ---- the record at the front of a text: its fields by their places in the line

abbrev pub data_length : List ℕ → ℕ
data_length t = line_byte t 0

abbrev pub address_at : List ℕ → ℕ
address_at t = line_byte t 1 * 256 + line_byte t 2

abbrev pub type_at : List ℕ → ℕ
type_at t = line_byte t 3

abbrev pub record_at : List ℕ → HexRecord
record_at t = record { address = address_at t; bytes = table (data_length t) (λ i. line_byte t (i + 4)) }

-- the colon, two digits for each byte, LF
abbrev pub line_length : List ℕ → ℕ
line_length t = 2 * data_length t + 12

-- ---- whether there is a good one

-- a colon, and LF after the digits
abbrev pub is_framed : List ℕ → Bool
is_framed t = eqb (get_or t 0 0) 58 && eqb (get_or t (2 * data_length t + 11) 0) 10

-- type 00, and no byte past the last cell
abbrev pub is_placed : Part → List ℕ → Bool
is_placed P t = eqb (type_at t) 0 && leb (address_at t + data_length t) P.size

-- the first n bytes are all in digits, and their sum is 0 in its low eight bits
abbrev pub sums_up : List ℕ → ℕ → Bool
sums_up t n = each (is_byte t) n && eqb (total (table n (line_byte t)) % 256) 0

-- five bytes beside the data: length, address, type and sum
unfoldable pub says_record : Part → List ℕ → Bool
says_record P t = is_framed t && is_placed P t && sums_up t (data_length t + 5)

-- ---- a text: the records at its front, and what is left after them. No text has more records than bytes

pub record Parted : Type 0 where
  pub records : List HexRecord
  pub rest : List ℕ

abbrev pub parted_first : HexRecord → Parted → Parted
parted_first r s = record { records = r ∷ s.records; rest = s.rest }

abbrev pub parted_none : List ℕ → Parted
parted_none t = record { records = []; rest = t }

-- n records at most
unfoldable pub parted_by : Part → ℕ → List ℕ → Parted
parted_by P zero t = parted_none t
parted_by P (suc n) t =
    pick (says_record P t) (parted_first (record_at t) (parted_by P n (drop (line_length t) t))) (parted_none t)

unfoldable pub parted : Part → List ℕ → Parted
parted P t = parted_by P (length t) t

-- two lists with the same elements
abbrev pub same_bytes : List ℕ → List ℕ → Bool
same_bytes x y = eqb (length x) (length y) && each (λ i. eqb (get_or x i 0) (get_or y i 0)) (length y)

-- after its records there is the closing one, and nothing after it
abbrev pub is_good : Part → List ℕ → Bool
is_good P t = same_bytes (parted P t).rest end_line

-- the number of the first bad line, 0 for a good text: the one after the records; where that is the closing one, and
-- more follows it, the next
abbrev pub first_bad : Part → List ℕ → ℕ
first_bad P t =
    pick (is_good P t) 0 (length (parted P t).records + pick (same_bytes (take 12 (parted P t).rest) end_line) 2 1)

-- ---- the cells

-- a record's bytes, from its address on
abbrev pub laid_record : HexRecord → List ℕ → List ℕ
laid_record r m = put m r.address r.bytes

-- one after another: a later one wins
unfoldable pub laid_records : List HexRecord → List ℕ → List ℕ
laid_records [] m = m
laid_records (r ∷ rs) m = laid_records rs (laid_record r m)

-- Intel HEX as it is written: a byte, the line of a record, the text of some records, the text of an image. The bytes
-- of a text are their ASCII numbers: 58 is the colon, 10 is LF, 48 to 57 are 0 to 9, 65 to 70 are A to F.
use Rattle.std.specs.Prelude.{ℕ, ◌+◌, ◌*◌, ◌-◌, ◌/◌, ◌%◌, List, [], ◌∷◌, ◌++◌, length, take, drop, ltb}
use Rattle.laws.specs.Pick.{pick}
use Rattle.laws.specs.Table.{table}
use Rattle.codes.specs.Part.{Part}

-- a record of type 00: where its bytes go, and the bytes, 255 at most
pub record HexRecord : Type 0 where
  pub address : ℕ
  pub bytes : List ℕ

-- upper case
abbrev pub digit_text : ℕ → ℕ
digit_text v = pick (ltb v 10) (48 + v) (55 + v)

-- a byte is two digits, the higher first
abbrev pub byte_text : ℕ → List ℕ
byte_text v = digit_text (v / 16) ∷ digit_text (v % 16) ∷ []

unfoldable pub bytes_text : List ℕ → List ℕ
bytes_text [] = []
bytes_text (v ∷ l) = byte_text v ++ bytes_text l

unfoldable pub total : List ℕ → ℕ
total [] = 0
total (v ∷ l) = v + total l

-- with it the sum of all bytes of a line is 0 in its low eight bits
abbrev pub sum_byte : ℕ → ℕ
sum_byte s = (256 - s % 256) % 256

-- the length, the address with its high byte first, and the type
abbrev pub head : ℕ → ℕ → List ℕ
head n address = n ∷ address / 256 ∷ address % 256 ∷ 0 ∷ []

abbrev pub fields : HexRecord → List ℕ
fields r = head (length r.bytes) r.address ++ r.bytes

-- a colon; bytes, and the one that makes their sum 0; LF
abbrev pub line_of : List ℕ → List ℕ
line_of l = 58 ∷ (bytes_text l ++ (byte_text (sum_byte (total l)) ++ (10 ∷ [])))

unfoldable pub record_line : HexRecord → List ℕ
record_line r = line_of (fields r)

unfoldable pub records_text : List HexRecord → List ℕ
records_text [] = []
records_text (r ∷ rs) = record_line r ++ records_text rs

-- :00000001FF and LF
unfoldable pub end_line : List ℕ
end_line = 58 ∷ 48 ∷ 48 ∷ 48 ∷ 48 ∷ 48 ∷ 48 ∷ 48 ∷ 49 ∷ 70 ∷ 70 ∷ 10 ∷ []

-- a text: records, then the closing one
abbrev pub hex_text : List HexRecord → List ℕ
hex_text rs = records_text rs ++ end_line

-- ---- an image: records of 16 bytes in rising order

abbrev pub record_of : List ℕ → ℕ → HexRecord
record_of m k = record { address = 16 * k; bytes = take 16 (drop (16 * k) m) }

abbrev pub image_records : Part → List ℕ → List HexRecord
image_records P m = table (P.size / 16) (record_of m)

unfoldable pub image_text : Part → List ℕ → List ℕ
image_text P m = hex_text (image_records P m)

-- 44 bytes for each line and 12 for the closing one: 180,236
abbrev pub image_room : Part → ℕ
image_room P = 44 * (P.size / 16) + 12

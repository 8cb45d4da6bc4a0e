-- Records that a text may hold, and the byte that some records give a cell.
use Rattle.std.specs.Prelude.{ℕ, ◌+◌, ◌-◌, ◌<◌, ◌≤◌, Bool, ◌&&◌, List, [], ◌∷◌, ◌≡◌, length, get_or, leb, ltb}
use Rattle.laws.specs.Pick.{pick}
use Rattle.codes.specs.Part.{Part}
use Rattle.intel_hex.specs.Writing.{HexRecord, hex_text}

-- every element is a byte
abbrev pub Bytes : List ℕ → Type 0
Bytes l = (i : ℕ) → get_or l i 0 < 256

-- an address of 16 bits, 255 bytes at most, none of them past the last cell
pub record Fits (P : Part) (r : HexRecord) : Type 0 where
  pub placed : r.address < 65536
  pub short : length r.bytes < 256
  pub inside : r.address + length r.bytes ≤ P.size
  pub small : Bytes r.bytes

abbrev pub AllFit : Part → List HexRecord → Type 0
AllFit P [] = Unit {0}
AllFit P (r ∷ rs) = Fits P r × AllFit P rs

-- the text is that of these records, and each fits
pub record Says (P : Part) (t : List ℕ) (rs : List HexRecord) : Type 0 where
  pub written : t ≡ hex_text rs
  pub fitting : AllFit P rs

-- ---- cells

-- a record names the cells that its bytes go to
abbrev pub names : HexRecord → ℕ → Bool
names r i = leb r.address i && ltb i (r.address + length r.bytes)

-- the byte in cell i after some records, which held x: the last one's that names it
unfoldable pub last_given : List HexRecord → ℕ → ℕ → ℕ
last_given [] i x = x
last_given (r ∷ rs) i x = last_given rs i (pick (names r i) (get_or r.bytes (i - r.address) 0) x)

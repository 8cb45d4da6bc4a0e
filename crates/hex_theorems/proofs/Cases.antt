-- Two lines computed of the definitions.
use mathlib.Core.Path.{◌≡◌, refl}
use mathlib.Core.List.{List, [], ◌∷◌}
use Prim.Native.Nat.{ℕ}
use Rattle.laws.specs.Pick.{pick}
use Rattle.intel_hex.specs.Writing.{HexRecord, bytes_text, total, line_of, record_line, end_line}

-- three bytes from 0030h on: :0300300002337A1E
pub three_cells : record_line (record { address = 0x30; bytes = 0x02 ∷ 0x33 ∷ 0x7a ∷ [] })
    ≡ 58 ∷ 48 ∷ 51 ∷ 48 ∷ 48 ∷ 51 ∷ 48 ∷ 48 ∷ 48 ∷ 48 ∷ 50 ∷ 51 ∷ 51 ∷ 55 ∷ 65 ∷ 49 ∷ 69 ∷ 10 ∷ []
unfolding record_line bytes_text total pick
three_cells = refl

-- the closing line is that of no data, address 0 and type 01
pub end_line_law : line_of (0 ∷ 0 ∷ 0 ∷ 1 ∷ []) ≡ end_line
unfolding bytes_text total pick end_line
end_line_law = refl

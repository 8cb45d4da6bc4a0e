-- Document 01's case f, of the definitions.
use mathlib.Core.Path.{◌≡◌, ap}
use mathlib.Core.Bool.{false}
use mathlib.Core.List.{List, [], ◌∷◌}
use Prim.Native.Nat.{ℕ}
use native.Mathlib.Omega.{arith}
use lib.ListN.{get_or}
use Rattle.laws.specs.Pick.{pick}
use Rattle.laws.specs.Table.{from, table}
use Rattle.codes.specs.Part.{m95512}
use Rattle.codes.specs.Instructions.{decode}
use Rattle.shown.specs.Shown.{sights, padded, output}

unpadded : (v : ℕ) → padded 0 v ≡ v
unpadded v = omega arith

-- READ at FFFFh for two bytes shows cell FFFFh and then cell 0000h, of any memory, whatever the identification page
pub case_f : (m i : List ℕ)
    → output m95512 false (sights 0 0 m i) (0x03 ∷ 0xff ∷ 0xff ∷ 0x00 ∷ 0x00 ∷ []) 40
    ≡ 0xff ∷ 0xff ∷ 0xff ∷ get_or m 0xffff 0 ∷ get_or m 0x0000 0 ∷ []
unfolding pick decode output table from
case_f m i = ap (λ (v : ℕ). 0xff ∷ 0xff ∷ 0xff ∷ get_or m 0xffff 0 ∷ v ∷ []) (unpadded (get_or m 0x0000 0))

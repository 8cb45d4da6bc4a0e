-- A test of all 32 status bytes.
use mathlib.Core.Bool.{Bool, false}
use mathlib.Core.List.{List, [], ◌∷◌}
use lib.ListN.{get_or}
use mathlib.Core.Path.{refl}
use Prim.Native.Nat.{◌*◌, ◌%◌}
use mir.Val.{bool_byte}
use lib.Bits.{bit_or}
use lib.Dec.{eqb}
use borrow.Author.Tests.{eqb-true}
use Rattle.laws.specs.Each.{rows, row_at}
use Rattle.codes.specs.Status.{status_byte}
use Rattle.codes.proofs.status.status_byte.Goals as goal

right : List Bool → Bool
right l =
    let a = get_or l 0 false in
    let b = get_or l 1 false in
    let c = get_or l 2 false in
    let d = get_or l 3 false in
    let e = get_or l 4 false in
    eqb (bit_or (bit_or (bit_or (bit_or (bool_byte a * 128 % 256) (bool_byte b * 8 % 256)) (bool_byte c * 4 % 256)) (bool_byte d * 2 % 256)) (bool_byte e))
    (status_byte a b c d e)

pub returns : goal.returns
unfolding right rows
returns c =
    let a = c.args in
    eqb-true _ _ (row_at right (a.srwd ∷ a.bp1 ∷ a.bp0 ∷ a.wel ∷ a.wip ∷ []) refl)

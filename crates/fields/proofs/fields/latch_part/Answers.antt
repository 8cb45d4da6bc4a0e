-- One run of the bytes, and its marks.
use Prim.Native.Nat.{◌-◌, ◌%◌, min}
use mathlib.Core.Path.{◌≡◌, sym}
use native.Mathlib.Omega.{arith}
use lib.ListN.{length, take}
use lib.Seq.{length-take-le}
use Rattle.codes.specs.Part.{part_of}
use Rattle.codes.proofs.Sound.{sound_of}
use Rattle.latch.specs.Latches.{zeros}
use Rattle.fields.proofs.Latching.{latched_up_law}
use Rattle.fields.proofs.fields.latch_part.Goals as goal

pub returns : goal.returns
unfolding zeros
returns c =
    let a = c.args in
    let P = part_of a.part in
    let sound = sound_of a.part in
    let vs = a.values.now in
    let n = c.min-n.result in
    let at : c.cell_of-start.result ≡ a.address % P.page = c.cell_of-start.ensures.value in
    let most : n ≡ min (P.page - a.address % P.page) (length vs) = omega (arith, at, c.page_of.ensures.value, c.min-n.ensures) in
    let long : length (take n vs) ≡ n = length-take-le n vs (omega arith) in
    rw (c.run_marks.ensures, c.latch_run.ensures, at, long)
    (sym (latched_up_law P sound.page_room a.address vs sound.page_some most))

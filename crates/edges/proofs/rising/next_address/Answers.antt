use native.Mathlib.Omega.{arith}
use Rattle.codes.proofs.Sound.{sound_of}
use Rattle.codes.proofs.Starts.{start_of}
use Rattle.edges.proofs.Nexts.{next_fits}
use Rattle.edges.proofs.rising.next_address.Goals as goal

pub overflow_cast-result : goal.overflow_cast-result
overflow_cast-result c =
    let a = c.args in
    let s = start_of (sound_of a.part) a.address in
    let f = next_fits a.part a.address c.ranges.address.fits in
    omega (arith, c.cell_of.ensures.value, c.next_cell.ensures.value, f)

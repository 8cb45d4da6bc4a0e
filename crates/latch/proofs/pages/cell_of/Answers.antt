use mathlib.Core.Path.{refl}
use native.Mathlib.Omega.{arith}
use Rattle.codes.proofs.Sound.{sound_of}
use Rattle.codes.proofs.Masks.{page_mask, offset_below}
use Rattle.latch.proofs.pages.cell_of.Goals as goal

pub returns : goal.returns
returns c =
    let a = c.args in
    let s = sound_of a.part in
    let below = offset_below s a.address in
    rw (c.page_of.ensures.value, page_mask s a.address) record { value = refl; upper_bound = (below, omega (arith, below, s.page_room)) }

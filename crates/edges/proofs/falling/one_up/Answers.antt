use native.Mathlib.Nat.{mod-add-mod}
use Rattle.codes.proofs.Sound.{sound_of}
use Rattle.codes.proofs.Masks.{size_mask}
use Rattle.edges.proofs.falling.one_up.Goals as goal

pub returns : goal.returns
returns c =
    let a = c.args in
    let s = sound_of a.part in
    rw (c.size_of.ensures.value, size_mask s a.address, size_mask s _) (mod-add-mod a.address _ 1)

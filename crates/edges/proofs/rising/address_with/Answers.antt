use Rattle.codes.proofs.Sound.{sound_of}
use Rattle.codes.proofs.Masks.{size_mask}
use mathlib.Core.Path.{refl}
use Rattle.edges.proofs.rising.address_with.Goals as goal

pub returns : goal.returns
returns c =
    let a = c.args in
    rw (
      c.size_of.ensures.value,
      size_mask (sound_of a.part) _,
      c.place.ensures.value,
      c.less.ensures.value,
      c.address_bytes_of.ensures.value,
    )
    refl

use Prim.Native.Nat.{◌*◌, ◌-◌}
use mathlib.Core.Path.{refl}
use Rattle.laws.specs.Pick.{eq_so, ne_so}
use Rattle.shown.proofs.Padding.{one_bit, padded_or}
use Rattle.timed_frames.proofs.polled.padded_at.Goals as goal

pub returns-then-j-len : goal.returns-then-j-len
returns-then-j-len c =
    let u = 8 * c.args.len - c.args.bits in
    eq_so _ c.if-j-len.true (rw (one_bit u c.requires.1) (padded_or u c.args.byte))

pub returns : goal.returns
returns c = ne_so _ c.if-j-len.false refl

-- By the two tests. Where both are passed, the head is filled and the others are as they were.
use Prim.Native.Nat.{◌≤◌}
use mathlib.Core.Bool.{not}
use mathlib.Core.Path.{refl, ap}
use native.Mathlib.Nat.{sub-zero}
use lib.ListN.{length}
use lib.Seq.{length-take-le}
use borrow.Author.Tests.{le-leb}
use Rattle.laws.specs.Pick.{yes_so, no_so, and_both}
use native.Mathlib.Omega.{arith}
use Rattle.shown.proofs.output.show_head.Goals as goal

pub returns-then-ran-clause-out_after : goal.returns-then-ran-clause-out_after
returns-then-ran-clause-out_after c = no_so _ refl c.fill.ensures

pub returns-clause-out_after : goal.returns-clause-out_after
returns-clause-out_after c =
    let a = c.args in
    let room : a.head ≤ length a.out.now = omega arith in
    let told = and_both _ (not a.ran) (le-leb _ _ room) (ap not c.if-ran.false) in
    yes_so _ refl (rw (c.fill-2.ensures, sub-zero a.head, length-take-le a.head a.out.now room))

use Prim.Native.Nat.{◌+◌, ◌-◌, min}
use mathlib.Core.Path.{◌≡◌, ◌∙◌}
use native.Mathlib.Omega.{arith}
use Rattle.codes.specs.Part.{part_of}
use Rattle.blanks.proofs.Blanking.{held_min}
use Rattle.blanks.proofs.held_within.Goals as goal

pub returns : goal.returns
returns c =
    let a = c.args in
    let e : c.min.result ≡ min (a.blank + a.came - a.went) (part_of a.part).size = omega (arith, c.size_of.ensures.value) in
    e ∙ held_min (part_of a.part).size (a.blank + a.came - a.went)

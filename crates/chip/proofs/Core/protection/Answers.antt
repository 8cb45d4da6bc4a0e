use Rattle.std.specs.Prelude.{Ok}
use Rattle.std.proofs.Common.{refl, ap, arith, sym, ◌∙◌}
use Rattle.laws.specs.Pick.{yes_so, no_so, lt_so, ge_so}
use Rattle.chip.specs.Records.{own_part}
use Rattle.chip.proofs.Numbers.{answered}
use Rattle.chip.proofs.Core.protection.Goals as goal

pub returns-then-not-in_ranges : goal.returns-then-not-in_ranges
returns-then-not-in_ranges c =
    answered (own_part c.args.self) c.args.self c.args.address
    (no_so _ (sym c.in_ranges.ensures ∙ c.if-not-in_ranges.true) refl)

pub returns-then-size_of-address : goal.returns-then-size_of-address
returns-then-size_of-address c =
    answered (own_part c.args.self) c.args.self c.args.address
    (yes_so _ (sym c.in_ranges.ensures ∙ c.if-not-in_ranges.false) (ge_so _ (omega (arith, c.size_of.ensures.value)) refl))

pub returns : goal.returns
returns c =
    answered (own_part c.args.self) c.args.self c.args.address
    (yes_so _ (sym c.in_ranges.ensures ∙ c.if-not-in_ranges.false)
    (lt_so _ (omega (arith, c.size_of.ensures.value)) (ap Ok c.protects.ensures)))

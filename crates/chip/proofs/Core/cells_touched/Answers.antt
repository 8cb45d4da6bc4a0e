use Rattle.std.proofs.Common.{sym, ◌∙◌}
use Rattle.codes.proofs.Sound.{sound_of}
use Rattle.chip.specs.Records.{own_part}
use Rattle.chip.proofs.Touching.{latch_inside, touched_counted, touched_refused}
use Rattle.chip.proofs.Core.cells_touched.Goals as goal

pub returns-then-in_ranges : goal.returns-then-in_ranges
returns-then-in_ranges c =
    let fits = sym c.in_ranges.ensures ∙ c.if-in_ranges.true in
    let self = c.args.self in
    touched_counted (own_part self) _ self c.touched.result fits (sound_of self.part) (latch_inside (own_part self) self fits)
    c.touched.ensures

pub returns : goal.returns
returns c = touched_refused (own_part c.args.self) _ c.args.self (sym c.in_ranges.ensures ∙ c.if-in_ranges.false)

-- The test is what `Steady` asks; whether Q moves is what `moves_q` says of the front.
use mathlib.Core.Path.{sym}
use Rattle.codes.specs.Part.{part_of}
use Rattle.lists.proofs.stretches.stretch_on.Goals as goal

pub returns-then-front-held-clause-leads : goal.returns-then-front-held-clause-leads
returns-then-front-held-clause-leads c =
    let led = c.stretch.ensures in
    led.leads (part_of c.args.part) (sym c.moves_q-moves.ensures)

-- The first cell by its part: the run's own, or its page's as the definition has it.
use Rattle.laws.specs.Pick.{arms, ne_so}
use Rattle.codes.specs.Part.{part_of}
use Rattle.split.specs.Split.{start}
use Rattle.split.proofs.Edges.{edge_as}
use Rattle.split.proofs.start.Goals as goal

pub returns-then-part-eq0 : goal.returns-then-part-eq0
unfolding start
returns-then-part-eq0 c = search arms

pub returns : goal.returns
unfolding start
returns c =
    let a = c.args in
    ne_so _ c.if-part-eq0.false
    (edge_as (part_of a.chip).page a.address a.part c.page_number.ensures c.page.ensures.value)

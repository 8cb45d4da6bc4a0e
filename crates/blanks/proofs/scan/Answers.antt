-- A row's blank cells come off those of the rest.
use mathlib.Core.Path.{ap, ◌∙◌}
use native.Mathlib.Nat.{zero-add}
use native.Mathlib.Omega.{arith}
use Rattle.std.specs.Slice.Iter.{chunks_size, chunks_rest}
use Rattle.blanks.specs.Blanks.{blanks}
use Rattle.blanks.proofs.Blanking.{blanks_both, blanks_most}
use Rattle.blanks.proofs.scan.Goals as goal

pub loop-row-init : goal.loop-row-init
loop-row-init c =
    let same = c.into_iter-row-iterator.ensures.into_iter_gives in (
      ap chunks_size same ∙ c.chunks-row-items.ensures.size,
      zero-add _ ∙ ap (λ z. blanks (chunks_rest z)) same ∙ ap blanks c.chunks-row-items.ensures.rest,
    )

pub overflow_add-n : goal.overflow_add-n
overflow_add-n c =
    let l = c.loop-row in
    let y = c.in-Some.row.now in
    let steps = c.in-Some.ensures.steps in
    let split = ap blanks steps.1.0 ∙ blanks_both y (chunks_rest c.next.new.self) in
    omega (arith, l.invariant.1, split, c.few.ensures, blanks_most c.args.cells.now, c.requires)

pub loop-row-preserved : goal.loop-row-preserved
loop-row-preserved c =
    let l = c.loop-row in
    let y = c.in-Some.row.now in
    let steps = c.in-Some.ensures.steps in
    let split = ap blanks steps.1.0 ∙ blanks_both y (chunks_rest c.next.new.self) in
    (steps.0 ∙ l.invariant.0, omega (arith, l.invariant.1, split, c.few.ensures))

pub returns : goal.returns
returns c =
    let l = c.loop-row in
    omega (arith, l.invariant.1, blanks_most (chunks_rest l.row-iterator), c.in-None.ensures.steps.1.0)

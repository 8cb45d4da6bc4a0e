-- The page's blank cells after, less those before, move the number as the whole memory's do (`page_recounted`).
use Prim.Native.Nat.{ℕ, ◌+◌, ◌-◌}
use mathlib.Core.Path.{ap, ap₂, ◌∙◌}
use Rattle.codes.specs.Part.{part_of}
use Rattle.blanks.specs.Blanks.{blanks_in, held_within}
use Rattle.blanks.proofs.Blanking.{page_recounted}
use Rattle.blanks.proofs.store_counting.Goals as goal

pub returns-clause-value : goal.returns-clause-value
returns-clause-value c =
    let a = c.args in
    let P = part_of a.part in
    let e = c.store.ensures in
    let before = c.blanks_in-before.ensures in
    let after = c.blanks_in-after.ensures ∙ ap (blanks_in P a.page) e in
    c.held_within.ensures
    ∙ ap₂ (λ (n k : ℕ). held_within P.size (a.blank + n - k)) after before
    ∙ page_recounted P a.page a.latch a.memory.now a.blank

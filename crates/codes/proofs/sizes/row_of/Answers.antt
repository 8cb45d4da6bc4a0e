-- Each row is that of the table.
use Rattle.std.proofs.Common.{rules}
use Rattle.codes.proofs.Parts.{row_megabit, row_other}
use Rattle.codes.proofs.sizes.row_of.Goals as goal

pub returns-then-part-eq-M95M01-clause-row : goal.returns-then-part-eq-M95M01-clause-row
returns-then-part-eq-M95M01-clause-row c = rw (c.if-part-eq-M95M01.true, row_megabit) (search rules)

pub returns-clause-row : goal.returns-clause-row
returns-clause-row c = rw (row_other c.if-part-eq-M95M01.false) (search rules)

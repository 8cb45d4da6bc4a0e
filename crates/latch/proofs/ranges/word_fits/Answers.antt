-- The ways: every mark, no mark, any other.
use mathlib.Core.Path.{sym, ap, ◌∙◌}
use Prim.Native.Nat.{ℕ}
use native.Mathlib.Omega.{arith}
use Rattle.latch.specs.Words.{word_fits}
use Rattle.latch.proofs.WordRanges.{part_zero, word_empty, word_full}
use Rattle.latch.proofs.ranges.word_fits.Goals as goal

pub returns-then-word-eq0 : goal.returns-then-word-eq0
returns-then-word-eq0 c =
    let a = c.args in
    c.zeros.ensures
    ∙ part_zero a.bytes.now a.start (omega arith) (omega arith)
    ∙ word_empty a.may a.bytes.now a.start
    ∙ ap (λ (w : ℕ). word_fits a.may a.bytes.now a.start w 64) (sym c.if-word-eq0.true)

pub returns-then-word-eq-FULL : goal.returns-then-word-eq-FULL
returns-then-word-eq-FULL c =
    let a = c.args in
    word_full a.may a.bytes.now a.start
    ∙ ap (λ (w : ℕ). word_fits a.may a.bytes.now a.start w 64) (sym c.if-word-eq-FULL.true)

use mathlib.Core.Path.{◌≡◌, ap, sym, ◌∙◌}
use mathlib.Core.List.{List}
use Prim.Native.Nat.{ℕ, ◌+◌, ◌<◌}
use native.Mathlib.Omega.{arith}
use lib.ListN.{length, get_or, set}
use borrow.Author.Tests.{ltb-true}
use Rattle.laws.specs.Each.{each_at}
use Rattle.laws.specs.Table.{table, table_length, table_at}
use Rattle.laws.specs.Filled.{filled_none, filled_more, filled_all}
use Rattle.intel_hex.specs.Reading.{line_byte}
use Rattle.intel_hex.proofs.storing.fill.Goals as goal

pub loop-i-init : goal.loop-i-init
loop-i-init c = filled_none _ _ 0

pub overflow_cast-cell : goal.overflow_cast-cell
overflow_cast-cell c =
    let l = c.loop-i in
    let low : line_byte c.args.text.now (l.i + 4) < 256 = ltb-true _ _ (each_at _ _ (l.i + 4) c.requires.1 (omega arith)) in
    omega (arith, low, c.line_byte.ensures.0)

pub loop-i-preserved : goal.loop-i-preserved
loop-i-preserved c =
    let l = c.loop-i in
    let a = c.args in
    let d = a.cells.now in
    let f : ℕ → ℕ = λ j. line_byte a.text.now (j + 4) in
    let v : c.line_byte.result ≡ get_or (table (length d) f) l.i 0 = c.line_byte.ensures.0 ∙ sym (table_at f (length d) l.i 0 (omega arith)) in
    ap (λ (x : List ℕ). set x l.i c.line_byte.result) l.invariant
    ∙ filled_more d (table (length d) f) 0 l.i c.line_byte.result (sym (table_length f (length d))) (omega arith) v

pub returns : goal.returns
returns c =
    let l = c.loop-i in
    l.invariant ∙ filled_all _ _ 0 l.i (sym (table_length _ _)) (omega arith)

use mathlib.Core.Path.{sym, ◌∙◌}
use Prim.Native.Nat.{◌+◌}
use native.Mathlib.Omega.{arith}
use lib.ListN.{get_or}
use Rattle.lines.proofs.WholeLine.{kind_known, whole_read, whole_found}
use Rattle.trace.proofs.parsing.four_taken.Goals as goal

pub returns : goal.returns
returns c =
    let a = c.args in
    let pre = c.requires in
    let x = a.text.now in
    let known = kind_known (get_or x a.i 0) (get_or x (a.i + 1) 0) (get_or x (a.i + 2) 0) (get_or x (a.i + 3) 0) c.in-Some.kind (sym c.in-Some.ensures) in (
      omega arith,
      omega arith,
      omega arith,
      λ l p. c.past_line.ensures ∙ whole_read l x a.i a.hand pre.0 p pre.1 known.0,
      λ l p. rw (c.level_event.ensures, known.1) (whole_found l x a.i a.hand pre.0 p pre.1 known.0),
    )

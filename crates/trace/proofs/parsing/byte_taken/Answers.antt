use mathlib.Core.Path.{ap, ◌∙◌}
use mathlib.Core.List.{List, ◌++◌}
use Prim.Native.Nat.{ℕ}
use native.Mathlib.Omega.{arith}
use lib.ListN.{take, get_or}
use Rattle.lines.specs.Reading.{closes, found}
use Rattle.lines.proofs.Runs.{one_or_none, said_taken}
use Rattle.lines.proofs.WholeLine.{byte_read, byte_found}
use Rattle.trace.proofs.parsing.byte_taken.Goals as goal

pub returns : goal.returns
returns c =
    let a = c.args in
    let x = a.text.now in
    let n = c.closing.ensures in
    let below = c.requires in (
      omega arith,
      omega arith,
      omega (arith, n, one_or_none (closes a.hand (get_or x a.i 0))),
      λ l p. c.next.ensures ∙ byte_read l x a.i a.hand below p,
      λ l p. rw (n, c.event.ensures)
          (ap (λ (e : List ℕ). found l (take a.i x) ++ e) (said_taken a.hand (get_or x a.i 0)) ∙ byte_found l x a.i a.hand below p),
    )

-- The head; and the page or the lock after it where it says that data follows.
use Prim.Native.Nat.{ℕ, ◌+◌}
use native.Mathlib.Omega.{arith}
use mathlib.Core.Path.{◌≡◌, ap, ◌∙◌}
use lib.ListN.{length}
use Rattle.laws.specs.Table.{table}
use Rattle.codes.specs.Part.{part_of}
use Rattle.latch.specs.Identification.{identification_at}
use Rattle.shown.proofs.Showing.{follows, data_none, data_after}
use Rattle.shown.proofs.output.show_identified.Goals as goal

pub returns-then-show_head : goal.returns-then-show_head
returns-then-show_head c =
    let a = c.args in
    let shown = c.show_head in
    let long : c.from-head.result ≡ (part_of a.part).address_bytes + 1 = omega (arith, c.head_of.ensures.value) in
    data_after _ a.ran shown.result (identification_at (part_of a.part) a.lock a.identification.now a.from) a.out.now
    shown.new.out
    shown.ensures.value shown.ensures.out_after c.if-show_head.true _ c.show_identification.ensures
    ∙ ap (λ (h : ℕ). table (length a.out.now) (follows h a.ran (identification_at (part_of a.part) a.lock a.identification.now a.from)))
    long

pub returns-else-show_head : goal.returns-else-show_head
returns-else-show_head c =
    let a = c.args in
    let shown = c.show_head in
    let long : c.from-head.result ≡ (part_of a.part).address_bytes + 1 = omega (arith, c.head_of.ensures.value) in
    data_none _ a.ran shown.result (identification_at (part_of a.part) a.lock a.identification.now a.from) a.out.now shown.new.out
    shown.ensures.value shown.ensures.out_after c.if-show_head.false
    ∙ ap (λ (h : ℕ). table (length a.out.now) (follows h a.ran (identification_at (part_of a.part) a.lock a.identification.now a.from)))
    long

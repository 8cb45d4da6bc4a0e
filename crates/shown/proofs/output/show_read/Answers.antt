-- The head; and the cells after it where it says that data follows.
use Prim.Native.Nat.{ℕ, ◌+◌, ◌%◌}
use mathlib.Core.Bool.{Bool}
use mathlib.Core.List.{List}
use mathlib.Core.Path.{◌≡◌, ap₂, ◌∙◌}
use native.Mathlib.Omega.{arith}
use lib.ListN.{length, get_or}
use Rattle.laws.specs.Table.{table}
use Rattle.codes.specs.Part.{Part, part_of}
use Rattle.shown.proofs.Showing.{follows, data_none, data_after}
use Rattle.shown.proofs.output.show_read.Goals as goal

-- as the definition has it: by the part's address bytes and its size
as_read : (P : Part) (ran : Bool) (m out : List ℕ) (a h : ℕ) → h ≡ P.address_bytes + 1 → length m ≡ P.size
    → table (length out) (follows h ran (λ d. get_or m ((a + d) % length m) 0))
    ≡ table (length out) (follows (P.address_bytes + 1) ran (λ d. get_or m ((a + d) % P.size) 0))
as_read P ran m out a h e whole = ap₂ (λ (k n : ℕ). table (length out) (follows k ran (λ d. get_or m ((a + d) % n) 0))) e whole

pub returns-then-show_head : goal.returns-then-show_head
returns-then-show_head c =
    let a = c.args in
    let shown = c.show_head in
    let head = c.from-head in
    let long : head.result ≡ (part_of a.part).address_bytes + 1 = omega (arith, c.head_of.ensures.value) in
    data_after _ a.ran shown.result (λ d. get_or a.memory.now ((a.from + d) % length a.memory.now) 0) a.out.now shown.new.out
    shown.ensures.value shown.ensures.out_after c.if-show_head.true _ c.show_cells.ensures
    ∙ as_read (part_of a.part) a.ran a.memory.now a.out.now a.from head.result long c.requires.memory_len

pub returns-else-show_head : goal.returns-else-show_head
returns-else-show_head c =
    let a = c.args in
    let shown = c.show_head in
    let head = c.from-head in
    let long : head.result ≡ (part_of a.part).address_bytes + 1 = omega (arith, c.head_of.ensures.value) in
    data_none _ a.ran shown.result (λ d. get_or a.memory.now ((a.from + d) % length a.memory.now) 0) a.out.now shown.new.out
    shown.ensures.value shown.ensures.out_after c.if-show_head.false
    ∙ as_read (part_of a.part) a.ran a.memory.now a.out.now a.from head.result long c.requires.memory_len

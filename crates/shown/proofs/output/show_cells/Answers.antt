-- The cells come in one run, or in two where they roll over.
use Prim.Native.Nat.{◌-◌}
use native.Mathlib.Nat.{add-sub_cancel_left, sub-zero}
use lib.ListN.{length, take, drop, length-drop}
use lib.Seq.{length-take-le}
use mathlib.Core.Path.{◌≡◌, refl, ◌∙◌}
use Rattle.laws.specs.Spliced.{two_parts}
use Rattle.shown.proofs.Showing.{one_run, two_runs}
use native.Mathlib.Omega.{arith}
use Rattle.shown.proofs.output.show_cells.Goals as goal

pub returns-then-n-run : goal.returns-then-n-run
returns-then-n-run c =
    let a = c.args in
    let n = length a.out.now in
    rw (c.copy_from_slice.ensures.after, add-sub_cancel_left a.from n)
    (one_run a.memory.now a.from n (omega arith))

pub returns-else-n-run : goal.returns-else-n-run
returns-else-n-run c =
    let a = c.args in
    let n = length a.out.now in
    let k = length a.memory.now - a.from in
    let low = take k (drop a.from a.memory.now) in
    let high = take (n - k) a.memory.now in
    let first : length low ≡ k = length-take-le k (drop a.from a.memory.now) (simp length-drop (omega arith)) in
    let second : length high ≡ n - k = length-take-le (n - k) a.memory.now (omega arith) in
    rw (c.copy_from_slice-else-n-run-2.ensures.after, c.copy_from_slice-else-n-run.ensures.after, sub-zero k, sub-zero (n - k))
    (two_parts a.out.now low high k n refl first (omega arith)
    ∙ two_runs a.memory.now a.from n (omega arith) (omega arith) (omega arith))

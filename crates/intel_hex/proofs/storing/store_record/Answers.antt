-- The cells that the record names are lent; what comes back is the record laid over the memory.
use mathlib.Core.Path.{ap, ◌∙◌}
use Prim.Native.Nat.{ℕ, ◌+◌, ◌≤◌}
use native.Mathlib.Omega.{arith}
use lib.ListN.{length}
use Rattle.laws.specs.Each.{each}
use Rattle.intel_hex.specs.Reading.{is_byte}
use Rattle.intel_hex.proofs.Lays.{part_cells, lent_cells_law}
use Rattle.codes.specs.Part.{m95512}
use Rattle.intel_hex.proofs.Fronts.{front_length, front_end, front_digits}
use Rattle.intel_hex.proofs.Fronts.{front_end}
use Rattle.intel_hex.proofs.storing.store_record.Goals as goal

pub line_byte-n-requires : goal.line_byte-n-requires
line_byte-n-requires c = omega (arith, front_length m95512 _ c.requires.1)

pub address_at-start-requires : goal.address_at-start-requires
address_at-start-requires c = omega (arith, front_length m95512 _ c.requires.1)

pub fill-requires : goal.fill-requires
fill-requires c =
    let a = c.args in
    let pre = c.requires in
    let start = c.address_at-start in
    let n = c.line_byte-n in
    let fits : start.result + n.result ≤ length a.memory.now = omega (arith, pre.0, front_end m95512 _ pre.1, start.ensures.0, n.ensures.0) in
    let k = part_cells a.memory.now start.result n.result fits ∙ n.ensures.0 in (
      omega (arith, k, front_length m95512 _ pre.1),
      ap (λ (j : ℕ). each (is_byte a.text.now) (j + 5)) k ∙ front_digits m95512 _ pre.1,
    )

pub returns-clause-memory_after : goal.returns-clause-memory_after
returns-clause-memory_after c =
    let a = c.args in
    let pre = c.requires in
    let start = c.address_at-start in
    let n = c.line_byte-n in
    let fits : start.result + n.result ≤ length a.memory.now = omega (arith, pre.0, front_end m95512 _ pre.1, start.ensures.0, n.ensures.0) in
    lent_cells_law a.text.now a.memory.now _ start.result n.result start.ensures.0 n.ensures.0 fits c.fill.ensures

pub slice_bounds-fill-end : goal.slice_bounds-fill-end
slice_bounds-fill-end c =
    let pre = c.requires in
    omega (arith, pre.0, front_end m95512 _ pre.1, c.address_at-start.ensures.0, c.line_byte-n.ensures.0)

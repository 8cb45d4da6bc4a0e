-- The numbers of a part that is there are those of the memory: what the code's sums and products need.
use Prim.Native.Nat.{ℕ, ◌+◌, ◌-◌, ◌<◌, ◌≤◌}
use native.Mathlib.Nat.{div-le_self}
use native.Mathlib.Omega.{arith}
use Rattle.codes.specs.Part.{part_of, room_cells}
use Rattle.codes.proofs.Parts.{size_most}
use Rattle.split.specs.Split.{count}
use Rattle.split.proofs.Parts.{there}

module _ (chip a n k : ℕ) (h : k < count (part_of chip).size (part_of chip).page a n) where
  pub few_inside : (a + n ≤ room_cells) × (k ≤ room_cells)
  few_inside =
      let t = there (part_of chip).size (part_of chip).page a n h in
      (omega (arith, size_most chip), omega (arith, size_most chip, div-le_self (a + n - 1) (part_of chip).page))

  pub few : (a ≤ room_cells) × (k ≤ room_cells)
  few = (omega (arith, few_inside.0), few_inside.1)

use mathlib.Core.Path.{◌≡◌, refl}
use mathlib.Core.Logic.{inl, inr}
use Prim.Native.Nat.{◌<◌, ◌≤◌}
use native.Mathlib.Omega.{arith}
use Rattle.std.proofs.Common.{rules}
use Rattle.codes.specs.Part.{part_of}
use Rattle.codes.specs.declared.Instruction.TheVariants.{Read, Write, Rdid, Wrid}
use Rattle.laws.specs.Pick.{le_so, gt_so}
use Rattle.edges.proofs.Frame.taking.Goals as goal

pub returns-in-Read : goal.returns-in-Read
returns-in-Read c =
    let a = c.args in
    let few : a.before ≤ (part_of a.part).address_bytes = omega (arith, c.address_bytes_of.ensures.value) in
    elim c.in-Read.is [
      | inl e ↦ rw e (le_so _ few c.address_byte.ensures)
      | inr (inl e) ↦ rw e (le_so _ few c.address_byte.ensures)
      | inr (inr (inl e)) ↦ rw e (le_so _ few c.address_byte.ensures)
      | inr (inr (inr e)) ↦ rw e (le_so _ few c.address_byte.ensures)
    ]

pub returns-in-Write : goal.returns-in-Write
returns-in-Write c =
    let a = c.args in
    let e : a.i ≡ Write = search rules in
    let more : (part_of a.part).address_bytes < a.before = omega (arith, c.address_bytes_of.ensures.value) in
    rw e (gt_so _ more c.latch_byte.ensures)

pub returns-in-Wrid : goal.returns-in-Wrid
returns-in-Wrid c =
    let a = c.args in
    let e : a.i ≡ Wrid = search rules in
    let more : (part_of a.part).address_bytes < a.before = omega (arith, c.address_bytes_of.ensures.value) in
    rw e (gt_so _ more c.identification_data.ensures)

pub returns-in_default : goal.returns-in_default
returns-in_default c =
    let a = c.args in
    let more : (part_of a.part).address_bytes < a.before = omega (arith, c.address_bytes_of.ensures.value) in
    let page : a.i ≡ Write → ⊥ = search rules in
    let identification : a.i ≡ Wrid → ⊥ = search rules in
    elim c.in-Read.is [
      | inl e ↦ rw e (gt_so _ more refl)
      | inr (inl e) ↦ absurd (page e)
      | inr (inr (inl e)) ↦ rw e (gt_so _ more refl)
      | inr (inr (inr e)) ↦ absurd (identification e)
    ]

-- Each arm is the clause of its instruction: the side that the count picks, by its call.
use Prim.Native.Nat.{ℕ, ◌<◌, ◌≤◌}
use mathlib.Core.Logic.{inl, inr}
use mathlib.Core.Path.{◌≡◌, refl, ap, ◌∙◌}
use native.Mathlib.Omega.{arith}
use Rattle.std.proofs.Common.{rules}
use Rattle.laws.specs.Pick.{eq_so, ne_so, le_so, gt_so}
use Rattle.codes.specs.Part.{Part, part_of}
use Rattle.codes.specs.declared.Instruction.{Instruction}
use Rattle.codes.specs.declared.Instruction.TheVariants.{Wren, Wrdi, Rdsr, Wrsr, Read, Write, Rdid, Wrid, Silence}
use Rattle.edges.specs.declared.Frame.{Frame}
use Rattle.edges.specs.Rising.{taking}
use Rattle.lists.specs.Ways.{whole, risen_to}
use Rattle.lists.proofs.Front.taking.Goals.{in_default-via-in-Wrsr+else-before-eq1, in_default-via-in-Read+else-before-address_bytes_of+in-Wren-1, in_default-via-in_default}
use Rattle.lists.proofs.Front.taking.Goals as goal

-- an instruction that takes no byte
takes_none : (P : Part) (i : Instruction) (n v : ℕ) (f : Frame) → (i ≡ Wrsr → ⊥) → (i ≡ Read → ⊥) → (i ≡ Write → ⊥) → (i ≡ Rdid → ⊥) → (i ≡ Wrid → ⊥)
    → f ≡ taking P i n v f
takes_none P Wren n v f s r w x y = refl
takes_none P Wrdi n v f s r w x y = refl
takes_none P Rdsr n v f s r w x y = refl
takes_none P Wrsr n v f s r w x y = absurd (s refl)
takes_none P Read n v f s r w x y = absurd (r refl)
takes_none P Write n v f s r w x y = absurd (w refl)
takes_none P Rdid n v f s r w x y = absurd (x refl)
takes_none P Wrid n v f s r w x y = absurd (y refl)
takes_none P Silence n v f s r w x y = refl

pub returns-in-Wrsr : goal.returns-in-Wrsr
returns-in-Wrsr c =
    λ m l k. rw c.in-Wrsr.is (c.value_byte.ensures m l k ∙ ap
    (λ (f : Frame). risen_to f (whole c.args.self l k)) (eq_so _ c.if-before-eq1.true refl))

pub returns-in-Read : goal.returns-in-Read
returns-in-Read c =
    let a = c.args in
    let few : a.self.taken ≤ (part_of a.part).address_bytes = omega (arith, c.address_bytes_of.ensures.value) in
    elim c.in-Read.is [
      | inl e ↦ λ m l k. rw e (c.address_byte.ensures m l k ∙ ap (λ (f : Frame). risen_to f (whole a.self l k)) (le_so _ few refl))
      | inr (inl e) ↦ λ m l k. rw e (c.address_byte.ensures m l k ∙ ap (λ (f : Frame). risen_to f (whole a.self l k)) (le_so _ few refl))
      | inr (inr (inl e)) ↦ λ m l k. rw e (c.address_byte.ensures m l k ∙ ap (λ (f : Frame). risen_to f (whole a.self l k)) (le_so _ few refl))
      | inr (inr (inr e)) ↦ λ m l k. rw e (c.address_byte.ensures m l k ∙ ap (λ (f : Frame). risen_to f (whole a.self l k)) (le_so _ few refl))
    ]

pub returns-in-Write : goal.returns-in-Write
returns-in-Write c =
    let a = c.args in
    let e : a.i ≡ Write = search rules in
    let more : (part_of a.part).address_bytes < a.self.taken = omega (arith, c.address_bytes_of.ensures.value) in
    λ m l k. rw e (c.latch_byte.ensures m l k ∙ ap
    (λ (f : Frame). risen_to f (whole a.self l k)) (gt_so _ more refl))

pub returns-in-Wrid : goal.returns-in-Wrid
returns-in-Wrid c =
    let a = c.args in
    let e : a.i ≡ Wrid = search rules in
    let more : (part_of a.part).address_bytes < a.self.taken = omega (arith, c.address_bytes_of.ensures.value) in
    λ m l k. rw e (c.identification_data.ensures m l k ∙ ap
    (λ (f : Frame). risen_to f (whole a.self l k)) (gt_so _ more refl))

pub returns-in_default : goal.returns-in_default
returns-in_default c =
    let a = c.args in
    let P = part_of a.part in
    elim c.in_default.branch [
      | in_default-via-in-Wrsr+else-before-eq1 w ↦
          λ m l k. rw w.in-Wrsr.is (c.unkept.ensures m l k ∙ ap (λ (f : Frame). risen_to f (whole a.self l k)) (ne_so _ w.if-before-eq1.false refl))
      | in_default-via-in-Read+else-before-address_bytes_of+in-Wren-1 w ↦
          let more : P.address_bytes < a.self.taken = omega (arith, w.address_bytes_of.ensures.value) in
          let page : a.i ≡ Write → ⊥ = search rules in
          let identification : a.i ≡ Wrid → ⊥ = search rules in
          elim w.in-Read.is [
            | inl e ↦ λ m l k. rw e (c.unkept.ensures m l k ∙ ap (λ (f : Frame). risen_to f (whole a.self l k)) (gt_so _ more refl))
            | inr (inl e) ↦ absurd (page e)
            | inr (inr (inl e)) ↦ λ m l k. rw e (c.unkept.ensures m l k ∙ ap (λ (f : Frame). risen_to f (whole a.self l k)) (gt_so _ more refl))
            | inr (inr (inr e)) ↦ absurd (identification e)
          ]
      | in_default-via-in_default w ↦
          λ m l k. c.unkept.ensures m l k ∙ ap (λ (f : Frame). risen_to f (whole a.self l k))
          (takes_none P a.i _ _ _ w.in_default.not-Wrsr w.in_default.not-Read w.in_default.not-Write w.in_default.not-Rdid w.in_default.not-Wrid)
    ]

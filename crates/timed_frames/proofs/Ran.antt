-- A frame at whose eighth edge a cycle ran: WRDI alone may change the record, and only on a part that lets it through.
use Prim.Native.Nat.{ℕ}
use mathlib.Core.Bool.{Bool, true, false, not, ◌&&◌}
use mathlib.Core.Path.{◌≡◌, refl, ap, sym, ◌∙◌}
use lib.Dec.{eqb}
use borrow.Author.Tests.{eqb-true}
use Rattle.laws.specs.Pick.{pick, at_no, pick_same, and_left, and_right, and_both, and_no_left}
use Rattle.laws.specs.And.{never, failed, same_test}
use Rattle.codes.specs.Part.{Part}
use Rattle.codes.specs.Instructions.{row}
use Rattle.codes.specs.Verdicts.{verdict, verdict_by, is_executed}
use Rattle.codes.specs.declared.Instruction.{Instruction}
use Rattle.codes.specs.declared.Instruction.TheVariants.{Wren, Wrdi, Rdsr, Wrsr, Read, Write, Rdid, Wrid, Silence}
use Rattle.codes.proofs.Judged.{passed}
use Rattle.latch.specs.declared.Latch.{Latch}
use Rattle.chip.specs.Effects.{effect}
use Rattle.chip.specs.Records.{with_wel}
use Rattle.chip.specs.declared.Core.{Core}
use Rattle.timed_frames.specs.InTime.{is_wrdi}

module _ (P : Part) (a v x n : ℕ) (wel locked protected : Bool) (l : Latch) (c : Core) where
  abbrev done : Instruction → Bool
  done i = is_executed (verdict P i a x n true wel locked protected false)

  -- an instruction that needs no cycle is stopped
  stopped : (i : Instruction) → (row P i a x).idle ≡ true → done i ≡ false
  stopped i e =
      failed (done i) (λ d. never (and_both (row P i a x).idle true e refl) (passed P i a x n true wel locked protected false d).free)

  not_out : (b : Bool) → (not b && true) ≡ false → b ≡ true
  not_out true e = refl
  not_out false e = sym e

  -- WRDI: exactly eight bits, on a part that lets it through
  wrdi : done Wrdi ≡ (P.wrdi_in_cycle && true && eqb n 8)
  unfolding verdict_by pick
  wrdi =
      same_test (done Wrdi) (P.wrdi_in_cycle && true && eqb n 8)
      (λ d.
      let p = passed P Wrdi a x n true wel locked protected false d in
      and_both (P.wrdi_in_cycle && true) (eqb n 8) (and_both P.wrdi_in_cycle true (not_out P.wrdi_in_cycle p.free) refl) p.counted)
      (λ e.
      let through : P.wrdi_in_cycle ≡ true = and_left P.wrdi_in_cycle true (and_left (P.wrdi_in_cycle && true) (eqb n 8) e) in
      let eight : n ≡ 8 = eqb-true n 8 (and_right (P.wrdi_in_cycle && true) (eqb n 8) e) in
      rw (through, eight) refl)

  -- no other instruction
  other : (b : Bool) → (b && false && eqb n 8) ≡ false
  other true = and_no_left false (eqb n 8) refl
  other false = and_no_left false (eqb n 8) refl

  pub after_ran : (i : Instruction) → pick (done i) (effect P i a v l c) c ≡ pick (P.wrdi_in_cycle && is_wrdi i && eqb n 8) (with_wel 0 c) c
  after_ran Wren = at_no _ _ (stopped Wren refl) ∙ sym (at_no _ _ (other P.wrdi_in_cycle))
  after_ran Wrdi = ap (λ (t : Bool). pick t (with_wel 0 c) c) wrdi
  after_ran Rdsr = pick_same _ c ∙ sym (at_no _ _ (other P.wrdi_in_cycle))
  after_ran Wrsr = at_no _ _ (stopped Wrsr refl) ∙ sym (at_no _ _ (other P.wrdi_in_cycle))
  after_ran Read = pick_same _ c ∙ sym (at_no _ _ (other P.wrdi_in_cycle))
  after_ran Write = at_no _ _ (stopped Write refl) ∙ sym (at_no _ _ (other P.wrdi_in_cycle))
  after_ran Rdid = pick_same _ c ∙ sym (at_no _ _ (other P.wrdi_in_cycle))
  after_ran Wrid = at_no _ _ (stopped Wrid refl) ∙ sym (at_no _ _ (other P.wrdi_in_cycle))
  after_ran Silence = pick_same _ c ∙ sym (at_no _ _ (other P.wrdi_in_cycle))

use Prim.Native.Nat.{ℕ, ◌+◌}
use mathlib.Core.Bool.{Bool, true, not, ◌&&◌}
use mathlib.Core.List.{List}
use mathlib.Core.Path.{◌≡◌, ap, sym, ◌∙◌}
use lib.Dec.{eqb}
use lib.ListN.{get_or}
use Rattle.laws.specs.Pick.{pick, at_yes, at_no}
use Rattle.codes.specs.Part.{Part}
use Rattle.codes.specs.Status.{on}
use Rattle.codes.specs.declared.Instruction.{Instruction}
use Rattle.chip.specs.Questions.{barred}
use Rattle.chip.specs.Records.{own_part, with_wel}
use Rattle.chip.specs.declared.Core.{Core}
use Rattle.fields.specs.Bytes.{instruction, address, written}
use Rattle.frames.specs.After.{after}
use Rattle.timed_frames.specs.InTime.{is_wrdi}
use Rattle.timed_frames.proofs.Ran.{after_ran}
use Rattle.timed_frames.proofs.polled.after_ran.Goals as goal

tested : (P : Part) (n : ℕ) {u v : Bool} {i j : Instruction} → u ≡ P.wrdi_in_cycle → i ≡ j → v ≡ is_wrdi i
    → (u && v && eqb n 8) ≡ (P.wrdi_in_cycle && is_wrdi j && eqb n 8)
tested P n e k h = λ x. e x && (h ∙ ap is_wrdi k) x && eqb n 8

told : (P : Part) (c : Core) (s : List ℕ) (n : ℕ) (w : Bool)
    → after P true w c s n ≡ pick (P.wrdi_in_cycle && is_wrdi (instruction P s) && eqb n 8) (with_wel 0 c) c
told P c s n w =
    after_ran P (address P s) (get_or s 1 0) (get_or s (P.address_bytes + 1) 0) n (on c.wel) (on c.srwd && not w)
    (barred P c (instruction P s) (address P s)) (written P s) c (instruction P s)

pub returns-then-wrdi_in_cycle-is_wrdi : goal.returns-then-wrdi_in_cycle-is_wrdi
returns-then-wrdi_in_cycle-is_wrdi c =
    let a = c.args in
    let P = own_part a.core in
    let s = a.bytes.now in
    let t = tested P a.bits c.wrdi_in_cycle.ensures c.instruction_of-i.ensures
    c.is_wrdi.ensures in
    λ w. c.with_wel.ensures ∙ sym (at_yes _ _ (sym t ∙ c.if-wrdi_in_cycle-is_wrdi.true)) ∙ sym (told P a.core s a.bits w)

pub returns : goal.returns
returns c =
    let a = c.args in
    let P = own_part a.core in
    let s = a.bytes.now in
    let t = tested P a.bits c.wrdi_in_cycle.ensures c.instruction_of-i.ensures c.is_wrdi.ensures in
    λ w. sym (at_no _ _ (sym t ∙ c.if-wrdi_in_cycle-is_wrdi.false)) ∙ sym (told P a.core s a.bits w)

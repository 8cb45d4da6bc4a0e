-- What it says of a frame that it is executed: which tests it passed.
use mathlib.Core.Path.{◌≡◌, refl, ap, sym, ◌∙◌}
use mathlib.Core.Bool.{Bool, true, false, not, ◌&&◌, true≢false}
use Prim.Native.Nat.{ℕ}
use lib.Dec.{ltb, eqb}
use borrow.Author.Tests.{not-false}
use Rattle.laws.specs.Pick.{pick, pick_case, and_no_right, and_right}
use Rattle.codes.specs.Part.{Part}
use Rattle.codes.specs.Instructions.{row, decode, count_fits, guarded, is_write, is_wrid}
use Rattle.codes.specs.Instructions.{wren_code, wrdi_code, rdsr_code, wrsr_code, read_code, write_code, rdid_code, wrid_code}
use Rattle.codes.specs.Verdicts.{verdict, verdict_by, is_executed}
use Rattle.codes.specs.declared.Instruction.{Instruction}
use Rattle.codes.specs.declared.Instruction.TheVariants.{Wren, Wrdi, Rdsr, Wrsr, Read, Write, Rdid, Wrid, Silence}
use Rattle.codes.specs.declared.Verdict.{Verdict}
use Rattle.codes.specs.declared.Verdict.TheVariants.{Executed, CycleRan, WelOff, WrongCount, Guarded, OnHold, UnknownCode}

pub record Passed (P : Part) (i : Instruction) (a x n : ℕ) (ran wel locked protected held : Bool) : Type 0 where
  pub whole : ltb n 8 ≡ false
  pub free : ((row P i a x).idle && ran) ≡ false
  pub enabled : ((row P i a x).wel && not wel) ≡ false
  pub counted : count_fits (row P i a x).count n ≡ true
  pub unguarded : guarded (row P i a x).guard locked protected ≡ false
  pub unheld : (held && not (row P i a x).hold) ≡ false
  pub known : (row P i a x).known ≡ true

-- a choice between failing a test and going on
passes : (t : Bool) (v o : Verdict) → is_executed v ≡ false → is_executed (pick t v o) ≡ true → (t ≡ false) × (is_executed o ≡ true)
unfolding pick
passes true v o n e = absurd (true≢false (sym e ∙ n))
passes false v o n e = (refl, e)

known_executed : (t : Bool) → is_executed (pick t Executed UnknownCode) ≡ true → t ≡ true
unfolding pick
known_executed true e = refl
known_executed false e = e

pub passed : (P : Part) (i : Instruction) (a x n : ℕ) (ran wel locked protected held : Bool)
    → is_executed (verdict P i a x n ran wel locked protected held) ≡ true → Passed P i a x n ran wel locked protected held
unfolding verdict_by
passed P i a x n ran wel locked protected held e =
    let eight = passes _ WrongCount _ refl e in
    let cycle = passes _ CycleRan _ refl eight.1 in
    let enable = passes _ WelOff _ refl cycle.1 in
    let count = passes _ WrongCount _ refl enable.1 in
    let guard = passes _ Guarded _ refl count.1 in
    let hold = passes _ OnHold _ refl guard.1 in
    record {
      whole = eight.0;
      free = cycle.0;
      enabled = enable.0;
      counted = not-false _ count.0;
      unguarded = guard.0;
      unheld = hold.0;
      known = known_executed (row P i a x).known hold.1;
    }

-- ---- Hold at deselect

-- WRITE alone is let through
pub hold_write : (P : Part) (i : Instruction) (a x : ℕ) → (row P i a x).hold ≡ is_write i
hold_write P Wren a x = refl
hold_write P Wrdi a x = refl
hold_write P Rdsr a x = refl
hold_write P Wrsr a x = refl
hold_write P Read a x = refl
hold_write P Write a x = refl
hold_write P Rdid a x = refl
hold_write P Wrid a x = refl
hold_write P Silence a x = refl

-- the verdict on a WRITE is the same held or not
pub verdict_held : (P : Part) (i : Instruction) (a x n : ℕ) (ran wel locked protected h k : Bool) → is_write i ≡ true
    → verdict P i a x n ran wel locked protected h ≡ verdict P i a x n ran wel locked protected k
unfolding verdict_by
verdict_held P i a x n ran wel locked protected h k w =
    let r = row P i a x in
    let free : not r.hold ≡ false = ap not (hold_write P i a x ∙ w) in
    let same : (h && not r.hold) ≡ (k && not r.hold) = and_no_right h _ free ∙ sym (and_no_right k _ free) in
    ap (λ t. pick (ltb n 8) WrongCount (pick (r.idle && ran) CycleRan (pick (r.wel && not wel) WelOff
    (pick (not (count_fits r.count n)) WrongCount (pick (guarded r.guard locked protected) Guarded
    (pick t OnHold (pick r.known Executed UnknownCode))))))) same

-- ---- which parts know 82h

-- only a part with an identification page
pub wrid_identified : (P : Part) (v : ℕ) → is_wrid (decode P v) ≡ true → P.identified ≡ true
unfolding decode
wrid_identified P v =
    let Known : Instruction → Type 0 = λ i. is_wrid i ≡ true → P.identified ≡ true in
    pick_case Known (eqb v wren_code) (λ t e. absurd (true≢false (sym e)))
    (λ _. pick_case Known (eqb v wrdi_code) (λ t e. absurd (true≢false (sym e)))
    (λ _. pick_case Known (eqb v rdsr_code) (λ t e. absurd (true≢false (sym e)))
    (λ _. pick_case Known (eqb v wrsr_code) (λ t e. absurd (true≢false (sym e)))
    (λ _. pick_case Known (eqb v read_code) (λ t e. absurd (true≢false (sym e)))
    (λ _. pick_case Known (eqb v write_code) (λ t e. absurd (true≢false (sym e)))
    (λ _. pick_case Known (eqb v rdid_code && P.identified) (λ t e. absurd (true≢false (sym e)))
    (λ _. pick_case Known (eqb v wrid_code && P.identified) (λ t e. and_right (eqb v wrid_code) P.identified t)
    (λ _ e. absurd (true≢false (sym e))))))))))

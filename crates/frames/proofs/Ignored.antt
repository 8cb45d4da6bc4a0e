-- A frame that is not executed leaves the record as it was, WEL and what waits with it. (That a frame never touches the memory is in its type:
-- the memory is lent for reading.)
use mathlib.Core.Path.{◌≡◌, ap, sym, ◌∙◌}
use mathlib.Core.Bool.{Bool, true, false, not, ◌&&◌, true≢false}
use mathlib.Core.List.{List}
use Prim.Native.Nat.{ℕ, ◌+◌}
use lib.ListN.{length, get_or}
use Rattle.laws.specs.Pick.{at_no, and_both, pick_same}
use Rattle.laws.specs.And.{failed}
use Rattle.codes.specs.Part.{Part}
use Rattle.codes.specs.Status.{on}
use Rattle.chip.specs.Questions.{barred}
use Rattle.chip.specs.Records.{running}
use Rattle.codes.specs.Refusals.{is_done}
use Rattle.codes.specs.Verdicts.{is_executed}
use Rattle.codes.specs.Instructions.{row, count_fits, guarded}
use Rattle.chip.specs.declared.Core.{Core}
use Rattle.codes.specs.declared.Row.{Row}
use Rattle.codes.specs.declared.Instruction.TheVariants.{Write}
use Rattle.fields.specs.Bytes.{instruction, address}
use Rattle.frames.specs.After.{judged, after}
use Rattle.frames.specs.Answers.{frame_outcome, framed, framed_output}
use Rattle.codes.proofs.Judged.{Passed, passed}

-- the row of a frame's instruction, at its address and with its data byte
abbrev pub frame_row : Part → List ℕ → Row
frame_row P s = row P (instruction P s) (address P s) (get_or s (P.address_bytes + 1) 0)

module _ (P : Part) (ran w : Bool) (c : Core) (s : List ℕ) (n : ℕ) where
  -- the tests that it passed, were it executed
  abbrev Tests : Type 0
  Tests =
      Passed P (instruction P s) (address P s) (get_or s (P.address_bytes + 1) 0) n ran (on c.wel) (on c.srwd && not w)
      (barred P c (instruction P s) (address P s)) false

  pub ignored : is_executed (judged P ran w c s n) ≡ false → after P ran w c s n ≡ c
  ignored e = at_no _ _ e

  pub ignored_wel : is_executed (judged P ran w c s n) ≡ false → (after P ran w c s n).wel ≡ c.wel
  ignored_wel e = ap (λ (x : Core). x.wel) (ignored e)

  unpassed : (Tests → ⊥) → after P ran w c s n ≡ c
  unpassed h =
      ignored (failed (is_executed (judged P ran w c s n))
      (λ e. h (passed P (instruction P s) (address P s) (get_or s (P.address_bytes + 1) 0) n ran (on c.wel) (on c.srwd && not w)
      (barred P c (instruction P s) (address P s)) false e)))

  -- by the test that fails: a cycle ran, WEL is off, the count is wrong, W, the protection or the lock stops it, the code is none or a lock's data
  -- byte does not set it
  pub while_cycle : (frame_row P s).idle ≡ true → ran ≡ true → after P ran w c s n ≡ c
  while_cycle p q = unpassed (λ t. true≢false (sym (and_both _ _ p q) ∙ t.free))

  pub while_wel_off : (frame_row P s).wel ≡ true → on c.wel ≡ false → after P ran w c s n ≡ c
  while_wel_off p q = unpassed (λ t. true≢false (sym (and_both _ _ p (ap not q)) ∙ t.enabled))

  pub miscounted : count_fits (frame_row P s).count n ≡ false → after P ran w c s n ≡ c
  miscounted p = unpassed (λ t. true≢false (sym t.counted ∙ p))

  pub stopped : guarded (frame_row P s).guard (on c.srwd && not w) (barred P c (instruction P s) (address P s)) ≡ true → after P ran w c s n ≡ c
  stopped p = unpassed (λ t. true≢false (sym p ∙ t.unguarded))

  pub silent : (frame_row P s).known ≡ false → after P ran w c s n ≡ c
  silent p = unpassed (λ t. true≢false (sym t.known ∙ p))

  -- a WRITE while a cycle ran leaves what waits alone
  pub write_while_cycle : instruction P s ≡ Write → ran ≡ true → (after P ran w c s n).waits ≡ c.waits
  write_while_cycle i q = ap (λ (x : Core). x.waits) (while_cycle (ap (λ j. (row P j (address P s) (get_or s (P.address_bytes + 1) 0)).idle) i) q)

-- the public call: a refused frame leaves the record and the output as they were, and one that is not executed the record
module _ (P : Part) (c : Core) (m i : List ℕ) (w : Bool) (s : List ℕ) (n : ℕ) (out : List ℕ) where
  pub refused_core : is_done (frame_outcome P c (length m) (length i) (length s) n (length out)) ≡ false → (framed P c m i w s n (length out)).core ≡ c
  unfolding framed
  refused_core e = at_no _ _ e

  pub refused_output : is_done (frame_outcome P c (length m) (length i) (length s) n (length out)) ≡ false → framed_output P c m i s n out ≡ out
  unfolding framed_output
  refused_output e = at_no _ _ e

  pub ignored_core : is_executed (judged P (running c) w c s n) ≡ false → (framed P c m i w s n (length out)).core ≡ c
  unfolding framed
  ignored_core e = rw (ignored P (running c) w c s n e) (pick_same _ c)

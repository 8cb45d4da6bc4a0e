-- What an executed instruction leaves is inside the ranges, in both models.
use Rattle.std.proofs.Common.{◌≡◌, ℕ, ◌+◌, ◌*◌, ◌/◌, ◌<◌, ◌≤◌, Bool, true, false, not, ◌&&◌, ◌||◌, leb, sym, refl, ◌∙◌, true≢false, mod-lt, arith, lt-ltb, eq-eqb, le-leb, leb-true}
use borrow.Author.Tests.{not-false}
use Rattle.laws.specs.Pick.{pick, at_yes, at_no, and_left, and_right, and_both, and_no_right}
use Rattle.laws.specs.And.{or_right}
use Rattle.codes.specs.Part.{Part, is_part, pages}
use Rattle.codes.specs.Status.{on, bit_of, writable}
use Rattle.latch.specs.Latches.{no_latch, latch_fits}
use Rattle.chip.specs.Records.{running, waits_nothing, nothing, status_waits, page_waits, identification_waits, lock_waits, with_wel, with_cycle}
use Rattle.chip.specs.Ranges.{value_fits, page_fits, wait_fits, waits_one}
use Rattle.codes.specs.Verdicts.{verdict, is_executed}
use Rattle.codes.specs.Instructions.{row, is_wrid, picks_lock}
use Rattle.chip.specs.Effects.{effect}
use Rattle.latch.specs.declared.Latch.{Latch}
use Rattle.chip.specs.declared.Waiting.{Waiting}
use Rattle.chip.specs.declared.Core.{Core}
use Rattle.codes.specs.declared.Instruction.{Instruction}
use Rattle.codes.specs.declared.Instruction.TheVariants.{Wren, Wrdi, Rdsr, Wrsr, Read, Write, Rdid, Wrid, Silence}
use Rattle.chip.proofs.Within.{Within, nothing_fits}
use Rattle.codes.proofs.Judged.{passed}

-- ---- what waits

bit_7 : (a b d : ℕ) → a < 2 → b < 2 → d < 2 → bit_of 7 (128 * a + 8 * b + 4 * d) ≡ a
bit_7 a b d h k m = omega arith

bit_3 : (a b d : ℕ) → a < 2 → b < 2 → d < 2 → bit_of 3 (128 * a + 8 * b + 4 * d) ≡ b
bit_3 a b d h k m = omega arith

bit_2 : (a b d : ℕ) → a < 2 → b < 2 → d < 2 → bit_of 2 (128 * a + 8 * b + 4 * d) ≡ d
bit_2 a b d h k m = omega arith

bit_small : (k v : ℕ) → bit_of k v < 2
bit_small k v = mod-lt _ (omega arith)

-- the writable bits of a value are all writable
pub writable_twice : (v : ℕ) → writable (writable v) ≡ writable v
writable_twice v =
    rw (
      bit_7 (bit_of 7 v) (bit_of 3 v) (bit_of 2 v) (bit_small 7 v) (bit_small 3 v) (bit_small 2 v),
      bit_3 (bit_of 7 v) (bit_of 3 v) (bit_of 2 v) (bit_small 7 v)
          (bit_small 3 v) (bit_small 2 v),
      bit_2 (bit_of 7 v) (bit_of 3 v) (bit_of 2 v) (bit_small 7 v) (bit_small 3 v) (bit_small 2 v),
    )

status_fits : (P : Part) (v : ℕ) → wait_fits P (status_waits v) ≡ true
unfolding pick
status_fits P v =
    and_both (value_fits (status_waits v) && page_fits P (status_waits v)) (latch_fits P false no_latch)
    (and_both (value_fits (status_waits v)) true (eq-eqb _ _ (writable_twice v)) refl)
    (and_right (value_fits nothing && page_fits P nothing) (latch_fits P false no_latch) (nothing_fits P))

page_fits_law : (P : Part) (p : ℕ) (l : Latch) → p < pages P → latch_fits P true l ≡ true → wait_fits P (page_waits p l) ≡ true
unfolding pick
page_fits_law P p l h fits =
    and_both (value_fits (page_waits p l) && page_fits P (page_waits p l)) (latch_fits P true l)
    (and_both (value_fits (page_waits p l)) (page_fits P (page_waits p l)) refl (lt-ltb p (pages P) h)) fits

identification_fits : (P : Part) (l : Latch) → latch_fits P true l ≡ true → wait_fits P (identification_waits l) ≡ true
unfolding pick
identification_fits P l fits =
    and_both (value_fits (identification_waits l) && page_fits P (identification_waits l)) (latch_fits P true l) refl fits

lock_fits : (P : Part) → wait_fits P lock_waits ≡ true
unfolding pick
lock_fits P = nothing_fits P

-- ---- what an executed instruction leaves

module _ (P : Part) (c : Core) where
  -- WEL set or cleared while no cycle runs, or in one where the part has WRDI in a cycle
  tie_kept : (d r u v o n : Bool) → (not d && r) ≡ false → pick r ((d || u) && o) n ≡ true → pick r ((d || v) && o) n ≡ true
  tie_kept true r u v o n f e = e
  tie_kept false r u v o n f e = at_no _ _ f ∙ sym (at_no _ _ f) ∙ e

  wel_within : (v : ℕ) → v ≤ 1 → (not P.wrdi_in_cycle && running c) ≡ false → Within P c → Within P (with_wel v c)
  wel_within v h free w =
      record {
        flags =
            and_both (is_part c.part && leb c.lock 1 && leb c.srwd 1 && leb c.bp1 1 && leb c.bp0 1) (leb v 1)
            (and_left (is_part c.part && leb c.lock 1 && leb c.srwd 1 && leb c.bp1 1 && leb c.bp0 1) (leb c.wel 1) w.flags) (le-leb v 1 h);
        cycle = w.cycle;
        left = w.left;
        tie = tie_kept P.wrdi_in_cycle (running c) (on c.wel) (on v) (waits_one P c.waits) (waits_nothing c.waits) free w.tie;
        waits = w.waits;
        blank = w.blank;
      }

  -- a cycle begun while WEL is on
  cycle_within : (x : Waiting) → on c.wel ≡ true → waits_one P x ≡ true → wait_fits P x ≡ true → Within P c → Within P (with_cycle x c)
  cycle_within x wel one fits w =
      let some : 0 < c.cycle = leb-true 1 c.cycle (and_left (leb 1 c.cycle) (leb c.cycle P.longest) w.cycle) in
      record {
        flags = w.flags;
        cycle = w.cycle;
        left = omega arith;
        tie = at_yes _ _ (lt-ltb 0 c.cycle some) ∙ and_both (P.wrdi_in_cycle || on c.wel) (waits_one P x) (or_right P.wrdi_in_cycle (on c.wel) wel) one;
        waits = fits;
        blank = w.blank;
      }

-- the record, by the instruction: no cycle runs where there must be none, WEL is on where it must be
module _ (P : Part) (a v x : ℕ) (l : Latch) (c : Core) (below : a / P.page < pages P) (fits : latch_fits P true l ≡ true) where
  -- 82h makes one of two things wait, on a part that has them
  one_waits : (t : Bool) → P.identified ≡ true → let w = pick t lock_waits (identification_waits l) in (waits_one P w ≡ true) × (wait_fits P w ≡ true)
  unfolding pick
  one_waits true known = (and_both P.identified true known refl, lock_fits P)
  one_waits false known = (and_both P.identified true known refl, identification_fits P l fits)

  pub effect_within : (i : Instruction) → (is_wrid i ≡ true → P.identified ≡ true)
      → ((row P i a x).idle && running c) ≡ false → ((row P i a x).wel && not (on c.wel)) ≡ false → Within P c → Within P (effect P i a v l c)
  effect_within Wren known free wel w = wel_within P c 1 (omega arith) (and_no_right (not P.wrdi_in_cycle) (running c) free) w
  effect_within Wrdi known free wel w = wel_within P c 0 (omega arith) free w
  effect_within Rdsr known free wel w = w
  effect_within Wrsr known free wel w = cycle_within P c (status_waits v) (not-false _ wel) refl (status_fits P v) w
  effect_within Read known free wel w = w
  effect_within Write known free wel w = cycle_within P c (page_waits (a / P.page) l) (not-false _ wel) refl (page_fits_law P (a / P.page) l below fits) w
  effect_within Rdid known free wel w = w
  effect_within Wrid known free wel w =
      let one = one_waits (picks_lock a) (known refl) in
      cycle_within P c _ (not-false _ wel) one.0 one.1 w
  effect_within Silence known free wel w = w

-- a cycle that runs did so at the eighth edge
still_free : (t ran run : Bool) → (run ≡ true → ran ≡ true) → (t && ran) ≡ false → (t && run) ≡ false
still_free true ran true h e = absurd (true≢false (sym (h refl) ∙ e))
still_free true ran false h e = refl
still_free false ran run h e = refl

-- a frame that is judged executed leaves a record inside the ranges: its page is one of the memory's, its latch fits
pub executed_within : (P : Part) (i : Instruction) (a v x n : ℕ) (ran locked protected held : Bool) (l : Latch) (c : Core)
    → (is_wrid i ≡ true → P.identified ≡ true) → is_executed (verdict P i a x n ran (on c.wel) locked protected held) ≡ true
    → (running c ≡ true → ran ≡ true) → a / P.page < pages P → latch_fits P true l ≡ true → Within P c → Within P (effect P i a v l c)
executed_within P i a v x n ran locked protected held l c known e h below fits w =
    let t = passed P i a x n ran (on c.wel) locked protected held e in
    effect_within P a v x l c below fits i known (still_free (row P i a x).idle ran (running c) h t.free) t.enabled w

-- No frame of a driver's run has a data byte for a cell outside the run, whatever the state that takes it: a test over the list of acts alone, shown of
-- the waits, of a page part by where it lies, and so of the run.
use mathlib.Core.Path.{◌≡◌, refl}
use mathlib.Core.Bool.{Bool, false, ◌&&◌, ◌||◌}
use mathlib.Core.List.{List, [], ◌∷◌, ◌++◌}
use Prim.Native.Nat.{ℕ, zero, suc, ◌+◌, ◌-◌, ◌%◌, ◌<◌, ◌≤◌}
use native.Mathlib.Omega.{arith}
use lib.ListN.{length}
use lib.Dec.{eqb}
use Rattle.laws.specs.Pick.{pick, pick_case, and_no_right}
use Rattle.laws.specs.And.{or_none_in, or_none_out}
use Rattle.codes.specs.Part.{Part}
use Rattle.codes.specs.Instructions.{decode}
use Rattle.codes.specs.Verdicts.{is_executed}
use Rattle.codes.proofs.Sound.{Sound}
use Rattle.chip.specs.Records.{running}
use Rattle.chip.specs.Cells.{memory_cells, writes_to, latched_in}
use Rattle.fields.specs.Bytes.{instruction, address, written}
use Rattle.split.specs.Split.{count, split_address, split_length}
use Rattle.split.specs.Pieces.{piece}
use Rattle.frames.specs.After.{judged}
use Rattle.frames.specs.Sent.{write_bytes}
use Rattle.frames.specs.Play.{Act, frame, reading, FrameBench, acted, acted_all, addresses, addressed}
use Rattle.sequence.specs.Sequence.{wren, rdsr, write, late_poll, polls_on, first_wait, page_wait, wren_and_write, page_acts, part_acts}
use Rattle.sequence.specs.Sequence.{Run, pages_from, all_parts, touches, run}
use Rattle.sequence.proofs.Leaves.{piece_length}
use Rattle.sequence.proofs.Parts.{Lies, lies}
use Rattle.cut_theorems.specs.Outside.{Outside}
use Rattle.cut_theorems.proofs.Latched.{outside_part, write_latches}

-- ---- a frame that writes the memory, with a data byte for cell j, whether it is executed or not

module _ (P : Part) (j : ℕ) where
  abbrev aims : Act → Bool
  aims (frame w s n) = writes_to memory_cells (instruction P s) (address P s) && latched_in memory_cells P (address P s) (written P s) j
  aims (reading t) = false

  abbrev pub aimed : List Act → Bool
  aimed [] = false
  aimed (x ∷ acts) = aims x || aimed acts

  -- one that is executed is such
  aims_not : (x : Act) (d : FrameBench) → aims x ≡ false → addresses memory_cells P x d.core j ≡ false
  aims_not (frame w s n) d e = and_no_right (is_executed (judged P (running d.core) w d.core s n)) _ e
  aims_not (reading t) d e = refl

  pub aimed_not : (acts : List Act) (d : FrameBench) → aimed acts ≡ false → addressed memory_cells P acts d j ≡ false
  aimed_not [] d e = refl
  aimed_not (x ∷ acts) d e =
      let two = or_none_out (aims x) (aimed acts) e in
      or_none_in _ _ (aims_not x d two.0) (aimed_not acts (acted P x d) two.1)

  -- lists one after the other
  aimed_append : (xs ys : List Act) → aimed xs ≡ false → aimed ys ≡ false → aimed (xs ++ ys) ≡ false
  aimed_append [] ys p q = q
  aimed_append (x ∷ xs) ys p q =
      let two = or_none_out (aims x) (aimed xs) p in
      or_none_in _ _ two.0 (aimed_append xs ys two.1 q)

  pub aimed_before : (xs ys : List Act) → aimed (xs ++ ys) ≡ false → aimed xs ≡ false
  aimed_before [] ys e = refl
  aimed_before (x ∷ xs) ys e =
      let two = or_none_out (aims x) (aimed (xs ++ ys)) e in
      or_none_in _ _ two.0 (aimed_before xs ys two.1)

  -- ---- the driver's lists

  -- WREN and RDSR write no cell
  enabled : aimed (wren ∷ []) ≡ false
  unfolding decode pick
  enabled = refl

  polled : aimed (rdsr ∷ []) ≡ false
  unfolding decode pick
  polled = refl

  module _ (i : ℕ) where
    polls : (k : ℕ) (d : FrameBench) → aimed (polls_on P i k d) ≡ false
    unfolding polls_on
    polls zero d = refl
    polls (suc k) d =
        pick_case (λ (acts : List Act). aimed acts ≡ false) (running d.core)
        (λ r. aimed_append (late_poll i d) (polls_on P i k (acted_all P (late_poll i d) d)) polled (polls k (acted_all P (late_poll i d) d)))
        (λ r. refl)

    first : (limit : ℕ) (d : FrameBench) → aimed (first_wait P i limit d) ≡ false
    unfolding first_wait
    first limit d = aimed_append (rdsr ∷ []) (polls_on P i (limit - 1) (acted P rdsr d)) polled (polls (limit - 1) (acted P rdsr d))

    page : (limit : ℕ) (d : FrameBench) → aimed (page_wait P i limit d) ≡ false
    unfolding page_wait
    page limit d =
        let x = acted_all P (late_poll i d) d in
        aimed_append (late_poll i d) (polls_on P i (limit - 1) x) polled (polls (limit - 1) x)

    module _ (sound : Sound P) (limit a : ℕ) (bytes : List ℕ) (out : Outside a (length bytes) j) where
      abbrev parts_all : ℕ
      parts_all = count P.size P.page a (length bytes)

      module _ (k : ℕ) (h : k < parts_all) where
        abbrev at : ℕ
        at = split_address P.size P.page a (length bytes) k

        abbrev long : ℕ
        long = split_length P.size P.page a (length bytes) k

        abbrev its : List ℕ
        its = piece P.size P.page a bytes k

        there : Lies P a (length bytes) at long
        there = lies P sound a bytes k at long h refl refl

        its_length : length its ≡ long
        its_length = piece_length P sound a bytes k h

        -- the part's WRITE
        written_part : aimed (write P at its ∷ []) ≡ false
        written_part =
            let l = there in
            let from = l.from in
            let to : at + length its ≤ a + length bytes = omega (arith, l.to, its_length) in
            let one : at % P.page + length its ≤ P.page = omega (arith, l.page, its_length) in
            let outside = outside_part a (length bytes) at (length its) j from to out in
            let s = write_bytes P at its in
            or_none_in _ false
            (and_no_right (writes_to memory_cells (instruction P s) (address P s)) _ (write_latches P sound at its l.memory one j outside)) refl

        part : (d : FrameBench) → aimed (part_acts P i limit a bytes k d) ≡ false
        unfolding page_acts
        part d =
            let begun = acted_all P (wren_and_write P at its) d in
            aimed_append (wren_and_write P at its) (page_wait P i limit begun)
            (aimed_append (wren ∷ []) (write P at its ∷ []) enabled written_part) (page limit begun)

      parts : (n k : ℕ) (d : FrameBench) → k + n ≤ parts_all → aimed (pages_from P i limit a bytes n k d).acts ≡ false
      unfolding pages_from
      parts zero k d h = refl
      parts (suc n) k d h =
          let acts = part_acts P i limit a bytes k d in
          let next = acted_all P acts d in
          let this = part k (omega arith) d in
          pick_case (λ (r : Run). aimed r.acts ≡ false) (running next.core) (λ e. this)
          (λ e. aimed_append acts (pages_from P i limit a bytes n (suc k) next).acts this (parts n (suc k) next (omega arith)))

      pub run_aimed : (d : FrameBench) → aimed (run P i limit a bytes d).acts ≡ false
      unfolding run
      run_aimed d =
          let wait = first_wait P i limit d in
          let next = acted_all P wait d in
          pick_case (λ (r : Run). aimed r.acts ≡ false) (eqb (length bytes) 0) (λ e. refl)
          (λ e. pick_case (λ (r : Run). aimed r.acts ≡ false) (running next.core) (λ f. first limit d)
          (λ f. pick_case (λ (r : Run). aimed r.acts ≡ false) (touches P next.core a (length bytes)) (λ g. first limit d)
          (λ g. aimed_append wait (all_parts P i limit a bytes next).acts (first limit d) (parts parts_all 0 next (omega arith)))))

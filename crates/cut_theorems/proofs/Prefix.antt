-- Whatever prefix of a driver's run has been acted, the memory's cells outside the run are as they were and none of them waits: by the cell rule, since
-- no frame of the run is aimed at them.
use mathlib.Core.Path.{◌≡◌, ap, sym, ◌∙◌}
use mathlib.Core.Bool.{true, false, ◌&&◌}
use mathlib.Core.List.{List, [], ◌∷◌, ◌++◌}
use Prim.Native.Nat.{ℕ, ◌<◌}
use native.Mathlib.Omega.{arith}
use lib.ListN.{length, get_or}
use borrow.Author.Tests.{eqb-true, ne_eqb}
use Rattle.laws.specs.Pick.{at_no, and_no_left}
use Rattle.laws.specs.And.{or_none_out}
use Rattle.codes.specs.Part.{Part}
use Rattle.codes.proofs.Sound.{Sound}
use Rattle.latch.specs.Latches.{in_page}
use Rattle.chip.specs.Records.{running, waits_page}
use Rattle.chip.specs.Ranges.{in_ranges}
use Rattle.chip.specs.Cells.{Cells, memory_cells, awaited_in, awaited}
use Rattle.chip.specs.declared.Core.{Core}
use Rattle.chip.proofs.Within.{within}
use Rattle.chip.proofs.Awaiting.{timed_awaits}
use Rattle.frames.specs.Play.{Act, frame, reading, FrameBench, acted, acted_all, addresses, addressed}
use Rattle.frames.proofs.CellRule.{after_awaits, acted_all_cell}
use Rattle.sequence.specs.Sequence.{run}
use Rattle.sequence.specs.Ready.{Ready}
use Rattle.sequence.proofs.Ready.{ready_acted_all}
use Rattle.cut_theorems.specs.Outside.{Outside}
use Rattle.cut_theorems.proofs.Aimed.{aimed, aimed_not, aimed_before, run_aimed}

-- ---- which cells wait

-- of a record inside its ranges with no cycle none does
pub idle_awaits : (P : Part) (c : Core) → in_ranges P c ≡ true → running c ≡ false → (j : ℕ) → awaited P c j ≡ false
idle_awaits P c ranges idle j =
    let nothing : c.waits.kind ≡ 0 = eqb-true _ _ (sym (at_no _ _ idle) ∙ (within P c ranges).tie) in
    let page : waits_page c.waits ≡ false = ne_eqb c.waits.kind 2 (λ e. omega arith) in
    and_no_left (waits_page c.waits && in_page P c.waits.page j) _ (and_no_left (waits_page c.waits) _ page)

-- after a list, one that did not at its start does only where an executed frame of the list addresses it
module _ (k : Cells) (P : Part) (j : ℕ) where
  pub acted_all_awaits : (acts : List Act) (d : FrameBench) → awaited_in k P d.core j ≡ false → addressed k P acts d j ≡ false
      → awaited_in k P (acted_all P acts d).core j ≡ false
  acted_all_awaits [] d e f = e
  acted_all_awaits (frame w s n ∷ acts) d e f =
      let next = acted P (frame w s n) d in
      let two = or_none_out (addresses k P (frame w s n) d.core j) (addressed k P acts next j) f in
      acted_all_awaits acts next (after_awaits k P j (running d.core) w s n d.core e two.0) two.1
  acted_all_awaits (reading t ∷ acts) d e f = acted_all_awaits acts (acted P (reading t) d) (timed_awaits k P t d.core j e) f

-- ---- the run, and any prefix of it

module _ (P : Part) (sound : Sound P) (i limit a : ℕ) (bytes : List ℕ) (d : FrameBench) where
  -- no frame of it addresses a cell outside it
  pub run_addresses : (j : ℕ) → Outside a (length bytes) j → addressed memory_cells P (run P i limit a bytes d).acts d j ≡ false
  run_addresses j out = aimed_not P j (run P i limit a bytes d).acts d (run_aimed P j i sound limit a bytes out d)

  module _ (ready : Ready P d) (pre post : List Act) (cut : (run P i limit a bytes d).acts ≡ pre ++ post) (j : ℕ) (below : j < P.size)
      (out : Outside a (length bytes) j) where
    unaddressed : addressed memory_cells P pre d j ≡ false
    unaddressed = aimed_not P j pre d (aimed_before P j pre post (sym (ap (aimed P j) cut) ∙ run_aimed P j i sound limit a bytes out d))

    -- a cell outside the run that does not wait at its start is as it was, and does not wait
    pub prefix_outside : awaited P d.core j ≡ false
        → (get_or (acted_all P pre d).memory j 0 ≡ get_or d.memory j 0) × (awaited P (acted_all P pre d).core j ≡ false)
    prefix_outside e = (
      acted_all_cell memory_cells P sound j below pre d ready.whole (within P d.core ready.ranges) e unaddressed,
      acted_all_awaits memory_cells P j pre d e unaddressed,
    )

    -- where no cycle runs at its start, no cell waits
    pub prefix_outside_idle : running d.core ≡ false
        → (get_or (acted_all P pre d).memory j 0 ≡ get_or d.memory j 0) × (awaited P (acted_all P pre d).core j ≡ false)
    prefix_outside_idle idle = prefix_outside (idle_awaits P d.core ready.ranges idle j)

-- and what any list of acts leaves is a device that no call refuses
pub prefix_ready : (P : Part) (sound : Sound P) (pre : List Act) (d : FrameBench) → Ready P d → Ready P (acted_all P pre d)
prefix_ready P sound pre d ready = ready_acted_all P sound pre d ready

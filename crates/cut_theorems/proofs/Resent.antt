-- A driver's write that begins with no cycle running and would be done, cut between its frames: the same write, sent again and done, leaves the memory of
-- the uncut one. The cut and the part of the run before it leave every cell outside the run as it was, and the second run writes every cell inside.
use Rattle.std.specs.Prelude.{Ok}
use mathlib.Core.Path.{◌≡◌, ap, sym, ◌∙◌}
use mathlib.Core.Bool.{false, ◌&&◌}
use mathlib.Core.List.{List, ◌++◌}
use mathlib.Core.Logic.{inl, inr}
use Prim.Native.Nat.{ℕ, ◌+◌, ◌^◌, ◌<◌}
use native.Mathlib.Decide.{dec_lt, ℕ_discrete}
use native.Mathlib.Omega.{arith}
use lib.ListN.{length, get_or}
use lib.Seq.{ext_get_or}
use borrow.Author.Tests.{le-ltb}
use Rattle.laws.specs.Pick.{at_no, and_no_left, and_no_right}
use Rattle.codes.specs.Part.{Part}
use Rattle.codes.proofs.Sound.{Sound}
use Rattle.chip.specs.Records.{running, waits_page}
use Rattle.chip.specs.Cells.{memory_cells, offset, awaited}
use Rattle.chip.specs.declared.Core.{Core}
use Rattle.chip.proofs.Within.{within}
use Rattle.cuts.specs.Cuts.{chosen}
use Rattle.cuts.specs.declared.Choice.{Choice}
use Rattle.cuts.proofs.Leaves.{cut_left, cut_length, cut_rule}
use Rattle.frames.specs.Play.{Act, FrameBench, frame_bench, acted_all}
use Rattle.frames.proofs.CellRule.{acted_all_length}
use Rattle.timed_theorems.specs.Acts.{cut_bench}
use Rattle.sequence.specs.Ready.{Ready}
use Rattle.sequence.specs.Sequence.{run}
use Rattle.sequence.specs.Counts.{overwritten}
use Rattle.sequence.proofs.Stored.{overwritten_length, overwritten_in, overwritten_below, overwritten_past}
use Rattle.driver.specs.Answers.{driven, driven_memory}
use Rattle.driver.specs.declared.Sent.{Sent}
use Rattle.driver_theorems.proofs.Twice.{begun, none_left, memory_left}
use Rattle.cut_theorems.specs.Outside.{Outside}
use Rattle.cut_theorems.proofs.Prefix.{prefix_outside_idle, prefix_ready}

-- ---- memories that are the same outside a run

module _ (a : ℕ) (bytes m n : List ℕ) (long : length n ≡ length m)
    (same : (j : ℕ) → j < length m → Outside a (length bytes) j → get_or n j 0 ≡ get_or m j 0) where
  -- are the same once it is written over them
  overwritten_same : overwritten a bytes n ≡ overwritten a bytes m
  overwritten_same =
      ext_get_or 0 _ _ (overwritten_length a bytes n ∙ long ∙ sym (overwritten_length a bytes m))
      (λ j h.
      let below : j < length n = omega (arith, h, overwritten_length a bytes n) in
      let under : j < length m = omega (arith, below, long) in
      elim (dec_lt j a) [
        | yes p ↦ overwritten_below a bytes n j below p ∙ same j under (inl p) ∙ sym (overwritten_below a bytes m j under p)
        | no p ↦ elim (dec_lt j (a + length bytes)) [
          | yes q ↦ overwritten_in a bytes n j below (omega arith) q ∙ sym (overwritten_in a bytes m j under (omega arith) q)
          | no q ↦
              overwritten_past a bytes n j below (omega arith) ∙ same j under (inr (omega arith)) ∙ sym (overwritten_past a bytes m j under (omega arith))
        ]
      ])

-- every cell is outside a run of no data
nowhere : (a n j : ℕ) → n ≡ 0 → Outside a n j
nowhere a n j e = elim (dec_lt j a) [
  | yes p ↦ inl p
  | no p ↦ inr (omega arith)
]

-- ---- the write, its cut, and the write again

module _ (P : Part) (sound : Sound P) (a : ℕ) (bytes : List ℕ) (c : Core) (m page : List ℕ) (i limit : ℕ) (s t : Sent) (low : c.last < 2 ^ 32)
    (idle : running c ≡ false) (uncut : (driven P c m page a bytes i limit).answer ≡ Ok s) (pre post : List Act)
    (parts : (run P i limit a bytes (frame_bench c m page)).acts ≡ pre ++ post) (h : Choice) where
  abbrev before : FrameBench
  before = acted_all P pre (frame_bench c m page)

  -- the device that the cut leaves
  abbrev pub after : FrameBench
  after = cut_bench P h before

  ready : Ready P before
  ready = prefix_ready P sound pre (frame_bench c m page) (begun P sound a bytes c m page i limit s uncut)

  long : length after.memory ≡ length m
  long = cut_length P h before.core waits_page before.memory ∙ acted_all_length P pre (frame_bench c m page)

  outside_kept : (j : ℕ) → j < length m → Outside a (length bytes) j → get_or after.memory j 0 ≡ get_or m j 0
  outside_kept j under out =
      let x = before.core in
      let start = begun P sound a bytes c m page i limit s uncut in
      let below : j < P.size = omega (arith, under, start.whole) in
      let two = prefix_outside_idle P sound i limit a bytes (frame_bench c m page) start pre post parts j below out idle in
      cut_rule P h x sound (within P x ready.ranges) memory_cells before.memory ready.whole j below
      ∙ at_no _ _ (and_no_right (running x) (awaited P x j && chosen h (offset P x j)) (and_no_left (awaited P x j) (chosen h (offset P x j)) two.1))
      ∙ two.0

  -- interval and limit may differ
  pub resent : (k most : ℕ) → after.core.last < 2 ^ 32 → (driven P after.core after.memory after.identification a bytes k most).answer ≡ Ok t
      → driven_memory P after.core after.memory after.identification a bytes k most ≡ driven_memory P c m page a bytes i limit
  resent k most later again = elim (ℕ_discrete (length bytes) 0) [
    | yes none ↦
        none_left P sound a bytes after.core after.memory after.identification k most t again none
        ∙ ext_get_or 0 _ _ long
        (λ j below. outside_kept j (omega (arith, below, long)) (nowhere a (length bytes) j none))
        ∙ sym (none_left P sound a bytes c m page i limit s uncut none)
    | no none ↦
        let some : 0 < length bytes = omega arith in
        let rests : running after.core ≡ false = le-ltb 0 after.core.left (omega (arith, cut_left P h before.core)) in
        memory_left P sound a bytes after.core after.memory after.identification k most t again later some
        ∙ ap (overwritten a bytes) (at_no _ _ rests)
        ∙ overwritten_same a bytes m after.memory long outside_kept
        ∙ sym (ap (overwritten a bytes) (at_no _ _ idle))
        ∙ sym (memory_left P sound a bytes c m page i limit s uncut low some)
  ]

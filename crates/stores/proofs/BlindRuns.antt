-- The driver from benches that are equal but for the number of blank cells: it sends the same frames, answers the same, and leaves the same but for the
-- number.
use Rattle.std.specs.Prelude.{Err, Ok}
use mathlib.Core.Path.{◌≡◌, refl, ap, ap₂, ◌∙◌}
use mathlib.Core.Bool.{Bool}
use mathlib.Core.List.{List, [], ◌∷◌, ◌++◌}
use Prim.Native.Nat.{ℕ, zero, suc, ◌+◌, ◌-◌}
use lib.Dec.{eqb, leb}
use lib.ListN.{length}
use Rattle.laws.specs.Pick.{pick}
use Rattle.codes.specs.Part.{Part}
use Rattle.codes.specs.Refusals.{is_done, no_refusal}
use Rattle.codes.specs.Refusals.{Outcome}
use Rattle.codes.specs.declared.Refusal.TheVariants.{MemoryLength, RecordRange, AddressRange, PollRange}
use Rattle.chip.specs.declared.Core.{Core}
use Rattle.chip.specs.Records.{running, with_blank}
use Rattle.chip.specs.Blanks.{EqualBut}
use Rattle.chip.specs.Time.{lent_fits}
use Rattle.split.specs.Split.{count, split_address}
use Rattle.split.specs.Pieces.{piece}
use Rattle.frames.specs.Play.{Act, FrameBench, frame_bench, acted, acted_all}
use Rattle.sequence.specs.Sequence.{rdsr, late_poll, polls_on, first_wait, page_wait, wren_and_write, page_acts, part_acts, Run, stopped, begun, page_done, pages_from}
use Rattle.sequence.specs.Sequence.{all_done, timed_out, protected, touches, run}
use Rattle.driver.specs.Answers.{polls_fit, drive_outcome, run_reply, driven, driven_memory, driven_identification}
use Rattle.stores.specs.Blind.{Alike, FrameBenchEqualBut}
use Rattle.stores.proofs.BlindFrames.{pick_equal_but, ranges_blind, acts_blind}

-- ---- the acts

polls_blind : (P : Part) (i left : ℕ) (b d : FrameBench) → FrameBenchEqualBut b d → polls_on P i left b ≡ polls_on P i left d
unfolding polls_on
polls_blind P i zero b d e = refl
polls_blind P i (suc left) b d e =
    let late : late_poll i b ≡ late_poll i d = ap (λ (c : Core). late_poll i (frame_bench c [] [])) e.core in
    let x = acted_all P (late_poll i b) b in
    let y = acted_all P (late_poll i b) d in
    let rest = polls_blind P i left x y (acts_blind P (late_poll i b) b d e)
    ∙ ap (λ (l : List Act). polls_on P i left (acted_all P l d)) late in
    ap₂ (λ (c : Core) (l : List Act). pick (running c) l []) e.core (ap₂ ◌++◌ late rest)

first_blind : (P : Part) (i limit : ℕ) (b d : FrameBench) → FrameBenchEqualBut b d → first_wait P i limit b ≡ first_wait P i limit d
unfolding first_wait
first_blind P i limit b d e = ap (λ (l : List Act). rdsr ∷ l) (polls_blind P i (limit - 1) (acted P rdsr b) (acted P rdsr d) (acts_blind P (rdsr ∷ []) b d e))

wait_blind : (P : Part) (i limit : ℕ) (b d : FrameBench) → FrameBenchEqualBut b d → page_wait P i limit b ≡ page_wait P i limit d
unfolding page_wait
wait_blind P i limit b d e =
    let late : late_poll i b ≡ late_poll i d = ap (λ (c : Core). late_poll i (frame_bench c [] [])) e.core in
    ap₂ ◌++◌ late
    (polls_blind P i (limit - 1) (acted_all P (late_poll i b) b) (acted_all P (late_poll i b) d) (acts_blind P (late_poll i b) b d e)
    ∙ ap (λ (l : List Act). polls_on P i (limit - 1) (acted_all P l d)) late)

page_blind : (P : Part) (i limit a : ℕ) (bytes : List ℕ) (b d : FrameBench) → FrameBenchEqualBut b d → page_acts P i limit a bytes b
    ≡ page_acts P i limit a bytes d
unfolding page_acts
page_blind P i limit a bytes b d e =
    let sent = wren_and_write P a bytes in
    ap (λ (l : List Act). sent ++ l) (wait_blind P i limit (acted_all P sent b) (acted_all P sent d) (acts_blind P sent b d e))

pages_blind : (P : Part) (i limit a : ℕ) (bytes : List ℕ) (n k : ℕ) (b d : FrameBench) → FrameBenchEqualBut b d
    → pages_from P i limit a bytes n k b ≡ pages_from P i limit a bytes n k d
unfolding pages_from
pages_blind P i limit a bytes zero k b d e = refl
pages_blind P i limit a bytes (suc n) k b d e =
    let acts : part_acts P i limit a bytes k b ≡ part_acts P i limit a bytes k d =
    page_blind P i limit (split_address P.size P.page a (length bytes) k) (piece P.size P.page a bytes k) b d e in
    let l = part_acts P i limit a bytes k b in
    let next = acts_blind P l b d e in
    let others = pages_blind P i limit a bytes n (suc k) (acted_all P l b) (acted_all P l d) next in
    ap₂ (λ (c : Core) (r : Run). pick (running c) (stopped l timed_out) (page_done l r)) next.core others
    ∙ ap (λ (j : List Act). pick (running (acted_all P j d).core) (stopped j timed_out)
    (page_done j (pages_from P i limit a bytes n (suc k) (acted_all P j d)))) acts

pub run_blind : (P : Part) (i limit a : ℕ) (bytes : List ℕ) (b d : FrameBench) → FrameBenchEqualBut b d
    → run P i limit a bytes b ≡ run P i limit a bytes d
unfolding run
run_blind P i limit a bytes b d e =
    let l = first_wait P i limit b in
    let next = acts_blind P l b d e in
    let n = count P.size P.page a (length bytes) in
    let others = pages_blind P i limit a bytes n 0 (acted_all P l b) (acted_all P l d) next in
    ap₂ (λ (c : Core) (r : Run). pick (eqb (length bytes) 0) (stopped [] all_done)
    (pick (running c) (stopped l timed_out) (pick (touches P c a (length bytes)) (stopped l protected) (begun l r)))) next.core others
    ∙ ap (λ (j : List Act). let c = (acted_all P j d).core in pick (eqb (length bytes) 0) (stopped [] all_done)
    (pick (running c) (stopped j timed_out)
    (pick (touches P c a (length bytes)) (stopped j protected) (begun j (pages_from P i limit a bytes n 0 (acted_all P j d))))))
    (first_blind P i limit b d e)

-- ---- the public call

module _ (P : Part) (c d : Core) (e : Alike P c d) (m x : List ℕ) (a : ℕ) (bytes : List ℕ) (i limit : ℕ) where
  abbrev from_c : FrameBench
  from_c = frame_bench c m x

  abbrev from_d : FrameBench
  from_d = frame_bench d m x

  given : FrameBenchEqualBut from_c from_d
  given = record { core = e.same; memory = refl; identification = refl }

  outcome_blind : drive_outcome P c (length m) (length x) a (length bytes) i limit ≡ drive_outcome P d (length m) (length x) a (length bytes) i limit
  outcome_blind =
      ap (λ (r : Bool). pick (lent_fits P (length m) (length x)) (pick r
      (pick (leb (a + length bytes) P.size) (pick (polls_fit P i limit) no_refusal (Err PollRange)) (Err AddressRange))
      (Err RecordRange)) (Err MemoryLength))
      (ranges_blind P c d e)

  same_run : run P i limit a bytes from_c ≡ run P i limit a bytes from_d
  same_run = run_blind P i limit a bytes from_c from_d given

  leaves : FrameBenchEqualBut (acted_all P (run P i limit a bytes from_c).acts from_c) (acted_all P (run P i limit a bytes from_c).acts from_d)
  leaves = acts_blind P (run P i limit a bytes from_c).acts from_c from_d given

  pub driven_blind : (driven P c m x a bytes i limit).answer ≡ (driven P d m x a bytes i limit).answer
  unfolding driven
  driven_blind = ap₂ run_reply outcome_blind same_run

  pub driven_core_blind : EqualBut (driven P c m x a bytes i limit).core (driven P d m x a bytes i limit).core
  unfolding driven
  driven_core_blind =
      let o = drive_outcome P c (length m) (length x) a (length bytes) i limit in
      let y = (acted_all P (run P i limit a bytes from_c).acts from_d).core in
      pick_equal_but (is_done o) (acted_all P (run P i limit a bytes from_c).acts from_c).core y c d leaves.core e.same
      ∙ ap₂ (λ (p : Outcome) (r : Run). with_blank 0 (pick (is_done p) (acted_all P r.acts from_d).core d)) outcome_blind same_run

  pub driven_memory_blind : driven_memory P c m x a bytes i limit ≡ driven_memory P d m x a bytes i limit
  unfolding driven_memory
  driven_memory_blind =
      let o = drive_outcome P c (length m) (length x) a (length bytes) i limit in
      ap (λ (n : List ℕ). pick (is_done o) n m) leaves.memory
      ∙ ap₂ (λ (p : Outcome) (r : Run). pick (is_done p) (acted_all P r.acts from_d).memory m) outcome_blind same_run

  pub driven_identification_blind : driven_identification P c m x a bytes i limit ≡ driven_identification P d m x a bytes i limit
  unfolding driven_identification
  driven_identification_blind =
      let o = drive_outcome P c (length m) (length x) a (length bytes) i limit in
      ap (λ (n : List ℕ). pick (is_done o) n x) leaves.identification
      ∙ ap₂ (λ (p : Outcome) (r : Run). pick (is_done p) (acted_all P r.acts from_d).identification x) outcome_blind same_run

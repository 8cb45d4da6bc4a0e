-- How many polls a wait makes, and what it leaves, for any sound part: the cycle's end after the time left over the interval, rounded up; or,
-- when the polls run out before that, a cycle that still runs.
use mathlib.Core.Path.{◌≡◌, refl, ap, ap₂, sym, subst, ◌∙◌}
use mathlib.Core.Bool.{true, false}
use mathlib.Core.List.{List}
use Prim.Native.Nat.{ℕ, zero, suc, ◌+◌, ◌-◌, ◌*◌, ◌/◌, ◌%◌, ◌^◌, ◌<◌, ◌≤◌}
use native.Mathlib.Nat.{zero-mul, suc-mul, add-div_right, div-eq_of_lt}
use native.Mathlib.Decide.{dec_lt}
use native.Mathlib.Omega.{arith}
use lib.Dec.{leb}
use borrow.Author.Tests.{lt-ltb, le-ltb, le-leb, lt-leb}
use Rattle.laws.specs.Pick.{pick, at_yes, and_both, and_no_left, and_no_right}
use Rattle.codes.specs.Part.{Part}
use Rattle.chip.specs.Records.{running, waits_status, waits_page, waits_identification, waits_lock, with_time, with_blank}
use Rattle.chip.specs.Time.{elapsed, ends, ended, ended_cells, ended_blank, timed, timed_cells, timed_blank, timed_in}
use Rattle.chip.specs.declared.Core.{Core}
use Rattle.codes.proofs.Sound.{Sound}
use Rattle.chip.proofs.Passing.{no_end}
use Rattle.chip.proofs.Recounts.{timed_on}
use Rattle.frames.specs.Play.{FrameBench, acted_all, frame_bench}
use Rattle.sequence.specs.Sequence.{sent, late_poll, polls_on}
use Rattle.sequence.specs.Counts.{rounded_up}
use Rattle.frames.proofs.Polls.{poll_leaves}
use Rattle.sequence.proofs.Ready.{bench_of_law}
use Rattle.sequence.proofs.Waits.{polls_on_free, polls_on_none, acted_all_busy, sent_busy}

-- ---- a quotient, rounded up

pub rounded_one : (l i : ℕ) → 0 < l → l ≤ i → rounded_up l i ≡ 1
rounded_one l i h h' =
    let e : l + (i - 1) ≡ (l - 1) + i = omega arith in
    ap (λ (x : ℕ). x / i) e ∙ add-div_right (l - 1) {k = i} (omega arith) ∙ ap (λ (x : ℕ). x + 1) (div-eq_of_lt {n = l - 1} {m = i} (omega arith))

rounded_more : (l i : ℕ) → 0 < i → i < l → rounded_up l i ≡ rounded_up (l - i) i + 1
rounded_more l i h h' =
    let e : l + (i - 1) ≡ (l - i + (i - 1)) + i = omega arith in
    ap (λ (x : ℕ). x / i) e ∙ add-div_right (l - i + (i - 1)) {k = i} h

-- ---- what a wait leaves of a cycle

module _ (P : Part) where
  -- it is over: what waited is stored
  pub record Over (d y : FrameBench) : Type 0 where
    pub read : ℕ
    pub low : read < 2 ^ 32
    pub core : y.core ≡ with_blank (ended_blank P d.core d.memory) (with_time read 0 (ended d.core))
    pub memory : y.memory ≡ ended_cells waits_page P d.core d.memory
    pub identification : y.identification ≡ ended_cells waits_identification P d.core d.identification

  -- it still runs: only the time left and the last reading moved
  pub record Runs (d y : FrameBench) (left : ℕ) : Type 0 where
    pub read : ℕ
    pub low : read < 2 ^ 32
    pub core : y.core ≡ with_time read left d.core
    pub memory : y.memory ≡ d.memory
    pub identification : y.identification ≡ d.identification

  -- the moves of time before the end do not matter to it
  ended_timed : (t n r : ℕ) (c : Core) → with_time r 0 (ended (with_time t n c)) ≡ with_time r 0 (ended c)
  unfolding pick
  ended_timed t n r c = elim (waits_status c.waits)
      as (λ b. waits_status c.waits ≡ b → with_time r 0 (ended (with_time t n c)) ≡ with_time r 0 (ended c)) [
        | true ↦ λ e. rw e refl
        | false ↦ λ e. elim (waits_lock c.waits)
            as (λ b. waits_lock c.waits ≡ b → with_time r 0 (ended (with_time t n c)) ≡ with_time r 0 (ended c)) [
              | true ↦ λ k. rw (e, k) refl
              | false ↦ λ k. rw (e, k) refl
            ] refl
      ] refl

  over_after : (d x y : FrameBench) (left : ℕ) → Runs d x left → Over x y → Over d y
  over_after d x y left r o =
      record {
        read = o.read;
        low = o.low;
        core =
            o.core
            ∙ ap₂ (λ (c : Core) (m : List ℕ). with_blank (ended_blank P c m) (with_time o.read 0 (ended c))) r.core r.memory
            ∙ ap (with_blank (ended_blank P d.core d.memory)) (ended_timed r.read left o.read d.core);
        memory = o.memory ∙ ap (λ (c : Core). ended_cells waits_page P c x.memory) r.core ∙ ap (ended_cells waits_page P d.core) r.memory;
        identification =
            o.identification
            ∙ ap (λ (c : Core). ended_cells waits_identification P c x.identification) r.core
            ∙ ap (ended_cells waits_identification P d.core) r.identification;
      }

  runs_after : (d x y : FrameBench) (k n : ℕ) → Runs d x k → Runs x y n → Runs d y n
  runs_after d x y k n r s =
      record {
        read = s.read;
        low = s.low;
        core = s.core ∙ ap (λ (c : Core). with_time s.read n c) r.core;
        memory = s.memory ∙ r.memory;
        identification = s.identification ∙ r.identification;
      }

  -- ---- one poll

  module _ (i : ℕ) (short : i < 2 ^ 32) (d : FrameBench) (low : d.core.last < 2 ^ 32) where
    abbrev read : ℕ
    read = (d.core.last + i) % 2 ^ 32

    gone : elapsed d.core.last read ≡ i
    gone = omega arith

    abbrev polled : FrameBench
    polled = acted_all P (late_poll i d) d

    read_low : read < 2 ^ 32
    read_low = omega arith

    poll_over : 0 < d.core.left → d.core.left ≤ i → Over d polled
    unfolding timed timed_cells timed_blank
    poll_over h l =
        let over : ends read d.core ≡ true = and_both _ _ (lt-ltb _ _ h) (ap (leb d.core.left) gone ∙ le-leb _ _ l) in
        record {
          read = read;
          low = read_low;
          core = poll_leaves P (timed_in P read d.core d.memory) ∙ ap₂ with_blank (at_yes _ _ over) (at_yes _ _ over);
          memory = at_yes _ _ over;
          identification = at_yes _ _ over;
        }

    -- a reading that ends no cycle moves two numbers of the record
    abbrev ticked : FrameBench
    ticked = frame_bench (with_time read (d.core.left - i) d.core) d.memory d.identification

    goes_on : ends read d.core ≡ false → ticked ≡ polled
    goes_on on =
        let left = ap (λ (n : ℕ). with_time read (d.core.left - n) d.core) (sym gone) in
        bench_of_law polled
        (left ∙ sym (poll_leaves P (timed_in P read d.core d.memory) ∙ timed_on P read d.core d.memory on))
        (sym (no_end waits_page P read d.core d.memory on))
        (sym (no_end waits_identification P read d.core d.identification on))

    pub poll_still : i < d.core.left → ticked ≡ polled
    poll_still l = goes_on (and_no_right (running d.core) _ (ap (leb d.core.left) gone ∙ lt-leb _ _ l))

    pub poll_idle : running d.core ≡ false → ticked ≡ polled
    poll_idle e = goes_on (and_no_left (running d.core) _ e)

    poll_runs : i < d.core.left → Runs d polled (d.core.left - i)
    poll_runs l =
        let same = sym (poll_still l) in
        record {
          read = read;
          low = read_low;
          core = ap (λ (x : FrameBench). x.core) same;
          memory = ap (λ (x : FrameBench). x.memory) same;
          identification = ap (λ (x : FrameBench). x.identification) same;
        }

    -- after the poll that ends it no cycle runs
    pub poll_free : 0 < d.core.left → d.core.left ≤ i → running polled.core ≡ false
    poll_free h l = ap (λ (c : Core). running c) (poll_over h l).core ∙ le-ltb 0 0 (omega arith)

  -- ---- a whole wait

  module _ (sound : Sound P) (i : ℕ) (some : 0 < i) (small : i ≤ P.longest) where
    short : i < 2 ^ 32
    short = omega (arith, sound.longest_read)

    -- enough polls: the cycle ends
    pub record Waited (k : ℕ) (d : FrameBench) : Type 0 where
      pub polls : sent (polls_on P i k d) ≡ rounded_up d.core.left i
      pub over : Over d (acted_all P (polls_on P i k d) d)

    pub waited : (k : ℕ) (d : FrameBench) → d.core.last < 2 ^ 32 → 0 < d.core.left → d.core.left ≤ k * i → Waited k d
    waited zero d low h l = absurd (omega (arith, zero-mul i))
    waited (suc k) d low h l =
        let x = polled i short d low in
        let busy : running d.core ≡ true = lt-ltb _ _ h in
        elim (dec_lt i d.core.left) [
          | yes m ↦
              let r = poll_runs i short d low m in
              let left : x.core.left ≡ d.core.left - i = ap (λ (c : Core). c.left) r.core in
              let last : x.core.last ≡ r.read = ap (λ (c : Core). c.last) r.core in
              let w = waited k x (rw last r.low) (omega arith) (omega (arith, suc-mul k i)) in
              record {
                polls =
                    sent_busy P i d (suc k) k refl busy
                    ∙ omega (arith, w.polls, ap (λ (n : ℕ). rounded_up n i) left, rounded_more d.core.left i some m);
                over =
                    subst (Over d) (sym (acted_all_busy P i d (suc k) k refl busy))
                    (over_after d x (acted_all P (polls_on P i k x) x) (d.core.left - i) r w.over);
              }
          | no m ↦
              let o = poll_over i short d low h (omega arith) in
              let free = poll_free i short d low h (omega arith) in
              record {
                polls =
                    sent_busy P i d (suc k) k refl busy
                    ∙ omega (arith, ap sent (polls_on_free P i x k free), rounded_one d.core.left i h (omega arith));
                over =
                    subst (Over d)
                    (sym (acted_all_busy P i d (suc k) k refl busy ∙ ap (λ acts. acted_all P acts x) (polls_on_free P i x k free))) o;
              }
        ]

    -- too few: it still runs
    pub record Late (k : ℕ) (d : FrameBench) : Type 0 where
      pub polls : sent (polls_on P i k d) ≡ k
      pub runs : Runs d (acted_all P (polls_on P i k d) d) (d.core.left - k * i)

    pub late : (k : ℕ) (d : FrameBench) → d.core.last < 2 ^ 32 → k * i < d.core.left → Late k d
    late zero d low l =
        let none = polls_on_none P i d 0 refl in
        let all : d.core.left ≡ d.core.left - 0 * i = omega (arith, zero-mul i) in
        record {
          polls = ap sent none;
          runs =
              subst (λ y. Runs d y (d.core.left - 0 * i)) (sym (ap (λ acts. acted_all P acts d) none))
              (record {
                read = d.core.last;
                low = low;
                core = ap (λ (n : ℕ). with_time d.core.last n d.core) all;
                memory = refl;
                identification = refl;
              });
        }
    late (suc k) d low l =
        let x = polled i short d low in
        let m : i < d.core.left = omega (arith, suc-mul k i) in
        let started : 0 < d.core.left = omega arith in
        let busy : running d.core ≡ true = lt-ltb _ _ started in
        let r = poll_runs i short d low m in
        let left : x.core.left ≡ d.core.left - i = ap (λ (c : Core). c.left) r.core in
        let last : x.core.last ≡ r.read = ap (λ (c : Core). c.last) r.core in
        let w = late k x (rw last r.low) (omega (arith, suc-mul k i)) in
        let to : x.core.left - k * i ≡ d.core.left - suc k * i = omega (arith, suc-mul k i) in
        record {
          polls = sent_busy P i d (suc k) k refl busy ∙ omega (arith, w.polls);
          runs =
              subst (λ y. Runs d y (d.core.left - suc k * i)) (sym (acted_all_busy P i d (suc k) k refl busy))
              (subst (Runs d (acted_all P (polls_on P i k x) x)) to
              (runs_after d x (acted_all P (polls_on P i k x) x) (d.core.left - i) (x.core.left - k * i) r w.runs));
        }

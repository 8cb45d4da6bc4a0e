-- What a run leaves, for any sound part and every input that is not refused and has data: how the first wait ends, what is stored, and how many
-- frames were sent.
use mathlib.Core.Path.{◌≡◌, refl, ap, sym, subst, ◌∙◌}
use mathlib.Core.Bool.{Bool, true, false}
use mathlib.Core.Logic.{◌↔◌, ◌⊎◌, inl, inr}
use mathlib.Core.List.{List}
use Prim.Native.Nat.{ℕ, ◌+◌, ◌-◌, ◌*◌, ◌^◌, ◌<◌, ◌≤◌}
use native.Mathlib.Decide.{dec_le}
use native.Mathlib.Omega.{arith}
use lib.ListN.{length}
use lib.Dec.{leb}
use borrow.Author.Tests.{lt-ltb, le-ltb, leb-true, ltb-false, ltb-true}
use Rattle.laws.specs.Pick.{pick, at_yes, at_no, and_left, pick_case}
use Rattle.codes.specs.Part.{Part}
use Rattle.chip.specs.Questions.{lowest}
use Rattle.chip.specs.Records.{running, status, waits_status, waits_lock, without_cycle}
use Rattle.chip.specs.Time.{ended}
use Rattle.chip.specs.declared.Core.{Core}
use Rattle.chip.proofs.Within.{within}
use Rattle.codes.proofs.Sound.{Sound}
use Rattle.split.specs.Split.{count}
use Rattle.split.specs.Pieces.{pieces}
use Rattle.split.proofs.Whole.{pieces_none, whole}
use Rattle.frames.specs.Play.{Act, FrameBench, acted_all}
use Rattle.sequence.specs.Sequence.{sent, polls_on, first_wait, Ending, all_done, timed_out, protected, ending_number, Run, stopped, begun, all_parts}
use Rattle.sequence.specs.Sequence.{lowest_shown, touches, run}
use Rattle.sequence.specs.Counts.{rounded_up, all_executed, overwritten, once_ended, once_ended_identification}
use Rattle.sequence.proofs.Playing.{acted_all_append, sent_append}
use Rattle.sequence.specs.Ready.{Ready}
use Rattle.sequence.proofs.Ready.{ready_acted_all}
use Rattle.sequence.proofs.Waits.{polls_on_free}
use Rattle.sequence.proofs.Joined.{first_wait_law}
use Rattle.sequence.proofs.Polls.{waited, late}
use Rattle.sequence.proofs.Ways.{run_late, run_touches, run_parts}
use Rattle.sequence.proofs.Seen.{seen_lowest}
use Rattle.sequence.specs.Endings.{page_frames, Meaning}
use Rattle.sequence.proofs.Executed.{executed_append, first_executed}
use Rattle.sequence.proofs.Leaves.{Idle, parts_leave}
use Rattle.sequence.proofs.Stored.{overwritten_none}

-- no two endings are one: they have different numbers
done_late : ◌≡◌ {A = Ending} all_done timed_out → ⊥
done_late e = let n : ◌≡◌ {A = ℕ} 0 9 = ap ending_number e in omega arith

done_protected : ◌≡◌ {A = Ending} all_done protected → ⊥
done_protected e = let n : ◌≡◌ {A = ℕ} 0 13 = ap ending_number e in omega arith

late_protected : ◌≡◌ {A = Ending} timed_out protected → ⊥
late_protected e = let n : ◌≡◌ {A = ℕ} 9 13 = ap ending_number e in omega arith

-- an input that is not refused, with data; the reading is one of 32 bits
pub record Given (P : Part) (i limit a : ℕ) (bytes : List ℕ) (d : FrameBench) : Type 0 where
  pub ready : Ready P d
  pub low : d.core.last < 2 ^ 32
  pub interval_some : 0 < i
  pub interval_most : i ≤ P.longest
  pub limit_some : 1 ≤ limit
  pub inside : a + length bytes ≤ P.size
  pub carries : 0 < length bytes

module _ (P : Part) (sound : Sound P) (i limit a : ℕ) (bytes : List ℕ) (d : FrameBench) (g : Given P i limit a bytes d) where
  abbrev first : ℕ
  first = sent (first_wait P i limit d)

  abbrev rested : FrameBench
  rested = acted_all P (first_wait P i limit d) d

  abbrev pub whole_run : Run
  whole_run = run P i limit a bytes d

  -- the device at exit
  abbrev pub exit : FrameBench
  exit = acted_all P whole_run.acts d

  some_bytes : length bytes ≡ 0 → ⊥
  some_bytes e = let c = g.carries in omega arith

  follows : (acted_all P (polls_on P i (limit - 1) d) d ≡ rested) × (sent (polls_on P i (limit - 1) d) + 1 ≡ first)
  follows = let f = first_wait_law P i limit d d refl in (f.leaves, f.counts)

  cycle_some : 0 < d.core.cycle
  cycle_some =
      leb-true 1 d.core.cycle
      (and_left (leb 1 d.core.cycle) (leb d.core.cycle P.longest) (within P d.core g.ready.ranges).cycle)

  -- ---- the first wait

  -- it leaves an idle device, and the memory and the identification page with a cycle that was running at its end
  pub record Rests (frames : ℕ) : Type 0 where
    pub frames_first : first ≡ frames
    pub left : rested.core.left ≡ 0
    pub low : rested.core.last < 2 ^ 32
    pub cycle : rested.core.cycle ≡ d.core.cycle
    pub wel : rested.core.wel ≡ pick (running d.core) 0 d.core.wel
    pub memory : rested.memory ≡ once_ended P d.core d.memory
    pub identification : rested.identification ≡ once_ended_identification P d.core d.identification

  -- no cycle runs: one poll, which leaves the device as it was
  waits_idle : running d.core ≡ false → (d ≡ rested) × (first ≡ 1)
  waits_idle e =
      let none = polls_on_free P i d (limit - 1) e in
      (sym (ap (λ acts. acted_all P acts d) none) ∙ follows.0, omega (arith, follows.1, ap sent none))

  pub rests_idle : running d.core ≡ false → Rests 1
  rests_idle e =
      let same = (waits_idle e).0 in
      record {
        frames_first = (waits_idle e).1;
        left = sym (ap (λ (x : FrameBench). x.core.left) same) ∙ (let z = ltb-false 0 d.core.left e in omega arith);
        low = subst (λ (x : FrameBench). x.core.last < 2 ^ 32) same g.low;
        cycle = sym (ap (λ (x : FrameBench). x.core.cycle) same);
        wel = sym (ap (λ (x : FrameBench). x.core.wel) same) ∙ sym (at_no _ _ e);
        memory = sym (ap (λ (x : FrameBench). x.memory) same) ∙ sym (at_no _ _ e);
        identification = sym (ap (λ (x : FrameBench). x.identification) same) ∙ sym (at_no _ _ e);
      }

  -- the cycle of a record keeps its length when it ends
  ended_cycle : (c : Core) → (ended c).cycle ≡ c.cycle
  ended_cycle c =
      let same : Core → Type 0 = λ x. (without_cycle x).cycle ≡ c.cycle in
      pick_case same (waits_status c.waits) (λ s. refl) (λ s. pick_case same (waits_lock c.waits) (λ k. refl) (λ k. refl))

  -- one runs, and the polls suffice
  pub rests_running : running d.core ≡ true → d.core.left ≤ (limit - 1) * i → Rests (1 + rounded_up d.core.left i)
  rests_running e enough =
      let started : 0 < d.core.left = ltb-true 0 d.core.left e in
      let w = waited P sound i g.interval_some g.interval_most (limit - 1) d g.low started enough in
      let o = w.over in
      record {
        frames_first = omega (arith, follows.1, w.polls);
        left = sym (ap (λ (x : FrameBench). x.core.left) follows.0) ∙ ap (λ (c : Core). c.left) o.core;
        low = subst (λ (x : FrameBench). x.core.last < 2 ^ 32) follows.0 (rw (ap (λ (c : Core). c.last) o.core) o.low);
        cycle = sym (ap (λ (x : FrameBench). x.core.cycle) follows.0) ∙ ap (λ (c : Core). c.cycle) o.core ∙ ended_cycle d.core;
        wel = sym (ap (λ (x : FrameBench). x.core.wel) follows.0) ∙ ap (λ (c : Core). c.wel) o.core ∙ sym (at_yes _ _ e);
        memory = sym (ap (λ (x : FrameBench). x.memory) follows.0) ∙ o.memory ∙ sym (at_yes _ _ e);
        identification = sym (ap (λ (x : FrameBench). x.identification) follows.0) ∙ o.identification ∙ sym (at_yes _ _ e);
      }

  -- one runs, and they do not: 9 with no page done, the limit's frames sent, and only time moved
  pub record FirstLate : Type 0 where
    pub stops : whole_run ≡ stopped (first_wait P i limit d) timed_out
    pub ending : whole_run.ending ≡ timed_out
    pub pages : whole_run.pages ≡ 0
    pub frames : sent whole_run.acts ≡ limit
    pub left : exit.core.left ≡ d.core.left - (limit - 1) * i
    pub runs : 0 < exit.core.left
    pub memory : exit.memory ≡ d.memory
    pub identification : exit.identification ≡ d.identification

  pub first_late : (limit - 1) * i < d.core.left → FirstLate
  first_late few =
      let w = late P sound i g.interval_some g.interval_most (limit - 1) d g.low few in
      let some = g.limit_some in
      let left : rested.core.left ≡ d.core.left - (limit - 1) * i =
      sym (ap (λ (x : FrameBench). x.core.left) follows.0) ∙ ap (λ (c : Core). c.left) w.runs.core in
      let runs : 0 < rested.core.left = omega arith in
      let r : whole_run ≡ stopped (first_wait P i limit d) timed_out = run_late P i limit a bytes d some_bytes (lt-ltb _ _ runs) in
      let y = ap (λ (x : Run). acted_all P x.acts d) r in
      record {
        stops = r;
        ending = ap (λ (x : Run). x.ending) r;
        pages = ap (λ (x : Run). x.pages) r;
        frames = ap (λ (x : Run). sent x.acts) r ∙ omega (arith, follows.1, w.polls);
        left = ap (λ (x : FrameBench). x.core.left) y ∙ left;
        runs = rw (ap (λ (x : FrameBench). x.core.left) y) runs;
        memory = ap (λ (x : FrameBench). x.memory) y ∙ sym (ap (λ (x : FrameBench). x.memory) follows.0) ∙ w.runs.memory;
        identification =
            ap (λ (x : FrameBench). x.identification) y
            ∙ sym (ap (λ (x : FrameBench). x.identification) follows.0)
            ∙ w.runs.identification;
      }

  -- ---- after a first wait that ends, with no cell of the run protected: the cells of the pages done, every other cell as it is, and what the
  -- ending says

  abbrev pub parts : ℕ
  parts = count P.size P.page a (length bytes)

  -- the bytes of the first k parts
  abbrev carried : ℕ → List ℕ
  carried k = pieces P.size P.page a bytes k

  -- the memory that the first wait leaves
  abbrev ended_first : List ℕ
  ended_first = once_ended P d.core d.memory

  -- what an ending says of the whole run
  abbrev Says : Run → Ending → ℕ → FrameBench → Type 0
  Says r e frames x = Meaning i limit rested.core e parts r.pages frames x.core

  pub record Leaving (n : ℕ) (r : Run) : Type 0 where
    pub frames : ℕ
    pub counts : sent r.acts ≡ n + frames
    pub memory : (acted_all P r.acts d).memory ≡ overwritten a (pieces P.size P.page a bytes r.pages) (once_ended P d.core d.memory)
    pub identification : (acted_all P r.acts d).identification ≡ once_ended_identification P d.core d.identification
    pub meaning : Meaning i limit rested.core r.ending parts r.pages frames (acted_all P r.acts d).core
    pub executed : all_executed P r.acts d ≡ true

  -- the run's cells touch the protected block of the device that the first wait leaves
  abbrev touched : Bool
  touched = touches P rested.core a (length bytes)

  still : (n : ℕ) → Rests n → running rested.core ≡ false
  still n r = le-ltb 0 rested.core.left (let z = r.left in omega arith)

  run_leaves : (n : ℕ) → Rests n → touched ≡ false → Leaving n whole_run
  run_leaves n r t =
      let idle : Idle P rested.core rested = record {
        left = r.left;
        low = r.low;
        cycle = refl;
        bp1 = refl;
        bp0 = refl;
        whole = (ready_acted_all P sound (first_wait P i limit d) d g.ready).whole;
      } in
      let positive : 0 < rested.core.cycle = rw r.cycle cycle_some in
      let none : rested.memory ≡ overwritten a (carried 0) rested.memory =
      sym (ap (λ (l : List ℕ). overwritten a l rested.memory) (pieces_none P.size P.page a bytes) ∙ overwritten_none a rested.memory) in
      let l =
      parts_leave P sound i limit g.interval_some g.interval_most g.limit_some a bytes rested.core positive
      (ltb-false _ _ t) rested.memory idle.whole parts 0 rested (omega arith) idle none in
      let all = all_parts P i limit a bytes rested in
      let there : begun (first_wait P i limit d) all ≡ whole_run = sym (run_parts P i limit a bytes d some_bytes (still n r) t) in
      let count-from : 0 + all.pages ≡ all.pages = omega arith in
      let y : acted_all P all.acts rested ≡ acted_all P (begun (first_wait P i limit d) all).acts d =
      sym (acted_all_append P (first_wait P i limit d) all.acts d) in
      subst (λ (x : Run). Leaving n x) there
      (record {
        frames = sent all.acts;
        counts = sent_append (first_wait P i limit d) all.acts ∙ ap (λ (k : ℕ). k + sent all.acts) r.frames_first;
        memory =
            sym (ap (λ (x : FrameBench). x.memory) y)
            ∙ l.0
            ∙ ap (λ (k : ℕ). overwritten a (carried k) rested.memory) count-from
            ∙ ap (overwritten a (carried all.pages)) r.memory;
        identification = sym (ap (λ (x : FrameBench). x.identification) y) ∙ l.1.1.1 ∙ r.identification;
        meaning = subst (Says all all.ending (sent all.acts)) y l.1.0;
        executed = executed_append P (first_wait P i limit d) all.acts d (first_executed P i limit d) l.1.1.0;
      })

  -- ---- one of the three for every input

  pub data First : Type 0 where
    ends : (n : ℕ) → Rests n → touched ≡ false → First
    ends_touched : (n : ℕ) → Rests n → touched ≡ true → First
    uses_limit : FirstLate → First

  pub first_ends : First
  first_ends = by (running d.core) refl
    where
      rests : (n : ℕ) (b : Bool) → touched ≡ b → Rests n → First
      rests n false t r = ends n r t
      rests n true t r = ends_touched n r t

      by : (b : Bool) → running d.core ≡ b → First
      by false e = rests 1 touched refl (rests_idle e)
      by true e = elim (dec_le d.core.left ((limit - 1) * i)) [
        | yes enough ↦ rests (1 + rounded_up d.core.left i) touched refl (rests_running e enough)
        | no few ↦
            let late-left : (limit - 1) * i < d.core.left = omega arith in
            uses_limit (first_late late-left)
      ]

  stops_touched : (n : ℕ) → Rests n → touched ≡ true → whole_run ≡ stopped (first_wait P i limit d) protected
  stops_touched n r t = run_touches P i limit a bytes d some_bytes (still n r) t

  -- every frame of the run is executed where it is sent: every page sent is taken
  pub run_executed : all_executed P whole_run.acts d ≡ true
  run_executed = by first_ends
    where
      wait_alone : (e : Ending) → whole_run ≡ stopped (first_wait P i limit d) e → all_executed P whole_run.acts d ≡ true
      wait_alone e r = ap (λ (x : Run). all_executed P x.acts d) r ∙ first_executed P i limit d

      by : First → all_executed P whole_run.acts d ≡ true
      by (uses_limit l) = wait_alone timed_out l.stops
      by (ends_touched n r t) = wait_alone protected (stops_touched n r t)
      by (ends n r t) = (run_leaves n r t).executed

  -- ---- by the ending

  -- 0: exactly the given bytes in the given cells, every other cell as it is once a cycle that was already running has ended, and so the
  -- identification page
  pub record AllDone : Type 0 where
    pub pages : whole_run.pages ≡ parts
    pub memory : exit.memory ≡ overwritten a bytes (once_ended P d.core d.memory)
    pub identification : exit.identification ≡ once_ended_identification P d.core d.identification
    pub left : exit.core.left ≡ 0
    pub frames : running d.core ≡ false → sent whole_run.acts ≡ 1 + parts * page_frames i d.core

  pub run_done : whole_run.ending ≡ all_done → AllDone
  run_done e = by first_ends
    where
      by : First → AllDone
      by (uses_limit l) = absurd (done_late (sym e ∙ l.ending))
      by (ends_touched n r t) = absurd (done_protected (sym e ∙ ap (λ (x : Run). x.ending) (stops_touched n r t)))
      by (ends n r t) =
          let l = run_leaves n r t in
          let s = subst (λ (x : Ending). Says whole_run x l.frames exit) e l.meaning in
          record {
            pages = s.0;
            memory =
                l.memory
                ∙ ap (λ (k : ℕ). overwritten a (carried k) ended_first) s.0
                ∙ ap (λ (l : List ℕ). overwritten a l ended_first) (whole P.size P.page a bytes sound.page_some g.inside);
            identification = l.identification;
            left = s.1.1;
            frames =
                λ idle. l.counts
                ∙ (let one = sym r.frames_first ∙ (rests_idle idle).frames_first in
                omega (arith, one, s.1.0, ap (λ (x : ℕ). parts * (2 + rounded_up x i)) r.cycle));
          }

  -- 13: the first wait and nothing more, and so the device as that wait leaves it: no cell changed but by a cycle that was already running, none of
  -- the identification page either; WEL as it is, or 0 where that cycle ended. From an idle device it is one poll, and leaves everything as it was
  pub record Refuses : Type 0 where
    pub acts : whole_run.acts ≡ first_wait P i limit d
    pub pages : whole_run.pages ≡ 0
    pub memory : exit.memory ≡ once_ended P d.core d.memory
    pub identification : exit.identification ≡ once_ended_identification P d.core d.identification
    pub wel : exit.core.wel ≡ pick (running d.core) 0 d.core.wel
    pub left : exit.core.left ≡ 0
    pub idle : running d.core ≡ false → (exit ≡ d) × (sent whole_run.acts ≡ 1)

  pub run_protected : whole_run.ending ≡ protected → Refuses
  run_protected e = by first_ends
    where
      by : First → Refuses
      by (uses_limit l) = absurd (late_protected (sym l.ending ∙ e))
      by (ends n r t) = absurd (subst (λ (x : Ending). Says whole_run x (run_leaves n r t).frames exit) e (run_leaves n r t).meaning)
      by (ends_touched n r t) =
          let s = stops_touched n r t in
          let acts : whole_run.acts ≡ first_wait P i limit d = ap (λ (x : Run). x.acts) s in
          let there : exit ≡ rested = ap (λ (l : List Act). acted_all P l d) acts in
          record {
            acts = acts;
            pages = ap (λ (x : Run). x.pages) s;
            memory = ap (λ (x : FrameBench). x.memory) there ∙ r.memory;
            identification = ap (λ (x : FrameBench). x.identification) there ∙ r.identification;
            wel = ap (λ (x : FrameBench). x.core.wel) there ∙ r.wel;
            left = ap (λ (x : FrameBench). x.core.left) there ∙ r.left;
            idle = λ free. (there ∙ sym (waits_idle free).0, ap sent acts ∙ (waits_idle free).1);
          }

  -- and it comes exactly where the first wait ends and some byte of the run would lie at or above the lowest protected address of the status that
  -- the wait leaves
  pub run_protected_exactly : (whole_run.ending ≡ protected)
      ↔ ((running rested.core ≡ false) × ((j : ℕ) × ((j < length bytes) × (lowest_shown P (status rested.core) ≤ a + j))))
  run_protected_exactly = (by first_ends, back)
    where
      shown : lowest_shown P (status rested.core) ≡ lowest P rested.core
      shown = seen_lowest (status rested.core) rested.core refl P

      Touching : Type 0
      Touching = (running rested.core ≡ false) × ((j : ℕ) × ((j < length bytes) × (lowest_shown P (status rested.core) ≤ a + j)))

      by : First → whole_run.ending ≡ protected → Touching
      by (uses_limit l) e = absurd (late_protected (sym l.ending ∙ e))
      by (ends n r t) e = absurd (subst (λ (x : Ending). Says whole_run x (run_leaves n r t).frames exit) e (run_leaves n r t).meaning)
      by (ends_touched n r t) e =
          let above : lowest P rested.core < a + length bytes = ltb-true _ _ t in
          let some = g.carries in
          (still n r, (length bytes - 1, (omega arith, omega (arith, shown))))

      back : Touching → whole_run.ending ≡ protected
      back x =
          let above : lowest P rested.core < a + length bytes = omega (arith, shown, x.1.1.0, x.1.1.1) in
          ap (λ (r : Run). r.ending) (run_touches P i limit a bytes d some_bytes x.0 (lt-ltb _ _ above))

  -- 9: no page done and none stored, and a cycle still runs; its wait made as many polls as its limit. The memory and the identification page are
  -- as they were, or, where a page's wait ran out, as they are once a cycle that was already running has ended
  pub record TimedOut : Type 0 where
    pub pages : whole_run.pages ≡ 0
    pub memory : (exit.memory ≡ d.memory) ⊎ (exit.memory ≡ once_ended P d.core d.memory)
    pub identification : (exit.identification ≡ d.identification) ⊎ (exit.identification ≡ once_ended_identification P d.core d.identification)
    pub left : 0 < exit.core.left
    pub frames : (sent whole_run.acts ≡ limit) ⊎ (sent whole_run.acts ≡ sent (first_wait P i limit d) + (2 + limit))

  pub run_timed_out : whole_run.ending ≡ timed_out → TimedOut
  run_timed_out e = by first_ends
    where
      by : First → TimedOut
      by (uses_limit l) =
          record {
            pages = l.pages;
            memory = inl l.memory;
            identification = inl l.identification;
            left = l.runs;
            frames = inl l.frames;
          }
      by (ends_touched n r t) = absurd (late_protected (sym e ∙ ap (λ (x : Run). x.ending) (stops_touched n r t)))
      by (ends n r t) =
          let l = run_leaves n r t in
          let s = subst (λ (x : Ending). Says whole_run x l.frames exit) e l.meaning in
          let few = s.1.1.0 in
          record {
            pages = s.0;
            memory =
                inr
                (l.memory
                ∙ ap (λ (k : ℕ). overwritten a (carried k) ended_first) s.0
                ∙ ap (λ (l : List ℕ). overwritten a l ended_first) (pieces_none P.size P.page a bytes)
                ∙ overwritten_none a ended_first);
            identification = inr l.identification;
            left = omega (arith, s.1.1.1);
            frames = inr (l.counts ∙ omega (arith, s.1.0, r.frames_first));
          }

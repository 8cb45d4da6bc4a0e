-- A page of any sound part, sent to an idle device at an address that is not protected: WREN and WRITE are executed. How many frames the page
-- takes, and what it leaves: it is done, or its wait runs out of polls.
use mathlib.Core.Path.{◌≡◌, refl, ap, sym, ◌∙◌}
use mathlib.Core.Bool.{true, false}
use mathlib.Core.List.{List}
use Prim.Native.Nat.{ℕ, suc, ◌+◌, ◌-◌, ◌*◌, ◌/◌, ◌%◌, ◌^◌, ◌<◌, ◌≤◌}
use native.Mathlib.Omega.{arith}
use lib.ListN.{length}
use lib.Dec.{ltb}
use borrow.Author.Tests.{lt-ltb, le-ltb, le-leb, eq-eqb}
use Rattle.laws.specs.Pick.{pick, at_yes, and_both}
use Rattle.codes.specs.Part.{Part}
use Rattle.codes.specs.Status.{on}
use Rattle.blanks.specs.Blanks.{recounted}
use Rattle.chip.specs.Questions.{protects}
use Rattle.latch.specs.Latches.{stored}
use Rattle.chip.specs.Records.{running, waits_page, waits_identification, page_waits, with_wel, with_time, with_blank, with_cycle, without_cycle}
use Rattle.codes.specs.Instructions.{decode, count_fits, write_bits}
use Rattle.codes.specs.Verdicts.{is_executed, verdict_by}
use Rattle.chip.specs.Time.{ended, ended_cells, ended_blank}
use Rattle.latch.specs.declared.Latch.{Latch}
use Rattle.chip.specs.declared.Core.{Core}
use Rattle.codes.specs.declared.Count.TheVariants.{WholeBytes}
use Rattle.codes.proofs.Sound.{Sound}
use Rattle.fields.specs.Bytes.{written}
use Rattle.frames.specs.After.{judged, after}
use Rattle.frames.specs.Play.{Act, FrameBench, acted_all}
use Rattle.sequence.specs.Sequence.{sent, polls_on, page_wait, wren_and_write, page_acts}
use Rattle.frames.specs.Sent.{wren_bytes, write_bytes}
use Rattle.sequence.specs.Counts.{rounded_up, all_executed}
use Rattle.sequence.proofs.Playing.{acted_all_append, sent_append}
use Rattle.sequence.proofs.Polls.{waited, late}
use Rattle.sequence.proofs.Executed.{executed_append, wait_executed}
use Rattle.frames.proofs.Addresses.{write_length, write_address}

-- where no cycle runs WREN is executed, and sets WEL
enabling : (P : Part) (c : Core) → running c ≡ false → is_executed (judged P (running c) true c wren_bytes 8) ≡ true
unfolding decode verdict_by pick
enabling P c e = rw e refl

enables : (P : Part) (c : Core) → running c ≡ false → after P (running c) true c wren_bytes 8 ≡ with_wel 1 c
unfolding decode pick
enables P c e = at_yes _ _ (enabling P c e)

-- a WRITE of whole bytes where no cycle runs, WEL is 1 and the address is not protected: it is executed
module _ (P : Part) (sound : Sound P) (c : Core) (a : ℕ) (bytes : List ℕ) (low : a < P.size) (some : 0 < length bytes) (idle : running c ≡ false)
    (enabled : on c.wel ≡ true) (unprotected : protects P c a ≡ false) where
  abbrev bits : ℕ
  bits = 8 * length (write_bytes P a bytes)

  whole : count_fits (WholeBytes (write_bits P)) bits ≡ true
  whole =
      let many : write_bits P ≤ bits = omega (arith, write_length P a bytes) in
      let even : bits % 8 ≡ 0 = omega arith in
      and_both _ _ (le-leb _ bits many) (eq-eqb _ _ even)

  long : ltb bits 8 ≡ false
  long = let many : 8 ≤ bits = omega arith in le-ltb bits 8 many

  executed : is_executed (judged P (running c) true c (write_bytes P a bytes) bits) ≡ true
  unfolding decode verdict_by pick
  executed = rw (write_address P sound a bytes low, unprotected, idle, enabled, whole, long) refl

  taken : after P (running c) true c (write_bytes P a bytes) bits ≡ with_cycle (page_waits (a / P.page) (written P (write_bytes P a bytes))) c
  unfolding decode pick
  taken =
      at_yes _ _ executed
      ∙ ap (λ (n : ℕ). with_cycle (page_waits (n / P.page) (written P (write_bytes P a bytes))) c) (write_address P sound a bytes low)

-- ---- a page part sent to an idle device

-- the cycle is over: WEL 0, nothing waits, the clock read t, n cells are blank
abbrev pub settled : ℕ → ℕ → Core → Core
settled t n c = with_blank n (with_time t 0 (without_cycle c))

-- a wait of a device in which a cycle runs is polls while it does
wait_running : (P : Part) (i limit : ℕ) (d : FrameBench) → 1 ≤ limit → running d.core ≡ true → page_wait P i limit d ≡ polls_on P i limit d
unfolding page_wait polls_on
wait_running P i limit d h r =
    let one : limit ≡ suc (limit - 1) = omega arith in
    sym (ap (λ (n : ℕ). polls_on P i n d) one ∙ at_yes _ _ r)

module _ (P : Part) (sound : Sound P) (i limit : ℕ) (some : 0 < i) (small : i ≤ P.longest) (polls : 1 ≤ limit) (d : FrameBench)
    (low : d.core.last < 2 ^ 32) (none : d.core.left ≡ 0) (cycle : 0 < d.core.cycle) (a : ℕ) (bytes : List ℕ) (inside : a < P.size)
    (carries : 0 < length bytes) (unprotected : protects P d.core a ≡ false) where
  idle : running d.core ≡ false
  idle = le-ltb 0 d.core.left (omega arith)

  -- after WREN and WRITE
  abbrev begun : FrameBench
  begun = acted_all P (wren_and_write P a bytes) d

  abbrev enabled : Core
  enabled = with_wel 1 d.core

  abbrev pub latch : Latch
  latch = written P (write_bytes P a bytes)

  begun_core : begun.core ≡ after P (running enabled) true enabled (write_bytes P a bytes) (8 * length (write_bytes P a bytes))
  begun_core =
      ap (λ (c : Core). after P (running c) true c (write_bytes P a bytes) (8 * length (write_bytes P a bytes))) (enables P d.core idle)

  abbrev pub acts : List Act
  acts = page_acts P i limit a bytes d

  abbrev pub left : FrameBench
  left = acted_all P acts d

  counted : (n : ℕ) → sent (page_wait P i limit begun) ≡ n → sent acts ≡ 2 + n
  unfolding page_acts
  counted n e = omega (arith, sent_append (wren_and_write P a bytes) (page_wait P i limit begun), e)

  leaves : left ≡ acted_all P (page_wait P i limit begun) begun
  unfolding page_acts
  leaves = acted_all_append P (wren_and_write P a bytes) (page_wait P i limit begun) d

  -- ---- the polls suffice: its cycle ends

  pub record PageDone : Type 0 where
    pub frames : sent acts ≡ 2 + rounded_up d.core.cycle i
    pub read : ℕ
    pub read_low : read < 2 ^ 32
    pub core : left.core ≡ settled read (recounted P d.core.blank d.memory (stored P (a / P.page) latch d.memory)) d.core
    pub memory : left.memory ≡ stored P (a / P.page) latch d.memory
    pub identification : left.identification ≡ d.identification

  abbrev cycling : Core
  cycling = with_cycle (page_waits (a / P.page) latch) enabled

  cycles : begun.core ≡ cycling
  cycles = begun_core ∙ taken P sound enabled a bytes inside carries idle refl unprotected

  -- every frame of it is executed: the WRITE is taken
  pub page_executed : all_executed P acts d ≡ true
  unfolding page_acts
  page_executed =
      executed_append P (wren_and_write P a bytes) (page_wait P i limit begun) d
      (and_both _ _ (enabling P d.core idle)
      (and_both _ true
      (ap (λ (c : Core). is_executed (judged P (running c) true c (write_bytes P a bytes) (8 * length (write_bytes P a bytes)))) (enables P d.core idle)
      ∙ executed P sound enabled a bytes inside carries idle refl unprotected) refl))
      (wait_executed P i limit begun)

  pub page_done_law : d.core.cycle ≤ limit * i → PageDone
  unfolding pick
  page_done_law enough =
      let c = cycles in
      let busy : running begun.core ≡ true = ap running c ∙ lt-ltb 0 d.core.cycle cycle in
      let total : begun.core.left ≡ d.core.cycle = ap (λ (x : Core). x.left) c in
      let last : begun.core.last ≡ d.core.last = ap (λ (x : Core). x.last) c in
      let wait = wait_running P i limit begun polls busy in
      let w = waited P sound i some small limit begun (rw last low) (rw total cycle) (rw total enough) in
      let y = leaves ∙ ap (λ (l : List Act). acted_all P l begun) wait in
      record {
        frames = counted _ (ap sent wait ∙ w.polls ∙ ap (λ (n : ℕ). rounded_up n i) total);
        read = w.over.read;
        read_low = w.over.low;
        core =
            ap (λ (x : FrameBench). x.core) y
            ∙ w.over.core
            ∙ ap (λ (x : Core). with_blank (ended_blank P x d.memory) (with_time w.over.read 0 (ended x))) c;
        memory = ap (λ (x : FrameBench). x.memory) y ∙ w.over.memory ∙ ap (λ (x : Core). ended_cells waits_page P x d.memory) c;
        identification =
            ap (λ (x : FrameBench). x.identification) y
            ∙ w.over.identification
            ∙ ap (λ (x : Core). ended_cells waits_identification P x d.identification) c;
      }

  -- ---- they do not: its cycle still runs

  pub record PageLate : Type 0 where
    pub frames : sent acts ≡ 2 + limit
    pub read : ℕ
    pub core : left.core ≡ with_time read (d.core.cycle - limit * i) cycling
    pub memory : left.memory ≡ d.memory
    pub identification : left.identification ≡ d.identification

  pub page_late : limit * i < d.core.cycle → PageLate
  page_late few =
      let c = cycles in
      let busy : running begun.core ≡ true = ap running c ∙ lt-ltb 0 d.core.cycle cycle in
      let total : begun.core.left ≡ d.core.cycle = ap (λ (x : Core). x.left) c in
      let last : begun.core.last ≡ d.core.last = ap (λ (x : Core). x.last) c in
      let wait = wait_running P i limit begun polls busy in
      let w = late P sound i some small limit begun (rw last low) (rw total few) in
      let y = leaves ∙ ap (λ (l : List Act). acted_all P l begun) wait in
      record {
        frames = counted _ (ap sent wait ∙ w.polls);
        read = w.runs.read;
        core =
            ap (λ (x : FrameBench). x.core) y
            ∙ w.runs.core
            ∙ ap (λ (n : ℕ). with_time w.runs.read (n - limit * i) begun.core) total
            ∙ ap (with_time w.runs.read (d.core.cycle - limit * i)) c;
        memory = ap (λ (x : FrameBench). x.memory) y ∙ w.runs.memory;
        identification = ap (λ (x : FrameBench). x.identification) y ∙ w.runs.identification;
      }

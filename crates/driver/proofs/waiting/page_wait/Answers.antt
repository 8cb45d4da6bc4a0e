-- While a cycle runs its first poll is like any other; with none it is the only one.
use Rattle.std.proofs.Common.{◌≡◌, ℕ, ◌+◌, ◌-◌, ◌%◌, ◌^◌, ◌<◌, List, sym, refl, ap, ◌∙◌, subst, arith, ltb-false, le-ltb}
use Rattle.chip.specs.Records.{own_part, running, with_time}
use Rattle.chip.specs.declared.Core.{Core}
use Rattle.frames.specs.Play.{Act, FrameBench, acted_all, frame_bench}
use Rattle.sequence.specs.Sequence.{late_poll}
use Rattle.sequence.proofs.Joined.{page_busy, page_idle}
use Rattle.sequence.proofs.Polls.{poll_idle}
use Rattle.driver.specs.Told.{Told}
use Rattle.driver.proofs.waiting.page_wait.Goals as goal

pub returns-then-running : goal.returns-then-running
returns-then-running c =
    let wait = c.poll_on in
    let a = c.args in
    let P = own_part a.core in
    let d : FrameBench = frame_bench a.core a.memory.now a.identification.now in
    let same = page_busy P a.polls.interval a.polls.limit d d a.polls.some (sym c.running.ensures ∙ c.if-running.true) in
    subst (λ (acts : List Act). Told P acts d wait.result wait.new.memory wait.new.identification) (sym same) wait.ensures

pub returns : goal.returns
returns c =
    let a = c.args in
    let P = own_part a.core in
    let d : FrameBench = frame_bench a.core a.memory.now a.identification.now in
    -- the last reading is a number of 32 bits
    let read_low : a.core.last < 2 ^ 32 = omega (arith, c.well_formed) in
    let x : FrameBench = frame_bench c.with_time-next.result a.memory.now a.identification.now in
    let free : running a.core ≡ _ = sym c.running.ensures ∙ c.if-running.false in
    let none : 0 ≡ a.core.left - a.polls.interval = omega (arith, ltb-false 0 a.core.left free) in
    let e : x ≡ acted_all P (late_poll a.polls.interval d) d =
    ap (λ (y : Core). frame_bench y a.memory.now a.identification.now) c.with_time-next.ensures
    ∙ ap (λ (n : ℕ). frame_bench (with_time ((a.core.last + a.polls.interval) % 2 ^ 32) n a.core) a.memory.now a.identification.now) none
    ∙ poll_idle P a.polls.interval (omega arith) d read_low free in
    let after : running (acted_all P (late_poll a.polls.interval d) d).core ≡ _ =
    sym (ap (λ (y : FrameBench). running y.core) e) ∙ ap (λ (y : Core). running y) c.with_time-next.ensures ∙ le-ltb 0 0 (omega arith) in
    let same = page_idle P a.polls.interval a.polls.limit d d after in
    subst (λ (acts : List Act). Told P acts d (record { status = c.status.result; core = x.core; frames = 1 }) a.memory.now a.identification.now)
    (sym same) (
      ap (λ (y : FrameBench). y.core) e,
      (c.status.ensures, (refl, (ap (λ (y : FrameBench). y.memory) e, ap (λ (y : FrameBench). y.identification) e))),
    )

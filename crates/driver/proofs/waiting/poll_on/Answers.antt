use Rattle.std.proofs.Common.{◌≡◌, ℕ, ◌+◌, ◌-◌, ◌%◌, ◌^◌, ◌<◌, ◌≤◌, true, false, ◌&&◌, ltb, ap, ◌∙◌, arith, ltb-false, ltb-true, lt-ltb}
use Rattle.laws.specs.Pick.{and_left, and_right}
use Rattle.laws.specs.And.{and_other}
use Rattle.chip.specs.Records.{own_part, with_time}
use Rattle.chip.specs.declared.Core.{Core}
use Rattle.frames.specs.Play.{FrameBench, reading, acted, frame_bench}
use Rattle.sequence.proofs.Ready.{bench_of_law}
use Rattle.sequence.proofs.Joined.{late_poll_leaves}
use Rattle.sequence.proofs.Polls.{poll_still, poll_free}
use Rattle.sequence.proofs.Waits.{polls_on_free, is_over, onward_next, onward_last}
use Rattle.driver.proofs.waiting.poll_on.Goals as goal

-- in the loop a poll is left, and the cycle outlasts the interval
on : (polls left interval rest : ℕ) → (ltb polls left && ltb interval rest) ≡ true → (polls < left) × (interval < rest)
on polls left interval rest test =
    let more = ltb polls left in
    let lasts = ltb interval rest in
    (ltb-true _ _ (and_left more lasts test), ltb-true _ _ (and_right more lasts test))

-- the poll that ends the cycle: it is left, and the cycle runs, but not for longer than the interval
ending : (polls left interval rest : ℕ) → (ltb polls left && ltb interval rest) ≡ false → (ltb polls left && ltb 0 rest) ≡ true
    → (polls < left) × ((0 < rest) × (rest ≤ interval))
ending polls left interval rest over test =
    let more = ltb polls left in
    let some : more ≡ true = and_left more (ltb 0 rest) test in
    let short = and_other more (ltb interval rest) over some in
    (ltb-true _ _ some, (ltb-true _ _ (and_right more (ltb 0 rest) test), ltb-false _ _ short))

pub loop-polls-preserved : goal.loop-polls-preserved
loop-polls-preserved c =
    let l = c.loop-polls in
    let a = c.args in
    let P = own_part a.start in
    let d : FrameBench = frame_bench (with_time l.last l.rest a.start) a.memory.now a.identification.now in
    let here = on l.polls a.left a.interval l.rest c.loop-polls-test.true in
    let e = poll_still P a.interval (omega arith) d l.invariant.reading here.1 in
    let runs : 0 < l.rest = omega (arith, here.1) in
    record {
      few = omega (arith, here.0);
      reading = omega arith;
      onward = onward_next P a.interval a.left _ l.polls d _ e here.0 (lt-ltb _ _ runs) l.invariant.onward;
    }

pub returns-then-polls-left : goal.returns-then-polls-left
returns-then-polls-left c =
    let l = c.loop-polls in
    let a = c.args in
    let P = own_part a.start in
    let d : FrameBench = frame_bench (with_time l.last l.rest a.start) a.memory.now a.identification.now in
    let here = ending l.polls a.left a.interval l.rest c.loop-polls-test.false c.if-polls-left.true in
    let core = c.with_time-core in
    let given : FrameBench = frame_bench core.result a.memory.now a.identification.now in
    let step = c.timed-over in
    let x : FrameBench = frame_bench step.result step.new.memory step.new.identification in
    let e =
    bench_of_law (acted (own_part core.result) (reading ((l.last + a.interval) % 2 ^ 32)) given) step.ensures.value step.ensures.memory_after step.ensures.identification_after
    ∙ ap (λ (y : Core). acted (own_part y) (reading ((l.last + a.interval) % 2 ^ 32)) (frame_bench y a.memory.now a.identification.now)) core.ensures
    ∙ late_poll_leaves P a.interval d in
    let running = lt-ltb _ _ here.1.0 in
    let free = ap (λ (y : FrameBench). ltb 0 y.core.left) e ∙ poll_free P a.interval (omega arith) d l.invariant.reading here.1.0 here.1.1 in
    let onward = onward_next P a.interval a.left _ l.polls d x e here.0 running l.invariant.onward in
    let last = onward_last P a.interval a.left _ (l.polls + 1) x (polls_on_free P a.interval x (a.left - (l.polls + 1)) free) onward in
    let memory = ap (λ (y : FrameBench). y.memory) last.0 in
    let page = ap (λ (y : FrameBench). y.identification) last.0 in
    (ap (λ (y : FrameBench). y.core) last.0, (c.status.ensures, (last.1, (memory, page))))

pub returns : goal.returns
returns c =
    let l = c.loop-polls in
    let a = c.args in
    let P = own_part a.start in
    let d : FrameBench = frame_bench (with_time l.last l.rest a.start) a.memory.now a.identification.now in
    let none = is_over P a.interval l.polls a.left d c.if-polls-left.false in
    let last = onward_last P a.interval a.left _ l.polls d none l.invariant.onward in
    let core = c.with_time-core.ensures ∙ ap (λ (x : FrameBench). x.core) last.0 in
    let memory = ap (λ (x : FrameBench). x.memory) last.0 in
    let page = ap (λ (x : FrameBench). x.identification) last.0 in
    (core, (c.status-2.ensures, (last.1, (memory, page))))

-- The readings at 0 come, and the frame goes on with the rest of its lists: by what the frames in a cycle and out of one promise.
use mathlib.Core.Path.{sym, ◌∙◌}
use native.Mathlib.Omega.{arith}
use Rattle.chip.specs.Lents.{lent}
use Rattle.frames.specs.Play.{frame_bench}
use Rattle.timed_frames.proofs.Walks.{due_most}
use Rattle.timed_frames.proofs.Whole.{Next, next}
use Rattle.timed_frames.proofs.carried_out.Goals as goal
use Rattle.timed_frames.proofs.carried_out.Goals.{After-after-rest}

-- no more come than the lists have
pub after-rest-requires : goal.after-rest-requires
after-rest-requires c = omega (arith, c.to-first.ensures.next_value, due_most 1 c.args.schedule.positions.now)

-- with the readings at 0 gone: what the frame goes on with, in a cycle or out of one
gone : (c : After-after-rest) → let a = c.args in let to = c.to-first in let rest = c.after-rest.result in
    Next a.core (lent a.memory.now a.identification.now) a.bytes.now a.bits a.schedule.positions.now a.schedule.readings.now
    rest.positions.now rest.readings.now (frame_bench to.result.core to.new.memory to.new.identification) a.w a.mode a.out.now
gone c =
    let a = c.args in
    let to = c.to-first in
    let rest = c.after-rest in
    next a.core (lent a.memory.now a.identification.now) a.bytes.now a.bits a.schedule.positions.now a.schedule.readings.now
    rest.result.positions.now rest.result.readings.now (frame_bench to.result.core to.new.memory to.new.identification)
    to.result.next to.ensures.next_value rest.ensures.positions_left rest.ensures.readings_left to.ensures.identification_after
    a.w a.mode a.out.now c.requires.readings_value c.requires.out_value

pub ran_frame-requires : goal.ran_frame-requires
ran_frame-requires c =
    let g = gone (goal.at.ran_frame-requires c).After-after-rest in
    record { out_value = g.fits; none_at_0 = g.none; core_value = sym c.running.ensures ∙ c.if-running.true }

pub returns-then-running : goal.returns-then-running
returns-then-running c =
    let g = gone (goal.at.returns-then-running c).After-after-rest in
    let f = c.ran_frame.ensures in
    g.carried f.answer_value f.identification_after f.out_after

pub quiet_frame-requires : goal.quiet_frame-requires
quiet_frame-requires c =
    let g = gone (goal.at.quiet_frame-requires c).After-after-rest in
    record { out_value = g.fits; none_at_0 = g.none; core_value = sym c.running.ensures ∙ c.if-running.false }

pub returns : goal.returns
returns c =
    let g = gone (goal.at.returns c).After-after-rest in
    let f = c.quiet_frame.ensures in
    g.carried f.answer_value f.identification_after (f.out_after c.args.mode)

-- By the outcome that the code found: the refusals tested the lengths, so a frame that is taken is shown.
use Rattle.chip.specs.Records.{own_part}
use Rattle.frames.proofs.Outcomes.{shown_frame, refused_frame}
use Rattle.frames.proofs.frame.Goals as goal

pub returns : goal.returns
returns c =
    let a = c.args in
    rw (c.after.ensures, c.undriven.ensures, c.show.ensures, c.status.ensures)
    (rw (c.lock_byte.ensures, c.running-ran.ensures, c.instruction_of-i.ensures)
    (shown_frame (own_part a.core) a.core a.memory.now a.identification.now a.w a.bytes.now a.bits a.out.now
    c.outcome.ensures c.in_default.is))

pub returns-in-Err : goal.returns-in-Err
returns-in-Err c =
    let a = c.args in
    refused_frame (own_part a.core) a.core a.memory.now a.identification.now a.w a.bytes.now a.bits a.out.now
    c.in-Err.refusal c.outcome.ensures c.in-Err.is

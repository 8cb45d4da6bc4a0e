-- With empty lists it is the plain call; else the lists decide.
use Rattle.std.proofs.Common.{◌≡◌, length, eqb, true, ◌&&◌, eqb-true}
use Rattle.laws.specs.Pick.{and_left, and_right}
use Rattle.chip.specs.Lents.{lent}
use Rattle.chip.specs.Records.{own_part}
use Rattle.timed_frames.proofs.Untimed.{plain_answered}
use Rattle.timed_frames.proofs.timed_frame.Goals as goal

pub returns-then-is_empty : goal.returns-then-is_empty
returns-then-is_empty c =
    let a = c.args in
    let no_place = eqb (length a.positions.now) 0 in
    let no_reading = eqb (length a.readings.now) 0 in
    let none : (no_place && no_reading) ≡ true = rw (← c.is_empty.ensures, ← c.is_empty-2.ensures) c.if-is_empty.true in
    let f = c.frame.ensures in
    let all = plain_answered (own_part a.core) a.core (lent a.memory.now a.identification.now) a.bytes.now a.bits a.w a.mode a.positions.now
    a.readings.now a.out.now (eqb-true _ _ (and_left no_place no_reading none)) (eqb-true _ _ (and_right no_place no_reading none))
    f.value f.out_after in
    record {
      value = all.0;
      as_number = all.1.0;
      memory_after = all.1.1.0;
      identification_after = all.1.1.1.0;
      out_after = all.1.1.1.1;
    }

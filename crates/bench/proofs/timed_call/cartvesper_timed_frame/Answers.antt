-- With empty lists it is the plain frame; else the frame with its readings.
use mathlib.Core.Path.{refl}
use mathlib.Core.Bool.{true, ◌&&◌}
use mathlib.Core.Path.{◌≡◌}
use lib.Dec.{eqb}
use lib.ListN.{length}
use borrow.Author.Tests.{eqb-true}
use Rattle.laws.specs.Pick.{yes_so, no_so, and_left, and_right}
use Rattle.chip.specs.Lents.{lent}
use Rattle.chip.specs.Records.{own_part}
use Rattle.bench.proofs.Untimed.{plain_call}
use Rattle.bench.proofs.timed_call.cartvesper_timed_frame.Goals as goal

pub returns-then-is_empty : goal.returns-then-is_empty
returns-then-is_empty c =
    let sent = c.frame.ensures in
    let a = c.args in
    let no_place = eqb (length a.positions.now) 0 in
    let no_reading = eqb (length a.readings.now) 0 in
    let none : (no_place && no_reading) ≡ true = rw (← c.is_empty-then-w-mode.ensures, ← c.is_empty.ensures) c.if-is_empty.true in
    plain_call (own_part a.core) a.core (lent a.memory.now a.identification.now) a.w a.mode a.bytes.now a.bits
    a.positions.now a.readings.now a.out.now c.if-w-mode.true
    (eqb-true _ _ (and_left no_place no_reading none)) (eqb-true _ _ (and_right no_place no_reading none))
    (rw (c.from.ensures, sent.value)) sent.out_after

pub returns-then-w-mode : goal.returns-then-w-mode
returns-then-w-mode c =
    let e = c.timed_frame.ensures in
    let yes = c.if-w-mode.true in record { value = yes_so _ yes (rw (c.from-then-w-mode.ensures, e.value)); memory_after = yes_so _ yes e.memory_after; identification_after = yes_so _ yes e.identification_after; out_after = yes_so _ yes (rw (e.out_after, c.mode_of.ensures)) }

pub returns : goal.returns
returns c =
    let no = c.if-w-mode.false in
    record { value = no_so _ no (rw c.bad_level.ensures); memory_after = no_so _ no refl; identification_after = no_so _ no refl; out_after = no_so _ no refl }

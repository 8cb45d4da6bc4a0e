-- By the test of refusals 1 and 2, then by the two that are asked of a list.
use mathlib.Core.Path.{◌≡◌, refl, sym, ◌∙◌}
use Rattle.std.proofs.lemmas.Result.{err_from_is_err_and}
use lib.ListN.{length}
use Rattle.laws.specs.Pick.{eq_so, ne_so, call_yes, call_no}
use Rattle.chip.specs.Lents.{lent}
use Rattle.pins.specs.Devices.{device_part}
use Rattle.lists.proofs.Answering.{play_stopped, play_passed}
use Rattle.lists.proofs.listed.admitted.Goals as goal

pub returns-in_err-admitted : goal.returns-in_err-admitted
returns-in_err-admitted c =
    let a = c.args in
    let p = err_from_is_err_and c.from_residual.result c.from_residual.ensures.1 in
    let m = lent a.memory.now a.identification.now in
    rw (p.1, p.2)
    (play_stopped (device_part a.device) a.device m a.events.now a.room (sym c.admitted.ensures ∙ c.in_err-admitted.was))

pub returns-then-not-are_events : goal.returns-then-not-are_events
returns-then-not-are_events c =
    let a = c.args in
    let m = lent a.memory.now a.identification.now in
    play_passed (device_part a.device) a.device m a.events.now a.room (sym c.admitted.ensures ∙ c.in_ok-admitted.was)
    (call_no _ c.are_events.ensures c.if-not-are_events.true refl)

pub returns-then-room-events : goal.returns-then-room-events
returns-then-room-events c =
    let a = c.args in
    let m = lent a.memory.now a.identification.now in
    play_passed (device_part a.device) a.device m a.events.now a.room (sym c.admitted.ensures ∙ c.in_ok-admitted.was)
    (call_yes _ c.are_events.ensures c.if-not-are_events.false (ne_so _ c.if-room-events.true refl))

pub returns : goal.returns
returns c =
    let a = c.args in
    let m = lent a.memory.now a.identification.now in
    play_passed (device_part a.device) a.device m a.events.now a.room (sym c.admitted.ensures ∙ c.in_ok-admitted.was)
    (call_yes _ c.are_events.ensures c.if-not-are_events.false (eq_so _ c.if-room-events.false refl))

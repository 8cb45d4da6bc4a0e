-- Refused calls are the plain call's refusals, with this bit count or one that no frame has; the rest is carried out.
use mathlib.Core.Path.{ap, sym, ◌∙◌}
use lib.Dec.{eqb}
use lib.ListN.{length}
use borrow.Author.Tests.{eqb-true}
use Rattle.laws.specs.Pick.{and_left}
use Rattle.codes.specs.Refusals.{is_done}
use Rattle.codes.proofs.Parts.{size_most}
use Rattle.chip.specs.Lents.{lent}
use Rattle.chip.specs.Records.{own_part}
use Rattle.timed_frames.proofs.Whole.{placed, misplaced, misplaced_not, turned_away}
use Rattle.timed_frames.proofs.scheduled.Goals as goal

pub returns-then-not-places_fit : goal.returns-then-not-places_fit
returns-then-not-places_fit c =
    let a = c.args in
    let P = own_part a.core in
    let m = lent a.memory.now a.identification.now in
    let e = sym c.places_fit.ensures ∙ c.if-not-places_fit.true in
    let f = c.frame.ensures in
    turned_away P a.core m a.w a.mode a.bytes.now a.bits a.positions.now a.readings.now a.out.now 18446744073709551615
    (misplaced P a.core m a.bytes.now a.bits a.positions.now a.readings.now (length a.out.now) e (size_most a.core.part))
    (misplaced_not P a.core m a.bytes.now a.bits a.positions.now a.readings.now (length a.out.now) e) f.value f.out_after

pub returns-then-not-frame_fits : goal.returns-then-not-frame_fits
returns-then-not-frame_fits c =
    let a = c.args in
    let P = own_part a.core in
    let m = lent a.memory.now a.identification.now in
    let e = sym c.places_fit.ensures ∙ c.if-not-places_fit.false in
    let f = c.frame-then-not-frame_fits.ensures in
    let plain = placed P a.core m a.bytes.now a.bits a.positions.now a.readings.now (length a.out.now) e in
    let away = c.frame_fits.ensures.1 c.if-not-frame_fits.true in
    turned_away P a.core m a.w a.mode a.bytes.now a.bits a.positions.now a.readings.now a.out.now a.bits
    (sym plain) (ap is_done plain ∙ away) f.value f.out_after

-- lists that fit are of one length
pub invariant_of-schedule : goal.invariant_of-schedule
invariant_of-schedule c =
    let a = c.args in
    let ps = a.positions.now in
    let ts = a.readings.now in
    let placed = sym c.places_fit.ensures ∙ c.if-not-places_fit.false in
    record { same = eqb-true (length ps) (length ts) (and_left (eqb (length ps) (length ts)) _ placed) }

pub carried_out-requires : goal.carried_out-requires
carried_out-requires c =
    record {
      readings_value = sym c.places_fit.ensures ∙ c.if-not-places_fit.false;
      out_value = c.frame_fits.ensures.0 c.if-not-frame_fits.false;
    }

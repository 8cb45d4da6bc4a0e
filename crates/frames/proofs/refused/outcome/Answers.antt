use Rattle.std.proofs.Common.{refl}
use Rattle.std.proofs.lemmas.Result.{err_from_is_err_and}
use Rattle.laws.specs.Pick.{call_yes, call_no, eq_so, ne_so}
use Rattle.chip.specs.Records.{own_part}
use Rattle.frames.proofs.Outcomes.{kept_out, past_admitted}
use Rattle.frames.proofs.refused.outcome.Goals as goal

pub returns-in_err-admitted : goal.returns-in_err-admitted
returns-in_err-admitted c =
    let p = err_from_is_err_and c.from_residual.result c.from_residual.ensures.1 in
    rw (p.1, p.2) (kept_out (own_part c.args.core) c.args.core c.args.size c.args.cells c.admitted.ensures _ c.in_err-admitted.was)

pub returns-then-not-length_fits : goal.returns-then-not-length_fits
returns-then-not-length_fits c =
    past_admitted (own_part c.args.core) c.args.core c.args.size c.args.cells c.admitted.ensures c.in_ok-admitted.was
    (call_no _ c.length_fits.ensures c.if-not-length_fits.true refl)

pub returns-then-not-bits_fit : goal.returns-then-not-bits_fit
returns-then-not-bits_fit c =
    past_admitted (own_part c.args.core) c.args.core c.args.size c.args.cells c.admitted.ensures c.in_ok-admitted.was
    (call_yes _ c.length_fits.ensures c.if-not-length_fits.false (call_no _ c.bits_fit.ensures c.if-not-bits_fit.true refl))

pub returns-then-room-len : goal.returns-then-room-len
returns-then-room-len c =
    past_admitted (own_part c.args.core) c.args.core c.args.size c.args.cells c.admitted.ensures c.in_ok-admitted.was
    (call_yes _ c.length_fits.ensures c.if-not-length_fits.false
    (call_yes _ c.bits_fit.ensures c.if-not-bits_fit.false (ne_so _ c.if-room-len.true refl)))

pub returns : goal.returns
returns c =
    past_admitted (own_part c.args.core) c.args.core c.args.size c.args.cells c.admitted.ensures c.in_ok-admitted.was
    (call_yes _ c.length_fits.ensures c.if-not-length_fits.false
    (call_yes _ c.bits_fit.ensures c.if-not-bits_fit.false (eq_so _ c.if-room-len.false refl)))

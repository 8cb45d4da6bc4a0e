use Rattle.std.proofs.Common.{refl}
use Rattle.std.proofs.lemmas.Result.{err_from_is_err_and}
use Rattle.laws.specs.Pick.{call_yes, call_no}
use Rattle.chip.specs.Records.{own_part}
use Rattle.frames.proofs.Outcomes.{kept_out, past_admitted}
use Rattle.driver.proofs.refused.outcome.Goals as goal

pub returns-in_err-admitted : goal.returns-in_err-admitted
returns-in_err-admitted c =
    let p = err_from_is_err_and c.from_residual.result c.from_residual.ensures.1 in
    rw (p.1, p.2) (kept_out (own_part c.args.core) c.args.core c.args.size c.args.cells c.admitted.ensures _ c.in_err-admitted.was)

pub returns-then-not-run_fits : goal.returns-then-not-run_fits
returns-then-not-run_fits c =
    past_admitted (own_part c.args.core) c.args.core c.args.size c.args.cells c.admitted.ensures c.in_ok-admitted.was
    (call_no _ c.run_fits.ensures c.if-not-run_fits.true refl)

pub returns-then-not-polls_fit : goal.returns-then-not-polls_fit
returns-then-not-polls_fit c =
    past_admitted (own_part c.args.core) c.args.core c.args.size c.args.cells c.admitted.ensures c.in_ok-admitted.was
    (call_yes _ c.run_fits.ensures c.if-not-run_fits.false (call_no _ c.polls_fit.ensures c.if-not-polls_fit.true refl))

pub returns : goal.returns
returns c =
    past_admitted (own_part c.args.core) c.args.core c.args.size c.args.cells c.admitted.ensures c.in_ok-admitted.was
    (call_yes _ c.run_fits.ensures c.if-not-run_fits.false (call_yes _ c.polls_fit.ensures c.if-not-polls_fit.false refl))

-- What the record's tests answer, then by the side of the choice that the last test takes.
use mathlib.Core.Path.{refl, sym, ◌∙◌}
use Rattle.std.proofs.lemmas.Result.{err_from_is_err_and}
use Rattle.laws.specs.Pick.{yes_so, no_so}
use Rattle.intel_hex.proofs.Refusing.{record_ok, record_err}
use Rattle.intel_hex.proofs.public.check_image.Goals as goal

pub returns-in_err-check_record : goal.returns-in_err-check_record
returns-in_err-check_record c =
    let p = err_from_is_err_and c.from_residual.result c.from_residual.ensures.1 in
    rw (p.1, p.2) (record_err _ _ _ _ c.in_err-check_record.ensures)

pub returns-then-not-imaged : goal.returns-then-not-imaged
returns-then-not-imaged c =
    let t = record_ok _ _ _ c.in_ok-check_record.ensures in
    yes_so _ t.0 (yes_so _ t.1 (no_so _ (sym c.imaged.ensures ∙ c.if-not-imaged.true) refl))

pub returns : goal.returns
returns c =
    let t = record_ok _ _ _ c.in_ok-check_record.ensures in
    yes_so _ t.0 (yes_so _ t.1 (yes_so _ (sym c.imaged.ensures ∙ c.if-not-imaged.false) refl))

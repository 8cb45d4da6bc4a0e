-- The code's test is that of the M95M01's page, which is all the room.
use mathlib.Core.Bool.{true, false}
use mathlib.Core.Path.{◌≡◌, refl, ◌∙◌}
use Rattle.std.proofs.Common.{rules, tests}
use Rattle.laws.specs.Pick.{call_yes, call_no}
use Rattle.laying.proofs.Answering.{laid_answered}
use Rattle.laying.proofs.Laying.{room_fits_law}
use Rattle.laying.proofs.lay.Goals as goal
use Rattle.laying.proofs.lay.Goals.{then-not-fits-via-then-not-fits, then-not-fits-via-else-not-fits+then-not-fits-2}

pub returns-then-not-fits : goal.returns-then-not-fits
returns-then-not-fits c =
    let a = c.args in
    laid_answered a.earlier a.later (elim c.then-not-fits.branch [
      | then-not-fits-via-then-not-fits w ↦
          let no : c.fits.result ≡ false = search (rules, tests) in
          call_no _ (c.fits.ensures ∙ room_fits_law a.earlier) no refl
      | then-not-fits-via-else-not-fits+then-not-fits-2 w ↦
          let yes : c.fits.result ≡ true = search (rules, tests) in
          let no : w.fits-else-not-fits.result ≡ false = search (rules, tests) in
          call_yes _ (c.fits.ensures ∙ room_fits_law a.earlier) yes
          (call_no _ (w.fits-else-not-fits.ensures ∙ room_fits_law a.later) no refl)
    ])

pub returns : goal.returns
returns c =
    let a = c.args in
    let one : c.fits.result ≡ true = search (rules, tests) in
    let two : c.fits-else-not-fits.result ≡ true = search (rules, tests) in
    laid_answered a.earlier a.later
    (call_yes _ (c.fits.ensures ∙ room_fits_law a.earlier) one
    (call_yes _ (c.fits-else-not-fits.ensures ∙ room_fits_law a.later) two (rw c.over.ensures)))

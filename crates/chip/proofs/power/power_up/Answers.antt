use Rattle.std.proofs.Common.{◌≤◌, length, sym, refl, ◌∙◌, arith}
use Rattle.laws.specs.Pick.{eq_so, ne_so, call_yes, call_no}
use Rattle.codes.specs.Part.{room_cells}
use Rattle.blanks.proofs.Blanking.{blanks_of_law}
use Rattle.chip.proofs.Numbers.{powered}
use Rattle.chip.proofs.power.power_up.Goals as goal

pub returns-then-memory-size_of : goal.returns-then-memory-size_of
returns-then-memory-size_of c =
    let a = c.args in
    powered a.part a.lock a.cycle a.srwd a.bp1 a.bp0 a.reading a.memory.now
    (ne_so _ (λ e. c.if-memory-size_of.true (e ∙ sym c.size_of.ensures.value)) c.not_powered.ensures)

pub returns-then-not-is_part : goal.returns-then-not-is_part
returns-then-not-is_part c =
    let a = c.args in
    powered a.part a.lock a.cycle a.srwd a.bp1 a.bp0 a.reading a.memory.now
    (eq_so _ (c.if-memory-size_of.false ∙ c.size_of.ensures.value)
    (call_no _ c.is_part.ensures c.if-not-is_part.true c.not_powered-then-not-is_part.ensures))

pub returns-then-not-cycle_fits : goal.returns-then-not-cycle_fits
returns-then-not-cycle_fits c =
    let a = c.args in
    powered a.part a.lock a.cycle a.srwd a.bp1 a.bp0 a.reading a.memory.now
    (eq_so _ (c.if-memory-size_of.false ∙ c.size_of.ensures.value)
    (call_yes _ c.is_part.ensures c.if-not-is_part.false
    (call_no _ c.cycle_fits.ensures c.if-not-cycle_fits.true c.not_powered-then-not-cycle_fits.ensures)))

pub returns : goal.returns
returns c =
    let a = c.args in
    let long = c.if-memory-size_of.false in
    let size = c.size_of.ensures in
    let fits : length a.memory.now ≤ room_cells = omega (arith, long, size.lower_bound.1) in
    let scanned = c.blanks.ensures ∙ blanks_of_law a.memory.now fits in
    powered a.part a.lock a.cycle a.srwd a.bp1 a.bp0 a.reading a.memory.now
    (eq_so _ (long ∙ size.value)
    (call_yes _ c.is_part.ensures c.if-not-is_part.false
    (call_yes _ c.cycle_fits.ensures c.if-not-cycle_fits.false (rw (c.idle.ensures, scanned) refl))))

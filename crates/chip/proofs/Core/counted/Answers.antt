use Rattle.std.proofs.Common.{ℕ, ◌≤◌, length, sym, refl, ap, ◌∙◌, arith}
use Rattle.laws.specs.Pick.{eq_so, ne_so}
use Rattle.codes.specs.Part.{room_cells}
use Rattle.blanks.proofs.Blanking.{blanks_of_law}
use Rattle.chip.specs.Records.{with_blank}
use Rattle.chip.proofs.Core.counted.Goals as goal

pub returns-then-memory-size_of : goal.returns-then-memory-size_of
returns-then-memory-size_of c =
    let a = c.args in
    let long = c.if-memory-size_of.true in
    let size = c.size_of.ensures in
    let fits : length a.memory.now ≤ room_cells = omega (arith, long, size.lower_bound.1) in
    eq_so _ (long ∙ size.value)
    (c.with_blank.ensures ∙ ap (λ (n : ℕ). with_blank n a.self) (c.blanks.ensures ∙ blanks_of_law a.memory.now fits))

pub returns : goal.returns
returns c = ne_so _ (λ e. c.if-memory-size_of.false (e ∙ sym c.size_of.ensures.value)) refl

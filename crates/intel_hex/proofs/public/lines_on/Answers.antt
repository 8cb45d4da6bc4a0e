use mathlib.Core.Path.{◌≡◌, refl, sym, ◌∙◌}
use native.Mathlib.Omega.{arith}
use lib.ListN.{take}
use Rattle.laws.specs.Pick.{yes_so, no_so}
use Rattle.intel_hex.specs.Writing.{end_line}
use Rattle.intel_hex.specs.Reading.{same_bytes}
use Rattle.intel_hex.proofs.Same.{same_front}
use Rattle.intel_hex.proofs.public.lines_on.Goals as goal

pub returns-then-starts_with : goal.returns-then-starts_with
unfolding end_line
returns-then-starts_with c =
    let test : c.starts_with.result ≡ same_bytes (take 12 c.args.rest.now) end_line = c.starts_with.ensures.value ∙ same_front (take 12 c.args.rest.now) end_line in
    (yes_so _ (sym test ∙ c.if-starts_with.true) refl, omega arith)

pub returns-else-starts_with : goal.returns-else-starts_with
unfolding end_line
returns-else-starts_with c =
    let test : c.starts_with.result ≡ same_bytes (take 12 c.args.rest.now) end_line = c.starts_with.ensures.value ∙ same_front (take 12 c.args.rest.now) end_line in
    (no_so _ (sym test ∙ c.if-starts_with.false) refl, omega arith)

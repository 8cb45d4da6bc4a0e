-- The bytes of the literal are the closing line's.
use mathlib.Core.Path.{◌∙◌}
use Rattle.intel_hex.specs.Writing.{end_line}
use Rattle.intel_hex.proofs.Same.{same_eq}
use Rattle.intel_hex.proofs.reading.is_end.Goals as goal

pub returns : goal.returns
unfolding end_line
returns c =
    let e = rw c.as_slice.ensures at c.eq.ensures in
    e ∙ same_eq c.args.text.now end_line

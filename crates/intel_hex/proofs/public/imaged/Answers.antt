-- The M95512's size is that of the row of its number.
use mathlib.Core.Path.{ap}
use lib.Dec.{eqb}
use Rattle.codes.specs.Part.{Part, part_of}
use Rattle.codes.proofs.Parts.{row_plain}
use Rattle.intel_hex.proofs.public.imaged.Goals as goal

pub returns : goal.returns
returns c =
    let own = part_of c.args.part in
    rw (c.size_of.ensures.value, c.size_of-2.ensures.value) (ap (λ (P : Part). eqb own.size P.size) row_plain)

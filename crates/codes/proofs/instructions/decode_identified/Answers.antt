use Rattle.laws.specs.Pick.{arms}
use Rattle.codes.proofs.instructions.decode_identified.Goals as goal

pub returns-then-code-identified : goal.returns-then-code-identified
returns-then-code-identified c = search arms

pub returns-then-code-identified-2 : goal.returns-then-code-identified-2
returns-then-code-identified-2 c = search arms

pub returns : goal.returns
returns c = search arms

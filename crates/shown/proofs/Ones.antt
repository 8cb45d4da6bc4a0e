-- The undriven count allows one result, the output one content.
use Rattle.laws.specs.One.{OneResult, OneExit, same}
use Rattle.shown.proofs.leading.undriven.Kinds as undriven
use Rattle.shown.proofs.leading.undriven.Reads as undriven-reads
use Rattle.shown.proofs.output.show.Kinds as show
use Rattle.shown.proofs.output.show.Reads as show-reads

pub undriven_one : OneResult undriven.ps undriven.r undriven-reads.Post
undriven_one κs a z z' e e' p q = same p q

pub show_output : OneExit show.ps show.r show-reads.Post (λ κs e. e.1.1.1.1.1.1.1.1.0.now)
show_output κs a z z' e e' p q = same p q

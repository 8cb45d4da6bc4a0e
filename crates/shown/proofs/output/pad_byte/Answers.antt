use Rattle.shown.proofs.Padding.{one_bit, padded_or}
use Rattle.shown.proofs.output.pad_byte.Goals as goal

pub returns : goal.returns
returns c = rw (one_bit c.args.unused c.requires) (padded_or c.args.unused c.args.byte)

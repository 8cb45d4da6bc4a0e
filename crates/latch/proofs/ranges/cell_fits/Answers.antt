use Rattle.latch.proofs.WordRanges.{cell_read}
use Rattle.latch.proofs.ranges.cell_fits.Goals as goal

pub returns : goal.returns
returns c = cell_read c.args.may c.args.word c.args.place c.args.byte

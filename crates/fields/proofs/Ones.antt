-- Each call allows one result, and one content of what it is lent to write.
use Rattle.laws.specs.One.{OneResult, OneExit, same}
use Rattle.fields.proofs.fields.byte_at.Kinds as byte_at
use Rattle.fields.proofs.fields.byte_at.Reads as byte-at-reads
use Rattle.fields.proofs.fields.instruction_of.Kinds as instruction-of
use Rattle.fields.proofs.fields.instruction_of.Reads as instruction-of-reads
use Rattle.fields.proofs.counts.length_fits.Kinds as length-fits
use Rattle.fields.proofs.counts.length_fits.Reads as length-fits-reads
use Rattle.fields.proofs.fields.address_of.Kinds as address-of
use Rattle.fields.proofs.fields.address_of.Reads as address-of-reads
use Rattle.fields.proofs.fields.latch_of.Kinds as latch-of
use Rattle.fields.proofs.fields.latch_of.Reads as latch-of-reads
use Rattle.fields.proofs.fields.latch_part.Kinds as latch-part
use Rattle.fields.proofs.fields.latch_part.Reads as latch-part-reads
use Rattle.fields.proofs.counts.bits_fit.Kinds as bits_fit
use Rattle.fields.proofs.counts.bits_fit.Reads as bits-fit-reads
use Rattle.fields.proofs.runs.at_most.Kinds as at_most
use Rattle.fields.proofs.runs.at_most.Reads as at-most-reads
use Rattle.fields.proofs.runs.fill.Kinds as fill
use Rattle.fields.proofs.runs.fill.Reads as fill-reads

pub byte_at_one : OneResult byte_at.ps byte_at.r byte-at-reads.Post
byte_at_one κs a z z' e e' p q = same p q

pub instruction_of_one : OneResult instruction-of.ps instruction-of.r instruction-of-reads.Post
instruction_of_one κs a z z' e e' p q = same p q

pub length_fits_one : OneResult length-fits.ps length-fits.r length-fits-reads.Post
length_fits_one κs a z z' e e' p q = same p q

pub address_of_one : OneResult address-of.ps address-of.r address-of-reads.Post
address_of_one κs a z z' e e' p q = same p.0 q.0

pub latch_of_one : OneResult latch-of.ps latch-of.r latch-of-reads.Post
latch_of_one κs a z z' e e' p q = same p q

pub latch_part_one : OneResult latch-part.ps latch-part.r latch-part-reads.Post
latch_part_one κs a z z' e e' p q = same p q

pub bits_fit_one : OneResult bits_fit.ps bits_fit.r bits-fit-reads.Post
bits_fit_one κs a z z' e e' p q = same p q

pub at_most_one : OneResult at_most.ps at_most.r at-most-reads.Post
at_most_one κs a z z' e e' p q = same p q

pub fill_output : OneExit fill.ps fill.r fill-reads.Post (λ κs e. e.0.now)
fill_output κs a z z' e e' p q = same p q

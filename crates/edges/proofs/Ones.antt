-- Each call allows one result, and one content of what it is lent to write.
use Rattle.laws.specs.One.{OneResult, same}
use Rattle.edges.proofs.falling.outputs.Kinds as outputs
use Rattle.edges.proofs.falling.outputs.Reads as outputs-reads
use Rattle.edges.proofs.falling.cell.Kinds as cell
use Rattle.edges.proofs.falling.cell.Reads as cell-reads
use Rattle.edges.proofs.falling.one_up.Kinds as one_up
use Rattle.edges.proofs.falling.one_up.Reads as one-up-reads
use Rattle.edges.proofs.Frame.loading.Kinds as frame-loading
use Rattle.edges.proofs.Frame.loading.Reads as frame-loading-reads
use Rattle.edges.proofs.Level.number.Kinds as level-number
use Rattle.edges.proofs.Level.number.Reads as level-number-reads
use Rattle.edges.proofs.falling.level_of.Kinds as level-of
use Rattle.edges.proofs.falling.level_of.Reads as level-of-reads
use Rattle.edges.proofs.Frame.fits.Kinds as frame-fits
use Rattle.edges.proofs.Frame.fits.Reads as frame-fits-reads
use Rattle.edges.proofs.Frame.none.Kinds as frame-none
use Rattle.edges.proofs.Frame.none.Reads as frame-none-reads
use Rattle.edges.proofs.records.one_more.Kinds as one_more
use Rattle.edges.proofs.records.one_more.Reads as one-more-reads
use Rattle.edges.proofs.records.bit.Kinds as bit
use Rattle.edges.proofs.records.bit.Reads as bit-reads
use Rattle.edges.proofs.rising.address_with.Kinds as address-with
use Rattle.edges.proofs.rising.address_with.Reads as address-with-reads
use Rattle.edges.proofs.rising.next_address.Kinds as Next-address
use Rattle.edges.proofs.rising.next_address.Reads as next-address-reads
use Rattle.edges.proofs.rising.shifted_in.Kinds as shifted_in
use Rattle.edges.proofs.rising.shifted_in.Reads as shifted-in-reads
use Rattle.edges.proofs.Frame.whole_byte.Kinds as frame-whole-byte
use Rattle.edges.proofs.Frame.whole_byte.Reads as frame-whole-byte-reads

pub outputs_one : OneResult outputs.ps outputs.r outputs-reads.Post
outputs_one κs a z z' e e' p q = same p q

pub cell_one : OneResult cell.ps cell.r cell-reads.Post
cell_one κs a z z' e e' p q = same p q

pub one_up_one : OneResult one_up.ps one_up.r one-up-reads.Post
one_up_one κs a z z' e e' p q = same p q

pub frame_loading_one : OneResult frame-loading.ps frame-loading.r frame-loading-reads.Post
frame_loading_one κs a z z' e e' p q = same p q

pub level_number_one : OneResult level-number.ps level-number.r level-number-reads.Post
level_number_one κs a z z' e e' p q = same p q

pub level_of_one : OneResult level-of.ps level-of.r level-of-reads.Post
level_of_one κs a z z' e e' p q = same p q

pub frame_fits_one : OneResult frame-fits.ps frame-fits.r frame-fits-reads.Post
frame_fits_one κs a z z' e e' p q = same p q

pub frame_none_one : OneResult frame-none.ps frame-none.r frame-none-reads.Post
frame_none_one κs a z z' e e' p q = same p q

pub one_more_one : OneResult one_more.ps one_more.r one-more-reads.Post
one_more_one κs a z z' e e' p q = same p q

pub bit_one : OneResult bit.ps bit.r bit-reads.Post
bit_one κs a z z' e e' p q = same p q

pub address_with_one : OneResult address-with.ps address-with.r address-with-reads.Post
address_with_one κs a z z' e e' p q = same p q

pub next_address_one : OneResult Next-address.ps Next-address.r next-address-reads.Post
next_address_one κs a z z' e e' p q = same p q

pub shifted_in_one : OneResult shifted_in.ps shifted_in.r shifted-in-reads.Post
shifted_in_one κs a z z' e e' p q = same p q

pub frame_whole_byte_one : OneResult frame-whole-byte.ps frame-whole-byte.r frame-whole-byte-reads.Post
frame_whole_byte_one κs a z z' e e' p q = same p q

-- Each call allows one result, and one content of what it is lent to write.
use Rattle.laws.specs.One.{OneResult, OneExit, same}
use Rattle.latch.proofs.Latch.none.Kinds as latch-none
use Rattle.latch.proofs.Latch.none.Reads as latch-none-reads
use Rattle.latch.proofs.Latch.with.Kinds as latch-with
use Rattle.latch.proofs.Latch.with.Reads as latch-with-reads
use Rattle.latch.proofs.Latch.touched.Kinds as latch-touched
use Rattle.latch.proofs.Latch.touched.Reads as latch-touched-reads
use Rattle.latch.proofs.Latch.fits.Kinds as latch-fits
use Rattle.latch.proofs.Latch.fits.Reads as latch-fits-reads
use Rattle.latch.proofs.Latch.store.Kinds as latch-store
use Rattle.latch.proofs.Latch.store.Reads as latch-store-reads
use Rattle.latch.proofs.pages.cell_of.Kinds as cell-of
use Rattle.latch.proofs.pages.cell_of.Reads as cell-of-reads
use Rattle.latch.proofs.pages.latch_byte.Kinds as latch-byte
use Rattle.latch.proofs.pages.latch_byte.Reads as latch-byte-reads
use Rattle.latch.proofs.pages.next_cell.Kinds as next-cell
use Rattle.latch.proofs.pages.next_cell.Reads as next-cell-reads
use Rattle.latch.proofs.words.run_marks.Kinds as run-marks
use Rattle.latch.proofs.words.run_marks.Reads as run-marks-reads
use Rattle.latch.proofs.words.run_word.Kinds as run-word
use Rattle.latch.proofs.words.run_word.Reads as run-word-reads

pub latch_none_one : OneResult latch-none.ps latch-none.r latch-none-reads.Post
latch_none_one κs a z z' e e' p q = same p q

pub latch_with_one : OneResult latch-with.ps latch-with.r latch-with-reads.Post
latch_with_one κs a z z' e e' p q = same p q

pub latch_touched_one : OneResult latch-touched.ps latch-touched.r latch-touched-reads.Post
latch_touched_one κs a z z' e e' p q = same p.0 q.0

pub latch_fits_one : OneResult latch-fits.ps latch-fits.r latch-fits-reads.Post
latch_fits_one κs a z z' e e' p q = same p q

pub latch_store_memory : OneExit latch-store.ps latch-store.r latch-store-reads.Post (λ κs e. e.1.1.1.0.now)
latch_store_memory κs a z z' e e' p q = same p q

pub cell_of_one : OneResult cell-of.ps cell-of.r cell-of-reads.Post
cell_of_one κs a z z' e e' p q = same p.0 q.0

pub latch_byte_bytes : OneExit latch-byte.ps latch-byte.r latch-byte-reads.Post (λ κs e. e.1.0.now)
latch_byte_bytes κs a z z' e e' p q = same p.0 q.0

pub latch_byte_marks : OneExit latch-byte.ps latch-byte.r latch-byte-reads.Post (λ κs e. e.1.1.0.now)
latch_byte_marks κs a z z' e e' p q = same p.1 q.1

pub next_cell_one : OneResult next-cell.ps next-cell.r next-cell-reads.Post
next_cell_one κs a z z' e e' p q = same p.0 q.0

pub run_marks_one : OneResult run-marks.ps run-marks.r run-marks-reads.Post
run_marks_one κs a z z' e e' p q = same p q

pub run_word_one : OneResult run-word.ps run-word.r run-word-reads.Post
run_word_one κs a z z' e e' p q = same p q

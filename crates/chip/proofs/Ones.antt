-- Each public call allows one result, and one memory where it is lent one.
use Rattle.laws.specs.One.{OneResult, OneExit, same}
use Rattle.chip.proofs.Core.in_ranges.Kinds as in-ranges
use Rattle.chip.proofs.Core.in_ranges.Reads as in-ranges-reads
use Rattle.chip.proofs.Core.protected_from.Kinds as protected-from
use Rattle.chip.proofs.Core.protected_from.Reads as protected-from-reads
use Rattle.chip.proofs.Core.cells_touched.Kinds as cells-touched
use Rattle.chip.proofs.Core.cells_touched.Reads as cells-touched-reads
use Rattle.chip.proofs.Core.touched.Kinds as core-touched
use Rattle.chip.proofs.Core.touched.Reads as core-touched-reads
use Rattle.chip.proofs.Core.protection.Kinds as protection
use Rattle.chip.proofs.Core.protection.Reads as protection-reads
use Rattle.chip.proofs.power.power_up.Kinds as power-up
use Rattle.chip.proofs.power.power_up.Reads as power-up-reads
use Rattle.chip.proofs.time.lent_fits.Kinds as lent_fits
use Rattle.chip.proofs.time.lent_fits.Reads as lent-fits-reads
use Rattle.chip.proofs.time.clock_reading.Kinds as clock-reading
use Rattle.chip.proofs.time.clock_reading.Reads as clock-reading-reads
use Rattle.chip.proofs.Core.with_wel.Kinds as core-with-wel
use Rattle.chip.proofs.Core.with_wel.Reads as core-with-wel-reads
use Rattle.chip.proofs.Core.begin_status.Kinds as core-begin-status
use Rattle.chip.proofs.Core.begin_status.Reads as core-begin-status-reads
use Rattle.chip.proofs.Core.begin_page.Kinds as core-begin-page
use Rattle.chip.proofs.Core.begin_page.Reads as core-begin-page-reads
use Rattle.chip.proofs.Core.begin_identification.Kinds as core-begin-identification
use Rattle.chip.proofs.Core.begin_identification.Reads as core-begin-identification-reads
use Rattle.chip.proofs.Core.delivered.Kinds as core-delivered
use Rattle.chip.proofs.Core.delivered.Reads as core-delivered-reads
use Rattle.chip.proofs.Core.unpowered.Kinds as core-unpowered
use Rattle.chip.proofs.Core.unpowered.Reads as core-unpowered-reads
use Rattle.chip.proofs.Core.counted.Kinds as core-counted
use Rattle.chip.proofs.Core.counted.Reads as core-counted-reads
use Rattle.chip.proofs.Core.lowest.Kinds as core-lowest
use Rattle.chip.proofs.Core.lowest.Reads as core-lowest-reads
use Rattle.chip.proofs.Core.protects.Kinds as core-protects
use Rattle.chip.proofs.Core.protects.Reads as core-protects-reads
use Rattle.chip.proofs.Core.barred.Kinds as core-barred
use Rattle.chip.proofs.Core.barred.Reads as core-barred-reads
use Rattle.chip.proofs.ranges.cycle_fits.Kinds as cycle-fits
use Rattle.chip.proofs.ranges.cycle_fits.Reads as cycle-fits-reads
use Rattle.chip.proofs.Core.running.Kinds as core-running
use Rattle.chip.proofs.Core.running.Reads as core-running-reads
use Rattle.chip.proofs.Core.status.Kinds as core-status
use Rattle.chip.proofs.Core.status.Reads as core-status-reads
use Rattle.chip.proofs.Core.lock_byte.Kinds as core-lock-byte
use Rattle.chip.proofs.Core.lock_byte.Reads as core-lock-byte-reads
use Rattle.chip.proofs.Core.with_time.Kinds as core-with-time
use Rattle.chip.proofs.Core.without_cycle.Kinds as core-without-cycle
use Rattle.chip.proofs.Core.without_cycle.Reads as core-without-cycle-reads
use Rattle.chip.proofs.Core.with_time.Reads as core-with-time-reads
use Rattle.chip.proofs.Core.ends.Kinds as core-ends
use Rattle.chip.proofs.Core.ends.Reads as core-ends-reads
use Rattle.chip.proofs.time.left_after.Kinds as left_After
use Rattle.chip.proofs.time.left_after.Reads as left-after-reads
use Rattle.chip.proofs.time.elapsed.Kinds as elapsed
use Rattle.chip.proofs.time.elapsed.Reads as elapsed-reads
use Rattle.chip.proofs.Waiting.nothing.Kinds as waiting-nothing
use Rattle.chip.proofs.Waiting.nothing.Reads as waiting-nothing-reads
use Rattle.chip.proofs.Waiting.has.Kinds as waiting-has
use Rattle.chip.proofs.Waiting.has.Reads as waiting-has-reads
use Rattle.chip.proofs.Core.checked.Kinds as core-checked
use Rattle.chip.proofs.Core.checked.Reads as core-checked-reads
use Rattle.chip.proofs.Core.admitted.Kinds as core-admitted
use Rattle.chip.proofs.Core.admitted.Reads as core-admitted-reads
use Rattle.chip.proofs.Core.timed.Kinds as core-timed
use Rattle.chip.proofs.Core.timed.Reads as core-timed-reads

pub power_up_one : OneResult power-up.ps power-up.r power-up-reads.Post
power_up_one κs a z z' e e' p q = same p.0 q.0

pub clock_reading_one : OneResult clock-reading.ps clock-reading.r clock-reading-reads.Post
clock_reading_one κs a z z' e e' p q = same p.0 q.0

pub clock_reading_memory : OneExit clock-reading.ps clock-reading.r clock-reading-reads.Post (λ κs e. e.1.1.0.now)
clock_reading_memory κs a z z' e e' p q = same p.1.1.0 q.1.1.0

pub clock_reading_identification : OneExit clock-reading.ps clock-reading.r clock-reading-reads.Post (λ κs e. e.1.1.1.0.now)
clock_reading_identification κs a z z' e e' p q = same p.1.1.1 q.1.1.1

pub in_ranges_one : OneResult in-ranges.ps in-ranges.r in-ranges-reads.Post
in_ranges_one κs a z z' e e' p q = same p q

pub protected_from_one : OneResult protected-from.ps protected-from.r protected-from-reads.Post
protected_from_one κs a z z' e e' p q = same p.0 q.0

pub protection_one : OneResult protection.ps protection.r protection-reads.Post
protection_one κs a z z' e e' p q = same p.0 q.0

-- ---- inner calls

pub cells_touched_one : OneResult cells-touched.ps cells-touched.r cells-touched-reads.Post
cells_touched_one κs a z z' e e' p q = same p.0 q.0

pub core_touched_one : OneResult core-touched.ps core-touched.r core-touched-reads.Post
core_touched_one κs a z z' e e' p q = same p.0 q.0

pub core_with_wel_one : OneResult core-with-wel.ps core-with-wel.r core-with-wel-reads.Post
core_with_wel_one κs a z z' e e' p q = same p q

pub core_begin_status_one : OneResult core-begin-status.ps core-begin-status.r core-begin-status-reads.Post
core_begin_status_one κs a z z' e e' p q = same p q

pub core_begin_page_one : OneResult core-begin-page.ps core-begin-page.r core-begin-page-reads.Post
core_begin_page_one κs a z z' e e' p q = same p q

pub core_begin_identification_one : OneResult core-begin-identification.ps core-begin-identification.r core-begin-identification-reads.Post
core_begin_identification_one κs a z z' e e' p q = same p q

pub core_delivered_one : OneResult core-delivered.ps core-delivered.r core-delivered-reads.Post
core_delivered_one κs a z z' e e' p q = same p q

pub core_unpowered_one : OneResult core-unpowered.ps core-unpowered.r core-unpowered-reads.Post
core_unpowered_one κs a z z' e e' p q = same p q

pub core_counted_one : OneResult core-counted.ps core-counted.r core-counted-reads.Post
core_counted_one κs a z z' e e' p q = same p q

pub core_lowest_one : OneResult core-lowest.ps core-lowest.r core-lowest-reads.Post
core_lowest_one κs a z z' e e' p q = same p q

pub core_protects_one : OneResult core-protects.ps core-protects.r core-protects-reads.Post
core_protects_one κs a z z' e e' p q = same p q

pub core_barred_one : OneResult core-barred.ps core-barred.r core-barred-reads.Post
core_barred_one κs a z z' e e' p q = same p q

pub cycle_fits_one : OneResult cycle-fits.ps cycle-fits.r cycle-fits-reads.Post
cycle_fits_one κs a z z' e e' p q = same p q

pub core_running_one : OneResult core-running.ps core-running.r core-running-reads.Post
core_running_one κs a z z' e e' p q = same p q

pub core_status_one : OneResult core-status.ps core-status.r core-status-reads.Post
core_status_one κs a z z' e e' p q = same p q

pub core_lock_byte_one : OneResult core-lock-byte.ps core-lock-byte.r core-lock-byte-reads.Post
core_lock_byte_one κs a z z' e e' p q = same p q

pub core_with_time_one : OneResult core-with-time.ps core-with-time.r core-with-time-reads.Post
core_with_time_one κs a z z' e e' p q = same p q

pub core_without_cycle_one : OneResult core-without-cycle.ps core-without-cycle.r core-without-cycle-reads.Post
core_without_cycle_one κs a z z' e e' p q = same p q

pub core_ends_one : OneResult core-ends.ps core-ends.r core-ends-reads.Post
core_ends_one κs a z z' e e' p q = same p q

pub left_after_one : OneResult left_After.ps left_After.r left-after-reads.Post
left_after_one κs a z z' e e' p q = same p q

pub elapsed_one : OneResult elapsed.ps elapsed.r elapsed-reads.Post
elapsed_one κs a z z' e e' p q = same p q

pub waiting_nothing_one : OneResult waiting-nothing.ps waiting-nothing.r waiting-nothing-reads.Post
waiting_nothing_one κs a z z' e e' p q = same p q

pub lent_fits_one : OneResult lent_fits.ps lent_fits.r lent-fits-reads.Post
lent_fits_one κs a z z' e e' p q = same p q

pub core_timed_one : OneResult core-timed.ps core-timed.r core-timed-reads.Post
core_timed_one κs a z z' e e' p q = same p.0 q.0

pub core_timed_memory : OneExit core-timed.ps core-timed.r core-timed-reads.Post (λ κs e. e.1.1.0.now)
core_timed_memory κs a z z' e e' p q = same p.1.0 q.1.0

pub core_timed_identification : OneExit core-timed.ps core-timed.r core-timed-reads.Post (λ κs e. e.1.1.1.0.now)
core_timed_identification κs a z z' e e' p q = same p.1.1 q.1.1

pub waiting_has_one : OneResult waiting-has.ps waiting-has.r waiting-has-reads.Post
waiting_has_one κs a z z' e e' p q = same p q

pub core_checked_one : OneResult core-checked.ps core-checked.r core-checked-reads.Post
core_checked_one κs a z z' e e' p q = same p q

pub core_admitted_one : OneResult core-admitted.ps core-admitted.r core-admitted-reads.Post
core_admitted_one κs a z z' e e' p q = same p q

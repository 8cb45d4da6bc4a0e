-- Each export allows one result, and one content of what is lent to it.
use Rattle.laws.specs.One.{OneResult, OneExit, same}
use Rattle.bench_c.proofs.core_calls.cartvesper_power_up.Kinds as power-up
use Rattle.bench_c.proofs.core_calls.cartvesper_power_up.Reads as power-up-reads
use Rattle.bench_c.proofs.core_calls.cartvesper_core_in_ranges.Kinds as core-in-ranges
use Rattle.bench_c.proofs.core_calls.cartvesper_core_in_ranges.Reads as core-in-ranges-reads
use Rattle.bench_c.proofs.core_calls.cartvesper_core_status.Kinds as core-status
use Rattle.bench_c.proofs.core_calls.cartvesper_core_status.Reads as core-status-reads
use Rattle.bench_c.proofs.core_calls.cartvesper_core_lowest_protected.Kinds as core-lowest-protected
use Rattle.bench_c.proofs.core_calls.cartvesper_core_lowest_protected.Reads as core-lowest-protected-reads
use Rattle.bench_c.proofs.core_calls.cartvesper_core_protected.Kinds as core-protected
use Rattle.bench_c.proofs.core_calls.cartvesper_core_protected.Reads as core-protected-reads
use Rattle.bench_c.proofs.device_calls.cartvesper_device_power_up.Kinds as device-power-up
use Rattle.bench_c.proofs.device_calls.cartvesper_device_power_up.Reads as device-power-up-reads
use Rattle.bench_c.proofs.device_calls.cartvesper_device_set_s.Kinds as device-set-s
use Rattle.bench_c.proofs.device_calls.cartvesper_device_set_s.Reads as device-set-s-reads
use Rattle.bench_c.proofs.device_calls.cartvesper_device_set_c.Kinds as device-set-c
use Rattle.bench_c.proofs.device_calls.cartvesper_device_set_c.Reads as device-set-c-reads
use Rattle.bench_c.proofs.device_calls.cartvesper_device_set_d.Kinds as device-set-d
use Rattle.bench_c.proofs.device_calls.cartvesper_device_set_d.Reads as device-set-d-reads
use Rattle.bench_c.proofs.device_calls.cartvesper_device_set_w.Kinds as device-set-w
use Rattle.bench_c.proofs.device_calls.cartvesper_device_set_w.Reads as device-set-w-reads
use Rattle.bench_c.proofs.device_calls.cartvesper_device_set_hold.Kinds as device-set-hold
use Rattle.bench_c.proofs.device_calls.cartvesper_device_set_hold.Reads as device-set-hold-reads
use Rattle.bench_c.proofs.device_calls.cartvesper_device_in_ranges.Kinds as device-in-ranges
use Rattle.bench_c.proofs.device_calls.cartvesper_device_in_ranges.Reads as device-in-ranges-reads
use Rattle.bench_c.proofs.device_calls.cartvesper_device_q.Kinds as device-q
use Rattle.bench_c.proofs.device_calls.cartvesper_device_q.Reads as device-q-reads
use Rattle.bench_c.proofs.lay_call.cartvesper_lay.Kinds as lay
use Rattle.bench_c.proofs.lay_call.cartvesper_lay.Reads as lay-reads
use Rattle.bench_c.proofs.core_calls.cartvesper_core_touched.Kinds as core-touched
use Rattle.bench_c.proofs.core_calls.cartvesper_core_touched.Reads as core-touched-reads
use Rattle.bench_c.proofs.device_calls.cartvesper_device_touched.Kinds as device-touched
use Rattle.bench_c.proofs.device_calls.cartvesper_device_touched.Reads as device-touched-reads
use Rattle.bench_c.proofs.device_calls.cartvesper_device_status.Kinds as device-status
use Rattle.bench_c.proofs.device_calls.cartvesper_device_status.Reads as device-status-reads
use Rattle.bench_c.proofs.core_calls.cartvesper_clock_reading.Kinds as clock-reading
use Rattle.bench_c.proofs.cut_calls.cartvesper_cut.Kinds as cut
use Rattle.bench_c.proofs.cut_calls.cartvesper_cut.Reads as cut-reads
use Rattle.bench_c.proofs.cut_calls.cartvesper_device_cut.Kinds as device-cut
use Rattle.bench_c.proofs.cut_calls.cartvesper_device_cut.Reads as device-cut-reads
use Rattle.bench_c.proofs.core_calls.cartvesper_clock_reading.Reads as clock-reading-reads
use Rattle.bench_c.proofs.frame_call.cartvesper_frame.Kinds as frame
use Rattle.bench_c.proofs.frame_call.cartvesper_frame.Reads as frame-reads
use Rattle.bench_c.proofs.timed_call.cartvesper_timed_frame.Kinds as timed-frame
use Rattle.bench_c.proofs.timed_call.cartvesper_timed_frame.Reads as timed-frame-reads
use Rattle.bench_c.proofs.device_calls.cartvesper_device_read_clock.Kinds as device-read-clock
use Rattle.bench_c.proofs.device_calls.cartvesper_device_read_clock.Reads as device-read-clock-reads
use Rattle.bench_c.proofs.device_calls.cartvesper_device_play.Kinds as device-play
use Rattle.bench_c.proofs.device_calls.cartvesper_device_play.Reads as device-play-reads
use Rattle.bench_c.proofs.hex_calls.cartvesper_hex_export.Kinds as hex-export
use Rattle.bench_c.proofs.hex_calls.cartvesper_hex_export.Reads as hex-export-reads
use Rattle.bench_c.proofs.hex_calls.cartvesper_hex_import.Kinds as hex-import
use Rattle.bench_c.proofs.hex_calls.cartvesper_hex_import.Reads as hex-import-reads
use Rattle.bench_c.proofs.driver_call.cartvesper_write.Kinds as write
use Rattle.bench_c.proofs.driver_call.cartvesper_write.Reads as write-reads
use Rattle.bench_c.proofs.part_calls.cartvesper_part_refusal.Kinds as part-refusal
use Rattle.bench_c.proofs.part_calls.cartvesper_part_refusal.Reads as part-refusal-reads
use Rattle.bench_c.proofs.part_calls.cartvesper_part_count.Kinds as part_count
use Rattle.bench_c.proofs.part_calls.cartvesper_part_count.Reads as part-count-reads
use Rattle.bench_c.proofs.part_calls.cartvesper_part_address.Kinds as part-address
use Rattle.bench_c.proofs.part_calls.cartvesper_part_address.Reads as part-address-reads
use Rattle.bench_c.proofs.part_calls.cartvesper_part_length.Kinds as part_length
use Rattle.bench_c.proofs.part_calls.cartvesper_part_length.Reads as part-length-reads

pub power_up_one : OneResult power-up.ps power-up.r power-up-reads.Post
power_up_one κs a z z' e e' p q = same p q

pub core_in_ranges_one : OneResult core-in-ranges.ps core-in-ranges.r core-in-ranges-reads.Post
core_in_ranges_one κs a z z' e e' p q = same p q

pub core_status_one : OneResult core-status.ps core-status.r core-status-reads.Post
core_status_one κs a z z' e e' p q = same p q

pub core_lowest_protected_one : OneResult core-lowest-protected.ps core-lowest-protected.r core-lowest-protected-reads.Post
core_lowest_protected_one κs a z z' e e' p q = same p q

pub core_protected_one : OneResult core-protected.ps core-protected.r core-protected-reads.Post
core_protected_one κs a z z' e e' p q = same p q

pub device_power_up_one : OneResult device-power-up.ps device-power-up.r device-power-up-reads.Post
device_power_up_one κs a z z' e e' p q = same p q

pub device_set_s_one : OneResult device-set-s.ps device-set-s.r device-set-s-reads.Post
device_set_s_one κs a z z' e e' p q = same p q

pub device_set_c_one : OneResult device-set-c.ps device-set-c.r device-set-c-reads.Post
device_set_c_one κs a z z' e e' p q = same p q

pub device_set_d_one : OneResult device-set-d.ps device-set-d.r device-set-d-reads.Post
device_set_d_one κs a z z' e e' p q = same p q

pub device_set_w_one : OneResult device-set-w.ps device-set-w.r device-set-w-reads.Post
device_set_w_one κs a z z' e e' p q = same p q

pub device_set_hold_one : OneResult device-set-hold.ps device-set-hold.r device-set-hold-reads.Post
device_set_hold_one κs a z z' e e' p q = same p q

pub device_in_ranges_one : OneResult device-in-ranges.ps device-in-ranges.r device-in-ranges-reads.Post
device_in_ranges_one κs a z z' e e' p q = same p q

pub device_q_one : OneResult device-q.ps device-q.r device-q-reads.Post
device_q_one κs a z z' e e' p q = same p q

pub lay_one : OneResult lay.ps lay.r lay-reads.Post
lay_one κs a z z' e e' p q = same p q

pub core_touched_one : OneResult core-touched.ps core-touched.r core-touched-reads.Post
core_touched_one κs a z z' e e' p q = same p q

pub device_touched_one : OneResult device-touched.ps device-touched.r device-touched-reads.Post
device_touched_one κs a z z' e e' p q = same p q

pub device_status_one : OneResult device-status.ps device-status.r device-status-reads.Post
device_status_one κs a z z' e e' p q = same p q

pub clock_reading_one : OneResult clock-reading.ps clock-reading.r clock-reading-reads.Post
clock_reading_one κs a z z' e e' p q = same p.0 q.0

pub clock_reading_memory : OneExit clock-reading.ps clock-reading.r clock-reading-reads.Post (λ κs e. e.1.1.0.now)
clock_reading_memory κs a z z' e e' p q = same p.1.0 q.1.0

pub clock_reading_identification : OneExit clock-reading.ps clock-reading.r clock-reading-reads.Post (λ κs e. e.1.1.1.0.now)
clock_reading_identification κs a z z' e e' p q = same p.1.1 q.1.1

pub cut_one : OneResult cut.ps cut.r cut-reads.Post
cut_one κs a z z' e e' p q = same p.0 q.0

pub cut_memory_law : OneExit cut.ps cut.r cut-reads.Post (λ κs e. e.1.1.0.now)
cut_memory_law κs a z z' e e' p q = same p.1.0 q.1.0

pub cut_identification_law : OneExit cut.ps cut.r cut-reads.Post (λ κs e. e.1.1.1.0.now)
cut_identification_law κs a z z' e e' p q = same p.1.1 q.1.1

pub frame_one : OneResult frame.ps frame.r frame-reads.Post
frame_one κs a z z' e e' p q = same p.0 q.0

pub frame_output : OneExit frame.ps frame.r frame-reads.Post (λ κs e. e.1.1.1.1.1.1.0.now)
frame_output κs a z z' e e' p q = same p.1 q.1

pub timed_frame_one : OneResult timed-frame.ps timed-frame.r timed-frame-reads.Post
timed_frame_one κs a z z' e e' p q = same p.0 q.0

pub timed_frame_memory : OneExit timed-frame.ps timed-frame.r timed-frame-reads.Post (λ κs e. e.1.0.now)
timed_frame_memory κs a z z' e e' p q = same p.1.0 q.1.0

pub timed_frame_identification : OneExit timed-frame.ps timed-frame.r timed-frame-reads.Post (λ κs e. e.1.1.0.now)
timed_frame_identification κs a z z' e e' p q = same p.1.1.0 q.1.1.0

pub timed_frame_output : OneExit timed-frame.ps timed-frame.r timed-frame-reads.Post (λ κs e. e.1.1.1.1.1.1.1.1.1.0.now)
timed_frame_output κs a z z' e e' p q = same p.1.1.1 q.1.1.1

pub device_read_clock_one : OneResult device-read-clock.ps device-read-clock.r device-read-clock-reads.Post
device_read_clock_one κs a z z' e e' p q = same p.0 q.0

pub device_read_clock_memory : OneExit device-read-clock.ps device-read-clock.r device-read-clock-reads.Post (λ κs e. e.1.1.0.now)
device_read_clock_memory κs a z z' e e' p q = same p.1.0 q.1.0

pub device_read_clock_identification : OneExit device-read-clock.ps device-read-clock.r device-read-clock-reads.Post (λ κs e. e.1.1.1.0.now)
device_read_clock_identification κs a z z' e e' p q = same p.1.1 q.1.1

pub device_cut_one : OneResult device-cut.ps device-cut.r device-cut-reads.Post
device_cut_one κs a z z' e e' p q = same p.0 q.0

pub device_cut_memory : OneExit device-cut.ps device-cut.r device-cut-reads.Post (λ κs e. e.1.1.0.now)
device_cut_memory κs a z z' e e' p q = same p.1.0 q.1.0

pub device_cut_identification : OneExit device-cut.ps device-cut.r device-cut-reads.Post (λ κs e. e.1.1.1.0.now)
device_cut_identification κs a z z' e e' p q = same p.1.1 q.1.1

pub device_play_one : OneResult device-play.ps device-play.r device-play-reads.Post
device_play_one κs a z z' e e' p q = same p.0 q.0

pub device_play_memory : OneExit device-play.ps device-play.r device-play-reads.Post (λ κs e. e.1.0.now)
device_play_memory κs a z z' e e' p q = same p.1.0 q.1.0

pub device_play_identification : OneExit device-play.ps device-play.r device-play-reads.Post (λ κs e. e.1.1.0.now)
device_play_identification κs a z z' e e' p q = same p.1.1.0 q.1.1.0

pub device_play_output : OneExit device-play.ps device-play.r device-play-reads.Post (λ κs e. e.1.1.1.1.0.now)
device_play_output κs a z z' e e' p q = same p.1.1.1 q.1.1.1

pub write_one_law : OneResult write.ps write.r write-reads.Post
write_one_law κs a z z' e e' p q = same p.0 q.0

pub write_memory : OneExit write.ps write.r write-reads.Post (λ κs e. e.1.0.now)
write_memory κs a z z' e e' p q = same p.1.0 q.1.0

pub write_identification : OneExit write.ps write.r write-reads.Post (λ κs e. e.1.1.0.now)
write_identification κs a z z' e e' p q = same p.1.1 q.1.1

pub part_refusal_one : OneResult part-refusal.ps part-refusal.r part-refusal-reads.Post
part_refusal_one κs a z z' e e' p q = same p q

pub part_count_one : OneResult part_count.ps part_count.r part-count-reads.Post
part_count_one κs a z z' e e' p q = same p q

pub part_address_one : OneResult part-address.ps part-address.r part-address-reads.Post
part_address_one κs a z z' e e' p q = same p q

pub part_length_one : OneResult part_length.ps part_length.r part-length-reads.Post
part_length_one κs a z z' e e' p q = same p q

-- ---- HEX texts

pub hex_export_one : OneResult hex-export.ps hex-export.r hex-export-reads.Post
hex_export_one κs a z z' e e' p q = same p.0 q.0

pub hex_export_output : OneExit hex-export.ps hex-export.r hex-export-reads.Post (λ κs e. e.1.1.0.now)
hex_export_output κs a z z' e e' p q = same p.1 q.1

pub hex_import_one : OneResult hex-import.ps hex-import.r hex-import-reads.Post
hex_import_one κs a z z' e e' p q = same p.0 q.0

pub hex_import_memory : OneExit hex-import.ps hex-import.r hex-import-reads.Post (λ κs e. e.1.0.now)
hex_import_memory κs a z z' e e' p q = same p.1 q.1

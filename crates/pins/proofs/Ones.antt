-- Each public call allows one result; and one memory where it is lent one to be written.
use Rattle.laws.specs.One.{OneResult, OneExit, same}
use Rattle.pins.proofs.public.power_up.Kinds as power-up
use Rattle.pins.proofs.public.power_up.Reads as power-up-reads
use Rattle.pins.proofs.Device.set_s.Kinds as set-s
use Rattle.pins.proofs.Device.set_s.Reads as set-s-reads
use Rattle.pins.proofs.Device.set_c.Kinds as set-c
use Rattle.pins.proofs.Device.set_c.Reads as set-c-reads
use Rattle.pins.proofs.Device.set_d.Kinds as set-d
use Rattle.pins.proofs.Device.set_d.Reads as set-d-reads
use Rattle.pins.proofs.Device.set_w.Kinds as set-w
use Rattle.pins.proofs.Device.set_w.Reads as set-w-reads
use Rattle.pins.proofs.Device.set_hold.Kinds as set-hold
use Rattle.pins.proofs.Device.set_hold.Reads as set-hold-reads
use Rattle.pins.proofs.Device.read_clock.Kinds as read-clock
use Rattle.pins.proofs.Device.read_clock.Reads as read-clock-reads
use Rattle.pins.proofs.Device.cut.Kinds as cut
use Rattle.pins.proofs.Device.cut.Reads as cut-reads
use Rattle.pins.proofs.Device.q.Kinds as q
use Rattle.pins.proofs.Device.q.Reads as q-reads
use Rattle.pins.proofs.Device.status.Kinds as status
use Rattle.pins.proofs.Device.status.Reads as status-reads
use Rattle.pins.proofs.Device.cells_touched.Kinds as cells-touched
use Rattle.pins.proofs.Device.cells_touched.Reads as cells-touched-reads
use Rattle.pins.proofs.Device.in_ranges.Kinds as in-ranges
use Rattle.pins.proofs.Device.in_ranges.Reads as in-ranges-reads
use Rattle.pins.proofs.Device.stepped.Kinds as device-stepped
use Rattle.pins.proofs.Device.stepped.Reads as device-stepped-reads
use Rattle.pins.proofs.Device.resting.Kinds as device-resting
use Rattle.pins.proofs.Device.resting.Reads as device-resting-reads
use Rattle.pins.proofs.Device.admitted.Kinds as device-admitted
use Rattle.pins.proofs.Device.admitted.Reads as device-admitted-reads

pub power_up_one : OneResult power-up.ps power-up.r power-up-reads.Post
power_up_one κs a z z' e e' p q = same p.0 q.0

pub set_s_one : OneResult set-s.ps set-s.r set-s-reads.Post
set_s_one κs a z z' e e' p q = same p.0 q.0

pub set_c_one : OneResult set-c.ps set-c.r set-c-reads.Post
set_c_one κs a z z' e e' p q = same p.0 q.0

pub set_d_one : OneResult set-d.ps set-d.r set-d-reads.Post
set_d_one κs a z z' e e' p q = same p.0 q.0

pub set_w_one : OneResult set-w.ps set-w.r set-w-reads.Post
set_w_one κs a z z' e e' p q = same p.0 q.0

pub set_hold_one : OneResult set-hold.ps set-hold.r set-hold-reads.Post
set_hold_one κs a z z' e e' p q = same p.0 q.0

pub read_clock_one : OneResult read-clock.ps read-clock.r read-clock-reads.Post
read_clock_one κs a z z' e e' p q = same p.0 q.0

pub read_clock_memory : OneExit read-clock.ps read-clock.r read-clock-reads.Post (λ κs e. e.1.1.0.now)
read_clock_memory κs a z z' e e' p q = same p.1.1.0 q.1.1.0

pub read_clock_identification : OneExit read-clock.ps read-clock.r read-clock-reads.Post (λ κs e. e.1.1.1.0.now)
read_clock_identification κs a z z' e e' p q = same p.1.1.1 q.1.1.1

pub cut_one : OneResult cut.ps cut.r cut-reads.Post
cut_one κs a z z' e e' p q = same p.0 q.0

pub cut_memory_law : OneExit cut.ps cut.r cut-reads.Post (λ κs e. e.1.1.0.now)
cut_memory_law κs a z z' e e' p q = same p.1.1.0 q.1.1.0

pub cut_identification_law : OneExit cut.ps cut.r cut-reads.Post (λ κs e. e.1.1.1.0.now)
cut_identification_law κs a z z' e e' p q = same p.1.1.1 q.1.1.1

pub q_one : OneResult q.ps q.r q-reads.Post
q_one κs a z z' e e' p q = same p.0 q.0

pub status_one : OneResult status.ps status.r status-reads.Post
status_one κs a z z' e e' p q = same p.0 q.0

pub cells_touched_one : OneResult cells-touched.ps cells-touched.r cells-touched-reads.Post
cells_touched_one κs a z z' e e' p q = same p.0 q.0

pub in_ranges_one : OneResult in-ranges.ps in-ranges.r in-ranges-reads.Post
in_ranges_one κs a z z' e e' p q = same p q

-- ---- inner calls

pub device_stepped_one : OneResult device-stepped.ps device-stepped.r device-stepped-reads.Post
device_stepped_one κs a z z' e e' p q = same p.0 q.0

pub device_stepped_memory : OneExit device-stepped.ps device-stepped.r device-stepped-reads.Post (λ κs e. e.1.1.0.now)
device_stepped_memory κs a z z' e e' p q = same p.1.0 q.1.0

pub device_stepped_identification : OneExit device-stepped.ps device-stepped.r device-stepped-reads.Post (λ κs e. e.1.1.1.0.now)
device_stepped_identification κs a z z' e e' p q = same p.1.1 q.1.1

pub device_resting_one : OneResult device-resting.ps device-resting.r device-resting-reads.Post
device_resting_one κs a z z' e e' p q = same p q

pub device_admitted_one : OneResult device-admitted.ps device-admitted.r device-admitted-reads.Post
device_admitted_one κs a z z' e e' p q = same p q

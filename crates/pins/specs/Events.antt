-- The events: a device takes one and hands back the device that follows. Setting a pin to the level it has changes
-- nothing.
use Rattle.std.specs.Prelude.{ℕ, ◌+◌, ◌*◌, ◌/◌, ◌%◌, ◌^◌, Bool, false, not, ◌&&◌, List, eqb}
use Rattle.laws.specs.Pick.{pick}
use Rattle.codes.specs.Part.{Part}
use Rattle.codes.specs.Status.{bit, on}
use Rattle.chip.specs.Lents.{Lent}
use Rattle.chip.specs.Records.{running, waits_page, waits_identification}
use Rattle.codes.specs.Instructions.{decode}
use Rattle.chip.specs.Questions.{barred}
use Rattle.codes.specs.Verdicts.{verdict, is_executed}
use Rattle.chip.specs.Effects.{effect}
use Rattle.chip.specs.Time.{timed_in, timed_cells}
use Rattle.chip.specs.declared.Waiting.{Waiting}
use Rattle.chip.specs.declared.Core.{Core}
use Rattle.codes.specs.declared.Verdict.{Verdict}
use Rattle.pins.specs.declared.Device.{Device}
use Rattle.pins.specs.declared.Event.{Event}
use Rattle.pins.specs.declared.Event.TheVariants.{S, C, D, W, Hold, Time}
use Rattle.pins.specs.Devices.{with_s, with_c, with_d, with_w, with_hold, with_pins, with_held, with_frame, with_core}
use Rattle.pins.specs.Devices.{selected, counting}
use Rattle.edges.specs.Frames.{no_frame}
use Rattle.edges.specs.Rising.{risen}
use Rattle.edges.specs.Falling.{fallen}

-- ---- S

-- S falling selects and starts an empty frame; with C low and HOLD low it starts held
abbrev pub selecting : Device → Device
selecting x =
    with_pins (with_s 0 x.pins)
    (with_held (not (on x.pins.c) && not (on x.pins.hold)) (with_frame no_frame x))

-- what deselect decides, of the frame as it stands: the count of its bits, "no cycle" at the eighth edge, and WEL, W
-- and held as they are now
abbrev pub judged_now : Part → Device → Verdict
judged_now P x =
    verdict P (decode P x.frame.code) x.frame.address x.frame.value
    (8 * x.frame.taken + x.frame.bits) (on x.frame.ran) (on x.core.wel)
    (on x.core.srwd && not (on x.pins.w))
    (barred P x.core (decode P x.frame.code) x.frame.address) (on x.held)

abbrev pub executed_now : Part → Device → Core
executed_now P x =
    effect P (decode P x.frame.code) x.frame.address x.frame.value x.frame.latch x.core

abbrev pub decided : Part → Device → Core
decided P x = pick (is_executed (judged_now P x)) (executed_now P x) x.core

-- S rising ends the frame and decides execution
abbrev pub deselecting : Part → Device → Device
deselecting P x =
    with_pins (with_s 1 x.pins) (with_held false (with_frame no_frame (with_core (decided P x) x)))

unfoldable pub on_s : Part → Bool → Device → Device
on_s P level x = pick (eqb x.pins.s (bit level)) x (pick level (deselecting P x) (selecting x))

-- ---- C

-- held follows "HOLD is low" while C is low; only a selected device is held
abbrev pub renewed : Device → Device
renewed x = with_held (selected x && not (on x.pins.hold)) x

abbrev pub raising : Part → Device → Device
raising P x =
    with_pins (with_c 1 x.pins)
    (pick (counting x) (with_frame (risen P (running x.core) x.pins.d x.frame) x) x)

-- a falling edge acts first by the old held value, then held is renewed
abbrev pub lowering : Part → Lent → Device → Device
lowering P m x =
    renewed (with_pins (with_c 0 x.pins) (pick (counting x) (with_frame (fallen P m x.core x.frame) x) x))

unfoldable pub on_c : Part → Bool → Lent → Device → Device
on_c P level m x = pick (eqb x.pins.c (bit level)) x (pick level (raising P x) (lowering P m x))

-- ---- D, W, HOLD and time

unfoldable pub on_d : Bool → Device → Device
on_d level x = with_pins (with_d (bit level) x.pins) x

unfoldable pub on_w : Bool → Device → Device
on_w level x = with_pins (with_w (bit level) x.pins) x

-- held keeps its value while C is high
unfoldable pub on_hold : Bool → Device → Device
on_hold level x =
    let y = with_pins (with_hold (bit level) x.pins) x in
    pick (on x.pins.c) y (renewed y)

-- time passes always: selected, held or not
unfoldable pub on_time : Part → ℕ → List ℕ → Device → Device
on_time P t m x = with_core (timed_in P t x.core m) x

-- ---- one event, and what it leaves of what is lent: only a clock reading changes it

abbrev pub stepped : Part → Lent → Event → Device → Device
stepped P m (S level) x = on_s P level x
stepped P m (C level) x = on_c P level m x
stepped P m (D level) x = on_d level x
stepped P m (W level) x = on_w level x
stepped P m (Hold level) x = on_hold level x
stepped P m (Time t) x = on_time P t m.memory x

-- lent cells: `its` says whether what waits is for them
abbrev pub stepped_cells : (Waiting → Bool) → Part → Event → Device → List ℕ → List ℕ
stepped_cells its P (S level) x m = m
stepped_cells its P (C level) x m = m
stepped_cells its P (D level) x m = m
stepped_cells its P (W level) x m = m
stepped_cells its P (Hold level) x m = m
stepped_cells its P (Time t) x m = timed_cells its P t x.core m

abbrev pub stepped_memory : Part → Event → Device → List ℕ → List ℕ
stepped_memory P e x m = stepped_cells waits_page P e x m

abbrev pub stepped_identification : Part → Event → Device → List ℕ → List ℕ
stepped_identification P e x i = stepped_cells waits_identification P e x i

-- ---- an event as a number: what it stands for. Which numbers stand for one is asked of a list (lists/Events)

-- the low 32 bits are the reading, or the level in the lowest; the three above them are the kind: S, C, D, W, HOLD,
-- and from 5 on a clock reading
abbrev pub event_of : ℕ → Event
event_of e =
    let kind = e / 2 ^ 32 % 8 in
    let level = on (e % 2) in
    pick (eqb kind 0) (S level)
    (pick (eqb kind 1) (C level)
    (pick (eqb kind 2) (D level)
    (pick (eqb kind 3) (W level)
    (pick (eqb kind 4) (Hold level) (Time (e % 2 ^ 32))))))

-- What a list of events does at each: most events move a few numbers of the device, and these are moved where they
-- stand. No public promise speaks of it: a list is promised by the single events (`played`).
use Rattle.std.specs.Prelude.{ℕ, ◌%◌, Bool, true, false, List}
use Rattle.laws.specs.Pick.{pick}
use Rattle.codes.specs.Part.{Part}
use Rattle.latch.specs.declared.Latch.{Latch}
use Rattle.latch.specs.Latches.{latched}
use Rattle.chip.specs.declared.Waiting.{Waiting}
use Rattle.chip.specs.declared.Core.{Core}
use Rattle.chip.specs.Lents.{Lent}
use Rattle.chip.specs.Records.{with_time, with_wel}
use Rattle.edges.specs.declared.Frame.{Frame}
use Rattle.edges.specs.Frames.{no_frame, with_out, with_address, with_latch}
use Rattle.pins.specs.declared.Device.{Device}
use Rattle.pins.specs.declared.Event.{Event}
use Rattle.pins.specs.Devices.{with_s, with_c, with_d, with_w, with_hold, with_held_at, with_pins, with_frame, with_core}
use Rattle.pins.specs.Events.{stepped, stepped_cells}
use Rattle.lists.specs.declared.Front.{Front}
use Rattle.lists.specs.declared.Way.{Way}
use Rattle.lists.specs.declared.Way.TheVariants.{Data, Set, Rise, Latched, Fall, Clear, Pass, Whole}

-- ---- the front: all but the bytes it latches and the core

abbrev pub front_of : Device → Front
front_of x =
    record {
      s = x.pins.s;
      c = x.pins.c;
      d = x.pins.d;
      w = x.pins.w;
      hold = x.pins.hold;
      held = x.held;
      taken = x.frame.taken;
      bits = x.frame.bits;
      partial = x.frame.partial;
      code = x.frame.code;
      ran = x.frame.ran;
      value = x.frame.value;
      out = x.frame.out;
      shown = x.frame.shown;
      address = x.frame.address;
    }

abbrev pub whole : Front → Latch → Core → Device
whole f l k =
    record {
      pins = record { s = f.s; c = f.c; d = f.d; w = f.w; hold = f.hold };
      held = f.held;
      frame =
          record {
            taken = f.taken;
            bits = f.bits;
            partial = f.partial;
            code = f.code;
            ran = f.ran;
            value = f.value;
            out = f.out;
            shown = f.shown;
            address = f.address;
            latch = l;
          };
      core = k;
    }

-- ---- the ways

-- all but the output and the latch
abbrev pub with_taken : ℕ → ℕ → ℕ → ℕ → ℕ → ℕ → ℕ → Frame → Frame
with_taken n b p c r v a f =
    record {
      taken = n;
      bits = b;
      partial = p;
      code = c;
      ran = r;
      value = v;
      out = f.out;
      shown = f.shown;
      address = a;
      latch = f.latch;
    }

-- C rises, and the frame in hand is f then
abbrev pub risen_to : Frame → Device → Device
risen_to f x = with_pins (with_c 1 x.pins) (with_frame f x)

-- n whole bytes are taken, and no bit of the next
abbrev pub byte_taken : ℕ → Frame → Frame
byte_taken n f = with_taken n 0 0 f.code f.ran f.value f.address f

-- S at a level, held or not, and no frame in hand
abbrev pub without_frame : ℕ → ℕ → Device → Device
without_frame s held x = with_pins (with_s s x.pins) (with_held_at held (with_frame no_frame x))

abbrev pub is_whole : Way → Bool
is_whole (Data d) = false
is_whole (Set w hold held) = false
is_whole (Rise n b p c r v a) = false
is_whole (Latched n v a) = false
is_whole (Fall held v n a) = false
is_whole (Clear s held wel) = false
is_whole (Pass t n) = false
is_whole Whole = true

-- the device after a way was gone; `Whole` is the event itself
abbrev pub after_way : Part → Lent → Event → Way → Device → Device
after_way P m e (Data d) x = with_pins (with_d d x.pins) x
after_way P m e (Set w hold held) x = with_pins (with_hold hold (with_w w x.pins)) (with_held_at held x)
after_way P m e (Rise n b p c r v a) x = risen_to (with_taken n b p c r v a x.frame) x
after_way P m e (Latched n v a) x =
    risen_to (with_address a
    (with_latch (latched (x.frame.address % P.page) v x.frame.latch) (byte_taken n x.frame))) x
after_way P m e (Fall held v n a) x =
    with_held_at held (with_pins (with_c 0 x.pins) (with_frame (with_address a (with_out v n x.frame)) x))
after_way P m e (Clear s held wel) x = without_frame s held (with_core (with_wel wel x.core) x)
after_way P m e (Pass t n) x = with_core (with_time t n x.core) x
after_way P m e Whole x = stepped P m e x

-- .. and lent cells, which only the whole event can change: `theirs` says whether what waits is theirs
abbrev pub after_way_cells : (Waiting → Bool) → Part → Event → Way → Device → List ℕ → List ℕ
after_way_cells theirs P e w x m = pick (is_whole w) (stepped_cells theirs P e x m) m

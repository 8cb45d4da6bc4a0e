-- The invariant: the bench is the one after the first i events, with Q after each in the output. A turn is one event more
-- (`one_more`), and the stretch behind it.
-- the device in its parts
use Prim.Native.Nat.{ℕ, ◌≤◌, ◌-◌}
use mathlib.Core.List.{List}
use mathlib.Core.Path.{◌≡◌}
use lib.ListN.{length}
use Rattle.pins.specs.Answers.{PinBench, pin_bench}
use Rattle.lists.specs.Stretches.{Reached}
use Rattle.lists.specs.Ways.{whole}
use Rattle.pins.specs.Devices.{q}
use Rattle.edges.specs.Falling.{level_number}
use Rattle.chip.specs.Records.{own_part}
use Rattle.chip.specs.declared.Core.{Core}
use Rattle.pins.specs.declared.Device.{Device}
use Rattle.lists.specs.declared.Front.{Front}
use Rattle.lists.proofs.listed.play_all.Given as goal

abbrev joined : Front → List ℕ → List ℕ → Core → Device
joined f b k c = whole f (record { bytes = b; marks = k }) c

-- .. and what is lent
abbrev apart : Front → List ℕ → List ℕ → Core → List ℕ → List ℕ → PinBench
apart f b k c m d = pin_bench (joined f b k c) m d

abbrev pub invariant-loop-i : goal.invariant-loop-i
invariant-loop-i l =
    (l.i ≤ length l.events) × (length l.out ≡ length l.initial.out) × (length l.memory ≡ length l.initial.memory) × (length l.identification ≡ length l.initial.identification)
    × Reached (own_part l.initial.core) l.events (apart l.initial.front l.initial.bytes l.initial.marks l.initial.core l.initial.memory l.initial.identification) l.initial.out l.i
    (apart l.front l.bytes l.marks l.core l.memory l.identification) l.out
    × (l.q ≡ level_number (q (joined l.front l.bytes l.marks l.core)))

abbrev pub decreases-loop-i : goal.decreases-loop-i
decreases-loop-i l =
    length l.events - l.i

-- A stretch of events that stay within a byte: what each moves, and how far a list was taken. No public promise speaks
-- of it: a list is promised by the single events (`played`).
use Rattle.std.specs.Prelude.{ℕ, Bool, true, false, not, ◌&&◌, List, ◌≡◌, length, take}
use Rattle.laws.specs.Filled.{filled}
use Rattle.codes.specs.Part.{Part}
use Rattle.codes.specs.Status.{bit, on}
use Rattle.codes.specs.Instructions.{decode}
use Rattle.codes.specs.Output.{outputs}
use Rattle.latch.specs.declared.Latch.{Latch}
use Rattle.chip.specs.declared.Core.{Core}
use Rattle.edges.specs.Falling.{level_number}
use Rattle.edges.specs.Frames.{with_bits, with_out}
use Rattle.pins.specs.declared.Device.{Device}
use Rattle.pins.specs.Devices.{with_c, with_d, with_pins, with_frame, q}
use Rattle.pins.specs.Answers.{PinBench, pin_bench, played}
use Rattle.lists.specs.declared.Front.{Front}
use Rattle.lists.specs.declared.Move.{Move}
use Rattle.lists.specs.declared.Move.TheVariants.{Data, Bit, Shown, Other}
use Rattle.lists.specs.Ways.{whole, risen_to}
use Rattle.lists.specs.Answers.{played_q}

-- a falling edge leaves held as it is: it begins no pause and ends none
abbrev pub Steady : Front → Type 0
Steady f = f.held ≡ bit (not (on f.s) && not (on f.hold))

-- an edge is counted; and Q moves at a falling one: in data output
abbrev pub counted : Front → Bool
counted f = not (on f.s) && not (on f.held)

abbrev pub moving : Part → Front → Bool
moving P f = counted f && outputs P (decode P f.code) f.taken (on f.ran)

abbrev pub is_other : Move → Bool
is_other (Data d) = false
is_other (Bit n v) = false
is_other (Shown n) = false
is_other Other = true

-- the device after a move; `Other` is none
abbrev pub after_move : Move → Device → Device
after_move (Data d) x = with_pins (with_d d x.pins) x
after_move (Bit n v) x = risen_to (with_bits n v x.frame) x
after_move (Shown n) x = with_pins (with_c 0 x.pins) (with_frame (with_out x.frame.out n x.frame) x)
after_move Other x = x

-- after the first i events of a list: the bench is x, which was b, and Q after each of them stands in out, which was o
abbrev pub Reached : Part → List ℕ → PinBench → List ℕ → ℕ → PinBench → List ℕ → Type 0
Reached P es b o i x out =
    (length o ≡ length es) × (x ≡ played P (take i es) b) × (out ≡ filled o (played_q P es b) i)

-- the events from i up to j lead from a front f to a front g: wherever f is reached, with u for out, g is, with w
abbrev pub Leads : Part → List ℕ → ℕ → Front → List ℕ → ℕ → Front → List ℕ → Type 0
Leads P es i f u j g w =
    (l : Latch) (k : Core) (m d o : List ℕ) (b : PinBench) → Reached P es b o i (pin_bench (whole f l k) m d) u
    → Reached P es b o j (pin_bench (whole g l k) m d) w

-- Q shows v, whatever is latched and whatever the core is
abbrev pub Shows : Front → ℕ → Type 0
Shows f v = (l : Latch) (k : Core) → v ≡ level_number (q (whole f l k))

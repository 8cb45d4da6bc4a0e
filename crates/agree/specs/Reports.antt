-- What a bench sees of each model over a list, and demand 3: it sees the same.
use Rattle.codes.specs.Refusals.{value_of}
use Rattle.std.specs.Prelude.{ℕ, zero, suc, Bool, true, false, not, ◌&&◌, cond, List, [], ◌∷◌, ◌++◌, map, ◌≡◌, length, replicate}
use Rattle.laws.specs.Pick.{pick}
use Rattle.codes.specs.Part.{Part}
use Rattle.codes.specs.Status.{on}
use Rattle.chip.specs.Lents.{Lent, lent}
use Rattle.frames.specs.Play.{FrameBench, frame_bench}
use Rattle.timed_theorems.specs.Acts.{TimedAct, send, reading, cut, cut_bench, acted_in_time}
use Rattle.cuts.specs.Cuts.{cut_memory, cut_identification}
use Rattle.cuts.specs.declared.Choice.{Choice}
use Rattle.timed_frames.specs.Answers.{framed_in_time, output_in_time}
use Rattle.timed_frames.specs.declared.Mode.{Mode}
use Rattle.pins.specs.declared.Device.{Device}
use Rattle.pins.specs.declared.Event.{Event}
use Rattle.pins.specs.declared.Event.TheVariants.{S, C, D, W, Hold, Time}
use Rattle.edges.specs.declared.Level.{Level}
use Rattle.edges.specs.declared.Level.TheVariants.{Zero, One, Z}
use Rattle.pins.specs.Devices.{selected, counting, q}
use Rattle.pins.specs.Ranges.{device_fits}
use Rattle.pins.specs.Answers.{PinBench, pin_bench, next, cut_device}
use Rattle.agree.specs.Drawings.{bits_of, Happening, event, gone, Wave, between}

-- after each frame: what was seen at its counted clocks (bits, or levels), and the bench that it leaves: the record
-- (part, lock, status, time left, what waits), the memory and the identification page
pub record Report (A : Type 0) : Type 0 where
  pub seen : List A
  pub bench : FrameBench

abbrev pub report : {A : Type 0} → List A → FrameBench → Report A
report seen b = record { seen = seen; bench = b }

-- reports, with what was seen at each clock taken for something else
abbrev pub seen_as : {A B : Type 0} → (A → B) → List (Report A) → List (Report B)
seen_as g rs = map (λ r. report (map g r.seen) r.bench) rs

-- what the two models' benches share
abbrev pub shared : PinBench → FrameBench
shared b = frame_bench b.device.core b.memory b.identification

-- ---- the pin model, watched over events

-- an undriven bit reads as 1
abbrev pub as_one : Level → Bool
as_one Zero = false
as_one One = true
as_one Z = true

-- a counted clock: C rising on a device that counts
abbrev pub is_counted : Event → Device → Bool
is_counted (S b) x = false
is_counted (C b) x = b && not (on x.pins.c) && counting x
is_counted (D b) x = false
is_counted (W b) x = false
is_counted (Hold b) x = false
is_counted (Time t) x = false

-- the end of a frame: S rising on a selected device
abbrev pub is_end : Event → Device → Bool
is_end (S b) x = b && selected x
is_end (C b) x = false
is_end (D b) x = false
is_end (W b) x = false
is_end (Hold b) x = false
is_end (Time t) x = false

-- a supply cut of a bench of the pin model
abbrev pub cut_pins : Part → Choice → PinBench → PinBench
cut_pins P h b =
    pin_bench (cut_device P h b.memory b.device) (cut_memory P h b.device.core b.memory)
    (cut_identification P h b.device.core b.identification)

-- look: what is noted of a level; seen: what was noted at the counted clocks since the frame began. A cut drops a frame
-- in hand, and what was noted of it
unfoldable pub watched : {A : Type 0} → (Level → A) → Part → List Happening → List A → PinBench → List (Report A)
watched look P [] seen b = []
watched look P (gone h ∷ es) seen b = watched look P es [] (cut_pins P h b)
watched look P (event e ∷ es) seen b =
    let x = b.device in
    let y = next P e b in
    cond (is_end e x) (report seen (shared y) ∷ []) []
    ++ watched look P es (cond (is_end e x) [] (cond (is_counted e x) (seen ++ (look (q x) ∷ [])) seen)) y

-- ---- the frame model, acted over a list

-- what is lent to a bench of the frame model
abbrev pub lent_of : FrameBench → Lent
lent_of b = lent b.memory b.identification

-- what is noted of a frame: by the level of W, the mode, the bytes, the bit count, the positions and the readings
abbrev pub Note : Type 0 → Type 0
Note A = Part → FrameBench → Bool → Mode → List ℕ → ℕ → List ℕ → List ℕ → List A

-- the bits of a frame are those of the public call's output
abbrev pub output_bits : Note Bool
output_bits P b w o s n ps ts =
    bits_of (output_in_time P b.core (lent_of b) o s n ps ts (replicate (length s) 0)) n

-- Z at the first u clocks, then the bits
abbrev pub levelled : ℕ → List Bool → List Level
levelled u [] = []
levelled zero (b ∷ bs) = pick b One Zero ∷ levelled zero bs
levelled (suc u) (b ∷ bs) = Z ∷ levelled u bs

-- its levels: as many are undriven as the public call answers
abbrev pub output_levels : Note Level
output_levels P b w o s n ps ts =
    levelled (value_of (framed_in_time P b.core (lent_of b) w s n ps ts (length s)).answer)
    (output_bits P b w o s n ps ts)

-- the bench that a frame leaves is that of the public call too, which does not refuse it: `sent-acted`
unfoldable pub frames_played : {A : Type 0} → Note A → Part → List TimedAct → FrameBench → List (Report A)
frames_played note P [] b = []
frames_played note P (send w o s n ps ts ∷ ks) b =
    let y = acted_in_time P (send w o s n ps ts) b in
    report (note P b w o s n ps ts) y ∷ frames_played note P ks y
frames_played note P (reading t ∷ ks) b = frames_played note P ks (acted_in_time P (reading t) b)
frames_played note P (cut h ∷ ks) b = frames_played note P ks (cut_bench P h b)

-- ---- demand 3

-- inside the ranges, not selected, HOLD high, with its memory and its identification page
pub record Unselected (P : Part) (b : PinBench) : Type 0 where
  pub fits : device_fits P b.device ≡ true
  pub up : b.device.pins.s ≡ 1
  pub free : b.device.pins.hold ≡ 1
  pub memory : length b.memory ≡ P.size
  pub identification : length b.identification ≡ P.page

-- from one unselected device, memory and identification page, whatever drawing es of the acts ks: the bench sees the
-- same of both models
unfoldable pub SameSeen : {A : Type 0} → (Level → A) → Note A → Part → Type 0
SameSeen look note P =
    (b : PinBench) (ks : List TimedAct) (es : List Happening) → Unselected P b
    → Wave P (between (on b.device.pins.c)) (on b.device.pins.d) (on b.device.pins.w) [] ks es
    → watched look P es [] b ≡ frames_played note P ks (shared b)

-- an undriven bit reading as 1
abbrev pub Agreement : Part → Type 0
Agreement P = SameSeen as_one output_bits P

-- more than it asks: the same levels, 0, 1 and Z
abbrev pub LevelAgreement : Part → Type 0
LevelAgreement P = SameSeen (λ l. l) output_levels P

-- Drawings as pin changes of a list of frames, each with its level of Write Protect, its mode and its readings inside,
-- and of clock readings and supply cuts between frames.
use Rattle.std.specs.Prelude.{ℕ, zero, suc, ◌<◌, ◌≤◌, Bool, true, false, List, [], ◌∷◌, ◌++◌, ◌≡◌, T, eqb, length, take, get_or}
use Rattle.std.specs.Bool.{beq}
use Rattle.laws.specs.Pick.{pick}
use Rattle.codes.specs.Part.{Part}
use Rattle.codes.specs.Status.{on, bit_of}
use Rattle.fields.specs.Counts.{bits_fit, longest_frame}
use Rattle.pins.specs.declared.Event.{Event}
use Rattle.pins.specs.declared.Event.TheVariants.{S, C, D, W, Hold, Time}
use Rattle.timed_frames.specs.Schedules.{places_fit}
use Rattle.timed_theorems.specs.Acts.{TimedAct, send, reading, cut}
use Rattle.cuts.specs.declared.Choice.{Choice}
use Rattle.timed_frames.specs.declared.Mode.{Mode}
use Rattle.timed_frames.specs.declared.Mode.TheVariants as mode

-- bytes, a bit count and lists of positions and readings that the frame model does not refuse
pub record Sendable (P : Part) (s : List ℕ) (n : ℕ) (ps ts : List ℕ) : Type 0 where
  pub bytes : (i : ℕ) → get_or s i 0 < 256
  pub short : length s ≤ longest_frame P
  pub counted : bits_fit (length s) n ≡ true
  pub placed : places_fit n ps ts ≡ true

-- the low k bits of a number, high bit first
abbrev pub low_bits : ℕ → ℕ → List Bool
low_bits zero v = []
low_bits (suc k) v = on (bit_of k v) ∷ low_bits k v

-- the bits of some bytes; the bits of a frame of n bits
unfoldable pub flat : List ℕ → List Bool
flat [] = []
flat (v ∷ vs) = low_bits 8 v ++ flat vs

abbrev pub bits_of : List ℕ → ℕ → List Bool
bits_of s n = take n (flat s)

-- ---- the plan of a frame: its counted edges, the falling edges and its readings, in order

pub data Item : Type 0 where
  -- C rises, with this level on D
  up : Bool → Item
  -- C falls
  down : Item
  -- the clock reads so much
  tell : ℕ → Item

-- the level of C at select and at deselect, in SPI mode 0 and in mode 3
abbrev pub rest : Mode → Bool
rest mode.Zero = false
rest mode.Three = true

-- one bit, from C at rest to C at rest
abbrev pub pulse : Mode → Bool → List Item → List Item
pulse mode.Zero b is = up b ∷ down ∷ is
pulse mode.Three b is = down ∷ up b ∷ is

-- the low k bits of v, or as many of them as n has left; then what comes after them, by what n has left then
unfoldable pub pulses : Mode → ℕ → ℕ → ℕ → (ℕ → List Item) → List Item
pulses o zero v n is = is n
pulses o (suc k) v zero is = []
pulses o (suc k) v (suc n) is = pulse o (on (bit_of k v)) (pulses o k v n is)

-- the readings at position k, in their order
unfoldable pub readings_at : List ℕ → List ℕ → ℕ → List ℕ
readings_at [] ts k = []
readings_at (p ∷ ps) [] k = []
readings_at (p ∷ ps) (t ∷ ts) k = pick (eqb p k) (t ∷ readings_at ps ts k) (readings_at ps ts k)

unfoldable pub tells : List ℕ → List Item → List Item
tells [] is = is
tells (t ∷ ts) is = tell t ∷ tells ts is

-- from position j on: the readings there, a byte, and so on. Between two bytes C is at rest, so that the readings come
-- after the falling edge in mode 0 and before it in mode 3
unfoldable pub plan : Mode → (ℕ → List ℕ) → ℕ → List ℕ → ℕ → List Item
plan o times j [] n = tells (times j) []
plan o times j (v ∷ vs) n = tells (times j) (pulses o 8 v n (plan o times (suc j) vs))

-- ---- drawings

-- what a bench does to the pin model: an event, or a supply cut
pub data Happening : Type 0 where
  event : Event → Happening
  gone : Choice → Happening

-- an event, and then
infixr 67 ◌▸◌
abbrev pub ◌▸◌ : Event → List Happening → List Happening
e ▸ es = event e ∷ es

-- where a drawing stands, with the level of C: between frames, in a frame, in a pause of one
pub data Phase : Type 0 where
  between : Bool → Phase
  inside : Bool → Phase
  paused : Bool → Phase

-- the levels of S, C and HOLD there
abbrev pub s_of : Phase → Bool
s_of (between l) = true
s_of (inside l) = false
s_of (paused l) = false

abbrev pub c_of : Phase → Bool
c_of (between l) = l
c_of (inside l) = l
c_of (paused l) = l

abbrev pub hold_of : Phase → Bool
hold_of (between l) = true
hold_of (inside l) = true
hold_of (paused l) = false

-- an event that sets S, C, W or HOLD to the level that the pin has
abbrev pub stays : Phase → Bool → Event → Bool
stays p w (S b) = beq b (s_of p)
stays p w (C b) = beq b (c_of p)
stays p w (D b) = false
stays p w (W b) = beq b w
stays p w (Hold b) = beq b (hold_of p)
stays p w (Time t) = false

-- Wave P p d w is ks es: from phase p, with D at d and W at w, and is what the frame in hand still has before it, the
-- events es draw the rest of that frame and then the acts ks. A frame carries its level of Write Protect: W stands at
-- it at select. A list of frames and readings with levels of Write Protect between them is thus a list of acts: each
-- frame carries the last level before it, or the level of W at the start.
pub data Wave (P : Part) : Phase → Bool → Bool → List Item → List TimedAct → List Happening → Type 0 where
  -- D may change at any time
  data' : {p : Phase} {d w : Bool} {is : List Item} {ks : List TimedAct} {es : List Happening} (d' : Bool)
      → Wave P p d' w is ks es → Wave P p d w is ks (D d' ▸ es)
  -- setting a pin to the level that it has changes nothing
  stay' : {p : Phase} {d w : Bool} {is : List Item} {ks : List TimedAct} {es : List Happening} (e : Event)
      → T (stays p w e) → Wave P p d w is ks es → Wave P p d w is ks (e ▸ es)
  -- between frames: moves of C and of W, which are no acts; readings; cuts, after which the pins are at rest; select
  end' : {l d w : Bool} → Wave P (between l) d w [] [] []
  clock' : {l d w : Bool} {ks : List TimedAct} {es : List Happening} (l' : Bool)
      → Wave P (between l') d w [] ks es → Wave P (between l) d w [] ks (C l' ▸ es)
  protect' : {l d w : Bool} {ks : List TimedAct} {es : List Happening} (w' : Bool)
      → Wave P (between l) d w' [] ks es → Wave P (between l) d w [] ks (W w' ▸ es)
  reading' : {l d w : Bool} {ks : List TimedAct} {es : List Happening} (t : ℕ)
      → Wave P (between l) d w [] ks es → Wave P (between l) d w [] (reading t ∷ ks) (Time t ▸ es)
  cut' : {l d w : Bool} {ks : List TimedAct} {es : List Happening} (h : Choice)
      → Wave P (between false) false true [] ks es → Wave P (between l) d w [] (cut h ∷ ks) (gone h ∷ es)
  select' : {d w : Bool} {ks : List TimedAct} {es : List Happening} (o : Mode) (s : List ℕ) (n : ℕ) (ps ts : List ℕ)
      → Sendable P s n ps ts
      → Wave P (inside (rest o)) d w (plan o (readings_at ps ts) 0 s n) ks es
      → Wave P (between (rest o)) d w [] (send w o s n ps ts ∷ ks) (S false ▸ es)
  -- in a frame, as planned: a rising edge takes the bit on D. When all is done C is back at rest
  rise' : {d w : Bool} {is : List Item} {ks : List TimedAct} {es : List Happening}
      → Wave P (inside true) d w is ks es → Wave P (inside false) d w (up d ∷ is) ks (C true ▸ es)
  fall' : {d w : Bool} {is : List Item} {ks : List TimedAct} {es : List Happening}
      → Wave P (inside false) d w is ks es → Wave P (inside true) d w (down ∷ is) ks (C false ▸ es)
  time' : {l d w : Bool} {is : List Item} {ks : List TimedAct} {es : List Happening} (t : ℕ)
      → Wave P (inside l) d w is ks es → Wave P (inside l) d w (tell t ∷ is) ks (Time t ▸ es)
  deselect' : {l d w : Bool} {ks : List TimedAct} {es : List Happening}
      → Wave P (between l) d w [] ks es → Wave P (inside l) d w [] ks (S true ▸ es)
  -- a pause begins and ends with C low; C may move meanwhile, the clock is not read
  hold' : {d w : Bool} {is : List Item} {ks : List TimedAct} {es : List Happening}
      → Wave P (paused false) d w is ks es → Wave P (inside false) d w is ks (Hold false ▸ es)
  idle' : {l d w : Bool} {is : List Item} {ks : List TimedAct} {es : List Happening} (l' : Bool)
      → Wave P (paused l') d w is ks es → Wave P (paused l) d w is ks (C l' ▸ es)
  resume' : {d w : Bool} {is : List Item} {ks : List TimedAct} {es : List Happening}
      → Wave P (inside false) d w is ks es → Wave P (paused false) d w is ks (Hold true ▸ es)

-- Demand 2's cell rule by what is clocked in: the bytes of the frame in hand as D gave them at the counted edges,
-- whatever the device keeps of them, and the cells that an accepted frame addresses.
use Rattle.std.specs.Prelude.{ℕ, ◌+◌, ◌-◌, ◌*◌, ◌%◌, ◌^◌, Bool, false, not, ◌&&◌, ◌||◌, List, [], ◌∷◌, length, eqb, leb, ltb}
use Rattle.laws.specs.Pick.{pick}
use Rattle.codes.specs.Part.{Part}
use Rattle.codes.specs.Status.{bit, on}
use Rattle.codes.specs.Instructions.{decode}
use Rattle.codes.specs.Verdicts.{is_executed}
use Rattle.chip.specs.Cells.{Cells, writes_to}
use Rattle.edges.specs.Rising.{shifted_in}
use Rattle.pins.specs.declared.Device.{Device}
use Rattle.pins.specs.declared.Event.{Event}
use Rattle.pins.specs.declared.Event.TheVariants.{S, C, D, W, Hold, Time}
use Rattle.pins.specs.Devices.{counting}
use Rattle.pins.specs.Events.{judged_now, event_of}
use Rattle.pins.specs.Answers.{PinBench, after_event}
use Rattle.pins_theorems.specs.Cells.{data_cell}

-- ---- what is clocked in since S last moved

-- the whole bytes, the latest first; the bits taken of the current byte, and their values
pub record Hand : Type 0 where
  pub bytes : List ℕ
  pub bits : ℕ
  pub partial : ℕ

abbrev pub hand : List ℕ → ℕ → ℕ → Hand
hand bytes n v = record { bytes = bytes; bits = n; partial = v }

abbrev pub no_hand : Hand
no_hand = hand [] 0 0

-- one more bit, high bit first; the eighth makes a whole byte
abbrev pub bit_taken : ℕ → Hand → Hand
bit_taken d h =
    pick (ltb h.bits 7) (hand h.bytes (h.bits + 1) (shifted_in h.partial d))
    (hand (shifted_in h.partial d ∷ h.bytes) 0 0)

-- S falling starts an empty frame and S rising ends it; a counted rising edge takes the bit on D
abbrev pub hand_after : Event → Device → Hand → Hand
hand_after (S level) x h = pick (eqb x.pins.s (bit level)) h no_hand
hand_after (C level) x h = pick (level && not (on x.pins.c) && counting x) (bit_taken x.pins.d h) h
hand_after (D level) x h = h
hand_after (W level) x h = h
hand_after (Hold level) x h = h
hand_after (Time t) x h = h

-- after a list of events
unfoldable pub clocked_in : Part → List ℕ → PinBench → Hand → Hand
clocked_in P [] b h = h
clocked_in P (e ∷ es) b h = clocked_in P es (after_event P e b) (hand_after (event_of e) b.device h)

-- ---- what the bytes say: the number of a byte is how many came before it

-- byte 0
abbrev pub code_of : List ℕ → ℕ
code_of [] = 0
code_of (v ∷ vs) = pick (eqb (length vs) 0) v (code_of vs)

-- bytes 1 to address_bytes, high byte first, each in its place
abbrev pub start_of : Part → List ℕ → ℕ
start_of P [] = 0
start_of P (v ∷ vs) =
    pick (leb 1 (length vs) && leb (length vs) P.address_bytes)
    ((start_of P vs + v * 256 ^ (P.address_bytes - length vs)) % P.size) (start_of P vs)

-- byte address_bytes + 1, the first data byte
abbrev pub first_of : Part → List ℕ → ℕ
first_of P [] = 0
first_of P (v ∷ vs) = pick (eqb (length vs) (P.address_bytes + 1)) v (first_of P vs)

-- cell i is that of some data byte: data byte j is byte address_bytes + 1 + j
abbrev pub addressed_by : Cells → Part → ℕ → List ℕ → Bool
addressed_by k P i [] = false
addressed_by k P i (v ∷ vs) =
    not (leb (length vs) P.address_bytes) && eqb (data_cell k P (start_of P vs) (length vs - (P.address_bytes + 1))) i
    || addressed_by k P i vs

-- ---- the accepted frame

-- an executed deselect of a frame that writes the cells k and addresses cell i by the bytes since its own select
abbrev pub accepts : Cells → Part → ℕ → Event → Device → Hand → Bool
accepts k P i (S level) x h =
    level && not (on x.pins.s) && is_executed (judged_now P x)
    && writes_to k (decode P (code_of h.bytes)) (start_of P h.bytes) && addressed_by k P i h.bytes
accepts k P i (C level) x h = false
accepts k P i (D level) x h = false
accepts k P i (W level) x h = false
accepts k P i (Hold level) x h = false
accepts k P i (Time t) x h = false

-- .. at some event of a list
unfoldable pub accepted_cell : Cells → Part → ℕ → List ℕ → PinBench → Hand → Bool
accepted_cell k P i [] b h = false
accepted_cell k P i (e ∷ es) b h =
    accepts k P i (event_of e) b.device h
    || accepted_cell k P i es (after_event P e b) (hand_after (event_of e) b.device h)

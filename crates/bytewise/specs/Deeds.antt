-- What an event does to the two latches, chosen without a look at either; and a device in any form after an event, a
-- frame or a reading: all else moves as it does with empty latches, and the latches by the deed.
use Rattle.std.specs.Prelude.{ℕ, suc, ◌%◌, Bool, ◌&&◌, List, [], ◌∷◌, eqb, leb, ltb}
use Rattle.laws.specs.Pick.{pick}
use Rattle.codes.specs.Part.{Part}
use Rattle.codes.specs.Status.{bit}
use Rattle.codes.specs.Instructions.{decode, picks_lock}
use Rattle.codes.specs.Verdicts.{is_executed}
use Rattle.codes.specs.declared.Instruction.{Instruction}
use Rattle.codes.specs.declared.Instruction.TheVariants.{Wren, Wrdi, Rdsr, Wrsr, Read, Write, Rdid}
use Rattle.codes.specs.declared.Instruction.TheVariants.{Wrid, Silence}
use Rattle.latch.specs.Latches.{no_latch}
use Rattle.blanks.specs.Blanks.{recounted}
use Rattle.chip.specs.Lents.{Lent, lent}
use Rattle.chip.specs.Records.{waits_page, waits_identification, waits_latch, with_blank}
use Rattle.chip.specs.Ranges.{in_ranges}
use Rattle.chip.specs.Time.{ends, timed}
use Rattle.chip.specs.declared.Waiting.{Waiting}
use Rattle.chip.specs.declared.Core.{Core}
use Rattle.edges.specs.Rising.{shifted_in}
use Rattle.edges.specs.Ranges.{latches}
use Rattle.fields.specs.Bytes.{instruction, address, payload}
use Rattle.frames.specs.After.{judged, after}
use Rattle.pins.specs.Devices.{counting, with_core}
use Rattle.pins.specs.Events.{judged_now, stepped, event_of}
use Rattle.pins.specs.Ranges.{device_fits}
use Rattle.pins.specs.declared.Device.{Device}
use Rattle.pins.specs.declared.Event.{Event}
use Rattle.pins.specs.declared.Event.TheVariants.{S, C, D, W, Hold, Time}
use Rattle.bytewise.specs.Forms.{Form, Apart, CoreApart, core_with, rest_of}

pub data Deed : Type 0 where
  -- both latches stay
  keep : Deed
  -- the frame in hand is over, or a new one begins
  empty : Deed
  -- a data byte for a cell
  latching : ℕ → ℕ → Deed
  -- an executed WRITE, or 82h for the page: what was in hand waits
  send : Deed
  -- an executed WRSR, or 82h for the lock: a status value or the lock waits, and no latch
  clear : Deed
  -- a cycle ended: what waited is stored
  finish : Deed

-- ---- of the latches

abbrev pub hand_after : {L : Type 0} → Form L → Deed → L → L
hand_after F keep h = h
hand_after F empty h = F.none
hand_after F (latching i v) h = F.latch i v h
hand_after F send h = F.none
hand_after F clear h = F.none
hand_after F finish h = h

abbrev pub waits_after : {L : Type 0} → Form L → Deed → L → L → L
waits_after F keep h w = w
waits_after F empty h w = w
waits_after F (latching i v) h w = w
waits_after F send h w = h
waits_after F clear h w = F.none
waits_after F finish h w = F.none

-- ---- which one an event does

-- an executed frame, at address a
abbrev pub executed_deed : Instruction → ℕ → Deed
executed_deed Wren a = empty
executed_deed Wrdi a = empty
executed_deed Rdsr a = empty
executed_deed Wrsr a = clear
executed_deed Read a = empty
executed_deed Write a = send
executed_deed Rdid a = empty
executed_deed Wrid a = pick (picks_lock a) clear send
executed_deed Silence a = empty

-- a whole byte v, the n-th of its frame, at address a
abbrev pub byte_deed : Part → Instruction → ℕ → ℕ → ℕ → Deed
byte_deed P Wren n v a = keep
byte_deed P Wrdi n v a = keep
byte_deed P Rdsr n v a = keep
byte_deed P Wrsr n v a = keep
byte_deed P Read n v a = keep
byte_deed P Write n v a = pick (leb n P.address_bytes) keep (latching (a % P.page) v)
byte_deed P Rdid n v a = keep
byte_deed P Wrid n v a = pick (leb n P.address_bytes) keep (pick (picks_lock a) keep (latching (a % P.page) v))
byte_deed P Silence n v a = keep

abbrev pub rising_deed : Part → Device → Deed
rising_deed P x =
    let f = x.frame in
    pick (ltb f.bits 7) keep
    (pick (eqb f.taken 0) keep
    (byte_deed P (decode P f.code) f.taken (shifted_in f.partial x.pins.d) f.address))

abbrev pub deed_of : Part → Event → Device → Deed
deed_of P (S level) x =
    pick (eqb x.pins.s (bit level)) keep
    (pick level
    (pick (is_executed (judged_now P x)) (executed_deed (decode P x.frame.code) x.frame.address) empty) empty)
deed_of P (C level) x =
    pick (eqb x.pins.c (bit level)) keep (pick level (pick (counting x) (rising_deed P x) keep) keep)
deed_of P (D level) x = keep
deed_of P (W level) x = keep
deed_of P (Hold level) x = keep
deed_of P (Time t) x = pick (ends t x.core) finish keep

-- ---- a device in any form: after an event, the lent cells after it, its ranges

-- what the end of a cycle leaves in lent cells; `theirs` says whether what waits is theirs
abbrev pub stored_cells : {L : Type 0} → (Waiting → Bool) → Form L → Core → L → List ℕ → List ℕ
stored_cells theirs F c w m = pick (theirs c.waits) (F.store c.waits.page w m) m

-- and of the number of blank cells, which is the one thing beside the cells that a latch moves
abbrev pub read_blank : {L : Type 0} → Form L → Part → ℕ → Core → L → List ℕ → ℕ
read_blank F P t c w m =
    pick (ends t c) (pick (waits_page c.waits) (recounted P c.blank m (stored_cells waits_page F c w m)) c.blank)
    c.blank

abbrev pub renumbered : ℕ → Device → Device
renumbered n x = with_core (with_blank n x.core) x

abbrev pub form_rest : {L : Type 0} → Form L → Part → Lent → Event → Apart L → Device
form_rest F P m (S level) a = rest_of (stepped P m (S level) a.rest)
form_rest F P m (C level) a = rest_of (stepped P m (C level) a.rest)
form_rest F P m (D level) a = rest_of (stepped P m (D level) a.rest)
form_rest F P m (W level) a = rest_of (stepped P m (W level) a.rest)
form_rest F P m (Hold level) a = rest_of (stepped P m (Hold level) a.rest)
form_rest F P m (Time t) a =
    renumbered (read_blank F P t a.rest.core a.waits m.memory) (rest_of (stepped P m (Time t) a.rest))

abbrev pub form_stepped : {L : Type 0} → Form L → Part → Lent → Event → Apart L → Apart L
form_stepped F P m e a =
    let d = deed_of P e a.rest in
    record {
      rest = form_rest F P m e a;
      hand = hand_after F d a.hand;
      waits = waits_after F d a.hand a.waits;
    }

abbrev pub read_cells : {L : Type 0} → (Waiting → Bool) → Form L → ℕ → Core → L → List ℕ → List ℕ
read_cells theirs F t c w m = pick (ends t c) (stored_cells theirs F c w m) m

abbrev pub form_cells : {L : Type 0} → (Waiting → Bool) → Form L → Event → Apart L → List ℕ → List ℕ
form_cells theirs F (S level) a m = m
form_cells theirs F (C level) a m = m
form_cells theirs F (D level) a m = m
form_cells theirs F (W level) a m = m
form_cells theirs F (Hold level) a m = m
form_cells theirs F (Time t) a m = read_cells theirs F t a.rest.core a.waits m

abbrev pub form_fits : {L : Type 0} → Form L → Part → Apart L → Bool
form_fits F P a =
    let f = a.rest.frame in
    F.fits (latches P (decode P f.code) f.address f.taken) a.hand
    && F.fits (waits_latch a.rest.core.waits) a.waits
    && device_fits P a.rest

-- ---- a list of events, each as a number

pub record FormBench (L : Type 0) : Type 0 where
  pub device : Apart L
  pub memory : List ℕ
  pub identification : List ℕ

abbrev pub form_next : {L : Type 0} → Form L → Part → Event → FormBench L → FormBench L
form_next F P e b =
    record {
      device = form_stepped F P (lent b.memory b.identification) e b.device;
      memory = form_cells waits_page F e b.device b.memory;
      identification = form_cells waits_identification F e b.device b.identification;
    }

unfoldable pub form_played : {L : Type 0} → Form L → Part → List ℕ → FormBench L → FormBench L
form_played F P [] b = b
form_played F P (e ∷ es) b = form_played F P es (form_next F P (event_of e) b)

-- ---- a core in any form: after a frame, after a reading, its ranges

-- data bytes into their cells, from cell i on and round within the page
unfoldable pub latched_all : {L : Type 0} → Form L → Part → ℕ → List ℕ → L → L
latched_all F P i [] l = l
latched_all F P i (v ∷ vs) l = latched_all F P (suc i) vs (F.latch (i % P.page) v l)

abbrev pub written_in : {L : Type 0} → Form L → Part → List ℕ → L
written_in F P s = latched_all F P (address P s % P.page) (payload P s) F.none

abbrev pub form_framed : {L : Type 0} → Form L → Part → Bool → Bool → List ℕ → ℕ → CoreApart L → CoreApart L
form_framed F P ran w s n a =
    record {
      rest = core_with no_latch (after P ran w a.rest s n);
      waits =
          pick (is_executed (judged P ran w a.rest s n))
          (waits_after F (executed_deed (instruction P s) (address P s)) (written_in F P s) a.waits) a.waits;
    }

abbrev pub form_read : {L : Type 0} → Form L → Part → ℕ → List ℕ → CoreApart L → CoreApart L
form_read F P t m a =
    record {
      rest = with_blank (read_blank F P t a.rest a.waits m) (timed t a.rest);
      waits = pick (ends t a.rest) F.none a.waits;
    }

abbrev pub form_core_fits : {L : Type 0} → Form L → Part → CoreApart L → Bool
form_core_fits F P a = F.fits (waits_latch a.rest.waits) a.waits && in_ranges P a.rest

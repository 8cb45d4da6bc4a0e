-- What each event does to a device with latches h and w: its deed to them, and all else as with any other latches.
use Prim.Native.Nat.{ℕ, ◌+◌}
use mathlib.Core.Bool.{Bool, true, false, not, ◌&&◌}
use mathlib.Core.List.{List}
use mathlib.Core.Path.{◌≡◌, refl}
use lib.Dec.{eqb, leb, ltb}
use Rattle.laws.specs.Pick.{pick}
use Rattle.codes.specs.Part.{Part}
use Rattle.codes.specs.Status.{bit, on}
use Rattle.codes.specs.Instructions.{decode, picks_lock}
use Rattle.codes.specs.Output.{outputs}
use Rattle.codes.specs.Verdicts.{is_executed}
use Rattle.codes.specs.declared.Instruction.{Instruction}
use Rattle.codes.specs.declared.Instruction.TheVariants.{Wren, Wrdi, Rdsr, Wrsr, Read, Write, Rdid, Wrid, Silence}
use Rattle.latch.specs.declared.Latch.{Latch}
use Rattle.chip.specs.Lents.{Lent}
use Rattle.chip.specs.Records.{running, waits_status, waits_lock, with_cycle, with_time, with_blank, without_cycle}
use Rattle.chip.specs.declared.Waiting.{Waiting}
use Rattle.chip.specs.Effects.{effect}
use Rattle.chip.specs.Time.{ends, timed, timed_blank}
use Rattle.chip.specs.declared.Core.{Core}
use Rattle.edges.specs.Frames.{no_frame, with_byte}
use Rattle.edges.specs.Rising.{shifted_in, taking, whole_byte, risen}
use Rattle.edges.specs.Falling.{loading, fallen}
use Rattle.edges.specs.declared.Frame.{Frame}
use Rattle.pins.specs.Devices.{with_s, with_c, with_pins, with_held, with_frame, with_core, counting}
use Rattle.pins.specs.Events.{judged_now, renewed, on_s, on_c, on_d, on_w, on_hold, on_time, stepped}
use Rattle.pins.specs.declared.Device.{Device}
use Rattle.pins.specs.declared.Event.{Event}
use Rattle.pins.specs.declared.Event.TheVariants.{S, C, D, W, Hold, Time}
use Rattle.bytewise.specs.Forms.{words, core_with, latches_with}
use Rattle.bytewise.specs.Deeds.{Deed, keep, empty, finish, hand_after, waits_after, executed_deed, byte_deed, rising_deed, deed_of, renumbered, form_rest}

module _ (P : Part) (h w : Latch) where
  -- y is z with the deed done to the latches
  pub record Does (y z : Device) (d : Deed) : Type 0 where
    pub done : y ≡ latches_with (hand_after (words P) d h) (waits_after (words P) d h w) z

  -- a choice, and a deed chosen with it or not
  does_in : {A : Type 0} (t : Bool) (G K : A → Device) {a b a' b' : A} {d e : Deed} → Does (G a) (K a') d → Does (G b) (K b') e
      → Does (G (pick t a b)) (K (pick t a' b')) (pick t d e)
  unfolding pick
  does_in true G K p q = p
  does_in false G K p q = q

  does_same : {A : Type 0} (t : Bool) (G K : A → Device) {a b a' b' : A} {d : Deed} → Does (G a) (K a') d → Does (G b) (K b') d
      → Does (G (pick t a b)) (K (pick t a' b')) d
  unfolding pick
  does_same true G K p q = p
  does_same false G K p q = q

  module _ (x : Device) where
    abbrev y : Device
    y = latches_with h w x

    abbrev self : Device → Device
    self z = z

    -- ---- S

    abbrev ended : Device → Core → Device
    ended z c = with_pins (with_s 1 x.pins) (with_held false (with_frame no_frame (with_core c z)))

    does_execute : (i : Instruction) (a v : ℕ)
        → Does (ended y (effect P i a v h y.core)) (ended x (effect P i a v x.frame.latch x.core)) (executed_deed i a)
    does_execute Wren a v = record { done = refl }
    does_execute Wrdi a v = record { done = refl }
    does_execute Rdsr a v = record { done = refl }
    does_execute Wrsr a v = record { done = refl }
    does_execute Read a v = record { done = refl }
    does_execute Write a v = record { done = refl }
    does_execute Rdid a v = record { done = refl }
    does_execute Wrid a v =
        does_in (picks_lock a) (λ (n : Waiting). ended y (with_cycle n y.core)) (λ (n : Waiting). ended x (with_cycle n x.core))
        (record { done = refl }) (record { done = refl })
    does_execute Silence a v = record { done = refl }

    does_s : (level : Bool) → Does (on_s P level y) (on_s P level x) (deed_of P (S level) x)
    unfolding on_s
    does_s level =
        does_in (eqb x.pins.s (bit level)) self self (record { done = refl })
        (does_in level self self
        (does_in (is_executed (judged_now P x)) (ended y) (ended x)
        (does_execute (decode P x.frame.code) x.frame.address x.frame.value) (record { done = refl }))
        (record { done = refl }))

    -- ---- C

    abbrev raised : Device → Frame → Device
    raised z f = with_pins (with_c 1 x.pins) (with_frame f z)

    does_byte : (i : Instruction) (n v : ℕ)
        → Does (raised y (taking P i n v (with_byte P y.frame))) (raised x (taking P i n v (with_byte P x.frame)))
        (byte_deed P i n v x.frame.address)
    does_byte Wren n v = record { done = refl }
    does_byte Wrdi n v = record { done = refl }
    does_byte Rdsr n v = record { done = refl }
    does_byte Wrsr n v = does_same (eqb n 1) (raised y) (raised x) (record { done = refl }) (record { done = refl })
    does_byte Read n v = does_same (leb n P.address_bytes) (raised y) (raised x) (record { done = refl }) (record { done = refl })
    does_byte Write n v = does_in (leb n P.address_bytes) (raised y) (raised x) (record { done = refl }) (record { done = refl })
    does_byte Rdid n v = does_same (leb n P.address_bytes) (raised y) (raised x) (record { done = refl }) (record { done = refl })
    does_byte Wrid n v =
        does_in (leb n P.address_bytes) (raised y) (raised x) (record { done = refl })
        (does_in (picks_lock x.frame.address) (raised y) (raised x)
        (does_same (eqb n (P.address_bytes + 1)) (raised y) (raised x) (record { done = refl }) (record { done = refl })) (record { done = refl }))
    does_byte Silence n v = record { done = refl }

    does_rise : Does (raised y (risen P (running x.core) x.pins.d y.frame))
        (raised x (risen P (running x.core) x.pins.d x.frame)) (rising_deed P x)
    unfolding risen whole_byte
    does_rise =
        does_in (ltb x.frame.bits 7) (raised y) (raised x) (record { done = refl })
        (does_in (eqb x.frame.taken 0) (raised y) (raised x) (record { done = refl })
        (does_byte (decode P x.frame.code) x.frame.taken (shifted_in x.frame.partial x.pins.d)))

    abbrev lowered : Device → Device
    lowered z = renewed (with_pins (with_c 0 x.pins) z)

    abbrev shown : Device → Frame → Device
    shown z f = lowered (with_frame f z)

    does_load : (m : Lent) (i : Instruction)
        → Does (shown y (loading P m y.core i y.frame)) (shown x (loading P m x.core i x.frame)) keep
    does_load m Wren = record { done = refl }
    does_load m Wrdi = record { done = refl }
    does_load m Rdsr = record { done = refl }
    does_load m Wrsr = record { done = refl }
    does_load m Read = record { done = refl }
    does_load m Write = record { done = refl }
    does_load m Rdid = record { done = refl }
    does_load m Wrid = record { done = refl }
    does_load m Silence = record { done = refl }

    does_fall : (m : Lent) → Does (shown y (fallen P m y.core y.frame)) (shown x (fallen P m x.core x.frame)) keep
    unfolding fallen
    does_fall m =
        does_same (outputs P (decode P x.frame.code) x.frame.taken (on x.frame.ran)) (shown y) (shown x)
        (does_same (leb 1 x.frame.shown && ltb x.frame.shown 8) (shown y) (shown x) (record { done = refl })
        (does_load m (decode P x.frame.code))) (record { done = refl })

    abbrev up : Device → Device
    up z = with_pins (with_c 1 x.pins) z

    does_c : (level : Bool) (m : Lent) → Does (on_c P level m y) (on_c P level m x) (deed_of P (C level) x)
    unfolding on_c
    does_c level m =
        does_in (eqb x.pins.c (bit level)) self self (record { done = refl })
        (does_in level self self (does_in (counting x) up up does_rise (record { done = refl }))
        (does_same (counting x) lowered lowered (does_fall m) (record { done = refl })))

    -- ---- D, W, HOLD and time

    does_hold : (level : Bool) → Does (on_hold level y) (on_hold level x) keep
    unfolding on_hold
    does_hold level = does_same (on x.pins.c) self self (record { done = refl }) (record { done = refl })

    -- the number of blank cells is y's: its latch says what is stored
    abbrev timed_to : ℕ → Device → Core → Device
    timed_to n z c = with_core (with_blank n c) z

    abbrev stopped_to : ℕ → ℕ → Device → Core → Device
    stopped_to n t z c = with_core (with_blank n (with_time t 0 (without_cycle c))) z

    does_time : (m : List ℕ) (t : ℕ) → let n = timed_blank P t y.core m in Does (on_time P t m y) (renumbered n (on_time P t m x)) (deed_of P (Time t) x)
    unfolding on_time timed
    does_time m t =
        let n = timed_blank P t y.core m in
        does_in (ends t x.core) (timed_to n y) (timed_to n x)
        (does_same (waits_status x.core.waits) (stopped_to n t y) (stopped_to n t x) (record { done = refl })
        (does_same (waits_lock x.core.waits) (stopped_to n t y) (stopped_to n t x) (record { done = refl }) (record { done = refl }))) (record { done = refl })

    -- ---- every event

    pub stepped_does : (m : Lent) (e : Event) → Does (stepped P m e y) (form_rest (words P) P m e (record { rest = x; hand = h; waits = w })) (deed_of P e x)
    unfolding on_d on_w timed_blank
    stepped_does m (S level) = record { done = (does_s level).done }
    stepped_does m (C level) = record { done = (does_c level m).done }
    stepped_does m (D level) = record { done = refl }
    stepped_does m (W level) = record { done = refl }
    stepped_does m (Hold level) = record { done = (does_hold level).done }
    stepped_does m (Time t) = record { done = (does_time m.memory t).done }

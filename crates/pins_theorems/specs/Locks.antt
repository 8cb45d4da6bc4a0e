-- The lock over events: which of them make it wait, by the frame in hand and by the bytes that are clocked in.
use Rattle.std.specs.Prelude.{ℕ, Bool, false, not, ◌&&◌, ◌||◌, List, [], ◌∷◌}
use Rattle.codes.specs.Part.{Part}
use Rattle.codes.specs.Status.{on}
use Rattle.codes.specs.Instructions.{decode, is_wrid, picks_lock, sets_lock}
use Rattle.codes.specs.Verdicts.{is_executed}
use Rattle.pins.specs.declared.Device.{Device}
use Rattle.pins.specs.declared.Event.{Event}
use Rattle.pins.specs.declared.Event.TheVariants.{S, C, D, W, Hold, Time}
use Rattle.pins.specs.Events.{judged_now, event_of}
use Rattle.pins.specs.Answers.{PinBench, after_event}
use Rattle.pins_theorems.specs.Hands.{Hand, hand_after, code_of, start_of, first_of}

-- a deselect that is executed as a setting of the lock
abbrev pub locks : Part → Event → Device → Bool
locks P (S level) x =
    level && not (on x.pins.s) && is_executed (judged_now P x)
    && (is_wrid (decode P x.frame.code) && picks_lock x.frame.address)
locks P (C level) x = false
locks P (D level) x = false
locks P (W level) x = false
locks P (Hold level) x = false
locks P (Time t) x = false

-- .. at some event of a list
unfoldable pub locks_any : Part → List ℕ → PinBench → Bool
locks_any P [] b = false
locks_any P (e ∷ es) b = locks P (event_of e) b.device || locks_any P es (after_event P e b)

-- .. of a frame that is 82h, picks the lock and sets it, by the bytes since its own select
abbrev pub accepts_lock : Part → Event → Device → Hand → Bool
accepts_lock P (S level) x h =
    level && not (on x.pins.s) && is_executed (judged_now P x)
    && (is_wrid (decode P (code_of h.bytes)) && picks_lock (start_of P h.bytes) && sets_lock (first_of P h.bytes))
accepts_lock P (C level) x h = false
accepts_lock P (D level) x h = false
accepts_lock P (W level) x h = false
accepts_lock P (Hold level) x h = false
accepts_lock P (Time t) x h = false

-- .. at some event of a list
unfoldable pub accepted_lock : Part → List ℕ → PinBench → Hand → Bool
accepted_lock P [] b h = false
accepted_lock P (e ∷ es) b h =
    accepts_lock P (event_of e) b.device h
    || accepted_lock P es (after_event P e b) (hand_after (event_of e) b.device h)

-- Events as numbers: which numbers of a list stand for one, and the number that stands for an event. What a number
-- means is `event_of` (pins/Events).
use Rattle.std.specs.Prelude.{ℕ, ◌+◌, ◌*◌, ◌/◌, ◌%◌, ◌^◌, Bool, true, ◌&&◌, ◌||◌, List, [], ◌∷◌, eqb, leb, ltb}
use Rattle.codes.specs.Status.{bit}
use Rattle.pins.specs.declared.Event.{Event}
use Rattle.pins.specs.declared.Event.TheVariants.{S, C, D, W, Hold, Time}

-- the kinds 0 to 4 set a pin, and the value is a level, 0 or 1; kind 5 gives a reading, any of 32 bits. A kind above 5,
-- or a bit above the kind, is no event
abbrev pub is_event : ℕ → Bool
is_event n =
    let kind = n / 2 ^ 32 in
    let value = n % 2 ^ 32 in
    ltb kind 5 && leb value 1 || eqb kind 5

unfoldable pub are_events : List ℕ → Bool
are_events [] = true
are_events (n ∷ ns) = is_event n && are_events ns

-- the number that stands for an event
abbrev pub number_of : Event → ℕ
number_of (S level) = bit level
number_of (C level) = 1 * 2 ^ 32 + bit level
number_of (D level) = 2 * 2 ^ 32 + bit level
number_of (W level) = 3 * 2 ^ 32 + bit level
number_of (Hold level) = 4 * 2 ^ 32 + bit level
number_of (Time t) = 5 * 2 ^ 32 + t

-- an event that has one: a reading has 32 bits, as its type says
abbrev pub has_number : Event → Bool
has_number (S level) = true
has_number (C level) = true
has_number (D level) = true
has_number (W level) = true
has_number (Hold level) = true
has_number (Time t) = ltb t (2 ^ 32)

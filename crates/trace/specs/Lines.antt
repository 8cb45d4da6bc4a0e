-- Document 01's "Trace text", line by line: what a line says, its LF included. Bytes are their ASCII numbers: 9 is the
-- tab, 10 is LF, 48 to 57 are the digits; 83 is S, 67 C, 68 D, 87 W, 72 H and 84 T.
use Rattle.std.specs.Prelude.{ℕ, ◌+◌, ◌*◌, ◌-◌, ◌^◌, Bool, true, false, ◌&&◌, List, [], ◌∷◌, eqb, ltb}
use Rattle.laws.specs.Pick.{pick}
use Rattle.pins.specs.declared.Event.{Event}
use Rattle.pins.specs.declared.Event.TheVariants.{S, C, D, W, Hold, Time}
use Rattle.lines.specs.Reading.{is_digit}

-- a line says an event, or it is bad
pub data Said : Type 0 where
  event : Event → Said
  bad : Said

abbrev pub is_empty : List ℕ → Bool
is_empty [] = true
is_empty (b ∷ l) = false

-- LF, and nothing after it
abbrev pub end_says : Event → List ℕ → Said
end_says e [] = bad
end_says e (b ∷ l) = pick (eqb b 10 && is_empty l) (event e) bad

-- a level is 0 or 1
abbrev pub level_says : (Bool → Event) → List ℕ → Said
level_says sets [] = bad
level_says sets (b ∷ l) = pick (eqb b 48) (end_says (sets false) l) (pick (eqb b 49) (end_says (sets true) l) bad)

-- the digits that follow those whose number is v; the reading is 4294967295 at most
unfoldable pub digits_say : ℕ → List ℕ → Said
digits_say v [] = bad
digits_say v (b ∷ l) =
    pick (is_digit b) (digits_say (v * 10 + (b - 48)) l) (pick (ltb v (2 ^ 32)) (end_says (Time v) (b ∷ l)) bad)

-- a reading is decimal, without a leading zero: where the first digit is 0 it is the only one
abbrev pub reading_says : List ℕ → Said
reading_says [] = bad
reading_says (b ∷ l) = pick (eqb b 48) (end_says (Time 0) l) (pick (is_digit b) (digits_say (b - 48) l) bad)

-- the fields are parted by one tab
abbrev pub tab_says : (List ℕ → Said) → List ℕ → Said
tab_says value [] = bad
tab_says value (b ∷ l) = pick (eqb b 9) (value l) bad

-- S, C, D, W or H with a level; T with a reading
unfoldable pub line_says : List ℕ → Said
line_says [] = bad
line_says (b ∷ l) =
    pick (eqb b 83) (tab_says (level_says S) l)
    (pick (eqb b 67) (tab_says (level_says C) l)
    (pick (eqb b 68) (tab_says (level_says D) l)
    (pick (eqb b 87) (tab_says (level_says W) l)
    (pick (eqb b 72) (tab_says (level_says Hold) l) (pick (eqb b 84) (tab_says reading_says l) bad)))))

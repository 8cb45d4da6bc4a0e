-- A text byte by byte: the line in hand after each, and the events of the lines that end. What it has to do with whole
-- lines is a theorem of `trace` (its proofs/Whole.antt).
use Rattle.std.specs.Prelude.{ℕ, ◌+◌, ◌*◌, ◌-◌, ◌^◌, min, Bool, ◌&&◌, ◌||◌, List, [], ◌∷◌, ◌++◌, eqb, leb, ltb}
use Rattle.std.specs.Prelude.{Option, Some, None}
use Rattle.laws.specs.Pick.{pick}
use Rattle.lines.specs.declared.Line.{Line}

-- the kind of event that a name gives, as the pin model's list of events numbers them: S, C, D, W and H set a pin, T
-- reads the clock; 6 is no name
unfoldable pub kind_of : ℕ → ℕ
kind_of b =
    pick (eqb b 83) 0
    (pick (eqb b 67) 1 (pick (eqb b 68) 2 (pick (eqb b 87) 3 (pick (eqb b 72) 4 (pick (eqb b 84) 5 6)))))

-- the same as a function gives it: None for no name
abbrev pub kind_named : ℕ → Option ℕ
kind_named b = pick (ltb (kind_of b) 6) (Some (kind_of b)) None

-- the number of an event in such a list: the kind above the low 32 bits, which are the level or the reading
abbrev pub event_number : ℕ → ℕ → ℕ
event_number kind value = kind * 2 ^ 32 + value

abbrev pub is_digit : ℕ → Bool
is_digit b = leb 48 b && leb b 57

-- four bytes that are a line of a level: a pin's name, a tab, 0 or 1, LF
abbrev pub is_level_line : ℕ → ℕ → ℕ → ℕ → Bool
is_level_line name tab level end = ltb (kind_of name) 5 && eqb tab 9 && (eqb level 48 || eqb level 49) && eqb end 10

-- ---- the line in hand

abbrev pub line_at : ℕ → ℕ → ℕ → ℕ → Line
line_at whole place kind value = record { whole = whole; place = place; kind = kind; value = value }

-- at the start of a line
abbrev pub fresh : ℕ → Line
fresh whole = line_at whole 0 0 0

-- the text has had its bad line: nothing after it is looked at
abbrev pub stopped : ℕ → Line
stopped whole = line_at whole 5 0 0

abbrev pub is_stopped : Line → Bool
is_stopped l = eqb l.place 5

-- ---- what the next byte makes of the line, by the place in it

-- the name, unless a million lines are whole
abbrev pub named : Line → ℕ → Line
named l b = pick (ltb l.whole 1000000 && ltb (kind_of b) 6) (line_at l.whole 1 (kind_of b) 0) (stopped l.whole)

abbrev pub tabbed : Line → ℕ → Line
tabbed l b = pick (eqb b 9) (line_at l.whole 2 l.kind 0) (stopped l.whole)

-- the first byte of the value: more may follow it in a reading that does not begin with 0
abbrev pub begun : Line → ℕ → Line
begun l b =
    pick (eqb b 48) (line_at l.whole 3 l.kind 0)
    (pick (ltb l.kind 5) (pick (eqb b 49) (line_at l.whole 3 l.kind 1) (stopped l.whole))
    (pick (is_digit b) (line_at l.whole 4 l.kind (b - 48)) (stopped l.whole)))

-- the count stays at a million, which no line in hand inside its ranges has reached
abbrev pub closed : Line → ℕ → Line
closed l b = pick (eqb b 10) (fresh (min 1000000 (l.whole + 1))) (stopped l.whole)

abbrev pub longer : Line → ℕ → Line
longer l b =
    pick (ltb (l.value * 10 + (b - 48)) (2 ^ 32)) (line_at l.whole 4 l.kind (l.value * 10 + (b - 48)))
    (stopped l.whole)

abbrev pub counted : Line → ℕ → Line
counted l b = pick (is_digit b) (longer l b) (closed l b)

unfoldable pub next : Line → ℕ → Line
next l b =
    pick (eqb l.place 0) (named l b)
    (pick (eqb l.place 1) (tabbed l b)
    (pick (eqb l.place 2) (begun l b)
    (pick (eqb l.place 3) (closed l b) (pick (eqb l.place 4) (counted l b) l))))

-- LF after a whole value ends the line
abbrev pub closes : Line → ℕ → Bool
closes l b = eqb b 10 && (eqb l.place 3 || eqb l.place 4)

abbrev pub said : Line → ℕ → List ℕ
said l b = pick (closes l b) (event_number l.kind l.value ∷ []) []

-- ---- a run of bytes

unfoldable pub read : Line → List ℕ → Line
read l [] = l
read l (b ∷ x) = read (next l b) x

unfoldable pub found : Line → List ℕ → List ℕ
found l [] = []
found l (b ∷ x) = said l b ++ found (next l b) x

-- the end of the text: a line in hand has no LF, so it is bad
unfoldable pub ended : Line → Line
ended l = pick (eqb l.place 0) l (stopped l.whole)

-- ---- the ranges of a line in hand: at most a million lines are whole, and fewer while one is in hand; what it has not
-- reached is 0

abbrev pub value_fits : Line → Bool
value_fits l =
    pick (leb l.place 2) (eqb l.value 0) (pick (eqb l.place 3) (leb l.value 1) (eqb l.kind 5))

abbrev pub hand_fits : Line → Bool
hand_fits l = ltb l.whole 1000000 && leb l.kind 5 && value_fits l

abbrev pub none_fits : Line → Bool
none_fits l = leb l.whole 1000000 && eqb l.kind 0 && eqb l.value 0

unfoldable pub line_fits : Line → Bool
line_fits l = pick (eqb l.place 0 || is_stopped l) (none_fits l) (ltb l.place 5 && hand_fits l)

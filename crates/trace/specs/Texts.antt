-- The whole output of a whole text, from document 01's "Trace text". It is played on the part n as delivered; document
-- 01's is 0, the M95512.
use Rattle.std.specs.Prelude.{ℕ, zero, suc, ◌+◌, Bool, true, not, ◌&&◌, List, [], ◌∷◌, ◌++◌, map, length, eqb}
use Rattle.laws.specs.Pick.{pick}
use Rattle.codes.specs.Part.{part_of}
use Rattle.pins.specs.Answers.{PinBench, played}
use Rattle.pins.specs.declared.Event.{Event}
use Rattle.events.specs.Events.{number_of}
use Rattle.lists.specs.Answers.{played_q}
use Rattle.printing.specs.Printing.{header, bad_line, printed}
use Rattle.player.specs.Players.{start_bench}
use Rattle.trace.specs.Lines.{Said, event, bad, is_empty, line_says}

-- ---- lines: the first line of a text ends with its LF, or with the text

unfoldable pub first_line : List ℕ → List ℕ
first_line [] = []
first_line (b ∷ text) = b ∷ pick (eqb b 10) [] (first_line text)

unfoldable pub after_line : List ℕ → List ℕ
after_line [] = []
after_line (b ∷ text) = pick (eqb b 10) text (after_line text)

-- ---- the events of the lines before the first bad one. A line past the first n is bad. (What follows a line is looked
-- at only where the line is good.)

abbrev pub good_then : Said → (Unit {0} → List Event) → List Event
good_then (event e) es = e ∷ es tt
good_then bad es = []

unfoldable pub good_lines : ℕ → List ℕ → List Event
good_lines zero text = []
good_lines (suc n) text = good_then (line_says (first_line text)) (λ _. good_lines n (after_line text))

-- whether a bad line comes after them: a text that is empty has none
abbrev pub bad_then : Said → (Unit {0} → Bool) → Bool
bad_then (event e) t = t tt
bad_then bad t = true

unfoldable pub has_bad : ℕ → List ℕ → Bool
has_bad zero text = not (is_empty text)
has_bad (suc n) text = not (is_empty text) && bad_then (line_says (first_line text)) (λ _. has_bad n (after_line text))

abbrev pub text_events : List ℕ → List Event
text_events text = good_lines 1000000 text

-- as the pin model's list takes them: the number that stands for each, and means it (`text-means`, trace/Said)
abbrev pub text_numbers : List ℕ → List ℕ
text_numbers text = map number_of (text_events text)

abbrev pub text_is_bad : List ℕ → Bool
text_is_bad text = has_bad 1000000 text

-- the device and what is lent to it after the last good line
abbrev pub text_bench : ℕ → List ℕ → PinBench
text_bench n text = played (part_of n) (text_numbers text) (start_bench n)

-- ---- the output

unfoldable pub text_output : ℕ → List ℕ → List ℕ
text_output n text =
    header ++ (printed 1 (played_q (part_of n) (text_numbers text) (start_bench n))
    ++ pick (text_is_bad text) (bad_line (length (text_events text) + 1)) [])

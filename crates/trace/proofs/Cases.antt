-- Document 01's example, on its M95512, and the empty text, on any part, computed of the definitions.
use mathlib.Core.Path.{◌≡◌, refl}
use mathlib.Core.List.{[], ◌∷◌}
use Prim.Native.Nat.{ℕ}
use Rattle.laws.specs.Pick.{pick}
use Rattle.pins.specs.Answers.{played}
use Rattle.lists.specs.Answers.{played_q}
use Rattle.pins.specs.Events.{on_s, on_c}
use Rattle.edges.specs.Rising.{risen}
use Rattle.pins.specs.Devices.{q}
use Rattle.printing.specs.Digits.{digits, decimal}
use Rattle.trace.specs.Lines.{digits_say, line_says}
use Rattle.printing.specs.Printing.{header, good_line, bad_line, printed}
use Rattle.trace.specs.Texts.{first_line, after_line, good_lines, has_bad, text_output}

-- S⇥0, C⇥1, X⇥1
example : text_output 0 (83 ∷ 9 ∷ 48 ∷ 10 ∷ 67 ∷ 9 ∷ 49 ∷ 10 ∷ 88 ∷ 9 ∷ 49 ∷ 10 ∷ [])
    ≡ (108 ∷ 105 ∷ 110 ∷ 101 ∷ 9 ∷ 113 ∷ 10 ∷ 49 ∷ 9 ∷ 90 ∷ 10 ∷ 50 ∷ 9 ∷ 90 ∷ 10 ∷ 51 ∷ 9 ∷ 98 ∷ 97 ∷ 100 ∷ 10 ∷ [])
unfolding pick played played_q on_s on_c risen q digits decimal digits_say line_says first_line after_line good_lines has_bad header good_line bad_line printed text_output
example = refl

pub nothing : (n : ℕ) → text_output n [] ≡ header
unfolding pick played played_q on_s on_c q digits decimal digits_say line_says first_line after_line good_lines has_bad header good_line bad_line printed text_output
nothing n = refl

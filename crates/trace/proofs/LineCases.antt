-- The edges of a line, computed of the definitions.
use mathlib.Core.Path.{◌≡◌, refl}
use mathlib.Core.List.{[], ◌∷◌}
use Rattle.laws.specs.Pick.{pick}
use mathlib.Core.Bool.{true}
use Rattle.pins.specs.declared.Event.TheVariants.{Hold, Time}
use Rattle.trace.specs.Lines.{event, bad, digits_say, line_says}

-- ---- good ones: T⇥0, T⇥4294967295, H⇥1

zero_reading : line_says (84 ∷ 9 ∷ 48 ∷ 10 ∷ []) ≡ event (Time 0)
unfolding pick line_says
zero_reading = refl

last_reading : line_says (84 ∷ 9 ∷ 52 ∷ 50 ∷ 57 ∷ 52 ∷ 57 ∷ 54 ∷ 55 ∷ 50 ∷ 57 ∷ 53 ∷ 10 ∷ []) ≡ event (Time 4294967295)
unfolding pick digits_say line_says
last_reading = refl

hold_high : line_says (72 ∷ 9 ∷ 49 ∷ 10 ∷ []) ≡ event (Hold true)
unfolding pick line_says
hold_high = refl

-- ---- bad ones: one reading too many, a leading zero, a sign, CR LF, no LF, an empty line, two tabs, S with 2, a NUL after the level

past_reading : line_says (84 ∷ 9 ∷ 52 ∷ 50 ∷ 57 ∷ 52 ∷ 57 ∷ 54 ∷ 55 ∷ 50 ∷ 57 ∷ 54 ∷ 10 ∷ []) ≡ bad
unfolding pick digits_say line_says
past_reading = refl

leading_zero : line_says (84 ∷ 9 ∷ 48 ∷ 49 ∷ 10 ∷ []) ≡ bad
unfolding pick digits_say line_says
leading_zero = refl

signed : line_says (84 ∷ 9 ∷ 43 ∷ 49 ∷ 10 ∷ []) ≡ bad
unfolding pick digits_say line_says
signed = refl

cr_lf : line_says (84 ∷ 9 ∷ 49 ∷ 13 ∷ 10 ∷ []) ≡ bad
unfolding pick digits_say line_says
cr_lf = refl

no_lf : line_says (83 ∷ 9 ∷ 49 ∷ []) ≡ bad
unfolding pick line_says
no_lf = refl

empty_line : line_says (10 ∷ []) ≡ bad
unfolding pick line_says
empty_line = refl

two_tabs : line_says (83 ∷ 9 ∷ 9 ∷ 49 ∷ 10 ∷ []) ≡ bad
unfolding pick line_says
two_tabs = refl

level_two : line_says (83 ∷ 9 ∷ 50 ∷ 10 ∷ []) ≡ bad
unfolding pick line_says
level_two = refl

nul_after : line_says (83 ∷ 9 ∷ 49 ∷ 0 ∷ 10 ∷ []) ≡ bad
unfolding pick line_says
nul_after = refl

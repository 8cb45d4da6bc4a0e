-- What the lines say are events: the numbers that a run of bytes gives are, and those of a text mean the events that its lines say.
use mathlib.Core.Path.{◌≡◌, refl, ap₂, sym, ◌∙◌}
use mathlib.Core.Bool.{Bool, true, false, ◌&&◌, ◌||◌}
use mathlib.Core.List.{List, [], ◌∷◌, map}
use Prim.Native.Nat.{ℕ, zero, suc, ◌+◌, ◌*◌, ◌-◌, ◌^◌, ◌<◌}
use lib.Dec.{eqb, ltb}
use Rattle.laws.specs.Pick.{pick_case, and_right, and_both}
use Rattle.pins.specs.declared.Event.{Event}
use Rattle.pins.specs.declared.Event.TheVariants.{S, C, D, W, Hold, Time}
use Rattle.pins.specs.Events.{event_of}
use Rattle.events.specs.Events.{are_events, number_of, has_number}
use Rattle.events.proofs.Numbers.{none_are, one_is, both_are, event_is, number_means}
use Rattle.lines.specs.declared.Line.{Line}
use Rattle.lines.specs.Reading.{event_number, is_digit, next, closes, said, found, line_fits}
use Rattle.lines.proofs.Hand.{next_fits, next_small, value_out}
use Rattle.trace.specs.Lines.{Said, event, bad, is_empty, end_says, level_says, digits_say, reading_says, tab_says, line_says}
use Rattle.trace.specs.Texts.{first_line, after_line, good_then, good_lines, text_events, text_numbers}

-- ---- by bytes: the numbers that the lines give

said_are : (l : Line) (b : ℕ) → line_fits l ≡ true → l.value < 2 ^ 32 → are_events (said l b) ≡ true
said_are l b f s =
    pick_case (λ (ns : List ℕ). are_events ns ≡ true) (closes l b)
    (λ e. let v = value_out l f (and_right (eqb b 10) (eqb l.place 3 || eqb l.place 4) e) in
    one_is (event_number l.kind l.value) ∙ event_is l.kind l.value v.0 v.1 s)
    (λ e. sym none_are)

pub found_are : (l : Line) (x : List ℕ) → line_fits l ≡ true → l.value < 2 ^ 32 → are_events (found l x) ≡ true
unfolding found
found_are l [] f s = sym none_are
found_are l (b ∷ x) f s =
    both_are (said l b) (found (next l b) x)
    ∙ and_both (are_events (said l b)) (are_events (found (next l b) x)) (said_are l b f s) (found_are (next l b) x (next_fits l b f) (next_small l b s))

-- ---- by whole lines: every event that a line says has a number, so the numbers that are played mean the lines' events

abbrev Numbered : Said → Type 0
Numbered (event e) = has_number e ≡ true
Numbered bad = Unit {0}

end_numbered : (e : Event) (l : List ℕ) → has_number e ≡ true → Numbered (end_says e l)
end_numbered e [] h = tt
end_numbered e (b ∷ l) h = pick_case Numbered (eqb b 10 && is_empty l) (λ _. h) (λ _. tt)

level_numbered : (sets : Bool → Event) (l : List ℕ) → ((v : Bool) → has_number (sets v) ≡ true) → Numbered (level_says sets l)
level_numbered sets [] h = tt
level_numbered sets (b ∷ l) h =
    pick_case Numbered (eqb b 48) (λ _. end_numbered (sets false) l (h false))
    (λ _. pick_case Numbered (eqb b 49) (λ _. end_numbered (sets true) l (h true)) (λ _. tt))

digits_numbered : (v : ℕ) (l : List ℕ) → Numbered (digits_say v l)
unfolding digits_say
digits_numbered v [] = tt
digits_numbered v (b ∷ l) =
    pick_case Numbered (is_digit b) (λ _. digits_numbered (v * 10 + (b - 48)) l)
    (λ _. pick_case Numbered (ltb v (2 ^ 32)) (λ e. end_numbered (Time v) (b ∷ l) e) (λ _. tt))

reading_numbered : (l : List ℕ) → Numbered (reading_says l)
reading_numbered [] = tt
reading_numbered (b ∷ l) =
    pick_case Numbered (eqb b 48) (λ _. end_numbered (Time 0) l refl)
    (λ _. pick_case Numbered (is_digit b) (λ _. digits_numbered (b - 48) l) (λ _. tt))

tab_numbered : (value : List ℕ → Said) (l : List ℕ) → ((k : List ℕ) → Numbered (value k)) → Numbered (tab_says value l)
tab_numbered value [] h = tt
tab_numbered value (b ∷ l) h = pick_case Numbered (eqb b 9) (λ _. h l) (λ _. tt)

line_numbered : (l : List ℕ) → Numbered (line_says l)
unfolding line_says
line_numbered [] = tt
line_numbered (b ∷ l) =
    let pin : (sets : Bool → Event) → ((v : Bool) → has_number (sets v) ≡ true) → Numbered (tab_says (level_says sets) l) =
    λ sets h. tab_numbered (level_says sets) l (λ k. level_numbered sets k h) in
    pick_case Numbered (eqb b 83) (λ _. pin S (λ v. refl))
    (λ _. pick_case Numbered (eqb b 67) (λ _. pin C (λ v. refl))
    (λ _. pick_case Numbered (eqb b 68) (λ _. pin D (λ v. refl))
    (λ _. pick_case Numbered (eqb b 87) (λ _. pin W (λ v. refl))
    (λ _. pick_case Numbered (eqb b 72) (λ _. pin Hold (λ v. refl))
    (λ _. pick_case Numbered (eqb b 84) (λ _. tab_numbered reading_says l reading_numbered) (λ _. tt))))))

-- the first line and those after it
means_then : (A : Said) (es : List Event) → Numbered A → map event_of (map number_of es) ≡ es
    → map event_of (map number_of (good_then A (λ _. es))) ≡ good_then A (λ _. es)
means_then (event e) es h m = ap₂ (λ d ds. d ∷ ds) (number_means e h) m
means_then bad es h m = refl

lines_mean : (n : ℕ) (x : List ℕ) → map event_of (map number_of (good_lines n x)) ≡ good_lines n x
unfolding good_lines
lines_mean zero x = refl
lines_mean (suc n) x = means_then (line_says (first_line x)) (good_lines n (after_line x)) (line_numbered (first_line x)) (lines_mean n (after_line x))

pub text_means : (x : List ℕ) → map event_of (text_numbers x) ≡ text_events x
text_means x = lines_mean 1000000 x

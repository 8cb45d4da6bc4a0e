-- The whole run: nothing for no data, a first wait that used its limit, data that touches the protected block, or the page parts.
use mathlib.Core.Path.{◌≡◌, ◌∙◌}
use mathlib.Core.Bool.{Bool, true, false}
use mathlib.Core.List.{List, []}
use Prim.Native.Nat.{ℕ}
use lib.ListN.{length}
use borrow.Author.Tests.{eq-eqb, ne_eqb}
use Rattle.laws.specs.Pick.{at_yes, at_no}
use Rattle.codes.specs.Part.{Part}
use Rattle.chip.specs.Records.{running}
use Rattle.frames.specs.Play.{Act, FrameBench, acted_all}
use Rattle.sequence.specs.Sequence.{first_wait, all_done, timed_out, protected, Run, stopped, begun, all_parts, touches, run}

module _ (P : Part) (i limit a : ℕ) (bytes : List ℕ) (d : FrameBench) where
  abbrev pub first : List Act
  first = first_wait P i limit d

  abbrev pub rested : FrameBench
  rested = acted_all P first d

  abbrev whole : Run
  whole = run P i limit a bytes d

  -- ---- its four ways

  pub run_none : length bytes ≡ 0 → whole ≡ stopped [] all_done
  unfolding run
  run_none e = at_yes _ _ (eq-eqb _ _ e)

  pub run_late : (length bytes ≡ 0 → ⊥) → running rested.core ≡ true → whole ≡ stopped first timed_out
  unfolding run
  run_late n r = at_no _ _ (ne_eqb _ _ n) ∙ at_yes _ _ r

  abbrev touched : FrameBench → Bool
  touched x = touches P x.core a (length bytes)

  pub run_touches : (length bytes ≡ 0 → ⊥) → running rested.core ≡ false → touched rested ≡ true → whole ≡ stopped first protected
  unfolding run
  run_touches n r t = at_no _ _ (ne_eqb _ _ n) ∙ at_no _ _ r ∙ at_yes _ _ t

  pub run_parts : (length bytes ≡ 0 → ⊥) → running rested.core ≡ false → touched rested ≡ false
      → whole ≡ begun first (all_parts P i limit a bytes rested)
  unfolding run
  run_parts n r t = at_no _ _ (ne_eqb _ _ n) ∙ at_no _ _ r ∙ at_no _ _ t

-- A list of events, taken from its front: one more at its end, and Q after each.
use mathlib.Core.Path.{◌≡◌, refl, ap, ◌∙◌}
use mathlib.Core.List.{List, [], ◌∷◌, ◌++◌}
use Prim.Native.Nat.{ℕ, zero, suc, ◌<◌}
use native.Mathlib.Omega.{arith}
use lib.ListN.{length, take, get_or}
use lib.Seq.{take-suc}
use Rattle.codes.specs.Part.{Part}
use Rattle.pins.specs.Devices.{q}
use Rattle.edges.specs.Falling.{level_number}
use Rattle.pins.specs.Answers.{PinBench, after_event, played}
use Rattle.lists.specs.Answers.{played_q}

module _ (P : Part) where
  played_end : (es : List ℕ) (e : ℕ) (b : PinBench) → played P (es ++ (e ∷ [])) b ≡ after_event P e (played P es b)
  unfolding played
  played_end [] e b = refl
  played_end (d ∷ es) e b = played_end es e (after_event P d b)

  pub played_none : (es : List ℕ) (b : PinBench) → b ≡ played P (take 0 es) b
  unfolding played
  played_none es b = refl

  pub played_more : (es : List ℕ) (i : ℕ) (b : PinBench) → i < length es → played P (take (suc i) es) b ≡ after_event P (get_or es i 0) (played P (take i es) b)
  played_more es i b h = ap (λ (l : List ℕ). played P l b) (take-suc es i 0 h) ∙ played_end (take i es) (get_or es i 0) b

  pub q_length : (es : List ℕ) (b : PinBench) → length (played_q P es b) ≡ length es
  unfolding played_q
  q_length [] b = refl
  q_length (e ∷ es) b = ap suc (q_length es (after_event P e b))

  pub q_at : (es : List ℕ) (i : ℕ) (b : PinBench) → i < length es → get_or (played_q P es b) i 0 ≡ level_number (q (played P (take (suc i) es) b).device)
  unfolding played played_q
  q_at [] i b h = absurd (omega arith)
  q_at (e ∷ es) zero b h = refl
  q_at (e ∷ es) (suc i) b h = q_at es i (after_event P e b) (omega arith)

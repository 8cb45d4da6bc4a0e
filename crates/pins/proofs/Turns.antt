-- S or C put to the level that it does not have is the edge to it. `put` is that level as code counts it.
use mathlib.Core.Path.{◌≡◌, sym, ◌∙◌}
use mathlib.Core.Bool.{Bool, true, false}
use Prim.Native.Nat.{ℕ}
use lib.Dec.{eqb}
use Rattle.laws.specs.Pick.{pick, ne_so, yes_so, no_so}

pub turned_up : {A : Type 0} {was put n : ℕ} {level : Bool} {r up : A} (same down : A) → (was ≡ put → ⊥) → put ≡ n → level ≡ true → r ≡ up
    → r ≡ pick (eqb was n) same (pick level up down)
turned_up same down other e high p = ne_so same (λ q. other (q ∙ sym e)) (yes_so down high p)

pub turned_down : {A : Type 0} {was put n : ℕ} {level : Bool} {r down : A} (same up : A) → (was ≡ put → ⊥) → put ≡ n → level ≡ false → r ≡ down
    → r ≡ pick (eqb was n) same (pick level up down)
turned_down same up other e low p = ne_so same (λ q. other (q ∙ sym e)) (no_so up low p)

-- An answer that is the right one has the right number.
use mathlib.Core.Path.{◌≡◌, ap, ◌∙◌}
use Prim.Native.Nat.{ℕ}
use Rattle.laws.specs.Pick.{pick_ap, pick_cong}
use Rattle.codes.specs.Refusals.{number}
use Rattle.latch.specs.declared.Latch.{Latch}
use Rattle.laying.specs.declared.Laid.{Laid}
use Rattle.laying.specs.Laying.{room_fits, laid_over, lay_number}

pub laid_answered : (l k : Latch) {r : Laid} → r ≡ laid_over l k
    → record { value : r ≡ laid_over l k; as_number : number r.outcome ≡ lay_number l k }
laid_answered l k e =
    let f : Laid → ℕ = λ x. number x.outcome in
    record {
      value = e;
      as_number = ap f e ∙ pick_ap f (room_fits l) _ _ ∙ pick_cong (room_fits l) 2 (λ q. pick_ap f (room_fits k) _ _);
    }

-- At each row both are computed.
use Prim.Native.Nat.{ℕ, ◌-◌}
use mathlib.Core.List.{List, ◌++◌}
use mathlib.Core.Path.{◌≡◌, refl}
use lib.ListN.{length, take, replicate, set}
use Rattle.codes.specs.Part.{Part, room}
use Rattle.codes.proofs.Parts.{of_megabit, of_others}
use Rattle.chip.specs.Power.{delivered_identification}
use Rattle.player.proofs.identification.Goals as goal

abbrev Delivers : List ℕ → Part → Type 0
Delivers r P =
    record {
      value : r ≡ P.identity ++ replicate (room - length P.identity) 0xff;
      as_delivered : take P.page r ≡ delivered_identification P;
    }

pub returns-then-part-eq-M95M01 : goal.returns-then-part-eq-M95M01
returns-then-part-eq-M95M01 c = of_megabit (Delivers (set (set (set (replicate room 0xff) 0 0x20) 1 0x00) 2 0x11)) c.if-part-eq-M95M01.true record { value = refl; as_delivered = refl }

pub returns-else-part-eq-M95M01 : goal.returns-else-part-eq-M95M01
returns-else-part-eq-M95M01 c = of_others (Delivers (replicate room 0xff)) c.if-part-eq-M95M01.false record { value = refl; as_delivered = refl } record { value = refl; as_delivered = refl }

-- WRDI in a cycle: a part that has it so clears WEL and changes nothing else, time left and what waits included; on any
-- other the cycle stops it.
use mathlib.Core.Path.{◌≡◌, refl}
use mathlib.Core.Bool.{Bool, true, false}
use mathlib.Core.List.{[], ◌∷◌}
use Rattle.laws.specs.Pick.{pick}
use Rattle.codes.specs.Part.{Part}
use Rattle.codes.specs.Instructions.{wrdi_code, decode}
use Rattle.codes.specs.Verdicts.{verdict_by}
use Rattle.chip.specs.Records.{running, with_wel}
use Rattle.chip.specs.declared.Core.{Core}
use Rattle.frames.specs.After.{after}

module _ (P : Part) (w : Bool) (c : Core) where
  pub wrdi_clears : P.wrdi_in_cycle ≡ true → after P (running c) w c (wrdi_code ∷ []) 8 ≡ with_wel 0 c
  unfolding pick decode verdict_by
  wrdi_clears e = rw e refl

  pub wrdi_stopped : P.wrdi_in_cycle ≡ false → running c ≡ true → after P (running c) w c (wrdi_code ∷ []) 8 ≡ c
  unfolding pick decode verdict_by
  wrdi_stopped e r = rw (e, r) refl

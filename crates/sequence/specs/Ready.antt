-- A device that no call of the driver refuses: memory and identification page of the part's sizes, and a record inside
-- its ranges.
use Rattle.std.specs.Prelude.{◌≡◌, true, length}
use Rattle.codes.specs.Part.{Part}
use Rattle.chip.specs.Ranges.{in_ranges}
use Rattle.frames.specs.Play.{FrameBench}

pub record Ready (P : Part) (d : FrameBench) : Type 0 where
  pub whole : length d.memory ≡ P.size
  pub page : length d.identification ≡ P.page
  pub ranges : in_ranges P d.core ≡ true

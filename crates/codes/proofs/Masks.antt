-- A mask in the place of a remainder by the page or by the size: laws of a sound part.
use Prim.Native.Nat.{ℕ, ◌-◌, ◌%◌, ◌<◌}
use mathlib.Core.Path.{◌≡◌}
use lib.Bits.{bit_and, and_mask}
use native.Mathlib.Nat.{mod-lt}
use Rattle.codes.specs.Part.{Part}
use Rattle.codes.proofs.Sound.{Sound}

module _ {P : Part} (s : Sound P) (a : ℕ) where
  pub page_mask : bit_and a (P.page - 1) ≡ a % P.page
  page_mask = rw (← s.page_power) (and_mask a s.page_bits)

  pub size_mask : bit_and a (P.size - 1) ≡ a % P.size
  size_mask = rw (← s.size_power) (and_mask a s.size_bits)

  pub offset_below : a % P.page < P.page
  offset_below = mod-lt a s.page_some

-- What the proofs need of a part's sizes, each a fact of its numbers, and that every row has it: a law is
-- stated for a sound part.
use Prim.Native.Nat.{ℕ, ◌+◌, ◌-◌, ◌*◌, ◌/◌, ◌^◌, ◌<◌, ◌≤◌, ◌∣◌}
use mathlib.Core.Path.{◌≡◌, refl}
use mathlib.Core.Bool.{Bool, true, false}
use native.Mathlib.Nat.{dvd-mul_right}
use native.Mathlib.Omega.{arith}
use lib.Dec.{lit≤}
use Rattle.codes.specs.Part.{Part, row_with, m95512, m95m01, part_of, pages, room}
use Rattle.codes.proofs.Parts.{of_each}

pub record Sound (P : Part) : Type 0 where
  -- there is a page, and a memory
  pub page_some : 0 < P.page
  pub size_some : 0 < P.size
  -- the pages fill the memory
  pub whole : pages P * P.page ≡ P.size
  -- and each of its quarters, by which it is protected
  pub quarter : ℕ
  pub quarters : P.size ≡ 4 * (quarter * P.page)
  -- words of marks have a bit for each cell of a page, and no other; an array has room for it
  pub marks_whole : P.page / 64 * 64 ≡ P.page
  pub page_room : P.page ≤ room
  -- page and memory are powers of two: a mask finds the place in each
  pub page_bits : ℕ
  pub page_power : 2 ^ page_bits ≡ P.page
  pub size_bits : ℕ
  pub size_power : 2 ^ size_bits ≡ P.size
  -- an address has a byte, and its bytes reach every cell
  pub bytes_some : 1 ≤ P.address_bytes
  pub reached : P.size ≤ 256 ^ P.address_bytes
  -- each address byte but the first has a place of its own in the size
  pub placed : 256 ^ (P.address_bytes - 1) ∣ P.size
  -- the count of whole bytes goes on past the first data byte, so that a lock frame with more bits is told apart
  pub counted : P.address_bytes + 3 ≤ P.most
  -- the addresses of a page are alike in the bit that picks the lock
  pub alike : P.page * (2 ^ 10 / P.page) ≡ 2 ^ 10
  -- there is a cycle, and a counter of 32 bits can read the longest
  pub longest_some : 1 ≤ P.longest
  pub longest_read : P.longest < 2 ^ 32

-- the two rows of the M95512 differ in no size
row_sound : (d : Bool) → Sound (row_with d)
row_sound d =
    record {
      page_some = omega arith;
      size_some = omega arith;
      whole = refl;
      quarter = 128;
      quarters = refl;
      marks_whole = refl;
      page_room = lit≤ tt;
      page_bits = 7;
      page_power = refl;
      size_bits = 16;
      size_power = refl;
      bytes_some = omega arith;
      reached = lit≤ tt;
      placed = dvd-mul_right 256 256;
      counted = omega arith;
      alike = refl;
      longest_some = omega arith;
      longest_read = lit≤ tt;
    }

pub m95512_sound : Sound m95512
m95512_sound = row_sound false

pub m95m01_sound : Sound m95m01
m95m01_sound =
    record {
      page_some = omega arith;
      size_some = omega arith;
      whole = refl;
      quarter = 128;
      quarters = refl;
      marks_whole = refl;
      page_room = lit≤ tt;
      page_bits = 8;
      page_power = refl;
      size_bits = 17;
      size_power = refl;
      bytes_some = omega arith;
      reached = lit≤ tt;
      placed = dvd-mul_right 65536 2;
      counted = omega arith;
      alike = refl;
      longest_some = omega arith;
      longest_read = lit≤ tt;
    }

-- the row of any number is sound
pub sound_of : (n : ℕ) → Sound (part_of n)
sound_of n = of_each Sound n m95m01_sound (row_sound true) (row_sound false)

-- The next address within a page is one of 32 bits where the address is: pages are powers of two. And a count past the
-- address and one more byte.
use Prim.Native.Nat.{ℕ, ◌+◌, ◌^◌, ◌<◌}
use mathlib.Core.Path.{◌≡◌}
use native.Mathlib.Omega.{arith}
use lib.Dec.{leb, ltb}
use borrow.Author.Tests.{le-leb, leb-true, lt-ltb, ltb-true}
use Rattle.laws.specs.And.{same_test}
use Rattle.codes.specs.Part.{Part, part_of}
use Rattle.codes.proofs.Parts.{of_each}
use Rattle.latch.specs.Latches.{next_in_page}

pub next_fits : (n a : ℕ) → a < 2 ^ 32 → next_in_page (part_of n) a < 2 ^ 32
next_fits n a h = of_each (λ (P : Part). next_in_page P a < 2 ^ 32) n (omega arith) (omega arith) (omega arith)

pub past_head : (b n : ℕ) → ltb (b + 1) n ≡ leb (b + 2) n
past_head b n =
    same_test (ltb (b + 1) n) (leb (b + 2) n) (λ p. le-leb (b + 2) n (omega (arith, ltb-true (b + 1) n p)))
    (λ p. lt-ltb (b + 1) n (omega (arith, leb-true (b + 2) n p)))

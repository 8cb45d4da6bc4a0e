-- A part of the run, by the numbers of the split over any sound part: where it lies, and which bytes it carries.
use mathlib.Core.Path.{◌≡◌, ap}
use mathlib.Core.List.{List}
use Prim.Native.Nat.{ℕ, ◌+◌, ◌-◌, ◌*◌, ◌/◌, ◌%◌, ◌<◌, ◌≤◌}
use native.Mathlib.Omega.{arith}
use lib.ListN.{length, take, drop}
use Rattle.codes.specs.Part.{Part}
use Rattle.codes.proofs.Sound.{Sound}
use Rattle.codes.proofs.Starts.{start_of}
use Rattle.split.specs.Split.{count, split_address, split_length}
use Rattle.split.specs.Pieces.{piece}
use Rattle.split.proofs.Parts.{there}
use Rattle.split.proofs.Numbers.{address_from, address_to_law, length_some, one_page}

pub record Lies (P : Part) (a n start len : ℕ) : Type 0 where
  pub from : a ≤ start
  pub to : start + len ≤ a + n
  pub memory : start < P.size
  pub inside : a + n ≤ P.size
  -- within one page
  pub page : start % P.page + len ≤ P.page

module _ (P : Part) (sound : Sound P) (a : ℕ) (bytes : List ℕ) (k start len : ℕ) (h : k < count P.size P.page a (length bytes))
    (at : start ≡ split_address P.size P.page a (length bytes) k) (long : len ≡ split_length P.size P.page a (length bytes) k) where
  pub lies : Lies P a (length bytes) start len
  lies =
      let n = length bytes in
      let pos = sound.page_some in
      let from = address_from P.size P.page a n pos k h in
      let to = address_to_law P.size P.page a n pos k h in
      let some = length_some P.size P.page a n pos k h in
      let first = split_address P.size P.page a n k in
      let last = first + split_length P.size P.page a n k - 1 in
      let one : first / P.page * P.page ≡ last / P.page * P.page = ap (λ (q : ℕ). q * P.page) (one_page P.size P.page a n pos k h) in
      let at_first = start_of sound first in
      let at_last = start_of sound last in
      let page : first % P.page + split_length P.size P.page a n k ≤ P.page = omega arith in
      let t = there P.size P.page a n h in
      record { from = omega arith; to = omega arith; memory = omega (arith, t.inside); inside = t.inside; page = rw (at, long) page }

  pub part_bytes : (j : ℕ) → j ≡ len → take j (drop (start - a) bytes) ≡ piece P.size P.page a bytes k
  unfolding piece
  part_bytes j e = rw (e, at, long)

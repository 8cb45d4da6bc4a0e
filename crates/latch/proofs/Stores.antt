-- What stands in each cell once a page write is stored; and that lending the page alone comes to the same.
use mathlib.Core.Path.{◌≡◌, refl, ap, ◌∙◌}
use mathlib.Core.List.{List}
use mathlib.Core.Bool.{true, false}
use Prim.Native.Nat.{ℕ, ◌+◌, ◌-◌, ◌*◌, ◌<◌, ◌≤◌}
use native.Mathlib.Decide.{dec_lt}
use native.Mathlib.Omega.{arith}
use lib.ListN.{length, take, drop, get_or, length-drop}
use lib.Seq.{length-take-le, get_or-take, get_or-drop}
use lib.Dec.{leb, ltb}
use borrow.Author.Tests.{le-leb, lt-leb, lt-ltb, le-ltb}
use Rattle.laws.specs.Pick.{pick_case, yes_so, no_so, at_yes, and_both, and_no_left, and_no_right}
use Rattle.laws.specs.Table.{table_length, table_at, table_is}
use Rattle.laws.specs.Spliced.{spliced, spliced_length, spliced_before, spliced_in, spliced_after}
use Rattle.codes.specs.Part.{Part}
use Rattle.latch.specs.Latches.{laid, laid_at, in_page, stored, stored_at}
use Rattle.latch.specs.declared.Latch.{Latch}

-- ---- a page with a write laid over it

module _ (n : ℕ) (l : Latch) (page : List ℕ) where
  pub laid_length : length (laid n l page) ≡ n
  unfolding laid
  laid_length = table_length _ n

  pub laid_at_law : (i : ℕ) → i < n → get_or (laid n l page) i 0 ≡ laid_at l i (get_or page i 0)
  unfolding laid
  laid_at_law i h = table_at _ n i 0 h

-- ---- the memory with a page stored

module _ (P : Part) (p : ℕ) where
  pub in_page_law : (i : ℕ) → p * P.page ≤ i → i < p * P.page + P.page → in_page P p i ≡ true
  in_page_law i h k = and_both (leb (p * P.page) i) (ltb i (p * P.page + P.page)) (le-leb _ _ h) (lt-ltb _ _ k)

  pub before_page : (i : ℕ) → i < p * P.page → in_page P p i ≡ false
  before_page i h = and_no_left (leb (p * P.page) i) (ltb i (p * P.page + P.page)) (lt-leb _ _ h)

  pub after_page : (i : ℕ) → p * P.page + P.page ≤ i → in_page P p i ≡ false
  after_page i h = and_no_right (leb (p * P.page) i) (ltb i (p * P.page + P.page)) (le-ltb _ _ h)

module _ (P : Part) (p : ℕ) (l : Latch) (m : List ℕ) (fits : p * P.page + P.page ≤ length m) where
  -- what stands in each cell
  pub stored_at_law : (i : ℕ) → i < length m → get_or (stored P p l m) i 0 ≡ stored_at P p l m i
  unfolding stored
  stored_at_law i h = ap (λ (s : List ℕ). get_or s i 0) (at_yes _ _ (le-leb _ _ fits)) ∙ table_at (stored_at P p l m) (length m) i 0 h

  part : List ℕ
  part = laid P.page l (take P.page (drop (p * P.page) m))

  part_length : length part ≡ P.page
  unfolding part
  part_length = laid_length P.page l _

  part_at : (k : ℕ) → k < P.page → get_or part k 0 ≡ laid_at l k (get_or m (p * P.page + k) 0)
  unfolding part
  part_at k h = laid_at_law P.page l _ k h ∙ ap (laid_at l k) (get_or-take P.page (drop (p * P.page) m) k 0 h ∙ get_or-drop (p * P.page) m k 0)

  cell : (i : ℕ) → i < length m → get_or (spliced m part (p * P.page) P.page) i 0 ≡ stored_at P p l m i
  cell i h = elim (dec_lt i (p * P.page)) [
    | yes b ↦ no_so _ (before_page P p i b) (spliced_before m part (p * P.page) P.page 0 fits part_length i b)
    | no b ↦ elim (dec_lt i (p * P.page + P.page)) [
      | yes k ↦
          let there : p * P.page + (i - p * P.page) ≡ i = omega arith in
          yes_so _ (in_page_law P p i (omega arith) k)
          (spliced_in m part (p * P.page) P.page 0 fits part_length i (omega arith) k
          ∙ part_at (i - p * P.page) (omega arith)
          ∙ ap (λ (n : ℕ). laid_at l (i - p * P.page) (get_or m n 0)) there)
      | no k ↦ no_so _ (after_page P p i (omega arith)) (spliced_after m part (p * P.page) P.page 0 fits part_length i (omega arith))
    ]
  ]

  -- the page that is lent on is a page long
  pub page_long : length (take P.page (drop (p * P.page) m)) ≡ P.page
  page_long = length-take-le P.page (drop (p * P.page) m) (simp length-drop (omega arith))

  -- the memory whose page p was lent on and came back with the write laid over it
  pub lent_page : spliced m (laid P.page l (take P.page (drop (p * P.page) m))) (p * P.page) P.page ≡ stored P p l m
  unfolding part stored
  lent_page =
      yes_so _ (le-leb _ _ fits)
      (table_is (stored_at P p l m) _ (length m) 0 (spliced_length m part (p * P.page) P.page 0 fits part_length) cell)

-- a page that the memory lacks
pub stored_none : (P : Part) (p : ℕ) (l : Latch) (m : List ℕ) → length m < p * P.page + P.page → m ≡ stored P p l m
unfolding stored
stored_none P p l m h = no_so _ (lt-leb _ _ h) refl

pub stored_length : (P : Part) (p : ℕ) (l : Latch) (m : List ℕ) → length (stored P p l m) ≡ length m
unfolding stored
stored_length P p l m =
    pick_case (λ (s : List ℕ). length s ≡ length m) (leb (p * P.page + P.page) (length m)) (λ e. table_length (stored_at P p l m) (length m)) (λ e. refl)

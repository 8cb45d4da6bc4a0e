-- The number of blank cells as a scan gives it: how a change of the memory moves it, that a page write moves it by the cells of its page, and that the
-- right number moves to the right one.
use mathlib.Core.Path.{◌≡◌, refl, ap, ap₂, sym, ◌∙◌}
use mathlib.Core.List.{List, ◌++◌}
use Prim.Native.Nat.{ℕ, zero, suc, min, ◌+◌, ◌-◌, ◌*◌, ◌<◌, ◌≤◌}
use native.Mathlib.Decide.{dec_le}
use native.Mathlib.Omega.{arith}
use lib.ListN.{length, take, drop, get_or, replicate, length-drop, length-replicate, get_or-replicate}
use lib.Seq.{length-take-le, get_or-take, get_or-drop}
use lib.Dec.{eqb, leb}
use borrow.Author.Tests.{le-leb, lt-leb, leb-true, eq-eqb}
use Rattle.laws.specs.Pick.{pick_case, at_yes, at_no}
use mir.Val.{bool_byte}
use Rattle.std.proofs.Common.{take_all}
use Rattle.std.proofs.lemmas.List.Sums.{sum_by_more, sum_by-append}
use Rattle.std.specs.List.{sum_by}
use Rattle.laws.specs.Flags.{byte_bit}
use Rattle.laws.specs.Count.{count, count_add, count_cong, count_le, count_all, count_exchange}
use Rattle.codes.specs.Part.{Part, room_cells}
use Rattle.latch.specs.Latches.{stored, stored_at}
use Rattle.latch.specs.declared.Latch.{Latch}
use Rattle.latch.proofs.Stores.{stored_at_law, stored_none, stored_length, before_page, after_page}
use Rattle.blanks.specs.Blanks.{blank_at, blanks, blanks_of, blanks_in, gained, lost, held_within, recounted}

-- no more than there are cells
pub blanks_most : (m : List ℕ) → blanks m ≤ length m
blanks_most m = count_le (blank_at m) (length m)

-- the call's answer is the scan, of every memory that a part has
pub blanks_of_law : (m : List ℕ) → length m ≤ room_cells → blanks_of m ≡ blanks m
blanks_of_law m h = at_yes (blanks m) 0 (le-leb (length m) room_cells h)

-- of FFh alone all are
pub all_blank : (n : ℕ) → blanks (replicate n 0xff) ≡ n
all_blank n =
    ap (count (blank_at (replicate n 0xff))) (length-replicate {A = ℕ} n 0xff)
    ∙ count_all (blank_at (replicate n 0xff)) n (λ i h. eq-eqb _ _ (get_or-replicate {A = ℕ} n i 0xff 0 h))

-- ---- the scan as an iterator's sum

-- what a cell adds
abbrev pub as_one : ℕ → ℕ
as_one x = bool_byte (eqb x 0xff)

first_ones : (n : ℕ) (m : List ℕ) → n ≤ length m → sum_by as_one (take n m) ≡ count (blank_at m) n
unfolding count
first_ones zero m h = refl
first_ones (suc n) m h =
    let next : suc n ≡ n + 1 = omega arith in
    ap (λ (k : ℕ). sum_by as_one (take k m)) next
    ∙ sum_by_more as_one m n 0 (omega arith)
    ∙ ap₂ ◌+◌ (first_ones n m (omega arith)) (byte_bit (blank_at m n))

pub blanks_sum : (m : List ℕ) → sum_by as_one m ≡ blanks m
blanks_sum m = sym (ap (sum_by as_one) (take_all (length m) m (omega arith))) ∙ first_ones (length m) m (omega arith)

-- two rows of cells, one after the other
pub blanks_both : (m n : List ℕ) → blanks (m ++ n) ≡ blanks m + blanks n
blanks_both m n =
    sym (blanks_sum (m ++ n)) ∙ sum_by-append as_one m n ∙ ap₂ ◌+◌ (blanks_sum m) (blanks_sum n)

-- ---- held within the size

pub held_min : (size n : ℕ) → min n size ≡ held_within size n
held_min size n = elim (dec_le n size) [
  | yes h ↦ let e : min n size ≡ n = omega arith in e ∙ sym (at_yes n size (le-leb n size h))
  | no h ↦ let e : min n size ≡ size = omega arith in e ∙ sym (at_no n size (lt-leb n size (omega arith)))
]

pub held_most : (size n : ℕ) → held_within size n ≤ size
held_most size n = pick_case (λ (x : ℕ). x ≤ size) (leb n size) (leb-true n size) (λ e. omega arith)

pub held_same : (size n : ℕ) → n ≤ size → held_within size n ≡ n
held_same size n h = at_yes n _ (le-leb n size h)

-- ---- from one memory to another of its length

module _ (m n : List ℕ) (long : length n ≡ length m) where
  pub exchange : blanks m + gained m n ≡ blanks n + lost m n
  exchange =
      count_exchange (blank_at m) (blank_at n) (length m) ∙ ap (λ (k : ℕ). count (blank_at n) k + lost m n) (sym long)

  -- the right number moves to the right one
  pub right_recounted : (P : Part) → length m ≡ P.size → (b : ℕ) → b ≡ blanks m → recounted P b m n ≡ blanks n
  right_recounted P size b e =
      let sum : b + gained m n - lost m n ≡ blanks n = omega (arith, exchange, e) in
      ap (held_within P.size) sum ∙ held_same P.size (blanks n) (omega (arith, blanks_most n, long, size))

-- ---- cells in a row: those below where they start, and their own

pub row_count : (m : List ℕ) (a n : ℕ) → a + n ≤ length m → count (blank_at m) (a + n) ≡ count (blank_at m) a + blanks (take n (drop a m))
row_count m a n fits =
    let row : List ℕ = take n (drop a m) in
    let long : length row ≡ n = length-take-le n (drop a m) (simp length-drop (omega arith)) in
    let own : count (λ i. blank_at m (a + i)) n ≡ blanks row =
    count_cong (λ i. blank_at m (a + i)) (blank_at row) n
    (λ i h. ap (λ (x : ℕ). eqb x 0xff) (sym (get_or-take n (drop a m) i 0 h ∙ get_or-drop a m i 0)))
    ∙ ap (count (blank_at row)) (sym long) in
    count_add (blank_at m) a n ∙ ap (λ (x : ℕ). count (blank_at m) a + x) own

-- ---- a page of the memory

module _ (P : Part) (p : ℕ) (m : List ℕ) (fits : p * P.page + P.page ≤ length m) where
  abbrev start : ℕ
  start = p * P.page

  abbrev page : List ℕ
  page = take P.page (drop start m)

  -- the cells before the page, its own, and those past it
  abbrev pub before_it : ℕ
  before_it = count (blank_at m) start

  abbrev pub past_it : ℕ
  past_it = count (λ i. blank_at m (start + P.page + i)) (length m - (start + P.page))

  pub page_apart : blanks m ≡ before_it + blanks page + past_it
  page_apart =
      let all : length m ≡ start + P.page + (length m - (start + P.page)) = omega arith in
      ap (count (blank_at m)) all
      ∙ count_add (blank_at m) (start + P.page) (length m - (start + P.page))
      ∙ ap (λ (x : ℕ). x + past_it) (row_count m start P.page fits)

  pub in_it : blanks_in P p m ≡ blanks page
  in_it = at_yes _ _ (le-leb _ _ fits)

-- ---- a page write moves the number by its page alone

module _ (P : Part) (p : ℕ) (l : Latch) (m : List ℕ) where
  after : List ℕ
  after = stored P p l m

  abbrev Moves : Type 0
  Moves = (b : ℕ) → b + blanks_in P p after - blanks_in P p m ≡ b + gained m after - lost m after

  same : length after ≡ length m
  unfolding after
  same = stored_length P p l m

  there : p * P.page + P.page ≤ length m → Moves
  unfolding after
  there fits b =
      let fits' : p * P.page + P.page ≤ length after = omega (arith, same, fits) in
      let cell : (i : ℕ) → i < length m → get_or after i 0 ≡ stored_at P p l m i = stored_at_law P p l m fits in
      let low : before_it P p after fits' ≡ before_it P p m fits =
      count_cong (blank_at after) (blank_at m) (p * P.page)
      (λ i h. ap (λ (x : ℕ). eqb x 0xff) (cell i (omega arith) ∙ at_no _ _ (before_page P p i h))) in
      let high : past_it P p after fits' ≡ past_it P p m fits =
      ap (count (λ i. blank_at after (p * P.page + P.page + i))) (ap (λ (k : ℕ). k - (p * P.page + P.page)) same)
      ∙ count_cong (λ i. blank_at after (p * P.page + P.page + i)) (λ i. blank_at m (p * P.page + P.page + i))
      (length m - (p * P.page + P.page))
      (λ i h. ap (λ (x : ℕ). eqb x 0xff)
      (cell (p * P.page + P.page + i) (omega arith) ∙ at_no _ _ (after_page P p (p * P.page + P.page + i) (omega arith)))) in
      omega (
        arith,
        exchange m after same,
        page_apart P p m fits,
        page_apart P p after fits',
        in_it P p m fits,
        in_it P p after fits',
        low,
        high,
      )

  lacking : length m < p * P.page + P.page → Moves
  unfolding after
  lacking h b =
      let none : (n : List ℕ) → length n ≡ length m → blanks_in P p n ≡ 0 = λ n e. at_no _ _ (lt-leb (p * P.page + P.page) (length n) (omega (arith, h, e))) in
      let stays : after ≡ m = sym (stored_none P p l m h) in
      omega (arith, exchange m after same, none m refl, none after same, ap blanks stays)

  pub page_recounted : (b : ℕ) → held_within P.size (b + blanks_in P p (stored P p l m) - blanks_in P p m) ≡ recounted P b m (stored P p l m)
  unfolding after
  page_recounted b = ap (held_within P.size) (elim (dec_le (p * P.page + P.page) (length m)) [
    | yes fits ↦ there fits b
    | no h ↦ lacking (omega arith) b
  ])

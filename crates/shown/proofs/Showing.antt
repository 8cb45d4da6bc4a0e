-- The bytes that a frame shows, for any part: as the code puts them together they are the tables of the definitions.
use mathlib.Core.Path.{◌≡◌, refl, ap, sym, ◌∙◌}
use mathlib.Core.List.{List, ◌++◌}
use mathlib.Core.Bool.{Bool, true, false, not, ◌&&◌}
use Prim.Native.Nat.{ℕ, zero, suc, ◌+◌, ◌-◌, ◌%◌, ◌<◌, ◌≤◌}
use native.Mathlib.Nat.{mod-eq_of_lt, mod-eq-sub-mod}
use native.Mathlib.Decide.{dec_lt}
use native.Mathlib.Omega.{arith}
use lib.ListN.{length, get_or, set, take, drop, replicate, length-drop, length-append, length-set, length-replicate, get_or-replicate}
use lib.Seq.{length-take-le, get_or-set_same, get_or-set_other}
use lib.Dec.{leb, ltb}
use borrow.Author.Tests.{le-leb, lt-leb, leb-true}
use Rattle.laws.specs.Pick.{pick, lt_so, ge_so, yes_so, no_so, at_yes, at_no, and_left, and_right, and_both, and_no_left}
use Rattle.laws.specs.And.{failed, never}
use Rattle.laws.specs.Spliced.{spliced, two_parts}
use Rattle.laws.specs.Table.{table, table_is, table_cong, table_part, table_append, table_replicate}

-- ---- the cells that a READ shows

module _ (m : List ℕ) (a : ℕ) where
  -- what it shows of cell d from the address up, rolling over
  abbrev shown : ℕ → ℕ
  shown d = get_or m ((a + d) % length m) 0

  -- in one run
  pub one_run : (n : ℕ) → a + n ≤ length m → take n (drop a m) ≡ table n shown
  one_run n h = table_part m a n 0 (omega arith) ∙ table_cong (λ d. get_or m (a + d) 0) shown n 0 (λ d b. ap (λ (k : ℕ). get_or m k 0) (low d b))
    where
      low : (d : ℕ) → d < n → a + d ≡ (a + d) % length m
      low d b = sym (mod-eq_of_lt (omega arith))

  -- in two, where it rolls over; it does so once
  pub two_runs : (n : ℕ) → a < length m → length m - a < n → a + n ≤ length m + length m
      → take (length m - a) (drop a m) ++ take (n - (length m - a)) m ≡ table n shown
  two_runs n h k b =
      let all : length m - a + (n - (length m - a)) ≡ n = omega arith in
      ap (λ (l : List ℕ). l ++ take (n - (length m - a)) m) (table_part m a (length m - a) 0 (omega arith))
      ∙ ap (λ (l : List ℕ). table (length m - a) (λ d. get_or m (a + d) 0) ++ l) (table_part m 0 (n - (length m - a)) 0 (omega arith))
      ∙ table_append (λ d. get_or m (a + d) 0) (λ d. get_or m (0 + d) 0) (length m - a) (n - (length m - a)) 0
      ∙ ap (λ (k : ℕ). table k joined) all
      ∙ table_cong joined shown n 0 at
    where
      joined : ℕ → ℕ
      joined d = pick (ltb d (length m - a)) (get_or m (a + d) 0) (get_or m (0 + (d - (length m - a))) 0)

      at : (d : ℕ) → d < n → joined d ≡ shown d
      at d q = elim (dec_lt d (length m - a)) [
        | yes p ↦
            let low : (a + d) % length m ≡ a + d = mod-eq_of_lt (omega arith) in
            sym (lt_so _ p (ap (λ (k : ℕ). get_or m k 0) low))
        | no p ↦
            let past : length m - a ≤ d = omega arith in
            let once : (a + d) % length m ≡ a + d - length m = mod-eq-sub-mod (omega arith) ∙ mod-eq_of_lt (omega arith) in
            let round : (a + d) % length m ≡ 0 + (d - (length m - a)) = omega arith in
            sym (ge_so _ past (ap (λ (k : ℕ). get_or m k 0) round))
      ]

-- ---- the bytes of a whole frame

-- a status over every byte but the first
pub status_bytes : (n v : ℕ) → set (replicate n v) 0 255 ≡ table n (λ j. pick (leb 1 j) v 255)
status_bytes n v = table_is _ (set (replicate n v) 0 255) n 0 (length-set (replicate n v) 0 255 ∙ length-replicate n v) at
  where
    at : (j : ℕ) → j < n → get_or (set (replicate n v) 0 255) j 0 ≡ pick (leb 1 j) v 255
    at zero b = no_so _ refl (get_or-set_same (replicate n v) 0 255 0 (rw (length-replicate n v) b))
    at (suc j) b =
        yes_so _ (le-leb 1 (suc j) (omega arith))
        (get_or-set_other (replicate n v) 0 (suc j) 255 0 (λ e. omega arith) ∙ get_or-replicate n (suc j) v 0 b)

-- data byte d after a head of h bytes that is not driven, where no cycle ran
abbrev pub follows : ℕ → Bool → (ℕ → ℕ) → ℕ → ℕ
follows h ran d j = pick (leb h j && not ran) (d (j - h)) 255

module _ (h n : ℕ) (ran : Bool) (d : ℕ → ℕ) where
  no_data : (leb h n && not ran) ≡ false → replicate n 255 ≡ table n (follows h ran d)
  no_data none = table_replicate n 255 ∙ table_cong (λ j. 255) (follows h ran d) n 0 (λ j b. no_so _ (undriven j b) refl)
    where
      undriven : (j : ℕ) → j < n → (leb h j && not ran) ≡ false
      undriven j b =
          failed _ (λ e.
          let past : h ≤ j = leb-true h j (and_left _ (not ran) e) in
          never (and_both (leb h n) (not ran) (le-leb h n (omega arith)) (and_right (leb h j) _ e)) none)

  head_and_data : h ≤ n → not ran ≡ true → replicate h 255 ++ table (n - h) d ≡ table n (follows h ran d)
  head_and_data room free =
      let all : h + (n - h) ≡ n = omega arith in
      ap (λ (l : List ℕ). l ++ table (n - h) d) (table_replicate h 255)
      ∙ table_append (λ j. 255) d h (n - h) 0
      ∙ ap (λ (k : ℕ). table k joined) all
      ∙ table_cong joined (follows h ran d) n 0 at
    where
      joined : ℕ → ℕ
      joined j = pick (ltb j h) 255 (d (j - h))

      at : (j : ℕ) → j < n → joined j ≡ follows h ran d j
      at j b = elim (dec_lt j h) [
        | yes p ↦ no_so _ (and_no_left (leb h j) (not ran) (lt-leb h j p)) (sym (lt_so _ p refl))
        | no p ↦
            let past : h ≤ j = omega arith in
            yes_so _ (and_both (leb h j) (not ran) (le-leb h j past) free) (sym (ge_so _ past refl))
      ]

-- r says whether data follows the head: then there is room for the head
pub head_room : (h n : ℕ) (free r : Bool) → r ≡ (leb h n && free) → r ≡ true → h ≤ n
head_room h n free r told e = leb-true h n (and_left _ free (sym told ∙ e))

-- and the bytes are these
module _ (h : ℕ) (ran r : Bool) (d : ℕ → ℕ) (l out : List ℕ) (told : r ≡ (leb h (length l) && not ran))
    (head : out ≡ pick r (replicate h 255 ++ drop h l) (replicate (length l) 255)) where
  pub data_none : r ≡ false → out ≡ table (length l) (follows h ran d)
  data_none e = head ∙ at_no _ _ e ∙ no_data h (length l) ran d (sym told ∙ e)

  pub data_after : r ≡ true → (cells : List ℕ) → cells ≡ table (length (take (length l - h) (drop h out))) d
      → spliced out cells h (length l - h) ≡ table (length l) (follows h ran d)
  data_after e cells made =
      let n = length l in
      let room = head_room h n (not ran) r told e in
      let begun : out ≡ replicate h 255 ++ drop h l = head ∙ at_yes _ _ e in
      let sized : length out ≡ n = ap length begun ∙ simp (length-append, length-replicate, length-drop) (omega arith) in
      let left : length (take (n - h) (drop h out)) ≡ n - h = length-take-le (n - h) (drop h out) (simp length-drop (omega arith)) in
      ap (λ (o : List ℕ). spliced o cells h (n - h)) begun
      ∙ two_parts l (replicate h 255) cells h n refl (length-replicate h 255) room
      ∙ ap (λ (k : List ℕ). replicate h 255 ++ k) (made ∙ ap (λ (k : ℕ). table k d) left)
      ∙ head_and_data h n ran d room (and_right (leb h n) _ (sym told ∙ e))

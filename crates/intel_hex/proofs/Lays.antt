-- A record laid over the memory: that lending its cells alone comes to the same.
use mathlib.Core.Path.{◌≡◌, refl, ap, sym, ◌∙◌}
use mathlib.Core.List.{List, ◌∷◌}
use Prim.Native.Nat.{ℕ, ◌+◌, ◌-◌, ◌≤◌}
use native.Mathlib.Nat.{add-sub_cancel_left}
use native.Mathlib.Omega.{arith}
use lib.ListN.{length, take, drop, length-drop}
use lib.Seq.{length-take-le}
use Rattle.laws.specs.Table.{table, table_length}
use Rattle.laws.specs.Spliced.{spliced}
use Rattle.printing.specs.Put.{put}
use Rattle.intel_hex.specs.Writing.{HexRecord}
use Rattle.intel_hex.specs.Reading.{line_byte, data_length, address_at, record_at, laid_record, laid_records}

pub part_cells : (m : List ℕ) (a n : ℕ) → a + n ≤ length m → length (take (a + n - a) (drop a m)) ≡ n
part_cells m a n h = rw (add-sub_cancel_left a n) (length-take-le n (drop a m) (rw length-drop (omega arith)))

put_spliced : (m : List ℕ) (f : ℕ → ℕ) (a n : ℕ) → spliced m (table n f) a n ≡ put m a (table n f)
unfolding put
put_spliced m f a n = ap (spliced m (table n f) a) (sym (table_length f n))

pub lent_cells_law : (t m ys : List ℕ) (a n : ℕ) → a ≡ address_at t → n ≡ data_length t → a + n ≤ length m
    → ys ≡ table (length (take (a + n - a) (drop a m))) (λ i. line_byte t (i + 4)) → spliced m ys a (a + n - a) ≡ laid_record (record_at t) m
lent_cells_law t m ys a n e g h p =
    let f : ℕ → ℕ = λ i. line_byte t (i + 4) in
    let q : ys ≡ table n f = p ∙ ap (λ (k : ℕ). table k f) (part_cells m a n h) in
    ap (λ (k : ℕ). spliced m ys a k) (add-sub_cancel_left a n) ∙ ap (λ (l : List ℕ). spliced m l a n) q ∙ put_spliced m f a n
    ∙ ap (λ (k : ℕ). put m k (table n f)) e ∙ ap (λ (k : ℕ). put m (address_at t) (table k f)) g

pub laid_more : (r : HexRecord) (rs : List HexRecord) (m : List ℕ) → laid_records rs (laid_record r m) ≡ laid_records (r ∷ rs) m
unfolding laid_records
laid_more r rs m = refl

-- What some records leave in each cell: the byte of the last one that names it, else what was there.
use mathlib.Core.Path.{◌≡◌, refl, ap, sym, ◌∙◌}
use mathlib.Core.Bool.{Bool, true, false, ◌&&◌}
use mathlib.Core.List.{List, [], ◌∷◌, ◌++◌}
use Prim.Native.Nat.{ℕ, ◌+◌, ◌-◌, ◌<◌, ◌≤◌}
use native.Mathlib.Decide.{dec_lt}
use native.Mathlib.Omega.{arith}
use lib.ListN.{length, get_or}
use lib.Dec.{leb, ltb}
use borrow.Author.Tests.{le-leb, lt-leb, lt-ltb, le-ltb}
use Rattle.laws.specs.Pick.{pick, yes_so, no_so, at_yes, at_no, and_both, and_no_left, and_no_right}
use Rattle.laws.specs.Spliced.{spliced_before, spliced_in, spliced_after}
use Rattle.codes.specs.Part.{Part}
use Rattle.printing.specs.Put.{put}
use Rattle.printing.proofs.Puts.{put_length}
use Rattle.intel_hex.specs.Writing.{HexRecord}
use Rattle.intel_hex.specs.Reading.{laid_record, laid_records}
use Rattle.hex_theorems.specs.Fitting.{Fits, AllFit, names, last_given}

-- ---- one record

module _ (r : HexRecord) (m : List ℕ) (h : r.address + length r.bytes ≤ length m) where
  pub laid_length : length (laid_record r m) ≡ length m
  laid_length = put_length m r.address r.bytes h

  laid_cell : (i : ℕ) → get_or (laid_record r m) i 0 ≡ pick (names r i) (get_or r.bytes (i - r.address) 0) (get_or m i 0)
  unfolding put
  laid_cell i = elim (dec_lt i r.address) [
    | yes b ↦
        no_so _ (and_no_left (leb r.address i) (ltb i (r.address + length r.bytes)) (lt-leb _ _ b))
        (spliced_before m r.bytes r.address (length r.bytes) 0 h refl i b)
    | no b ↦ elim (dec_lt i (r.address + length r.bytes)) [
      | yes k ↦
          yes_so _ (and_both (leb r.address i) (ltb i (r.address + length r.bytes)) (le-leb r.address i (omega arith)) (lt-ltb _ _ k))
          (spliced_in m r.bytes r.address (length r.bytes) 0 h refl i (omega arith) k)
      | no k ↦
          no_so _ (and_no_right (leb r.address i) (ltb i (r.address + length r.bytes)) (le-ltb i (r.address + length r.bytes) (omega arith)))
          (spliced_after m r.bytes r.address (length r.bytes) 0 h refl i (omega arith))
    ]
  ]

-- ---- all of them

module _ (P : Part) where
  pub laid_all_length : (rs : List HexRecord) (m : List ℕ) → AllFit P rs → length m ≡ P.size → length (laid_records rs m) ≡ length m
  unfolding laid_records
  laid_all_length [] m f e = refl
  laid_all_length (r ∷ rs) m f e =
      let one = laid_length r m (omega (arith, f.0.inside)) in
      laid_all_length rs (laid_record r m) f.1 (one ∙ e) ∙ one

  pub laid_cells : (rs : List HexRecord) (m : List ℕ) (i : ℕ) → AllFit P rs → length m ≡ P.size → get_or (laid_records rs m) i 0 ≡ last_given rs i (get_or m i 0)
  unfolding laid_records last_given
  laid_cells [] m i f e = refl
  laid_cells (r ∷ rs) m i f e =
      let h = f.0.inside in
      laid_cells rs (laid_record r m) i f.1 (laid_length r m (omega (arith, h)) ∙ e) ∙ ap (last_given rs i) (laid_cell r m (omega (arith, h)) i)

-- ---- the last one, in so many words

pub last_append : (qs rs : List HexRecord) (i x : ℕ) → last_given (qs ++ rs) i x ≡ last_given rs i (last_given qs i x)
unfolding last_given
last_append [] rs i x = refl
last_append (q ∷ qs) rs i x = last_append qs rs i (pick (names q i) (get_or q.bytes (i - q.address) 0) x)

-- none of the records names the cell
abbrev pub Unnamed : List HexRecord → ℕ → Type 0
Unnamed [] i = Unit {0}
Unnamed (r ∷ rs) i = (names r i ≡ false) × Unnamed rs i

pub none_given : (rs : List HexRecord) (i x : ℕ) → Unnamed rs i → last_given rs i x ≡ x
unfolding last_given
none_given [] i x u = refl
none_given (r ∷ rs) i x u = none_given rs i _ u.1 ∙ at_no _ _ u.0

-- where a record names the cell and none after it does, the cell has its byte
pub last_given_law : (qs : List HexRecord) (r : HexRecord) (rs : List HexRecord) (i x : ℕ) → names r i ≡ true → Unnamed rs i
    → last_given (qs ++ (r ∷ rs)) i x ≡ get_or r.bytes (i - r.address) 0
unfolding last_given
last_given_law qs r rs i x e u = last_append qs (r ∷ rs) i x ∙ none_given rs i _ u ∙ at_yes _ _ e

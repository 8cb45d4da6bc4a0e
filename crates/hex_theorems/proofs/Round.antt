-- An exported image: its text is good and says the image, and importing it over any memory of its size gives the image.
use mathlib.Core.Path.{◌≡◌, refl, ap, sym, ◌∙◌}
use mathlib.Core.Bool.{true, false, not, ◌&&◌}
use mathlib.Core.List.{List, [], ◌∷◌, ◌++◌}
use Prim.Native.Nat.{ℕ, zero, suc, ◌+◌, ◌*◌, ◌≤◌}
use native.Mathlib.Decide.{dec_lt}
use native.Mathlib.Omega.{arith}
use lib.ListN.{length, take, drop, length-append, get_or-eq_default}
use lib.Seq.{take_all, take-add, length-take-le, get_or-take, get_or-drop}
use borrow.Author.Tests.{eqb-true}
use Rattle.laws.specs.Pick.{yes_so, eq_so, and_both}
use Rattle.laws.specs.Table.{table, from}
use Rattle.codes.specs.Part.{Part, m95512}
use Rattle.chip.specs.declared.Core.{Core}
use Rattle.chip.specs.Records.{own_part, running}
use Rattle.chip.specs.Ranges.{in_ranges}
use Rattle.printing.specs.Put.{put}
use Rattle.printing.proofs.Puts.{put_nil}
use Rattle.intel_hex.specs.Writing.{HexRecord, records_text, end_line, record_of, image_records, image_text, image_room}
use Rattle.intel_hex.specs.Reading.{Parted, parted, is_good, laid_record, laid_records}
use Rattle.intel_hex.specs.Answers.{imaged, takes, import_number, import_memory}
use Rattle.intel_hex.proofs.Sums.{table_more}
use Rattle.intel_hex.proofs.Writes.{put_then, put_all, lines_length, sixteen}
use Rattle.hex_theorems.specs.Fitting.{Bytes, Fits, AllFit, Says}
use Rattle.hex_theorems.proofs.Texts.{says_parted, says_good}

laid_append : (qs rs : List HexRecord) (m : List ℕ) → laid_records (qs ++ rs) m ≡ laid_records rs (laid_records qs m)
unfolding laid_records
laid_append [] rs m = refl
laid_append (q ∷ qs) rs m = laid_append qs rs (laid_record q m)

laid_one : (r : HexRecord) (m : List ℕ) → laid_records (r ∷ []) m ≡ laid_record r m
unfolding laid_records
laid_one r m = refl

laid_none : (f : ℕ → HexRecord) (m : List ℕ) → laid_records (table 0 f) m ≡ m
unfolding laid_records table from
laid_none f m = refl

fit_append : (P : Part) (qs rs : List HexRecord) → AllFit P qs → AllFit P rs → AllFit P (qs ++ rs)
fit_append P [] rs f g = g
fit_append P (q ∷ qs) rs f g = (f.0, fit_append P qs rs f.1 g)

fit_none : (P : Part) (f : ℕ → HexRecord) → AllFit P (table 0 f)
unfolding table from
fit_none P f = tt

-- ---- the records of an image x, over a part whose size it has

module _ (P : Part) (x : List ℕ) (long : length x ≡ P.size) (low : P.size ≤ 65536) (small : Bytes x) where
  one_fits : (k : ℕ) → 16 * k + 16 ≤ length x → Fits P (record_of x k)
  one_fits k h =
      let n : length (record_of x k).bytes ≡ 16 = sixteen x k h in
      record {
        placed = omega arith;
        short = omega (arith, n);
        inside = omega (arith, n);
        small = λ i. elim (dec_lt i 16) [
          | yes b ↦ rw (get_or-take 16 (drop (16 * k) x) i 0 b, get_or-drop (16 * k) x i 0) (small (16 * k + i))
          | no b ↦ rw (get_or-eq_default (record_of x k).bytes 0 {n = i} (omega (arith, n))) (omega arith)
        ];
      }

  all_fit : (k : ℕ) → 16 * k ≤ length x → AllFit P (table k (record_of x))
  all_fit zero h = fit_none P (record_of x)
  all_fit (suc k) h =
      let on : k + 1 ≡ suc k = omega arith in
      let more : table k (record_of x) ++ (record_of x k ∷ []) ≡ table (suc k) (record_of x) = sym (table_more (record_of x) k) ∙ ap
      (λ (j : ℕ). table j (record_of x)) on in
      rw (← more) (fit_append P (table k (record_of x)) (record_of x k ∷ []) (all_fit k (omega arith)) (one_fits k (omega arith), tt))

  -- laid over any memory of that size, the first k leave the first cells of x
  laid_lines : (m : List ℕ) (k : ℕ) → length m ≡ P.size → 16 * k ≤ length x → laid_records (table k (record_of x)) m ≡ put m 0 (take (16 * k) x)
  laid_lines m zero e h = laid_none (record_of x) m ∙ sym (put_nil m 0)
  laid_lines m (suc k) e h =
      let on : k + 1 ≡ suc k = omega arith in
      let next : 16 * k + 16 ≡ 16 * suc k = omega arith in
      let so_far = take (16 * k) x in
      let n : length so_far ≡ 16 * k = length-take-le (16 * k) x (omega arith) in
      let s : length (record_of x k).bytes ≡ 16 = sixteen x k (omega arith) in
      ap (λ (j : ℕ). laid_records (table j (record_of x)) m) (sym on) ∙ ap (λ (rs : List HexRecord). laid_records rs m) (table_more (record_of x) k)
      ∙ laid_append (table k (record_of x)) (record_of x k ∷ []) m ∙ laid_one (record_of x k) (laid_records (table k (record_of x)) m)
      ∙ put_then m (laid_records (table k (record_of x)) m) 0 (16 * k) so_far (record_of x k).bytes (laid_lines m k e (omega arith)) (omega (arith, n))
      (omega (arith, n, s))
      ∙ ap (put m 0) (sym (take-add (16 * k) 16 x) ∙ ap (λ (j : ℕ). take j x) next)

-- ---- the M95512's image

-- every byte of a lent slice is below 256
module _ (x : List ℕ) (long : length x ≡ m95512.size) (small : Bytes x) where
  -- what export writes is a good text, and says exactly the image's records
  pub image_says : Says m95512 (image_text m95512 x) (image_records m95512 x)
  unfolding image_text
  image_says = record { written = refl; fitting = all_fit m95512 x long (omega arith) small 4096 (omega arith) }

  pub image_good : is_good m95512 (image_text m95512 x) ≡ true
  image_good = says_good m95512 (image_text m95512 x) (image_records m95512 x) image_says

  pub image_length : length (image_text m95512 x) ≡ image_room m95512
  unfolding image_text end_line
  image_length = length-append (records_text (image_records m95512 x)) end_line ∙ omega (arith, lines_length x 4096 (omega arith))

  -- the records laid over any memory give the image
  pub image_laid : (m : List ℕ) → length m ≡ m95512.size → laid_records (parted m95512 (image_text m95512 x)).records m ≡ x
  image_laid m e =
      ap (λ (p : Parted). laid_records p.records m) (says_parted m95512 (image_text m95512 x) (image_records m95512 x) image_says)
      ∙ laid_lines m95512 x long (omega arith) small m 4096 e (omega arith) ∙ ap (put m 0) (take_all 65536 x (omega arith)) ∙ put_all m x (long ∙ sym e)

  -- export and then import of a record whose part has such images, with no cycle running, over any memory
  module _ (c : Core) (m : List ℕ) (fits : length m ≡ (own_part c).size) (within : in_ranges (own_part c) c ≡ true)
      (image : imaged m95512 c ≡ true) (still : running c ≡ false) where
    taken : takes m95512 c (image_text m95512 x) ≡ true
    taken =
        and_both (imaged m95512 c) (not (running c) && is_good m95512 (image_text m95512 x)) image
        (and_both (not (running c)) (is_good m95512 (image_text m95512 x)) (ap not still) image_good)

    pub export_import : import_memory m95512 c m (image_text m95512 x) ≡ x
    export_import = sym (eq_so _ fits (yes_so _ within (yes_so _ taken (sym (image_laid m (fits ∙ eqb-true _ _ image))))))

    pub export_import_number : import_number m95512 c m (image_text m95512 x) ≡ 0
    export_import_number = sym (eq_so _ fits (yes_so _ within (yes_so _ taken refl)))

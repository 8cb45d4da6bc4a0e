-- A list of 64-bit words as one row of marks: mark i is bit i % 64 of word i / 64. Setting a mark, two rows joined word
-- by word, the marks of both, how many marks are set, and a byte for each mark. The laws are over the number of words.
use Rattle.std.specs.Prelude.{ℕ, zero, suc, ◌+◌, ◌*◌, ◌/◌, ◌%◌, ◌^◌, ◌<◌, ◌≤◌, Bool, true, false, ◌&&◌, ◌||◌, List, ◌≡◌, refl, eqb, length, get_or, set, replicate}
use Rattle.std.proofs.Math.Bool.{or-false}
use Rattle.std.proofs.Math.Path.{sym, ap}
use Rattle.std.proofs.Common.{ap₂, ◌∙◌, subst, suc-mul, zero-add, arith, length-set, get_or-set_same, get_or-set_other, ext_get_or, pow_pos, eq-eqb, ne_eqb, eqb-true}
use Rattle.std.proofs.Math.Decide.{dec_lt, ℕ_discrete}
use Rattle.std.proofs.lemmas.List.{get_or-replicate, length-replicate}
use Rattle.std.proofs.Math.ListN.{get_or-eq_default}
use Rattle.std.proofs.Math.Seq.{set_out}
use Rattle.std.proofs.Math.Pow.{pow-lt}
use Rattle.std.specs.Int.Bits.{bit_and, bit_or, or_comm, or_self, or_zero_r}
use Rattle.std.proofs.lemmas.Nat.{or_lt}
use Rattle.std.specs.Int.Count.{ones}
use Rattle.laws.specs.And.{same_test, or_right}
use Rattle.laws.specs.Flags.{bit, on, on_bit}
use Rattle.laws.specs.Count.{count, count_cong, count_add, count_le}
use Rattle.laws.specs.Table.{table, table_length, table_at, table_cong, table_is}
use Rattle.laws.specs.Bits.{bit_on, bit_none, bit_and_law, bit_or_law, bit_set, bit_ext, ones_count, or_assoc}

abbrev pub mark : List ℕ → ℕ → Bool
mark ws i = bit_on (get_or ws (i / 64) 0) (i % 64)

-- every word of the row is one
abbrev pub Wide : ℕ → List ℕ → Type 0
Wide n ws = (j : ℕ) → j < n → get_or ws j 0 < 2 ^ 64

-- ---- no mark

none_at : (n j : ℕ) → get_or {A = ℕ} (replicate n 0) j 0 ≡ 0
none_at n j = elim (dec_lt j n) [
  | yes h ↦ get_or-replicate {A = ℕ} n j 0 0 h
  | no h ↦ get_or-eq_default {A = ℕ} (replicate n 0) 0 (rw (length-replicate {A = ℕ} n 0) (omega arith))
]

pub mark_none : (n i : ℕ) → mark (replicate n 0) i ≡ false
mark_none n i = ap (λ (w : ℕ). bit_on w (i % 64)) (none_at n (i / 64)) ∙ bit_none (i % 64)

pub wide_none : (n : ℕ) → Wide n (replicate n 0)
wide_none n j h = rw (none_at n j) (pow_pos 64)

-- ---- one more

abbrev pub mark_set : ℕ → List ℕ → List ℕ
mark_set i ws = set ws (i / 64) (bit_or (get_or ws (i / 64) 0) (2 ^ (i % 64)))

pub mark_set_law : (ws : List ℕ) (i j : ℕ) → i / 64 < length ws → mark (mark_set i ws) j ≡ (mark ws j || eqb j i)
mark_set_law ws i j h = elim (ℕ_discrete (j / 64) (i / 64)) [
  | yes e ↦
      let v = bit_or (get_or ws (i / 64) 0) (2 ^ (i % 64)) in
      ap (λ (w : ℕ). bit_on w (j % 64))
      (ap (λ (k : ℕ). get_or (set ws (i / 64) v) k 0) e ∙ get_or-set_same ws (i / 64) v 0 h)
      ∙ bit_set (get_or ws (i / 64) 0) (i % 64) (j % 64)
      ∙ ap₂ ◌||◌ (ap (λ (k : ℕ). bit_on (get_or ws k 0) (j % 64)) (sym e))
      (same_test (eqb (j % 64) (i % 64)) (eqb j i)
      (λ p. eq-eqb j i (omega (arith, eqb-true (j % 64) (i % 64) p)))
      (λ p. eq-eqb (j % 64) (i % 64) (ap (λ (k : ℕ). k % 64) (eqb-true j i p))))
  | no e ↦
      let v = bit_or (get_or ws (i / 64) 0) (2 ^ (i % 64)) in
      ap (λ (w : ℕ). bit_on w (j % 64)) (get_or-set_other ws (i / 64) (j / 64) v 0 e)
      ∙ sym (ap (λ t. mark ws j || t) (ne_eqb j i (λ p. e (ap (λ (k : ℕ). k / 64) p))) ∙ or-false (mark ws j))
]

-- its own mark, and every other
pub mark_set_same : (ws : List ℕ) (i : ℕ) → i / 64 < length ws → mark (mark_set i ws) i ≡ true
mark_set_same ws i h = mark_set_law ws i i h ∙ or_right (mark ws i) (eqb i i) (eq-eqb i i refl)

pub mark_set_other : (ws : List ℕ) (i j : ℕ) → (j ≡ i → ⊥) → mark (mark_set i ws) j ≡ mark ws j
mark_set_other ws i j e = elim (dec_lt (i / 64) (length ws)) [
  | yes h ↦ mark_set_law ws i j h ∙ ap (λ t. mark ws j || t) (ne_eqb j i e) ∙ or-false (mark ws j)
  | no h ↦ ap (λ (l : List ℕ). mark l j) (set_out ws (i / 64) _ (omega arith))
]

pub wide_set : (n i : ℕ) (ws : List ℕ) → Wide n ws → Wide n (mark_set i ws)
wide_set n i ws w j h = elim (dec_lt (i / 64) (length ws)) [
  | yes k ↦ elim (ℕ_discrete j (i / 64)) [
    | yes e ↦
        let own : get_or (mark_set i ws) j 0 ≡ bit_or (get_or ws j 0) (2 ^ (i % 64)) =
        ap (λ (x : ℕ). get_or (mark_set i ws) x 0) e
        ∙ get_or-set_same ws (i / 64) _ 0 k
        ∙ ap (λ (x : ℕ). bit_or (get_or ws x 0) (2 ^ (i % 64))) (sym e) in
        rw own (or_lt 64 (get_or ws j 0) (2 ^ (i % 64)) (w j h) (pow-lt {j = 64} (omega arith)))
    | no e ↦ rw (get_or-set_other ws (i / 64) j (bit_or (get_or ws (i / 64) 0) (2 ^ (i % 64))) 0 e) (w j h)
  ]
  | no k ↦ rw (set_out ws (i / 64) (bit_or (get_or ws (i / 64) 0) (2 ^ (i % 64))) (omega arith)) (w j h)
]

-- ---- two rows joined

unfoldable pub or_words : ℕ → List ℕ → List ℕ → List ℕ
or_words n ws vs = table n (λ j. bit_or (get_or ws j 0) (get_or vs j 0))

module _ (n : ℕ) (ws vs : List ℕ) where
  pub or_words_length : length (or_words n ws vs) ≡ n
  unfolding or_words
  or_words_length = table_length _ n

  pub or_words_at : (j : ℕ) → j < n → get_or (or_words n ws vs) j 0 ≡ bit_or (get_or ws j 0) (get_or vs j 0)
  unfolding or_words
  or_words_at j h = table_at (λ j. bit_or (get_or ws j 0) (get_or vs j 0)) n j 0 h

  pub mark_or : (i : ℕ) → i < n * 64 → mark (or_words n ws vs) i ≡ (mark ws i || mark vs i)
  mark_or i h =
      ap (λ (w : ℕ). bit_on w (i % 64)) (or_words_at (i / 64) (omega arith))
      ∙ bit_or_law (get_or ws (i / 64) 0) (get_or vs (i / 64) 0) (i % 64)

  pub or_words_comm : or_words n ws vs ≡ or_words n vs ws
  unfolding or_words
  or_words_comm = table_cong _ _ n 0 (λ j h. or_comm (get_or ws j 0) (get_or vs j 0))

  pub or_words_assoc : (us : List ℕ) → or_words n (or_words n ws vs) us ≡ or_words n ws (or_words n vs us)
  unfolding or_words
  or_words_assoc us =
      table_cong _ _ n 0
      (λ j h.
      ap (λ (w : ℕ). bit_or w (get_or us j 0)) (or_words_at j h)
      ∙ or_assoc (get_or ws j 0) (get_or vs j 0) (get_or us j 0)
      ∙ sym (ap (bit_or (get_or ws j 0)) (table_at (λ j. bit_or (get_or vs j 0) (get_or us j 0)) n j 0 h)))

-- a row of n words: joined with itself, and with an empty one on either side
module _ (n : ℕ) (ws : List ℕ) (sized : length ws ≡ n) where
  pub or_words_self : or_words n ws ws ≡ ws
  unfolding or_words
  or_words_self = sym (table_is _ ws n 0 sized (λ j h. sym (or_self (get_or ws j 0))))

  pub or_words_none : or_words n ws (replicate n 0) ≡ ws
  unfolding or_words
  or_words_none =
      sym (table_is _ ws n 0 sized
      (λ j h. sym (ap (bit_or (get_or ws j 0)) (get_or-replicate {A = ℕ} n j 0 0 h) ∙ or_zero_r (get_or ws j 0))))

  pub none_or_words : or_words n (replicate n 0) ws ≡ ws
  none_or_words = or_words_comm n (replicate n 0) ws ∙ or_words_none

-- ---- the marks that are in both rows

unfoldable pub and_words : ℕ → List ℕ → List ℕ → List ℕ
and_words n ws vs = table n (λ j. bit_and (get_or ws j 0) (get_or vs j 0))

pub mark_and : (n : ℕ) (ws vs : List ℕ) (i : ℕ) → i < n * 64 → mark (and_words n ws vs) i ≡ (mark ws i && mark vs i)
unfolding and_words
mark_and n ws vs i h =
    ap (λ (w : ℕ). bit_on w (i % 64)) (table_at (λ j. bit_and (get_or ws j 0) (get_or vs j 0)) n (i / 64) 0 (omega arith))
    ∙ bit_and_law (get_or ws (i / 64) 0) (get_or vs (i / 64) 0) (i % 64)

-- ---- rows with the same marks are equal

pub mark_at : (ws : List ℕ) (n i : ℕ) → i < 64 → mark ws (n * 64 + i) ≡ bit_on (get_or ws n 0) i
mark_at ws n i h =
    let word : (n * 64 + i) / 64 ≡ n = omega arith in
    let place : (n * 64 + i) % 64 ≡ i = omega arith in
    ap₂ (λ (j k : ℕ). bit_on (get_or ws j 0) k) word place

pub mark_ext : (n : ℕ) (ws vs : List ℕ) → length ws ≡ n → length vs ≡ n → Wide n ws → Wide n vs
    → ((i : ℕ) → i < n * 64 → mark ws i ≡ mark vs i) → ws ≡ vs
mark_ext n ws vs e e' w w' f =
    ext_get_or 0 ws vs (e ∙ sym e')
    (λ j h.
    bit_ext 64 (get_or ws j 0) (get_or vs j 0) (w j (omega arith)) (w' j (omega arith))
    (λ i b. sym (mark_at ws j i b) ∙ f (j * 64 + i) (omega arith) ∙ mark_at vs j i b))

-- ---- how many are set

-- the ones of the first n words
unfoldable pub ones_of : ℕ → List ℕ → ℕ
ones_of zero ws = 0
ones_of (suc n) ws = ones_of n ws + ones (get_or ws n 0)

-- the ones of the words are the marks, counted, where the ones of each word are its 64 bits, counted
pub ones_marks : (n : ℕ) (ws : List ℕ) → ((j : ℕ) → j < n → ones (get_or ws j 0) ≡ count (bit_on (get_or ws j 0)) 64)
    → ones_of n ws ≡ count (mark ws) (n * 64)
unfolding ones_of count
ones_marks zero ws w = refl
ones_marks (suc n) ws w =
    ap₂ ◌+◌ (ones_marks n ws (λ j h. w j (omega arith)))
    (w n (omega arith)
    ∙ count_cong (bit_on (get_or ws n 0)) (λ i. mark ws (n * 64 + i)) 64 (λ i h. sym (mark_at ws n i h)))
    ∙ sym (ap (count (mark ws)) (suc-mul n 64) ∙ count_add (mark ws) (n * 64) 64)

-- and so they are in a row of words
pub ones_wide : (n : ℕ) (ws : List ℕ) → Wide n ws → ones_of n ws ≡ count (mark ws) (n * 64)
ones_wide n ws w = ones_marks n ws (λ j h. ones_count 64 (get_or ws j 0) (w j h))

-- what the count of one word's ones hands back
abbrev pub Counted : ℕ → ℕ → Type 0
Counted w a = (a ≡ ones w) × (a ≡ count (bit_on w) 64)

pub counted_small : (w a : ℕ) → Counted w a → a ≤ 64
counted_small w a p = omega (arith, p.1, count_le (bit_on w) 64)

-- the ones of the first n words of a row, added up: the marks of those words, counted
abbrev pub CountedRow : ℕ → List ℕ → ℕ → Type 0
CountedRow n ws a = (a ≡ ones_of n ws) × (a ≡ count (mark ws) (n * 64))

-- one word more
pub counted_more : (n : ℕ) (ws : List ℕ) (a b : ℕ) → CountedRow n ws a → Counted (get_or ws n 0) b
    → CountedRow (suc n) ws (a + b)
unfolding ones_of
counted_more n ws a b p q = (
  ap₂ ◌+◌ p.0 q.0,
  ap₂ ◌+◌ p.1
      (q.1 ∙ count_cong (bit_on (get_or ws n 0)) (λ i. mark ws (n * 64 + i)) 64 (λ i h. sym (mark_at ws n i h)))
      ∙ sym (ap (count (mark ws)) (suc-mul n 64) ∙ count_add (mark ws) (n * 64) 64),
)

pub counted_first : (ws : List ℕ) (a : ℕ) → Counted (get_or ws 0 0) a → CountedRow 1 ws a
unfolding ones_of count
counted_first ws a p = subst (CountedRow 1 ws) (zero-add a) (counted_more 0 ws 0 a (refl, refl) p)

-- ---- a byte for each mark, 1 or 0

unfoldable pub mark_bytes : ℕ → List ℕ → List ℕ
mark_bytes n ws = table (n * 64) (λ i. bit (mark ws i))

module _ (n : ℕ) (ws : List ℕ) where
  pub mark_bytes_length : length (mark_bytes n ws) ≡ n * 64
  unfolding mark_bytes
  mark_bytes_length = table_length _ (n * 64)

  pub mark_bytes_at : (i : ℕ) → i < n * 64 → get_or (mark_bytes n ws) i 0 ≡ bit (mark ws i)
  unfolding mark_bytes
  mark_bytes_at i h = table_at (λ i. bit (mark ws i)) (n * 64) i 0 h

  -- a list that says so at each index is it
  pub mark_bytes_is : (s : List ℕ) → length s ≡ n * 64 → ((i : ℕ) → i < n * 64 → get_or s i 0 ≡ bit (mark ws i))
      → s ≡ mark_bytes n ws
  unfolding mark_bytes
  mark_bytes_is s e h = table_is (λ i. bit (mark ws i)) s (n * 64) 0 e h

pub mark_bytes_none : (n : ℕ) → mark_bytes n (replicate n 0) ≡ replicate (n * 64) 0
mark_bytes_none n =
    sym (mark_bytes_is n (replicate n 0) (replicate (n * 64) 0) (length-replicate {A = ℕ} (n * 64) 0)
    (λ i h. none_at (n * 64) i ∙ sym (ap bit (mark_none n i))))

pub mark_bytes_set : (n i : ℕ) (ws : List ℕ) → length ws ≡ n → i < n * 64
    → mark_bytes n (mark_set i ws) ≡ set (mark_bytes n ws) i 1
mark_bytes_set n i ws e h =
    sym (mark_bytes_is n (mark_set i ws) (set (mark_bytes n ws) i 1)
    (length-set (mark_bytes n ws) i 1 ∙ mark_bytes_length n ws)
    (λ j b. elim (ℕ_discrete j i) [
      | yes k ↦
          ap (λ (x : ℕ). get_or (set (mark_bytes n ws) i 1) x 0) k
          ∙ get_or-set_same (mark_bytes n ws) i 1 0 (omega (arith, mark_bytes_length n ws))
          ∙ sym (ap bit (ap (mark (mark_set i ws)) k ∙ mark_set_same ws i (omega arith)))
      | no k ↦
          get_or-set_other (mark_bytes n ws) i j 1 0 k
          ∙ mark_bytes_at n ws j b
          ∙ sym (ap bit (mark_set_other ws i j k))
    ]))

bit_same : (t u : Bool) → bit t ≡ bit u → t ≡ u
bit_same t u e = sym (on_bit t) ∙ ap on e ∙ on_bit u

-- nothing is lost by them
pub mark_bytes_same : (n : ℕ) (ws vs : List ℕ) → length ws ≡ n → length vs ≡ n → Wide n ws → Wide n vs
    → mark_bytes n ws ≡ mark_bytes n vs → ws ≡ vs
mark_bytes_same n ws vs e e' w w' same =
    mark_ext n ws vs e e' w w'
    (λ i h.
    bit_same (mark ws i) (mark vs i)
    (sym (mark_bytes_at n ws i h) ∙ ap (λ (l : List ℕ). get_or l i 0) same ∙ mark_bytes_at n vs i h))

-- Two frames of one length and one count that agree on the bits that are counted get the same answer, record and output: the bits past the count, which are
-- in the last byte, change nothing.
use Rattle.std.specs.Prelude.{Err, Ok}
use mathlib.Core.Path.{◌≡◌, refl, ap, ap₂, sym, ◌∙◌}
use mathlib.Core.Bool.{Bool, true, false}
use mathlib.Core.List.{List, [], ◌∷◌, ◌++◌}
use Prim.Native.Nat.{ℕ, zero, suc, ◌+◌, ◌*◌, ◌-◌, ◌/◌, ◌^◌, ◌<◌, ◌≤◌}
use native.Mathlib.Omega.{arith}
use lib.ListN.{length, get_or, take, drop}
use Rattle.laws.specs.Pick.{pick}
use Rattle.codes.specs.Part.{Part}
use Rattle.codes.specs.Status.{bit, on, bit_of}
use Rattle.codes.specs.Refusals.{Outcome, no_refusal}
use Rattle.chip.specs.declared.Core.{Core}
use Rattle.fields.specs.Counts.{bits_fit}
use Rattle.frames.specs.Answers.{frame_outcome, framed, framed_output}
use Rattle.frames.proofs.Outcomes.{taken}
use Rattle.frames.proofs.Unused.{fit_bits, unused_framed, unused_output}
use Rattle.agree.specs.Drawings.{low_bits, flat, bits_of}
use Rattle.laws.specs.Flags.{bit_on_law}
use Rattle.agree.proofs.Facts.{halves}

-- ---- the high bits of a byte say its high part

same_bit : (m v u : ℕ) → on (bit_of m v) ≡ on (bit_of m u) → bit_of m v ≡ bit_of m u
same_bit m v u e = bit_on_law (bit_of m v) (omega arith) ∙ ap bit e ∙ sym (bit_on_law (bit_of m u) (omega arith))

high_same : (j m v u : ℕ) → j ≤ m → v / 2 ^ m ≡ u / 2 ^ m → (x y : List Bool) → take j (low_bits m v ++ x) ≡ take j (low_bits m u ++ y)
    → v / 2 ^ (m - j) ≡ u / 2 ^ (m - j)
high_same zero m v u h e x y p = let none : m - 0 ≡ m = omega arith in rw none e
high_same (suc j) zero v u h e x y p = absurd (omega arith)
high_same (suc j) (suc m) v u h e x y p =
    let first = same_bit m v u (ap (λ (l : List Bool). get_or l 0 false) p) in
    let high : v / 2 ^ m ≡ u / 2 ^ m = halves v m ∙ ap₂ (λ a b. 2 * a + b) e first ∙ sym (halves u m) in
    let less : suc m - suc j ≡ m - j = omega arith in
    rw less (high_same j m v u (omega arith) high x y (ap (drop 1) p))

-- ---- frames that agree on the counted bits differ in the last byte's others

abbrev Close : List ℕ → List ℕ → ℕ → Type 0
Close s r n =
    (t : List ℕ) × (u : ℕ) × (v : ℕ) × (s ≡ t ++ (u ∷ [])) × (r ≡ t ++ (v ∷ [])) × (u / 2 ^ (8 * (length t + 1) - n) ≡ v / 2 ^ (8 * (length t + 1) - n))

abbrev Bytes : List ℕ → Type 0
Bytes s = (i : ℕ) → get_or s i 0 < 256

-- the first byte of two frames that agree on more than its bits, and the rest of them
first_bits : (x y n k : ℕ) (s r : List ℕ) → n ≡ suc (suc (suc (suc (suc (suc (suc (suc k))))))) → take n (flat (x ∷ s)) ≡ take n (flat (y ∷ r))
    → (take 8 (low_bits 8 x ++ []) ≡ take 8 (low_bits 8 y ++ [])) × (take k (flat s) ≡ take k (flat r))
unfolding flat
first_bits x y n k s r i e = let both = rw i at e in (ap (take 8) both, ap (drop 8) both)

alone : (x y n : ℕ) → take n (flat (x ∷ [])) ≡ take n (flat (y ∷ [])) → take n (low_bits 8 x ++ []) ≡ take n (low_bits 8 y ++ [])
unfolding flat
alone x y n e = e

first_byte : (x y : ℕ) → x < 256 → y < 256 → take 8 (low_bits 8 x ++ []) ≡ take 8 (low_bits 8 y ++ []) → x ≡ y
first_byte x y a b e = let whole : x / 1 ≡ y / 1 = high_same 8 8 x y (omega arith) (omega arith) [] [] e in omega arith

-- a byte more before them
close_more : (x y n : ℕ) (s r : List ℕ) → x ≡ y → 8 ≤ n → Close s r (n - 8) → Close (x ∷ s) (y ∷ r) n
close_more x y n s r i h (t, u, v, f, g, e) =
    let less : 8 * (length (x ∷ t) + 1) - n ≡ 8 * (length t + 1) - (n - 8) = omega arith in
    (x ∷ t, u, v, ap (λ (k : List ℕ). x ∷ k) f, ap₂ (λ (d : ℕ) (k : List ℕ). d ∷ k) (sym i) g, rw less e)

close : (x : ℕ) (s : List ℕ) (y : ℕ) (r : List ℕ) (n : ℕ) → length s ≡ length r → Bytes (x ∷ s) → Bytes (y ∷ r) → 8 * (length s + 1) ≤ n + 7
    → n ≤ 8 * (length s + 1)
    → take n (flat (x ∷ s)) ≡ take n (flat (y ∷ r)) → Close (x ∷ s) (y ∷ r) n
close x [] y [] n l a b p q e = ([], x, y, refl, refl, high_same n 8 x y (omega arith) (omega (arith, a 0, b 0)) [] [] (alone x y n e))
close x [] y (z ∷ r) n l a b p q e = absurd (omega (arith, l))
close x (w ∷ s) y [] n l a b p q e = absurd (omega (arith, l))
close x (w ∷ s) y (z ∷ r) n l a b p q e =
    let parts = first_bits x y n (n - 8) (w ∷ s) (z ∷ r) (omega arith) e in
    let rest = close w s z r (n - 8) (omega (arith, l)) (λ i. a (suc i)) (λ i. b (suc i)) (omega arith) (omega arith) parts.1 in
    close_more x y n (w ∷ s) (z ∷ r) (first_byte x y (a 0) (b 0) parts.0) (omega arith) rest

-- ---- the public call

module _ (P : Part) (c : Core) (m q : List ℕ) (w : Bool) (n : ℕ) where
  -- frames of one length are refused alike, with the record and the output as they were
  abbrev outcome : List ℕ → ℕ → Outcome
  outcome s room = frame_outcome P c (length m) (length q) (length s) n room

  refused_same : (s r : List ℕ) (room : ℕ) → length s ≡ length r → (o : Outcome) → outcome s room ≡ o
      → (o ≡ no_refusal → framed P c m q w s n room ≡ framed P c m q w r n room)
      → framed P c m q w s n room ≡ framed P c m q w r n room
  unfolding pick framed
  refused_same s r room l (Ok _) e h = h refl
  refused_same s r room l (Err f) e h =
      let also : outcome r room ≡ Err f = ap (λ (k : ℕ). frame_outcome P c (length m) (length q) k n room) (sym l) ∙ e in
      rw (e, also) refl

  kept_same : (s r out : List ℕ) → length s ≡ length r → (o : Outcome) → outcome s (length out) ≡ o
      → (o ≡ no_refusal → framed_output P c m q s n out ≡ framed_output P c m q r n out)
      → framed_output P c m q s n out ≡ framed_output P c m q r n out
  unfolding pick framed_output
  kept_same s r out l (Ok _) e h = h refl
  kept_same s r out l (Err f) e h =
      let also : outcome r (length out) ≡ Err f = ap (λ (k : ℕ). frame_outcome P c (length m) (length q) k n (length out)) (sym l) ∙ e in
      rw (e, also) refl

  fits : (s : List ℕ) (room : ℕ) → outcome s room ≡ no_refusal → bits_fit (length s) n ≡ true
  fits s room e = (taken P c (length m) (length q) (length s) n room refl e).counted

  near : (x : ℕ) (s : List ℕ) (y : ℕ) (r : List ℕ) → length s ≡ length r → Bytes (x ∷ s) → Bytes (y ∷ r) → bits_of (x ∷ s) n ≡ bits_of (y ∷ r) n
      → bits_fit (length (x ∷ s)) n ≡ true
      → Close (x ∷ s) (y ∷ r) n
  near x s y r l a b e f =
      let more : length (x ∷ s) ≡ length s + 1 = omega arith in
      let bits = fit_bits (length s) n (rw more at f) in
      close x s y r n l a b bits.0 bits.1 e

  pub counted_framed : (s r : List ℕ) (room : ℕ) → length s ≡ length r → Bytes s → Bytes r → bits_of s n ≡ bits_of r n
      → framed P c m q w s n room ≡ framed P c m q w r n room
  counted_framed [] [] room l a b e = refl
  counted_framed [] (y ∷ r) room l a b e = absurd (omega (arith, l))
  counted_framed (x ∷ s) [] room l a b e = absurd (omega (arith, l))
  counted_framed (x ∷ s) (y ∷ r) room l a b e =
      refused_same (x ∷ s) (y ∷ r) room l (outcome (x ∷ s) room) refl
      (λ d. let k = near x s y r (omega (arith, l)) a b e (fits (x ∷ s) room d) in
      ap (λ (i : List ℕ). framed P c m q w i n room) k.3 ∙ unused_framed P c m q w k.0 k.1 k.2 n k.5 room ∙ sym
      (ap (λ (i : List ℕ). framed P c m q w i n room) k.4))

  pub counted_output : (s r out : List ℕ) → length s ≡ length r → Bytes s → Bytes r → bits_of s n ≡ bits_of r n
      → framed_output P c m q s n out ≡ framed_output P c m q r n out
  counted_output [] [] out l a b e = refl
  counted_output [] (y ∷ r) out l a b e = absurd (omega (arith, l))
  counted_output (x ∷ s) [] out l a b e = absurd (omega (arith, l))
  counted_output (x ∷ s) (y ∷ r) out l a b e =
      kept_same (x ∷ s) (y ∷ r) out l (outcome (x ∷ s) (length out)) refl
      (λ d. let k = near x s y r (omega (arith, l)) a b e (fits (x ∷ s) (length out) d) in
      ap (λ (i : List ℕ). framed_output P c m q i n out) k.3 ∙ unused_output P c m q w k.0 k.1 k.2 n k.5 out ∙ sym
      (ap (λ (i : List ℕ). framed_output P c m q i n out) k.4))

-- The unused low bits of a frame's last byte change nothing: two frames of one count whose bytes before the last are the same, and whose last bytes agree on
-- the bits that are counted, give the same answer, record and output.
use Rattle.std.specs.Prelude.{Err, Ok}
use mathlib.Core.Path.{◌≡◌, refl, ap, ap₂, sym, ◌∙◌}
use mathlib.Core.Bool.{Bool, true, false, not, ◌&&◌}
use mathlib.Core.List.{List, [], ◌∷◌, ◌++◌}
use Prim.Native.Nat.{ℕ, zero, suc, ◌+◌, ◌*◌, ◌-◌, ◌/◌, ◌%◌, ◌^◌, ◌<◌, ◌≤◌, min}
use native.Mathlib.Omega.{arith}
use lib.ListN.{length, get_or, length-append, get_or-append}
use lib.Dec.{eqb, leb}
use borrow.Author.Tests.{leb-true, lt-leb, eqb-true, eqb-false, ne_eqb}
use Rattle.laws.specs.Pick.{pick, pick_case, at_no, pick_same, and_left, and_right, and_no_left, and_no_right}
use Rattle.laws.specs.Table.{table, table_cong}
use Rattle.codes.specs.Part.{Part}
use Rattle.codes.specs.Output.{outputs}
use Rattle.codes.specs.Instructions.{decode, count_fits, picks_lock, write_bits}
use Rattle.codes.specs.Refusals.{is_done, no_refusal, Outcome}
use Rattle.codes.specs.declared.Count.{Count}
use Rattle.codes.specs.declared.Count.TheVariants.{Exactly, WholeBytes}
use Rattle.codes.specs.declared.Instruction.{Instruction}
use Rattle.codes.specs.declared.Instruction.TheVariants.{Wren, Wrdi, Rdsr, Wrsr, Read, Write, Rdid, Wrid, Silence}
use Rattle.chip.specs.declared.Core.{Core}
use Rattle.chip.specs.Records.{running, status, lock_byte}
use Rattle.fields.specs.Bytes.{instruction, address_to, address}
use Rattle.fields.specs.Counts.{bits_fit}
use Rattle.shown.specs.Shown.{Sights, sights, byte_out, padded_at, output, undriven}
use Rattle.frames.specs.Answers.{Framed, frame_outcome, frame_reply, framed, framed_output}
use Rattle.frames.specs.After.{after}
use Rattle.frames.proofs.Outcomes.{taken}
use Rattle.frames.proofs.Ignored.{miscounted}

-- the frame: its bytes before the last, and the last
abbrev ending : List ℕ → ℕ → List ℕ
ending t u = t ++ (u ∷ [])

ending_length : (t : List ℕ) (u : ℕ) → length (ending t u) ≡ length t + 1
ending_length t u = length-append t (u ∷ [])

ending_at : (t : List ℕ) (u v i : ℕ) → i < length t → get_or (ending t u) i 0 ≡ get_or (ending t v) i 0
ending_at t u v i h = get_or-append t (u ∷ []) 0 i h ∙ sym (get_or-append t (v ∷ []) 0 i h)

-- a count that fits is within seven of the last bit
pub fit_bits : (len n : ℕ) → bits_fit (len + 1) n ≡ true → (8 * (len + 1) ≤ n + 7) × (n ≤ 8 * (len + 1))
fit_bits len n fit =
    let some : eqb (len + 1) 0 ≡ false = ne_eqb (len + 1) 0 (λ e. omega arith) in
    let both : (leb (8 * (len + 1) - 7) n && leb n (8 * (len + 1))) ≡ true = sym (at_no _ _ some) ∙ fit in (
      omega (arith, leb-true (8 * (len + 1) - 7) n (and_left _ _ both)),
      leb-true n (8 * (len + 1)) (and_right (leb (8 * (len + 1) - 7) n) _ both),
    )

module _ (P : Part) where
  address_same : (t : List ℕ) (u v k : ℕ) → k < length t → address_to P (ending t u) k ≡ address_to P (ending t v) k
  address_same t u v zero h = refl
  address_same t u v (suc k) h =
      ap₂ (λ a b. (a + b * 256 ^ (P.address_bytes - suc k)) % P.size) (address_same t u v k (omega arith)) (ending_at t u v (suc k) h)

  -- ---- a frame of less than a byte: no instruction

  short_read : (ran : Bool) (n : ℕ) → n < 8 → pick ran n (min (8 * (P.address_bytes + 1)) n) ≡ n
  short_read ran n h = pick_case (λ (k : ℕ). k ≡ n) ran (λ _. refl) (λ _. omega arith)

  short_undriven : (i : Instruction) (ran : Bool) (n : ℕ) → n < 8 → undriven P i ran n ≡ n
  short_undriven Wren ran n h = refl
  short_undriven Wrdi ran n h = refl
  short_undriven Rdsr ran n h = omega arith
  short_undriven Wrsr ran n h = refl
  short_undriven Read ran n h = short_read ran n h
  short_undriven Write ran n h = refl
  short_undriven Rdid ran n h = short_read ran n h
  short_undriven Wrid ran n h = refl
  short_undriven Silence ran n h = refl

  -- before its data output an instruction drives nothing, wherever its address is
  undriven_byte : (i : Instruction) (ran : Bool) (o : Sights) (a j : ℕ) → outputs P i j ran ≡ false → byte_out P i ran o a j ≡ 255
  unfolding pick
  undriven_byte Wren ran o a j e = refl
  undriven_byte Wrdi ran o a j e = refl
  undriven_byte Rdsr ran o a j e = rw e refl
  undriven_byte Wrsr ran o a j e = refl
  undriven_byte Read ran o a j e = rw e refl
  undriven_byte Write ran o a j e = refl
  undriven_byte Rdid ran o a j e = rw e refl
  undriven_byte Wrid ran o a j e = refl
  undriven_byte Silence ran o a j e = refl

  before_address : (ran : Bool) (j : ℕ) → leb (P.address_bytes + 1) j ≡ false → (leb (P.address_bytes + 1) j && not ran) ≡ false
  before_address ran j e = and_no_left (leb (P.address_bytes + 1) j) (not ran) e

  first_byte : (i : Instruction) (ran : Bool) → outputs P i 0 ran ≡ false
  first_byte Wren ran = refl
  first_byte Wrdi ran = refl
  first_byte Rdsr ran = refl
  first_byte Wrsr ran = refl
  first_byte Read ran = before_address ran 0 (lt-leb (P.address_bytes + 1) 0 (omega arith))
  first_byte Write ran = refl
  first_byte Rdid ran = before_address ran 0 (lt-leb (P.address_bytes + 1) 0 (omega arith))
  first_byte Wrid ran = refl
  first_byte Silence ran = refl

  -- over byte j the address counts only where its bytes stand before j
  data_byte : (i : Instruction) (ran : Bool) (o : Sights) (a b j : ℕ) → (leb (P.address_bytes + 1) j ≡ false → outputs P i j ran ≡ false)
      → (P.address_bytes < j → a ≡ b) → byte_out P i ran o a j ≡ byte_out P i ran o b j
  data_byte i ran o a b j none h = by_place (leb (P.address_bytes + 1) j) refl
    where
      by_place : (t : Bool) → leb (P.address_bytes + 1) j ≡ t → byte_out P i ran o a j ≡ byte_out P i ran o b j
      by_place true e = ap (λ (k : ℕ). byte_out P i ran o k j) (h (omega (arith, leb-true (P.address_bytes + 1) j e)))
      by_place false e = undriven_byte i ran o a j (none e) ∙ sym (undriven_byte i ran o b j (none e))

  same_byte : (i : Instruction) (ran : Bool) (o : Sights) (a b j : ℕ) → (P.address_bytes < j → a ≡ b) → byte_out P i ran o a j ≡ byte_out P i ran o b j
  same_byte Wren ran o a b j h = refl
  same_byte Wrdi ran o a b j h = refl
  same_byte Rdsr ran o a b j h = refl
  same_byte Wrsr ran o a b j h = refl
  same_byte Read ran o a b j h = data_byte Read ran o a b j (before_address ran j) h
  same_byte Write ran o a b j h = refl
  same_byte Rdid ran o a b j h = data_byte Rdid ran o a b j (before_address ran j) h
  same_byte Wrid ran o a b j h = refl
  same_byte Silence ran o a b j h = refl

  -- ---- a part of a byte at the end: nothing is executed that moves the record

  module _ (ran w : Bool) (c : Core) (s : List ℕ) (n : ℕ) (part : n % 8 ≡ 0 → ⊥) where
    unwhole : count_fits (WholeBytes (write_bits P)) n ≡ false
    unwhole = and_no_right (leb (write_bits P) n) (eqb (n % 8) 0) (ne_eqb (n % 8) 0 part)

    inexact : count_fits (Exactly (write_bits P)) n ≡ false
    inexact = ne_eqb n (write_bits P) (λ j. part (omega arith))

    nothing_done : (i : Instruction) → instruction P s ≡ i → after P ran w c s n ≡ c
    nothing_done Wren e = miscounted P ran w c s n (rw e (ne_eqb n 8 (λ j. part (rw j refl))))
    nothing_done Wrdi e = miscounted P ran w c s n (rw e (ne_eqb n 8 (λ j. part (rw j refl))))
    nothing_done Rdsr e = rw e (pick_same _ c)
    nothing_done Wrsr e = miscounted P ran w c s n (rw e (ne_eqb n 16 (λ j. part (rw j refl))))
    nothing_done Read e = rw e (pick_same _ c)
    nothing_done Write e = miscounted P ran w c s n (rw e unwhole)
    nothing_done Rdid e = rw e (pick_same _ c)
    nothing_done Wrid e =
        miscounted P ran w c s n (rw e (pick_case (λ (k : Count). count_fits k n ≡ false) (picks_lock (address P s)) (λ _. inexact) (λ _. unwhole)))
    nothing_done Silence e = rw e (pick_same _ c)

  -- ---- over each byte the same stands, and as many bits are undriven

  undriven_same : (ran : Bool) (t : List ℕ) (u v n : ℕ) → n < 8 * (length t + 1)
      → undriven P (instruction P (ending t u)) ran n ≡ undriven P (instruction P (ending t v)) ran n
  undriven_same ran [] u v n h = short_undriven (decode P u) ran n h ∙ sym (short_undriven (decode P v) ran n h)
  undriven_same ran (x ∷ t) u v n h = refl

  module _ (ran : Bool) (o : Sights) where
    bytes_same : (t : List ℕ) (u v j : ℕ) → j < length t + 1
        → byte_out P (instruction P (ending t u)) ran o (address P (ending t u)) j ≡ byte_out P (instruction P (ending t v)) ran o
        (address P (ending t v)) j
    bytes_same [] u v zero h =
        undriven_byte (decode P u) ran o _ 0 (first_byte (decode P u) ran) ∙ sym (undriven_byte (decode P v) ran o _ 0 (first_byte (decode P v) ran))
    bytes_same [] u v (suc j) h = absurd (omega arith)
    bytes_same (x ∷ t) u v j h =
        same_byte (decode P x) ran o (address P (ending (x ∷ t) u)) (address P (ending (x ∷ t) v)) j
        (λ l. address_same (x ∷ t) u v P.address_bytes (omega arith))

    -- the output of a frame of so many bytes
    abbrev shows : ℕ → ℕ → List ℕ → List ℕ
    shows n len s = table len (λ j. padded_at len n j (byte_out P (instruction P s) ran o (address P s) j))

    output_same : (t : List ℕ) (u v n : ℕ) → output P ran o (ending t u) n ≡ output P ran o (ending t v) n
    unfolding output
    output_same t u v n =
        ap (λ (len : ℕ). shows n len (ending t u)) (ending_length t u)
        ∙ table_cong _ _ (length t + 1) 0 (λ j h. ap (padded_at (length t + 1) n j) (bytes_same t u v j h))
        ∙ sym (ap (λ (len : ℕ). shows n len (ending t v)) (ending_length t v))

  -- ---- the three results of a frame that is taken

  module _ (ran w : Bool) (c : Core) (t : List ℕ) (u v n : ℕ) (fit : bits_fit (length t + 1) n ≡ true)
      (same : u / 2 ^ (8 * (length t + 1) - n) ≡ v / 2 ^ (8 * (length t + 1) - n)) where
    abbrev Same : Type 0
    Same = (undriven P (instruction P (ending t u)) ran n ≡ undriven P (instruction P (ending t v)) ran n)
        × (after P ran w c (ending t u) n ≡ after P ran w c (ending t v) n)

    results : (b : Bool) → eqb n (8 * (length t + 1)) ≡ b → Same
    results true e =
        let all = eqb-true n (8 * (length t + 1)) e in
        let none : 8 * (length t + 1) - n ≡ 0 = omega arith in
        let one : u / 1 ≡ v / 1 = rw none at same in
        let is : u ≡ v = omega arith in
        (ap (λ (k : ℕ). undriven P (instruction P (ending t k)) ran n) is, ap (λ (k : ℕ). after P ran w c (ending t k) n) is)
    results false e =
        let some = eqb-false n (8 * (length t + 1)) e in
        let bits = fit_bits (length t) n fit in
        let part : n % 8 ≡ 0 → ⊥ = λ z. some (omega (arith, bits.0, bits.1)) in (
          undriven_same ran t u v n (omega (arith, bits.1)),
          nothing_done ran w c (ending t u) n part (instruction P (ending t u)) refl ∙ sym
              (nothing_done ran w c (ending t v) n part (instruction P (ending t v)) refl),
        )

  -- ---- the public call

  abbrev replied : Outcome → ℕ → Core → Core → Framed
  replied o k x c = record { answer = frame_reply o k; core = pick (is_done o) x c }

  replied_same : (o : Outcome) (c : Core) {k k' : ℕ} {x x' : Core} → (o ≡ no_refusal → (k ≡ k') × (x ≡ x')) → replied o k x c ≡ replied o k' x' c
  unfolding pick
  replied_same (Ok _) c h = ap₂ (λ k x. replied no_refusal k x c) (h refl).0 (h refl).1
  replied_same (Err r) c h = refl

  module _ (c : Core) (m i : List ℕ) (w : Bool) (t : List ℕ) (u v n : ℕ)
      (same : u / 2 ^ (8 * (length t + 1) - n) ≡ v / 2 ^ (8 * (length t + 1) - n)) where
    counted : (room : ℕ) → frame_outcome P c (length m) (length i) (length t + 1) n room ≡ no_refusal → bits_fit (length t + 1) n ≡ true
    counted room e = (taken P c (length m) (length i) (length t + 1) n room refl e).counted

    pub unused_framed : (room : ℕ) → framed P c m i w (ending t u) n room ≡ framed P c m i w (ending t v) n room
    unfolding framed
    unused_framed room =
        let replies : List ℕ → ℕ → Framed = λ s len. replied (frame_outcome P c (length m) (length i) len n room) (undriven P (instruction P s) (running c) n)
        (after P (running c) w c s n) c in
        ap (replies (ending t u)) (ending_length t u)
        ∙ replied_same (frame_outcome P c (length m) (length i) (length t + 1) n room) c
        (λ e. results (running c) w c t u v n (counted room e) same (eqb n (8 * (length t + 1))) refl)
        ∙ sym (ap (replies (ending t v)) (ending_length t v))

    pub unused_output : (out : List ℕ) → framed_output P c m i (ending t u) n out ≡ framed_output P c m i (ending t v) n out
    unfolding framed_output
    unused_output out =
        let shown : List ℕ → ℕ → List ℕ = λ l len. pick (is_done (frame_outcome P c (length m) (length i) len n (length out))) l out in
        let seen = sights (status c) (lock_byte c) m i in
        ap (shown (output P (running c) seen (ending t u) n)) (ending_length t u)
        ∙ ap (λ (l : List ℕ). shown l (length t + 1)) (output_same (running c) seen t u v n)
        ∙ sym (ap (shown (output P (running c) seen (ending t v) n)) (ending_length t v))

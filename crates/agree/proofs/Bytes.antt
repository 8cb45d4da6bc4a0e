-- The edges of eight bits are a byte, in either mode: bit by bit, C low before each rising edge.
use Prim.Native.Nat.{ℕ, zero, suc, ◌+◌, ◌*◌, ◌-◌, ◌/◌, ◌^◌, ◌<◌, ◌≤◌, min}
use mathlib.Core.Bool.{Bool, true, false, not, ◌&&◌}
use mathlib.Core.List.{List, [], ◌∷◌, ◌++◌}
use mathlib.Core.Path.{◌≡◌, refl, sym, ap, ap₂, ◌∙◌, subst⁻¹}
use lib.Dec.{leb, ltb}
use lib.ListN.{take}
use borrow.Author.Tests.{le-leb, lt-leb, lt-ltb, le-ltb}
use native.Mathlib.Nat.{mod-eq_of_lt, div-le_self}
use native.Mathlib.Omega.{arith}
use Rattle.laws.specs.Pick.{pick, pick_case, pick_same, at_yes, at_no, and_both}
use Rattle.codes.specs.Part.{Part}
use Rattle.codes.specs.Status.{bit, on, bit_of}
use Rattle.chip.specs.Records.{running}
use Rattle.chip.specs.Questions.{barred}
use Rattle.chip.specs.Effects.{effect}
use Rattle.codes.specs.Instructions.{decode}
use Rattle.codes.specs.Verdicts.{verdict, is_executed}
use Rattle.codes.specs.declared.Instruction.{Instruction}
use Rattle.codes.specs.declared.Instruction.TheVariants.{Wren, Wrdi, Rdsr, Wrsr, Read, Write, Rdid, Wrid, Silence}
use Rattle.chip.specs.declared.Core.{Core}
use Rattle.latch.specs.declared.Latch.{Latch}
use Rattle.frames.specs.Play.{FrameBench}
use Rattle.timed_frames.specs.declared.Mode.TheVariants as mode
use Rattle.edges.specs.declared.Frame.{Frame}
use Rattle.edges.specs.declared.Level.{Level}
use Rattle.edges.specs.declared.Level.TheVariants.{Zero, One}
use Rattle.edges.specs.Frames.{no_frame, with_bits, with_out}
use Rattle.edges.specs.Rising.{risen, whole_byte, shifted_in}
use Rattle.edges.specs.Falling.{fallen, loading, level_of}
use Rattle.codes.specs.Output.{outputs}
use Rattle.agree.specs.Drawings.{low_bits, Item, up, pulses}
use Rattle.agree.specs.Reports.{lent_of, as_one}
use Rattle.codes.proofs.Sound.{Sound}
use Rattle.laws.specs.Flags.{on_bit, bit_on_law, bit_small}
use Rattle.agree.proofs.Facts.{halves}
use Rattle.agree.proofs.Ticks.{risen_in, fallen_in, shows, seen_of, end_of, decides_at, decides}
use Rattle.agree.proofs.Steps.{shown_at, mid_byte, Course, after_bytes, drives, drives_of, step, step_first, step_more}

-- ---- the bits of a byte, joined

-- one bit more
one_more : (v k : ℕ) → 2 * (v / 2 ^ suc k) + bit (on (bit_of k v)) ≡ v / 2 ^ k
one_more v k = ap (λ x. 2 * (v / 2 ^ suc k) + x) (sym (bit_on_law (bit_of k v) (omega arith))) ∙ sym (halves v k)

joined : (v k a : ℕ) → a ≡ v / 2 ^ suc k → 2 * a + bit (on (bit_of k v)) ≡ v / 2 ^ k
joined v k a e = ap (λ x. 2 * x + bit (on (bit_of k v))) e ∙ one_more v k

-- all of them
joined_all : (v a : ℕ) → a ≡ v / 2 ^ 1 → 2 * a + bit (on (bit_of 0 v)) ≡ v
joined_all v a e = joined v 0 a e ∙ (omega arith)

few : (v k a : ℕ) → v < 256 → a ≡ v / 2 ^ suc k → a < 128
few v k a h e = omega (arith, halves v k, div-le_self v (2 ^ k))

-- ---- what Q shows over a byte, an undriven bit as 1

abbrev pub on_q : Bool → Frame → ℕ
on_q true f = f.out
on_q false f = 255

as_level : (t : Bool) → as_one (pick t One Zero) ≡ t
unfolding pick
as_level true = refl
as_level false = refl

pub all_ones : (k : ℕ) → k ≤ 7 → true ≡ on (bit_of (7 - k) 255)
all_ones zero h = refl
all_ones (suc zero) h = refl
all_ones (suc (suc zero)) h = refl
all_ones (suc (suc (suc zero))) h = refl
all_ones (suc (suc (suc (suc zero)))) h = refl
all_ones (suc (suc (suc (suc (suc zero))))) h = refl
all_ones (suc (suc (suc (suc (suc (suc zero)))))) h = refl
all_ones (suc (suc (suc (suc (suc (suc (suc zero))))))) h = refl
all_ones (suc (suc (suc (suc (suc (suc (suc (suc k)))))))) h = absurd (omega arith)

pub shown_bit : (b : Bool) (k a : ℕ) (f : Frame) → k ≤ 7 → as_one (shows (mid_byte b k a f)) ≡ on (bit_of (7 - k) (on_q b f))
unfolding shows
shown_bit true k a f h =
    let next : 8 - suc k ≡ 7 - k = omega arith in
    ap as_one (at_yes _ _ (le-leb 1 (suc k) (omega arith)))
    ∙ ap (λ n. as_one (level_of (bit_of n f.out))) next
    ∙ as_level (on (bit_of (7 - k) f.out))
shown_bit false k a f h = ap as_one (at_no _ _ (lt-leb 1 0 (omega arith))) ∙ all_ones k h

-- ---- a falling edge is nothing to the end of a frame: only a READ or 83h moves its address then

module _ (P : Part) where
  abbrev decides_as : Core → Bool → Instruction → Frame → Core
  decides_as c w i f =
      pick (is_executed (verdict P i f.address f.value (8 * f.taken + f.bits) (on f.ran) (on c.wel) (on c.srwd && not (on (bit w)))
      (barred P c i f.address) (on 0)))
      (effect P i f.address f.value f.latch c) c

  module _ (h : FrameBench) where
    abbrev loads : Instruction → Frame → Frame
    loads i f = loading P (lent_of h) h.core i f

    decides_loading : (c : Core) (w : Bool) (i : Instruction) (f : Frame) → decides_as c w i (loads i f) ≡ decides_as c w i f
    decides_loading c w Wren f = refl
    decides_loading c w Wrdi f = refl
    decides_loading c w Rdsr f = refl
    decides_loading c w Wrsr f = refl
    decides_loading c w Read f = pick_same _ c ∙ sym (pick_same _ c)
    decides_loading c w Write f = refl
    decides_loading c w Rdid f = pick_same _ c ∙ sym (pick_same _ c)
    decides_loading c w Wrid f = refl
    decides_loading c w Silence f = refl

    same_code : (i : Instruction) (f : Frame) → (loads i f).code ≡ f.code
    same_code Wren f = refl
    same_code Wrdi f = refl
    same_code Rdsr f = refl
    same_code Wrsr f = refl
    same_code Read f = refl
    same_code Write f = refl
    same_code Rdid f = refl
    same_code Wrid f = refl
    same_code Silence f = refl

    pub decides_fall : (c : Core) (w : Bool) (f : Frame) → decides P c w (fallen_in P h f) ≡ decides P c w f
    unfolding decides decides_at fallen
    decides_fall c w f =
        let i = decode P f.code in
        pick_case (λ g. decides_as c w (decode P g.code) g ≡ decides_as c w i f) (outputs P i f.taken (on f.ran))
        (λ e. pick_case (λ g. decides_as c w (decode P g.code) g ≡ decides_as c w i f) (leb 1 f.shown && ltb f.shown 8)
        (λ e. refl)
        (λ e. ap (λ n. decides_as c w (decode P n) (loads i f)) (same_code i f) ∙ decides_loading c w i f))
        (λ e. refl)

    pub fall_none : fallen_in P h no_frame ≡ no_frame
    unfolding fallen decode pick
    fall_none = refl

module _ (P : Part) (sound : Sound P) (T : Course) where
  abbrev pub drives_now : Frame → Bool
  drives_now f = drives_of P sound T f

  -- ---- a byte's start: no bit taken, and nothing or the first bit shown

  pub data Reached : ℕ → Frame → Type 0 where
    none : Reached 0 no_frame
    some : (v j a x o : ℕ) (l : Latch) → 1 ≤ j → Reached j (after_bytes P sound T v j a x o (shown_at (drives P sound T (decode P v) j) 0) l)

  pub as_mid : (j : ℕ) (f : Frame) → Reached j f → f ≡ mid_byte (drives_now f) 0 0 f
  as_mid j f none = unfold decode pick in refl
  as_mid k f (some v j a x o l h) =
      ap (λ r. after_bytes P sound T v j a x o (shown_at (outputs P (decode P v) (min P.most j) r) 0) l) (sym (on_bit (T.runs 0)))

  pub reached_step : (u j : ℕ) (f : Frame) → Reached j f → Reached (suc j) (step P sound T j u f)
  reached_step u j f none = subst⁻¹ (Reached 1) (step_first P sound T (decode P u) u refl) (some u 1 _ _ _ _ (omega arith))
  reached_step u k f (some v j a x o l h) =
      subst⁻¹ (Reached (suc j)) (step_more P sound T (decode P v) u v j a x o _ l refl h) (some v (suc j) _ _ _ _ (omega arith))

  -- at its start a frame part is judged by its whole bytes
  pub as_whole : (j : ℕ) (f : Frame) → Reached j f → (c : Core) (w : Bool) → decides P c w f ≡ decides_at P c w 0 f
  unfolding decides
  as_whole j f r c w = ap (λ (g : Frame). decides_at P c w g.bits f) (as_mid j f r)

  module _ (h : FrameBench) where
    -- ---- one of the first seven bits

    shifted : (d : Bool) (a : ℕ) → a < 128 → shifted_in a (bit d) ≡ 2 * a + bit d
    shifted d a l = rw (on_bit d) (mod-eq_of_lt (omega (arith, bit_small d)))

    -- the rising edge: one bit more, nothing else
    abbrev rose : Bool → ℕ → ℕ → Frame → Frame
    rose b p a f = with_out f.out (shown_at b p) (with_bits (suc p) a f)

    mid_rise : (b d : Bool) (p a : ℕ) (f : Frame) → p < 7 → a < 128 → risen_in P h d (mid_byte b p a f) ≡ rose b p (2 * a + bit d) f
    unfolding risen
    mid_rise b d p a f l k =
        let next : p + 1 ≡ suc p = omega arith in
        at_yes _ _ (lt-ltb p 7 l)
        ∙ ap₂ (λ n x. with_out f.out (shown_at b p) (with_bits n x f)) next (shifted d a k)

    mid_fall : (b : Bool) (p a : ℕ) (f : Frame) → drives_now f ≡ b → p < 7 → fallen_in P h (rose b p a f) ≡ mid_byte b (suc p) a f
    unfolding fallen
    mid_fall true p a f e l =
        let next : suc p + 1 ≡ suc (suc p) = omega arith in
        at_yes _ _ e
        ∙ at_yes _ _ (and_both (leb 1 (suc p)) (ltb (suc p) 8) (le-leb 1 (suc p) (omega arith)) (lt-ltb (suc p) 8 (omega arith)))
        ∙ ap (λ n. with_out f.out n (with_bits (suc p) a f)) next
    mid_fall false p a f e l = at_no _ _ e

    -- the eighth: the byte v is whole
    eighth : (b d : Bool) (a v : ℕ) (f : Frame) → 2 * a + bit d ≡ v → v < 256
        → risen_in P h d (mid_byte b 7 a f) ≡ whole_byte P (running h.core) v (mid_byte b 7 0 f)
    unfolding risen whole_byte
    eighth b d a v f e l =
        let whole : shifted_in a (bit d) ≡ v = rw (on_bit d, e) (mod-eq_of_lt l) in
        at_no _ _ (le-ltb 7 7 (omega arith)) ∙ ap (λ x. whole_byte P (running h.core) x (mid_byte b 7 a f)) whole

    -- ---- the byte v from its start f, in data output (b) or outside it. Of its bits p are taken, of the values a, and k + 1 are to come; is: what comes
    -- after the byte, by the bits that are left then

    module _ (is : ℕ → List Item) (b : Bool) (f : Frame) (v : ℕ) (driven : drives_now f ≡ b) (small : v < 256) where
      -- the byte taken
      abbrev pub taken : Frame
      taken = whole_byte P (running h.core) v (mid_byte b 7 0 f)

      one_rise : (k p a : ℕ) → p < 7 → a ≡ v / 2 ^ suc k → risen_in P h (on (bit_of k v)) (mid_byte b p a f) ≡ rose b p (v / 2 ^ k) f
      one_rise k p a l e = mid_rise b (on (bit_of k v)) p a f l (few v k a small e) ∙ ap (λ x. rose b p x f) (joined v k a e)

      one_pulse : (k p a : ℕ) → p < 7 → a ≡ v / 2 ^ suc k
          → fallen_in P h (risen_in P h (on (bit_of k v)) (mid_byte b p a f)) ≡ mid_byte b (suc p) (v / 2 ^ k) f
      one_pulse k p a l e = ap (fallen_in P h) (one_rise k p a l e) ∙ mid_fall b p (v / 2 ^ k) f driven l

      last_rise : (p a : ℕ) → p ≡ 7 → a ≡ v / 2 ^ 1 → risen_in P h (on (bit_of 0 v)) (mid_byte b p a f) ≡ taken
      last_rise p a e q =
          ap (λ n. risen_in P h (on (bit_of 0 v)) (mid_byte b n a f)) e ∙ eighth b (on (bit_of 0 v)) a v f (joined_all v a q) small

      -- what is seen: look of each level, and the byte that has those bits over a byte of the frame
      module _ (look : Level → Bool) (over : Bool → Frame → ℕ)
          (looks : (b : Bool) (k a : ℕ) (f : Frame) → k ≤ 7 → look (shows (mid_byte b k a f)) ≡ on (bit_of (7 - k) (over b f))) where
        one_seen : (k p a : ℕ) → p + k ≡ 7 → look (shows (mid_byte b p a f)) ≡ on (bit_of k (over b f))
        one_seen k p a e =
            let place : 7 - p ≡ k = omega arith in
            looks b p a f (omega arith) ∙ ap (λ n. on (bit_of n (over b f))) place

        pub seen0 : (k p n a : ℕ) (bs : List Bool) → p + k ≡ 7 → a ≡ v / 2 ^ suc k
            → ((m : ℕ) → seen_of look P (is m) (fallen_in P h taken) h ≡ take m bs)
            → seen_of look P (pulses mode.Zero (suc k) v n is) (mid_byte b p a f) h ≡ take n (low_bits (suc k) (over b f) ++ bs)
        unfolding pulses seen_of
        seen0 k p zero a bs e q ih = refl
        seen0 zero p (suc n) a bs e q ih =
            ap₂ (λ x l. x ∷ l) (one_seen 0 p a e) (ap (λ g. seen_of look P (is n) (fallen_in P h g) h) (last_rise p a (omega arith) q) ∙ ih n)
        seen0 (suc k) p (suc n) a bs e q ih =
            ap₂ (λ x l. x ∷ l) (one_seen (suc k) p a e)
            (ap (λ g. seen_of look P (pulses mode.Zero (suc k) v n is) g h) (one_pulse (suc k) p a (omega arith) q)
            ∙ seen0 k (suc p) n (v / 2 ^ suc k) bs (omega arith) refl ih)

        pub seen3 : (k p n a : ℕ) (bs : List Bool) → p + k ≡ 7 → a ≡ v / 2 ^ suc k
            → ((m : ℕ) → seen_of look P (is m) taken h ≡ take m bs)
            → seen_of look P (up (on (bit_of k v)) ∷ pulses mode.Three k v n is) (mid_byte b p a f) h ≡ take (suc n) (low_bits (suc k) (over b f) ++ bs)
        unfolding pulses seen_of
        seen3 zero p n a bs e q ih =
            ap₂ (λ x l. x ∷ l) (one_seen 0 p a e) (ap (λ g. seen_of look P (is n) g h) (last_rise p a (omega arith) q) ∙ ih n)
        seen3 (suc k) p zero a bs e q ih = ap (λ x. x ∷ []) (one_seen (suc k) p a e)
        seen3 (suc k) p (suc n) a bs e q ih =
            ap₂ (λ x l. x ∷ l) (one_seen (suc k) p a e)
            (ap (λ g. seen_of look P (up (on (bit_of k v)) ∷ pulses mode.Three k v n is) g h) (one_pulse (suc k) p a (omega arith) q)
            ∙ seen3 k (suc p) n (v / 2 ^ suc k) bs (omega arith) refl ih)

      -- a byte cut short: its bits count, and that is all
      pub short0 : (c : Core) (w : Bool) (k p n a : ℕ) → p + k ≡ 7 → n ≤ k → a ≡ v / 2 ^ suc k
          → decides P c w (end_of P (pulses mode.Zero (suc k) v n is) (mid_byte b p a f) h) ≡ decides_at P c w (p + n) f
      unfolding pulses end_of decides decides_at
      short0 c w k p zero a e l q = ap (λ n. decides_at P c w n f) (omega arith)
      short0 c w zero p (suc n) a e l q = absurd (omega arith)
      short0 c w (suc k) p (suc n) a e l q =
          let next : suc p + n ≡ p + suc n = omega arith in
          ap (λ g. decides P c w (end_of P (pulses mode.Zero (suc k) v n is) g h)) (one_pulse (suc k) p a (omega arith) q)
          ∙ short0 c w k (suc p) n (v / 2 ^ suc k) (omega arith) (omega arith) refl
          ∙ ap (λ n. decides_at P c w n f) next

      pub short3 : (c : Core) (w : Bool) (k p n a : ℕ) → p + k ≡ 7 → n < k → a ≡ v / 2 ^ suc k
          → decides P c w (end_of P (up (on (bit_of k v)) ∷ pulses mode.Three k v n is) (mid_byte b p a f) h) ≡ decides_at P c w (suc p + n) f
      unfolding pulses end_of decides decides_at
      short3 c w zero p n a e l q = absurd (omega arith)
      short3 c w (suc k) p zero a e l q =
          ap (decides P c w) (one_rise (suc k) p a (omega arith) q) ∙ ap (λ n. decides_at P c w n f) (omega arith)
      short3 c w (suc k) p (suc n) a e l q =
          let next : suc (suc p) + n ≡ suc p + suc n = omega arith in
          ap (λ g. decides P c w (end_of P (up (on (bit_of k v)) ∷ pulses mode.Three k v n is) g h)) (one_pulse (suc k) p a (omega arith) q)
          ∙ short3 c w k (suc p) n (v / 2 ^ suc k) (omega arith) (omega arith) refl
          ∙ ap (λ n. decides_at P c w n f) next

      -- a whole one
      pub whole0 : (k p n m a : ℕ) → p + k ≡ 7 → a ≡ v / 2 ^ suc k → n ≡ suc k + m
          → end_of P (pulses mode.Zero (suc k) v n is) (mid_byte b p a f) h ≡ end_of P (is m) (fallen_in P h taken) h
      unfolding pulses end_of
      whole0 k p zero m a e q l = absurd (omega arith)
      whole0 zero p (suc n) m a e q l = ap₂ (λ n g. end_of P (is n) (fallen_in P h g) h) (omega arith) (last_rise p a (omega arith) q)
      whole0 (suc k) p (suc n) m a e q l =
          ap (λ g. end_of P (pulses mode.Zero (suc k) v n is) g h) (one_pulse (suc k) p a (omega arith) q)
          ∙ whole0 k (suc p) n m (v / 2 ^ suc k) (omega arith) refl (omega arith)

      pub whole3 : (k p n m a : ℕ) → p + k ≡ 7 → a ≡ v / 2 ^ suc k → n ≡ k + m
          → end_of P (up (on (bit_of k v)) ∷ pulses mode.Three k v n is) (mid_byte b p a f) h ≡ end_of P (is m) taken h
      unfolding pulses end_of
      whole3 zero p n m a e q l = ap₂ (λ n g. end_of P (is n) g h) (omega arith) (last_rise p a (omega arith) q)
      whole3 (suc k) p zero m a e q l = absurd (omega arith)
      whole3 (suc k) p (suc n) m a e q l =
          ap (λ g. end_of P (up (on (bit_of k v)) ∷ pulses mode.Three k v n is) g h) (one_pulse (suc k) p a (omega arith) q)
          ∙ whole3 k (suc p) n m (v / 2 ^ suc k) (omega arith) refl (omega arith)

-- A frame's plan comes to its bytes, in either mode: byte j is taken after the readings up to j, and loaded after those below j in mode 0 and up to j in
-- mode 3. By the bytes, and within a byte by its bits.
use Prim.Native.Nat.{ℕ, zero, suc, ◌+◌, ◌*◌, ◌-◌, ◌/◌, ◌%◌, ◌^◌, ◌<◌, ◌≤◌}
use mathlib.Core.Bool.{Bool, true, false}
use mathlib.Core.List.{List, [], ◌∷◌}
use mathlib.Core.Path.{◌≡◌, refl, sym, ap, ap₂, ◌∙◌, subst⁻¹}
use lib.Dec.{ltb}
use lib.ListN.{take, length, get_or}
use lib.Seq.{take-nil}
use borrow.Author.Tests.{ltb-true, ltb-false}
use native.Mathlib.Omega.{arith}
use Rattle.codes.specs.Part.{Part}
use Rattle.codes.specs.Status.{on, bit_of}
use Rattle.chip.specs.Records.{running}
use Rattle.chip.specs.declared.Core.{Core}
use Rattle.frames.specs.Play.{FrameBench}
use Rattle.timed_frames.specs.Schedules.{passed}
use Rattle.timed_frames.specs.InTime.{loaded_at}
use Rattle.timed_frames.specs.declared.Mode.{Mode}
use Rattle.timed_frames.specs.declared.Mode.TheVariants as mode
use Rattle.edges.specs.declared.Frame.{Frame}
use Rattle.edges.specs.declared.Level.{Level}
use Rattle.edges.specs.Frames.{no_frame}
use Rattle.codes.proofs.Sound.{Sound}
use Rattle.agree.specs.Drawings.{flat, Item, up, tells, pulses, plan}
use Rattle.agree.specs.Reports.{lent_of}
use Rattle.agree.proofs.Ticks.{fallen_in, shows, seen_of, end_of, met_of, decides_at, decides}
use Rattle.agree.proofs.Steps.{mid_byte, Course, step_byte, step, bytes_seen, bytes_end}
use Rattle.agree.proofs.Bytes.{drives_now, Reached, none, as_mid, reached_step, as_whole, decides_fall, fall_none}
use Rattle.agree.proofs.Bytes.{taken, seen0, seen3, short0, short3, whole0, whole3}

-- ---- readings in a row

tells_seen : {A : Type 0} (look : Level → A) (P : Part) (ts : List ℕ) (is : List Item) (f : Frame) (b : FrameBench)
    → seen_of look P (tells ts is) f b ≡ seen_of look P is f (passed P ts b)
unfolding tells seen_of passed
tells_seen look P [] is f b = refl
tells_seen look P (t ∷ ts) is f b = tells_seen look P ts is f _

tells_end : (P : Part) (ts : List ℕ) (is : List Item) (f : Frame) (b : FrameBench) → end_of P (tells ts is) f b ≡ end_of P is f (passed P ts b)
unfolding tells end_of passed
tells_end P [] is f b = refl
tells_end P (t ∷ ts) is f b = tells_end P ts is f _

tells_met : (P : Part) (ts : List ℕ) (is : List Item) (b : FrameBench) → met_of P (tells ts is) b ≡ met_of P is (passed P ts b)
unfolding tells met_of passed
tells_met P [] is b = refl
tells_met P (t ∷ ts) is b = tells_met P ts is _

-- what a frame meets in a mode: at k is the bench after the readings below position k
abbrev pub course_of : Mode → (ℕ → FrameBench) → Course
course_of o at =
    record {
      runs = λ j. running (at (suc j)).core;
      core = λ j. (at (loaded_at o j)).core;
      lent = λ j. lent_of (at (loaded_at o j));
    }

module _ (P : Part) (sound : Sound P) (times : ℕ → List ℕ) (at : ℕ → FrameBench) (next : (k : ℕ) → passed P (times k) (at k) ≡ at (suc k)) where
  -- ---- the bench after the plan

  met_short : (o : Mode) (k v n : ℕ) (is : ℕ → List Item) (b : FrameBench) → n < k → met_of P (pulses o k v n is) b ≡ b
  unfolding met_of pulses
  met_short o zero v n is b l = absurd (omega arith)
  met_short o (suc k) v zero is b l = refl
  met_short mode.Zero (suc k) v (suc n) is b l = met_short mode.Zero k v n is b (omega arith)
  met_short mode.Three (suc k) v (suc n) is b l = met_short mode.Three k v n is b (omega arith)

  met_whole : (o : Mode) (k v n m : ℕ) (is : ℕ → List Item) (b : FrameBench) → n ≡ k + m → met_of P (pulses o k v n is) b ≡ met_of P (is m) b
  unfolding met_of pulses
  met_whole o zero v n m is b e = ap (λ n. met_of P (is n) b) (omega arith)
  met_whole o (suc k) v zero m is b e = absurd (omega arith)
  met_whole mode.Zero (suc k) v (suc n) m is b e = met_whole mode.Zero k v n m is b (omega arith)
  met_whole mode.Three (suc k) v (suc n) m is b e = met_whole mode.Three k v n m is b (omega arith)

  -- every reading up to the last whole byte
  pub met_plan : (o : Mode) (s : List ℕ) (n j e : ℕ) → n ≤ 8 * length s → e ≡ suc (n / 8 + j) → met_of P (plan o times j s n) (at j) ≡ at e
  unfolding plan met_of
  met_plan o [] zero j e l q = tells_met P (times j) [] (at j) ∙ next j ∙ ap at {x = suc j} {y = e} (omega arith)
  met_plan o [] (suc n) j e l q = absurd (omega arith)
  met_plan o (v ∷ vs) n j e l q =
      tells_met P (times j) _ (at j) ∙ ap (met_of P (pulses o 8 v n (plan o times (suc j) vs))) (next j)
      ∙ by_count (ltb n 8) refl (λ m l q. met_plan o vs m (suc j) e l q)
    where
      by_count : (t : Bool) → ltb n 8 ≡ t
          → ((m : ℕ) → m ≤ 8 * length vs → e ≡ suc (m / 8 + suc j) → met_of P (plan o times (suc j) vs m) (at (suc j)) ≡ at e)
          → met_of P (pulses o 8 v n (plan o times (suc j) vs)) (at (suc j)) ≡ at e
      by_count true d ih = met_short o 8 v n _ _ (ltb-true n 8 d) ∙ ap at {x = suc j} {y = e} (omega (arith, ltb-true n 8 d))
      by_count false d ih =
          let m : n ≡ 8 + (n - 8) = omega (arith, ltb-false n 8 d) in
          met_whole o 8 v n (n - 8) _ _ m ∙ ih (n - 8) (omega arith) (omega arith)

  nothing_yet : (v : ℕ) → v < 256 → 0 ≡ v / 2 ^ 8
  nothing_yet v l = omega arith

  -- ---- what is seen

  abbrev T0 : Course
  T0 = course_of mode.Zero at

  abbrev T3 : Course
  T3 = course_of mode.Three at

  module _ (look : Level → Bool) (over : Bool → Frame → ℕ)
      (looks : (b : Bool) (k a : ℕ) (f : Frame) → k ≤ 7 → look (shows (mid_byte b k a f)) ≡ on (bit_of (7 - k) (over b f))) where
    pub seen_plan0 : (s : List ℕ) (n j : ℕ) (f : Frame) → Reached P sound T0 j f → ((i : ℕ) → get_or s i 0 < 256)
        → seen_of look P (plan mode.Zero times j s n) f (at j) ≡ take n (flat (bytes_seen P sound T0 over j f s))
    unfolding plan flat bytes_seen seen_of step step_byte
    seen_plan0 [] n j f r h = tells_seen look P (times j) [] f (at j) ∙ rw take-nil
    seen_plan0 (v ∷ vs) n j f r h =
        let is = plan mode.Zero times (suc j) vs in
        tells_seen look P (times j) (pulses mode.Zero 8 v n is) f (at j)
        ∙ ap₂ (λ g b. seen_of look P (pulses mode.Zero 8 v n is) g b) (as_mid P sound T0 j f r) (next j)
        ∙ seen0 P sound T0 (at (suc j)) is (drives_now P sound T0 f) f v refl (h 0) look over looks 7 0 n 0
        (flat (bytes_seen P sound T0 over (suc j) (step P sound T0 j v f) vs)) (omega arith) (nothing_yet v (h 0))
        (λ k. seen_plan0 vs k (suc j) (step P sound T0 j v f) (reached_step P sound T0 v j f r) (λ i. h (suc i)))

    -- in mode 3 the falling edge is still to come
    pub seen_plan3 : (s : List ℕ) (n j : ℕ) (f : Frame) → Reached P sound T3 j (fallen_in P (at (suc j)) f) → ((i : ℕ) → get_or s i 0 < 256)
        → seen_of look P (plan mode.Three times j s n) f (at j) ≡ take n (flat (bytes_seen P sound T3 over j (fallen_in P (at (suc j)) f) s))
    unfolding plan flat bytes_seen seen_of step step_byte pulses
    seen_plan3 [] n j f r h = tells_seen look P (times j) [] f (at j) ∙ rw take-nil
    seen_plan3 (v ∷ vs) zero j f r h = tells_seen look P (times j) [] f (at j)
    seen_plan3 (v ∷ vs) (suc n) j f r h =
        let is = plan mode.Three times (suc j) vs in
        let x = fallen_in P (at (suc j)) f in
        tells_seen look P (times j) (pulses mode.Three 8 v (suc n) is) f (at j)
        ∙ ap (λ b. seen_of look P (pulses mode.Three 8 v (suc n) is) f b) (next j)
        ∙ ap (λ g. seen_of look P (up (on (bit_of 7 v)) ∷ pulses mode.Three 7 v n is) g (at (suc j))) (as_mid P sound T3 j x r)
        ∙ seen3 P sound T3 (at (suc j)) is (drives_now P sound T3 x) x v refl (h 0) look over looks 7 0 n 0
        (flat (bytes_seen P sound T3 over (suc j) (step P sound T3 j v x) vs)) (omega arith) (nothing_yet v (h 0))
        (λ k. seen_plan3 vs k (suc j) (taken P sound T3 (at (suc j)) is (drives_now P sound T3 x) x v refl (h 0)) (reached_step P sound T3 v j x r)
        (λ i. h (suc i)))

    -- a frame from its select, in either mode
    pub seen_plan : (o : Mode) (s : List ℕ) (n : ℕ) → ((i : ℕ) → get_or s i 0 < 256)
        → seen_of look P (plan o times 0 s n) no_frame (at 0) ≡ take n (flat (bytes_seen P sound (course_of o at) over 0 no_frame s))
    seen_plan mode.Zero s n h = seen_plan0 s n 0 no_frame none h
    seen_plan mode.Three s n h =
        seen_plan3 s n 0 no_frame (subst⁻¹ (Reached P sound T3 0) (fall_none P (at 1)) none) h
        ∙ ap (λ f. take n (flat (bytes_seen P sound T3 over 0 f s))) (fall_none P (at 1))

  -- ---- what deselect decides, c the record then

  module _ (c : Core) (w : Bool) where
    pub end_plan0 : (s : List ℕ) (n j : ℕ) (f : Frame) → Reached P sound T0 j f → ((i : ℕ) → get_or s i 0 < 256) → n ≤ 8 * length s
        → decides P c w (end_of P (plan mode.Zero times j s n) f (at j)) ≡ decides_at P c w (n % 8) (bytes_end P sound T0 j f (take (n / 8) s))
    unfolding plan bytes_end end_of step step_byte
    end_plan0 [] zero j f r h u = ap (decides P c w) (tells_end P (times j) [] f (at j)) ∙ as_whole P sound T0 j f r c w
    end_plan0 [] (suc n) j f r h u = absurd (omega arith)
    end_plan0 (v ∷ vs) n j f r h u =
        ap (decides P c w) (tells_end P (times j) (pulses mode.Zero 8 v n is) f (at j)
        ∙ ap₂ (λ g b. end_of P (pulses mode.Zero 8 v n is) g b) (as_mid P sound T0 j f r) (next j))
        ∙ by_count (ltb n 8) refl (λ k u'. end_plan0 vs k (suc j) (step P sound T0 j v f) (reached_step P sound T0 v j f r) (λ i. h (suc i)) u')
      where
        is : ℕ → List Item
        is = plan mode.Zero times (suc j) vs

        by_count : (t : Bool) → ltb n 8 ≡ t
            → ((k : ℕ) → k ≤ 8 * length vs → decides P c w (end_of P (is k) (step P sound T0 j v f) (at (suc j)))
            ≡ decides_at P c w (k % 8) (bytes_end P sound T0 (suc j) (step P sound T0 j v f) (take (k / 8) vs)))
            → decides P c w (end_of P (pulses mode.Zero 8 v n is) (mid_byte (drives_now P sound T0 f) 0 0 f) (at (suc j)))
            ≡ decides_at P c w (n % 8) (bytes_end P sound T0 j f (take (n / 8) (v ∷ vs)))
        by_count true d ih =
            let few = ltb-true n 8 d in
            let zeroth : 0 ≡ n / 8 = omega (arith, few) in
            let all : 0 + n ≡ n % 8 = omega (arith, few) in
            short0 P sound T0 (at (suc j)) is (drives_now P sound T0 f) f v refl (h 0) c w 7 0 n 0 (omega arith) (omega (arith, few)) (nothing_yet v (h 0))
            ∙ ap₂ (λ k m. decides_at P c w k (bytes_end P sound T0 j f (take m (v ∷ vs)))) all zeroth
        by_count false d ih =
            let more = ltb-false n 8 d in
            let whole : suc ((n - 8) / 8) ≡ n / 8 = omega (arith, more) in
            let past : (n - 8) % 8 ≡ n % 8 = omega (arith, more) in
            ap (decides P c w) (whole0 P sound T0 (at (suc j)) is (drives_now P sound T0 f) f v refl (h 0) 7 0 n (n - 8) 0 (omega arith) (nothing_yet v (h 0))
            (omega (arith, more)))
            ∙ ih (n - 8) (omega arith)
            ∙ ap₂ (λ k m. decides_at P c w k (bytes_end P sound T0 j f (take m (v ∷ vs)))) past whole

    pub end_plan3 : (s : List ℕ) (n j : ℕ) (f : Frame) → Reached P sound T3 j (fallen_in P (at (suc j)) f) → ((i : ℕ) → get_or s i 0 < 256)
        → n ≤ 8 * length s
        → decides P c w (end_of P (plan mode.Three times j s n) f (at j))
        ≡ decides_at P c w (n % 8) (bytes_end P sound T3 j (fallen_in P (at (suc j)) f) (take (n / 8) s))
    unfolding plan bytes_end end_of pulses step step_byte
    end_plan3 [] zero j f r h u =
        ap (decides P c w) (tells_end P (times j) [] f (at j)) ∙ sym (decides_fall P (at (suc j)) c w f) ∙ as_whole P sound T3 j _ r c w
    end_plan3 [] (suc n) j f r h u = absurd (omega arith)
    end_plan3 (v ∷ vs) zero j f r h u =
        ap (decides P c w) (tells_end P (times j) [] f (at j)) ∙ sym (decides_fall P (at (suc j)) c w f) ∙ as_whole P sound T3 j _ r c w
    end_plan3 (v ∷ vs) (suc n) j f r h u =
        ap (decides P c w) (tells_end P (times j) (pulses mode.Three 8 v (suc n) is) f (at j)
        ∙ ap (λ b. end_of P (pulses mode.Three 8 v (suc n) is) f b) (next j)
        ∙ ap (λ g. end_of P (up (on (bit_of 7 v)) ∷ pulses mode.Three 7 v n is) g (at (suc j))) (as_mid P sound T3 j x r))
        ∙ by_count (ltb n 7) refl
        (λ k u'. end_plan3 vs k (suc j) (taken P sound T3 (at (suc j)) is (drives_now P sound T3 x) x v refl (h 0)) (reached_step P sound T3 v j x r)
        (λ i. h (suc i)) u')
      where
        is : ℕ → List Item
        is = plan mode.Three times (suc j) vs

        x : Frame
        x = fallen_in P (at (suc j)) f

        by_count : (t : Bool) → ltb n 7 ≡ t
            → ((k : ℕ) → k ≤ 8 * length vs
            → decides P c w (end_of P (is k) (taken P sound T3 (at (suc j)) is (drives_now P sound T3 x) x v refl (h 0)) (at (suc j)))
            ≡ decides_at P c w (k % 8) (bytes_end P sound T3 (suc j) (step P sound T3 j v x) (take (k / 8) vs)))
            → decides P c w (end_of P (up (on (bit_of 7 v)) ∷ pulses mode.Three 7 v n is) (mid_byte (drives_now P sound T3 x) 0 0 x) (at (suc j)))
            ≡ decides_at P c w (suc n % 8) (bytes_end P sound T3 j x (take (suc n / 8) (v ∷ vs)))
        by_count true d ih =
            let few = ltb-true n 7 d in
            let zeroth : 0 ≡ suc n / 8 = omega (arith, few) in
            let all : suc 0 + n ≡ suc n % 8 = omega (arith, few) in
            short3 P sound T3 (at (suc j)) is (drives_now P sound T3 x) x v refl (h 0) c w 7 0 n 0 (omega arith) (omega (arith, few)) (nothing_yet v (h 0))
            ∙ ap₂ (λ k m. decides_at P c w k (bytes_end P sound T3 j x (take m (v ∷ vs)))) all zeroth
        by_count false d ih =
            let more = ltb-false n 7 d in
            let whole : suc ((n - 7) / 8) ≡ suc n / 8 = omega (arith, more) in
            let past : (n - 7) % 8 ≡ suc n % 8 = omega (arith, more) in
            ap (decides P c w) (whole3 P sound T3 (at (suc j)) is (drives_now P sound T3 x) x v refl (h 0) 7 0 n (n - 7) 0 (omega arith) (nothing_yet v (h 0))
            (omega (arith, more)))
            ∙ ih (n - 7) (omega arith)
            ∙ ap₂ (λ k m. decides_at P c w k (bytes_end P sound T3 j x (take m (v ∷ vs)))) past whole

    pub end_plan : (o : Mode) (s : List ℕ) (n : ℕ) → ((i : ℕ) → get_or s i 0 < 256) → n ≤ 8 * length s
        → decides P c w (end_of P (plan o times 0 s n) no_frame (at 0))
        ≡ decides_at P c w (n % 8) (bytes_end P sound (course_of o at) 0 no_frame (take (n / 8) s))
    end_plan mode.Zero s n h u = end_plan0 s n 0 no_frame none h u
    end_plan mode.Three s n h u =
        end_plan3 s n 0 no_frame (subst⁻¹ (Reached P sound T3 0) (fall_none P (at 1)) none) h u
        ∙ ap (λ f. decides_at P c w (n % 8) (bytes_end P sound T3 0 f (take (n / 8) s))) (fall_none P (at 1))

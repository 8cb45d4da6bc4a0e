-- The two models show the same levels: where Q is driven is seen of the ticks byte by byte, as its bits are, and a level is the two together.
use Prim.Native.Nat.{ℕ, zero, suc, ◌+◌, ◌*◌, ◌-◌, ◌%◌, ◌^◌, ◌≤◌, ◌<◌, min}
use mathlib.Core.Bool.{Bool, true, false, not, ◌&&◌, cond, and-true, and-false}
use mathlib.Core.List.{List, [], ◌∷◌, ◌++◌, map}
use mathlib.Core.Path.{◌≡◌, refl, sym, ap, ap₂, ◌∙◌, fun_ext}
use native.Mathlib.Decide.{dec_le}
use native.Mathlib.Nat.{zero-div}
use native.Mathlib.Omega.{arith}
use lib.Dec.{leb}
use lib.ListN.{take, length, get_or}
use borrow.Author.Tests.{le-leb, lt-leb}
use Rattle.laws.specs.Pick.{pick, at_yes, at_no, and_no_left}
use Rattle.laws.specs.Table.{from, table}
use Rattle.codes.specs.Part.{Part}
use Rattle.codes.specs.Status.{on, bit_of}
use Rattle.codes.specs.Instructions.{decode}
use Rattle.codes.specs.Output.{outputs}
use Rattle.codes.specs.declared.Instruction.{Instruction}
use Rattle.codes.specs.declared.Instruction.TheVariants.{Wren, Wrdi, Rdsr, Wrsr, Read, Write, Rdid, Wrid, Silence}
use Rattle.latch.specs.declared.Latch.{Latch}
use Rattle.chip.specs.Records.{running}
use Rattle.codes.proofs.Sound.{Sound}
use Rattle.fields.specs.Bytes.{instruction}
use Rattle.shown.specs.Shown.{undriven}
use Rattle.pins.specs.Devices.{q}
use Rattle.pins.specs.Answers.{PinBench, next}
use Rattle.edges.specs.declared.Frame.{Frame}
use Rattle.edges.specs.declared.Level.{Level}
use Rattle.edges.specs.declared.Level.TheVariants.{Zero, One, Z}
use Rattle.edges.specs.Frames.{no_frame}
use Rattle.frames.specs.Play.{reading, FrameBench, acted}
use Rattle.timed_frames.specs.Schedules.{passed}
use Rattle.timed_frames.specs.declared.Mode.{Mode}
use Rattle.agree.specs.Drawings.{Happening, event, gone, flat, Item, up, down, tell, plan}
use Rattle.agree.specs.Reports.{cut_pins, report, seen_as, shared, as_one, is_counted, is_end, watched, levelled}
use Rattle.agree.proofs.Facts.{leb_min}
use Rattle.agree.proofs.Ticks.{risen_in, fallen_in, shows, seen_of}
use Rattle.agree.proofs.Steps.{mid_byte, Course, after_bytes, drives, drives_bytes, bytes_seen, step_first, step_more}
use Rattle.agree.proofs.Bytes.{all_ones}
use Rattle.agree.proofs.Planned.{course_of, seen_plan}

-- ---- driven or not

abbrev pub is_driven : Level → Bool
is_driven Zero = true
is_driven One = true
is_driven Z = false

-- all eight bits of a byte
abbrev eight : Bool → ℕ
eight true = 255
eight false = 0

abbrev over : Bool → Frame → ℕ
over b f = eight b

no_ones : (k : ℕ) → false ≡ on (bit_of k 0)
no_ones k = ap (λ x. on (x % 2)) (sym (zero-div (2 ^ k)))

driven_level : (t : Bool) → is_driven (pick t One Zero) ≡ true
unfolding pick
driven_level true = refl
driven_level false = refl

driven_bit : (b : Bool) (k a : ℕ) (f : Frame) → k ≤ 7 → is_driven (shows (mid_byte b k a f)) ≡ on (bit_of (7 - k) (over b f))
unfolding shows
driven_bit true k a f h = ap is_driven (at_yes _ _ (le-leb 1 (suc k) (omega arith))) ∙ driven_level _ ∙ all_ones k h
driven_bit false k a f h = ap is_driven (at_no _ _ (lt-leb 1 0 (omega arith))) ∙ no_ones (7 - k)

-- a level is whether it is driven, and its bit
level_of_law : (l : Level) (d : Bool) → is_driven l ≡ d → l ≡ pick d (pick (as_one l) One Zero) Z
unfolding pick
level_of_law Zero d e = ap (λ b. pick b Zero Z) e
level_of_law One d e = ap (λ b. pick b One Z) e
level_of_law Z d e = ap (λ b. pick b One Z) e

-- ---- n clocks, of which the first u are undriven

abbrev marks : ℕ → ℕ → List Bool
marks u zero = []
marks zero (suc n) = true ∷ marks zero n
marks (suc u) (suc n) = false ∷ marks u n

marks_take : (u k n : ℕ) → n ≤ k → take n (marks u k) ≡ marks u n
marks_take u k zero h = refl
marks_take u zero (suc n) h = absurd (omega arith)
marks_take zero (suc k) (suc n) h = ap (λ l. true ∷ l) (marks_take zero k n (omega arith))
marks_take (suc u) (suc k) (suc n) h = ap (λ l. false ∷ l) (marks_take u k n (omega arith))

marks_min : (u n v : ℕ) → v ≡ min u n → marks u n ≡ marks v n
marks_min u zero v e = refl
marks_min zero (suc n) v e = let none : 0 ≡ v = omega arith in ap (λ w. marks w (suc n)) none
marks_min (suc u) (suc n) zero e = absurd (omega arith)
marks_min (suc u) (suc n) (suc v) e = ap (λ l. false ∷ l) (marks_min u n v (omega arith))

abbrev more8 : ℕ → ℕ
more8 n = suc (suc (suc (suc (suc (suc (suc (suc n)))))))

-- driven from byte b on
marks_from : (b k j : ℕ) → flat (from j k (λ i. eight (leb b i))) ≡ marks (8 * (b - j)) (8 * k)
unfolding flat from
marks_from b zero j = refl
marks_from b (suc k) j =
    let bits : more8 (8 * k) ≡ 8 * suc k = omega arith in
    elim (dec_le b j) [
      | yes h ↦
          let past : 8 * (b - suc j) ≡ 0 = omega arith in
          let here : 0 ≡ 8 * (b - j) = omega arith in
          ap (λ t. flat (eight t ∷ from (suc j) k (λ i. eight (leb b i)))) (le-leb b j h)
          ∙ ap (λ l. true ∷ true ∷ true ∷ true ∷ true ∷ true ∷ true ∷ true ∷ l) (marks_from b k (suc j) ∙ ap (λ u. marks u (8 * k)) past)
          ∙ ap₂ marks here bits
      | no h ↦
          let here : more8 (8 * (b - suc j)) ≡ 8 * (b - j) = omega arith in
          ap (λ t. flat (eight t ∷ from (suc j) k (λ i. eight (leb b i)))) (lt-leb b j (omega arith))
          ∙ ap (λ l. false ∷ false ∷ false ∷ false ∷ false ∷ false ∷ false ∷ false ∷ l) (marks_from b k (suc j))
          ∙ ap₂ marks here bits
    ]

-- never driven
marks_none : (k j : ℕ) → flat (from j k (λ _. 0)) ≡ marks (8 * k) (8 * k)
unfolding flat from
marks_none zero j = refl
marks_none (suc k) j =
    let bits : more8 (8 * k) ≡ 8 * suc k = omega arith in
    ap (λ l. false ∷ false ∷ false ∷ false ∷ false ∷ false ∷ false ∷ false ∷ l) (marks_none k (suc j)) ∙ ap₂ marks bits bits

module _ (k n : ℕ) (h : n ≤ 8 * k) where
  never : take n (flat (table k (λ _. 0))) ≡ marks n n
  unfolding table
  never = ap (take n) (marks_none k 0) ∙ marks_take (8 * k) (8 * k) n h ∙ marks_min (8 * k) n n (omega arith)

  from_byte : (b : ℕ) → take n (flat (table k (λ i. eight (leb b i)))) ≡ marks (min (8 * b) n) n
  unfolding table
  from_byte b = ap (take n) (marks_from b k 0) ∙ marks_take (8 * (b - 0)) (8 * k) n h ∙ marks_min (8 * (b - 0)) n (min (8 * b) n) (omega arith)

  read_marks : (P : Part) (ran : Bool) → take n (flat (table k (λ j. eight (outputs P Read j ran)))) ≡ marks (undriven P Read ran n) n
  unfolding pick
  read_marks P true = ap (λ (g : ℕ → ℕ). take n (flat (table k g))) (fun_ext (λ j. ap eight (and-false (leb (P.address_bytes + 1) j)))) ∙ never
  read_marks P false =
      ap (λ (g : ℕ → ℕ). take n (flat (table k g))) (fun_ext (λ j. ap eight (and-true (leb (P.address_bytes + 1) j)))) ∙ from_byte (P.address_bytes + 1)

  pub undriven_marks : (P : Part) (i : Instruction) (ran : Bool) → take n (flat (table k (λ j. eight (outputs P i j ran)))) ≡ marks (undriven P i ran n) n
  unfolding pick
  undriven_marks P Wren ran = never
  undriven_marks P Wrdi ran = never
  undriven_marks P Rdsr ran = from_byte 1
  undriven_marks P Wrsr ran = never
  undriven_marks P Read ran = read_marks P ran
  undriven_marks P Write ran = never
  undriven_marks P Rdid ran = read_marks P ran
  undriven_marks P Wrid ran = never
  undriven_marks P Silence ran = never

-- ---- a frame

first : List Bool → Bool
first [] = true
first (b ∷ bs) = b

rest : List Bool → List Bool
rest [] = []
rest (b ∷ bs) = bs

module _ (P : Part) (sound : Sound P) (T : Course) where
  -- no test sees the count of whole bytes stay at its most
  drives_count : (i : Instruction) (j : ℕ) → drives P sound T i j ≡ outputs P i j (T.runs 0)
  drives_count Wren j = refl
  drives_count Wrdi j = refl
  drives_count Rdsr j = leb_min P.most j 1 (omega (arith, sound.counted))
  drives_count Wrsr j = refl
  drives_count Read j = ap (λ t. t && not (T.runs 0)) (leb_min P.most j (P.address_bytes + 1) (omega (arith, sound.counted)))
  drives_count Write j = refl
  drives_count Rdid j = ap (λ t. t && not (T.runs 0)) (leb_min P.most j (P.address_bytes + 1) (omega (arith, sound.counted)))
  drives_count Wrid j = refl
  drives_count Silence j = refl

  none_first : (i : Instruction) → false ≡ outputs P i 0 (T.runs 0)
  none_first Wren = refl
  none_first Wrdi = refl
  none_first Rdsr = refl
  none_first Wrsr = refl
  none_first Read = sym (and_no_left (leb (P.address_bytes + 1) 0) (not (T.runs 0)) (lt-leb (P.address_bytes + 1) 0 (omega arith)))
  none_first Write = refl
  none_first Rdid = sym (and_no_left (leb (P.address_bytes + 1) 0) (not (T.runs 0)) (lt-leb (P.address_bytes + 1) 0 (omega arith)))
  none_first Wrid = refl
  none_first Silence = refl

  driven_more : (i : Instruction) (us : List ℕ) (v j a x o z : ℕ) (l : Latch) → decode P v ≡ i → 1 ≤ j
      → bytes_seen P sound T over j (after_bytes P sound T v j a x o z l) us ≡ from j (length us) (λ n. eight (outputs P i n (T.runs 0)))
  unfolding bytes_seen from
  driven_more i [] v j a x o z l e k = refl
  driven_more i (u ∷ us) v j a x o z l e k =
      ap₂ (λ b r. b ∷ r) (ap eight (drives_bytes P sound T i v j a x o z l e ∙ drives_count i j))
      (ap (λ f. bytes_seen P sound T over (suc j) f us) (step_more P sound T i u v j a x o z l e k)
      ∙ driven_more i us v (suc j) _ _ _ _ _ e (omega arith))

  driven_table : (s : List ℕ) → bytes_seen P sound T over 0 no_frame s ≡ table (length s) (λ n. eight (outputs P (instruction P s) n (T.runs 0)))
  unfolding bytes_seen table from decode pick
  driven_table [] = refl
  driven_table (v ∷ vs) =
      ap₂ (λ b l. b ∷ l) (ap eight (none_first (decode P v)))
      (ap (λ f. bytes_seen P sound T over 1 f vs) (step_first P sound T (decode P v) v refl)
      ∙ driven_more (decode P v) vs v 1 _ _ _ _ _ refl (omega arith))

-- the marks of what is seen, and its bits, are its levels
levels_are : (P : Part) (u k : ℕ) (is : List Item) (f : Frame) (b : FrameBench) → seen_of is_driven P is f b ≡ marks u k
    → seen_of (λ l. l) P is f b ≡ levelled u (seen_of as_one P is f b)
unfolding seen_of pick first rest
levels_are P u k [] f b e = refl
levels_are P u zero (up d ∷ is) f b e = absurd (omega (arith, ap length e))
levels_are P zero (suc k) (up d ∷ is) f b e =
    ap₂ (λ x l. x ∷ l) (level_of_law (shows f) true (ap first e)) (levels_are P zero k is (risen_in P b d f) b (ap rest e))
levels_are P (suc u) (suc k) (up d ∷ is) f b e =
    ap₂ (λ x l. x ∷ l) (level_of_law (shows f) false (ap first e)) (levels_are P u k is (risen_in P b d f) b (ap rest e))
levels_are P u k (down ∷ is) f b e = levels_are P u k is (fallen_in P b f) b e
levels_are P u k (tell t ∷ is) f b e = levels_are P u k is f (acted P (reading t) b) e

module _ (P : Part) (sound : Sound P) (times : ℕ → List ℕ) (at : ℕ → FrameBench) (next : (k : ℕ) → passed P (times k) (at k) ≡ at (suc k)) where
  pub plan_levels : (o : Mode) (s : List ℕ) (n : ℕ) → ((i : ℕ) → get_or s i 0 < 256) → n ≤ 8 * length s
      → let is = plan o times 0 s n in
      seen_of (λ l. l) P is no_frame (at 0) ≡ levelled (undriven P (instruction P s) (running (at 1).core) n) (seen_of as_one P is no_frame (at 0))
  plan_levels o s n small h =
      levels_are P (undriven P (instruction P s) (running (at 1).core) n) n (plan o times 0 s n) no_frame (at 0)
      (seen_plan P sound times at next is_driven over driven_bit o s n small
      ∙ ap (λ l. take n (flat l)) (driven_table P sound (course_of o at) s)
      ∙ undriven_marks (length s) n h P (instruction P s) (running (at 1).core))

-- ---- demand 3's bits are these levels, with Z as 1

map_append : {A B : Type 0} (g : A → B) (xs ys : List A) → map g (xs ++ ys) ≡ map g xs ++ map g ys
map_append g [] ys = refl
map_append g (x ∷ xs) ys = ap (λ l. g x ∷ l) (map_append g xs ys)

pub bits_of_levels : (P : Part) (es : List Happening) (seen : List Level) (b : PinBench)
    → watched as_one P es (map as_one seen) b ≡ seen_as as_one (watched (λ l. l) P es seen b)
unfolding watched
bits_of_levels P [] seen b = refl
bits_of_levels P (gone h ∷ es) seen b = bits_of_levels P es [] (cut_pins P h b)
bits_of_levels P (event e ∷ es) seen b = both (is_end e b.device) (is_counted e b.device) (λ s. bits_of_levels P es s (next P e b))
  where
    y : PinBench
    y = next P e b

    l : Level
    l = q b.device

    both : (t k : Bool) → ((s : List Level) → watched as_one P es (map as_one s) y ≡ seen_as as_one (watched (λ x. x) P es s y))
        → cond t (report (map as_one seen) (shared y) ∷ []) [] ++ watched as_one P es (cond t [] (cond k (map as_one seen ++ (as_one l ∷ [])) (map as_one seen))) y
        ≡ seen_as as_one (cond t (report seen (shared y) ∷ []) [] ++ watched (λ x. x) P es (cond t [] (cond k (seen ++ (l ∷ [])) seen)) y)
    both true k again = ap (λ rs. report (map as_one seen) (shared y) ∷ rs) (again [])
    both false true again = ap (λ s. watched as_one P es s y) (sym (map_append as_one seen (l ∷ []))) ∙ again (seen ++ (l ∷ []))
    both false false again = again seen

-- The lists as a walk meets them: how many readings come before a position, and the bench after them.
use Prim.Native.Nat.{ℕ, zero, suc, ◌+◌, ◌<◌, ◌≤◌}
use mathlib.Core.Bool.{Bool, true, false, ◌&&◌, and-true}
use mathlib.Core.List.{List, [], ◌∷◌}
use mathlib.Core.Path.{◌≡◌, refl, ap, sym, ◌∙◌}
use native.Mathlib.Numerals.{add-one}
use native.Mathlib.Omega.{arith}
use lib.Dec.{leb, ltb}
use lib.ListN.{length, take, drop, get_or, set}
use lib.Seq.{take-nil, drop-nil, get_or-set_same, get_or-set_other}
use native.Mathlib.Decide.{ℕ_discrete}
use borrow.Author.Tests.{le-leb, lt-ltb, le-ltb, ltb-true}
use Rattle.laws.specs.Pick.{pick, pick_case, at_yes, at_no, and_both, and_no_right}
use Rattle.laws.specs.And.{same_test}
use Rattle.codes.specs.Part.{Part, part_of}
use Rattle.chip.specs.Records.{own_part}
use Rattle.frames.proofs.PartKept.{acted_part}
use Rattle.chip.specs.declared.Core.{Core}
use Rattle.frames.specs.Play.{reading, FrameBench, frame_bench, acted}
use Rattle.timed_frames.specs.Schedules.{due, passed, bench_at, rising}
use Rattle.timed_frames.specs.InTime.{loaded_at}
use Rattle.timed_frames.specs.declared.Mode.{Mode}
use Rattle.timed_frames.specs.declared.Mode.TheVariants.{Zero, Three}

-- a bench by its three parts
pub bench_of_law : {c : Core} {m i : List ℕ} (b : FrameBench) → c ≡ b.core → m ≡ b.memory → i ≡ b.identification → frame_bench c m i ≡ b
bench_of_law b e k h = λ j. frame_bench (e j) (k j) (h j)

-- ---- how many are due

pub due_step : (k n : ℕ) (ps : List ℕ) → n < length ps → get_or ps n 0 < k → due k (drop n ps) ≡ suc (due k (drop (suc n) ps))
unfolding due
due_step k n [] h l = absurd (omega arith)
due_step k zero (p ∷ ps) h l = at_yes _ _ (lt-ltb p k l)
due_step k (suc n) (p ∷ ps) h l = due_step k n ps (omega arith) l

-- none is once the list has ended, or the next stands no lower
pub due_end : (k n : ℕ) (ps : List ℕ) → length ps ≤ n → due k (drop n ps) ≡ 0
unfolding due
due_end k n [] h = ap (due k) (drop-nil n)
due_end k zero (p ∷ ps) h = absurd (omega arith)
due_end k (suc n) (p ∷ ps) h = due_end k n ps (omega arith)

pub due_stop : (k n : ℕ) (ps : List ℕ) → k ≤ get_or ps n 0 → due k (drop n ps) ≡ 0
unfolding due
due_stop k n [] h = ap (due k) (drop-nil n)
due_stop k zero (p ∷ ps) h = at_no _ _ (le-ltb p k h)
due_stop k (suc n) (p ∷ ps) h = due_stop k n ps h

pub due_most : (k : ℕ) (ps : List ℕ) → due k ps ≤ length ps
unfolding due
due_most k [] = omega arith
due_most k (p ∷ ps) =
    let rest = due_most k ps in
    pick_case (λ (n : ℕ). n ≤ suc (length ps)) (ltb p k) (λ e. omega arith) (λ e. omega arith)

-- ---- readings, in two parts

pub passed_more : (P : Part) (ts : List ℕ) (n : ℕ) (b : FrameBench) → n < length ts
    → passed P (take (suc n) ts) b ≡ acted P (reading (get_or ts n 0)) (passed P (take n ts) b)
unfolding passed
passed_more P [] n b h = absurd (omega arith)
passed_more P (t ∷ ts) zero b h = refl
passed_more P (t ∷ ts) (suc n) b h = passed_more P ts n (acted P (reading t) b) (omega arith)

pub passed_on : (P : Part) (ts : List ℕ) (n k : ℕ) (b : FrameBench)
    → passed P (take (n + k) ts) b ≡ passed P (take k (drop n ts)) (passed P (take n ts) b)
unfolding passed
passed_on P ts zero k b = ap (λ (j : ℕ). passed P (take j ts) b) {x = 0 + k} {y = k} (omega arith)
passed_on P [] (suc n) k b = ap (λ (l : List ℕ). passed P l b) (take-nil (suc n + k) ∙ sym (take-nil k))
passed_on P (t ∷ ts) (suc n) k b =
    ap (λ (j : ℕ). passed P (take j (t ∷ ts)) b) {x = suc n + k} {y = suc (n + k)} (omega arith) ∙ passed_on P ts n k (acted P (reading t) b)

-- ---- positions that do not fall

rising_suc : (low most i : ℕ) (ps : List ℕ) → i < length ps
    → rising low most (drop i ps) ≡ (leb low (get_or ps i 0) && leb (get_or ps i 0) most && rising (get_or ps i 0) most (drop (suc i) ps))
unfolding rising
rising_suc low most i [] h = absurd (omega arith)
rising_suc low most zero (p ∷ ps) h = refl
rising_suc low most (suc i) (p ∷ ps) h = rising_suc low most i ps (omega arith)

pub rising_step : (low most i : ℕ) (ps : List ℕ) → i < length ps
    → rising low most (drop i ps) ≡ (leb low (get_or ps i 0) && leb (get_or ps i 0) most && rising (get_or ps i 0) most (drop (i + 1) ps))
rising_step low most i ps h = rw add-one (rising_suc low most i ps h)

pub rising_none : (low most i : ℕ) (ps : List ℕ) → length ps ≤ i → rising low most (drop i ps) ≡ true
unfolding rising
rising_none low most i [] h = ap (rising low most) (drop-nil i)
rising_none low most zero (p ∷ ps) h = absurd (omega arith)
rising_none low most (suc i) (p ∷ ps) h = rising_none low most i ps (omega arith)

-- ---- from one position to a later one

pub due_add : (k k' : ℕ) (ps : List ℕ) → k ≤ k' → due k ps + due k' (drop (due k ps) ps) ≡ due k' ps
unfolding due
due_add k k' [] h = refl
due_add k k' (p ∷ ps) h = go (ltb p k) refl (due_add k k' ps h)
  where
    go : (b : Bool) → ltb p k ≡ b → due k ps + due k' (drop (due k ps) ps) ≡ due k' ps
        → pick (ltb p k) (suc (due k ps)) 0 + due k' (drop (pick (ltb p k) (suc (due k ps)) 0) (p ∷ ps)) ≡ pick (ltb p k') (suc (due k' ps)) 0
    go true e ih =
        let here = at_yes {A = ℕ} (suc (due k ps)) 0 e in
        let later : ltb p k' ≡ true = lt-ltb p k' (omega (arith, ltb-true p k e)) in
        rw (here, at_yes {A = ℕ} (suc (due k' ps)) 0 later) (omega (arith, ih))
    go false e ih =
        let here = at_no {A = ℕ} (suc (due k ps)) 0 e in
        rw here (omega arith)

pub walk_on : (P : Part) (ps ts : List ℕ) (b : FrameBench) (k k' : ℕ) → k ≤ k'
    → passed P (take (due k' (drop (due k ps) ps)) (drop (due k ps) ts)) (bench_at P ps ts b k) ≡ bench_at P ps ts b k'
walk_on P ps ts b k k' h =
    sym (passed_on P ts (due k ps) (due k' (drop (due k ps) ps)) b) ∙ ap (λ (n : ℕ). passed P (take n ts) b) (due_add k k' ps h)

-- ---- at position 0 nothing came

pub due_none : (ps : List ℕ) → due 0 ps ≡ 0
unfolding due
due_none [] = refl
due_none (p ∷ ps) = at_no _ _ (le-ltb p 0 (omega arith))

pub bench_none : (P : Part) (ps ts : List ℕ) (b : FrameBench) → bench_at P ps ts b 0 ≡ b
unfolding passed
bench_none P ps ts b = ap (λ (n : ℕ). passed P (take n ts) b) (due_none ps)

-- no byte stands from 1 on and below 1
pub none_between : (i : ℕ) → (leb 1 i && ltb i 1) ≡ false
none_between zero = refl
none_between (suc i) = and_no_right (leb 1 (suc i)) (ltb (suc i) 1) (le-ltb (suc i) 1 (omega arith))

pub loaded_late : (o : Mode) (j : ℕ) → j ≤ loaded_at o j
loaded_late Zero j = omega arith
loaded_late Three j = omega arith

pub loaded_soon : (o : Mode) (j : ℕ) → loaded_at o j ≤ j + 1
loaded_soon Zero j = omega arith
loaded_soon Three j = omega arith

-- ---- the part stays

passed_part : (P : Part) (ts : List ℕ) (b : FrameBench) → (passed P ts b).core.part ≡ b.core.part
unfolding passed
passed_part P [] b = refl
passed_part P (t ∷ ts) b = passed_part P ts (acted P (reading t) b) ∙ acted_part P (reading t) b

pub bench_part : (P : Part) (ps ts : List ℕ) (b : FrameBench) (k : ℕ) → own_part (bench_at P ps ts b k).core ≡ own_part b.core
bench_part P ps ts b k = ap part_of (passed_part P (take (due k ps) ts) b)

-- ---- one more byte of an output

pub set_shown : (out given : List ℕ) (f : ℕ → ℕ) (j v : ℕ) → j < length out → 1 ≤ j → v ≡ f j
    → ((i : ℕ) → get_or out i 0 ≡ pick (leb 1 i && ltb i j) (f i) (get_or given i 0))
    → (i : ℕ) → get_or (set out j v) i 0 ≡ pick (leb 1 i && ltb i (j + 1)) (f i) (get_or given i 0)
set_shown out given f j v h k e below i = elim (ℕ_discrete i j) [
  | yes q ↦
      let both : (leb 1 i && ltb i (j + 1)) ≡ true = and_both (leb 1 i) (ltb i (j + 1)) (le-leb 1 i (omega arith)) (lt-ltb i (j + 1) (omega arith)) in
      ap (λ (n : ℕ). get_or (set out j v) n 0) q ∙ get_or-set_same out j v 0 h ∙ e ∙ ap f (sym q) ∙ sym (at_yes _ _ both)
  | no q ↦
      let same : ltb i j ≡ ltb i (j + 1) =
      same_test (ltb i j) (ltb i (j + 1)) (λ t. lt-ltb i (j + 1) (omega (arith, ltb-true i j t))) (λ t. lt-ltb i j (omega (arith, ltb-true i (j + 1) t, q))) in
      get_or-set_other out j i v 0 q ∙ below i ∙ ap (λ (t : Bool). pick (leb 1 i && t) (f i) (get_or given i 0)) same
]

-- below j the upper test says nothing
pub all_shown : (i j x y : ℕ) → i < j → pick (leb 1 i && ltb i j) x y ≡ pick (leb 1 i) x y
all_shown i j x y h = ap (λ (t : Bool). pick (leb 1 i && t) x y) (lt-ltb i j h) ∙ ap (λ (t : Bool). pick t x y) (and-true (leb 1 i))

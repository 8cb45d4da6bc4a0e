-- A frame's data latched in two runs: only the last page of it stays, one run of it up to the page's end and the other
-- from the page's first cell.
use mathlib.Core.Path.{◌≡◌, refl, ap, sym, ◌∙◌}
use mathlib.Core.List.{List, [], ◌∷◌, ◌++◌, append_assoc}
use Prim.Native.Nat.{ℕ, suc, ◌+◌, ◌-◌, ◌*◌, ◌/◌, ◌%◌, ◌<◌, ◌≤◌, min}
use native.Mathlib.Nat.{add-zero, lt_of_lt_of_le, mod-lt, mod-eq_of_lt, mod-add-mod, mod-mod, mod_self, zero-mod}
use native.Mathlib.Decide.{dec_lt}
use native.Mathlib.Numerals.{add-one}
use native.Mathlib.Omega.{arith}
use lib.ListN.{length, get_or, take, drop, set, replicate, length-set, length-drop, length-replicate, get_or-replicate}
use lib.ListN.{take-append-drop, replicate-append-replicate}
use lib.Seq.{sets, sets-eq, drop-set-lt, drop-drop, drop_at, take_all, length-take-le}
use Rattle.laws.specs.Spliced.{spliced, spliced_length, spliced_before, spliced_in, spliced_after}
use Rattle.laws.specs.Flags.{bit}
use Rattle.laws.specs.Marks.{mark, mark_set, mark_bytes, Wide, wide_none, wide_set}
use Rattle.laws.specs.Marks.{mark_bytes_none, mark_bytes_set, mark_bytes_is, mark_bytes_same}
use Rattle.codes.specs.Part.{Part, room, room_words}
use Rattle.latch.specs.Latches.{zeros, no_latch, latched}
use Rattle.latch.specs.Words.{run_marks}
use Rattle.latch.specs.declared.Latch.{Latch}
use Rattle.latch.proofs.Runs.{run_marks_length, run_marks_wide, marked_in_run, marked_in_rest, unmarked_before, unmarked_after}
use Rattle.fields.specs.Bytes.{latched_from, latched_up}

-- ---- the bytes and the marks, each by itself

-- values put into the p cells of a page one after another, from the cell of address a on and round within the page
unfoldable dealt : ℕ → ℕ → List ℕ → List ℕ → List ℕ
dealt p a [] c = c
dealt p a (v ∷ vs) c = dealt p (suc a) vs (set c (a % p) v)

-- the same cells marked
unfoldable dealt_marks : ℕ → ℕ → List ℕ → List ℕ → List ℕ
dealt_marks p a [] ws = ws
dealt_marks p a (v ∷ vs) ws = dealt_marks p (suc a) vs (mark_set (a % p) ws)

latched_dealt : (P : Part) (a : ℕ) (vs : List ℕ) (l : Latch)
    → latched_from P a vs l ≡ record { bytes = dealt P.page a vs l.bytes; marks = dealt_marks P.page a vs l.marks }
unfolding latched_from dealt dealt_marks
latched_dealt P a [] l = refl
latched_dealt P a (v ∷ vs) l = latched_dealt P (suc a) vs (latched (a % P.page) v l)

module _ (p n : ℕ) (reach : p ≤ n * 64) (some : 0 < p) where
  dealt_marks_length : (a : ℕ) (vs ws : List ℕ) → length (dealt_marks p a vs ws) ≡ length ws
  unfolding dealt_marks
  dealt_marks_length a [] ws = refl
  dealt_marks_length a (v ∷ vs) ws =
      dealt_marks_length (suc a) vs (mark_set (a % p) ws) ∙ length-set ws (a % p / 64) _

  dealt_marks_wide : (a : ℕ) (vs ws : List ℕ) → Wide n ws → Wide n (dealt_marks p a vs ws)
  unfolding dealt_marks
  dealt_marks_wide a [] ws w = w
  dealt_marks_wide a (v ∷ vs) ws w = dealt_marks_wide (suc a) vs (mark_set (a % p) ws) (wide_set n (a % p) ws w)

  -- seen as a byte for each mark, a 1 is put into each cell
  dealt_marks_bytes : (a : ℕ) (vs ws : List ℕ) → length ws ≡ n
      → mark_bytes n (dealt_marks p a vs ws) ≡ dealt p a (replicate (length vs) 1) (mark_bytes n ws)
  unfolding dealt dealt_marks
  dealt_marks_bytes a [] ws e = refl
  dealt_marks_bytes a (v ∷ vs) ws e =
      dealt_marks_bytes (suc a) vs (mark_set (a % p) ws) (length-set ws (a % p / 64) _ ∙ e)
      ∙ ap (dealt p (suc a) (replicate (length vs) 1)) (mark_bytes_set n (a % p) ws e (lt_of_lt_of_le (mod-lt a some) reach))

dealt_length : (p a : ℕ) (vs c : List ℕ) → length (dealt p a vs c) ≡ length c
unfolding dealt
dealt_length p a [] c = refl
dealt_length p a (v ∷ vs) c = dealt_length p (suc a) vs (set c (a % p) v) ∙ length-set c (a % p) v

dealt_append : (p a : ℕ) (us vs c : List ℕ) → dealt p a (us ++ vs) c ≡ dealt p (a + length us) vs (dealt p a us c)
unfolding dealt
dealt_append p a [] vs c = ap (λ (n : ℕ). dealt p n vs c) (sym (add-zero a))
dealt_append p a (u ∷ us) vs c =
    let next : suc a + length us ≡ a + suc (length us) = omega arith in
    dealt_append p (suc a) us vs (set c (a % p) u) ∙ ap (λ (n : ℕ). dealt p n vs (dealt p (suc a) us (set c (a % p) u))) next

-- the address matters only up to its cell
dealt_cell : (p a b : ℕ) (vs c : List ℕ) → a % p ≡ b % p → dealt p a vs c ≡ dealt p b vs c
unfolding dealt
dealt_cell p a b [] c e = refl
dealt_cell p a b (v ∷ vs) c e =
    let next : suc a % p ≡ suc b % p =
    rw (sym (add-one a), sym (add-one b)) (sym (mod-add-mod a p 1) ∙ ap (λ (n : ℕ). (n + 1) % p) e ∙ mod-add-mod b p 1) in
    dealt_cell p (suc a) (suc b) vs (set c (a % p) v) next ∙ ap (λ (n : ℕ). dealt p (suc b) vs (set c n v)) e

-- ---- one run, where the page does not end before the values do

dealt_sets : (p s : ℕ) (vs c : List ℕ) → s + length vs ≤ p → dealt p s vs c ≡ sets c s vs
unfolding dealt
dealt_sets p s [] c h = refl
dealt_sets p s (v ∷ vs) c h =
    let low : s % p ≡ s = mod-eq_of_lt (omega arith) in
    ap (λ (n : ℕ). dealt p (suc s) vs (set c n v)) low ∙ dealt_sets p (suc s) vs (set c s v) (omega arith)

dealt_run : (p s : ℕ) (vs c : List ℕ) → p ≤ length c → s + length vs ≤ p → dealt p s vs c ≡ spliced c vs s (length vs)
dealt_run p s vs c e h =
    dealt_sets p s vs c h
    ∙ sets-eq vs c s (omega arith)
    ∙ append_assoc (take s c) vs (drop (s + length vs) c)
    ∙ ap (λ (l : List ℕ). take s c ++ (vs ++ l)) (sym (drop-drop (length vs) s c))

-- ---- two runs

-- the first ends at the page's end where there is a second
module _ (p a : ℕ) (low high : List ℕ) (fits : a % p + length low ≤ p) (turn : 0 < length high → a % p + length low ≡ p)
    (short : length low + length high ≤ p) where
  abbrev runs : List ℕ → List ℕ
  runs c = spliced (spliced c low (a % p) (length low)) high 0 (length high)

  first_run : (c : List ℕ) → p ≤ length c → dealt p a low c ≡ spliced c low (a % p) (length low)
  first_run c e = dealt_cell p a (a % p) low c (sym (mod-mod a p)) ∙ dealt_run p (a % p) low c e fits

  second_run : (hs c : List ℕ) → p ≤ length c → length hs ≤ p → (0 < length hs → a % p + length low ≡ p)
      → dealt p (a + length low) hs c ≡ spliced c hs 0 (length hs)
  unfolding dealt
  second_run [] c e h t = refl
  second_run (v ∷ hs) c e h t =
      let end : (a + length low) % p ≡ 0 % p =
      sym (mod-add-mod a p (length low)) ∙ ap (λ (n : ℕ). n % p) (t (omega arith)) ∙ mod_self p ∙ sym (zero-mod p) in
      dealt_cell p (a + length low) 0 (v ∷ hs) c end ∙ dealt_run p 0 (v ∷ hs) c e (omega arith)

  both_runs : (c : List ℕ) → p ≤ length c → dealt p a (low ++ high) c ≡ runs c
  both_runs c e =
      dealt_append p a low high c
      ∙ second_run high (dealt p a low c) (rw (dealt_length p a low c) e) (omega arith) turn
      ∙ ap (λ (l : List ℕ). spliced l high 0 (length high)) (first_run c e)

  -- a whole page of values leaves nothing of what was there in the page
  whole_page : (c : List ℕ) → p ≤ length c → length low + length high ≡ p → runs c ≡ high ++ (low ++ drop p c)
  whole_page c e all =
      let end : a % p + length low ≡ p = elim (dec_lt 0 (length high)) [ yes h ↦ turn h | no h ↦ omega arith ] in
      let rest : drop (length low) (drop (a % p) c) ≡ drop p c =
      drop-drop (length low) (a % p) c ∙ ap (λ (n : ℕ). drop n c) end in
      let front : length (take (a % p) c) ≡ length high = length-take-le (a % p) c (omega arith) ∙ omega arith in
      ap (λ (l : List ℕ). high ++ drop (length high) (take (a % p) c ++ (low ++ l))) rest
      ∙ ap (λ (l : List ℕ). high ++ l) (drop_at (take (a % p) c) (low ++ drop p c) (length high) front)

-- the cells past the page stay
dealt_past : (p a : ℕ) (vs c : List ℕ) → 0 < p → drop p (dealt p a vs c) ≡ drop p c
unfolding dealt
dealt_past p a [] c h = refl
dealt_past p a (v ∷ vs) c h = dealt_past p (suc a) vs (set c (a % p) v) h ∙ drop-set-lt p c (a % p) v (mod-lt a h)

-- values before a whole page of them do not matter
module _ (p a : ℕ) (low high : List ℕ) (some : 0 < p) where
  dealt_runs : (pre c : List ℕ) → p ≤ length c → (a + length pre) % p + length low ≤ p
      → (0 < length high → (a + length pre) % p + length low ≡ p)
      → length low + length high ≤ p
      → (0 < length pre → length low + length high ≡ p)
      → dealt p a (pre ++ (low ++ high)) c ≡ spliced (spliced c low ((a + length pre) % p) (length low)) high 0 (length high)
  unfolding dealt
  dealt_runs [] c e fits turn short full =
      ap (λ (n : ℕ). dealt p n (low ++ high) c) (sym (add-zero a)) ∙ both_runs p (a + 0) low high fits turn short c e
  dealt_runs (v ∷ pre) c e fits turn short full =
      let b = a + suc (length pre) in
      let begun = dealt p a (v ∷ pre) c in
      let long : p ≤ length begun = rw (dealt_length p a (v ∷ pre) c) e in
      let all : length low + length high ≡ p = full (omega arith) in
      dealt_append p a (v ∷ pre) (low ++ high) c
      ∙ both_runs p b low high fits turn short begun long
      ∙ whole_page p b low high fits turn short begun long all
      ∙ ap (λ (l : List ℕ). high ++ (low ++ l)) (dealt_past p a (v ∷ pre) c some)
      ∙ sym (whole_page p b low high fits turn short c e all)

-- ---- a frame's data

-- the same, by the three lengths
dealt_parts : (p a : ℕ) (pre low high c : List ℕ) (i f h : ℕ) → length pre ≡ i → length low ≡ f → length high ≡ h → 0 < p → p ≤ length c
    → (a + i) % p + f ≤ p → (0 < h → (a + i) % p + f ≡ p) → f + h ≤ p → (0 < i → f + h ≡ p)
    → dealt p a (pre ++ (low ++ high)) c ≡ spliced (spliced c low ((a + i) % p) f) high 0 h
dealt_parts p a pre low high c i f h e₁ e₂ e₃ some e fits turn short full =
    dealt_runs p a low high some pre c e (rw (e₁, e₂) fits) (rw (e₁, e₂, e₃) turn) (rw (e₂, e₃) short) (rw (e₁, e₂, e₃) full)
    ∙ rw (e₁, e₂, e₃) refl

three_parts : (l : List ℕ) (i f h : ℕ) → i + (f + h) ≡ length l → take i l ++ (take f (drop i l) ++ take h (drop (i + f) l)) ≡ l
three_parts l i f h e =
    let last : length (drop (i + f) l) ≤ h = simp length-drop (omega arith) in
    ap (λ (k : List ℕ). take i l ++ (take f (drop i l) ++ k)) (take_all h (drop (i + f) l) last ∙ sym (drop-drop f i l))
    ∙ ap (λ (k : List ℕ). take i l ++ k) (take-append-drop f (drop i l))
    ∙ take-append-drop i l

-- i values that do not stay, f up to the page's end and h from its first cell
module _ (P : Part) (a : ℕ) (vs : List ℕ) (i f h : ℕ) (all : i + (f + h) ≡ length vs)
    (fits : (a + i) % P.page + f ≤ P.page) (turn : 0 < h → (a + i) % P.page + f ≡ P.page) (short : f + h ≤ P.page)
    (full : 0 < i → f + h ≡ P.page) (some : 0 < P.page) where
  abbrev start : ℕ
  start = (a + i) % P.page

  abbrev laid_runs : List ℕ → List ℕ → List ℕ → List ℕ
  laid_runs c low high = spliced (spliced c low start f) high 0 h

  run_bytes : (c : List ℕ) → P.page ≤ length c
      → dealt P.page a vs c ≡ laid_runs c (take f (drop i vs)) (take h (drop (i + f) vs))
  run_bytes c long =
      let first : length (take f (drop i vs)) ≡ f = length-take-le f (drop i vs) (simp length-drop (omega arith)) in
      let second : length (take h (drop (i + f) vs)) ≡ h = length-take-le h (drop (i + f) vs) (simp length-drop (omega arith)) in
      ap (λ (xs : List ℕ). dealt P.page a xs c) (sym (three_parts vs i f h all))
      ∙ dealt_parts P.page a (take i vs) (take f (drop i vs)) (take h (drop (i + f) vs)) c i f h
      (length-take-le i vs (omega arith)) first second some long fits turn short full

  run_ones : (c : List ℕ) → P.page ≤ length c
      → dealt P.page a (replicate (length vs) 1) c ≡ laid_runs c (replicate f 1) (replicate h 1)
  run_ones c long =
      ap (λ (n : ℕ). dealt P.page a (replicate n 1) c) (sym all)
      ∙ ap (λ (xs : List ℕ). dealt P.page a xs c) (sym (replicate-append-replicate i (f + h) 1))
      ∙ ap (λ (xs : List ℕ). dealt P.page a (replicate i 1 ++ xs) c) (sym (replicate-append-replicate f h 1))
      ∙ dealt_parts P.page a (replicate i 1) (replicate f 1) (replicate h 1) c i f h
      (length-replicate i 1) (length-replicate f 1) (length-replicate h 1) some long fits turn short full

  -- ---- the marks of the two runs, as words

  module _ (reach : P.page ≤ room) where
    none : List ℕ
    none = replicate room 0

    none_long : length none ≡ room
    unfolding none
    none_long = length-replicate {A = ℕ} room 0

    within : start + f ≤ length none
    within = rw none_long (omega arith)

    first_long : length (spliced none (replicate f 1) start f) ≡ room
    first_long = spliced_length none (replicate f 1) start f 0 within (length-replicate f 1) ∙ none_long

    -- a cell that the second run does not reach
    past : (j : ℕ) → h ≤ j → get_or (laid_runs none (replicate f 1) (replicate h 1)) j 0 ≡ get_or (spliced none (replicate f 1) start f) j 0
    past j k =
        spliced_after (spliced none (replicate f 1) start f) (replicate h 1) 0 h 0 (rw first_long (omega arith)) (length-replicate h 1) j
        (omega arith)

    outside : (j : ℕ) → j < room → get_or {A = ℕ} none j 0 ≡ 0
    unfolding none
    outside j k = get_or-replicate {A = ℕ} room j 0 0 k

    run_at : (j : ℕ) → j < room
        → get_or (laid_runs none (replicate f 1) (replicate h 1)) j 0 ≡ bit (mark (run_marks start (start + f) h) j)
    run_at j below = elim (dec_lt j h) [
      | yes k ↦
          spliced_in (spliced none (replicate f 1) start f) (replicate h 1) 0 h 0 (rw first_long (omega arith)) (length-replicate h 1) j
          (omega arith) (omega arith)
          ∙ get_or-replicate {A = ℕ} h (j - 0) 1 0 (omega arith)
          ∙ sym (ap bit (marked_in_rest start (start + f) h j below k))
      | no k ↦ past j (omega arith) ∙ elim (dec_lt j start) [
        | yes b ↦
            spliced_before none (replicate f 1) start f 0 within (length-replicate f 1) j b
            ∙ outside j (omega arith)
            ∙ sym (ap bit (unmarked_before start (start + f) h j below b (omega arith)))
        | no b ↦ elim (dec_lt j (start + f)) [
          | yes t ↦
              spliced_in none (replicate f 1) start f 0 within (length-replicate f 1) j (omega arith) t
              ∙ get_or-replicate {A = ℕ} f (j - start) 1 0 (omega arith)
              ∙ sym (ap bit (marked_in_run start (start + f) h j below (omega arith) t))
          | no t ↦
              spliced_after none (replicate f 1) start f 0 within (length-replicate f 1) j (omega arith)
              ∙ outside j (omega arith)
              ∙ sym (ap bit (unmarked_after start (start + f) h j below (omega arith) (omega arith)))
        ]
      ]
    ]

    run_length : length (laid_runs none (replicate f 1) (replicate h 1)) ≡ room
    run_length =
        spliced_length (spliced none (replicate f 1) start f) (replicate h 1) 0 h 0 (rw first_long (omega arith)) (length-replicate h 1)
        ∙ first_long

    run_words : dealt_marks P.page a vs (replicate room_words 0) ≡ run_marks start (start + f) h
    unfolding none
    run_words =
        mark_bytes_same room_words _ _
        (dealt_marks_length P.page room_words reach some a vs _ ∙ length-replicate {A = ℕ} room_words 0)
        (run_marks_length start (start + f) h)
        (dealt_marks_wide P.page room_words reach some a vs _ (wide_none room_words))
        (run_marks_wide start (start + f) h)
        (dealt_marks_bytes P.page room_words reach some a vs _ (length-replicate {A = ℕ} room_words 0)
        ∙ ap (dealt P.page a (replicate (length vs) 1)) (mark_bytes_none room_words)
        ∙ run_ones (replicate room 0) (rw none_long reach)
        ∙ mark_bytes_is room_words (run_marks start (start + f) h) _ run_length run_at)

    pub latched_runs : latched_from P a vs no_latch ≡ record {
      bytes = laid_runs (zeros room) (take f (drop i vs)) (take h (drop (i + f) vs));
      marks = run_marks start (start + f) h;
    }
    unfolding zeros
    latched_runs =
        latched_dealt P a vs no_latch
        ∙ rw (run_bytes (replicate room 0) (rw (length-replicate {A = ℕ} room 0) reach), run_words) refl

-- ---- one run, up to the page's end at most

module _ (P : Part) (reach : P.page ≤ room) where
  one_run : (b : ℕ) (vs : List ℕ) → b < P.page → b + length vs ≤ P.page
      → latched_from P b vs no_latch ≡ record { bytes = spliced (zeros room) vs b (length vs); marks = run_marks b (b + length vs) 0 }
  one_run b vs below fits =
      let n = length vs in
      let at : (b + 0) % P.page ≡ b = ap (λ (k : ℕ). k % P.page) (add-zero b) ∙ mod-eq_of_lt below in
      latched_runs P b vs 0 n 0 (omega arith) (rw at fits) (λ q. absurd (omega arith)) (omega arith) (λ q. absurd (omega arith)) (omega arith) reach
      ∙ rw (at, take_all n vs (omega arith)) refl

  -- as many values as the page has cells left
  up_to : (m : ℕ) (vs : List ℕ) {n : ℕ} → n ≡ min m (length vs) → take m vs ≡ take n vs
  up_to m vs {n} e = elim (dec_lt m (length vs)) [
    | yes h ↦ let same : m ≡ n = omega arith in ap (λ (k : ℕ). take k vs) same
    | no h ↦ take_all m vs (omega arith) ∙ sym (take_all n vs (omega arith))
  ]

  pub latched_up_law : (a : ℕ) (vs : List ℕ) {n : ℕ} → 0 < P.page → n ≡ min (P.page - a % P.page) (length vs)
      → latched_up P a vs ≡ record {
        bytes = spliced (zeros room) (take n vs) (a % P.page) n;
        marks = run_marks (a % P.page) (a % P.page + n) 0;
      }
  latched_up_law a vs {n} some e =
      let below : a % P.page < P.page = mod-lt a some in
      let long : length (take n vs) ≡ n = length-take-le n vs (omega arith) in
      ap (λ (xs : List ℕ). latched_from P (a % P.page) xs no_latch) (up_to (P.page - a % P.page) vs e)
      ∙ one_run (a % P.page) (take n vs) below (omega arith)
      ∙ rw long refl

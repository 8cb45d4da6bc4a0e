-- However a text is cut into chunks, the outputs together with that of its end are the output of the text, and the device and what is lent to it are
-- those after its last good line.
use mathlib.Core.Path.{◌≡◌, refl, ap, sym, ◌∙◌}
use mathlib.Core.Bool.{Bool, true, false}
use mathlib.Core.List.{List, [], ◌∷◌, ◌++◌, append_assoc, append-nil}
use Prim.Native.Nat.{ℕ, ◌+◌}
use native.Mathlib.Omega.{arith}
use lib.ListN.{length}
use lib.Dec.{eqb}
use borrow.Author.Tests.{eqb-true, eqb-false, ne_eqb}
use Rattle.laws.specs.Pick.{pick}
use Rattle.laws.specs.And.{and_3_in}
use Rattle.codes.specs.Part.{Part, part_of}
use Rattle.chip.specs.Lents.{Lent}
use Rattle.pins.specs.Answers.{PinBench, lent_to, played}
use Rattle.lists.specs.Answers.{played_q}
use Rattle.pins.specs.Ranges.{device_fits}
use Rattle.codes.proofs.Sound.{sound_of}
use Rattle.pins.specs.Devices.{device_part}
use Rattle.pins_theorems.proofs.Fits.{Sized, played_sized, delivered_fits, delivered_sized}
use Rattle.lines.specs.declared.Line.{Line}
use Rattle.player.specs.declared.Player.{Player}
use Rattle.player.specs.Players.{start_bench, player_of, start_player, head_fits, player_fits}
use Rattle.player.proofs.Starts.{start_row}
use Rattle.trace.specs.Lines.{line_says}
use Rattle.printing.specs.Printing.{header, bad_line, printed}
use Rattle.lines.specs.Reading.{fresh, stopped, read, found, ended, line_fits}
use Rattle.lines.proofs.Hand.{read_fits, fresh_fits, ended_fits}
use Rattle.lines.proofs.Runs.{read_append, read_still, found_still}
use Rattle.trace.specs.Texts.{first_line, good_lines, text_events, text_numbers, text_is_bad, text_bench, text_output}
use Rattle.trace.specs.Chunks.{headed, bad_line_between, bench_of, played_lines, shown_lines, chunk_bench, chunk_player}
use Rattle.trace.specs.Chunks.{chunk_output, end_player, end_output, SoFar, after_chunk, after_chunks, before_text, joined}
use Rattle.trace.proofs.Cases.{nothing}
use Rattle.trace.proofs.Plays.{own_fits}
use Rattle.trace.proofs.Chunking.{lines_played, lines_shown}
use Rattle.trace.proofs.Choosing.{bad_before, bad_now, bad_not, player_out}
use Rattle.trace.proofs.Whole.{split, text_found, text_ended}

-- ---- the bad line is put out once

bad_same : (a b c : Line) → (a.place ≡ 5 → ⊥) → (b.place ≡ 5 → ⊥) → bad_line_between a c ≡ bad_line_between b c
unfolding pick bad_line_between
bad_same a b c n k = rw (ne_eqb a.place 5 n, ne_eqb b.place 5 k) refl

-- after a bad line nothing is shown, and there is no second one
shown_still : (l : Line) (b : PinBench) (x : List ℕ) → l.place ≡ 5 → shown_lines l b x ≡ []
unfolding shown_lines played_q printed
shown_still l b x e = rw (found_still l x e) refl

module _ (l : Line) (b : PinBench) (f : line_fits l ≡ true) (x y : List ℕ) where
  -- the lines of two chunks, each with its bad line, are those of both
  both : (shown_lines l b x ++ bad_line_between l (read l x)) ++ (shown_lines (read l x) (played_lines l b x) y ++ bad_line_between (read l x) (read (read l x) y))
      ≡ shown_lines l b (x ++ y) ++ bad_line_between l (read l (x ++ y))
  both =
      let r = read l x in
      let c = played_lines l b x in
      let first = shown_lines l b x in
      split (eqb r.place 5)
      (λ e. let stop = eqb-true r.place 5 e in
      let none : shown_lines r c y ≡ [] = shown_still r c y stop in
      let same : read r y ≡ r = read_still r y stop in
      ap (λ (k : List ℕ). (first ++ bad_line_between l r) ++ (k ++ bad_line_between r (read r y))) none
      ∙ ap (λ (k : List ℕ). (first ++ bad_line_between l r) ++ k) (sym (bad_before r (read r y) stop))
      ∙ append-nil (first ++ bad_line_between l r)
      ∙ ap (λ (k : List ℕ). first ++ k) (ap (bad_line_between l) (sym same ∙ sym (read_append l x y)))
      ∙ ap (λ (k : List ℕ). k ++ bad_line_between l (read l (x ++ y)))
      (sym (append-nil first) ∙ ap (λ (k : List ℕ). first ++ k) (sym none) ∙ sym (lines_shown l b f x y)))
      (λ e. let go = eqb-false r.place 5 e in
      let started : l.place ≡ 5 → ⊥ = λ s. go (ap (λ (k : Line). k.place) (read_still l x s) ∙ s) in
      ap (λ (k : List ℕ). (first ++ k) ++ (shown_lines r c y ++ bad_line_between r (read r y))) (sym (bad_not l r go))
      ∙ ap (λ (k : List ℕ). k ++ (shown_lines r c y ++ bad_line_between r (read r y))) (append-nil first)
      ∙ sym (append_assoc first (shown_lines r c y) (bad_line_between r (read r y)))
      ∙ ap (λ (k : List ℕ). k ++ bad_line_between r (read r y)) (sym (lines_shown l b f x y))
      ∙ ap (λ (k : List ℕ). shown_lines l b (x ++ y) ++ k) (bad_same r l (read r y) go started ∙ ap (bad_line_between l) (sym (read_append l x y))))

-- ---- two chunks are one

abbrev so_far : Line → PinBench → List ℕ → SoFar
so_far l b o = record { player = player_of 1 l b; cells = lent_to b; output = o }

two_chunks : (t : SoFar) → line_fits t.player.line ≡ true → (x y : List ℕ) → after_chunk (after_chunk t x) y ≡ after_chunk t (x ++ y)
unfolding pick
two_chunks t f x y =
    let p = t.player in
    let l = p.line in
    let b = bench_of p t.cells in
    let lines : read (read l x) y ≡ read l (x ++ y) = sym (read_append l x y) in
    let bench : played_lines (read l x) (played_lines l b x) y ≡ played_lines l b (x ++ y) = sym (lines_played l b x y) in
    let two : List ℕ = (t.output ++ chunk_output p t.cells x) ++
    (shown_lines (read l x) (played_lines l b x) y ++ bad_line_between (read l x) (read (read l x) y)) in
    let out : two ≡ t.output ++ chunk_output p t.cells (x ++ y) =
    append_assoc t.output (chunk_output p t.cells x) _
    ∙ ap (λ (k : List ℕ). t.output ++ k)
    (append_assoc (headed p) (shown_lines l b x ++ bad_line_between l (read l x)) _ ∙ ap (λ (k : List ℕ). headed p ++ k) (both l b f x y)) in
    ap (λ (k : Line). so_far k (played_lines (read l x) (played_lines l b x) y) two) lines
    ∙ ap (λ (k : PinBench). so_far (read l (x ++ y)) k two) bench
    ∙ ap (so_far (read l (x ++ y)) (played_lines l b (x ++ y))) out

-- .. and so are any number of them
all_chunks : (t : SoFar) → line_fits t.player.line ≡ true → (x : List ℕ) (xs : List (List ℕ))
    → after_chunks (after_chunk t x) xs ≡ after_chunk t (x ++ joined xs)
unfolding after_chunks joined
all_chunks t f x [] = sym (ap (after_chunk t) (append-nil x))
all_chunks t f x (y ∷ ys) =
    ap (λ (k : SoFar). after_chunks k ys) (two_chunks t f x y) ∙ all_chunks t f (x ++ y) ys ∙ ap (after_chunk t) (append_assoc x y (joined ys))

-- ---- a text in one chunk, and its end

ended_still : (r : Line) → r.place ≡ 5 → ended r ≡ stopped r.whole
unfolding pick ended
ended_still r e = rw e refl

bad_ended : (r : Line) → bad_line_between (fresh 0) r ++ bad_line_between r (ended r) ≡ bad_line_between (fresh 0) (ended r)
bad_ended r =
    split (eqb r.place 5)
    (λ e. let stop = eqb-true r.place 5 e in
    let ends = ended_still r stop in
    ap (λ (k : List ℕ). bad_line_between (fresh 0) r ++ k) (sym (bad_before r (ended r) stop)) ∙ append-nil (bad_line_between (fresh 0) r)
    ∙ sym (bad_now (fresh 0) r (λ s. omega arith) stop) ∙ bad_now (fresh 0) (stopped r.whole) (λ s. omega arith) refl ∙ ap (bad_line_between (fresh 0))
    (sym ends))
    (λ e. let go = eqb-false r.place 5 e in
    ap (λ (k : List ℕ). k ++ bad_line_between r (ended r)) (sym (bad_not (fresh 0) r go)) ∙ bad_same r (fresh 0) (ended r) go (λ s. omega arith))

bad_whole : (n k : ℕ) (t : Bool) → k ≡ n → bad_line_between (fresh 0) (pick t (stopped k) (fresh k)) ≡ pick t (bad_line (n + 1)) []
unfolding pick bad_line_between
bad_whole n k true e = rw e refl
bad_whole n k false e = refl

text_output_law : (n : ℕ) (x : List ℕ) → (after_chunk (before_text n) x).output ++ end_output (after_chunk (before_text n) x).player ≡ text_output n x
unfolding pick shown_lines text_output
text_output_law n x =
    let r = read (fresh 0) x in
    let b = start_bench n in
    let s = shown_lines (fresh 0) b x in
    let shows : s ≡ printed 1 (played_q (part_of n) (text_numbers x) b) =
    ap (λ (P : Part). printed 1 (played_q P (found (fresh 0) x) b)) (start_row n)
    ∙ ap (λ (es : List ℕ). printed 1 (played_q (part_of n) es b)) (text_found x) in
    append_assoc header (s ++ bad_line_between (fresh 0) r) (bad_line_between r (ended r))
    ∙ ap (λ (k : List ℕ). header ++ k)
    (append_assoc s (bad_line_between (fresh 0) r) (bad_line_between r (ended r))
    ∙ ap (λ (k : List ℕ). s ++ k) (bad_ended r ∙ ap (bad_line_between (fresh 0)) (text_ended x) ∙ bad_whole (length (text_events x)) (0 + length (text_events x))
    (text_is_bad x) (omega arith))
    ∙ ap (λ (k : List ℕ). k ++ pick (text_is_bad x) (bad_line (length (text_events x) + 1)) []) shows)

text_bench_law : (n : ℕ) (x : List ℕ) → bench_of (after_chunk (before_text n) x).player (after_chunk (before_text n) x).cells ≡ text_bench n x
unfolding played_lines
text_bench_law n x =
    let b = start_bench n in
    ap (λ (P : Part). played P (found (fresh 0) x) b) (start_row n) ∙ ap (λ (es : List ℕ). played (part_of n) es b) (text_found x)

-- ---- however a text is cut, on every part

pub whole_output : (n : ℕ) (xs : List (List ℕ)) → (after_chunks (before_text n) xs).output ++ end_output (after_chunks (before_text n) xs).player
    ≡ text_output n (joined xs)
unfolding pick bad_line_between ended after_chunks joined
whole_output n [] = append-nil header ∙ sym (nothing n)
whole_output n (x ∷ xs) = rw (all_chunks (before_text n) (fresh_fits 0 (omega arith)) x xs) (text_output_law n (x ++ joined xs))

no_bench : (n : ℕ) → start_bench n ≡ text_bench n []
unfolding first_line line_says good_lines played
no_bench n = refl

pub whole_bench : (n : ℕ) (xs : List (List ℕ)) → bench_of (after_chunks (before_text n) xs).player (after_chunks (before_text n) xs).cells
    ≡ text_bench n (joined xs)
unfolding after_chunks joined
whole_bench n [] = no_bench n
whole_bench n (x ∷ xs) = rw (all_chunks (before_text n) (fresh_fits 0 (omega arith)) x xs) (text_bench_law n (x ++ joined xs))

-- ---- so no chunk of a text gets 2: a chunk leaves a player inside its ranges (whose latch has a page's cells, as an array has by its type) inside them,
-- and so do the start and the end

start_line : line_fits (fresh 0) ≡ true
start_line = fresh_fits 0 (omega arith)

pub start_fits : (n : ℕ) → player_fits (start_player n) ≡ true
unfolding player_fits
start_fits n =
    let x = (start_player n).device in
    and_3_in (head_fits (start_player n)) (line_fits (fresh 0)) (device_fits (device_part x) x) refl start_line
    (delivered_fits n)

pub start_sized : (n : ℕ) → Sized (start_player n).device
start_sized n = delivered_sized n

pub chunk_fits : (p : Player) (m : Lent) (x : List ℕ) → player_fits p ≡ true → Sized p.device → player_fits (chunk_player p m x) ≡ true
unfolding player_fits played_lines
chunk_fits p m x f sized =
    let t = player_out p f in
    let y = (chunk_bench p m x).device in
    and_3_in (head_fits (chunk_player p m x)) (line_fits (read p.line x)) (device_fits (device_part y) y) refl (read_fits p.line x t.1.0)
    (own_fits (found p.line x) (bench_of p m) sized t.1.1)

pub chunk_sized : (p : Player) (m : Lent) (x : List ℕ) → let y = (chunk_bench p m x).device in Sized p.device → Sized y
unfolding played_lines
chunk_sized p m x sized = played_sized (device_part p.device) (sound_of p.device.core.part) (found p.line x) (bench_of p m) sized

pub end_fits : (p : Player) → player_fits p ≡ true → player_fits (end_player p) ≡ true
unfolding player_fits
end_fits p f =
    let t = player_out p f in
    and_3_in (head_fits (end_player p)) (line_fits (ended p.line)) (device_fits (device_part p.device) p.device) refl
    (ended_fits p.line t.1.0) t.1.1

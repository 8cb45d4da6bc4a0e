-- Refusal 11, exactly: however a text is cut into chunks, one of its calls gives 11 where the text has a bad line, and none where it has not. A chunk gives it
-- as soon as no bytes that may follow make the text good.
use mathlib.Core.Path.{◌≡◌, refl, ap, ap₂, sym, ◌∙◌}
use mathlib.Core.Bool.{Bool, true, false, or-false, true≢false}
use mathlib.Core.List.{List, [], ◌∷◌, ◌++◌}
use Prim.Native.Nat.{ℕ, zero, suc, ◌≤◌}
use native.Mathlib.Omega.{arith}
use lib.ListN.{length}
use lib.Dec.{eqb}
use borrow.Author.Tests.{eqb-true, eqb-false, eq-eqb, le-leb}
use Rattle.laws.specs.Pick.{pick, and_both}
use Rattle.codes.specs.Part.{Part, part_of}
use Rattle.pins.specs.Devices.{device_part}
use Rattle.pins.specs.Answers.{PinBench, after_event, played}
use Rattle.chip.specs.Records.{waits_page, waits_identification}
use Rattle.chip.specs.Time.{lent_fits}
use Rattle.chip.specs.declared.Waiting.{Waiting}
use Rattle.chip.proofs.Cases.{delivered_size, delivered_page}
use Rattle.chip.proofs.Passing.{timed_length}
use Rattle.pins.proofs.Kept.{played_part}
use Rattle.pins.specs.declared.Device.{Device}
use Rattle.pins.specs.declared.Event.{Event}
use Rattle.pins.specs.declared.Event.TheVariants.{S, C, D, W, Hold, Time}
use Rattle.pins.specs.Events.{event_of, stepped_cells}
use Rattle.pins_theorems.proofs.Fits.{Sized}
use Rattle.lines.specs.declared.Line.{Line}
use Rattle.lines.specs.Reading.{line_at, fresh, stopped, is_stopped, next, read, found, ended, line_fits}
use Rattle.lines.proofs.Hand.{read_fits, fresh_fits, past_fits}
use Rattle.lines.proofs.Runs.{read_append, read_still}
use Rattle.player.specs.Players.{start_bench, player_fits}
use Rattle.player.proofs.Starts.{start_row}
use Rattle.trace.specs.Texts.{text_is_bad}
use Rattle.trace.specs.Chunks.{bench_of, played_lines, chunk_player, end_player, player_number, room, feed_number}
use Rattle.trace.specs.Chunks.{end_number, SoFar, after_chunk, after_chunks, before_text, joined, numbers_given, has11}
use Rattle.trace.proofs.Choosing.{feed_done, end_done}
use Rattle.trace.proofs.Whole.{split, text_ended}
use Rattle.trace.proofs.Cut.{start_fits, start_sized, chunk_fits, chunk_sized}

-- ---- what a call needs to take its chunk, and each chunk leaves so

-- no event changes the length of lent cells
cells_length : (theirs : Waiting → Bool) (P : Part) (e : Event) (x : Device) (m : List ℕ) → length (stepped_cells theirs P e x m) ≡ length m
cells_length theirs P (S level) x m = refl
cells_length theirs P (C level) x m = refl
cells_length theirs P (D level) x m = refl
cells_length theirs P (W level) x m = refl
cells_length theirs P (Hold level) x m = refl
cells_length theirs P (Time t) x m = timed_length theirs P t x.core m

played_lengths : (P : Part) (es : List ℕ) (b : PinBench) → (length (played P es b).memory ≡ length b.memory)
    × (length (played P es b).identification ≡ length b.identification)
unfolding played
played_lengths P [] b = (refl, refl)
played_lengths P (e ∷ es) b =
    let rest = played_lengths P es (after_event P e b) in (
      rest.0 ∙ cells_length waits_page P (event_of e) b.device b.memory,
      rest.1 ∙ cells_length waits_identification P (event_of e) b.device b.identification,
    )

record Ready (s : SoFar) : Type 0 where
  fits : player_fits s.player ≡ true
  sized : Sized s.player.device
  whole : lent_fits (device_part s.player.device) (length s.cells.memory) (length s.cells.identification) ≡ true

start_whole : (n : ℕ) → lent_fits (part_of n) (length (start_bench n).memory) (length (start_bench n).identification) ≡ true
start_whole n =
    and_both _ _ (eq-eqb _ _ (delivered_size n)) (eq-eqb _ _ (delivered_page n))

start_ready : (n : ℕ) → Ready (before_text n)
start_ready n =
    record {
      fits = start_fits n;
      sized = start_sized n;
      whole = ap (λ (P : Part). lent_fits P (length (start_bench n).memory) (length (start_bench n).identification)) (start_row n) ∙ start_whole n;
    }

next_ready : (s : SoFar) (x : List ℕ) → Ready s → Ready (after_chunk s x)
unfolding played_lines
next_ready s x r =
    let P = device_part s.player.device in
    let b = bench_of s.player s.cells in
    let after = played P (found s.player.line x) b in
    let lengths = played_lengths P (found s.player.line x) b in
    record {
      fits = chunk_fits s.player s.cells x r.fits r.sized;
      sized = chunk_sized s.player s.cells x r.sized;
      whole =
          ap (λ (n : ℕ). lent_fits (part_of n) (length after.memory) (length after.identification)) (played_part P (found s.player.line x) b)
          ∙ ap₂ (lent_fits P) lengths.0 lengths.1
          ∙ r.whole;
    }

feed_gives : (s : SoFar) (x d : List ℕ) → Ready s → room (length x) ≤ length d
    → feed_number s.player s.cells x d ≡ player_number (chunk_player s.player s.cells x)
feed_gives s x d r k = sym (feed_done s.player s.cells (room (length x)) (length d) 5 2 1 r.whole r.fits (le-leb _ _ k) refl)

end_gives : (s : SoFar) (d : List ℕ) → Ready s → room 0 ≤ length d → end_number s.player d ≡ player_number (end_player s.player)
end_gives s d r k = sym (end_done s.player (room 0) (length d) 5 2 r.fits (le-leb _ _ k) refl)

-- ---- a number is 11 where the line in hand is stopped, and a stopped text stays so

is_11 : (t : Bool) → eqb (pick t 11 0) 11 ≡ t
unfolding pick
is_11 true = refl
is_11 false = refl

ended_stopped : (l : Line) → is_stopped l ≡ true → is_stopped (ended l) ≡ true
unfolding pick ended
ended_stopped l e = rw (eqb-true l.place 5 e) refl

stays : (l : Line) (x : List ℕ) → is_stopped l ≡ true → is_stopped (ended (read l x)) ≡ true
stays l x e = ap (λ (k : Line). is_stopped (ended k)) (read_still l x (eqb-true l.place 5 e)) ∙ ended_stopped l e

given : (out : List ℕ → List ℕ) → ((x : List ℕ) → room (length x) ≤ length (out x)) → (s : SoFar) → Ready s → (xs : List (List ℕ))
    → has11 (numbers_given out s xs) ≡ is_stopped (ended (read s.player.line (joined xs)))
unfolding numbers_given has11 joined read
given out k s r [] = rw (end_gives s (out []) r (k []), is_11 (is_stopped (ended s.player.line))) (or-false (is_stopped (ended s.player.line)))
given out k s r (x ∷ xs) =
    let l = s.player.line in
    let rest : is_stopped (ended (read (read l x) (joined xs))) ≡ is_stopped (ended (read l (x ++ joined xs))) =
    ap (λ (j : Line). is_stopped (ended j)) (sym (read_append l x (joined xs))) in
    rw (feed_gives s x (out x) r (k x), is_11 (is_stopped (read l x)), given out k (after_chunk s x) (next_ready s x r) xs)
    (split (is_stopped (read l x)) (λ e. rw e (sym (stays (read l x) (joined xs) e)) ∙ rest) (λ e. rw e rest))

stopped_is : (w : ℕ) (t : Bool) → is_stopped (pick t (stopped w) (fresh w)) ≡ t
unfolding pick
stopped_is w true = refl
stopped_is w false = refl

text_stopped : (x : List ℕ) → is_stopped (ended (read (fresh 0) x)) ≡ text_is_bad x
text_stopped x = ap is_stopped (text_ended x) ∙ stopped_is _ (text_is_bad x)

-- ---- 11 exactly where the text has a bad line

pub eleven : (n : ℕ) (out : List ℕ → List ℕ) → ((x : List ℕ) → room (length x) ≤ length (out x)) → (xs : List (List ℕ))
    → has11 (numbers_given out (before_text n) xs) ≡ text_is_bad (joined xs)
eleven n out k xs = given out k (before_text n) (start_ready n) xs ∙ text_stopped (joined xs)

-- ---- and which chunk gives it: one after which the text is bad, whatever follows. After any other the text can still be good

ready_after : (s : SoFar) (xs : List (List ℕ)) → Ready s → Ready (after_chunks s xs)
unfolding after_chunks
ready_after s [] r = r
ready_after s (x ∷ xs) r = ready_after (after_chunk s x) xs (next_ready s x r)

line_after : (s : SoFar) (xs : List (List ℕ)) → (after_chunks s xs).player.line ≡ read s.player.line (joined xs)
unfolding after_chunks joined read
line_after s [] = refl
line_after s (x ∷ xs) = line_after (after_chunk s x) xs ∙ sym (read_append s.player.line x (joined xs))

-- the bytes that end a line in hand well
ends_well : (w p k v : ℕ) → line_fits (line_at w p k v) ≡ true → (p ≡ 5 → ⊥) → (y : List ℕ) × (is_stopped (ended (read (line_at w p k v) y)) ≡ false)
unfolding pick next read ended
ends_well w zero k v f n = ([], refl)
ends_well w (suc zero) k v f n = (9 ∷ 48 ∷ 10 ∷ [], refl)
ends_well w (suc (suc zero)) k v f n = (48 ∷ 10 ∷ [], refl)
ends_well w (suc (suc (suc zero))) k v f n = (10 ∷ [], refl)
ends_well w (suc (suc (suc (suc zero)))) k v f n = (10 ∷ [], refl)
ends_well w (suc (suc (suc (suc (suc zero))))) k v f n = absurd (n refl)
ends_well w (suc (suc (suc (suc (suc (suc p)))))) k v f n = absurd (true≢false (sym f ∙ past_fits w (suc (suc (suc (suc (suc (suc p)))))) k v (omega arith)))

module _ (part : ℕ) (xs : List (List ℕ)) (x d : List ℕ) (k : room (length x) ≤ length d) where
  -- the number that a chunk x gets after the chunks xs
  abbrev number : ℕ
  number = feed_number (after_chunks (before_text part) xs).player (after_chunks (before_text part) xs).cells x d

  abbrev hand : Line
  hand = read (fresh 0) (joined xs ++ x)

  number_is : number ≡ pick (is_stopped hand) 11 0
  number_is =
      feed_gives (after_chunks (before_text part) xs) x d (ready_after (before_text part) xs (start_ready part)) k
      ∙ ap (λ (l : Line). pick (is_stopped (read l x)) 11 0) (line_after (before_text part) xs)
      ∙ ap (λ (l : Line). pick (is_stopped l) 11 0) (sym (read_append (fresh 0) (joined xs) x))

  on_from : (y : List ℕ) → is_stopped (ended (read hand y)) ≡ text_is_bad ((joined xs ++ x) ++ y)
  on_from y = ap (λ (l : Line). is_stopped (ended l)) (sym (read_append (fresh 0) (joined xs ++ x) y)) ∙ text_stopped ((joined xs ++ x) ++ y)

  pub eleven_for_good : number ≡ 11 → (y : List ℕ) → text_is_bad ((joined xs ++ x) ++ y) ≡ true
  eleven_for_good e y = sym (on_from y) ∙ stays hand y (sym (is_11 (is_stopped hand)) ∙ rw (sym number_is ∙ e) refl)

  pub not_yet : (number ≡ 11 → ⊥) → (y : List ℕ) × (text_is_bad ((joined xs ++ x) ++ y) ≡ false)
  unfolding pick
  not_yet n =
      let go : is_stopped hand ≡ false = split (is_stopped hand) (λ e. absurd (n (number_is ∙ rw e refl))) (λ e. e) in
      let f = read_fits (fresh 0) (joined xs ++ x) (fresh_fits 0 (omega arith)) in
      let w = ends_well hand.whole hand.place hand.kind hand.value f (eqb-false hand.place 5 go) in
      (w.0, sym (on_from w.0) ∙ w.1)

-- The marks of a run of cells and of the first cells of a page: which cells they mark, and that each is a word.
use Prim.Native.Nat.{ℕ, ◌-◌, ◌*◌, ◌/◌, ◌%◌, ◌^◌, ◌<◌, ◌≤◌, min}
use mathlib.Core.Path.{◌≡◌, ap, ◌∙◌}
use mathlib.Core.Bool.{Bool, true, false, ◌||◌}
use mathlib.Core.List.{List}
use native.Mathlib.Nat.{lt_of_lt_of_le}
use native.Mathlib.Omega.{arith}
use lib.ListN.{length, get_or}
use lib.Bits.{bit_or, or_lt}
use lib.Pow.{pow_pos, pow_mono}
use Rattle.laws.specs.And.{or_left, or_right, or_none_in}
use Rattle.laws.specs.Table.{table_length, table_at}
use Rattle.laws.specs.Bits.{bit_on, bit_or_law, bit_run_in, bit_run_before, bit_run_after}
use Rattle.laws.specs.Marks.{mark, Wide}
use Rattle.codes.specs.Part.{room, room_words}
use Rattle.latch.specs.Words.{run_word, run_marks}

-- ---- one word

-- bit j % 64 of the word that cell j is in
module _ (start end j : ℕ) where
  abbrev in_word : Bool
  in_word = bit_on (run_word (j / 64 * 64) start end) (j % 64)

  pub in_run : start ≤ j → j < end → in_word ≡ true
  in_run h k = bit_run_in (min 64 (start - j / 64 * 64)) (min 64 (end - j / 64 * 64)) (j % 64) (omega arith) (omega arith)

  pub before_run : j < start → in_word ≡ false
  before_run h = bit_run_before (min 64 (start - j / 64 * 64)) (min 64 (end - j / 64 * 64)) (j % 64) (omega arith)

  pub after_run : end ≤ j → in_word ≡ false
  after_run h = bit_run_after (min 64 (start - j / 64 * 64)) (min 64 (end - j / 64 * 64)) (j % 64) (omega arith)

run_word_below : (first start end : ℕ) → run_word first start end < 2 ^ 64
run_word_below first start end =
    let some = pow_pos (min 64 (start - first)) in
    let more = pow_pos (min 64 (end - first)) in
    let below : 2 ^ min 64 (end - first) - 2 ^ min 64 (start - first) < 2 ^ min 64 (end - first) = omega arith in
    lt_of_lt_of_le below (pow_mono {j = 64} (omega arith))

-- ---- all words of a page

module _ (start end rest : ℕ) where
  abbrev run : List ℕ
  run = run_marks start end rest

  pub run_marks_length : length run ≡ room_words
  unfolding run_marks
  run_marks_length = table_length _ (room_words)

  run_marks_at : (k : ℕ) → k < room_words → get_or run k 0 ≡ bit_or (run_word (k * 64) start end) (run_word (k * 64) 0 rest)
  unfolding run_marks
  run_marks_at k h = table_at _ (room_words) k 0 h

  pub run_marks_wide : Wide (room_words) run
  run_marks_wide k h =
      rw (run_marks_at k h) (or_lt 64 _ _ (run_word_below (k * 64) start end) (run_word_below (k * 64) 0 rest))

  module _ (j : ℕ) (inside : j < room) where
    run_marked : mark run j ≡ (in_word start end j || in_word 0 rest j)
    run_marked =
        ap (λ (w : ℕ). bit_on w (j % 64)) (run_marks_at (j / 64) (omega arith))
        ∙ bit_or_law (run_word (j / 64 * 64) start end) (run_word (j / 64 * 64) 0 rest) (j % 64)

    pub marked_in_run : start ≤ j → j < end → mark run j ≡ true
    marked_in_run h k = run_marked ∙ or_left (in_word start end j) (in_word 0 rest j) (in_run start end j h k)

    pub marked_in_rest : j < rest → mark run j ≡ true
    marked_in_rest h = run_marked ∙ or_right (in_word start end j) (in_word 0 rest j) (in_run 0 rest j (omega arith) h)

    pub unmarked_before : j < start → rest ≤ j → mark run j ≡ false
    unmarked_before h k =
        run_marked ∙ or_none_in (in_word start end j) (in_word 0 rest j) (before_run start end j h) (after_run 0 rest j k)

    pub unmarked_after : end ≤ j → rest ≤ j → mark run j ≡ false
    unmarked_after h k =
        run_marked ∙ or_none_in (in_word start end j) (in_word 0 rest j) (after_run start end j h) (after_run 0 rest j k)

-- A text a chunk at a time: the player after a chunk, what is lent to it, what is put out; the refusals; and what the
-- end of the text adds.
use Rattle.trace.specs.Numbers.{FeedReply}
use Rattle.std.specs.Prelude.{ℕ, ◌+◌, ◌*◌, Bool, false, ◌||◌, List, [], ◌∷◌, ◌++◌, length, eqb, leb}
use Rattle.std.specs.Prelude.{Result, Ok, Err}
use Rattle.laws.specs.Pick.{pick}
use Rattle.codes.specs.declared.Refusal.{Refusal}
use Rattle.codes.specs.declared.Refusal.TheVariants.{MemoryLength, RecordRange, OutputLength}
use Rattle.chip.specs.Lents.{Lent}
use Rattle.chip.specs.Time.{lent_fits}
use Rattle.pins.specs.declared.Device.{Device}
use Rattle.pins.specs.Devices.{device_part}
use Rattle.pins.specs.Answers.{PinBench, lent_to, played}
use Rattle.lists.specs.Answers.{bench_with, played_q}
use Rattle.lines.specs.declared.Line.{Line}
use Rattle.lines.specs.Reading.{is_stopped, read, found, ended}
use Rattle.printing.specs.Printing.{header, bad_line, printed}
use Rattle.printing.specs.Put.{put}
use Rattle.player.specs.declared.Player.{Player}
use Rattle.player.specs.Players.{start_bench, player_of, start_player, player_fits}
use Rattle.trace.specs.declared.FeedError.{FeedError}
use Rattle.trace.specs.declared.FeedError.TheVariants.{BadLine, Refused}
use Rattle.trace.specs.declared.Fed.{Fed}

-- ---- what a chunk puts out

-- the header stands before everything else
abbrev pub headed_by : ℕ → List ℕ
headed_by flag = pick (eqb flag 0) header []

abbrev pub headed : Player → List ℕ
headed p = headed_by p.headed

-- the bad line, where the text comes to it between the lines a and b in hand
unfoldable pub bad_line_between : Line → Line → List ℕ
bad_line_between a b = pick (is_stopped a) [] (pick (is_stopped b) (bad_line (b.whole + 1)) [])

abbrev pub bench_of : Player → Lent → PinBench
bench_of p m = bench_with p.device m

-- events are played by the rules of the device's own part. What is put out for them, as the lines from number n on:
-- Q after each
abbrev pub shown_events : ℕ → PinBench → List ℕ → List ℕ
shown_events n b es = printed n (played_q (device_part b.device) es b)

-- the device and what is lent to it after the lines that end in the bytes x, from the line l in hand on
unfoldable pub played_lines : Line → PinBench → List ℕ → PinBench
played_lines l b x = played (device_part b.device) (found l x) b

-- those lines, with Q after each
unfoldable pub shown_lines : Line → PinBench → List ℕ → List ℕ
shown_lines l b x = shown_events (l.whole + 1) b (found l x)

abbrev pub chunk_bench : Player → Lent → List ℕ → PinBench
chunk_bench p m x = played_lines p.line (bench_of p m) x

abbrev pub chunk_player : Player → Lent → List ℕ → Player
chunk_player p m x = player_of 1 (read p.line x) (chunk_bench p m x)

abbrev pub chunk_output : Player → Lent → List ℕ → List ℕ
chunk_output p m x = headed p ++ (shown_lines p.line (bench_of p m) x ++ bad_line_between p.line (read p.line x))

-- ---- the end of the text

abbrev pub end_player : Player → Player
end_player p = record { headed = 1; line = ended p.line; device = p.device }

abbrev pub end_output : Player → List ℕ
end_output p = headed p ++ bad_line_between p.line (ended p.line)

-- ---- answers

abbrev pub answer_of : Player → FeedReply
answer_of p = pick (is_stopped p.line) (Err BadLine) (Ok tt)

abbrev pub player_number : Player → ℕ
player_number p = pick (is_stopped p.line) 11 0

-- the output that n bytes of text ask for: the header, the bad line, and a good line for each byte
abbrev pub room : ℕ → ℕ
room n = 19 + 10 * n

-- 2 for a player outside its ranges, and 5 for an output with fewer bytes than asked for
abbrev pub end_choice : {A : Type 0} → Player → ℕ → ℕ → A → A → A → A
end_choice p asked bytes two five done = pick (player_fits p) (pick (leb asked bytes) done five) two

-- 1 before them
abbrev pub feed_choice : {A : Type 0} → Player → Lent → ℕ → ℕ → A → A → A → A → A
feed_choice p m asked bytes one two five done =
    pick (lent_fits (device_part p.device) (length m.memory) (length m.identification))
    (end_choice p asked bytes two five done) one

abbrev pub fed_to : FeedReply → Player → ℕ → Fed
fed_to a p n = record { answer = a; player = p; written = n }

abbrev pub refused_to : Refusal → Player → Fed
refused_to r p = fed_to (Err (Refused r)) p 0

-- of the line and the device in hand, the header out
abbrev pub fed_by : Line → Device → ℕ → Fed
fed_by l x n = let p : Player = record { headed = 1; line = l; device = x } in fed_to (answer_of p) p n

-- what a chunk x that is taken hands back
abbrev pub taken_by : Player → Lent → List ℕ → Fed
taken_by p m x = fed_to (answer_of (chunk_player p m x)) (chunk_player p m x) (length (chunk_output p m x))

-- a chunk x, with the memory and the identification page m and an output d, all lent
abbrev pub feed_answer : Player → Lent → List ℕ → List ℕ → Fed
feed_answer p m x d =
    feed_choice p m (room (length x)) (length d) (refused_to MemoryLength p) (refused_to RecordRange p)
    (refused_to OutputLength p) (taken_by p m x)

abbrev pub feed_number : Player → Lent → List ℕ → List ℕ → ℕ
feed_number p m x d = feed_choice p m (room (length x)) (length d) 1 2 5 (player_number (chunk_player p m x))

abbrev pub feed_memory : Player → Lent → List ℕ → List ℕ → List ℕ
feed_memory p m x d =
    feed_choice p m (room (length x)) (length d) m.memory m.memory m.memory (chunk_bench p m x).memory

abbrev pub feed_identification : Player → Lent → List ℕ → List ℕ → List ℕ
feed_identification p m x d =
    feed_choice p m (room (length x)) (length d) m.identification m.identification m.identification
    (chunk_bench p m x).identification

-- the output begins with what the chunk puts out, and is as it was after that
abbrev pub feed_output : Player → Lent → List ℕ → List ℕ → List ℕ
feed_output p m x d = feed_choice p m (room (length x)) (length d) d d d (put d 0 (chunk_output p m x))

-- the end of the text asks for the room of no byte
abbrev pub ended_by : Player → Fed
ended_by p = fed_to (answer_of (end_player p)) (end_player p) (length (end_output p))

abbrev pub end_answer : Player → List ℕ → Fed
end_answer p d =
    end_choice p (room 0) (length d) (refused_to RecordRange p) (refused_to OutputLength p) (ended_by p)

abbrev pub end_number : Player → List ℕ → ℕ
end_number p d = end_choice p (room 0) (length d) 2 5 (player_number (end_player p))

abbrev pub end_written : Player → List ℕ → List ℕ
end_written p d = end_choice p (room 0) (length d) d d (put d 0 (end_output p))

-- ---- a text in chunks: the player and what is lent to it after them, and all that they put out

pub record SoFar : Type 0 where
  pub player : Player
  pub cells : Lent
  pub output : List ℕ

abbrev pub after_chunk : SoFar → List ℕ → SoFar
after_chunk s x =
    record {
      player = chunk_player s.player s.cells x;
      cells = lent_to (chunk_bench s.player s.cells x);
      output = s.output ++ chunk_output s.player s.cells x;
    }

unfoldable pub after_chunks : SoFar → List (List ℕ) → SoFar
after_chunks s [] = s
after_chunks s (x ∷ xs) = after_chunks (after_chunk s x) xs

-- before the first chunk, on the part n
abbrev pub before_text : ℕ → SoFar
before_text n = record { player = start_player n; cells = lent_to (start_bench n); output = [] }

-- the chunks one after another are the text
unfoldable pub joined : List (List ℕ) → List ℕ
joined [] = []
joined (x ∷ xs) = x ++ joined xs

-- ---- the numbers that the chunks get, and last the end of the text; out x is the output that a chunk x is lent

unfoldable pub numbers_given : (List ℕ → List ℕ) → SoFar → List (List ℕ) → List ℕ
numbers_given out s [] = end_number s.player (out []) ∷ []
numbers_given out s (x ∷ xs) = feed_number s.player s.cells x (out x) ∷ numbers_given out (after_chunk s x) xs

unfoldable pub has11 : List ℕ → Bool
has11 [] = false
has11 (n ∷ ns) = eqb n 11 || has11 ns

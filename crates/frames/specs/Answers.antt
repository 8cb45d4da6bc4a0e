-- The public frame call, for every input: the refusals in their order, the answer, the record and the output.
use Rattle.std.specs.Prelude.{ℕ, Bool, List, length, eqb, leb, Err, Ok, Result}
use Rattle.laws.specs.Pick.{pick}
use Rattle.codes.specs.Part.{Part}
use Rattle.chip.specs.Records.{running, status, lock_byte}
use Rattle.chip.specs.Ranges.{in_ranges}
use Rattle.chip.specs.Time.{lent_fits}
use Rattle.chip.specs.declared.Core.{Core}
use Rattle.codes.specs.declared.Refusal.{Refusal}
use Rattle.codes.specs.declared.Refusal.TheVariants.{MemoryLength, RecordRange, FrameLength, BitCount, OutputLength}
use Rattle.codes.specs.Refusals.{Outcome, no_refusal, is_done}
use Rattle.fields.specs.Bytes.{instruction}
use Rattle.fields.specs.Counts.{bits_fit, longest_frame}
use Rattle.shown.specs.Shown.{sights, output, undriven}
use Rattle.chip.specs.declared.Answered.{Answered}
use Rattle.frames.specs.After.{after}

-- what stands for refusals 1, 2, 3, 4, 5, in that order, and for none; size is the memory's length, cells the
-- identification page's, len the slice's, room the output's
abbrev pub frame_choice : {A : Type 0} → Part → Core → ℕ → ℕ → ℕ → ℕ → ℕ → A → A → A → A → A → A → A
frame_choice P c size cells len n room one two three four five done =
    pick (lent_fits P size cells)
    (pick (in_ranges P c)
    (pick (leb len (longest_frame P))
    (pick (bits_fit len n)
    (pick (eqb room len) done
    five) four) three) two) one

abbrev pub frame_outcome : Part → Core → ℕ → ℕ → ℕ → ℕ → ℕ → Outcome
frame_outcome P c size cells len n room =
    frame_choice P c size cells len n room (Err MemoryLength) (Err RecordRange) (Err FrameLength)
    (Err BitCount) (Err OutputLength) no_refusal

-- the answer of a frame: how many leading bits were undriven, or the refusal
abbrev pub frame_reply : Outcome → ℕ → Result ℕ Refusal
frame_reply (Ok _) u = Ok u
frame_reply (Err r) u = Err r

-- what a frame hands back
abbrev pub Framed : Type 0
Framed = Answered ℕ Refusal

-- no time passes inside a frame: "no cycle" and the status are those of the record
unfoldable pub framed : Part → Core → List ℕ → List ℕ → Bool → List ℕ → ℕ → ℕ → Framed
framed P c m d w s n room =
    let o = frame_outcome P c (length m) (length d) (length s) n room in
    record {
      answer = frame_reply o (undriven P (instruction P s) (running c) n);
      core = pick (is_done o) (after P (running c) w c s n) c;
    }

unfoldable pub framed_output : Part → Core → List ℕ → List ℕ → List ℕ → ℕ → List ℕ → List ℕ
framed_output P c m d s n out =
    pick (is_done (frame_outcome P c (length m) (length d) (length s) n (length out)))
    (output P (running c) (sights (status c) (lock_byte c) m d) s n) out

-- the number of the answer, and its undriven count
abbrev pub frame_number : Part → Core → ℕ → ℕ → ℕ → ℕ → ℕ → ℕ
frame_number P c size cells len n room = frame_choice P c size cells len n room 1 2 3 4 5 0

abbrev pub frame_undriven : Part → Core → ℕ → ℕ → List ℕ → ℕ → ℕ → ℕ
frame_undriven P c size cells s n room =
    pick (is_done (frame_outcome P c size cells (length s) n room)) (undriven P (instruction P s) (running c) n) 0

-- Document 01's case h of the public call's promise: 300 bytes from address 100 on, an idle device as delivered, cycle length 5,000. It is computed
-- of the run's definition for the table of any 300 bytes, and every list of 300 bytes is one.
use Rattle.std.specs.Prelude.{Ok}
use Prim.Native.Nat.{ℕ}
use mathlib.Core.Bool.{true}
use mathlib.Core.List.{List, [], ◌∷◌}
use mathlib.Core.Path.{◌≡◌, refl, ap, sym, subst, ◌∙◌}
use lib.ListN.{length, get_or}
use Rattle.laws.specs.Pick.{pick}
use Rattle.laws.specs.Each.{each}
use Rattle.laws.specs.Table.{from, table, table_of}
use Rattle.laws.specs.Bits.{bit_on}
use Rattle.latch.specs.Latches.{zeros}
use Rattle.codes.specs.Part.{part_of}
use Rattle.codes.specs.Instructions.{decode}
use Rattle.codes.specs.Verdicts.{verdict_by}
use Rattle.codes.specs.Refusals.{Outcome, no_refusal}
use Rattle.chip.specs.Ranges.{in_ranges}
use Rattle.chip.specs.Records.{own_part}
use Rattle.chip.specs.Time.{timed}
use Rattle.chip.specs.Power.{delivered}
use Rattle.fields.specs.Bytes.{latched_from}
use Rattle.frames.specs.Play.{frame_bench}
use Rattle.split.specs.Split.{page_parts, count, edge, start, end, split_address, split_length}
use Rattle.split.specs.Pieces.{piece}
use Rattle.driver.specs.Answers.{RunReply, run_answer, run_reply, polls_fit, drive_outcome, driven}
use Rattle.sequence.specs.Sequence.{polls_on, first_wait, page_wait, page_acts, pages_from, Run, run}
use Rattle.sequence.specs.Counts.{page_polls}

-- the run, polled at an interval
abbrev run_h : List ℕ → List ℕ → List ℕ → ℕ → Run
run_h m i bytes interval = run (own_part (delivered 0)) interval 5001 100 bytes (frame_bench (delivered 0) m i)

-- the answer of the public call
abbrev answer_h : List ℕ → List ℕ → List ℕ → ℕ → RunReply
answer_h m i bytes interval = (driven (own_part (delivered 0)) (delivered 0) m i 100 bytes interval 5001).answer

pub record CaseH (m i bytes : List ℕ) : Type 0 where
  pub at_1000 : answer_h m i bytes 1000 ≡ Ok (record { pages = 4; frames = 29 })
  -- the first poll, and for each of four pages WREN, WRITE and 8 polls
  pub at_700 : answer_h m i bytes 700 ≡ Ok (record { pages = 4; frames = 41 })
  pub polls_700 : page_polls (run_h m i bytes 700).acts ≡ 8 ∷ 8 ∷ 8 ∷ 8 ∷ []

record Computed (m i bytes : List ℕ) : Type 0 where
  at_1000 : run_answer (run_h m i bytes 1000) ≡ Ok (record { pages = 4; frames = 29 })
  at_700 : run_answer (run_h m i bytes 700) ≡ Ok (record { pages = 4; frames = 41 })
  polls_700 : page_polls (run_h m i bytes 700).acts ≡ 8 ∷ 8 ∷ 8 ∷ 8 ∷ []

computed : (m i : List ℕ) (f : ℕ → ℕ) → Computed m i (table 300 f)
unfolding part_of table from run pages_from page_acts page_wait first_wait polls_on pick decode verdict_by timed zeros latched_from page_parts count edge start
    end split_address split_length piece
computed m i f = record { at_1000 = refl; at_700 = refl; polls_700 = refl }

-- the run is not refused, so the answer is its own
not_refused : (interval size cells len : ℕ) → size ≡ (own_part (delivered 0)).size → cells ≡ (own_part (delivered 0)).page → len ≡ 300
    → polls_fit (own_part (delivered 0)) interval 5001 ≡ true → drive_outcome (own_part (delivered 0)) (delivered 0) size cells 100 len interval 5001 ≡ no_refusal
unfolding part_of pick in_ranges each zeros bit_on
not_refused interval size cells len s q e p = rw (s, q, e, p) refl

answers : (m i bytes : List ℕ) (interval : ℕ) → length m ≡ (own_part (delivered 0)).size → length i ≡ (own_part (delivered 0)).page → length bytes ≡ 300
    → polls_fit (own_part (delivered 0)) interval 5001 ≡ true → answer_h m i bytes interval ≡ run_answer (run_h m i bytes interval)
unfolding driven
answers m i bytes interval s q e p =
    ap (λ (o : Outcome). run_reply o (run_h m i bytes interval)) (not_refused interval (length m) (length i) (length bytes) s q e p)

pub case_h : (m i bytes : List ℕ) → length m ≡ (own_part (delivered 0)).size → length i ≡ (own_part (delivered 0)).page → length bytes ≡ 300 → CaseH m i bytes
unfolding part_of pick
case_h m i bytes s q e =
    let tabled : bytes ≡ table 300 (λ j. get_or bytes j 0) = table_of bytes 0 ∙ ap (λ (n : ℕ). table n (λ j. get_or bytes j 0)) e in
    let x : Computed m i bytes = subst (Computed m i) (sym tabled) (computed m i (λ j. get_or bytes j 0)) in
    record {
      at_1000 = answers m i bytes 1000 s q e refl ∙ x.at_1000;
      at_700 = answers m i bytes 700 s q e refl ∙ x.at_700;
      polls_700 = x.polls_700;
    }

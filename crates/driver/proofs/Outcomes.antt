-- What it says of an input that it is not refused, document 01's number and counts of each answer, and what is handed back.
use Rattle.std.specs.Prelude.{Err}
use Rattle.std.proofs.Common.{◌≡◌, ℕ, ◌+◌, ◌≤◌, leb, List, length, sym, refl, ap, ◌∙◌, leb-true}
use Rattle.laws.specs.Pick.{pick, pick_ap, pick_cong}
use Rattle.laws.specs.And.{and_4_out}
use Rattle.codes.specs.Part.{Part}
use Rattle.chip.specs.Ranges.{in_ranges}
use Rattle.chip.specs.Time.{lent_fits}
use Rattle.chip.proofs.Readings.{lent_memory, lent_identification}
use Rattle.chip.specs.declared.Core.{Core}
use Rattle.codes.specs.declared.Refusal.{Refusal}
use Rattle.codes.specs.declared.Refusal.TheVariants.{MemoryLength, RecordRange, AddressRange, PollRange}
use Rattle.codes.specs.Refusals.{Outcome, no_refusal}
use Rattle.frames.proofs.Outcomes.{not_refused}
use Rattle.frames.specs.Play.{FrameBench, frame_bench}
use Rattle.sequence.specs.Ready.{Ready}
use Rattle.driver.specs.declared.Sent.{Sent}
use Rattle.driver.specs.declared.RunError.TheVariants.{Refused}
use Rattle.driver.specs.Answers.{RunReply, Driven}
use Rattle.sequence.specs.Sequence.{Ending, all_done, timed_out, protected, ending_number, Run, run}
use Rattle.driver.specs.Answers.{run_reply_number, run_reply_pages, run_reply_frames, ending_answer, run_answer, polls_fit}
use Rattle.driver.specs.Answers.{drive_choice, drive_outcome, drive_number, drive_pages, drive_frames, run_reply}
use Rattle.driver.specs.Answers.{LimitFits, Drove, driven, driven_memory, driven_identification}

pub record Taken (P : Part) (d : FrameBench) (a len interval limit : ℕ) : Type 0 where
  pub ready : Ready P d
  pub inside : a + len ≤ P.size
  pub interval_some : 1 ≤ interval
  pub interval_most : interval ≤ P.longest
  pub limits : LimitFits P limit

module _ (P : Part) (c : Core) (m i : List ℕ) (a len interval limit : ℕ) where
  pub taken : {o : Outcome} → o ≡ drive_outcome P c (length m) (length i) a len interval limit → o ≡ no_refusal
      → Taken P (frame_bench c m i) a len interval limit
  taken found done =
      let memory = not_refused _ _ MemoryLength (sym found ∙ done) in
      let ranges = not_refused _ _ RecordRange memory.1 in
      let address = not_refused _ _ AddressRange ranges.1 in
      let polls = not_refused _ _ PollRange address.1 in
      let four = and_4_out (leb 1 interval) (leb interval P.longest) (leb 1 limit) (leb limit (P.longest + 1)) polls.0 in
      record {
        ready = record { whole = lent_memory P _ _ memory.0; page = lent_identification P _ _ memory.0; ranges = ranges.0 };
        inside = leb-true _ _ address.0;
        interval_some = leb-true _ _ four.0;
        interval_most = leb-true _ _ four.1.0;
        limits = (leb-true _ _ four.1.1.0, leb-true _ _ four.1.1.1);
      }

-- ---- the number and the counts

ending_number_law : (e : Ending) (s : Sent) → run_reply_number (ending_answer e s) ≡ ending_number e
ending_number_law all_done s = refl
ending_number_law timed_out s = refl
ending_number_law protected s = refl

ending_pages : (e : Ending) (s : Sent) → run_reply_pages (ending_answer e s) ≡ s.pages
ending_pages all_done s = refl
ending_pages timed_out s = refl
ending_pages protected s = refl

ending_frames : (e : Ending) (s : Sent) → run_reply_frames (ending_answer e s) ≡ s.frames
ending_frames all_done s = refl
ending_frames timed_out s = refl
ending_frames protected s = refl

module _ (P : Part) (c : Core) (size cells a len interval limit : ℕ) (r : Run) where
  -- a function of the answer, taken past its four refusals
  pub drive_by : (f : RunReply → ℕ) {n : ℕ} → f (run_answer r) ≡ n
      → f (run_reply (drive_outcome P c size cells a len interval limit) r)
      ≡ drive_choice P c size cells a len interval limit (f (Err (Refused MemoryLength))) (f (Err (Refused RecordRange))) (f (Err (Refused AddressRange)))
      (f (Err (Refused PollRange))) n
  drive_by f e =
      let of : Outcome → ℕ = λ o. f (run_reply o r) in
      pick_ap of (lent_fits P size cells) _ _
      ∙ pick_cong (lent_fits P size cells) (f (Err (Refused MemoryLength))) (λ m. pick_ap of (in_ranges P c) _ _
      ∙ pick_cong (in_ranges P c) (f (Err (Refused RecordRange))) (λ n. pick_ap of (leb (a + len) P.size) _ _
      ∙ pick_cong (leb (a + len) P.size) (f (Err (Refused AddressRange))) (λ i. pick_ap of (polls_fit P interval limit) _ _
      ∙ pick_cong (polls_fit P interval limit) (f (Err (Refused PollRange))) (λ p. e))))

-- ---- what is handed back, and left in the memory and in the identification page: a run that is taken, and one that is refused

module _ (P : Part) (c : Core) (m i : List ℕ) (a : ℕ) (bytes : List ℕ) (interval limit : ℕ) where
  abbrev began : FrameBench
  began = frame_bench c m i

  abbrev whole : Run
  whole = run P interval limit a bytes began

  abbrev pub HandsBack : Driven → List ℕ → List ℕ → Type 0
  HandsBack r m' i' =
      record {
        value : r ≡ driven P c m i a bytes interval limit;
        as_number : run_reply_number r.answer ≡ drive_number P c (length m) (length i) a (length bytes) interval limit whole.ending;
        as_pages : run_reply_pages r.answer ≡ drive_pages P c m i a bytes interval limit;
        as_frames : run_reply_frames r.answer ≡ drive_frames P c m i a bytes interval limit;
        memory_after : m' ≡ driven_memory P c m i a bytes interval limit;
        identification_after : i' ≡ driven_identification P c m i a bytes interval limit;
      }

  by : (f : RunReply → ℕ) {n : ℕ} (o : Outcome) → drive_outcome P c (length m) (length i) a (length bytes) interval limit ≡ o → f (run_answer whole) ≡ n
      → f (run_reply o whole)
      ≡ drive_choice P c (length m) (length i) a (length bytes) interval limit
      (f (Err (Refused MemoryLength))) (f (Err (Refused RecordRange))) (f (Err (Refused AddressRange))) (f (Err (Refused PollRange))) n
  by f o e h = ap (λ (x : Outcome). f (run_reply x whole)) (sym e) ∙ drive_by P c (length m) (length i) a (length bytes) interval limit whole f h

  numbers : (o : Outcome) → drive_outcome P c (length m) (length i) a (length bytes) interval limit ≡ o
      → run_reply_number (run_reply o whole) ≡ drive_number P c (length m) (length i) a (length bytes) interval limit whole.ending
  numbers o e = by run_reply_number o e (ending_number_law whole.ending _)

  pages : (o : Outcome) → drive_outcome P c (length m) (length i) a (length bytes) interval limit ≡ o
      → run_reply_pages (run_reply o whole) ≡ drive_pages P c m i a bytes interval limit
  pages o e = by run_reply_pages o e (ending_pages whole.ending _)

  frames : (o : Outcome) → drive_outcome P c (length m) (length i) a (length bytes) interval limit ≡ o
      → run_reply_frames (run_reply o whole) ≡ drive_frames P c m i a bytes interval limit
  frames o e = by run_reply_frames o e (ending_frames whole.ending _)

  pub drove : (r : Driven) (m' i' : List ℕ) {o : Outcome} → o ≡ drive_outcome P c (length m) (length i) a (length bytes) interval limit → o ≡ no_refusal
      → Drove P run_answer (run P interval limit a bytes) began r m' i' → HandsBack r m' i'
  unfolding driven driven_memory driven_identification pick
  drove r m' i' found done told =
      let e = sym found ∙ done in
      rw (told.0, told.1.0, told.1.1)
      (record {
        value = rw e;
        as_number = numbers no_refusal e;
        as_pages = pages no_refusal e;
        as_frames = frames no_refusal e;
        memory_after = rw e;
        identification_after = rw e;
      })

  pub refused : (n : Refusal) {o : Outcome} → o ≡ drive_outcome P c (length m) (length i) a (length bytes) interval limit → o ≡ Err n
      → HandsBack (record { answer = Err (Refused n); core = c }) m i
  unfolding driven driven_memory driven_identification pick
  refused n found refuses =
      let e = sym found ∙ refuses in
      record {
        value = rw e;
        as_number = numbers (Err n) e;
        as_pages = pages (Err n) e;
        as_frames = frames (Err n) e;
        memory_after = rw e;
        identification_after = rw e;
      }

-- The page parts when they end: what is handed back, and what is left in the memory and in the identification page.
use Rattle.std.specs.Prelude.{Ok, Err}
use Rattle.std.proofs.Common.{◌≡◌, ℕ, suc, ◌+◌, ◌-◌, ◌<◌, Bool, true, false, List, [], length, sym, refl, ap, ◌∙◌, subst, ap₂, arith}
use Rattle.codes.specs.Part.{Part}
use Rattle.codes.specs.Status.{on, bit_of}
use Rattle.chip.specs.Records.{own_part, running}
use Rattle.split.specs.Split.{count}
use Rattle.frames.specs.Play.{Act, FrameBench, acted_all, frame_bench}
use Rattle.sequence.specs.Sequence.{sent, Ending, all_done, timed_out, Run, stopped, pages_from, all_parts}
use Rattle.sequence.proofs.Seen.{seen_wip}
use Rattle.sequence.proofs.Runs.{part_acts, pages_late, pages_none, Rest, rest_next}
use Rattle.driver.specs.declared.RunError.TheVariants.{TimedOut}
use Rattle.driver.specs.declared.waiting.Waited.{Waited}
use Rattle.driver.specs.Answers.{RunReply, ending_answer, parts_answer, Drove}
use Rattle.driver.specs.Told.{Told}
use Rattle.driver.proofs.Left.{Left, left}

-- k parts done of all, and so many frames sent: it ends
module _ (P : Part) (i limit a : ℕ) (bytes : List ℕ) (parts before : ℕ) (d₀ : FrameBench) where
  abbrev whole : Run
  whole = pages_from P i limit a bytes parts 0 d₀

  rest_ends : (k frames n : ℕ) (d y : FrameBench) (acts : List Act) (e : Ending) → parts ≡ count P.size P.page a (length bytes)
      → pages_from P i limit a bytes (parts - k) k d ≡ stopped acts e → y ≡ acted_all P acts d → n ≡ frames + sent acts
      → Rest P i limit a bytes parts before d₀ k frames d
      → Drove P (parts_answer before) (all_parts P i limit a bytes) d₀ (record { answer = ending_answer e (record { pages = k; frames = n }); core = y.core })
      y.memory y.identification
  rest_ends k frames n d y acts e all there last counted o =
      let ends : e ≡ whole.ending = sym (ap (λ (q : Run). q.ending) there) ∙ o.ending in
      let pages : k ≡ whole.pages = omega (arith, ap (λ (q : Run). q.pages) there, o.pages) in
      let counts : n ≡ before + sent whole.acts = omega (arith, ap (λ (q : Run). sent q.acts) there, o.counts) in
      let leaves : y ≡ acted_all P whole.acts d₀ = last ∙ sym (ap (λ (q : Run). acted_all P q.acts d) there) ∙ o.leaves in
      let answer : ending_answer e (record { pages = k; frames = n }) ≡ parts_answer before whole =
      ap (λ (z : Ending). ending_answer z (record { pages = k; frames = n })) ends
      ∙ ap₂ (λ (z u : ℕ). ending_answer whole.ending (record { pages = z; frames = u })) pages counts in
      subst
      (λ (z : ℕ). Drove P (parts_answer before) (pages_from P i limit a bytes z 0) d₀
      (record { answer = ending_answer e (record { pages = k; frames = n }); core = y.core }) y.memory y.identification)
      all (
        ap₂ (λ (x : RunReply) (z : FrameBench). record { answer = x; core = z.core }) answer leaves,
        (ap (λ (z : FrameBench). z.memory) leaves, ap (λ (z : FrameBench). z.identification) leaves),
      )

module _ {P : Part} {i limit a : ℕ} {bytes : List ℕ} {parts before : ℕ} {d₀ : FrameBench} {k frames : ℕ} {d : FrameBench}
    (o : Rest P i limit a bytes parts before d₀ k frames d) where
  -- by what the last poll of a page shows ..
  module _ {w : Waited} {m p : List ℕ} (more : k < parts) (left : Left P (part_acts P i limit a bytes k d) d w m p) where
    runs : {b : Bool} → on (bit_of 0 w.status) ≡ b → running w.core ≡ b
    runs e = sym (seen_wip w.status w.core left.told.1.0) ∙ e

    pub rest_on : on (bit_of 0 w.status) ≡ false → Rest P i limit a bytes parts before d₀ (k + 1) (frames + w.frames) (frame_bench w.core m p)
    rest_on idle =
        rest_next P i limit a bytes parts before d₀ k frames w.frames d (frame_bench w.core m p) more left.leaves left.told.1.1.0 (runs idle) o

    pub rest_late : on (bit_of 0 w.status) ≡ true → parts ≡ count P.size P.page a (length bytes)
        → Drove P (parts_answer before) (all_parts P i limit a bytes) d₀
        (record { answer = Err (TimedOut (record { pages = k; frames = frames + w.frames })); core = w.core }) m p
    rest_late late all =
        let one : parts - k ≡ suc (parts - (k + 1)) = omega arith in
        rest_ends P i limit a bytes parts before d₀ k frames (frames + w.frames) d (frame_bench w.core m p) (part_acts P i limit a bytes k d) timed_out all
        (ap (λ (n : ℕ). pages_from P i limit a bytes n k d) one
        ∙ pages_late P i limit a bytes (parts - (k + 1)) k d (sym (ap (λ (y : FrameBench). running y.core) left.leaves) ∙ runs late))
        left.leaves (ap (λ (n : ℕ). frames + n) left.told.1.1.0) o

  -- .. or with no part left
  pub rest_done : k ≡ parts → parts ≡ count P.size P.page a (length bytes)
      → Drove P (parts_answer before) (all_parts P i limit a bytes) d₀
      (record { answer = Ok (record { pages = parts; frames = frames }); core = d.core }) d.memory d.identification
  rest_done h all =
      subst
      (λ (n : ℕ). Drove P (parts_answer before) (all_parts P i limit a bytes) d₀
      (record { answer = Ok (record { pages = n; frames = frames }); core = d.core }) d.memory d.identification)
      h
      (rest_ends P i limit a bytes parts before d₀ k frames frames d d [] all_done all (pages_none P i limit a bytes (parts - k) k d (omega arith)) refl
      (omega arith) o)

-- what a part leaves that was written at its record's own part, which is P
pub part_left : (P : Part) (i limit a : ℕ) (bytes : List ℕ) (k : ℕ) (d : FrameBench) (r : Waited) (m p : List ℕ) → own_part d.core ≡ P
    → Told (own_part d.core) (part_acts (own_part d.core) i limit a bytes k d) d r m p
    → Left P (part_acts P i limit a bytes k d) d r m p
part_left P i limit a bytes k d r m p same t =
    left P (part_acts P i limit a bytes k d) d r m p same
    (subst (λ (Q : Part). Told Q (part_acts Q i limit a bytes k d) d r m p) same t)

-- A turn of the run: the ways that a page ends, and what is left to do after it.
use mathlib.Core.Path.{◌≡◌, refl, ap, sym, ◌∙◌}
use mathlib.Core.Bool.{true, false}
use mathlib.Core.List.{List, []}
use Prim.Native.Nat.{ℕ, suc, ◌+◌, ◌-◌, ◌<◌, ◌≤◌}
use native.Mathlib.Decide.{dec_le}
use native.Mathlib.Omega.{arith}
use lib.ListN.{length}
use Rattle.laws.specs.Pick.{at_yes, at_no}
use Rattle.codes.specs.Part.{Part, pages, part_of}
use Rattle.chip.specs.Records.{running}
use Rattle.codes.proofs.Parts.{of_each}
use Rattle.codes.proofs.Sound.{Sound}
use Rattle.codes.proofs.Starts.{page_of_memory}
use Rattle.split.specs.Split.{count, split_address}
use Rattle.split.specs.Pieces.{piece}
use Rattle.split.proofs.Parts.{there}
use Rattle.split.proofs.Numbers.{count_formula}
use Rattle.frames.specs.Play.{Act, FrameBench, acted_all}
use Rattle.sequence.specs.Sequence.{sent, page_acts, all_done, timed_out, Run, stopped, page_done, pages_from}
use Rattle.sequence.proofs.Playing.{acted_all_append, sent_append}

module _ (P : Part) (i limit a : ℕ) (bytes : List ℕ) where
  -- part k's acts, and the device after them
  abbrev pub part_acts : ℕ → FrameBench → List Act
  part_acts k d = page_acts P i limit (split_address P.size P.page a (length bytes) k) (piece P.size P.page a bytes k) d

  abbrev pub after_part : ℕ → FrameBench → FrameBench
  after_part k d = acted_all P (part_acts k d) d

  -- ---- the ways that a page ends

  module _ (n k : ℕ) (d : FrameBench) where
    pub pages_late : running (after_part k d).core ≡ true → pages_from P i limit a bytes (suc n) k d ≡ stopped (part_acts k d) timed_out
    unfolding pages_from
    pages_late r = at_yes _ _ r

    pub pages_next : running (after_part k d).core ≡ false
        → pages_from P i limit a bytes (suc n) k d ≡ page_done (part_acts k d) (pages_from P i limit a bytes n (suc k) (after_part k d))
    unfolding pages_from
    pages_next r = at_no _ _ r

  pub pages_none : (n k : ℕ) (d : FrameBench) → n ≡ 0 → pages_from P i limit a bytes n k d ≡ stopped [] all_done
  unfolding pages_from
  pages_none n k d e = rw e refl

  -- ---- the loop: k parts done of all, and so many frames sent

  module _ (parts before : ℕ) (d₀ : FrameBench) where
    abbrev whole : Run
    whole = pages_from P i limit a bytes parts 0 d₀

    abbrev rest : ℕ → FrameBench → Run
    rest k d = pages_from P i limit a bytes (parts - k) k d

    -- what is left to do is what there was to do from d₀ on
    pub record Rest (k frames : ℕ) (d : FrameBench) : Type 0 where
      pub leaves : acted_all P (rest k d).acts d ≡ acted_all P whole.acts d₀
      pub pages : k + (rest k d).pages ≡ whole.pages
      pub counts : frames + sent (rest k d).acts ≡ before + sent whole.acts
      pub ending : (rest k d).ending ≡ whole.ending

    pub rest_first : Rest 0 before d₀
    rest_first =
        let all : parts - 0 ≡ parts = omega arith in
        let same : rest 0 d₀ ≡ whole = ap (λ (n : ℕ). pages_from P i limit a bytes n 0 d₀) all in
        record {
          leaves = ap (λ (r : Run). acted_all P r.acts d₀) same;
          pages = rw same (omega arith);
          counts = rw same;
          ending = rw same;
        }

    -- a page is done
    pub rest_next : (k frames f : ℕ) (d x : FrameBench) → k < parts → x ≡ after_part k d → f ≡ sent (part_acts k d)
        → running x.core ≡ false → Rest k frames d → Rest (k + 1) (frames + f) x
    rest_next k frames f d x h e g r o =
        let one : parts - k ≡ suc (parts - (k + 1)) = omega arith in
        let up : suc k ≡ k + 1 = omega arith in
        let there : rest k d ≡ page_done (part_acts k d) (rest (k + 1) x) =
        ap (λ (n : ℕ). pages_from P i limit a bytes n k d) one
        ∙ pages_next (parts - (k + 1)) k d (sym (ap (λ (y : FrameBench). running y.core) e) ∙ r)
        ∙ rw (up, e) in
        record {
          leaves =
              ap (λ (y : FrameBench). acted_all P (rest (k + 1) x).acts y) e
              ∙ sym (acted_all_append P (part_acts k d) (rest (k + 1) x).acts d)
              ∙ sym (ap (λ (q : Run). acted_all P q.acts d) there)
              ∙ o.leaves;
          pages = omega (arith, ap (λ (q : Run). q.pages) there, o.pages);
          counts = omega (arith, g, ap (λ (q : Run). sent q.acts) there, sent_append (part_acts k d) (rest (k + 1) x).acts, o.counts);
          ending = sym (ap (λ (q : Run). q.ending) there) ∙ o.ending;
        }

-- each row has 512 pages
pub pages_few : (n : ℕ) → pages (part_of n) ≡ 512
pages_few n = of_each (λ (P : Part). pages P ≡ 512) n refl refl refl

-- a run has at most as many parts as the memory has pages
pub parts_few : (P : Part) (sound : Sound P) (a n : ℕ) → count P.size P.page a n ≤ pages P
parts_few P sound a n = elim (dec_le 1 (count P.size P.page a n)) [
  | yes h ↦
      let t = there P.size P.page a n h in
      let last = page_of_memory sound (a + n - 1) (omega (arith, t.inside, t.some)) in
      omega (arith, count_formula P.size P.page a n t.inside t.some)
  | no h ↦ omega arith
]

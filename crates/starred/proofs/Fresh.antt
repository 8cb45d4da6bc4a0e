-- The number of blank cells that the end of a page cycle leaves of a memory with every byte FFh: by the cells of the page alone, so that it can be computed.
use Prim.Native.Nat.{ℕ, ◌+◌, ◌-◌, ◌*◌, ◌≤◌}
use mathlib.Core.Bool.{true}
use mathlib.Core.List.{List}
use mathlib.Core.Path.{◌≡◌, ap, ap₂, sym, ◌∙◌}
use native.Mathlib.Nat.{add-sub_cancel_left}
use native.Mathlib.Omega.{arith}
use lib.ListN.{length, take, drop, replicate, length-drop, length-replicate, get_or-replicate}
use lib.Seq.{length-take-le, get_or-take, get_or-drop}
use lib.Dec.{eqb}
use borrow.Author.Tests.{le-leb, eq-eqb}
use Rattle.laws.specs.Pick.{at_yes}
use Rattle.laws.specs.Count.{count, count_cong, count_all}
use Rattle.codes.specs.Part.{Part}
use Rattle.latch.specs.Latches.{laid_at, stored}
use Rattle.latch.specs.declared.Latch.{Latch}
use Rattle.latch.proofs.Stores.{stored_at_law, stored_length, in_page_law}
use Rattle.blanks.specs.Blanks.{blank_at, blanks_in, held_within, recounted}
use Rattle.blanks.proofs.Blanking.{page_recounted}
use Rattle.chip.specs.Records.{waits_page}
use Rattle.chip.specs.Time.{ends, timed_blank}
use Rattle.chip.specs.declared.Core.{Core}

module _ (P : Part) (p k : ℕ) (fits : p * P.page + P.page ≤ k) where
  on_page : (m : List ℕ) → length m ≡ k → blanks_in P p m ≡ count (λ i. blank_at m (p * P.page + i)) P.page
  on_page m e =
      let page = take P.page (drop (p * P.page) m) in
      let long : length page ≡ P.page = length-take-le P.page (drop (p * P.page) m) (simp length-drop (omega arith)) in
      let inside : p * P.page + P.page ≤ length m = omega arith in
      at_yes _ _ (le-leb _ _ inside)
      ∙ ap (count (blank_at page)) long
      ∙ count_cong (blank_at page) (λ i. blank_at m (p * P.page + i)) P.page
      (λ i h. ap (λ (x : ℕ). eqb x 0xff) (get_or-take P.page (drop (p * P.page) m) i 0 h ∙ get_or-drop (p * P.page) m i 0))

  abbrev fresh : List ℕ
  fresh = replicate k 0xff

  abbrev first : ℕ
  first = p * P.page

  all : blanks_in P p fresh ≡ P.page
  all =
      on_page fresh (length-replicate {A = ℕ} k 0xff)
      ∙ count_all (λ i. blank_at fresh (first + i)) P.page (λ i h. eq-eqb _ _ (get_or-replicate {A = ℕ} k (first + i) 0xff 0 (omega arith)))

  abbrev pub fresh_blanks : Latch → ℕ
  fresh_blanks l = count (λ i. eqb (laid_at l i 0xff) 0xff) P.page

  left : (l : Latch) → blanks_in P p (stored P p l fresh) ≡ fresh_blanks l
  left l =
      let whole : length fresh ≡ k = length-replicate {A = ℕ} k 0xff in
      let inside : p * P.page + P.page ≤ length fresh = omega (arith, whole, fits) in
      on_page (stored P p l fresh) (stored_length P p l fresh ∙ whole)
      ∙ count_cong (λ i. blank_at (stored P p l fresh) (first + i)) (λ i. eqb (laid_at l i 0xff) 0xff) P.page
      (λ i h. ap (λ (x : ℕ). eqb x 0xff)
      (stored_at_law P p l fresh inside (first + i) (omega (arith, whole))
      ∙ at_yes _ _ (in_page_law P p (first + i) (omega arith) (omega arith))
      ∙ ap₂ (laid_at l) (add-sub_cancel_left first i) (get_or-replicate {A = ℕ} k (first + i) 0xff 0 (omega arith))))

pub fresh_blank : (P : Part) (n k t : ℕ) (c : Core) → ends t c ≡ true → waits_page c.waits ≡ true
    → (fits : c.waits.page * P.page + P.page ≤ k)
    → held_within P.size (c.blank + fresh_blanks P c.waits.page k fits c.waits.latch - P.page) ≡ n
    → timed_blank P t c (replicate k 0xff) ≡ n
unfolding timed_blank
fresh_blank P n k t c e w fits h =
    let p = c.waits.page in
    at_yes _ _ e
    ∙ at_yes _ _ w
    ∙ ap (recounted P c.blank (replicate k 0xff)) (at_yes _ _ w)
    ∙ sym (page_recounted P p c.waits.latch (replicate k 0xff) c.blank)
    ∙ ap₂ (λ (x y : ℕ). held_within P.size (c.blank + x - y)) (left P p k fits c.waits.latch) (all P p k fits)
    ∙ h

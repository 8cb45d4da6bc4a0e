-- The next cell of a page stays in it, and protection is by whole pages: by division by the page's size.
use Prim.Native.Nat.{ℕ, suc, ◌+◌, ◌*◌, ◌/◌, ◌%◌, ◌≤◌}
use mathlib.Core.Bool.{Bool, true, false}
use mathlib.Core.Path.{◌≡◌, sym, ap, ◌∙◌, subst}
use lib.Dec.{leb}
use native.Mathlib.Omega.{arith}
use native.Mathlib.Nat.{mod-add-mod, mod-mod, mul-add-mod_self_right, mul-add-div_right, div-eq_of_lt, mod-lt, le-div_iff_mul-le, mul_assoc}
use Rattle.laws.specs.Pick.{pick}
use Rattle.codes.specs.Part.{Part}
use Rattle.codes.specs.Status.{on}
use Rattle.latch.specs.Latches.{next_cell}
use Rattle.codes.specs.Protect.{lowest_protected}
use Rattle.chip.specs.Questions.{protects}
use Rattle.chip.specs.declared.Core.{Core}
use Rattle.codes.proofs.Sound.{Sound}
use Rattle.agree.proofs.Facts.{leb_cong}

module _ (P : Part) (sound : Sound P) where
  -- cell i of page b
  abbrev pub cell : ℕ → ℕ → ℕ
  cell b i = b * P.page + i % P.page

  pub cell_mod : (b i : ℕ) → cell b i % P.page ≡ i % P.page
  cell_mod b i = mul-add-mod_self_right b P.page (i % P.page) ∙ mod-mod i P.page

  pub cell_div : (b i : ℕ) → cell b i / P.page ≡ b
  cell_div b i =
      mul-add-div_right sound.page_some b (i % P.page)
      ∙ ap (λ y. b + y) (div-eq_of_lt (mod-lt i sound.page_some))
      ∙ omega arith

  pub cell_next : (b i : ℕ) → cell b i / P.page * P.page + next_cell P (cell b i) ≡ cell b (suc i)
  cell_next b i = rw (cell_div b i, cell_mod b i, mod-add-mod i P.page 1) (ap (λ y. b * P.page + y % P.page) (omega arith))

  -- a bound at the start of a page
  page_leb : (t x y : ℕ) → x / P.page ≡ y / P.page → leb (t * P.page) x ≡ leb (t * P.page) y
  page_leb t x y e =
      leb_cong (t * P.page) x (t * P.page) y
      (λ h. (le-div_iff_mul-le sound.page_some).0 (subst (λ d. t ≤ d) e ((le-div_iff_mul-le sound.page_some).1 h)))
      (λ h. (le-div_iff_mul-le sound.page_some).0 (subst (λ d. t ≤ d) (sym e) ((le-div_iff_mul-le sound.page_some).1 h)))

  -- each bound of protection is one
  bound : (a b : Bool) → (t : ℕ) × (lowest_protected P a b ≡ t * P.page)
  unfolding pick
  bound false false = (4 * sound.quarter, sound.quarters ∙ sym (mul_assoc 4 sound.quarter P.page))
  bound false true = (3 * sound.quarter, ap (λ s. s / 4 * 3) sound.quarters ∙ omega arith)
  bound true false = (2 * sound.quarter, ap (λ s. s / 2) sound.quarters ∙ omega arith)
  bound true true = (0, omega arith)

  pub same_page : (c : Core) (x y : ℕ) → x / P.page ≡ y / P.page → protects P c x ≡ protects P c y
  same_page c x y e =
      let b = bound (on c.bp1) (on c.bp0) in
      ap (λ l. leb l x) b.1 ∙ page_leb b.0 x y e ∙ ap (λ l. leb l y) (sym b.1)

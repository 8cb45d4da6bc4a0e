-- The next address within a page: its page and its cell, and that it picks the lock or the identification page as before.
use Prim.Native.Nat.{ℕ, ◌+◌, ◌*◌, ◌/◌, ◌%◌, ◌<◌}
use mathlib.Core.Path.{◌≡◌, ap, ◌∙◌}
use native.Mathlib.Nat.{add-zero, mod-lt, mod-eq_of_lt, mul-add-div_right, mul-add-mod_self_right, div-eq_of_lt}
use Rattle.codes.specs.Part.{Part}
use Rattle.codes.specs.Instructions.{picks_lock}
use Rattle.codes.proofs.Sound.{Sound}
use Rattle.codes.proofs.Starts.{picks_page}
use Rattle.latch.specs.Latches.{next_cell, next_in_page}

-- the address of cell c of page p
module _ {P : Part} (sound : Sound P) (p c : ℕ) (below : c < P.page) where
  pub page_at : (p * P.page + c) / P.page ≡ p
  page_at = mul-add-div_right sound.page_some p c ∙ ap (λ (n : ℕ). p + n) (div-eq_of_lt below) ∙ add-zero p

  pub cell_at : (p * P.page + c) % P.page ≡ c
  cell_at = mul-add-mod_self_right p P.page c ∙ mod-eq_of_lt below

module _ {P : Part} (sound : Sound P) (a : ℕ) where
  next_below : next_cell P a < P.page
  next_below = mod-lt (a % P.page + 1) sound.page_some

  pub next_page : next_in_page P a / P.page ≡ a / P.page
  next_page = page_at sound (a / P.page) (next_cell P a) next_below

  pub next_cell_law : next_in_page P a % P.page ≡ next_cell P a
  next_cell_law = cell_at sound (a / P.page) (next_cell P a) next_below

  pub picks_next : picks_lock (next_in_page P a) ≡ picks_lock a
  picks_next = picks_page sound (next_in_page P a) a next_page

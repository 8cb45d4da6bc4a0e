-- The first cell of an address's page and where it lies: omega cannot divide by a variable page, and with these bounds need not.
use Prim.Native.Nat.{ℕ, ◌+◌, ◌*◌, ◌/◌, ◌%◌, ◌^◌, ◌<◌, ◌≤◌}
use mathlib.Core.Path.{◌≡◌, sym, ap, ◌∙◌}
use native.Mathlib.Nat.{div-mul-le_self, lt-div-mul-add, div-add-mod, mul_comm, add-mul, mul-le-mul_right, div-lt_iff_lt-mul, div-div-eq-div-mul}
use native.Mathlib.Omega.{arith}
use Rattle.codes.specs.Part.{Part, pages}
use Rattle.codes.specs.Instructions.{picks_lock}
use Rattle.codes.specs.Status.{on}
use Rattle.codes.proofs.Sound.{Sound}

pub record Start (page a : ℕ) : Type 0 where
  pub below : a / page * page ≤ a
  pub above : a < a / page * page + page
  -- and the remainder is the rest
  pub rest : a / page * page + a % page ≡ a

pub start_of : {P : Part} → Sound P → (a : ℕ) → Start P.page a
start_of {P} s a =
    record {
      below = div-mul-le_self a P.page;
      above = lt-div-mul-add {a = a} s.page_some;
      rest = omega (arith, div-add-mod a P.page, mul_comm P.page (a / P.page));
    }

-- the page of a cell of the memory is one of its pages ..
pub page_of_memory : {P : Part} → Sound P → (a : ℕ) → a < P.size → a / P.page < pages P
page_of_memory s a h = (div-lt_iff_lt-mul s.page_some).1 (rw s.whole h)

-- .. and ends in it
pub page_in_memory : {P : Part} → Sound P → (a : ℕ) → a < P.size → a / P.page * P.page + P.page ≤ P.size
page_in_memory {P} s a h =
    let below = page_of_memory s a h in
    let up : (a / P.page + 1) * P.page ≤ pages P * P.page = mul-le-mul_right P.page (omega arith) in
    omega (arith, add-mul (a / P.page) 1 P.page, s.whole)

-- ---- the bit that picks the lock is the same in every address of a page

pub picks_page : {P : Part} → Sound P → (a b : ℕ) → a / P.page ≡ b / P.page → picks_lock a ≡ picks_lock b
picks_page {P} s a b e = ap (λ (x : ℕ). on (x % 2)) (by_page a ∙ ap (λ (x : ℕ). x / (2 ^ 10 / P.page)) e ∙ sym (by_page b))
  where
    by_page : (x : ℕ) → x / 2 ^ 10 ≡ x / P.page / (2 ^ 10 / P.page)
    by_page x = ap (λ (y : ℕ). x / y) (sym s.alike) ∙ sym (div-div-eq-div-mul x P.page (2 ^ 10 / P.page))

-- The row of 82h goes by what its address picks: for the page it is one row, for the lock one for each data byte.
use mathlib.Core.Path.{◌≡◌, refl, ap, sym, ◌∙◌}
use mathlib.Core.Bool.{Bool, true, false, not, ◌&&◌, ◌||◌, true≢false}
use Prim.Native.Nat.{ℕ}
use Rattle.laws.specs.Pick.{pick}
use Rattle.codes.specs.Part.{Part}
use Rattle.codes.specs.Instructions.{row, is_wrid, picks_lock, sets_lock, write_bits}
use Rattle.codes.specs.declared.Row.{Row}
use Rattle.codes.specs.declared.Count.TheVariants.{Exactly, WholeBytes}
use Rattle.codes.specs.declared.Guard.TheVariants.{CellLock}
use Rattle.codes.specs.declared.Instruction.{Instruction}
use Rattle.codes.specs.declared.Instruction.TheVariants.{Wren, Wrdi, Rdsr, Wrsr, Read, Write, Rdid, Wrid, Silence}

-- by whether the lock is picked, and by the data byte
abbrev picked : Part → Bool → ℕ → Row
picked P t x =
    record {
      count = pick t (Exactly (write_bits P)) (WholeBytes (write_bits P));
      idle = true;
      wel = true;
      guard = CellLock;
      hold = false;
      known = not t || sets_lock x;
    }

pub page_row : (P : Part) (a x b y : ℕ) → picks_lock a ≡ false → picks_lock b ≡ false → row P Wrid a x ≡ row P Wrid b y
unfolding pick
page_row P a x b y p q = ap (λ t. picked P t x) p ∙ ap (λ t. picked P t y) (sym q)

pub lock_row : (P : Part) (a b x : ℕ) → picks_lock a ≡ picks_lock b → row P Wrid a x ≡ row P Wrid b x
lock_row P a b x e = ap (λ t. picked P t x) e

-- every row but the lock's is that of address 0
pub table_row : (P : Part) (i : Instruction) (a x : ℕ) → (is_wrid i && picks_lock a) ≡ false → row P i 0 0 ≡ row P i a x
table_row P Wren a x e = refl
table_row P Wrdi a x e = refl
table_row P Rdsr a x e = refl
table_row P Wrsr a x e = refl
table_row P Read a x e = refl
table_row P Write a x e = refl
table_row P Rdid a x e = refl
table_row P Wrid a x e = page_row P 0 0 a x refl e
table_row P Silence a x e = refl

-- and that one is 82h's alone
pub set_row : (P : Part) (i : Instruction) (a x : ℕ) → (is_wrid i && picks_lock a) ≡ true → row P Wrid 1024 x ≡ row P i a x
set_row P Wren a x e = absurd (true≢false (sym e))
set_row P Wrdi a x e = absurd (true≢false (sym e))
set_row P Rdsr a x e = absurd (true≢false (sym e))
set_row P Wrsr a x e = absurd (true≢false (sym e))
set_row P Read a x e = absurd (true≢false (sym e))
set_row P Write a x e = absurd (true≢false (sym e))
set_row P Rdid a x e = absurd (true≢false (sym e))
set_row P Wrid a x e = lock_row P 1024 a x (sym e)
set_row P Silence a x e = absurd (true≢false (sym e))

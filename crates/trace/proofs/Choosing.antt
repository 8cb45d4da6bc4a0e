-- The sides of a chunk's choices: the bad line, and no refusal; and the three parts of an output, written one after another.
use mathlib.Core.Path.{◌≡◌, refl, ap, ◌∙◌}
use mathlib.Core.Bool.{Bool, true, false}
use mathlib.Core.List.{List, [], ◌++◌, append_assoc}
use Prim.Native.Nat.{ℕ, ◌+◌, ◌≤◌}
use native.Mathlib.Omega.{arith}
use lib.ListN.{length, length-append}
use lib.Dec.{eqb, leb}
use borrow.Author.Tests.{ne_eqb}
use Rattle.laws.specs.Pick.{pick, yes_so, eq_so, ne_so}
use Rattle.laws.specs.And.{and_3_out}
use Rattle.chip.specs.Lents.{Lent}
use Rattle.chip.specs.Time.{lent_fits}
use Rattle.pins.specs.Devices.{device_part}
use Rattle.pins.specs.Ranges.{device_fits}
use Rattle.lines.specs.declared.Line.{Line}
use Rattle.printing.specs.Printing.{header, bad_line}
use Rattle.lines.specs.Reading.{line_fits}
use Rattle.printing.specs.Put.{put}
use Rattle.lines.proofs.Hand.{whole_small}
use Rattle.printing.proofs.Puts.{put_nil, put_put}
use Rattle.player.specs.declared.Player.{Player}
use Rattle.player.specs.Players.{head_fits, player_fits}
use Rattle.trace.specs.Chunks.{bad_line_between, end_choice, feed_choice}

pub header_length : length header ≡ 7
unfolding header
header_length = refl

-- ---- the bad line

pub bad_before : (a b : Line) → a.place ≡ 5 → [] ≡ bad_line_between a b
unfolding bad_line_between
bad_before a b e = eq_so _ e refl

pub bad_now : (a b : Line) → (a.place ≡ 5 → ⊥) → b.place ≡ 5 → bad_line (b.whole + 1) ≡ bad_line_between a b
unfolding bad_line_between
bad_now a b n e = ne_so _ n (eq_so _ e refl)

pub bad_not : (a b : Line) → (b.place ≡ 5 → ⊥) → [] ≡ bad_line_between a b
unfolding pick bad_line_between
bad_not a b n = rw (ne_eqb b.place 5 n) (none (eqb a.place 5))
  where
    none : (t : Bool) → ◌≡◌ {A = List ℕ} [] (pick t [] [])
    none true = refl
    none false = refl

-- what the two parts around the lines rest on
pub ruleset parts = (put_nil, header_length, bad_before, bad_now, bad_not, whole_small)

-- ---- the refusals

pub player_out : (p : Player) → player_fits p ≡ true
    → (head_fits p ≡ true) × ((line_fits p.line ≡ true) × (device_fits (device_part p.device) p.device ≡ true))
unfolding player_fits
player_out p e = and_3_out (head_fits p) (line_fits p.line) (device_fits (device_part p.device) p.device) e

module _ {A : Type 0} (p : Player) (asked bytes : ℕ) {r : A} where
  pub end_done : {done : A} (short outside : A) → player_fits p ≡ true → leb asked bytes ≡ true → r ≡ done → r ≡ end_choice p asked bytes outside short done
  end_done short outside f k e = yes_so _ f (yes_so _ k e)

-- both lent slices have their lengths
abbrev lent_right : Player → Lent → Bool
lent_right p m = lent_fits (device_part p.device) (length m.memory) (length m.identification)

module _ {A : Type 0} (p : Player) (m : Lent) (asked bytes : ℕ) {r : A} where
  pub feed_done : {done : A} (short outside wrong : A) → lent_right p m ≡ true → player_fits p ≡ true → leb asked bytes ≡ true → r ≡ done
      → r ≡ feed_choice p m asked bytes wrong outside short done
  feed_done short outside wrong n f k e = yes_so _ n (end_done p asked bytes short outside f k e)

-- ---- an output in parts

module _ (d h : List ℕ) (at : ℕ) (at-is : at ≡ length h) where
  pub two_puts : (f : List ℕ) → length h + length f ≤ length d → put (put d 0 h) at f ≡ put d 0 (h ++ f)
  two_puts f r =
      let e : at ≡ 0 + length h = omega arith in
      ap (λ (k : ℕ). put (put d 0 h) k f) e ∙ put_put d 0 h f (omega arith)

  pub three_puts : (s f : List ℕ) (end : ℕ) → end ≡ at + length s → length h + length s + length f ≤ length d
      → put (put (put d 0 h) at s) end f ≡ put d 0 (h ++ (s ++ f))
  three_puts s f end e r =
      let n : end ≡ 0 + length (h ++ s) = rw length-append (omega arith) in
      ap (λ (l : List ℕ). put l end f) (two_puts s (omega arith)) ∙ ap (λ (k : ℕ). put (put d 0 (h ++ s)) k f) n
      ∙ put_put d 0 (h ++ s) f (rw length-append (omega arith)) ∙ ap (put d 0) (append_assoc h s f)

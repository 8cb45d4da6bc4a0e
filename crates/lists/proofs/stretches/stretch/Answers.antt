use mathlib.Core.Path.{◌≡◌, refl, ap, ◌∙◌}
use mathlib.Core.Bool.{false}
use Prim.Native.Nat.{ℕ}
use native.Mathlib.Omega.{arith}
use lib.ListN.{length-set}
use Rattle.codes.specs.Part.{Part}
use Rattle.latch.specs.declared.Latch.{Latch}
use Rattle.chip.specs.declared.Core.{Core}
use Rattle.pins.specs.declared.Device.{Device}
use Rattle.pins.specs.Devices.{q}
use Rattle.pins.specs.Answers.{pin_bench}
use Rattle.lists.specs.Ways.{whole}
use Rattle.lists.specs.declared.Front.{Front}
use Rattle.lists.specs.declared.Move.{Move}
use Rattle.lists.specs.Stretches.{Steady, counted, moving, is_other, after_move, Shows}
use Rattle.lists.proofs.Moves.{reached_more}
use Rattle.lists.proofs.stretches.stretch.Goals.{in-Data, in-Bit, in-Shown}
use Rattle.lists.proofs.stretches.stretch.Goals as goal

-- what is shown of an arm, which moves s from f to g, with v for Q: the device is that after the move, which counts and
-- moves Q as before, and Q is what it shows
abbrev Gone : Front → Move → Front → ℕ → Type 0
Gone f s g v =
    (is_other s ≡ false) × Steady g × (counted g ≡ counted f)
    × ((P : Part) → moving P g ≡ moving P f)
    × ((a : Latch) (k : Core) → whole g a k ≡ after_move s (whole f a k))
    × Shows g v

-- of one that leaves front g: s is its move
moved_to : (f : Front) {r s : Move} {g h : Front} {v : ℕ} → r ≡ s → is_other s ≡ false → h ≡ g → Steady g → counted g ≡ counted f
    → ((P : Part) → moving P g ≡ moving P f) → ((a : Latch) (k : Core) → whole g a k ≡ after_move s (whole f a k))
    → Shows g v → Gone f r h v
moved_to f move own front steady counts moves after shows =
    (ap is_other move ∙ own, rw front steady, rw front counts, λ P. rw front (moves P), λ a k. rw (front, move) (after a k), rw front shows)

pub loop-i-preserved : goal.loop-i-preserved
unfolding q
loop-i-preserved c =
    let l = c.loop-i in
    let es = c.args.events.now in
    -- by each arm
    let g : Gone l.front c.move_for-moved.result c.match-moved.front c.match-moved.q = elim c.match-moved.branch [
      | in-Data w ↦ moved_to l.front w.in-Data.is refl w.front-is l.invariant.3 refl (λ P. refl) (λ a k. refl) (λ a k. w.q-is ∙ l.invariant.6 a k)
      | in-Bit w ↦ moved_to l.front w.in-Bit.is refl w.front-is l.invariant.3 refl (λ P. refl) (λ a k. refl) (λ a k. w.q-is ∙ l.invariant.6 a k)
      | in-Shown w ↦ moved_to l.front w.in-Shown.is refl w.front-is l.invariant.3 refl (λ P. refl) (λ a k. refl) (λ a k. w.q-is ∙ w.q-q.ensures a k)
    ] in (
      omega arith,
      omega arith,
      simp length-set l.invariant.2,
      g.1,
      g.2 ∙ l.invariant.4,
      λ P e. g.3 P ∙ l.invariant.5 P e,
      g.5,
      λ P e a k m d o b r. reached_more P es b o l.i _ _ l.out c.match-moved.q (omega arith) (l.invariant.7 P e a k m d o b r)
          (ap (λ (x : Device). pin_bench x m d) (g.4 a k) ∙ c.move_for-moved.ensures P a k m d (l.invariant.5 P e) g.0)
          (g.5 a k),
    )

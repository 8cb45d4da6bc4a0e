-- Events within a byte: which event a number stands for, and one event more of a list.
use mathlib.Core.Path.{◌≡◌, refl, ap, sym, ◌∙◌}
use mathlib.Core.List.{List}
use Prim.Native.Nat.{ℕ, ◌+◌, ◌/◌, ◌%◌, ◌^◌, ◌<◌}
use native.Mathlib.Numerals.{add-one}
use native.Mathlib.Omega.{arith}
use lib.ListN.{length, get_or, set}
use Rattle.laws.specs.Pick.{pick}
use Rattle.laws.specs.Filled.{filled_more}
use Rattle.codes.specs.Part.{Part}
use Rattle.codes.specs.Status.{on}
use Rattle.edges.specs.Falling.{level_number}
use Rattle.pins.specs.declared.Event.TheVariants.{C, D}
use Rattle.pins.specs.Devices.{q}
use Rattle.pins.specs.Events.{event_of}
use Rattle.pins.specs.Answers.{PinBench, after_event}
use Rattle.lists.specs.Answers.{played_q}
use Rattle.lists.specs.Stretches.{Reached}
use Rattle.lists.proofs.Playing.{played_more, q_length, q_at}

-- ---- a number of each of the two kinds

pub data_number : (n : ℕ) → n / 2 ^ 32 ≡ 2 → event_of n ≡ D (on (n % 2))
unfolding pick
data_number n e = rw e refl

pub clock_number : (n : ℕ) → n / 2 ^ 32 ≡ 1 → event_of n ≡ C (on (n % 2))
unfolding pick
clock_number n e = rw e refl

-- ---- one event more of a list

pub reached_more : (P : Part) (es : List ℕ) (b : PinBench) (o : List ℕ) (i : ℕ) (x y : PinBench) (out : List ℕ) (v : ℕ) → i < length es
    → Reached P es b o i x out → y ≡ after_event P (get_or es i 0) x → v ≡ level_number (q y.device) → Reached P es b o (i + 1) y (set out i v)
reached_more P es b o i x y out v h r e level =
    let more = e ∙ ap (after_event P (get_or es i 0)) r.1 ∙ sym (played_more P es i b h) in (
      r.0,
      rw add-one more,
      rw r.2 (filled_more o (played_q P es b) 0 i v (r.0 ∙ sym (q_length P es b)) (omega (arith, r.0))
          (level ∙ ap (λ (z : PinBench). level_number (q z.device)) more ∙ sym (q_at P es i b h))),
    )

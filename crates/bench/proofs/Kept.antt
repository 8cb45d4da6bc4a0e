-- An answer crosses to C as its number and its values, and nothing of it is lost: from these it is put together again. Records cross as they are. A mode
-- comes over as its number, and both modes do.
use Rattle.std.specs.Prelude.{Err, Ok, Result}
use Rattle.codes.specs.Refusals.{value_of, value_by, no_refusal}
use mathlib.Core.Path.{◌≡◌, refl, ap, ◌∙◌}
use mathlib.Core.Bool.{Bool, true, false, and-true}
use Prim.Native.Nat.{ℕ, ◌≤◌}
use native.Mathlib.Omega.{arith}
use lib.Dec.{eqb, leb}
use borrow.Author.Tests.{ne_eqb}
use Rattle.laws.specs.Pick.{pick, at_yes, at_no}
use Rattle.codes.specs.Refusals.{refusal_number, number}
use Rattle.codes.specs.declared.Refusal.{Refusal}
use Rattle.codes.specs.declared.Refusal.TheVariants.{MemoryLength, RecordRange, FrameLength, BitCount, OutputLength, CycleLength, AddressRange, PollRange}
use Rattle.codes.specs.Refusals.{Outcome}
use Rattle.timed_frames.specs.declared.Mode.{Mode}
use Rattle.timed_frames.specs.declared.Mode.TheVariants as mode
use Rattle.bench.specs.Calls.{timed_taken, mode_of}
use Rattle.codes.specs.Status.{bit}
use Rattle.edges.specs.Falling.{level_number}
use Rattle.edges.specs.declared.Level.{Level}
use Rattle.edges.specs.declared.Level.TheVariants.{Zero, One, Z}
use Rattle.driver.specs.Answers as driver
use Rattle.intel_hex.specs.Numbers.{HexAnswer, hex_number}
use Rattle.intel_hex.specs.declared.HexError.TheVariants as hex
use Rattle.driver.specs.declared.RunError.TheVariants as driven

-- ---- a number back to its refusal

abbrev pub refusal_of : ℕ → Refusal
refusal_of n =
    pick (eqb n 1) MemoryLength
    (pick (eqb n 2) RecordRange
    (pick (eqb n 3) FrameLength
    (pick (eqb n 4) BitCount (pick (eqb n 5) OutputLength (pick (eqb n 6) CycleLength (pick (eqb n 7) AddressRange PollRange))))))

pub refusal_kept : (r : Refusal) → refusal_of (refusal_number r) ≡ r
unfolding pick
refusal_kept MemoryLength = refl
refusal_kept RecordRange = refl
refusal_kept FrameLength = refl
refusal_kept BitCount = refl
refusal_kept OutputLength = refl
refusal_kept CycleLength = refl
refusal_kept AddressRange = refl
refusal_kept PollRange = refl

refusal_range : (r : Refusal) → (1 ≤ refusal_number r) × (refusal_number r ≤ 8)
refusal_range MemoryLength = (omega arith, omega arith)
refusal_range RecordRange = (omega arith, omega arith)
refusal_range FrameLength = (omega arith, omega arith)
refusal_range BitCount = (omega arith, omega arith)
refusal_range OutputLength = (omega arith, omega arith)
refusal_range CycleLength = (omega arith, omega arith)
refusal_range AddressRange = (omega arith, omega arith)
refusal_range PollRange = (omega arith, omega arith)

-- a refusal is told from what is done (0), and from the endings that are past every refusal
not_done : (r : Refusal) → eqb (refusal_number r) 0 ≡ false
not_done r =
    let other : refusal_number r ≡ 0 → ⊥ = λ e. omega (arith, (refusal_range r).0) in
    ne_eqb _ _ other

not_past : (n : ℕ) (r : Refusal) → 9 ≤ n → eqb (refusal_number r) n ≡ false
not_past n r past =
    let other : refusal_number r ≡ n → ⊥ = λ e. omega (arith, (refusal_range r).1) in
    ne_eqb _ _ other

-- ---- each kind of answer, from its number and its values

abbrev pub outcome_of : ℕ → Outcome
outcome_of n = pick (eqb n 0) no_refusal (Err (refusal_of n))

pub outcome_kept : (o : Outcome) → outcome_of (number o) ≡ o
outcome_kept (Ok _) = at_yes _ _ refl
outcome_kept (Err r) = at_no _ _ (not_done r) ∙ ap Err (refusal_kept r)

-- where protection starts, how many cells will be touched, the status, and how many bits of a frame were undriven
abbrev pub answer_of : ℕ → ℕ → Result ℕ Refusal
answer_of n v = pick (eqb n 0) (Ok v) (Err (refusal_of n))

pub answer_kept : (x : Result ℕ Refusal) → answer_of (number x) (value_of x) ≡ x
answer_kept (Ok v) = at_yes _ _ refl
answer_kept (Err r) = at_no _ _ (not_done r) ∙ ap Err (refusal_kept r)

abbrev pub protection_of : ℕ → ℕ → Result Bool Refusal
protection_of n v = pick (eqb n 0) (pick (eqb v 1) (Ok true) (Ok false)) (Err (refusal_of n))

pub protection_kept : (x : Result Bool Refusal) → protection_of (number x) ((value_by bit) x) ≡ x
protection_kept (Ok false) = at_yes _ _ refl ∙ at_no _ _ refl
protection_kept (Ok true) = at_yes _ _ refl ∙ at_yes _ _ refl
protection_kept (Err r) = at_no _ _ (not_done r) ∙ ap Err (refusal_kept r)

-- ---- a mode by its number

abbrev pub mode_number : Mode → ℕ
mode_number mode.Zero = 0
mode_number mode.Three = 3

pub mode_kept : (o : Mode) → mode_of (mode_number o) ≡ o
mode_kept mode.Zero = at_no _ _ refl
mode_kept mode.Three = at_yes _ _ refl

-- so that W alone says whether the call is taken
pub mode_taken : (w : ℕ) (o : Mode) → timed_taken w (mode_number o) ≡ leb w 1
mode_taken w mode.Zero = and-true (leb w 1)
mode_taken w mode.Three = and-true (leb w 1)

-- ---- Q and the questions, the driver, HEX texts

abbrev pub level_of : ℕ → Level
level_of v = pick (eqb v 0) Zero (pick (eqb v 1) One Z)

abbrev pub q_of : ℕ → ℕ → Result Level Refusal
q_of n v = pick (eqb n 0) (Ok (level_of v)) (Err (refusal_of n))

pub q_kept : (x : Result Level Refusal) → q_of (number x) ((value_by level_number) x) ≡ x
unfolding pick
q_kept (Ok Zero) = refl
q_kept (Ok One) = refl
q_kept (Ok Z) = refl
q_kept (Err r) = at_no _ _ (not_done r) ∙ ap Err (refusal_kept r)

abbrev pub run_of : ℕ → ℕ → ℕ → driver.RunReply
run_of n pages frames =
    pick (eqb n 0) (Ok (record { pages = pages; frames = frames }))
    (pick (eqb n 9) (Err (driven.TimedOut (record { pages = pages; frames = frames })))
    (pick (eqb n 13) (Err (driven.Protected (record { pages = pages; frames = frames }))) (Err (driven.Refused (refusal_of n)))))

pub run_kept : (x : driver.RunReply) → run_of (driver.run_reply_number x) (driver.run_reply_pages x) (driver.run_reply_frames x) ≡ x
run_kept (Ok s) = at_yes _ _ refl
run_kept (Err (driven.TimedOut s)) = at_no _ _ refl ∙ at_yes _ _ refl
run_kept (Err (driven.Protected s)) = at_no _ _ refl ∙ at_no _ _ refl ∙ at_yes _ _ refl
run_kept (Err (driven.Refused r)) =
    at_no _ _ (not_done r) ∙ at_no _ _ (not_past 9 r (omega arith)) ∙ at_no _ _ (not_past 13 r (omega arith)) ∙ ap (λ (f : Refusal). Err (driven.Refused f)) (refusal_kept r)

abbrev pub hex_of : ℕ → HexAnswer
hex_of n = pick (eqb n 0) (Ok tt) (pick (eqb n 12) (Err hex.NotTaken) (Err (hex.Refused (refusal_of n))))

pub hex_kept : (x : HexAnswer) → hex_of (hex_number x) ≡ x
hex_kept (Ok done) = at_yes _ _ refl
hex_kept (Err hex.NotTaken) = at_no _ _ refl ∙ at_yes _ _ refl
hex_kept (Err (hex.Refused r)) =
    at_no _ _ (not_done r) ∙ at_no _ _ (not_past 12 r (omega arith)) ∙ ap (λ (f : Refusal). Err (hex.Refused f)) (refusal_kept r)

-- Document 01's "Numbers given back": the number of each refusal, 1 to 8, and of an answer.
use Rattle.std.specs.Prelude.{ℕ, Bool, true, false, Result, Ok, Err}
use Rattle.codes.specs.declared.Refusal.{Refusal}
use Rattle.codes.specs.declared.Refusal.TheVariants.{MemoryLength, RecordRange, FrameLength, BitCount}
use Rattle.codes.specs.declared.Refusal.TheVariants.{OutputLength, CycleLength, AddressRange, PollRange}

abbrev pub refusal_number : Refusal → ℕ
refusal_number MemoryLength = 1
refusal_number RecordRange = 2
refusal_number FrameLength = 3
refusal_number BitCount = 4
refusal_number OutputLength = 5
refusal_number CycleLength = 6
refusal_number AddressRange = 7
refusal_number PollRange = 8

-- an answer that is nothing but done, or the refusal
abbrev pub Outcome : Type 0
Outcome = Result (Unit {0}) Refusal

abbrev pub no_refusal : Outcome
no_refusal = Ok tt

-- the number of an answer: 0 where there is no error, else the error's
abbrev pub number_by : {A E : Type 0} → (E → ℕ) → Result A E → ℕ
number_by error_number (Ok x) = 0
number_by error_number (Err e) = error_number e

-- where the error is a refusal
abbrev pub number : {A : Type 0} → Result A Refusal → ℕ
number = number_by refusal_number

-- what an answer has, seen as a number; 0 in a refusal
abbrev pub value_by : {A : Type 0} → (A → ℕ) → Result A Refusal → ℕ
value_by seen (Ok x) = seen x
value_by seen (Err r) = 0

-- where that is a number itself
abbrev pub value_of : Result ℕ Refusal → ℕ
value_of = value_by (λ n. n)

-- nothing was refused
abbrev pub is_done : {A : Type 0} → Result A Refusal → Bool
is_done (Ok x) = true
is_done (Err r) = false

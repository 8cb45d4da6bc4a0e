-- The tests before a call, whose answer `?` passes on: what that answer says of each test.
use Rattle.std.proofs.Common.{◌≡◌, refl, ap, Bool, true, false, ◌&&◌, Result, Ok, Err}
use Rattle.laws.specs.Pick.{pick}
use Rattle.codes.specs.declared.Refusal.{Refusal}
use Rattle.codes.specs.declared.Refusal.TheVariants.{MemoryLength, RecordRange}
use Rattle.intel_hex.specs.declared.HexError.{HexError}
use Rattle.intel_hex.specs.declared.HexError.TheVariants.{NotTaken, Refused}
use Rattle.chip.specs.declared.Core.{Core}
use Rattle.intel_hex.specs.Numbers.{Imported}
use Rattle.intel_hex.specs.Answers.{imported_to}
use Rattle.intel_hex.specs.Numbers.{HexAnswer, hex_number}

-- the memory's length, the record's ranges
abbrev record_test : Bool → Bool → Result (Unit {0}) Refusal
record_test a b = pick a (pick b (Ok tt) (Err RecordRange)) (Err MemoryLength)

-- and the part's images
abbrev image_test : Bool → Bool → Bool → HexAnswer
image_test a b d = pick a (pick b (pick d (Ok tt) (Err NotTaken)) (Err (Refused RecordRange))) (Err (Refused MemoryLength))

abbrev text_test : Bool → HexAnswer
text_test t = pick t (Ok tt) (Err NotTaken)

pub record_ok : (a b : Bool) (u : Unit {0}) → Ok u ≡ record_test a b → (a ≡ true) × (b ≡ true)
unfolding pick
record_ok true true u e = (refl, refl)
record_ok true false u e = (cc, cc)
record_ok false b u e = (cc, cc)

pub record_err : (a b d : Bool) (r : Refusal) → Err r ≡ record_test a b → Err (Refused r) ≡ image_test a b d
unfolding pick
record_err true true d r e = cc
record_err true false d r e = cc
record_err false b d r e = cc

pub image_ok : (a b d : Bool) (u : Unit {0}) → Ok u ≡ image_test a b d → (a ≡ true) × (b ≡ true) × (d ≡ true)
unfolding pick
image_ok true true true u e = (refl, refl, refl)
image_ok true true false u e = (cc, cc, cc)
image_ok true false d u e = (cc, cc, cc)
image_ok false b d u e = (cc, cc, cc)

-- what a refusal comes to, whatever the tests that follow would give
pub image_err : {A : Type 0} (f : HexError → A) (x : A) (a b d : Bool) (e : HexError) → Err e ≡ image_test a b d
    → f e ≡ pick a (pick b (pick d x (f NotTaken)) (f (Refused RecordRange))) (f (Refused MemoryLength))
unfolding pick
image_err f x true true true e p = cc
image_err f x true true false e p = let q : e ≡ NotTaken = cc in ap f q
image_err f x true false d e p = let q : e ≡ Refused RecordRange = cc in ap f q
image_err f x false b d e p = let q : e ≡ Refused MemoryLength = cc in ap f q

-- the same, where the text's test t is one with the last
pub text_refused : {A : Type 0} (f : HexError → A) (x : A) (a b d t : Bool) (e : HexError) → Err e ≡ image_test a b d
    → f e ≡ pick a (pick b (pick (d && t) x (f NotTaken)) (f (Refused RecordRange))) (f (Refused MemoryLength))
unfolding pick
text_refused f x true true true t e p = cc
text_refused f x true true false t e p = let q : e ≡ NotTaken = cc in ap f q
text_refused f x true false d t e p = let q : e ≡ Refused RecordRange = cc in ap f q
text_refused f x false b d t e p = let q : e ≡ Refused MemoryLength = cc in ap f q

pub text_ok : (t : Bool) (u : Unit {0}) → Ok u ≡ text_test t → t ≡ true
unfolding pick
text_ok true u e = refl
text_ok false u e = cc

pub text_err : (t : Bool) (e : HexError) → Err e ≡ text_test t → (t ≡ false) × (e ≡ NotTaken)
unfolding pick
text_err true e p = (cc, cc)
text_err false e p = (refl, cc)

-- ---- what import hands back, of the record after the text

abbrev pub handed : Core → Result Core HexError → Imported
handed c (Ok next) = imported_to (Ok tt) next
handed c (Err e) = imported_to (Err e) c

abbrev text_answer : Bool → Bool → Bool → Core → Result Core HexError
text_answer a b t next = pick a (pick b (pick t (Ok next) (Err NotTaken)) (Err (Refused RecordRange))) (Err (Refused MemoryLength))

pub handed_is : (a b t : Bool) (c next : Core) → handed c (text_answer a b t next)
    ≡ pick a (pick b (pick t (imported_to (Ok tt) next) (imported_to (Err NotTaken) c)) (imported_to (Err (Refused RecordRange)) c)) (imported_to (Err (Refused MemoryLength)) c)
unfolding pick
handed_is true true true c next = refl
handed_is true true false c next = refl
handed_is true false t c next = refl
handed_is false b t c next = refl

pub handed_number : (a b t : Bool) (c next : Core) → hex_number (handed c (text_answer a b t next)).answer ≡ pick a (pick b (pick t 0 12) 2) 1
unfolding pick
handed_number true true true c next = refl
handed_number true true false c next = refl
handed_number true false t c next = refl
handed_number false b t c next = refl

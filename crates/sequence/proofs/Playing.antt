-- Acts one after another: what they leave, and how many frames they are.
use mathlib.Core.Path.{◌≡◌, refl}
use mathlib.Core.List.{List, [], ◌∷◌, ◌++◌}
use Prim.Native.Nat.{◌+◌}
use native.Mathlib.Omega.{arith}
use Rattle.codes.specs.Part.{Part}
use Rattle.frames.specs.Play.{Act, frame, reading, FrameBench, acted, acted_all}
use Rattle.sequence.specs.Sequence.{sent}

pub acted_all_append : (P : Part) (xs ys : List Act) (d : FrameBench) → acted_all P (xs ++ ys) d ≡ acted_all P ys (acted_all P xs d)
acted_all_append P [] ys d = refl
acted_all_append P (x ∷ xs) ys d = acted_all_append P xs ys (acted P x d)

pub sent_append : (xs ys : List Act) → sent (xs ++ ys) ≡ sent xs + sent ys
sent_append [] ys = omega arith
sent_append (frame w s n ∷ xs) ys = omega (arith, sent_append xs ys)
sent_append (reading t ∷ xs) ys = sent_append xs ys

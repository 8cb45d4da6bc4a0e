-- The invariant: with the digits that are left to write, all digits would be written.
use mathlib.Core.Path.{◌≡◌}
use Rattle.printing.specs.Digits.{digits}
use Rattle.printing.specs.Put.{put}
use Rattle.printing.proofs.digits.put_digits.Given as goal

abbrev pub invariant-loop-i : goal.invariant-loop-i
invariant-loop-i l = put l.out l.at (digits l.i l.rest) ≡ put l.initial.out l.at (digits l.k l.n)

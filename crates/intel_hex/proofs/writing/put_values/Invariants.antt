-- The invariant: the first i bytes are written.
use mathlib.Core.Path.{◌≡◌}
use lib.ListN.{take}
use Rattle.printing.specs.Put.{put}
use Rattle.intel_hex.specs.Writing.{bytes_text}
use Rattle.intel_hex.proofs.writing.put_values.Given as goal

abbrev pub invariant-loop-i : goal.invariant-loop-i
invariant-loop-i l = l.out ≡ put l.initial.out l.at (bytes_text (take l.i l.bytes))

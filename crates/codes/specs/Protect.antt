-- Where protection starts (004, table 2). BP1 BP0 = 00: none; 01: the upper quarter; 10: the upper half; 11:
-- everything.
use Rattle.std.specs.Prelude.{ℕ, ◌*◌, ◌/◌, Bool}
use Rattle.laws.specs.Pick.{pick}
use Rattle.codes.specs.Part.{Part}

-- the lowest protected address; the memory's size for none
abbrev pub lowest_protected : Part → Bool → Bool → ℕ
lowest_protected P bp1 bp0 = pick bp1 (pick bp0 0 (P.size / 2)) (pick bp0 (P.size / 4 * 3) P.size)

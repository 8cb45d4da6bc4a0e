-- The output of a trace: the header; and line by line its number, a tab, and Q after it, or bad.
use Rattle.std.specs.Prelude.{ℕ, suc, List, [], ◌∷◌, ◌++◌, eqb}
use Rattle.laws.specs.Pick.{pick}
use Rattle.printing.specs.Digits.{decimal}

-- line, tab, q
unfoldable pub header : List ℕ
header = 108 ∷ 105 ∷ 110 ∷ 101 ∷ 9 ∷ 113 ∷ 10 ∷ []

-- 0, 1 or Z
abbrev pub glyph : ℕ → ℕ
glyph q = pick (eqb q 0) 48 (pick (eqb q 1) 49 90)

unfoldable pub good_line : ℕ → ℕ → List ℕ
good_line n q = decimal n ++ (9 ∷ glyph q ∷ 10 ∷ [])

-- the number, a tab, bad
unfoldable pub bad_line : ℕ → List ℕ
bad_line n = decimal n ++ (9 ∷ 98 ∷ 97 ∷ 100 ∷ 10 ∷ [])

-- lines from number n on, each with Q after it
unfoldable pub printed : ℕ → List ℕ → List ℕ
printed n [] = []
printed n (q ∷ qs) = good_line n q ++ printed (suc n) qs

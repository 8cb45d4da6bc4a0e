-- A number as decimal text.
use Rattle.std.specs.Prelude.{ℕ, zero, suc, ◌+◌, ◌*◌, ◌-◌, ◌/◌, ◌%◌, Bool, true, ◌&&◌, List, [], ◌∷◌, ◌++◌, leb, ltb}
use Rattle.laws.specs.Pick.{pick}

-- the last k digits of n
unfoldable pub digits : ℕ → ℕ → List ℕ
digits zero n = []
digits (suc k) n = digits k (n / 10) ++ ((48 + n % 10) ∷ [])

-- how many digits n has, up to 7: no line number has more
abbrev pub places : ℕ → ℕ
places n =
    pick (ltb n 10) 1
    (pick (ltb n 100) 2 (pick (ltb n 1000) 3 (pick (ltb n 10000) 4 (pick (ltb n 100000) 5 (pick (ltb n 1000000) 6 7)))))

unfoldable pub decimal : ℕ → List ℕ
decimal n = digits (places n) n

-- ---- what digits say, for the law on `decimal` (`decimal-says`, printing/Decimal)

-- the number that digits say, after others that say v
unfoldable pub said_by : ℕ → List ℕ → ℕ
said_by v [] = v
said_by v (b ∷ l) = said_by (v * 10 + (b - 48)) l

-- each is a digit, 0 to 9
abbrev pub all_digits : List ℕ → Bool
all_digits [] = true
all_digits (b ∷ l) = (leb 48 b && leb b 57) && all_digits l

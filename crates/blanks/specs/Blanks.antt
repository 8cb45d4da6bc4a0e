-- The number of blank cells of a memory: the scan that defines it, and how a change of the memory moves it.
use Rattle.std.specs.Prelude.{ℕ, ◌+◌, ◌-◌, ◌*◌, Bool, not, ◌&&◌, List, length, get_or, take, drop, eqb, leb}
use Rattle.laws.specs.Pick.{pick}
use Rattle.laws.specs.Count.{count}
use Rattle.codes.specs.Part.{Part, room_cells}

-- ---- the scan

-- a blank cell holds FFh
abbrev pub blank_at : List ℕ → ℕ → Bool
blank_at m i = eqb (get_or m i 0) 0xff

-- how many cells of a memory are blank
abbrev pub blanks : List ℕ → ℕ
blanks m = count (blank_at m) (length m)

-- the call's answer: of more cells than any part has, none
abbrev pub blanks_of : List ℕ → ℕ
blanks_of m = pick (leb (length m) room_cells) (blanks m) 0

-- of page p; none of a page that the memory lacks
abbrev pub blanks_in : Part → ℕ → List ℕ → ℕ
blanks_in P p m =
    pick (leb (p * P.page + P.page) (length m)) (blanks (take P.page (drop (p * P.page) m))) 0

-- ---- from a memory m to a memory n

-- cells that become blank, and blank cells that do not stay so
abbrev pub gained : List ℕ → List ℕ → ℕ
gained m n = count (λ i. not (blank_at m i) && blank_at n i) (length m)

abbrev pub lost : List ℕ → List ℕ → ℕ
lost m n = count (λ i. blank_at m i && not (blank_at n i)) (length m)

-- at most the memory's size; subtraction does not go below 0
abbrev pub held_within : ℕ → ℕ → ℕ
held_within size n = pick (leb n size) n size

-- the number b, moved by the cells gained less the cells lost
abbrev pub recounted : Part → ℕ → List ℕ → List ℕ → ℕ
recounted P b m n = held_within P.size (b + gained m n - lost m n)

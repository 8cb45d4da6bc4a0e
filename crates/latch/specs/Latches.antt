-- A page write: latched bytes, and a mark on each addressed one, a bit for each cell; what it lays over a page, its
-- ranges, the cells that it touches, and storing it.
use Rattle.std.specs.Prelude.{ℕ, ◌+◌, ◌*◌, ◌-◌, ◌/◌, ◌%◌, Bool, ◌&&◌, List, length, get_or, set, replicate, eqb, leb, ltb}
use Rattle.laws.specs.Pick.{pick}
use Rattle.laws.specs.Each.{each}
use Rattle.laws.specs.Marks.{mark, mark_set, ones_of}
use Rattle.laws.specs.Table.{table}
use Rattle.codes.specs.Part.{Part, room, room_words}
use Rattle.latch.specs.declared.Latch.{Latch}

abbrev pub marked : Latch → ℕ → Bool
marked l i = mark l.marks i

abbrev pub byte_at : Latch → ℕ → ℕ
byte_at l i = get_or l.bytes i 0

-- what stands in cell i of its page once the write is laid over a cell that held x
abbrev pub laid_at : Latch → ℕ → ℕ → ℕ
laid_at l i x = pick (marked l i) (byte_at l i) x

unfoldable pub zeros : ℕ → List ℕ
zeros n = replicate n 0

-- no byte latched: what does not wait reads 0
abbrev pub no_latch : Latch
no_latch = record { bytes = zeros room; marks = zeros room_words }

-- one more byte latched, for cell i of its page; the latest byte for a cell wins
abbrev pub latched : ℕ → ℕ → Latch → Latch
latched i v l = record { bytes = set l.bytes i v; marks = mark_set i l.marks }

-- the cell of its page that comes after address i: from the last one back to the first
abbrev pub next_cell : Part → ℕ → ℕ
next_cell P i = (i % P.page + 1) % P.page

-- the address of that cell: all but the offset in the page stays
abbrev pub next_in_page : Part → ℕ → ℕ
next_in_page P a = a / P.page * P.page + next_cell P a

-- n cells with the write laid over them
unfoldable pub laid : ℕ → Latch → List ℕ → List ℕ
laid n l cells = table n (λ i. laid_at l i (get_or cells i 0))

-- ---- its ranges

-- cell i: a mark where there may be marks, or no mark and the byte 0
abbrev pub cell_fits : Bool → Latch → ℕ → Bool
cell_fits may l i = pick (marked l i) may (eqb (byte_at l i) 0)

-- every cell; `may` says whether anything may be marked, and past the part's page nothing may
abbrev pub latch_fits : Part → Bool → Latch → Bool
latch_fits P may l = each (λ i. cell_fits (may && ltb i P.page) l i) room

-- ---- the cells that it touches

-- the ones of its words
abbrev pub touched : Latch → ℕ
touched l = ones_of room_words l.marks

-- ---- storing it

-- cell i of the memory lies in page p
abbrev pub in_page : Part → ℕ → ℕ → Bool
in_page P p i = leb (p * P.page) i && ltb i (p * P.page + P.page)

abbrev pub stored_at : Part → ℕ → Latch → List ℕ → ℕ → ℕ
stored_at P p l m i = pick (in_page P p i) (laid_at l (i - p * P.page) (get_or m i 0)) (get_or m i 0)

-- the memory with the write laid over page p; a page that the memory lacks is not stored
unfoldable pub stored : Part → ℕ → Latch → List ℕ → List ℕ
stored P p l m = pick (leb (p * P.page + P.page) (length m)) (table (length m) (stored_at P p l m)) m

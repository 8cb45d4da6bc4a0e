-- What 83h reads (002, 6.7 and 6.9): the identification page, or its lock again and again, by its address. lock: the
-- byte that shows the lock; cells: the page.
use Rattle.std.specs.Prelude.{ℕ, ◌+◌, ◌%◌, List, get_or}
use Rattle.laws.specs.Pick.{pick}
use Rattle.codes.specs.Part.{Part}
use Rattle.codes.specs.Instructions.{picks_lock}
use Rattle.latch.specs.Latches.{next_in_page}

-- data byte n from address a on, rolling within the page
abbrev pub identification_at : Part → ℕ → List ℕ → ℕ → ℕ → ℕ
identification_at P lock cells a n = pick (picks_lock a) lock (get_or cells ((a % P.page + n) % P.page) 0)

-- one byte at a time: the byte at an address, and the address of the next; for the lock it does not move
abbrev pub identification_byte : Part → ℕ → List ℕ → ℕ → ℕ
identification_byte P lock cells a = pick (picks_lock a) lock (get_or cells (a % P.page) 0)

abbrev pub identification_next : Part → ℕ → ℕ
identification_next P a = pick (picks_lock a) a (next_in_page P a)

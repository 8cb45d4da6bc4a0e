-- Demand 2's cell rule speaks of these: the lent cells, which instruction writes them, and which of them wait.
use Rattle.std.specs.Prelude.{ℕ, ◌-◌, ◌*◌, ◌/◌, Bool, true, false, not, ◌&&◌}
use Rattle.codes.specs.Part.{Part}
use Rattle.codes.specs.Instructions.{picks_lock}
use Rattle.latch.specs.Latches.{in_page, marked}
use Rattle.latch.specs.declared.Latch.{Latch}
use Rattle.chip.specs.Records.{waits_page, waits_identification}
use Rattle.chip.specs.declared.Waiting.{Waiting}
use Rattle.chip.specs.declared.Core.{Core}
use Rattle.codes.specs.declared.Instruction.{Instruction}
use Rattle.codes.specs.declared.Instruction.TheVariants.{Wren, Wrdi, Rdsr, Wrsr, Read, Write, Rdid}
use Rattle.codes.specs.declared.Instruction.TheVariants.{Wrid, Silence}

-- ---- the lent cells: those of the memory, and those of the identification page

pub data Cells : Type 0 where
  memory_cells : Cells
  identification_cells : Cells

abbrev pub of_memory : Cells → Bool
of_memory memory_cells = true
of_memory identification_cells = false

-- how many there are
abbrev pub cell_count : Cells → Part → ℕ
cell_count memory_cells P = P.size
cell_count identification_cells P = P.page

-- what waits is for them
abbrev pub theirs : Cells → Waiting → Bool
theirs memory_cells w = waits_page w
theirs identification_cells w = waits_identification w

-- ---- the instruction that writes them: WRITE those of the memory, 82h those of the identification page

abbrev pub writer : Cells → Instruction → Bool
writer k Wren = false
writer k Wrdi = false
writer k Rdsr = false
writer k Wrsr = false
writer k Read = false
writer k Write = of_memory k
writer k Rdid = false
writer k Wrid = not (of_memory k)
writer k Silence = false

-- at its address, which may pick the lock
abbrev pub writes_to : Cells → Instruction → ℕ → Bool
writes_to memory_cells i a = writer memory_cells i
writes_to identification_cells i a = writer identification_cells i && not (picks_lock a)

-- the page that an address is in: the identification page is page 0 of its own
abbrev pub page_in : Cells → Part → ℕ → ℕ
page_in memory_cells P a = a / P.page
page_in identification_cells P a = 0

-- cell i is marked in a latch, in the page of an address
abbrev pub latched_in : Cells → Part → ℕ → Latch → ℕ → Bool
latched_in k P a l i = in_page P (page_in k P a) i && marked l (i - page_in k P a * P.page)

-- ---- the cells that wait

-- where cell i of the lent cells stands in the page that waits
abbrev pub offset : Part → Core → ℕ → ℕ
offset P c i = i - c.waits.page * P.page

-- what waits is for these cells, cell i lies in its page and is marked
abbrev pub awaited_by : (Waiting → Bool) → Part → Core → ℕ → Bool
awaited_by its P c i = its c.waits && in_page P c.waits.page i && marked c.waits.latch (offset P c i)

abbrev pub awaited_in : Cells → Part → Core → ℕ → Bool
awaited_in k P c i = awaited_by (theirs k) P c i

-- of the memory
abbrev pub awaited : Part → Core → ℕ → Bool
awaited P c i = awaited_in memory_cells P c i

-- The ranges and ties that documents 01 and 02 list for the core record, and no more. A record outside them gets
-- refusal 2.
use Rattle.std.specs.Prelude.{ℕ, Bool, ◌&&◌, ◌||◌, ◌==◌, nat_le, nat_lt}
use Rattle.laws.specs.Pick.{pick}
use Rattle.codes.specs.Part.{Part, is_part, pages}
use Rattle.codes.specs.Status.{on, writable}
use Rattle.latch.specs.Latches.{latch_fits}
use Rattle.chip.specs.Records.{running, waits_nothing, waits_status, waits_page, waits_identification, waits_lock}
use Rattle.chip.specs.Records.{waits_latch}
use Rattle.chip.specs.declared.Waiting.{Waiting}
use Rattle.chip.specs.declared.Core.{Core}

-- the part's number is one, the lock and the status bits are 0 or 1
abbrev pub flags_fit : Core → Bool
flags_fit c =
    is_part c.part && nat_le c.lock 1 && nat_le c.srwd 1 && nat_le c.bp1 1 && nat_le c.bp0 1 && nat_le c.wel 1

-- the cycle length, 1 to the part's longest
abbrev pub cycle_fits : Part → ℕ → Bool
cycle_fits P n = nat_le 1 n && nat_le n P.longest

-- one thing waits: the identification page and the lock only of a part that has them
abbrev pub waits_one : Part → Waiting → Bool
waits_one P w = waits_status w || waits_page w || P.identified && (waits_identification w || waits_lock w)

-- a device with time left has one thing waiting, and WEL 1 but where WRDI may have cleared it; with none left, nothing
-- waits
abbrev pub tied : Part → Core → Bool
tied P c =
    pick (running c) ((P.wrdi_in_cycle || on c.wel) && waits_one P c.waits) (waits_nothing c.waits)

-- a status value that waits has bits 6, 5, 4, 1 and 0 at 0; one that does not reads 0
abbrev pub value_fits : Waiting → Bool
value_fits w = pick (waits_status w) (writable w.status == w.status) (w.status == 0)

-- a page that waits is one of the memory's; else the number reads 0
abbrev pub page_fits : Part → Waiting → Bool
page_fits P w = pick (waits_page w) (nat_lt w.page (pages P)) (w.page == 0)

-- unmarked latched bytes read 0, and all do where none wait
abbrev pub wait_fits : Part → Waiting → Bool
wait_fits P w = value_fits w && page_fits P w && latch_fits P (waits_latch w) w.latch

-- time left, 0 to the cycle length
abbrev pub time_fits : Part → Core → Bool
time_fits P c = cycle_fits P c.cycle && nat_le c.left c.cycle

-- no more cells are blank than the memory has
abbrev pub blank_fits : Part → Core → Bool
blank_fits P c = nat_le c.blank P.size

unfoldable pub in_ranges : Part → Core → Bool
in_ranges P c = flags_fit c && time_fits P c && tied P c && wait_fits P c.waits && blank_fits P c

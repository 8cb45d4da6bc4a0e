use Rattle.std.proofs.Common.{ℕ, ◌+◌, ◌-◌, List, refl, subst, arith, length-drop, length-take}
use Rattle.chip.specs.Records.{own_part}
use Rattle.codes.proofs.Sound.{sound_of}
use Rattle.split.specs.Pieces.{piece}
use Rattle.frames.specs.Play.{FrameBench, frame_bench}
use Rattle.sequence.specs.Sequence.{page_acts}
use Rattle.driver.specs.Told.{Told}
use Rattle.sequence.proofs.Parts.{lies, part_bytes}
use Rattle.driver.proofs.pages.write_part.Goals as goal

pub overflow_sub-from : goal.overflow_sub-from
overflow_sub-from c =
    let a = c.args in
    let at = c.cartvesper_split_address-start in
    let l =
    lies (own_part a.core) (sound_of a.core.part) a.address a.bytes.now a.k at.result _ c.requires at.ensures refl in
    l.from

pub overflow_add-end : goal.overflow_add-end
overflow_add-end c =
    let a = c.args in
    let l = lies (own_part a.core) (sound_of a.core.part) a.address a.bytes.now a.k c.cartvesper_split_address-start.result c.cartvesper_split_length.result
    c.requires c.cartvesper_split_address-start.ensures c.cartvesper_split_length.ensures in
    omega (arith, l.to, l.inside)

pub slice_bounds-write_page-end : goal.slice_bounds-write_page-end
slice_bounds-write_page-end c =
    let a = c.args in
    let l = lies (own_part a.core) (sound_of a.core.part) a.address a.bytes.now a.k c.cartvesper_split_address-start.result c.cartvesper_split_length.result
    c.requires c.cartvesper_split_address-start.ensures c.cartvesper_split_length.ensures in
    omega (arith, l.from, l.to)

pub write_page-requires : goal.write_page-requires
write_page-requires c =
    let a = c.args in
    let l = lies (own_part a.core) (sound_of a.core.part) a.address a.bytes.now a.k c.cartvesper_split_address-start.result c.cartvesper_split_length.result
    c.requires c.cartvesper_split_address-start.ensures c.cartvesper_split_length.ensures in
    record {
      address_bound = l.memory;
      bytes_bound = simp (length-take, length-drop) (omega (arith, l.from, l.to, l.page));
    }

pub returns : goal.returns
returns c =
    let a = c.args in
    let P = own_part a.core in
    let at = c.cartvesper_split_address-start in
    let long = c.cartvesper_split_length in
    let page = c.write_page in
    let d : FrameBench = frame_bench a.core a.memory.now a.identification.now in
    let bytes =
    part_bytes P (sound_of a.core.part) a.address a.bytes.now a.k at.result long.result c.requires at.ensures
    long.ensures (at.result - a.address + long.result - (at.result - a.address)) (omega arith) in
    let Wrote : ℕ → List ℕ → Type 0 =
    λ s l. Told P (page_acts P a.polls.interval a.polls.limit s l d) d page.result page.new.memory page.new.identification in
    subst (λ (s : ℕ). Wrote s (piece P.size P.page a.address a.bytes.now a.k)) at.ensures
    (subst (Wrote at.result) bytes page.ensures)

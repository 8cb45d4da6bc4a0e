-- What may begin a cycle is left to the whole device; for the others `InPlace` says what they move.
use mathlib.Core.Path.{refl, sym, ◌∙◌}
use Rattle.chip.specs.Records.{own_part}
use Rattle.codes.specs.Verdicts.{verdict_by}
use Rattle.codes.specs.declared.Instruction.TheVariants.{Wren, Wrdi}
use Rattle.lists.specs.Ways.{whole}
use Rattle.lists.proofs.InPlace.{quiet, dropped, enabled}
use Rattle.lists.proofs.Front.deselecting.Goals as goal

pub returns-in-Wren : goal.returns-in-Wren
unfolding verdict_by
returns-in-Wren c =
    let k = c.args.core in
    let is = sym c.decode-i.ensures ∙ c.in-Wren.is in
    λ m l. enabled (own_part k) (whole c.args.self l k) c.requires Wren 1 _ is refl
    (c.wel_after.ensures ∙ rw (c.decode-i.ensures, is) refl)

pub returns-in-Wrdi : goal.returns-in-Wrdi
unfolding verdict_by
returns-in-Wrdi c =
    let k = c.args.core in
    let is = sym c.decode-i.ensures ∙ c.in-Wrdi.is in
    λ m l. enabled (own_part k) (whole c.args.self l k) c.requires Wrdi 0 _ is refl
    (c.wel_after-in-Wrdi.ensures ∙ rw (c.decode-i.ensures, is) refl)

-- the others begin no cycle and leave WEL
pub returns-in_default : goal.returns-in_default
returns-in_default c =
    let k = c.args.core in
    let no = c.in_default in
    λ m l. let x = whole c.args.self l k in
    dropped (own_part k) x c.requires c.decode-i.result (sym c.decode-i.ensures)
    (quiet (own_part k) _ _ _ _ k no.not-Wren no.not-Wrdi no.not-Wrsr no.not-Write no.not-Wrid)

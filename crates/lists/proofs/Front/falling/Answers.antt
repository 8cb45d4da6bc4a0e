use mathlib.Core.Path.{◌≡◌, ap, sym, ◌∙◌}
use mathlib.Core.Bool.{Bool, true, not, ◌&&◌}
use mathlib.Core.List.{List}
use Prim.Native.Nat.{ℕ}
use Rattle.laws.specs.Pick.{and_left, and_right}
use Rattle.codes.specs.Part.{Part}
use Rattle.codes.specs.declared.Instruction.{Instruction}
use Rattle.lists.specs.declared.Front.{Front}
use Rattle.codes.specs.Status.{on}
use Rattle.codes.specs.Instructions.{decode}
use Rattle.lists.specs.Ways.{whole}
use Rattle.chip.specs.Lents.{Lent, lent}
use Rattle.chip.specs.Records.{own_part}
use Rattle.codes.specs.Output.{outputs}
use Rattle.pins.proofs.Stills.{still}
use Rattle.lists.proofs.InPlace.{next_bit, next_cell_law, status_byte_law, down, down_counted}
use Rattle.lists.proofs.Front.falling.Goals as goal

-- what is asked of the instruction: whether Q is driven ..
drives : (P : Part) (s : Front) {i : Instruction} {driven : Bool} → i ≡ decode P s.code → driven ≡ outputs P i s.taken (on s.ran)
    → outputs P (decode P s.code) s.taken (on s.ran) ≡ driven
drives P s e d = sym (d ∙ ap (λ (j : Instruction). outputs P j s.taken (on s.ran)) e)

-- .. and then whether the edge counts too
counting : (P : Part) (s : Front) {i : Instruction} {driven : Bool} → i ≡ decode P s.code → driven ≡ outputs P i s.taken (on s.ran)
    → ((not (on s.s) && not (on s.held)) && driven) ≡ true
    → ((not (on s.s) && not (on s.held)) ≡ true) × (outputs P (decode P s.code) s.taken (on s.ran) ≡ true)
counting P s {driven = driven} e d both =
    let counted = not (on s.s) && not (on s.held) in
    (and_left counted driven both, drives P s e d ∙ and_right counted driven both)

pub returns-then-shown : goal.returns-then-shown
returns-then-shown c =
    let s = c.args.self in
    let k = c.args.core in
    let m : List ℕ → Lent = lent c.args.memory.now in
    let shows = counting (own_part k) s c.decode-i.ensures c.outputs-drives.ensures c.if-counted-drives.true in
    λ i l. down_counted (own_part k) (m i) (whole s l k) _ _ c.requires c.bit-held.ensures shows.0
    (next_bit (own_part k) (m i) k (whole s l k).frame shows.1 c.if-shown.true)

pub returns-in-Read : goal.returns-in-Read
returns-in-Read c =
    let s = c.args.self in
    let k = c.args.core in
    let m : List ℕ → Lent = lent c.args.memory.now in
    let shows = counting (own_part k) s c.decode-i.ensures c.outputs-drives.ensures c.if-counted-drives.true in
    let read = sym c.decode-i.ensures ∙ c.in-Read.is in
    λ i l. down_counted (own_part k) (m i) (whole s l k) _ _ c.requires c.bit-held.ensures shows.0
    (next_cell_law (own_part k) (m i) k (whole s l k).frame shows.1 _ _
    c.if-shown.false read c.cell.ensures c.one_up.ensures)

pub returns-in-Rdsr : goal.returns-in-Rdsr
returns-in-Rdsr c =
    let s = c.args.self in
    let k = c.args.core in
    let m : List ℕ → Lent = lent c.args.memory.now in
    let shows = counting (own_part k) s c.decode-i.ensures c.outputs-drives.ensures c.if-counted-drives.true in
    let asks = sym c.decode-i.ensures ∙ c.in-Rdsr.is in
    let fresh = c.if-shown.false in
    λ i l. down_counted (own_part k) (m i) (whole s l k) _ _ c.requires c.bit-held.ensures shows.0
    (status_byte_law (own_part k) (m i) k (whole s l k).frame shows.1 _ fresh asks c.status.ensures)

pub returns : goal.returns
returns c =
    let s = c.args.self in
    let k = c.args.core in
    let m : List ℕ → Lent = lent c.args.memory.now in
    λ i l. down (own_part k) (m i) (whole s l k) _ (whole s l k) c.requires c.bit-held.ensures
    (still (own_part k) (m i) k (whole s l k) _ (drives (own_part k) s c.decode-i.ensures c.outputs-drives.ensures) c.if-counted-drives.false)

-- One page write laid over another, the later winning; and the public call. No part is asked for: both have all the
-- room, and past a smaller page nothing is marked.
use Rattle.codes.specs.Refusals.{no_refusal}
use Rattle.std.specs.Prelude.{ℕ, ◌<◌, Bool, true, false, ◌&&◌, ◌≡◌, length, Err, Ok}
use Rattle.laws.specs.Pick.{pick}
use Rattle.laws.specs.Each.{each}
use Rattle.laws.specs.Marks.{or_words}
use Rattle.codes.specs.Part.{room, room_words}
use Rattle.latch.specs.Latches.{marked, laid, cell_fits}
use Rattle.latch.specs.declared.Latch.{Latch}
use Rattle.codes.specs.declared.Refusal.TheVariants.{RecordRange}
use Rattle.laying.specs.declared.Laid.{Laid}

-- k laid over l: k's marked bytes over l's bytes, and the marks of both
abbrev pub over : Latch → Latch → Latch
over l k = record { bytes = laid room k l.bytes; marks = or_words room_words l.marks k.marks }

-- its ranges where the part is not known: any cell of the room may be marked, and unmarked bytes read 0
abbrev pub room_fits : Latch → Bool
room_fits l = each (cell_fits true l) room

-- ---- the public call, for any two

-- what stands for refusal 2, and for no refusal
abbrev pub lay_choice : {A : Type 0} → Latch → Latch → A → A → A
lay_choice l k two done = pick (room_fits l) (pick (room_fits k) done two) two

abbrev pub laid_over : Latch → Latch → Laid
laid_over l k =
    lay_choice l k (record { outcome = Err RecordRange; latch = l }) (record { outcome = no_refusal; latch = over l k })

abbrev pub lay_number : Latch → Latch → ℕ
lay_number l k = lay_choice l k 2 0

-- ---- what the laws speak of

-- a page write with as many bytes as the room has cells, and a bit for each: every value of the type is one
pub record Sized (l : Latch) : Type 0 where
  pub bytes : length l.bytes ≡ room
  pub marks : length l.marks ≡ room_words

-- inside its ranges: unmarked bytes read 0
abbrev pub Inside : Latch → Type 0
Inside l = room_fits l ≡ true

-- no cell is marked in both
abbrev pub Disjoint : Latch → Latch → Type 0
Disjoint l k = (i : ℕ) → i < room → (marked l i && marked k i) ≡ false

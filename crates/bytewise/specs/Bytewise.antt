-- The form before: a latch with a byte for each mark, 1 or 0. And the view of a latch in that form.
use Rattle.std.specs.Prelude.{ℕ, ◌+◌, ◌-◌, ◌*◌, Bool, ◌&&◌, ◌||◌, List, length, get_or, set, replicate, eqb, leb, ltb}
use Rattle.laws.specs.Pick.{pick}
use Rattle.laws.specs.Each.{each}
use Rattle.laws.specs.Table.{table}
use Rattle.laws.specs.Marks.{mark_bytes}
use Rattle.codes.specs.Part.{Part, room, room_words}
use Rattle.codes.specs.Status.{on}
use Rattle.latch.specs.Latches.{in_page}
use Rattle.latch.specs.declared.Latch.{Latch}
use Rattle.bytewise.specs.Forms.{Form, Apart, CoreApart}

pub record Bytewise : Type 0 where
  pub bytes : List ℕ
  pub marks : List ℕ

abbrev pub no_bytes : Bytewise
no_bytes = record { bytes = replicate room 0; marks = replicate room 0 }

-- one more byte latched, for cell i of its page; the latest byte for a cell wins
abbrev pub byte_latched : ℕ → ℕ → Bytewise → Bytewise
byte_latched i v b = record { bytes = set b.bytes i v; marks = set b.marks i 1 }

-- cell i: no mark and the byte 0, or a mark where there may be marks; past the part's page there may be none
abbrev pub byte_fits : Bool → Bytewise → ℕ → Bool
byte_fits may b i = eqb (get_or b.marks i 0) 0 && eqb (get_or b.bytes i 0) 0 || eqb (get_or b.marks i 0) 1 && may

abbrev pub bytes_fit : Part → Bool → Bytewise → Bool
bytes_fit P may b = each (λ i. byte_fits (may && ltb i P.page) b i) room

-- the memory with the write laid over page p; a page that the memory lacks is not stored
abbrev pub byte_stored_at : Part → ℕ → Bytewise → List ℕ → ℕ → ℕ
byte_stored_at P p b m i =
    let k = i - p * P.page in
    pick (in_page P p i) (pick (on (get_or b.marks k 0)) (get_or b.bytes k 0) (get_or m i 0)) (get_or m i 0)

unfoldable pub bytes_stored : Part → ℕ → Bytewise → List ℕ → List ℕ
bytes_stored P p b m = pick (leb (p * P.page + P.page) (length m)) (table (length m) (byte_stored_at P p b m)) m

abbrev pub byte_form : Part → Form Bytewise
byte_form P = record { none = no_bytes; latch = byte_latched; fits = bytes_fit P; store = bytes_stored P }

-- ---- a byte for each mark

unfoldable pub view : Latch → Bytewise
view l = record { bytes = l.bytes; marks = mark_bytes room_words l.marks }

abbrev pub viewed : Apart Latch → Apart Bytewise
viewed a = record { rest = a.rest; hand = view a.hand; waits = view a.waits }

abbrev pub core_viewed : CoreApart Latch → CoreApart Bytewise
core_viewed a = record { rest = a.rest; waits = view a.waits }

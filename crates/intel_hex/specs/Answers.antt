-- Export and import: the refusals in their order, what is answered, and what is left of what is lent. P is the part
-- whose image a text is; memory and record are judged by the record's own part, and 12 is for a part of another size.
use Rattle.std.specs.Prelude.{ℕ, Bool, not, ◌&&◌, List, length, eqb, Result, Ok, Err}
use Rattle.laws.specs.Pick.{pick}
use Rattle.codes.specs.Part.{Part}
use Rattle.codes.specs.declared.Refusal.TheVariants.{MemoryLength, RecordRange, OutputLength}
use Rattle.blanks.specs.Blanks.{blanks}
use Rattle.chip.specs.declared.Core.{Core}
use Rattle.chip.specs.Records.{own_part, running, with_blank}
use Rattle.chip.specs.Ranges.{in_ranges}
use Rattle.intel_hex.specs.declared.HexError.TheVariants.{NotTaken, Refused}
use Rattle.chip.specs.declared.Answered.{Answered}
use Rattle.intel_hex.specs.Numbers.{HexAnswer, Imported}
use Rattle.intel_hex.specs.Writing.{image_text, image_room}
use Rattle.intel_hex.specs.Reading.{parted, is_good, laid_records}

-- the record's part has such images: those of P's size
abbrev pub imaged : Part → Core → Bool
imaged P c = eqb (own_part c).size P.size

-- ---- export, with a lent output of so many bytes: 1, 2, 12 for a part without such images, and 5 for an output of
-- another length

abbrev pub export_choice : {A : Type 0} → Part → Core → List ℕ → ℕ → A → A → A → A → A → A
export_choice P c m room one two twelve five done =
    pick (eqb (length m) (own_part c).size)
    (pick (in_ranges (own_part c) c) (pick (imaged P c) (pick (eqb room (image_room P)) done five) twelve) two) one

abbrev pub export_reply : Part → Core → List ℕ → ℕ → HexAnswer
export_reply P c m room =
    export_choice P c m room (Err (Refused MemoryLength)) (Err (Refused RecordRange)) (Err NotTaken) (Err (Refused OutputLength)) (Ok tt)

abbrev pub export_number : Part → Core → List ℕ → ℕ → ℕ
export_number P c m room = export_choice P c m room 1 2 12 5 0

-- the cells as stored, in a cycle too
abbrev pub export_output : Part → Core → List ℕ → List ℕ → List ℕ
export_output P c m d = export_choice P c m (length d) d d d d (image_text P m)

-- ---- import: 1, 2, and 12 for a part without such images, for a text that is not good or while a cycle runs

abbrev pub takes : Part → Core → List ℕ → Bool
takes P c t = imaged P c && (not (running c) && is_good P t)

abbrev pub import_choice : {A : Type 0} → Part → Core → List ℕ → List ℕ → A → A → A → A → A
import_choice P c m t one two twelve done =
    pick (eqb (length m) (own_part c).size) (pick (in_ranges (own_part c) c) (pick (takes P c t) done twelve) two) one

-- the cells that a text leaves
abbrev pub imported_cells : Part → List ℕ → List ℕ → List ℕ
imported_cells P m t = laid_records (parted P t).records m

-- the record is handed back as it was given, but that the blank cells are counted afresh where a text is taken
abbrev pub imported_to : HexAnswer → Core → Imported
imported_to a c = record { answer = a; core = c }

abbrev pub import_answer : Part → Core → List ℕ → List ℕ → Imported
import_answer P c m t =
    import_choice P c m t (imported_to (Err (Refused MemoryLength)) c) (imported_to (Err (Refused RecordRange)) c)
    (imported_to (Err NotTaken) c) (imported_to (Ok tt) (with_blank (blanks (imported_cells P m t)) c))

abbrev pub import_number : Part → Core → List ℕ → List ℕ → ℕ
import_number P c m t = import_choice P c m t 1 2 12 0

abbrev pub import_memory : Part → Core → List ℕ → List ℕ → List ℕ
import_memory P c m t = import_choice P c m t m m m (imported_cells P m t)

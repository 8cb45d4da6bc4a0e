-- Where protection starts, and is an address protected. One definition, `lowest`, serves both questions, the verdict on
-- a WRITE and the driver.
use Rattle.codes.specs.declared.Refusal.{Refusal}
use Rattle.std.specs.Prelude.{ℕ, Bool, false, ◌&&◌, ◌||◌, nat_le, nat_lt, Err, Ok, Result}
use Rattle.laws.specs.Pick.{pick}
use Rattle.codes.specs.Part.{Part}
use Rattle.codes.specs.Status.{bit, on}
use Rattle.codes.specs.Protect.{lowest_protected}
use Rattle.chip.specs.Ranges.{in_ranges}
use Rattle.chip.specs.declared.Core.{Core}
use Rattle.codes.specs.declared.Refusal.TheVariants.{RecordRange, AddressRange}
use Rattle.codes.specs.declared.Instruction.{Instruction}
use Rattle.codes.specs.declared.Instruction.TheVariants.{Wren, Wrdi, Rdsr, Wrsr, Read, Write, Rdid}
use Rattle.codes.specs.declared.Instruction.TheVariants.{Wrid, Silence}

-- the record's lowest protected address; the memory's size for none
abbrev pub lowest : Part → Core → ℕ
lowest P c = lowest_protected P (on c.bp1) (on c.bp0)

-- an address is protected where the lowest protected one is at most it
abbrev pub protects : Part → Core → ℕ → Bool
protects P c a = nat_le (lowest P c) a

-- what stops a write of cells: a WRITE's address is protected; 82h's page is sealed
abbrev pub stopped_by : Instruction → Bool → Bool → Bool
stopped_by Wren protected sealed = false
stopped_by Wrdi protected sealed = false
stopped_by Rdsr protected sealed = false
stopped_by Wrsr protected sealed = false
stopped_by Read protected sealed = false
stopped_by Write protected sealed = protected
stopped_by Rdid protected sealed = false
stopped_by Wrid protected sealed = sealed
stopped_by Silence protected sealed = false

-- the identification page is sealed by its lock, or by BP 11
abbrev pub sealed : Core → Bool
sealed c = on c.lock || on c.bp1 && on c.bp0

-- the cells that an instruction would write at an address are protected
abbrev pub barred : Part → Core → Instruction → ℕ → Bool
barred P c i a = stopped_by i (protects P c a) (sealed c)

-- ---- the public question where protection starts, for every record

-- what stands for refusal 2, and for no refusal
abbrev pub lowest_choice : {A : Type 0} → Part → Core → A → A → A
lowest_choice P c two done = pick (in_ranges P c) done two

abbrev pub protected_from : Part → Core → Result ℕ Refusal
protected_from P c = lowest_choice P c (Err RecordRange) (Ok (lowest P c))

-- the number and the value of an answer, by the input
abbrev pub lowest_number : Part → Core → ℕ
lowest_number P c = lowest_choice P c 2 0

abbrev pub lowest_value : Part → Core → ℕ
lowest_value P c = lowest_choice P c 0 (lowest P c)

-- ---- the public question of one address, for every record and every number

-- what stands for refusal 2, for 7 after it (an address that the memory lacks), and for no refusal
abbrev pub question_choice : {A : Type 0} → Part → Core → ℕ → A → A → A → A
question_choice P c a two seven done = pick (in_ranges P c) (pick (nat_lt a P.size) done seven) two

abbrev pub protection : Part → Core → ℕ → Result Bool Refusal
protection P c a =
    question_choice P c a (Err RecordRange) (Err AddressRange) (Ok (protects P c a))

-- the number and the value of an answer, by the input: 1 for a protected address
abbrev pub question_number : Part → Core → ℕ → ℕ
question_number P c a = question_choice P c a 2 7 0

abbrev pub question_value : Part → Core → ℕ → ℕ
question_value P c a = question_choice P c a 0 0 (bit (protects P c a))

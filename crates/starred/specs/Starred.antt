-- Document 01's cases with a star, a to i, in one statement, of what the public calls promise for every input, refusals
-- included: `framed` and `framed_output`, `clock_reading` and `clock_memory`, `powered_up`, `status`, `protection`,
-- `elapsed`, the numbers of the split, `driven`. As delivered, every cell is FFh and the cycle length 5,000.
use Rattle.std.specs.Prelude.{ℕ, ◌*◌, ◌-◌, Bool, true, false, List, [], ◌∷◌, ◌++◌, ◌≡◌, length, get_or, Ok}
use Rattle.laws.specs.Table.{table}
use Rattle.codes.specs.Part.{m95512}
use Rattle.codes.specs.Refusals.{number, no_refusal}
use Rattle.chip.specs.Records.{status, idle}
use Rattle.chip.specs.Time.{elapsed, clock_reading, clock_memory, clock_identification}
use Rattle.chip.specs.Power.{delivered, delivered_memory, delivered_identification, powered_up}
use Rattle.chip.specs.Questions.{protection}
use Rattle.chip.specs.declared.Core.{Core}
use Rattle.frames.specs.Answers.{framed, framed_output}
use Rattle.frames.specs.Play.{Act, frame, reading, frame_bench}
use Rattle.split.specs.Split.{split_parts, split_address, split_length}
use Rattle.driver.specs.Answers.{driven}
use Rattle.sequence.specs.Sequence.{run}
use Rattle.sequence.specs.Counts.{page_polls}

-- ---- calls of the frame model, one after the other

-- the number of each answer, in order (0: not refused), and what the calls leave
pub record Called : Type 0 where
  pub numbers : List ℕ
  pub core : Core
  pub memory : List ℕ
  pub identification : List ℕ

abbrev pub answered : ℕ → Called → Called
answered n x =
    record { numbers = n ∷ x.numbers; core = x.core; memory = x.memory; identification = x.identification }

-- each frame with an output of its length
abbrev pub called : List Act → Core → List ℕ → List ℕ → Called
called [] c m d = record { numbers = []; core = c; memory = m; identification = d }
called (frame w s n ∷ acts) c m d =
    let r = framed m95512 c m d w s n (length s) in
    answered (number r.answer) (called acts r.core m d)
called (reading t ∷ acts) c m d =
    let r = clock_reading m95512 t c m d in
    answered (number r.answer)
    (called acts r.core (clock_memory m95512 t c m d) (clock_identification m95512 t c m d))

abbrev pub cells : List ℕ → List ℕ → List ℕ
cells m [] = []
cells m (i ∷ is) = get_or m i 0 ∷ cells m is

-- the numbers, and what the calls leave of a record and a memory as delivered: some cells; the time left, 0 where no
-- cycle runs; the status byte
abbrev pub cells_after : List Act → Core → List ℕ → List ℕ × List ℕ
cells_after acts c is =
    let x = called acts c (delivered_memory m95512) (delivered_identification m95512) in
    (x.numbers, cells x.memory is)

abbrev pub left_after : List Act → Core → List ℕ × ℕ
left_after acts c =
    let x = called acts c (delivered_memory m95512) (delivered_identification m95512) in (x.numbers, x.core.left)

abbrev pub status_after : List Act → Core → List ℕ × ℕ
status_after acts c =
    let x = called acts c (delivered_memory m95512) (delivered_identification m95512) in (x.numbers, status x.core)

-- ---- what the cases are about

abbrev pub wren : Act
wren = frame true (0x06 ∷ []) 8

abbrev pub bytes_a : List ℕ
bytes_a = 0x02 ∷ 0x00 ∷ 0x7e ∷ 0x11 ∷ 0x22 ∷ 0x33 ∷ 0x44 ∷ []

-- 130 data bytes 0, 1, .. 129 at 0000h
abbrev pub bytes_c : List ℕ
bytes_c = 0x02 ∷ 0x00 ∷ 0x00 ∷ table 130 (λ i. i)

-- a WRITE of one byte at an address
abbrev pub write_one : ℕ → ℕ → Act
write_one high low = frame true (0x02 ∷ high ∷ low ∷ 0x55 ∷ []) 32

-- READ at FFFFh for two bytes
abbrev pub bytes_f : List ℕ
bytes_f = 0x03 ∷ 0xff ∷ 0xff ∷ 0x00 ∷ 0x00 ∷ []

-- powered up over a blank memory with SRWD, BP1, BP0 and a clock reading, cycle length 5,000
abbrev pub powered : Bool → Bool → Bool → ℕ → Core
powered srwd bp1 bp0 t = idle 0 false srwd bp1 bp0 5000 t m95512.size

abbrev pub upper_quarter : Core
upper_quarter = powered false false true 0

abbrev pub all_bits_set : Core
all_bits_set = powered true true true 0

pub record Starred : Type 0 where
  -- what power-up gives, of which d, e and i speak
  pub powered_up_law : (srwd bp1 bp0 : Bool) (t : ℕ)
      → powered_up 0 false 5000 srwd bp1 bp0 t (delivered_memory m95512)
      ≡ record { answer = no_refusal; core = powered srwd bp1 bp0 t }
  -- a: WREN, then 02 00 7E 11 22 33 44, then a cycle: 007Eh=11h, 007Fh=22h, 0000h=33h, 0001h=44h. The cell after it is
  -- as delivered
  pub a :
      cells_after (wren ∷ frame true bytes_a 56 ∷ reading 5000 ∷ []) (delivered 0)
      (0x007e ∷ 0x007f ∷ 0x0000 ∷ 0x0001 ∷ 0x0002 ∷ [])
      ≡ (0 ∷ 0 ∷ 0 ∷ [], 0x11 ∷ 0x22 ∷ 0x33 ∷ 0x44 ∷ 0xff ∷ [])
  -- b: the same with 55 or 57 bits: no cycle. With 56 there is one
  pub b_55 : left_after (wren ∷ frame true bytes_a 55 ∷ []) (delivered 0) ≡ (0 ∷ 0 ∷ [], 0)
  pub b_57 : left_after (wren ∷ frame true (bytes_a ++ (0x55 ∷ [])) 57 ∷ []) (delivered 0) ≡ (0 ∷ 0 ∷ [], 0)
  pub b_56 : left_after (wren ∷ frame true bytes_a 56 ∷ []) (delivered 0) ≡ (0 ∷ 0 ∷ [], 5000)
  -- c: 130 data bytes 0, 1, .. 129 at 0000h: cell 0 is 80h, cell 1 is 81h, cell 2 is 02h
  pub c :
      cells_after (wren ∷ frame true bytes_c (8 * 133) ∷ reading 5000 ∷ []) (delivered 0) (0 ∷ 1 ∷ 2 ∷ [])
      ≡ (0 ∷ 0 ∷ 0 ∷ [], 0x80 ∷ 0x81 ∷ 0x02 ∷ [])
  -- d: BP 01: BFFFh is taken, C000h is not
  pub d_taken : left_after (wren ∷ write_one 0xbf 0xff ∷ []) upper_quarter ≡ (0 ∷ 0 ∷ [], 5000)
  pub d_not_taken : left_after (wren ∷ write_one 0xc0 0x00 ∷ []) upper_quarter ≡ (0 ∷ 0 ∷ [], 0)
  pub d_open : protection m95512 upper_quarter 0xbfff ≡ Ok false
  pub d_protected : protection m95512 upper_quarter 0xc000 ≡ Ok true
  -- e: SRWD, BP1, BP0 all 1, idle: 8Ch; with WEL 8Eh; in a cycle 8Fh
  pub e_idle : status_after [] all_bits_set ≡ ([], 0x8c)
  pub e_wel : status_after (wren ∷ []) all_bits_set ≡ (0 ∷ [], 0x8e)
  pub e_cycle : status_after (wren ∷ frame true (0x01 ∷ 0x8c ∷ []) 16 ∷ []) all_bits_set ≡ (0 ∷ 0 ∷ [], 0x8f)
  -- f: READ at FFFFh for two bytes gives cells FFFFh and 0000h, of any memory. The code and the address are undriven
  pub f_answer : (m d : List ℕ) → length m ≡ m95512.size → length d ≡ m95512.page
      → (framed m95512 (delivered 0) m d true bytes_f 40 5).answer ≡ Ok 24
  pub f_output : (m d out : List ℕ) → length m ≡ m95512.size → length d ≡ m95512.page → length out ≡ 5
      → framed_output m95512 (delivered 0) m d bytes_f 40 out
      ≡ 0xff ∷ 0xff ∷ 0xff ∷ get_or m 0xffff 0 ∷ get_or m 0x0000 0 ∷ []
  -- g: address 100, 300 bytes: parts of 28, 128, 128 and 16
  pub g_parts : split_parts m95512.size m95512.page 100 300 0 ≡ 4
  pub g_addresses : table 4 (split_address m95512.size m95512.page 100 300) ≡ 100 ∷ 128 ∷ 256 ∷ 384 ∷ []
  pub g_lengths : table 4 (split_length m95512.size m95512.page 100 300) ≡ 28 ∷ 128 ∷ 128 ∷ 16 ∷ []
  -- h: that write, idle, cycle 5,000, interval 1,000: 29 frames. Interval 700: 8 polls a page. Whatever the bytes and
  -- the memory. The polls are those of the run that `driven` answers for; its frames at 700 are 1 + 4 · (2 + 8)
  pub h_1000 : (m d bytes : List ℕ) → length m ≡ m95512.size → length d ≡ m95512.page → length bytes ≡ 300
      → (driven m95512 (delivered 0) m d 100 bytes 1000 5001).answer ≡ Ok (record { pages = 4; frames = 29 })
  pub h_700 : (m d bytes : List ℕ) → length m ≡ m95512.size → length d ≡ m95512.page → length bytes ≡ 300
      → (driven m95512 (delivered 0) m d 100 bytes 700 5001).answer ≡ Ok (record { pages = 4; frames = 41 })
  pub h_polls : (m d bytes : List ℕ) → length m ≡ m95512.size → length d ≡ m95512.page → length bytes ≡ 300
      → page_polls (run m95512 700 5001 100 bytes (frame_bench (delivered 0) m d)).acts ≡ 8 ∷ 8 ∷ 8 ∷ 8 ∷ []
  -- i: old reading 4294967290, new 10: 16 elapsed. So much less is left of a cycle that began at the old one
  pub i : elapsed 4294967290 10 ≡ 16
  pub i_left :
      left_after (wren ∷ write_one 0x00 0x00 ∷ reading 10 ∷ []) (powered false false false 4294967290)
      ≡ (0 ∷ 0 ∷ 0 ∷ [], 5000 - 16)

-- The table of parts, a row for each: sizes and abilities. The chip's rules and both models' are read over them.
use Rattle.std.specs.Prelude.{ℕ, ◌/◌, Bool, true, false, List, [], ◌∷◌, eqb, leb}
use Rattle.laws.specs.Pick.{pick}

pub record Part : Type 0 where
  -- cells of the memory
  pub size : ℕ
  -- cells of a page, and of the identification page
  pub page : ℕ
  -- address bytes after the code
  pub address_bytes : ℕ
  -- where the count of whole bytes taken stays
  pub most : ℕ
  -- microseconds of the longest write cycle
  pub longest : ℕ
  -- it has an identification page and a lock
  pub identified : Bool
  -- WRDI is executed in a cycle too
  pub wrdi_in_cycle : Bool
  -- the first bytes of the identification page as delivered; the others are FFh
  pub identity : List ℕ

-- 65,536 bytes, 512 pages of 128; 5 ms is the sheets' longest cycle; the -D part has the identification page besides
abbrev pub row_with : Bool → Part
row_with d =
    record {
      size = 65536;
      page = 128;
      address_bytes = 2;
      most = 5;
      longest = 5000;
      identified = d;
      wrdi_in_cycle = false;
      identity = [];
    }

abbrev pub m95512 : Part
m95512 = row_with false

abbrev pub m95512d : Part
m95512d = row_with true

-- 131,072 bytes, 512 pages of 256, three address bytes, cycles of at most 4 ms (001)
abbrev pub m95m01 : Part
m95m01 =
    record {
      size = 131072;
      page = 256;
      address_bytes = 3;
      most = 6;
      longest = 4000;
      identified = true;
      wrdi_in_cycle = true;
      identity = 0x20 ∷ 0x00 ∷ 0x11 ∷ [];
    }

-- the row of a part's number: 0 the M95512, 1 the M95512-D, 2 the M95M01; a number that is none reads the M95512's row,
-- so that refusal 1 can be judged before 2
unfoldable pub part_of : ℕ → Part
part_of n = pick (eqb n 2) m95m01 (pick (eqb n 1) m95512d m95512)

-- the numbers that are parts
abbrev pub is_part : ℕ → Bool
is_part n = leb n 2

abbrev pub pages : Part → ℕ
pages P = P.size / P.page

-- cells of the arrays in a record: the largest page; on a part with smaller pages those past the page stay empty
abbrev pub room : ℕ
room = 256

-- cells of the largest memory, and the bytes before the data of its READ and WRITE: the code and the address
abbrev pub room_cells : ℕ
room_cells = 131072

abbrev pub room_head : ℕ
room_head = 4

-- words of marks, a bit for each of those cells
abbrev pub room_words : ℕ
room_words = room / 64

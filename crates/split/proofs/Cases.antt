-- Document 01's case g of the definitions: 300 bytes from address 100 on.
use mathlib.Core.Path.{◌≡◌, refl}
use mathlib.Core.List.{[], ◌∷◌}
use Rattle.laws.specs.Pick.{pick}
use Rattle.laws.specs.Table.{from, table}
use Rattle.split.specs.Split.{page_parts, count, edge, start, end, split_refusal, split_parts, split_address, split_length}

pub case_g_parts : split_parts 65536 128 100 300 0 ≡ 4
unfolding split_parts count page_parts pick
case_g_parts = refl

pub case_g_addresses : table 4 (split_address 65536 128 100 300) ≡ 100 ∷ 128 ∷ 256 ∷ 384 ∷ []
unfolding table from split_address count page_parts edge start pick
case_g_addresses = refl

pub case_g_lengths : table 4 (split_length 65536 128 100 300) ≡ 28 ∷ 128 ∷ 128 ∷ 16 ∷ []
unfolding table from split_length count page_parts edge start end pick
case_g_lengths = refl

-- there is no fifth part
pub case_g_refusals : table 5 (split_refusal 65536 128 100 300) ≡ 0 ∷ 0 ∷ 0 ∷ 0 ∷ 7 ∷ []
unfolding table from split_refusal count page_parts pick
case_g_refusals = refl

-- The memory of a smaller part is the front of the largest.
use Rattle.std.proofs.lemmas.List.{take-replicate}
use Rattle.codes.specs.Part.{part_of, room_cells}
use Rattle.codes.proofs.Parts.{size_most}
use Rattle.player.proofs.memory.Goals as goal

pub returns-clause-by_index : goal.returns-clause-by_index
returns-clause-by_index c = λ n. take-replicate (part_of n).size room_cells 0xff (size_most n)

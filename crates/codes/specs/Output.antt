-- Where an instruction drives Q. Before its data output, and in a READ or 83h at whose eighth edge a cycle ran, Q is Z.
use Rattle.std.specs.Prelude.{ℕ, ◌+◌, Bool, false, not, ◌&&◌, leb}
use Rattle.codes.specs.Part.{Part}
use Rattle.codes.specs.declared.Instruction.{Instruction}
use Rattle.codes.specs.declared.Instruction.TheVariants.{Wren, Wrdi, Rdsr, Wrsr, Read, Write, Rdid}
use Rattle.codes.specs.declared.Instruction.TheVariants.{Wrid, Silence}

-- data output after n whole bytes: RDSR after its code; READ and 83h after their address, if no cycle ran at the
-- eighth edge
abbrev pub outputs : Part → Instruction → ℕ → Bool → Bool
outputs P Wren n ran = false
outputs P Wrdi n ran = false
outputs P Rdsr n ran = leb 1 n
outputs P Wrsr n ran = false
outputs P Read n ran = leb (P.address_bytes + 1) n && not ran
outputs P Write n ran = false
outputs P Rdid n ran = leb (P.address_bytes + 1) n && not ran
outputs P Wrid n ran = false
outputs P Silence n ran = false

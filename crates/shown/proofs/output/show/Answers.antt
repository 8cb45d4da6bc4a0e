-- By the test of the lengths. Where they go together: the bytes, and then the last one padded; fewer than eight bits are unused, since the count fits.
use mathlib.Core.Path.{refl, sym, ◌∙◌}
use native.Mathlib.Omega.{arith}
use lib.ListN.{length}
use Rattle.laws.specs.Pick.{yes_so, no_so}
use Rattle.codes.specs.Part.{part_of}
use Rattle.codes.proofs.Parts.{size_most}
use Rattle.fields.specs.Bytes.{instruction, address}
use Rattle.shown.specs.Shown.{sights, byte_out, output}
use Rattle.shown.proofs.Lengths.{lengths_out}
use Rattle.shown.proofs.Padding.{few_unused, padded_last}
use Rattle.shown.proofs.output.show.Goals as goal

pub overflow_mul-bytes : goal.overflow_mul-bytes
overflow_mul-bytes c =
    let fits = lengths_out (part_of c.args.part) _ _ _ _ _ (sym c.lengths_fit.ensures ∙ c.if-lengths_fit.true) in
    omega (arith, fits.1.0, size_most c.args.part)

pub overflow_sub-bytes : goal.overflow_sub-bytes
overflow_sub-bytes c =
    let fits = lengths_out (part_of c.args.part) _ _ _ _ _ (sym c.lengths_fit.ensures ∙ c.if-lengths_fit.true) in
    (few_unused _ _ fits.1.1.0).0

pub overflow_cast-bytes : goal.overflow_cast-bytes
overflow_cast-bytes c =
    let fits = lengths_out (part_of c.args.part) _ _ _ _ _ (sym c.lengths_fit.ensures ∙ c.if-lengths_fit.true) in
    let few = few_unused (length c.args.bytes.now) c.args.bits fits.1.1.0 in
    omega (arith, few.1)

pub pad-requires : goal.pad-requires
pad-requires c =
    let fits = lengths_out (part_of c.args.part) _ _ _ _ _ (sym c.lengths_fit.ensures ∙ c.if-lengths_fit.true) in
    (few_unused _ _ fits.1.1.0).1

pub returns-then-lengths_fit : goal.returns-then-lengths_fit
unfolding output
returns-then-lengths_fit c =
    let a = c.args in
    let fits = lengths_out (part_of a.part) _ _ _ _ _ (sym c.lengths_fit.ensures ∙ c.if-lengths_fit.true) in
    yes_so _ (sym c.lengths_fit.ensures ∙ c.if-lengths_fit.true)
    (rw (c.pad.ensures, c.show_bytes.ensures, fits.1.1.1)
    (rw (c.instruction_of.ensures, c.address_of-from.ensures.value)
    (padded_last (byte_out (part_of a.part) (instruction (part_of a.part) a.bytes.now) a.ran
    (sights a.status a.lock a.memory.now a.identification.now) (address (part_of a.part) a.bytes.now)) (length a.bytes.now) a.bits)))

pub returns-else-lengths_fit : goal.returns-else-lengths_fit
returns-else-lengths_fit c = no_so _ (sym c.lengths_fit.ensures ∙ c.if-lengths_fit.false) refl

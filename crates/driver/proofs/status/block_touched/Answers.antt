use Rattle.std.proofs.Common.{arith}
use Rattle.codes.proofs.Parts.{size_most}
use Rattle.driver.proofs.status.block_touched.Goals as goal

pub overflow_add-result : goal.overflow_add-result
overflow_add-result c = omega (arith, size_most c.args.part)

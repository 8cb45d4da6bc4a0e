-- Each public call allows one result, and leaves one content of what it is lent to write.
use Rattle.laws.specs.One.{OneResult, OneExit, same}
use Rattle.intel_hex.proofs.public.export.Kinds as export
use Rattle.intel_hex.proofs.public.export.Reads as export-reads
use Rattle.intel_hex.proofs.public.import.Kinds as import
use Rattle.intel_hex.proofs.public.import.Reads as import-reads
use Rattle.intel_hex.proofs.public.bad_line.Kinds as bad-line
use Rattle.intel_hex.proofs.public.bad_line.Reads as bad-line-reads
use Rattle.intel_hex.proofs.HexErrorNumbered.number.Kinds as hex-error-number
use Rattle.intel_hex.proofs.HexErrorNumbered.number.Reads as hex-error-number-reads

pub export_one : OneResult export.ps export.r export-reads.Post
export_one κs a z z' e e' p q = same p.0 q.0

pub export_output_law : OneExit export.ps export.r export-reads.Post (λ κs e. e.1.1.0.now)
export_output_law κs a z z' e e' p q = same p.1.1 q.1.1

pub import_one : OneResult import.ps import.r import-reads.Post
import_one κs a z z' e e' p q = same p.0 q.0

pub import_memory_law : OneExit import.ps import.r import-reads.Post (λ κs e. e.1.0.now)
import_memory_law κs a z z' e e' p q = same p.1.1 q.1.1

pub bad_line_one : OneResult bad-line.ps bad-line.r bad-line-reads.Post
bad_line_one κs a z z' e e' p q = same p q

-- ---- inner calls

pub hex_error_number_one : OneResult hex-error-number.ps hex-error-number.r hex-error-number-reads.Post
hex_error_number_one κs a z z' e e' p q = same p q

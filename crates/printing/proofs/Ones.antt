-- Each public call allows one result, and leaves one content of the bytes that it is lent.
use Rattle.laws.specs.One.{OneResult, OneExit, same}
use Rattle.printing.proofs.put.put_bytes.Kinds as put-bytes
use Rattle.printing.proofs.put.put_bytes.Reads as put-bytes-reads
use Rattle.printing.proofs.digits.put_decimal.Kinds as put-decimal
use Rattle.printing.proofs.digits.put_decimal.Reads as put-decimal-reads
use Rattle.printing.proofs.output.put_header.Kinds as put-header
use Rattle.printing.proofs.output.put_header.Reads as put-header-reads
use Rattle.printing.proofs.output.put_bad.Kinds as put-bad
use Rattle.printing.proofs.output.put_bad.Reads as put-bad-reads
use Rattle.printing.proofs.output.print.Kinds as print
use Rattle.printing.proofs.output.print.Reads as print-reads

pub put_bytes_one : OneResult put-bytes.ps put-bytes.r put-bytes-reads.Post
put_bytes_one κs a z z' e e' p q = same p.1 q.1

pub put_bytes_output : OneExit put-bytes.ps put-bytes.r put-bytes-reads.Post (λ κs e. e.0.now)
put_bytes_output κs a z z' e e' p q = same p.0 q.0

pub put_decimal_one : OneResult put-decimal.ps put-decimal.r put-decimal-reads.Post
put_decimal_one κs a z z' e e' p q = same p.1.0 q.1.0

pub put_decimal_output : OneExit put-decimal.ps put-decimal.r put-decimal-reads.Post (λ κs e. e.0.now)
put_decimal_output κs a z z' e e' p q = same p.0 q.0

pub put_header_one : OneResult put-header.ps put-header.r put-header-reads.Post
put_header_one κs a z z' e e' p q = same p.1 q.1

pub put_header_output : OneExit put-header.ps put-header.r put-header-reads.Post (λ κs e. e.0.now)
put_header_output κs a z z' e e' p q = same p.0 q.0

pub put_bad_one : OneResult put-bad.ps put-bad.r put-bad-reads.Post
put_bad_one κs a z z' e e' p q = same p.1.0 q.1.0

pub put_bad_output : OneExit put-bad.ps put-bad.r put-bad-reads.Post (λ κs e. e.0.now)
put_bad_output κs a z z' e e' p q = same p.0 q.0

pub print_one : OneResult print.ps print.r print-reads.Post
print_one κs a z z' e e' p q = same p.1.0 q.1.0

pub print_output : OneExit print.ps print.r print-reads.Post (λ κs e. e.0.now)
print_output κs a z z' e e' p q = same p.0 q.0

-- Each call allows one result, and one content of what it is lent to write.
use Rattle.laws.specs.One.{OneResult, same}
use denote.RattleType.{RattleType}
use denote.Param.Laws.{Laws, IsCopy}
use mir.Syntax.{Dict}
use Rattle.std.specs.declared.clone.Clone as clone
use Rattle.codes.specs.declared.answers.Numbered as numbered
use Rattle.codes.proofs.answers.ResultNumbered.number.Kinds as answer-number
use Rattle.codes.proofs.answers.ResultNumbered.number.Reads as answer-number-reads
use Rattle.codes.proofs.answers.RefusalNumbered.number.Kinds as refusal-number
use Rattle.codes.proofs.answers.RefusalNumbered.number.Reads as refusal-number-reads
use Rattle.codes.proofs.instructions.decode.Kinds as decode
use Rattle.codes.proofs.instructions.decode.Reads as decode-reads
use Rattle.codes.proofs.instructions.is_write.Kinds as is-write
use Rattle.codes.proofs.instructions.is_write.Reads as is-write-reads
use Rattle.codes.proofs.instructions.is_wrid.Kinds as is-wrid
use Rattle.codes.proofs.instructions.is_wrid.Reads as is-wrid-reads
use Rattle.codes.proofs.instructions.picks_lock.Kinds as picks-lock
use Rattle.codes.proofs.instructions.picks_lock.Reads as picks-lock-reads
use Rattle.codes.proofs.protect.lowest_protected.Kinds as lowest-protected
use Rattle.codes.proofs.protect.lowest_protected.Reads as lowest-protected-reads
use Rattle.codes.proofs.sizes.is_part.Kinds as is-part
use Rattle.codes.proofs.sizes.is_part.Reads as is-part-reads
use Rattle.codes.proofs.sizes.size_of.Kinds as type_size
use Rattle.codes.proofs.sizes.size_of.Reads as size-of-reads
use Rattle.codes.proofs.sizes.page_of.Kinds as page-of
use Rattle.codes.proofs.sizes.page_of.Reads as page-of-reads
use Rattle.codes.proofs.sizes.pages_of.Kinds as pages-of
use Rattle.codes.proofs.sizes.pages_of.Reads as pages-of-reads
use Rattle.codes.proofs.sizes.page_number.Kinds as page-number
use Rattle.codes.proofs.sizes.page_number.Reads as page-number-reads
use Rattle.codes.proofs.sizes.address_bytes_of.Kinds as address-bytes-of
use Rattle.codes.proofs.sizes.address_bytes_of.Reads as address-bytes-of-reads
use Rattle.codes.proofs.sizes.head_of.Kinds as head_of
use Rattle.codes.proofs.sizes.head_of.Reads as head-of-reads
use Rattle.codes.proofs.sizes.most_of.Kinds as most-of
use Rattle.codes.proofs.sizes.most_of.Reads as most-of-reads
use Rattle.codes.proofs.sizes.longest_of.Kinds as longest-of
use Rattle.codes.proofs.sizes.longest_of.Reads as longest-of-reads
use Rattle.codes.proofs.sizes.identified.Kinds as identified
use Rattle.codes.proofs.sizes.identified.Reads as identified-reads
use Rattle.codes.proofs.sizes.wrdi_in_cycle.Kinds as wrdi-in-cycle
use Rattle.codes.proofs.sizes.wrdi_in_cycle.Reads as wrdi-in-cycle-reads
use Rattle.codes.proofs.status.status_byte.Kinds as status-byte
use Rattle.codes.proofs.status.status_byte.Reads as status-byte-reads
use Rattle.codes.proofs.status.writable.Kinds as writable
use Rattle.codes.proofs.status.writable.Reads as writable-reads
use Rattle.codes.proofs.status.srwd_of.Kinds as srwd-of
use Rattle.codes.proofs.status.srwd_of.Reads as srwd-of-reads
use Rattle.codes.proofs.status.bp1_of.Kinds as bp1-of
use Rattle.codes.proofs.status.bp1_of.Reads as bp1-of-reads
use Rattle.codes.proofs.status.bp0_of.Kinds as bp0-of
use Rattle.codes.proofs.status.bp0_of.Reads as bp0-of-reads
use Rattle.codes.proofs.verdicts.judge.Kinds as judge
use Rattle.codes.proofs.verdicts.judge.Reads as judge-reads
use Rattle.codes.proofs.Verdict.is_executed.Kinds as verdict-is-executed
use Rattle.codes.proofs.Verdict.is_executed.Reads as verdict-is-executed-reads
use Rattle.codes.proofs.status.wide.Kinds as wide
use Rattle.codes.proofs.status.wide.Reads as wide-reads

pub refusal_number_one : OneResult refusal-number.ps refusal-number.r refusal-number-reads.Post
refusal_number_one κs a z z' e e' p q = same p q

pub decode_one : OneResult decode.ps decode.r decode-reads.Post
decode_one κs a z z' e e' p q = same p q

pub is_write_one : OneResult is-write.ps is-write.r is-write-reads.Post
is_write_one κs a z z' e e' p q = same p q

pub is_wrid_one : OneResult is-wrid.ps is-wrid.r is-wrid-reads.Post
is_wrid_one κs a z z' e e' p q = same p q

pub picks_lock_one : OneResult picks-lock.ps picks-lock.r picks-lock-reads.Post
picks_lock_one κs a z z' e e' p q = same p q

pub lowest_protected_one : OneResult lowest-protected.ps lowest-protected.r lowest-protected-reads.Post
lowest_protected_one κs a z z' e e' p q = same p q

pub is_part_one : OneResult is-part.ps is-part.r is-part-reads.Post
is_part_one κs a z z' e e' p q = same p q

pub size_of_one : OneResult type_size.ps type_size.r size-of-reads.Post
size_of_one κs a z z' e e' p q = same p.0 q.0

pub page_of_one : OneResult page-of.ps page-of.r page-of-reads.Post
page_of_one κs a z z' e e' p q = same p.0 q.0

pub pages_of_one : OneResult pages-of.ps pages-of.r pages-of-reads.Post
pages_of_one κs a z z' e e' p q = same p q

pub page_number_one : OneResult page-number.ps page-number.r page-number-reads.Post
page_number_one κs a z z' e e' p q = same p.0 q.0

pub address_bytes_of_one : OneResult address-bytes-of.ps address-bytes-of.r address-bytes-of-reads.Post
address_bytes_of_one κs a z z' e e' p q = same p.0 q.0

pub head_of_one : OneResult head_of.ps head_of.r head-of-reads.Post
head_of_one κs a z z' e e' p q = same p.0 q.0

pub most_of_one : OneResult most-of.ps most-of.r most-of-reads.Post
most_of_one κs a z z' e e' p q = same p.0 q.0

pub longest_of_one : OneResult longest-of.ps longest-of.r longest-of-reads.Post
longest_of_one κs a z z' e e' p q = same p.0 q.0

pub identified_one : OneResult identified.ps identified.r identified-reads.Post
identified_one κs a z z' e e' p q = same p q

pub wrdi_in_cycle_one : OneResult wrdi-in-cycle.ps wrdi-in-cycle.r wrdi-in-cycle-reads.Post
wrdi_in_cycle_one κs a z z' e e' p q = same p q

pub status_byte_one : OneResult status-byte.ps status-byte.r status-byte-reads.Post
status_byte_one κs a z z' e e' p q = same p q

pub writable_one : OneResult writable.ps writable.r writable-reads.Post
writable_one κs a z z' e e' p q = same p q

pub srwd_of_one : OneResult srwd-of.ps srwd-of.r srwd-of-reads.Post
srwd_of_one κs a z z' e e' p q = same p q

pub bp1_of_one : OneResult bp1-of.ps bp1-of.r bp1-of-reads.Post
bp1_of_one κs a z z' e e' p q = same p q

pub wide_one : OneResult wide.ps wide.r wide-reads.Post
wide_one κs a z z' e e' p q = same p q

pub bp0_of_one : OneResult bp0-of.ps bp0-of.r bp0-of-reads.Post
bp0_of_one κs a z z' e e' p q = same p q

pub judge_one : OneResult judge.ps judge.r judge-reads.Post
judge_one κs a z z' e e' p q = same p q

pub verdict_is_executed_one : OneResult verdict-is-executed.ps verdict-is-executed.r verdict-is-executed-reads.Post
verdict_is_executed_one κs a z z' e e' p q = same p q

-- of an answer of any two types, whatever the bounds of its impl come with
pub answer_number_one : (A E : RattleType) (i : Laws A) (j : Laws E) (k : IsCopy A) (l : IsCopy E)
    (m : clone.Ghosts A.Denot) (d : Dict) (n : numbered.Ghosts E.Denot) (e : Dict) (o : clone.Ghosts E.Denot) (f : Dict)
    → OneResult (answer-number.ps A E i j k l) (answer-number.r A E i j k l)
    (answer-number-reads.Post A E i j k l m d n e o f)
answer_number_one A E i j k l m d n e o f κs a z z' x x' p q = same p q

-- Each export allows one result.
use Rattle.laws.specs.One.{OneResult, same}
use Rattle.split_c.proofs.cartvesper_split_refusal.Kinds as refusal
use Rattle.split_c.proofs.cartvesper_split_refusal.Reads as refusal-reads
use Rattle.split_c.proofs.cartvesper_split_parts.Kinds as parts
use Rattle.split_c.proofs.cartvesper_split_parts.Reads as parts-reads
use Rattle.split_c.proofs.cartvesper_split_address.Kinds as address
use Rattle.split_c.proofs.cartvesper_split_address.Reads as address-reads
use Rattle.split_c.proofs.cartvesper_split_length.Kinds as length
use Rattle.split_c.proofs.cartvesper_split_length.Reads as length-reads

pub refusal_one : OneResult refusal.ps refusal.r refusal-reads.Post
refusal_one κs a z z' e e' p q = same p q

pub parts_one : OneResult parts.ps parts.r parts-reads.Post
parts_one κs a z z' e e' p q = same p q

pub address_one : OneResult address.ps address.r address-reads.Post
address_one κs a z z' e e' p q = same p q

pub length_one : OneResult length.ps length.r length-reads.Post
length_one κs a z z' e e' p q = same p q

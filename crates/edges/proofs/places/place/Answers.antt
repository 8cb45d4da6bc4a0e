use Rattle.std.proofs.Common.{ℕ, ◌*◌, ◌%◌, ◌^◌, ◌≤◌, ◌≡◌, refl, arith}
use Prim.Native.Nat.{zero, suc}
use Rattle.edges.proofs.places.place.Goals as goal

shifted : (k : ℕ) → k ≤ 4 → 1 * 2 ^ (8 * k) % 18446744073709551616 ≡ 256 ^ k
shifted zero h = refl
shifted (suc zero) h = refl
shifted (suc (suc zero)) h = refl
shifted (suc (suc (suc zero))) h = refl
shifted (suc (suc (suc (suc zero)))) h = refl
shifted (suc (suc (suc (suc (suc k))))) h = absurd (omega arith)

pub returns-clause-value : goal.returns-clause-value
returns-clause-value c = shifted c.args.left c.requires

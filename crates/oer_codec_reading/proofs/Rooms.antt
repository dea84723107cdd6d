-- Numbers of at most eight octets.
use Rattle.std.proofs.Common.{ℕ, ◌+◌, ◌*◌, ◌^◌, ◌<◌, ◌≤◌, arith}
use Rattle.std.proofs.Math.Nat.{pow-le-pow_right}

-- a number of at most seven octets has room for one more in 64 bits
pub room : (i n : ℕ) → i ≤ 7 → n < 256 ^ i → n * 256 + 255 < 2 ^ 64
room i n h l = let p : 256 ^ i ≤ 256 ^ 7 = pow-le-pow_right (omega arith) {i = i} {j = 7} h in omega arith

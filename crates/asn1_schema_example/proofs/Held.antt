-- How many elements a vector holds.
use Rattle.std.proofs.Common.{◌≡◌, ◌≤◌, ◌-◌, ◌^◌, true, length, Vec, Global, arith}
use Rattle.std.proofs.lemmas.Bool.{le-leb}
use Rattle.asn1_schema.specs.Author.{any_number_held, is_count_within}

-- Their number fits 64 bits.
pub is_held : {A : Type 0} (v : Vec A Global) → is_count_within any_number_held (length v.items) ≡ true
is_held v = rw (le-leb 0 (length v.items) (let z : 0 ≤ length v.items = omega arith in z)) (le-leb (length v.items) (2 ^ 64 - 1) (omega (arith, v.ok.0, v.ok.1, v.small)))

-- Bits in a fixed number of octets.
use Rattle.std.specs.Prelude.{ℕ, ◌-◌, ◌*◌, ◌++◌, Bool, false, List, length, replicate}
use Rattle.asn1_model.specs.Numbers.{packed}

-- bits in a given number of octets, followed by zero bits
abbrev pub fixed_octets : ℕ → List Bool → List ℕ
fixed_octets n bits = packed (bits ++ replicate (n * 8 - length bits) false)

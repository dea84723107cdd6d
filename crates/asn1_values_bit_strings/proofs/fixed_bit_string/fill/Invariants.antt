use Rattle.std.proofs.Common.{◌≡◌, ◌++◌, ◌-◌, ◌*◌, ◌<◌, ◌≤◌, ℕ, take, length, get_or}
use Rattle.asn1_model.specs.Numbers.{octet_bits}
use Rattle.asn1_values_bits.specs.BitStr.{bits_of}
use Rattle.asn1_values_bits.proofs.Views.{to_come}
use Rattle.asn1_values_bit_strings.proofs.fixed_bit_string.fill.Given as goal

abbrev pub invariant-loop-octet : goal.invariant-loop-octet
invariant-loop-octet l = record {
  small : (k : ℕ) → k < l.octet-index → get_or l.octet-items k 0 < 256;
  room : length (bits_of l.rest) ≤ (length l.octet-items - l.octet-index) * 8;
  made : octet_bits (take l.octet-index l.octet-items) ++ to_come (length l.octet-items - l.octet-index) (bits_of l.rest) ≡ to_come (length l.octet-items) (bits_of l.fn.bits);
}

use Rattle.std.proofs.Common.{◌≡◌, ◌≤◌, ◌+◌, ◌++◌, take, drop, length}
use Rattle.asn1_model.specs.Numbers.{binary}
use Rattle.asn1_values_bits.proofs.bit_buffer.BitBuffer.put_word.Given as goal

abbrev pub invariant-loop-left : goal.invariant-loop-left
invariant-loop-left l = record {
  place_is : l.place + l.left ≡ l.at + l.width;
  part : l.left ≤ l.width;
  size : length l.self ≡ length l.fn.self;
  written : take l.place l.self ++ (binary l.left l.value ++ drop (l.at + l.width) l.self) ≡ take l.at l.fn.self ++ (binary l.width l.value ++ drop (l.at + l.width) l.fn.self);
}

abbrev pub decreases-loop-left : goal.decreases-loop-left
decreases-loop-left l = l.left

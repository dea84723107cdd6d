use Rattle.std.proofs.Common.{◌≡◌, ◌-◌, take}
use Rattle.asn1_schema_order.specs.LeadingOctets.{leading}
use Rattle.asn1_schema_order.proofs.Leading.{worth}
use Rattle.asn1_schema_order.proofs.encodings.front_of.Given as goal

abbrev pub invariant-loop-octet : goal.invariant-loop-octet
invariant-loop-octet l = record {
  value : l.front ≡ leading 8 (take l.octet-index l.first);
  weight : l.weight ≡ worth (8 - l.octet-index);
}

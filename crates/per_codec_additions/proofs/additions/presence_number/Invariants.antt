use Rattle.std.proofs.Common.{◌≡◌, ◌<◌, ◌^◌, map, take}
use Rattle.asn1_model.specs.Numbers.{binary}
use Rattle.per_codec_additions.specs.Slots.{is_there}
use Rattle.per_codec_additions.proofs.additions.presence_number.Given as goal

abbrev pub invariant-loop-slot : goal.invariant-loop-slot
invariant-loop-slot l = record {
  digits : binary l.slot-index l.number ≡ map is_there (take l.slot-index l.slots);
  fits : l.number < 2 ^ l.slot-index;
}

use Rattle.asn1_schema_decode.proofs.Once.{one_message}
use Rattle.per_codec.specs.Messages.{rules_of}
use Rattle.per_codec.proofs.Once.{one_front}
use Rattle.per_codec.proofs.laws.one_message_is_told.Goals as goal

pub returns : goal.returns
returns c rules = one_message (rules_of rules) (one_front rules)

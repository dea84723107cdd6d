use Rattle.std.proofs.Common.{refl, ◌∙◌}
use Rattle.asn1_schema.specs.Author.{sequence_form}
use Rattle.asn1_schema.proofs.Author.{raised, reads_as, unread_as, reads_constructed, unread_constructed}
use Rattle.asn1_schema.proofs.Author.{unread_constructed_here, count_presence_bits}
use Rattle.asn1_schema_example.specs.Chain.{chain_table, chain_schema, chain_is, chain_opens}
use Rattle.asn1_schema_example.proofs.chain.ChainDecode.decode_with_tag_and_constraints.Goals as goal

pub returns-in_err-begin_sequence-clause-only : goal.returns-in_err-begin_sequence-clause-only
returns-in_err-begin_sequence-clause-only g c = raised _ _ _ c.from_residual.ensures.1
    (unread_as _ _ chain_is (unread_constructed_here sequence_form (chain_table chain_schema) _ (c.number_of_optional_and_default_fields-optional.ensures ∙
    count_presence_bits _ _ c.fields.ensures) refl c.in_err-begin_sequence.ensures.only))

pub returns-in_err-chain-clause-only : goal.returns-in_err-chain-clause-only
returns-in_err-chain-clause-only g c = let one = g.met.D.Decoder.one_record in let carries = g.met.D.Decoder.records_carried in
    raised _ _ _ c.from_residual-in_err-chain.ensures.1
    (unread_as _ _ chain_is (unread_constructed one carries sequence_form (chain_table chain_schema) (c.number_of_optional_and_default_fields-optional.ensures ∙
    count_presence_bits _ _ c.fields.ensures) refl c.in_ok-begin_sequence.ensures.call.level c.in_ok-begin_sequence.ensures.ok c.in_err-chain.ensures.only))

pub returns-clause-ok : goal.returns-clause-ok
returns-clause-ok g c = rw chain_opens
    (reads_as _ _ chain_is (reads_constructed sequence_form (chain_table chain_schema) (c.number_of_optional_and_default_fields-optional.ensures ∙
    count_presence_bits _ _ c.fields.ensures) refl c.in_ok-begin_sequence.ensures.call.level c.in_ok-begin_sequence.ensures.ok c.in_ok-chain.ensures.ok))

use Rattle.std.proofs.Common.{Some}
use Rattle.asn1_table_laws.specs.Walks.{NoValue}
use Rattle.asn1_table_nodes.specs.Meaning.{type_of}
use Rattle.asn1_table_nodes.specs.declared.nodes.TypeNode.TheVariants.{Integer, BitString, OctetString, CharacterString}
use Rattle.asn1_table_walker.proofs.Looping.{refused_there}
use Rattle.asn1_table_walker.proofs.opening.read_single.Goals as goal

pub returns-in-Integer-clause-only : goal.returns-in-Integer-clause-only
returns-in-Integer-clause-only g c = rw c.in-Integer.is (refused_there
    (λ ns x. NoValue g.D.Decoder.step g.D.Decoder.too_few (type_of ns (g.D.Decoder.levels c.args.decoder.now) (Some (Integer c.in-Integer.limits))) c.args.decoder.now c.read_number.new.decoder x)
    c.read_number.result c.args.types.now.nodes.items c.read_number.ensures.only)

pub returns-in-BitString-clause-only : goal.returns-in-BitString-clause-only
returns-in-BitString-clause-only g c = rw c.in-BitString.is (refused_there
    (λ ns x. NoValue g.D.Decoder.step g.D.Decoder.too_few (type_of ns (g.D.Decoder.levels c.args.decoder.now) (Some (BitString c.in-BitString.sizes))) c.args.decoder.now c.read_bits.new.decoder x)
    c.read_bits.result c.args.types.now.nodes.items c.read_bits.ensures.only)

pub returns-in-OctetString-clause-only : goal.returns-in-OctetString-clause-only
returns-in-OctetString-clause-only g c = rw c.in-OctetString.is (refused_there
    (λ ns x. NoValue g.D.Decoder.step g.D.Decoder.too_few (type_of ns (g.D.Decoder.levels c.args.decoder.now) (Some (OctetString c.in-OctetString.sizes))) c.args.decoder.now c.read_octets.new.decoder x)
    c.read_octets.result c.args.types.now.nodes.items c.read_octets.ensures.only)

pub returns-in-CharacterString-clause-only : goal.returns-in-CharacterString-clause-only
returns-in-CharacterString-clause-only g c = rw c.in-CharacterString.is (refused_there
    (λ ns x. NoValue g.D.Decoder.step g.D.Decoder.too_few (type_of ns (g.D.Decoder.levels c.args.decoder.now) (Some (CharacterString c.in-CharacterString.table))) c.args.decoder.now c.read_text.new.decoder x)
    c.read_text.result c.args.types.now.nodes.items c.read_text.ensures.only)

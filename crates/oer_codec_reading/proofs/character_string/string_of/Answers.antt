use Rattle.std.proofs.Common.{inr, sym, subst, ◌≡◌, true, ◌∙◌, arith}
use Rattle.asn1_values_alphabets.specs.Permitted.{permits_all}
use Rattle.oer_codec_reading.proofs.Spelled.{at_end, one_more, permits_more, refused_at}
use Rattle.oer_codec_reading.proofs.character_string.string_of.Goals as goal

pub returns-then-not-contains_char-clause-refused : goal.returns-then-not-contains_char-clause-refused
returns-then-not-contains_char-clause-refused g c =
    inr (refused_at g.S.StaticPermittedAlphabet.kind c.args.wide c.args.octets.now c.octets_each.result c.loop-place.place
    c.character_at-character.result c.octets_each.ensures c.loop-place-test.true c.character_at-character.ensures (sym c.contains_char.ensures ∙ c.if-not-contains_char.true))

pub loop-place-preserved : goal.loop-place-preserved
loop-place-preserved g c =
    let k = g.S.StaticPermittedAlphabet.kind in
    let i = c.loop-place.place in
    record {
      held = one_more c.args.wide c.args.octets.now (g.S.StaticPermittedAlphabet.characters c.loop-place.string)
          (g.S.StaticPermittedAlphabet.characters c.push_char.new.self) c.octets_each.result i c.character_at-character.result c.octets_each.ensures
          c.loop-place-test.true c.loop-place.invariant.held c.character_at-character.ensures c.in-Ok-push_char.ensures.pushed;
      permitted = permits_more k c.args.wide c.args.octets.now c.octets_each.result i c.character_at-character.result c.octets_each.ensures
          c.loop-place-test.true c.loop-place.invariant.permitted c.character_at-character.ensures (sym c.contains_char.ensures ∙ c.if-not-contains_char.false);
    }

pub returns-clause-characters : goal.returns-clause-characters
returns-clause-characters g c = c.loop-place.invariant.held ∙ at_end c.args.wide c.args.octets.now c.octets_each.result c.loop-place.place c.octets_each.ensures (omega arith)

pub returns-clause-permitted : goal.returns-clause-permitted
returns-clause-permitted g c = subst (λ cs. permits_all g.S.StaticPermittedAlphabet.kind cs ≡ true)
    (at_end c.args.wide c.args.octets.now c.octets_each.result c.loop-place.place c.octets_each.ensures (omega arith)) c.loop-place.invariant.permitted

use Rattle.std.proofs.Common.{◌+◌, ◌∷◌, [], length, ap, ◌∙◌, length-append}
use Rattle.asn1_values_fields.specs.Written.{codes_of}
use Rattle.asn1_values_fields.proofs.Appending.{characters_next, rest_next}
use Rattle.asn1_values_fields.proofs.reading.read_characters.Goals as goal

pub loop-i-preserved : goal.loop-i-preserved
loop-i-preserved c =
    let a = c.args.alphabet.now in
    let all = c.args.reader.now.bits in
    let cs = c.loop-i.characters.items in
    let ch = c.in_ok-character.character in
    let items = c.in-Ok.ensures.items in
    record {
      count = ap length items ∙ length-append cs (ch ∷ []) ∙ ap (λ k. k + 1) c.loop-i.invariant.count;
      codes = ap (codes_of a) items ∙ characters_next a cs ch c.loop-i.i all c.loop-i.reader.bits c.loop-i.invariant.rest c.in_ok-character.ensures.character c.loop-i.invariant.codes;
      rest = rest_next c.loop-i.i a.code_bits all c.loop-i.reader.bits c.read_character.new.reader.bits c.loop-i.invariant.rest c.in_ok-character.ensures.rest;
    }

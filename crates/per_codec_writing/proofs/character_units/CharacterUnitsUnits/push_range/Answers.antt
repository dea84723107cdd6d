use Rattle.std.proofs.Common.{◌≡◌, ◌<◌, length, slice_range, ap, ◌∙◌, arith}
use Rattle.std.specs.Prelude.{unwrap_or}
use Rattle.asn1_model.specs.Numbers.{binary}
use Rattle.per_codec_packing.specs.FieldLists.{as_field_list}
use Rattle.per_codec_writing.specs.Writing.{plus}
use Rattle.per_codec_writing.specs.Units.{together}
use Rattle.per_codec_alphabets.specs.Codes.{text_of}
use Rattle.per_codec_writing.specs.Characters.{field_lists_of}
use Rattle.per_codec_writing.proofs.CharacterFieldLists.{length-forms, one_more}
use Rattle.per_codec_writing.proofs.UnitFieldLists.{range_added}
use Rattle.per_codec_writing.proofs.character_units.CharacterUnitsUnits.push_range.Goals as goal

pub loop-place-preserved : goal.loop-place-preserved
loop-place-preserved g c =
    let a = c.args.self.now.alphabet.now in
    let cs = g.S.StaticPermittedAlphabet.characters c.args.self.now.string.now in
    let n = length-forms a cs in
    let within : c.loop-place.place < length cs = omega (arith, n, c.requires.within, c.loop-place-test.true) in
    let code : c.from.result ≡ unwrap_or c.code.result 0 = c.from.ensures ∙ c.unwrap_or-code.ensures in
    let pushed : c.push_bits.new.self ≡ plus c.loop-place.output (as_field_list (text_of a c.char_at.result)) = c.in_ok-push_bits.ensures.ok ∙
    ap (λ b. plus c.loop-place.output (as_field_list (binary b c.from.result))) c.width-width.ensures.bits ∙
    ap (λ k. plus c.loop-place.output (as_field_list (binary a.code_bits k))) (code ∙ ap (λ o. unwrap_or o 0) c.code.ensures) in
    one_more a cs c.args.from c.loop-place.place c.char_at.result c.args.output.now c.loop-place.output c.push_bits.new.self c.loop-place.auto.place
    within c.char_at.ensures c.loop-place.invariant pushed

pub returns : goal.returns
returns g c =
    let ts = field_lists_of c.args.self.now.alphabet.now (g.S.StaticPermittedAlphabet.characters c.args.self.now.string.now) in
    let all : c.loop-place.place ≡ c.args.to = omega (arith, c.loop-place-test.false, c.loop-place.auto.place-end, c.requires.order) in
    range_added ts c.args.from c.args.to c.args.output.now c.loop-place.output (c.loop-place.invariant ∙ ap (λ j. plus c.args.output.now (as_field_list (together (slice_range ts c.args.from j)))) all)

use Rattle.std.proofs.Common.{map, subst, ap, ◌∙◌}
use Rattle.std.specs.Result.{MatchResult}
use Rattle.asn1_model.specs.Per
use Rattle.asn1_model.specs.Schema.{any_count}
use Rattle.asn1_schema_constraints.specs.Terms.{size_of}
use Rattle.per_codec_packing.specs.FieldLists.{field_list_at}
use Rattle.per_codec_writing.proofs.CharacterFieldLists.{based_forms}
use Rattle.per_codec_writing.specs.Characters.{low_bits}
use Rattle.per_codec_writing.specs.Units.{unit_forms}
use Rattle.per_codec_writing.specs.Writing.{Adds, Refuses, place}
use Rattle.per_codec_rules.specs.Variants.{is_aligned}
use Rattle.per_codec_writing.proofs.character_string.push_based.Goals as goal

pub returns-in-Some : goal.returns-in-Some
returns-in-Some g c =
    let old = c.args.output.now in
    subst (λ us. MatchResult c.push_sized.result
    (λ _. Adds (field_list_at (Per.sized (is_aligned c.args.variant) (size_of c.args.sizes) any_count (λ _. c.args.has_padding) us) (place old))
    old c.push_sized.new.output) (Refuses (field_list_at (Per.sized (is_aligned c.args.variant) (size_of c.args.sizes) any_count (λ _. c.args.has_padding) us) (place old))))
    (ap (λ w. unit_forms (map (low_bits c.args.base w) c.in-Some.octets.now)) c.width-width.ensures.bits
    ∙ ap (λ l. unit_forms (map (low_bits c.args.base c.args.units.now.alphabet.now.code_bits) l)) c.in-Some.ensures.characters
    ∙ based_forms c.args.units.now.alphabet.now c.args.base (g.S.StaticPermittedAlphabet.characters c.args.units.now.string.now) c.requires.codes c.requires.coded) c.push_sized.ensures

use Rattle.std.proofs.Common.{refl}
use Rattle.per_codec_writing.proofs.OctetFieldLists.{octets_field_list}
use Rattle.per_codec_rules.specs.Variants.{is_aligned}
use Rattle.per_codec_writing.proofs.character_string.push_octets.Goals as goal

pub returns : goal.returns
returns g c = octets_field_list (is_aligned c.args.variant) g.S.StaticPermittedAlphabet.kind _
    (g.S.StaticPermittedAlphabet.characters c.args.value.now) c.args.output.now _ _ c.requires.kind c.requires.permitted refl
    c.in_ok-alphabet.ensures.characters c.in_ok-alphabet.ensures.width c.in_ok-push_counted.ensures

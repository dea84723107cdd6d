use Rattle.std.proofs.Common.{◌&&◌, ap, ◌∙◌}
use Rattle.std.specs.Prelude.{not}
use Rattle.asn1_model.specs.Strings.{characters_of, is_among}
use Rattle.per_codec_alphabets.proofs.OctetCodes.{by_two}
use Rattle.per_codec_alphabets.proofs.octets.have_octet_codes.Goals as goal

pub returns-then-contains_char : goal.returns-then-contains_char
returns-then-contains_char g c =
    let k = g.S.StaticPermittedAlphabet.kind in
    ap not c.contains_char-then-contains_char.ensures ∙ ap (λ t. t && not (is_among (characters_of k) 128)) c.if-contains_char.ensures ∙ by_two k

pub returns-else-contains_char : goal.returns-else-contains_char
returns-else-contains_char g c =
    let k = g.S.StaticPermittedAlphabet.kind in
    c.if-contains_char.false ∙ ap (λ t. t && not (is_among (characters_of k) 128)) c.if-contains_char.ensures ∙ by_two k

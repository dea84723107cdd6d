use Rattle.std.proofs.Common.{sym, subst}
use Rattle.per_codec_alphabets.specs.Codes.{SameCharacters}
use Rattle.per_codec_writing.proofs.CharacterFieldLists.{all_coded}
use Rattle.asn1_model.specs.Strings.{characters_of}
use Rattle.per_codec_writing.proofs.character_string.have_codes.Goals as goal

pub returns : goal.returns
returns g c =
    let k = g.S.StaticPermittedAlphabet.kind in
    let a = c.args.units.now.alphabet.now in
    sym (all_coded a (characters_of k) (g.S.StaticPermittedAlphabet.characters c.args.units.now.string.now)
    (subst (λ rs. SameCharacters a.runs rs) (c.is_narrowed.ensures c.if-is_narrowed.false k) c.requires) c.char_count-count.ensures.permitted)

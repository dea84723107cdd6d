use Rattle.std.proofs.Common.{◌≡◌, ◌∙◌, arith}
use Rattle.asn1_model.specs.Strings.{largest}
use Rattle.asn1_values_alphabets.specs.Codes.{singles}
use Rattle.asn1_values_alphabets.proofs.Coded.{is_by_number, largest-empty, largest-last}
use Rattle.asn1_values_alphabets.proofs.alphabet.is_below.Goals as goal
use Rattle.asn1_values_alphabets.proofs.alphabet.is_below.Goals.{in-empty, in-len1-up}

pub returns : goal.returns
returns c =
    let last : c.if-characters-lt1.last ≡ largest (singles c.args.characters.now) =
    elim c.if-characters-lt1.branch [ in-empty w ↦ w.last-is ∙ largest-empty c.args.characters.now (omega arith) | in-len1-up w ↦ w.last-is ∙ largest-last c.args.characters.now _ (omega arith) ] in
    is_by_number c.args.characters.now c.from.result c.args.width c.requires (c.from.ensures ∙ last)

use Rattle.std.proofs.Common.{rules, ◌≡◌, true, string_bytes, sym, ◌∙◌}
use Rattle.std.specs.Str.{chars, IsAscii}
use Rattle.std.proofs.lemmas.Str.{chars-IsAscii}
use Rattle.std.proofs.lemmas.Result.{err_from_is_err_and}
use Rattle.asn1_values_alphabets.specs.Permitted.{permits_all, IsOutside}
use Rattle.asn1_values_alphabets.proofs.Permitted.{refused_outside}
use Rattle.asn1_values_strings.proofs.restricted.RestrictedStringTryFromString.try_from.Goals as goal

pub returns-in_err-string : goal.returns-in_err-string
returns-in_err-string g c =
    let ascii : IsAscii (string_bytes c.args.text) = search rules in
    let spelt : chars (string_bytes c.args.text) ≡ string_bytes c.args.text = chars-IsAscii (string_bytes c.args.text) ascii in
    let outside : IsOutside g.K.CharacterKind.kind g.K.CharacterKind.refused (string_bytes c.args.text) c.in_err-string.field-0.0 = search rules in
    let p = err_from_is_err_and c.from_residual.result c.from_residual.ensures.1 in
    rw (p.1, p.2, spelt) (refused_outside g.K.CharacterKind.kind g.K.CharacterKind.refused (string_bytes c.args.text) c.in_err-string.field-0.0 outside)

pub returns : goal.returns
returns g c =
    let ascii : IsAscii (string_bytes c.args.text) = search rules in
    let spelt : chars (string_bytes c.args.text) ≡ string_bytes c.args.text = chars-IsAscii (string_bytes c.args.text) ascii in
    let permitted : permits_all g.K.CharacterKind.kind (string_bytes c.args.text) ≡ true = search rules in
    let same : c.in_ok-string.string ≡ string_bytes c.args.text = search rules in
    (same ∙ sym spelt, rw spelt permitted)

use Rattle.std.proofs.Common.{◌≡◌, true}
use Rattle.std.proofs.lemmas.Str.{IsUtf8-from_ascii}
use Rattle.std.specs.Str.{IsUtf8}
use Rattle.asn1_values_alphabets.specs.Permitted.{permits, permits_all}
use Rattle.asn1_values_alphabets.proofs.Permitted.{IsAscii-permitted, ok_unless}
use Rattle.asn1_values_strings.proofs.restricted.RestrictedString.as_str.Goals as goal

pub unwrap-requires : goal.unwrap-requires
unwrap-requires g c =
    let p : permits_all g.K.CharacterKind.kind c.args.self.now ≡ true = c.as_bytes.ensures.permitted in
    let u : IsUtf8 c.as_bytes.result.now = rw c.as_bytes.ensures.characters
    (IsUtf8-from_ascii c.args.self.now (IsAscii-permitted (permits g.K.CharacterKind.kind) c.args.self.now g.met.K.TextKind.ascii p)) in
    ok_unless c.from_utf8.result _ _ c.from_utf8.ensures.cases (λ e bad. bad.0 u)

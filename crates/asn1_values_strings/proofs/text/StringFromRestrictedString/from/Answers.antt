use Rattle.std.proofs.Common.{◌≡◌, true}
use Rattle.std.proofs.lemmas.Str.{IsUtf8-from_ascii}
use Rattle.asn1_values_alphabets.specs.Permitted.{permits, permits_all}
use Rattle.asn1_values_alphabets.proofs.Permitted.{IsAscii-permitted}
use Rattle.asn1_values_strings.proofs.text.StringFromRestrictedString.from.Goals as goal

pub unwrap-requires : goal.unwrap-requires
unwrap-requires g c =
    let p : permits_all g.K.CharacterKind.kind c.args.string ≡ true = c.into_vec.ensures.permitted in
    c.from_utf8.ensures.succeeds (rw c.into_vec.ensures.characters (IsUtf8-from_ascii c.args.string (IsAscii-permitted (permits g.K.CharacterKind.kind) c.args.string g.met.K.TextKind.ascii p)))

use Rattle.std.proofs.Common.{rules, ◌≡◌, None}
use Rattle.asn1_values_alphabets.specs.Permitted.{permits, first_refused}
use Rattle.asn1_values_alphabets.proofs.Permitted.{list_all-find}
use Rattle.asn1_values_strings.proofs.restricted.ensure_permitted.Goals as goal

pub returns-in-None-clause-permitted : goal.returns-in-None-clause-permitted
returns-in-None-clause-permitted g c =
    let none : first_refused g.K.CharacterKind.kind c.args.octets.now ≡ None = search rules in
    list_all-find (permits g.K.CharacterKind.kind) c.args.octets.now none

use Rattle.std.proofs.Common.{rules, ◌≡◌, None}
use Rattle.std.specs.Str.{chars}
use Rattle.asn1_values_alphabets.specs.Permitted.{permits, first_refused}
use Rattle.asn1_values_alphabets.proofs.Permitted.{list_all-find}
use Rattle.asn1_values_alphabets.proofs.static_alphabet.ensure_permitted_text.Goals as goal

pub returns-in-None-clause-permitted : goal.returns-in-None-clause-permitted
returns-in-None-clause-permitted g c =
    let none : first_refused g.S.StaticPermittedAlphabet.kind (chars c.args.text.now) ≡ None = search rules in
    list_all-find (permits g.S.StaticPermittedAlphabet.kind) (chars c.args.text.now) none

use Rattle.std.proofs.Common.{refl, sym, arith}
use Rattle.std.proofs.lemmas.List.Recursion.{and_from_places}
use Rattle.asn1_values_alphabets.specs.Permitted.{permits, permits_all}
use Rattle.asn1_schema_records.proofs.fitting.are_permitted.Goals as goal

pub returns : goal.returns
returns g c = sym (and_from_places (permits_all g.S.StaticPermittedAlphabet.kind) (permits g.S.StaticPermittedAlphabet.kind) refl (λ _ _. refl)
    c.args.characters.now 0 (λ i l. c.loop-character.invariant i (omega arith)))

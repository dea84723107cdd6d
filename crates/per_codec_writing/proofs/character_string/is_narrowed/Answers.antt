use Rattle.std.proofs.Common.{◌≡◌, true, Some, refl, ap, ◌∙◌}
use Rattle.std.specs.Prelude.{not}
use Rattle.asn1_model.specs.Schema.{Alphabet, StringKind}
use Rattle.asn1_model.specs.Strings.{characters_of, permitted}
use Rattle.asn1_schema_constraints.specs.Terms.{alphabet_of}
use Rattle.per_codec_writing.proofs.character_string.is_narrowed.Goals as goal

whole : (k : StringKind) (a : Alphabet) → a.extensible ≡ true → permitted k a ≡ characters_of k
whole k a e = rw e refl

pub returns-in-Some : goal.returns-in-Some
returns-in-Some c e k = ap (λ o. permitted k (alphabet_of o)) c.in-Some.is ∙ whole k (alphabet_of (Some c.in-Some.narrower)) (c.is_none.ensures ∙ ap not e)

pub returns-in-None : goal.returns-in-None
returns-in-None c e k = ap (λ o. permitted k (alphabet_of o)) c.in-None.is

use Rattle.asn1_model.specs.Schema.{any_alphabet}
use Rattle.std.proofs.Common.{◌≡◌, ◌∙◌, ℕ, true, List, rules}
use Rattle.asn1_model.specs.Schema.{Size, visible, any_count}
use Rattle.asn1_schema_laws.specs.Records.{characters}
use Rattle.asn1_schema_records.proofs.Taking.{takes_characters, no_characters}
use Rattle.asn1_schema_records.specs.Kept.{record_of, sizes_in}
use Rattle.asn1_values_alphabets.specs.Permitted.{permits_all}
use Rattle.asn1_schema_records.proofs.decoder.RecordDecoderDecoder.decode_characters.Goals as goal

pub returns-in_default-clause-only : goal.returns-in_default-clause-only
returns-in_default-clause-only g c =
    let apart : (z : Size) (cs : List ℕ) → record_of c.in_ok-item.item ≡ characters visible z any_alphabet any_count cs → ⊥ = search rules in
    no_characters g.met.S.StaticPermittedAlphabet.holds c.in_ok-item.ensures.ok apart

pub returns-in-Ok-clause-ok : goal.returns-in-Ok-clause-ok
returns-in-Ok-clause-ok g c =
    let k : record_of c.in_ok-item.item ≡ characters visible (sizes_in c.in-Some.sizes) any_alphabet any_count c.in-Some.characters.items = search rules in
    let same = c.are_among.ensures.0 c.if-not-are_among.false in
    let w : permits_all g.S.StaticPermittedAlphabet.kind c.in-Some.characters.items ≡ true = rw c.as_slice.ensures.value at c.in-Ok.ensures.permitted in
    takes_characters g.met.S.StaticPermittedAlphabet.holds c.in_ok-item.ensures.ok k same w (c.in-Ok.ensures.value ∙ c.as_slice.ensures.value)

use Rattle.std.proofs.Common.{IfOk, Ok, Err, Result, subst}
use Rattle.asn1_schema_constraints.specs.Bounds.{counts_of}
use Rattle.asn1_schema_constraints.specs.Terms.{size_of}
use Rattle.asn1_schema_laws.specs.Records.{octets}
use Rattle.per_codec_reading.specs.Octets.{octets_of, AreLent, AreUnowned}
use Rattle.per_codec_reading.specs.declared.input_octets.InputOctets.{InputOctets}
use Rattle.per_codec_reading.specs.declared.input_octets.InputOctets.TheVariants.{Lent, Few, Owned}
use Rattle.per_codec_decoder.specs.Held.{Lends}
use Rattle.per_codec_decoder.specs.declared.octets.StringOctets.{StringOctets}
use Rattle.per_codec_decoder.proofs.decoder.DecoderDecoder.decode_octet_string.Goals as goal

-- Octets that are lent have no memory of their own.
lent_unowned : (found : InputOctets) → AreLent found → AreUnowned found
lent_unowned (Lent run) l = l
lent_unowned (Few run) l = elim l [ ]
lent_unowned (Owned run) l = elim l [ ]

unowned : {E : Type 0} (r : Result StringOctets E) (P : StringOctets → Type 0) → IfOk r (λ x. P x → AreLent x.octets) → IfOk r (λ x. P x → AreUnowned x.octets)
unowned (Ok x) P h = λ p. lent_unowned x.octets (h p)
unowned (Err e) P h = tt

pub returns-clause-lent : goal.returns-clause-lent
returns-clause-lent c =
    let r = c.find_octets.result in
    let old = c.args.self.now in
    let new = c.find_octets.new.self in
    let h = counts_of c.args.held in
    subst (λ z. IfOk r (λ x. Lends old (octets z h (octets_of x.octets)) new → AreUnowned x.octets)) c.sizes.ensures
    (unowned r (λ x. Lends old (octets (size_of c.sizes.result) h (octets_of x.octets)) new) c.find_octets.ensures.lent)

-- What is read of another version's octets, by the law that octets have one meaning.
use Rattle.std.proofs.Common.{◌≡◌, ℕ, true, false, List, [], Some, refl, sym, ◌∙◌}
use Rattle.asn1_model.specs.Value.{Value, same}
use Rattle.asn1_model.specs.Schema.{Schema}
use Rattle.asn1_model.specs.Lawful.{is_lawful}
use Rattle.asn1_model.specs.Normal.{normal}
use Rattle.asn1_model.specs.Tidy.{is_normal}
use Rattle.asn1_model.specs.Rules.{Rules, uper, aper, uper_strict, aper_strict, oer, coer, canonical, encoding, IsEncoding}
use Rattle.asn1_model.specs.Versions.{Extends, drop, grow}
use Rattle.asn1_model.proofs.Forms.{widens}
use Rattle.asn1_laws_values.proofs.PerRead.{message_normal}
use Rattle.asn1_laws_values.proofs.OerRead.{octets_normal}
use Rattle.asn1_laws_fronts.proofs.Forms.{one_front_uper, one_front_aper}
use Rattle.asn1_laws_fronts.proofs.OctetForms.{one_front_oer}
use Rattle.asn1_laws_versions.proofs.Messages.{older_reads_uper, older_reads_aper, newer_reads_uper, newer_reads_aper}
use Rattle.asn1_laws_versions.proofs.OerVersions.{older_reads_oer, newer_reads_oer}

-- ---- the lenient rules of a set, which write the same
abbrev pub lenient_of : Rules → Rules
lenient_of uper = uper
lenient_of aper = aper
lenient_of uper_strict = uper
lenient_of aper_strict = aper
lenient_of oer = oer
lenient_of coer = oer

pub writes_alike : (r : Rules) (s : Schema) (v : Value) → canonical r s v ≡ canonical (lenient_of r) s v
unfolding canonical encoding
writes_alike uper s v = refl
writes_alike aper s v = refl
writes_alike uper_strict s v = refl
writes_alike aper_strict s v = refl
writes_alike oer s v = refl
writes_alike coer s v = refl

pub reads_alike : (r : Rules) (s : Schema) (v : Value) (w : List ℕ) → IsEncoding r s v w → IsEncoding (lenient_of r) s v w
unfolding IsEncoding
reads_alike uper s v w h = h
reads_alike aper s v w h = h
reads_alike uper_strict s v w h = (h.0, widens _ _ _ _ _ (λ c k. refl) h.1)
reads_alike aper_strict s v w h = (h.0, widens _ _ _ _ _ (λ c k. refl) h.1)
reads_alike oer s v w h = h
reads_alike coer s v w h = (h.0, widens _ _ _ _ _ (λ c k. refl) h.1)

one_meaning : (r : Rules) (s : Schema) (v u : Value) (w : List ℕ) → is_lawful s ≡ true → IsEncoding (lenient_of r) s v w → IsEncoding (lenient_of r) s u w → same v u ≡ true
one_meaning uper s v u w l f g = (one_front_uper s v u w w [] [] l f g refl).1
one_meaning aper s v u w l f g = (one_front_aper s v u w w [] [] l f g refl).1
one_meaning uper_strict s v u w l f g = (one_front_uper s v u w w [] [] l f g refl).1
one_meaning aper_strict s v u w l f g = (one_front_aper s v u w w [] [] l f g refl).1
one_meaning oer s v u w l f g = (one_front_oer s v u w w [] [] l f g refl).1
one_meaning coer s v u w l f g = (one_front_oer s v u w w [] [] l f g refl).1

older_reads : (r : Rules) (old new : Schema) (v u : Value) (w : List ℕ) → Extends old new → drop old new v ≡ Some u → canonical (lenient_of r) new v ≡ Some w → IsEncoding (lenient_of r) old u w
older_reads uper = older_reads_uper
older_reads aper = older_reads_aper
older_reads uper_strict = older_reads_uper
older_reads aper_strict = older_reads_aper
older_reads oer = older_reads_oer
older_reads coer = older_reads_oer

newer_reads : (r : Rules) (old new : Schema) (u v : Value) (w : List ℕ) → Extends old new → grow old new (normal old u) ≡ Some v →
    canonical (lenient_of r) old u ≡ Some w → IsEncoding (lenient_of r) new v w
newer_reads uper = newer_reads_uper
newer_reads aper = newer_reads_aper
newer_reads uper_strict = newer_reads_uper
newer_reads aper_strict = newer_reads_aper
newer_reads oer = newer_reads_oer
newer_reads coer = newer_reads_oer

pub reads_the_drop : (r : Rules) (old new : Schema) (v u x : Value) (w : List ℕ) → is_lawful old ≡ true → Extends old new →
    drop old new v ≡ Some u → canonical r new v ≡ Some w → IsEncoding r old x w → same x u ≡ true
reads_the_drop r old new v u x w l h d e f = one_meaning r old x u w l (reads_alike r old x w f) (older_reads r old new v u w h d (sym (writes_alike r new v) ∙ e))

pub reads_the_growth : (r : Rules) (old new : Schema) (u v x : Value) (w : List ℕ) → is_lawful new ≡ true → Extends old new →
    grow old new (normal old u) ≡ Some v → canonical r old u ≡ Some w → IsEncoding r new x w → same x v ≡ true
reads_the_growth r old new u v x w l h g e f = one_meaning r new x v w l (reads_alike r new x w f) (newer_reads r old new u v w h g (sym (writes_alike r old u) ∙ e))

pub strict_uper : (s : Schema) (v : Value) (w : List ℕ) → IsEncoding uper_strict s v w → is_normal s v ≡ true
unfolding IsEncoding
strict_uper s v w h = message_normal false s v _ h.1

pub strict_aper : (s : Schema) (v : Value) (w : List ℕ) → IsEncoding aper_strict s v w → is_normal s v ≡ true
unfolding IsEncoding
strict_aper s v w h = message_normal true s v _ h.1

pub strict_octets : (s : Schema) (v : Value) (w : List ℕ) → IsEncoding coer s v w → is_normal s v ≡ true
unfolding IsEncoding
strict_octets s v w h = octets_normal s v w h.1

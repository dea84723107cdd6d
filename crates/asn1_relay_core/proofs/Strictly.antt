-- What strict rules read is canonical, where no freedom changes it.
use Rattle.std.proofs.Common.{◌≡◌, ℕ, true, false, List, Some, subst, sym, ◌∙◌}
use Rattle.asn1_model.specs.Value.{Value}
use Rattle.asn1_model.specs.Schema.{Schema}
use Rattle.asn1_model.specs.Normal.{normal}
use Rattle.asn1_model.specs.Rules.{Rules, uper_strict, aper_strict, coer, IsEncoding, canonical}
use Rattle.asn1_laws_values.proofs.Normal.{normal_stays}
use Rattle.asn1_laws_values.proofs.PerRead.{message_normal}
use Rattle.asn1_laws_values.proofs.OerRead.{octets_normal}
use Rattle.asn1_laws_across.proofs.InOrder.{own_width}
use Rattle.asn1_laws_across.proofs.Narrowed.{with_own_width}
use Rattle.asn1_relay_core.specs.Strictly.{IsReadCanonically, StrictIsReadCanonically}

read_canonically : (r : Rules) → ((s : Schema) (v : Value) (w : List ℕ) → IsEncoding r s v w → normal s v ≡ v) → IsReadCanonically r
read_canonically r n schema v input rest t o k =
    let s = schema 128 in
    let w = t.message.message in
    subst (λ x. canonical r s x ≡ Some w) (sym (n s t.raw w t.message.encoding) ∙ t.means)
    (own_width r s t.raw w o (with_own_width r s t.raw w t.message.encoding k))

in_strict_uper : (s : Schema) (v : Value) (w : List ℕ) → IsEncoding uper_strict s v w → normal s v ≡ v
unfolding IsEncoding
in_strict_uper s v w r = normal_stays s v (message_normal false s v _ r.1)

in_strict_aper : (s : Schema) (v : Value) (w : List ℕ) → IsEncoding aper_strict s v w → normal s v ≡ v
unfolding IsEncoding
in_strict_aper s v w r = normal_stays s v (message_normal true s v _ r.1)

in_coer : (s : Schema) (v : Value) (w : List ℕ) → IsEncoding coer s v w → normal s v ≡ v
unfolding IsEncoding
in_coer s v w r = normal_stays s v (octets_normal s v w r.1)

pub strictly_canonical : StrictIsReadCanonically
strictly_canonical = (read_canonically uper_strict in_strict_uper, read_canonically aper_strict in_strict_aper, read_canonically coer in_coer)

-- What one version reads of what the other writes, from what holds of forms.
use Rattle.std.proofs.Common.{◌≡◌, ℕ, Bool, true, false, List, ◌++◌, Some, None, option_and_then, refl, ap, sym, ◌∙◌, subst}
use Rattle.asn1_model.specs.Value.{Value, same}
use Rattle.asn1_model.specs.Schema.{Schema}
use Rattle.asn1_model.specs.Lawful.{is_lawful}
use Rattle.asn1_model.specs.Normal.{normal}
use Rattle.asn1_model.specs.Tidy.{is_normal}
use Rattle.asn1_model.specs.Form.{Reads}
use Rattle.asn1_model.specs.Rules.{Rules, uper, aper, uper_strict, aper_strict, oer, coer, canonical, encoding, per, octet_encoding, octet_bits, of_moderate_length, IsEncoding, lenient}
use Rattle.asn1_model.specs.Per
use Rattle.asn1_model.specs.Oer
use Rattle.asn1_model.specs.Versions.{Extends, drop, grow, carried}
use Rattle.asn1_laws_values.proofs.Covers.{Covers, covers_same, covers_within}
use Rattle.asn1_laws_values.proofs.Messages.{per_text, octet_text}
use Rattle.asn1_laws_values.proofs.Normals.{normal_normal, tells_normal}
use Rattle.asn1_laws_values.proofs.IsNormal.{stays_normal}
use Rattle.asn1_laws_values.proofs.Normal.{normal_stays}
use Rattle.asn1_laws_values.proofs.Same.{same_turned}
use Rattle.asn1_laws_across.proofs.Canonical.{canonical_same}
use Rattle.asn1_laws_versions.proofs.Lifted.{lessen_lifted, grow_lifted}
use Rattle.asn1_laws_fronts.proofs.Complete.{complete_alike, octet_fronts}
use Rattle.asn1_laws_versions.proofs.Messages as packed
use Rattle.asn1_laws_versions.proofs.OerVersions as octets
use Rattle.asn1_laws_versions.proofs.Exact.{lenient_of, writes_alike, reads_alike, reads_the_drop, reads_the_growth, strict_uper, strict_aper, strict_octets}
use Rattle.asn1_laws_versions.proofs.Normals.{grown_is_normal}
use Rattle.asn1_laws_versions.specs.ExactLaws.{MayBeRead, IsLeft, IsGrown}
use Rattle.asn1_laws_versions.proofs.Taken.{as_written, covers_written, of_text}
use Rattle.asn1_laws_versions.proofs.Parts.{There}
use Rattle.asn1_laws_versions.proofs.Packed as packing
use Rattle.asn1_laws_versions.proofs.Octets as filing

abbrev packed_free : Per.Freedom → Bool
packed_free c = lenient c

abbrev octets_free : Oer.Freedom → Bool
octets_free c = lenient c

-- ---- beginnings
packed_older : (al : Bool) (old new : Schema) (v x : Value) (w a y z : List ℕ) → is_lawful old ≡ true → is_lawful new ≡ true →
    Extends old new → option_and_then of_moderate_length (per al new v) ≡ Some w →
    Reads packed_free (Per.message al old x) 0 (octet_bits a) → a ++ y ≡ w ++ z → (a ≡ w) × There (carried false old new v)
unfolding Per.message
packed_older al old new v x w a y z l k h e f q =
    let t = per_text al new v w e in
    let g : Reads packed_free (Per.message al new v) 0 (octet_bits w) = (covers_same packed_free (Per.message al new v)).reads 0 (octet_bits w) t.1 in
    let r = octet_fronts packed_free _ _ _ a w y z (complete_alike packed_free _ _ _ (packing.way packed_free false al old new h l k x v)) f g q in
    (r.0, r.1.0)

packed_newer : (al : Bool) (old new : Schema) (u x : Value) (w a y z : List ℕ) → is_lawful old ≡ true → is_lawful new ≡ true →
    Extends old new → option_and_then of_moderate_length (per al old u) ≡ Some w → Reads packed_free (Per.message al new x) 0 (octet_bits a) → a ++ y ≡ w ++ z → (a ≡ w) × There (grow old new u)
unfolding Per.message Per.complete
packed_newer al old new u x w a y z l k h e f q =
    let t = per_text al old u w e in
    let c : Covers packed_free (Per.complete (Per.form al old u)) (Per.complete (as_written packed_free (Per.form al old u))) =
    covers_within packed_free (covers_written packed_free (Per.form al old u)) (λ b. covers_same packed_free _) in
    let r = octet_fronts packed_free _ _ _ w a z y (complete_alike packed_free _ _ _ (packing.way packed_free true al old new h l k u x)) (c.reads 0 (octet_bits w) t.1) f (sym q) in
    (sym r.0, r.1.1 refl)

octets_older : (old new : Schema) (v x : Value) (w a y z : List ℕ) → is_lawful old ≡ true → is_lawful new ≡ true → Extends old new →
    option_and_then of_moderate_length (octet_encoding new v) ≡ Some w → Reads octets_free (Oer.form old x) 0 a → a ++ y ≡ w ++ z → (a ≡ w) × There (carried false old new v)
octets_older old new v x w a y z l k h e f q =
    let t = octet_text new v w e in
    let r = (filing.way octets_free false old new h l k x v).fronts 0 a w y z f ((covers_same octets_free (Oer.form new v)).reads 0 w t.1) q in
    (r.0, r.1.0)

octets_newer : (old new : Schema) (u x : Value) (w a y z : List ℕ) → is_lawful old ≡ true → is_lawful new ≡ true → Extends old new →
    option_and_then of_moderate_length (octet_encoding old u) ≡ Some w → Reads octets_free (Oer.form new x) 0 a → a ++ y ≡ w ++ z → (a ≡ w) × There (grow old new u)
octets_newer old new u x w a y z l k h e f q =
    let t = octet_text old u w e in
    let r = (filing.way octets_free true old new h l k u x).fronts 0 w a z y (of_text octets_free (Oer.form old u) 0 w t.1) f (sym q) in
    (sym r.0, r.1.1 refl)

-- ---- in all rules
abbrev OlderFront : Rules → Type 0
OlderFront r = (old new : Schema) (v x : Value) (w a y z : List ℕ) → is_lawful old ≡ true → is_lawful new ≡ true → Extends old new →
    canonical r new v ≡ Some w → IsEncoding r old x a → a ++ y ≡ w ++ z → (a ≡ w) × There (drop old new v)

abbrev NewerFront : Rules → Type 0
NewerFront r = (old new : Schema) (u x : Value) (w a y z : List ℕ) → is_lawful old ≡ true → is_lawful new ≡ true → Extends old new →
    canonical r old u ≡ Some w → IsEncoding r new x a → a ++ y ≡ w ++ z → (a ≡ w) × There (grow old new (normal old u))

older_front_uper : OlderFront uper
unfolding canonical encoding IsEncoding
older_front_uper old new v x w a y z l k h e f q = packed_older false old new (normal new v) x w a y z l k h e f.1 q

older_front_aper : OlderFront aper
unfolding canonical encoding IsEncoding
older_front_aper old new v x w a y z l k h e f q = packed_older true old new (normal new v) x w a y z l k h e f.1 q

older_front_oer : OlderFront oer
unfolding canonical encoding IsEncoding
older_front_oer old new v x w a y z l k h e f q = octets_older old new (normal new v) x w a y z l k h e f.1 q

newer_front_uper : NewerFront uper
unfolding canonical encoding IsEncoding
newer_front_uper old new u x w a y z l k h e f q = packed_newer false old new (normal old u) x w a y z l k h e f.1 q

newer_front_aper : NewerFront aper
unfolding canonical encoding IsEncoding
newer_front_aper old new u x w a y z l k h e f q = packed_newer true old new (normal old u) x w a y z l k h e f.1 q

newer_front_oer : NewerFront oer
unfolding canonical encoding IsEncoding
newer_front_oer old new u x w a y z l k h e f q = octets_newer old new (normal old u) x w a y z l k h e f.1 q

older_front_lenient : (r : Rules) → OlderFront (lenient_of r)
older_front_lenient uper = older_front_uper
older_front_lenient aper = older_front_aper
older_front_lenient uper_strict = older_front_uper
older_front_lenient aper_strict = older_front_aper
older_front_lenient oer = older_front_oer
older_front_lenient coer = older_front_oer

newer_front_lenient : (r : Rules) → NewerFront (lenient_of r)
newer_front_lenient uper = newer_front_uper
newer_front_lenient aper = newer_front_aper
newer_front_lenient uper_strict = newer_front_uper
newer_front_lenient aper_strict = newer_front_aper
newer_front_lenient oer = newer_front_oer
newer_front_lenient coer = newer_front_oer

older_front : (r : Rules) → OlderFront r
older_front r old new v x w a y z l k h e f q = older_front_lenient r old new v x w a y z l k h (sym (writes_alike r new v) ∙ e) (reads_alike r old x a f) q

newer_front : (r : Rules) → NewerFront r
newer_front r old new u x w a y z l k h e f q = newer_front_lenient r old new u x w a y z l k h (sym (writes_alike r old u) ∙ e) (reads_alike r new x a f) q

nothing_there : {X : Type 0} {x : X} → None ≡ Some x → ⊥
nothing_there e = cc

pub older_refuses : (r : Rules) (old new : Schema) (v x : Value) (w a y z : List ℕ) → is_lawful old ≡ true → is_lawful new ≡ true →
    Extends old new → drop old new v ≡ None → canonical r new v ≡ Some w → IsEncoding r old x a → a ++ y ≡ w ++ z → ⊥
older_refuses r old new v x w a y z l k h d e f q = let t = older_front r old new v x w a y z l k h e f q in nothing_there (sym d ∙ t.1.1)

pub newer_refuses : (r : Rules) (old new : Schema) (u x : Value) (w a y z : List ℕ) → is_lawful old ≡ true → is_lawful new ≡ true →
    Extends old new → grow old new (normal old u) ≡ None → canonical r old u ≡ Some w → IsEncoding r new x a → a ++ y ≡ w ++ z → ⊥
newer_refuses r old new u x w a y z l k h d e f q = let t = newer_front r old new u x w a y z l k h e f q in nothing_there (sym d ∙ t.1.1)

-- ---- exactly
differs : {X : Type 0} → false ≡ true → X
differs e = cc

-- what a reader accepts is normal in the strict rules
taken_normal : (r : Rules) (s : Schema) (v : Value) (w : List ℕ) → IsEncoding r s v w → MayBeRead r s v
taken_normal uper s v w h e = differs e
taken_normal aper s v w h e = differs e
taken_normal oer s v w h e = differs e
taken_normal uper_strict s v w h e = normal_stays s v (strict_uper s v w h)
taken_normal aper_strict s v w h e = normal_stays s v (strict_aper s v w h)
taken_normal coer s v w h e = normal_stays s v (strict_octets s v w h)

older_reads : (r : Rules) (old new : Schema) (v u : Value) (w : List ℕ) → Extends old new → drop old new v ≡ Some u → MayBeRead r old u → canonical r new v ≡ Some w → IsEncoding r old u w
older_reads uper old new v u w h d n e = packed.older_reads_uper old new v u w h d e
older_reads aper old new v u w h d n e = packed.older_reads_aper old new v u w h d e
older_reads oer old new v u w h d n e = octets.older_reads_oer old new v u w h d e
older_reads uper_strict old new v u w h d n e = packed.older_reads_uper_strict old new v u w h d (tells_normal old u (n refl)) e
older_reads aper_strict old new v u w h d n e = packed.older_reads_aper_strict old new v u w h d (tells_normal old u (n refl)) e
older_reads coer old new v u w h d n e = octets.older_reads_coer old new v u w h d (tells_normal old u (n refl)) e

newer_reads : (r : Rules) (old new : Schema) (u v : Value) (w : List ℕ) → Extends old new → grow old new (normal old u) ≡ Some v → MayBeRead r new v → canonical r old u ≡ Some w → IsEncoding r new v w
newer_reads uper old new u v w h d n e = packed.newer_reads_uper old new u v w h d e
newer_reads aper old new u v w h d n e = packed.newer_reads_aper old new u v w h d e
newer_reads oer old new u v w h d n e = octets.newer_reads_oer old new u v w h d e
newer_reads uper_strict old new u v w h d n e = packed.newer_reads_uper_strict old new u v w h d (tells_normal new v (n refl)) e
newer_reads aper_strict old new u v w h d n e = packed.newer_reads_aper_strict old new u v w h d (tells_normal new v (n refl)) e
newer_reads coer old new u v w h d n e = octets.newer_reads_coer old new u v w h d (tells_normal new v (n refl)) e

-- what is equal to what is left is left of an equal value, and so has the same encoding
left_is_read : (r : Rules) (old new : Schema) (v x : Value) (w : List ℕ) → is_lawful new ≡ true → Extends old new → canonical r new v ≡ Some w → IsLeft r old new v x → IsEncoding r old x w
left_is_read r old new v x w k h e q =
    let l = lessen_lifted old new (normal new v) q.0 x h q.1 q.2 in
    let n : normal new l.0 ≡ l.0 = normal_stays new l.0 (stays_normal new (normal new v) l.0 (same_turned l.0 (normal new v) l.2) (normal_normal new v)) in
    let c : canonical r new l.0 ≡ canonical r new v = canonical_same r new l.0 v k (subst (λ y. same y (normal new v) ≡ true) (sym n) l.2) in
    older_reads r old new l.0 x w h (ap (carried false old new) n ∙ l.1) q.3 (c ∙ e)

grown_is_read : (r : Rules) (old new : Schema) (u x : Value) (w : List ℕ) → is_lawful old ≡ true → Extends old new → canonical r old u ≡ Some w → IsGrown old new u x → IsEncoding r new x w
grown_is_read r old new u x w k h e q =
    let l = grow_lifted old new (normal old u) q.0 x h q.1 q.2 in
    let i : is_normal old l.0 ≡ true = stays_normal old (normal old u) l.0 (same_turned l.0 (normal old u) l.2) (normal_normal old u) in
    let n : normal old l.0 ≡ l.0 = normal_stays old l.0 i in
    let c : canonical r old l.0 ≡ canonical r old u = canonical_same r old l.0 u k (subst (λ y. same y (normal old u) ≡ true) (sym n) l.2) in
    newer_reads r old new l.0 x w h (ap (grow old new) n ∙ l.1) (λ t. normal_stays new x (grown_is_normal old new l.0 x h i l.1)) (c ∙ e)

pub older_reads_exactly : (r : Rules) (old new : Schema) (v x : Value) (w : List ℕ) → is_lawful old ≡ true → is_lawful new ≡ true →
    Extends old new → canonical r new v ≡ Some w → (IsLeft r old new v x → IsEncoding r old x w) × ((a y z : List ℕ) → IsEncoding r old x a → a ++ y ≡ w ++ z → (a ≡ w) × IsLeft r old new v x)
older_reads_exactly r old new v x w l k h e = (
  λ q. left_is_read r old new v x w k h e q,
  λ a y z f q.
      let t = older_front r old new v x w a y z l k h e f q in
      let g : IsEncoding r old x w = subst (λ b. IsEncoding r old x b) t.0 f in
      (t.0, (t.1.0, t.1.1, reads_the_drop r old new v t.1.0 x w l h t.1.1 e g, taken_normal r old x w g)),
)

pub newer_reads_exactly : (r : Rules) (old new : Schema) (u x : Value) (w : List ℕ) → is_lawful old ≡ true → is_lawful new ≡ true →
    Extends old new → canonical r old u ≡ Some w → (IsGrown old new u x → IsEncoding r new x w) × ((a y z : List ℕ) → IsEncoding r new x a → a ++ y ≡ w ++ z → (a ≡ w) × IsGrown old new u x)
newer_reads_exactly r old new u x w l k h e = (
  λ q. grown_is_read r old new u x w l h e q,
  λ a y z f q.
      let t = newer_front r old new u x w a y z l k h e f q in
      let g : IsEncoding r new x w = subst (λ b. IsEncoding r new x b) t.0 f in
      (t.0, (t.1.0, t.1.1, reads_the_growth r old new u t.1.0 x w k h t.1.1 e g)),
)

-- Messages of two versions in the packed rules.
use Rattle.std.proofs.Common.{◌≡◌, ℕ, ◌^◌, ◌<◌, Bool, true, false, IsTrue, List, length, Some, option_and_then, refl, inl, inr, ◌⊎◌}
use Rattle.asn1_model.specs.Value.{Value}
use Rattle.asn1_model.specs.Schema.{Schema}
use Rattle.asn1_model.specs.Normal.{normal}
use Rattle.asn1_model.specs.Tidy.{is_normal}
use Rattle.asn1_model.specs.Form.{Reads}
use Rattle.asn1_model.specs.Rules.{lenient, strict_per, uper, aper, uper_strict, aper_strict, canonical, encoding, per, octet_bits, of_moderate_length, IsEncoding}
use Rattle.asn1_laws_versions.proofs.Between.{OlderReads, OlderReadsNormal, NewerReads, NewerReadsNormal}
use Rattle.asn1_model.specs.Per
use Rattle.asn1_model.specs.Versions.{grow, Extends, carried}
use Rattle.asn1_laws_values.proofs.Covers.{Covers, covers_same, covers_within}
use Rattle.asn1_laws_values.proofs.Messages.{per_text}
use Rattle.asn1_laws_versions.proofs.Carrying.{dropped, grown}
use Rattle.asn1_laws_values.proofs.BitPieces.{bit_pieces, composed}
use Rattle.asn1_laws_versions.proofs.PerVersions.{covered}

older_reads : (free : Per.Freedom → Bool) → IsTrue (free Per.other_bitmap) → IsTrue (free Per.other_order) →
    (al : Bool) (old new : Schema) (v u : Value) (w : List ℕ) → Extends old new → carried false old new v ≡ Some u →
    ((IsTrue (free Per.default_spelled_out) × IsTrue (free Per.empty_group)) ⊎ (is_normal old u ≡ true)) →
    option_and_then of_moderate_length (per al new v) ≡ Some w → (length w < 2 ^ 60) × Reads free (Per.message al old u) 0 (octet_bits w)
unfolding Per.message Per.complete
older_reads free wide mixed al old new v u w h d l e =
    let t = per_text al new v w e in
    let s : Covers free (Per.message al new v) (Per.message al old u) =
    covers_within free (dropped (bit_pieces al) (composed al) (covered al) free wide mixed old new v u h d l) (λ w. covers_same free _) in
    (t.0, s.reads 0 (octet_bits w) t.1)

pub older_reads_uper : OlderReads uper
unfolding canonical encoding IsEncoding
older_reads_uper old new v u w h d e = older_reads lenient refl refl false old new (normal new v) u w h d (inl (refl, refl)) e

pub older_reads_aper : OlderReads aper
unfolding canonical encoding IsEncoding
older_reads_aper old new v u w h d e = older_reads lenient refl refl true old new (normal new v) u w h d (inl (refl, refl)) e

pub older_reads_uper_strict : OlderReadsNormal uper_strict
unfolding canonical encoding IsEncoding
older_reads_uper_strict old new v u w h d n e = older_reads strict_per refl refl false old new (normal new v) u w h d (inr n) e

pub older_reads_aper_strict : OlderReadsNormal aper_strict
unfolding canonical encoding IsEncoding
older_reads_aper_strict old new v u w h d n e = older_reads strict_per refl refl true old new (normal new v) u w h d (inr n) e

newer_reads : (free : Per.Freedom → Bool) → IsTrue (free Per.other_bitmap) → IsTrue (free Per.other_order) →
    (al : Bool) (old new : Schema) (u v : Value) (w : List ℕ) → Extends old new → grow old new u ≡ Some v →
    ((IsTrue (free Per.default_spelled_out) × IsTrue (free Per.empty_group)) ⊎ (is_normal new v ≡ true)) →
    option_and_then of_moderate_length (per al old u) ≡ Some w → (length w < 2 ^ 60) × Reads free (Per.message al new v) 0 (octet_bits w)
unfolding Per.message Per.complete
newer_reads free wide mixed al old new u v w h d l e =
    let t = per_text al old u w e in
    let s : Covers free (Per.message al old u) (Per.message al new v) =
    covers_within free (grown (bit_pieces al) (composed al) (covered al) free wide mixed old new u v h d l) (λ w. covers_same free _) in
    (t.0, s.reads 0 (octet_bits w) t.1)

pub newer_reads_uper : NewerReads uper
unfolding canonical encoding IsEncoding
newer_reads_uper old new u v w h d e = newer_reads lenient refl refl false old new (normal old u) v w h d (inl (refl, refl)) e

pub newer_reads_aper : NewerReads aper
unfolding canonical encoding IsEncoding
newer_reads_aper old new u v w h d e = newer_reads lenient refl refl true old new (normal old u) v w h d (inl (refl, refl)) e

pub newer_reads_uper_strict : NewerReadsNormal uper_strict
unfolding canonical encoding IsEncoding
newer_reads_uper_strict old new u v w h d n e = newer_reads strict_per refl refl false old new (normal old u) v w h d (inr n) e

pub newer_reads_aper_strict : NewerReadsNormal aper_strict
unfolding canonical encoding IsEncoding
newer_reads_aper_strict old new u v w h d n e = newer_reads strict_per refl refl true old new (normal old u) v w h d (inr n) e

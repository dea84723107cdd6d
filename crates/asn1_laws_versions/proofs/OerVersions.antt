-- What one version of a type writes in the octet rules, the other reads.
use Rattle.std.proofs.Common.{◌≡◌, ℕ, ◌^◌, ◌<◌, Bool, true, false, cond, IsTrue, List, [], ◌++◌, length, Option, Some, None, option_and_then, refl, ap, sym, ◌∙◌, inl, inr, subst, ◌⊎◌}
use Rattle.std.proofs.lemmas.List.{append-nil}
use Rattle.asn1_model.specs.Value.{Value}
use Rattle.asn1_model.specs.Schema.{Counts, Schema}
use Rattle.asn1_model.specs.Normal.{normal}
use Rattle.asn1_model.specs.Tidy.{is_normal}
use Rattle.asn1_model.specs.Numbers.{is_count_within}
use Rattle.asn1_model.specs.Form.{both, written, Reads, only_if, joined}
use Rattle.asn1_model.specs.Rules.{lenient, strict_oer, oer, coer, canonical, encoding, octet_encoding, of_moderate_length, IsEncoding}
use Rattle.asn1_model.specs.Oer
use Rattle.asn1_model.specs.Versions.{carried, grow, Extends}
use Rattle.asn1_laws_values.proofs.Covers.{Covers, CoversEach, covers_same, covers_eq, covers_both, covers_within, covers_if, covers_joined, each_length}
use Rattle.asn1_laws_values.proofs.Messages.{octet_text}
use Rattle.asn1_laws_versions.proofs.Between.{OlderReads, OlderReadsNormal, NewerReads, NewerReadsNormal}
use Rattle.asn1_laws_values.proofs.OctetPieces.{octet_pieces, composed}
use Rattle.asn1_laws_versions.proofs.Carrying.{dropped, grown}
use Rattle.asn1_laws_versions.proofs.Covered.{AreCovered}

-- ---- elements
pub covers_members : (free : Oer.Freedom → Bool) (held : Counts) (xs ys : List Oer.OctetForm) →
    CoversEach {F = Oer.Freedom} {D = Oer.Detail} {A = ℕ} free xs ys →
    Covers {F = Oer.Freedom} {D = Oer.Detail} {A = ℕ} free (Oer.members_form held xs) (Oer.members_form held ys)
unfolding Oer.members_form
covers_members free held xs ys h =
    let part : ℕ → List Oer.OctetForm → Oer.OctetForm = λ n us. both (Oer.unsigned n) (joined us) in
    let P : ℕ → Type 0 = λ n. Covers free (Oer.members_form held xs) (only_if (is_count_within held n) (part n ys)) in
    let kept = covers_if free (is_count_within held (length xs)) {x = part (length xs) xs} {y = part (length xs) ys}
    (λ t. covers_both free (covers_same free _) (covers_joined free xs ys h)) in
    subst P (each_length free xs ys h) kept

-- ---- an addition that the reader does not know is some octets to it
open_covers : (free : Oer.Freedom → Bool) (x y : Oer.OctetForm) → Covers free x y → Covers free (Oer.open_type x) (Oer.open_type y)
unfolding Oer.open_type
open_covers free x y h = covers_within free h (λ w. covers_same free _)

tagged_covers : (a : Bool) (free : Oer.Freedom → Bool) (x y : Oer.OctetForm) → Covers free x y →
    Covers free (cond a (Oer.open_type x) x) (cond a (Oer.open_type y) y)
tagged_covers true free x y h = open_covers free x y h
tagged_covers false free x y h = h

unknown_open : (free : Oer.Freedom → Bool) (x : Oer.OctetForm) (o : Option (List ℕ)) → written x 0 ≡ o →
    (os : List ℕ) × Covers {F = Oer.Freedom} {D = Oer.Detail} {A = ℕ} free (Oer.open_type x) (Oer.counted os)
unfolding Oer.open_type written
unknown_open free x None e =
    let none : (p : ℕ) → written (Oer.open_type x) p ≡ None =
    λ p. ap (λ o. option_and_then (λ w. written (Oer.counted (w ++ [])) p) o) e in
    ([], record { reads = λ p u t. let n = none p in cc })
unknown_open free x (Some w) e =
    let s : Covers free (Oer.counted (w ++ [])) (Oer.counted w) = covers_eq free (ap Oer.counted (append-nil w)) in
    let same : (p : ℕ) → written (Oer.open_type x) p ≡ written (Oer.counted (w ++ [])) p =
    λ p. ap (λ o. option_and_then (λ w. written (Oer.counted (w ++ [])) p) o) e in
    (w, record { reads = λ p u t. s.reads p u (sym (same p) ∙ t) })

pub covered : AreCovered octet_pieces
covered = record {
  keeps_list = λ free z c xs ys h. covers_members free c xs ys h;
  keeps_open = open_covers;
  keeps_tagged = λ a t free x y h. covers_both free (covers_same free _) (tagged_covers a free x y h);
  keeps_root = λ e k i free x y h. h;
  keeps_added = λ i free x y h. h;
  unknown = λ free x. unknown_open free x (written x 0) refl;
}

-- ---- messages
-- either the reader accepts what is left out where it is encoded, or nothing is
abbrev MayRead : (Oer.Freedom → Bool) → Schema → Value → Type 0
MayRead free s v = (IsTrue (free Oer.default_spelled_out) × IsTrue (free Oer.empty_group)) ⊎ (is_normal s v ≡ true)

module _ (free : Oer.Freedom → Bool) (wide : IsTrue (free Oer.other_bitmap)) (mixed : IsTrue (free Oer.other_order)) where
  older_reads : (old new : Schema) (v u : Value) (w : List ℕ) → Extends old new → carried false old new v ≡ Some u → MayRead free old u →
      option_and_then of_moderate_length (octet_encoding new v) ≡ Some w → (length w < 2 ^ 60) × Reads free (Oer.form old u) 0 w
  older_reads old new v u w h d l e =
      let t = octet_text new v w e in
      (t.0, (dropped octet_pieces composed covered free wide mixed old new v u h d l).reads 0 w t.1)

  newer_reads : (old new : Schema) (u v : Value) (w : List ℕ) → Extends old new → grow old new u ≡ Some v → MayRead free new v →
      option_and_then of_moderate_length (octet_encoding old u) ≡ Some w → (length w < 2 ^ 60) × Reads free (Oer.form new v) 0 w
  newer_reads old new u v w h d l e =
      let t = octet_text old u w e in
      (t.0, (grown octet_pieces composed covered free wide mixed old new u v h d l).reads 0 w t.1)

pub older_reads_oer : OlderReads oer
unfolding canonical encoding IsEncoding
older_reads_oer old new v u w h d e = older_reads lenient refl refl old new (normal new v) u w h d (inl (refl, refl)) e

pub older_reads_coer : OlderReadsNormal coer
unfolding canonical encoding IsEncoding
older_reads_coer old new v u w h d n e = older_reads strict_oer refl refl old new (normal new v) u w h d (inr n) e

pub newer_reads_oer : NewerReads oer
unfolding canonical encoding IsEncoding
newer_reads_oer old new u v w h d e = newer_reads lenient refl refl old new (normal old u) v w h d (inl (refl, refl)) e

pub newer_reads_coer : NewerReadsNormal coer
unfolding canonical encoding IsEncoding
newer_reads_coer old new u v w h d n e = newer_reads strict_oer refl refl old new (normal old u) v w h d (inr n) e

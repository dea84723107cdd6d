-- What a few octets begin with.
use Rattle.std.proofs.Common.{◌≡◌, ℕ, ◌+◌, ◌≤◌, ◌<◌, true, false, List, [], ◌∷◌, ◌++◌, length, Some, refl, ap, sym, ◌∙◌, subst, append_assoc, arith}
use Rattle.std.proofs.lemmas.List.{append-nil, length-append}
use Rattle.std.proofs.lemmas.Bool.{leb-true}
use Rattle.std.proofs.Math.Dec.{leb}
use Rattle.asn1_model.specs.Value.{Value, truth, depth}
use Rattle.asn1_model.specs.Schema.{Schema, boolean}
use Rattle.asn1_model.specs.Lawful.{IsLawful}
use Rattle.asn1_model.specs.Normal.{normal}
use Rattle.asn1_model.specs.Rules.{Rules, coer, canonical, IsEncoding, strict_oer}
use Rattle.asn1_model.specs.Oer
use Rattle.asn1_model.proofs.OnValues.{on_values}
use Rattle.asn1_model_rows.proofs.Plain.{is_plain, octets_not_read}
use Rattle.asn1_laws_values.proofs.Messages.{canonical_is_read}
use Rattle.asn1_laws_across.specs.Streams.{IsMessageWithin, HasNoMessage}
use Rattle.asn1_laws_across.specs.Relayed.{HasEmptyMessage}
use Rattle.asn1_laws_fronts.proofs.Every.{one_front}

-- octets that are an encoding, and are too long: they begin with no message
pub too_long : (r : Rules) (s : Schema) (limit : ℕ) (v : Value) (w : List ℕ) → IsLawful s → IsEncoding r s v w → limit < length w → HasNoMessage r s limit w
too_long r s limit v w lawful h l = λ m x e i.
    let q = (one_front r s m.value v m.octets w x [] lawful i.is_encoding h (e ∙ sym (append-nil w))).0 in
    let k = i.is_short in
    let n : length m.octets ≡ length w = ap length q in
    omega arith

-- octets that are the beginning of an encoding, and not all of it: they begin with no message
pub cut_off : (r : Rules) (s : Schema) (limit : ℕ) (v : Value) (w x : List ℕ) → IsLawful s → IsEncoding r s v (w ++ x) → 1 ≤ length x → HasNoMessage r s limit w
cut_off r s limit v w x lawful h l = λ m y e i.
    let q = (one_front r s m.value v m.octets (w ++ x) (y ++ x) [] lawful i.is_encoding h (sym (append_assoc m.octets y x) ∙ (ap (λ z. z ++ x) e ∙ sym (append-nil (w ++ x))))).0 in
    let n : length m.octets ≡ length w + length x = ap length q ∙ length-append w x in
    let k : length m.octets + length y ≡ length w = sym (length-append m.octets y) ∙ ap length e in
    omega arith

-- a type with a non-empty encoding does not have the empty one
pub none_empty : (r : Rules) (s : Schema) (v : Value) (w : List ℕ) → IsLawful s → IsEncoding r s v w → 1 ≤ length w → ¬ (HasEmptyMessage r s)
none_empty r s v w lawful h l = λ k.
    let q = (one_front r s k.0 v [] w w [] lawful k.1 h (sym (append-nil w))).0 in
    let n : 0 ≡ length w = ap length q in
    omega arith

-- no single first octet is an encoding, and a message has at most one octet
single : (a : ℕ) (w b x : List ℕ) → b ++ x ≡ a ∷ w → 1 ≤ length b → length b ≤ 1 → b ≡ a ∷ []
single a w [] x e l k = absurd (omega arith)
single a w (c ∷ []) x e l k = ap (λ z. z ∷ []) (cc e)
single a w (c ∷ d ∷ b) x e l k = absurd (omega arith)

pub no_single : (r : Rules) (s : Schema) (a : ℕ) (w : List ℕ) → ((v : Value) → IsEncoding r s v (a ∷ []) → ⊥) → HasNoMessage r s 1 (a ∷ w)
no_single r s a w h = λ m x e i. h m.value (subst (λ l. IsEncoding r s m.value l) (single a w m.octets x e i.is_some i.is_short) i.is_encoding)

-- the empty octet string begins with no message
pub none_left : (r : Rules) (s : Schema) (limit : ℕ) → HasNoMessage r s limit []
none_left r s limit = λ m x e i.
    let k = i.is_some in
    let n : length m.octets + length x ≡ 0 = sym (length-append m.octets x) ∙ ap length e in
    omega arith

-- canonical octets of a value, as a message
pub message_of : (r : Rules) (s : Schema) (limit : ℕ) (v : Value) (w : List ℕ) → canonical r s v ≡ Some w → normal s v ≡ v →
    leb (depth v) 128 ≡ true → leb 1 (length w) ≡ true → leb (length w) limit ≡ true → IsMessageWithin r s limit (record { octets = w; value = v })
message_of r s limit v w c n d a b = record {
  is_encoding = subst (λ u. IsEncoding r s u w) n (canonical_is_read r s v w c);
  is_shallow = leb-true _ _ d;
  is_some = leb-true _ _ a;
  is_short = leb-true _ _ b;
}

pub read : (r : Rules) (s : Schema) (v : Value) (w : List ℕ) → canonical r s v ≡ Some w → normal s v ≡ v → IsEncoding r s v w
read r s v w c n = subst (λ u. IsEncoding r s u w) n (canonical_is_read r s v w c)

-- 05 is no BOOLEAN in COER
pub no_truth : (v : Value) → IsEncoding coer boolean v (0x05 ∷ []) → ⊥
unfolding on_values IsEncoding is_plain
no_truth (truth true) r = octets_not_read strict_oer (Oer.form boolean (truth true)) (0x05 ∷ []) refl refl r.1
no_truth (truth false) r = octets_not_read strict_oer (Oer.form boolean (truth false)) (0x05 ∷ []) refl refl r.1
no_truth v r = octets_not_read strict_oer (Oer.form boolean v) (0x05 ∷ []) refl refl r.1

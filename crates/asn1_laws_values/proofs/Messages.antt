-- What is written is read.
use Rattle.std.proofs.Common.{◌≡◌, ℕ, ◌+◌, ◌*◌, ◌-◌, ◌%◌, ◌/◌, ◌<◌, ◌^◌, ◌==◌, ltb, Bool, true, false, cond, IsTrue}
use Rattle.std.proofs.Common.{List, [], ◌∷◌, ◌++◌, length, replicate, Some, None, option_map, option_and_then, refl, ap}
use Rattle.std.proofs.Common.{sym, subst, ◌∙◌, length-append, arith}
use Rattle.std.proofs.lemmas.List.{length-replicate}
use Rattle.std.proofs.lemmas.Bool.{eq-eqb}
use borrow.Author.Tests.{ltb-true}
use Rattle.asn1_model.specs.Value.{Value}
use Rattle.asn1_model.specs.Schema.{Schema}
use Rattle.asn1_model.specs.Normal.{normal}
use Rattle.asn1_model.specs.Form.{exactly, written, Reads, only_if}
use Rattle.asn1_model.specs.Per
use Rattle.asn1_model.specs.Oer
use Rattle.asn1_model.specs.Rules.{Rules, uper, aper, uper_strict, aper_strict, oer, coer, canonical, encoding, per, octet_encoding, octet_bits, of_moderate_length, IsEncoding}
use Rattle.asn1_model.proofs.Forms.{widens, reads_written, chain_parts, map_parts}
use Rattle.asn1_laws_values.proofs.Octets.{packed_back}
use Rattle.asn1_laws_values.specs.MessageLaws.{canonically}

-- whole octets
abbrev pub IsWhole : List Bool → Type 0
IsWhole w = (k : ℕ) × (length w ≡ 8 * k)

pub some_parts : {X : Type 0} {x y : X} → Some x ≡ Some y → x ≡ y
some_parts e = cc

padding_written : (n p : ℕ) → written (Per.padding n) p ≡ Some (replicate n false)
unfolding Per.padding written
padding_written n p = let h : (length (replicate n false) == n) ≡ true = eq-eqb _ _ (length-replicate n false) in
    ap (λ (t : Bool). written (only_if {F = Per.Freedom} {D = Per.Detail} t (exactly (replicate n false))) p) h

pub padded_whole : (a b : List Bool) → written (Per.padded a) 0 ≡ Some b → IsWhole b
unfolding Per.padded written
padded_whole [] b e = let h : replicate 8 false ≡ b = cc in (1, sym (ap length h))
padded_whole (x ∷ a) b e =
    let n = length (x ∷ a) in
    let f = padding_written ((8 - n % 8) % 8) (0 + n) in
    let h : (x ∷ a) ++ replicate ((8 - n % 8) % 8) false ≡ b = some_parts (sym (ap (λ o. option_map (λ d. (x ∷ a) ++ d) o) f) ∙ e) in
    let l : length b ≡ n + (8 - n % 8) % 8 = sym (ap length h) ∙ length-append (x ∷ a) _ ∙ ap (λ k. n + k) (length-replicate _ _) in
    ((n + 7) / 8, l ∙ omega arith)

pub complete_whole : (x : Per.BitForm) (b : List Bool) → written (Per.complete x) 0 ≡ Some b → IsWhole b
unfolding Per.complete written
complete_whole x b e = let q = chain_parts (written x 0) (λ w. written (Per.padded w) 0) b e in padded_whole q.0 b q.2

message_whole : (al : Bool) (s : Schema) (v : Value) (b : List Bool) → written (Per.message al s v) 0 ≡ Some b → IsWhole b
unfolding Per.message Per.complete written
message_whole al s v b e = let q = chain_parts (written (Per.form al s v) 0) (λ w. written (Per.padded w) 0) b e in padded_whole q.0 b q.2

moderate : (w u : List ℕ) → of_moderate_length w ≡ Some u → (w ≡ u) × (length u < 2 ^ 60)
moderate w u e = go (ltb (length w) (2 ^ 60)) refl e
  where
    go : (t : Bool) → ltb (length w) (2 ^ 60) ≡ t → cond t (Some w) None ≡ Some u → (w ≡ u) × (length u < 2 ^ 60)
    go true q f = let h : w ≡ u = cc in (h, subst (λ x. length x < 2 ^ 60) h (ltb-true _ _ q))
    go false q f = cc

from_none : (b : Bool) → IsTrue false → IsTrue b
from_none b h = let e : false ≡ true = h in cc

-- what is written as a message, in bits
pub per_text : (al : Bool) (s : Schema) (v : Value) (w : List ℕ) → option_and_then of_moderate_length (per al s v) ≡ Some w →
    (length w < 2 ^ 60) × (written (Per.message al s v) 0 ≡ Some (octet_bits w))
unfolding per
per_text al s v w e =
    let q = chain_parts (per al s v) of_moderate_length w e in
    let m = moderate q.0 w q.2 in
    let r = map_parts (written (Per.message al s v) 0) Oer.packed q.0 q.1 in
    let k = message_whole al s v r.0 r.1 in
    let back : octet_bits w ≡ r.0 = ap octet_bits (sym (r.2 ∙ m.0)) ∙ packed_back k.0 r.0 k.1 in
    (m.1, r.1 ∙ ap Some (sym back))

per_read : (free : Per.Freedom → Bool) (al : Bool) (s : Schema) (v : Value) (w : List ℕ) →
    option_and_then of_moderate_length (per al s v) ≡ Some w → (length w < 2 ^ 60) × Reads free (Per.message al s v) 0 (octet_bits w)
per_read free al s v w e =
    let t = per_text al s v w e in
    (t.0, widens canonically free (Per.message al s v) 0 (octet_bits w) (λ c h. from_none (free c) h) (reads_written (Per.message al s v) 0 (octet_bits w) t.1))

pub octet_text : (s : Schema) (v : Value) (w : List ℕ) → option_and_then of_moderate_length (octet_encoding s v) ≡ Some w → (length w < 2 ^ 60) × (written (Oer.form s v) 0 ≡ Some w)
unfolding octet_encoding
octet_text s v w e =
    let q = chain_parts (octet_encoding s v) of_moderate_length w e in
    let m = moderate q.0 w q.2 in
    (m.1, q.1 ∙ ap Some m.0)

oer_read : (free : Oer.Freedom → Bool) (s : Schema) (v : Value) (w : List ℕ) → option_and_then of_moderate_length (octet_encoding s v) ≡ Some w → (length w < 2 ^ 60) × Reads free (Oer.form s v) 0 w
oer_read free s v w e =
    let t = octet_text s v w e in
    (t.0, widens canonically free (Oer.form s v) 0 w (λ c h. from_none (free c) h) (reads_written (Oer.form s v) 0 w t.1))

pub canonical_is_read : (r : Rules) (s : Schema) (v : Value) (w : List ℕ) → canonical r s v ≡ Some w → IsEncoding r s (normal s v) w
unfolding canonical encoding IsEncoding
canonical_is_read uper s v w e = per_read _ false s (normal s v) w e
canonical_is_read aper s v w e = per_read _ true s (normal s v) w e
canonical_is_read uper_strict s v w e = per_read _ false s (normal s v) w e
canonical_is_read aper_strict s v w e = per_read _ true s (normal s v) w e
canonical_is_read oer s v w e = oer_read _ s (normal s v) w e
canonical_is_read coer s v w e = oer_read _ s (normal s v) w e

-- OCTET STRING.
use Rattle.std.proofs.Common.{◌≡◌, ℕ, ◌-◌, ◌^◌, leb, ltb, Bool, true, false, cond, ◌&&◌, ◌||◌, List, [], ◌∷◌, Some, None, option_map, refl, ap, subst, sym, ◌∙◌, arith}
use Rattle.std.specs.Prelude.{unwrap_or}
use Rattle.std.proofs.lemmas.Bool.{and_parts, leb-true, lt-ltb}
use Rattle.asn1_model.specs.Form.{exactly}
use Rattle.asn1_model.specs.Numbers as Numbers
use Rattle.asn1_model.specs.Numbers.{binary}
use Rattle.asn1_model.specs.Schema.{StringKind, numeric, printable, visible, ia5, bmp, general, graphic, teletex, utf8}
use Rattle.asn1_model.specs.Strings.{Run, run, characters_of, is_among, is_octet, is_of_octets, largest, place_of}
use Rattle.std.specs.List.{list_all}
use Rattle.asn1_model.specs.Per
use Rattle.asn1_values_alphabets.specs.Permitted.{permits_all}
use Rattle.per_codec_alphabets.specs.Codes.{Coded, SameCharacters, text_of}
use Rattle.per_codec_packing.specs.FieldLists.{field_list_at}
use Rattle.per_codec_writing.specs.Writing.{Packed, Adds, place}
use Rattle.per_codec_writing.proofs.PaddingFieldLists.{adds_same, if_true}
use Rattle.per_codec_writing.specs.Units.{unit_forms}
use Rattle.per_codec_writing.specs.Characters.{field_lists_of}

all_octets : (k : StringKind) → is_of_octets k ≡ true → characters_of k ≡ run 0 255 ∷ []
all_octets numeric e = cc
all_octets printable e = cc
all_octets visible e = cc
all_octets ia5 e = cc
all_octets bmp e = cc
all_octets general e = refl
all_octets graphic e = refl
all_octets teletex e = refl
all_octets utf8 e = refl

abbrev octets : List Run
octets = run 0 255 ∷ []

eight : (al : Bool) → Per.character_bits al octets ≡ 8
unfolding Numbers.places_up_to
eight true = refl
eight false = refl

own_code : (c : ℕ) → is_among octets c ≡ true → option_map (λ i. cond (ltb 255 (2 ^ 8)) c i) (place_of c octets) ≡ Some c
own_code c h = go (leb 0 c && leb c 255) h
  where
    go : (b : Bool) → (b || false) ≡ true → option_map (λ i. cond (ltb 255 (2 ^ 8)) c i) (cond b (Some (c - 0)) None) ≡ Some c
    go true e = refl
    go false e = cc

octet : (c : ℕ) → is_among octets c ≡ true → is_octet c ≡ true
octet c h = go (leb 0 c) (leb c 255) refl h
  where
    go : (x y : Bool) → leb c 255 ≡ y → ((x && y) || false) ≡ true → is_octet c ≡ true
    go true true e h = let l = leb-true c 255 e in lt-ltb c 256 (omega arith)
    go true false e h = cc
    go false y e h = cc

own_field_list : (a : Coded) (c : ℕ) → SameCharacters a.runs octets → a.code_bits ≡ 8 → is_among octets c ≡ true → text_of a c ≡ binary 8 c
own_field_list a c s e h =
    ap (λ b. binary b (unwrap_or (option_map (λ i. cond (ltb (largest a.runs) (2 ^ b)) c i) (place_of c a.runs)) 0)) e
    ∙ ap (λ n. binary 8 (unwrap_or (option_map (λ i. cond (ltb n (2 ^ 8)) c i) (place_of c a.runs)) 0)) s.greatest
    ∙ ap (λ o. binary 8 (unwrap_or (option_map (λ i. cond (ltb 255 (2 ^ 8)) c i) o) 0)) (s.places c)
    ∙ ap (λ o. binary 8 (unwrap_or o 0)) (own_code c h)

own_field_lists : (a : Coded) (cs : List ℕ) → SameCharacters a.runs octets → a.code_bits ≡ 8 → list_all (is_among octets) cs ≡ true → unit_forms (field_lists_of a cs) ≡ Per.octet_units cs
own_field_lists a [] s e h = refl
own_field_lists a (c ∷ cs) s e h = let p = and_parts _ _ h in ap (λ t. exactly t ∷ unit_forms (field_lists_of a cs)) (own_field_list a c s e p.0) ∙
    ap (λ l. exactly (binary 8 c) ∷ l) (own_field_lists a cs s e p.1)

are_octets : (cs : List ℕ) → list_all (is_among octets) cs ≡ true → list_all is_octet cs ≡ true
are_octets [] h = refl
are_octets (c ∷ cs) h = let p = and_parts _ _ h in ap (λ b. b && list_all is_octet cs) (octet c p.0) ∙ are_octets cs p.1

pub octets_field_list : (al : Bool) (k : StringKind) (a : Coded) (cs : List ℕ) (old new : Packed) (rs : List Run) → is_of_octets k ≡ true →
    permits_all k cs ≡ true → rs ≡ characters_of k → SameCharacters a.runs rs → a.code_bits ≡ Per.character_bits al rs →
    Adds (field_list_at (Per.counted al (unit_forms (field_lists_of a cs))) (place old)) old new → Adds (field_list_at (Per.counted_octets al cs) (place old)) old new
unfolding Per.counted_octets
octets_field_list al k a cs old new rs o h e s b w =
    let r : rs ≡ octets = e ∙ all_octets k o in
    let m : list_all (is_among octets) cs ≡ true = ap (λ q. list_all (is_among q) cs) (sym (all_octets k o)) ∙ h in
    let t : SameCharacters a.runs octets = subst (λ q. SameCharacters a.runs q) r s in
    let n : a.code_bits ≡ 8 = b ∙ ap (Per.character_bits al) r ∙ eight al in
    adds_same _ _ old new (if_true (list_all is_octet cs) (Per.counted al (Per.octet_units cs)) (place old) (are_octets cs m) ∙
    ap (λ us. field_list_at (Per.counted al us) (place old)) (sym (own_field_lists a cs t n m))) w

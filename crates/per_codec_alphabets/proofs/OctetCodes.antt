-- Characters that are octets, each its own code.
use Rattle.std.proofs.Common.{◌≡◌, ℕ, ◌+◌, ◌-◌, ◌<◌, ◌^◌, leb, ltb, Bool, true, false, cond, ◌&&◌, ◌||◌, List, [], ◌∷◌, length, map, Option, Some, None, option_map, refl, ap, sym, ◌∙◌, arith}
use Rattle.std.specs.Prelude.{is_some, not}
use Rattle.std.proofs.lemmas.Bool.{and_parts, leb-true, ltb-true, lt-ltb, le-leb}
use Rattle.asn1_model.specs.Form.{exactly, given, only_if}
use Rattle.asn1_model.specs.Numbers as Numbers
use Rattle.asn1_model.specs.Numbers.{binary, is_count_within}
use Rattle.asn1_model.specs.Per
use Rattle.asn1_model.specs.Schema.{Counts, StringKind, numeric, printable, visible, ia5, bmp, general, graphic, teletex, utf8, any_count, any_size}
use Rattle.asn1_model.specs.Strings.{Run, characters_of, is_among, is_in_run, is_octet, is_of_octets, largest, permitted, place_of}
use Rattle.std.specs.List.{list_all}
use Rattle.asn1_schema_constraints.specs.Terms.{alphabet_of, sizes_of}
use Rattle.asn1_schema_constraints.specs.declared.extensions.Extensible.{Extensible}
use Rattle.asn1_schema_constraints.specs.declared.extensions.PermittedAlphabet.{PermittedAlphabet}
use Rattle.asn1_schema_constraints.specs.declared.parts.Size.{Size}
use Rattle.per_codec_alphabets.specs.Octets.{have_octet_codes, is_encoded_as_octets, alphabet_counts}

-- Two characters determine the kinds whose characters are octets that are their own codes.
pub by_two : (k : StringKind) → (is_among (characters_of k) 65 && not (is_among (characters_of k) 128)) ≡ have_octet_codes k
unfolding Numbers.places_up_to
by_two numeric = refl
by_two printable = refl
by_two visible = refl
by_two ia5 = refl
by_two bmp = refl
by_two general = refl
by_two graphic = refl
by_two teletex = refl
by_two utf8 = refl

eight : (k : StringKind) → have_octet_codes k ≡ true → Per.character_bits true (characters_of k) ≡ 8
unfolding Numbers.places_up_to
eight numeric e = cc
eight printable e = refl
eight visible e = refl
eight ia5 e = refl
eight bmp e = cc
eight general e = cc
eight graphic e = cc
eight teletex e = cc
eight utf8 e = cc

by_number : (k : StringKind) → have_octet_codes k ≡ true → ltb (largest (characters_of k)) (2 ^ 8) ≡ true
unfolding Numbers.places_up_to
by_number numeric e = refl
by_number printable e = refl
by_number visible e = refl
by_number ia5 e = refl
by_number bmp e = cc
by_number general e = refl
by_number graphic e = refl
by_number teletex e = refl
by_number utf8 e = refl

abbrev end_below : ℕ → List Run → Bool
end_below n rs = list_all (λ r. ltb r.last n) rs

ends : (k : StringKind) → have_octet_codes k ≡ true → end_below 256 (characters_of k) ≡ true
unfolding Numbers.places_up_to
ends numeric e = refl
ends printable e = refl
ends visible e = refl
ends ia5 e = refl
ends bmp e = cc
ends general e = refl
ends graphic e = refl
ends teletex e = refl
ends utf8 e = refl

among_below : (n c : ℕ) (rs : List Run) → end_below n rs ≡ true → is_among rs c ≡ true → c < n
among_below n c [] e h = cc
among_below n c (r ∷ rs) e h = by_test (ltb r.last n) (leb r.first c) (leb c r.last) refl refl e h (λ f i. among_below n c rs f i)
  where
    by_test : (t u v : Bool) → ltb r.last n ≡ t → leb c r.last ≡ v → t && end_below n rs ≡ true → (u && v) || is_among rs c ≡ true → (end_below n rs ≡ true → is_among rs c ≡ true → c < n) → c < n
    by_test false u v p q e h f = cc
    by_test true true true p q e h f = let a = ltb-true r.last n p in let b = leb-true c r.last q in omega arith
    by_test true false v p q e h f = f e h
    by_test true true false p q e h f = f e h

are_octets : (rs : List Run) (cs : List ℕ) → end_below 256 rs ≡ true → list_all (is_among rs) cs ≡ true → list_all is_octet cs ≡ true
are_octets rs [] e h = refl
are_octets rs (c ∷ cs) e h = let p = and_parts _ _ h in ap (λ b. b && list_all is_octet cs) (lt-ltb c 256 (among_below 256 c rs e p.0)) ∙ are_octets rs cs e p.1

-- ---- their forms
placed : (c : ℕ) (rs : List Run) → is_among rs c ≡ true → is_some (place_of c rs) ≡ true
placed c [] h = cc
placed c (r ∷ rs) h = go (is_in_run c r) (placed c rs) h
  where
    behind : (o : Option ℕ) → is_some o ≡ true → is_some (option_map (λ i. r.last + 1 - r.first + i) o) ≡ true
    behind None e = cc
    behind (Some i) e = refl

    go : (t : Bool) → (is_among rs c ≡ true → is_some (place_of c rs) ≡ true) → (t || is_among rs c) ≡ true →
        is_some (cond t (Some (c - r.first)) (option_map (λ i. r.last + 1 - r.first + i) (place_of c rs))) ≡ true
    go true k e = refl
    go false k e = behind (place_of c rs) (k e)

own_form : (b c : ℕ) (rs : List Run) → ltb (largest rs) (2 ^ b) ≡ true → is_among rs c ≡ true → Per.character b rs c ≡ exactly (binary b c)
unfolding Per.character
own_form b c rs t h = go (place_of c rs) (ltb (largest rs) (2 ^ b)) (placed c rs h) t
  where
    at : Bool → Option ℕ → Per.BitForm
    at t o = given o (λ i. exactly (binary b (cond t c i)))

    go : (o : Option ℕ) (t : Bool) → is_some o ≡ true → t ≡ true → at t o ≡ exactly (binary b c)
    go None t e f = cc
    go (Some i) true e f = refl
    go (Some i) false e f = cc

own_forms : (rs : List Run) (cs : List ℕ) → ltb (largest rs) (2 ^ 8) ≡ true → list_all (is_among rs) cs ≡ true → map (Per.character 8 rs) cs ≡ Per.octet_units cs
own_forms rs [] t h = refl
own_forms rs (c ∷ cs) t h = let p = and_parts _ _ h in ap (λ x. x ∷ map (Per.character 8 rs) cs) (own_form 8 c rs t p.0) ∙ ap (λ l. exactly (binary 8 c) ∷ l) (own_forms rs cs t p.1)

any_held : (n : ℕ) → is_count_within any_count n ≡ true
any_held n = ap (λ b. b && true) (le-leb 0 n (omega arith))

of_any_size : (al : Bool) (has_padding : Counts → Bool) (us : List Per.BitForm) → Per.sized al any_size any_count has_padding us ≡ Per.counted al us
unfolding Per.sized Per.with_extension_bit Per.sized_root
of_any_size al has_padding us = ap (λ t. only_if t (only_if t (Per.counted al us))) (any_held (length us))

-- ---- all conditions
all_characters : (k : StringKind) (a : Option (Extensible PermittedAlphabet)) → not (alphabet_counts a) ≡ true → permitted k (alphabet_of a) ≡ characters_of k
all_characters k None e = refl
all_characters k (Some c) e = go (is_some c.extensible) e
  where
    go : (t : Bool) → not (not t) ≡ true → permitted k (record { characters = Some c.constraint.characters.now; extensible = t }) ≡ characters_of k
    go true e = refl
    go false e = cc

no_size : (z : Option (Extensible Size)) → not (is_some z) ≡ true → sizes_of z ≡ any_size
no_size None e = refl
no_size (Some c) e = cc

without : (k : StringKind) → have_octet_codes k ≡ true → is_of_octets k ≡ false
without numeric e = refl
without printable e = refl
without visible e = refl
without ia5 e = refl
without bmp e = refl
without general e = cc
without graphic e = cc
without teletex e = cc
without utf8 e = cc

record Asked (al : Bool) (k : StringKind) (z : Option (Extensible Size)) (a : Option (Extensible PermittedAlphabet)) : Type 0 where
  aligned : al ≡ true
  codes : have_octet_codes k ≡ true
  size : not (is_some z) ≡ true
  alphabet : not (alphabet_counts a) ≡ true

asked : (al : Bool) (k : StringKind) (z : Option (Extensible Size)) (a : Option (Extensible PermittedAlphabet)) → is_encoded_as_octets al k z a ≡ true → Asked al k z a
asked al k z a e =
    let p = and_parts (al && have_octet_codes k && not (is_some z)) (not (alphabet_counts a)) e in
    let q = and_parts (al && have_octet_codes k) (not (is_some z)) p.0 in
    let r = and_parts al (have_octet_codes k) q.0 in
    record { aligned = r.0; codes = r.1; size = q.1; alphabet = p.1 }

-- The kind has codes.
pub has_codes : (al : Bool) (k : StringKind) (z : Option (Extensible Size)) (a : Option (Extensible PermittedAlphabet)) → is_encoded_as_octets al k z a ≡ true → is_of_octets k ≡ false
has_codes al k z a e = without k (asked al k z a e).codes

-- Characters of the kind are encoded as octets, after a length determinant.
pub as_octets : (al : Bool) (k : StringKind) (z : Option (Extensible Size)) (a : Option (Extensible PermittedAlphabet)) (cs : List ℕ) →
    is_encoded_as_octets al k z a ≡ true → list_all (is_among (characters_of k)) cs ≡ true → Per.characters al (sizes_of z) any_count (permitted k (alphabet_of a)) cs ≡ Per.counted_octets al cs
unfolding Per.characters Per.counted_octets
as_octets al k z a cs e h =
    let q = asked al k z a e in
    let rs = characters_of k in
    ap (λ t. Per.characters t (sizes_of z) any_count (permitted k (alphabet_of a)) cs) q.aligned
    ∙ ap (λ s. Per.characters true s any_count (permitted k (alphabet_of a)) cs) (no_size z q.size)
    ∙ ap (λ xs. Per.characters true any_size any_count xs cs) (all_characters k a q.alphabet)
    ∙ ap (λ b. Per.sized true any_size any_count (Per.characters_have_padding b (length cs)) (map (Per.character b rs) cs)) (eight k q.codes)
    ∙ ap (λ us. Per.sized true any_size any_count (Per.characters_have_padding 8 (length cs)) us) (own_forms rs cs (by_number k q.codes) h)
    ∙ of_any_size true (Per.characters_have_padding 8 (length cs)) (Per.octet_units cs)
    ∙ ap (λ t. only_if t (Per.counted true (Per.octet_units cs))) (sym (are_octets rs cs (ends k q.codes) h))
    ∙ ap (λ t. Per.counted_octets t cs) (sym q.aligned)

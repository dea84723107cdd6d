-- The field-lists of characters in sequence.
use Rattle.std.proofs.Common.{◌≡◌, ℕ, zero, suc, ◌+◌, ◌-◌, ◌^◌, ◌<◌, ◌≤◌, leb, ltb, Bool, true, false, cond, ◌&&◌, ◌||◌}
use Rattle.std.proofs.Common.{List, [], ◌∷◌, ◌++◌, length, map, take, drop, get_or, slice_range, Option, Some, None}
use Rattle.std.proofs.Common.{option_map, refl, ap, sym, ◌∙◌, append_assoc, arith}
use Rattle.std.specs.Prelude.{is_some, unwrap_or}
use Rattle.std.proofs.lemmas.Bool.{and_parts}
use Rattle.std.proofs.lemmas.List.{take_more, get_or-drop}
use Rattle.asn1_model.specs.Form.{exactly, given}
use Rattle.asn1_model.specs.Numbers.{binary}
use Rattle.asn1_model.specs.Per
use Rattle.asn1_model.specs.Strings.{Run, largest, place_of, is_among, is_in_run}
use Rattle.std.specs.List.{list_all}
use Rattle.per_codec_alphabets.specs.Codes.{Coded, SameCharacters, code_in, code_of, has_code, text_of}
use Rattle.per_codec_alphabets.specs.declared.single.CodedRun.{CodedRun}
use Rattle.per_codec_packing.specs.FieldLists.{as_field_list, field_list_at}
use Rattle.per_codec_packing.proofs.Formed.{as_field_list-append}
use Rattle.per_codec_packing.proofs.Adding.{plus_both}
use Rattle.per_codec_writing.specs.Writing.{Packed, plus}
use Rattle.per_codec_writing.specs.Units.{together, unit_forms}
use Rattle.per_codec_writing.specs.Characters.{low_bits, field_lists_of}

-- ---- one more field-list
together_end : (ts : List (List Bool)) (t : List Bool) → together (ts ++ t ∷ []) ≡ together ts ++ t
together_end [] t = nothing t
  where
    nothing : (t : List Bool) → t ++ [] ≡ t
    nothing [] = refl
    nothing (b ∷ bs) = ap (λ l. b ∷ l) (nothing bs)
together_end (s ∷ ts) t = ap (λ l. s ++ l) (together_end ts t) ∙ sym (append_assoc s (together ts) t)

map_at : (a : Coded) (cs : List ℕ) (i : ℕ) → i < length cs → get_or (field_lists_of a cs) i [] ≡ text_of a (get_or cs i 0)
map_at a [] i h = absurd (omega arith)
map_at a (c ∷ cs) zero h = refl
map_at a (c ∷ cs) (suc i) h = map_at a cs i (omega arith)

pub length-field_lists : (a : Coded) (cs : List ℕ) → length (field_lists_of a cs) ≡ length cs
length-field_lists a [] = refl
length-field_lists a (c ∷ cs) = ap suc (length-field_lists a cs)

pub length-forms : (a : Coded) (cs : List ℕ) → length (unit_forms (field_lists_of a cs)) ≡ length cs
length-forms a [] = refl
length-forms a (c ∷ cs) = ap suc (length-forms a cs)

length_left : (ts : List (List Bool)) (n : ℕ) → length (drop n ts) ≡ length ts - n
length_left ts zero = omega arith
length_left [] (suc n) = omega arith
length_left (t ∷ ts) (suc n) = let i = length_left ts n in omega arith

pub one_more : (a : Coded) (cs : List ℕ) (from i c : ℕ) (old now new : Packed) → from ≤ i → i < length cs → c ≡ get_or cs i 0 →
    now ≡ plus old (as_field_list (together (slice_range (field_lists_of a cs) from i))) → new ≡ plus now (as_field_list (text_of a c)) →
    new ≡ plus old (as_field_list (together (slice_range (field_lists_of a cs) from (i + 1))))
one_more a cs from i c old now new l h e f g =
    let ts = field_lists_of a cs in
    let n = length-field_lists a cs in
    let m = length_left ts from in
    let j : i + 1 - from ≡ i - from + 1 = omega arith in
    let k : from + (i - from) ≡ i = omega arith in
    let within : i - from < length (drop from ts) = omega arith in
    let at : get_or (drop from ts) (i - from) [] ≡ text_of a c = get_or-drop from ts (i - from) [] ∙ ap (λ p. get_or ts p []) k ∙ map_at a cs i h ∙ ap (text_of a) (sym e) in
    let more : slice_range ts from (i + 1) ≡ slice_range ts from i ++ text_of a c ∷ [] = ap (λ p. take p (drop from ts)) j ∙
    take_more (drop from ts) (i - from) [] within ∙ ap (λ t. slice_range ts from i ++ t ∷ []) at in
    g ∙ ap (λ w. plus w (as_field_list (text_of a c))) f ∙ plus_both old (as_field_list (together (slice_range ts from i))) (as_field_list (text_of a c))
    ∙ ap (λ t. plus old t) (as_field_list-append (together (slice_range ts from i)) (text_of a c))
    ∙ ap (λ w. plus old (as_field_list w)) (sym (together_end (slice_range ts from i) (text_of a c)) ∙ ap together (sym more))

-- ---- characters of an alphabet have these field-lists
abbrev by_place : ℕ → ℕ → ℕ → Option ℕ → Per.BitForm
by_place n b c o = given o (λ i. exactly (binary b (cond (ltb n (2 ^ b)) c i)))

coded_form : (n b c : ℕ) (o : Option ℕ) → is_some (option_map (λ i. cond (ltb n (2 ^ b)) c i) o) ≡ true →
    by_place n b c o ≡ exactly (binary b (unwrap_or (option_map (λ i. cond (ltb n (2 ^ b)) c i) o) 0))
coded_form n b c (Some i) e = refl
coded_form n b c None e = cc

one_form : (a : Coded) (rs : List Run) (c : ℕ) → SameCharacters a.runs rs → has_code a c ≡ true → Per.character a.code_bits rs c ≡ exactly (text_of a c)
unfolding Per.character
one_form a rs c s h = ap (by_place (largest rs) a.code_bits c) (sym (s.places c)) ∙
    ap (λ n. by_place n a.code_bits c (place_of c a.runs)) (sym s.greatest) ∙ coded_form (largest a.runs) a.code_bits c (place_of c a.runs) h

pub forms : (a : Coded) (rs : List Run) (cs : List ℕ) → SameCharacters a.runs rs → list_all (has_code a) cs ≡ true → map (Per.character a.code_bits rs) cs ≡ unit_forms (field_lists_of a cs)
forms a rs [] s h = refl
forms a rs (c ∷ cs) s h = let p = and_parts _ _ h in ap (λ x. x ∷ map (Per.character a.code_bits rs) cs) (one_form a rs c s p.0) ∙ ap (λ l. exactly (text_of a c) ∷ l) (forms a rs cs s p.1)

-- ---- characters of a type all have codes
placed : (f : ℕ → ℕ) (c : ℕ) (rs : List Run) → is_among rs c ≡ true → is_some (option_map f (place_of c rs)) ≡ true
placed f c [] h = cc
placed f c (r ∷ rs) h = go (is_in_run c r) (placed f c rs) h
  where
    behind : (o : Option ℕ) → is_some (option_map f o) ≡ true → is_some (option_map f (option_map (λ i. r.last + 1 - r.first + i) o)) ≡ true
    behind None e = cc
    behind (Some i) e = refl

    go : (t : Bool) → (is_among rs c ≡ true → is_some (option_map f (place_of c rs)) ≡ true) → (t || is_among rs c) ≡ true →
        is_some (option_map f (cond t (Some (c - r.first)) (option_map (λ i. r.last + 1 - r.first + i) (place_of c rs)))) ≡ true
    go true k e = refl
    go false k e = behind (place_of c rs) (k e)

pub all_coded : (a : Coded) (rs : List Run) (cs : List ℕ) → SameCharacters a.runs rs → list_all (is_among rs) cs ≡ true → list_all (has_code a) cs ≡ true
all_coded a rs [] s h = refl
all_coded a rs (c ∷ cs) s h =
    let p = and_parts _ _ h in
    let code : ℕ → ℕ = λ i. cond (ltb (largest a.runs) (2 ^ a.code_bits)) c i in
    ap (λ b. b && list_all (has_code a) cs) (ap (λ o. is_some (option_map code o)) (s.places c) ∙ placed code c rs p.0) ∙ all_coded a rs cs s p.1

-- ---- codes that are the characters' numbers
number_field_list : (t : Bool) (b c : ℕ) (o : Option ℕ) → t ≡ true → is_some (option_map (λ i. cond t c i) o) ≡ true → binary b c ≡ binary b (unwrap_or (option_map (λ i. cond t c i) o) 0)
number_field_list true b c (Some i) e h = refl
number_field_list true b c None e h = cc
number_field_list false b c o e h = cc

pub number_codes : (a : Coded) (c : ℕ) → ltb (largest a.runs) (2 ^ a.code_bits) ≡ true → has_code a c ≡ true → text_of a c ≡ low_bits 0 a.code_bits c
number_codes a c t h = sym (number_field_list (ltb (largest a.runs) (2 ^ a.code_bits)) a.code_bits c (place_of c a.runs) t h) ∙ ap (binary a.code_bits) (whole c)
  where
    whole : (c : ℕ) → c ≡ c - 0
    whole c = omega arith

-- codes that are the numbers minus a base
pub run_codes : (a : Coded) (r : CodedRun) (c : ℕ) → ((d : ℕ) → code_of a d ≡ code_in r d) → has_code a c ≡ true → text_of a c ≡ low_bits r.base a.code_bits c
run_codes a r c e h = ap (λ o. binary a.code_bits (unwrap_or o 0)) (e c) ∙ ap (binary a.code_bits) (there (leb r.first c && leb c r.last) (c - r.base) (ap is_some (sym (e c)) ∙ h))
  where
    there : (t : Bool) (n : ℕ) → is_some (cond t (Some n) None) ≡ true → unwrap_or (cond t (Some n) None) 0 ≡ n
    there true n e = refl
    there false n e = cc

pub based_forms : (a : Coded) (base : ℕ) (cs : List ℕ) → ((c : ℕ) → has_code a c ≡ true → text_of a c ≡ low_bits base a.code_bits c) →
    list_all (has_code a) cs ≡ true → unit_forms (map (low_bits base a.code_bits) cs) ≡ unit_forms (field_lists_of a cs)
based_forms a base [] t h = refl
based_forms a base (c ∷ cs) t h =
    let p = and_parts _ _ h in
    ap (λ x. exactly x ∷ unit_forms (map (low_bits base a.code_bits) cs)) (sym (t c p.0))
    ∙ ap (λ l. exactly (text_of a c) ∷ l) (based_forms a base cs t p.1)

-- ---- other characters have no form
no_place : (t : Bool) (c : ℕ) (o : Option ℕ) → is_some (option_map (λ i. cond t c i) o) ≡ false → o ≡ None
no_place t c None e = refl
no_place t c (Some i) e = cc

pub no_form : (a : Coded) (rs : List Run) (c : ℕ) (p : Option ℕ) → SameCharacters a.runs rs → has_code a c ≡ false → field_list_at (Per.character a.code_bits rs c) p ≡ None
unfolding Per.character field_list_at
no_form a rs c p s h = ap (λ o. field_list_at (by_place (largest rs) a.code_bits c o) p) (sym (s.places c) ∙ no_place (ltb (largest a.runs) (2 ^ a.code_bits)) c (place_of c a.runs) h)

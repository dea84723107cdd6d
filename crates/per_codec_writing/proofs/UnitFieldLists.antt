-- Octets, bits and other units of known field-lists, in sequence.
use Rattle.std.proofs.Common.{◌≡◌, ℕ, ◌-◌, ◌≤◌, Bool, List, [], ◌∷◌, ◌++◌, length, map, flat_map, take, drop, slice_range, refl, ap, subst, sym, ◌∙◌, arith}
use Rattle.std.proofs.lemmas.List.{take-map, drop-map}
use Rattle.std.proofs.lemmas.List.Concat.{flat_map-append}
use Rattle.asn1_model.specs.Form.{exactly, joined}
use Rattle.asn1_model.specs.Numbers.{binary, octet_bits}
use Rattle.asn1_model.specs.Per
use Rattle.per_codec_packing.specs.FieldLists.{as_field_list, field_list_at, as_form}
use Rattle.per_codec_packing.specs.Viewed.{field_list_of}
use Rattle.per_codec_packing.proofs.Adding.{plus_both}
use Rattle.per_codec_packing.proofs.Formed.{as_field_list-append}
use Rattle.per_codec_packing.specs.declared.field_list_view.FieldListView.{FieldListView}
use Rattle.per_codec_writing.specs.Characters.{low_bits}
use Rattle.per_codec_writing.specs.Writing.{Packed, Adds, place, plus}
use Rattle.per_codec_writing.specs.Units.{together, unit_forms}
use Rattle.per_codec_writing.specs.Members.{view_forms}
use Rattle.per_codec_writing.proofs.Adding.{adds_joined}
use Rattle.per_codec_writing.proofs.PaddingFieldLists.{plus_nothing}

pub range-map : {X Y : Type 0} (f : X → Y) (xs : List X) (i j : ℕ) → slice_range (map f xs) i j ≡ map f (slice_range xs i j)
range-map f xs i j = ap (take (j - i)) (drop-map f i xs) ∙ take-map f (j - i) (drop i xs)

octets_together : (os : List ℕ) → together (map (binary 8) os) ≡ octet_bits os
octets_together [] = refl
octets_together (o ∷ os) = ap (λ l. binary 8 o ++ l) (octets_together os)

numbers_together : (f : ℕ → List Bool) (os : List ℕ) → together (map f os) ≡ flat_map f os
numbers_together f [] = refl
numbers_together f (o ∷ os) = ap (λ l. f o ++ l) (numbers_together f os)

bits_together : (bs : List Bool) → together (map (λ b. b ∷ []) bs) ≡ bs
bits_together [] = refl
bits_together (b ∷ bs) = ap (λ l. b ∷ l) (bits_together bs)

forms_of_octets : (os : List ℕ) → unit_forms (map (binary 8) os) ≡ Per.octet_units os
forms_of_octets [] = refl
forms_of_octets (o ∷ os) = ap (λ us. exactly (binary 8 o) ∷ us) (forms_of_octets os)

forms_of_bits : (bs : List Bool) → unit_forms (map (λ b. b ∷ []) bs) ≡ Per.bit_units bs
forms_of_bits [] = refl
forms_of_bits (b ∷ bs) = ap (λ us. exactly (b ∷ []) ∷ us) (forms_of_bits bs)

-- ---- those from one index up to another

pub range_added : (ts : List (List Bool)) (i j : ℕ) (old new : Packed) → new ≡ plus old (as_field_list (together (slice_range ts i j))) →
    Adds (field_list_at (joined (slice_range (unit_forms ts) i j)) (place old)) old new
range_added ts i j old new e = subst (λ us. Adds (field_list_at (joined us) (place old)) old new) (sym (range-map (λ t. exactly t) ts i j)) (adds_joined (slice_range ts i j) old new e)

pub numbers_added : (f : ℕ → List Bool) (os : List ℕ) (i j : ℕ) (old new : Packed) →
    new ≡ plus old (as_field_list (flat_map f (slice_range os i j))) → Adds (field_list_at (joined (slice_range (unit_forms (map f os)) i j)) (place old)) old new
numbers_added f os i j old new e =
    range_added (map f os) i j old new (e ∙ ap (λ t. plus old (as_field_list t)) (sym (ap together (range-map f os i j) ∙ numbers_together f (slice_range os i j))))

pub octets_added : (os : List ℕ) (i j : ℕ) (old new : Packed) → new ≡ plus old (as_field_list (octet_bits (slice_range os i j))) →
    Adds (field_list_at (joined (slice_range (Per.octet_units os) i j)) (place old)) old new
octets_added os i j old new e =
    let l : List ℕ = slice_range os i j in
    subst (λ us. Adds (field_list_at (joined us) (place old)) old new) (forms_of_octets l ∙ sym (range-map (λ o. exactly (binary 8 o)) os i j))
    (adds_joined (map (binary 8) l) old new (e ∙ ap (λ t. plus old (as_field_list t)) (sym (octets_together l))))

pub all_octets_added : (os : List ℕ) (old new : Packed) → new ≡ plus old (as_field_list (octet_bits os)) → Adds (field_list_at (joined (Per.octet_units os)) (place old)) old new
all_octets_added os old new e =
    subst (λ us. Adds (field_list_at (joined us) (place old)) old new) (forms_of_octets os)
    (adds_joined (map (binary 8) os) old new (e ∙ ap (λ t. plus old (as_field_list t)) (sym (octets_together os))))

pub bits_added : (bs : List Bool) (i j : ℕ) (old new : Packed) → new ≡ plus old (as_field_list (slice_range bs i j)) →
    Adds (field_list_at (joined (slice_range (Per.bit_units bs) i j)) (place old)) old new
bits_added bs i j old new e =
    let l : List Bool = slice_range bs i j in
    subst (λ us. Adds (field_list_at (joined us) (place old)) old new) (forms_of_bits l ∙ sym (range-map (λ b. exactly (b ∷ [])) bs i j))
    (adds_joined (map (λ b. b ∷ []) l) old new (e ∙ ap (λ t. plus old (as_field_list t)) (sym (bits_together l))))

pub members_added : (vs : List FieldListView) (i j : ℕ) (old new : Packed) →
    Adds (field_list_at (joined (view_forms (slice_range vs i j))) (place old)) old new → Adds (field_list_at (joined (slice_range (view_forms vs) i j)) (place old)) old new
members_added vs i j old new a = subst (λ us. Adds (field_list_at (joined us) (place old)) old new) (sym (range-map (λ (v : FieldListView). as_form (field_list_of v)) vs i j)) a

-- ---- the low bits of octets, some after others

pub low_bits_moved : (f : ℕ → List Bool) (rest front behind : List ℕ) (bs : List Bool) (mid new all : Packed) → front ++ behind ≡ rest →
    plus mid (as_field_list (flat_map f rest)) ≡ all → bs ≡ flat_map f front → new ≡ plus mid (as_field_list bs) → plus new (as_field_list (flat_map f behind)) ≡ all
low_bits_moved f rest front behind bs mid new all j h e n =
    let left : List Bool = flat_map f behind in
    let both : bs ++ left ≡ flat_map f rest = ap (λ l. l ++ left) e ∙ sym (flat_map-append f front behind) ∙ ap (flat_map f) j in
    ap (λ p. plus p (as_field_list left)) n ∙ plus_both mid (as_field_list bs) (as_field_list left) ∙ ap (plus mid) (as_field_list-append bs left ∙ ap as_field_list both) ∙ h

pub no_low_bits : (f : ℕ → List Bool) (rest : List ℕ) (new all : Packed) → length rest ≤ 0 → plus new (as_field_list (flat_map f rest)) ≡ all → new ≡ all
no_low_bits f [] new all h e = sym (plus_nothing new) ∙ e
no_low_bits f (o ∷ os) new all h e = absurd (omega arith)

pub low_octets : (os : List ℕ) → flat_map (binary 8) os ≡ flat_map (low_bits 0 8) os
low_octets [] = refl
low_octets (o ∷ os) = ap (λ n. binary 8 n ++ flat_map (binary 8) os) (whole o) ∙ ap (λ l. low_bits 0 8 o ++ l) (low_octets os)
  where
    whole : (n : ℕ) → n ≡ n - 0
    whole n = omega arith

-- ---- presence bits, some after others

-- The contents octets of identifiers: subidentifiers in sequence, after a length determinant.
use Rattle.std.proofs.Common.{◌≡◌, ℕ, suc, ◌+◌, ◌<◌, Bool, true, List, [], ◌∷◌, ◌++◌, length, flat_map, take, get_or, None, refl, ap, sym, ◌∙◌, append_assoc, add-one}
use Rattle.std.proofs.lemmas.List.{append-nil}
use Rattle.std.proofs.lemmas.List.Concat.{flat_map-append}
use Rattle.std.proofs.Math.Seq.{take-suc}
use Rattle.asn1_model.specs.Numbers.{octet_bits}
use Rattle.asn1_model.specs.Per
use Rattle.asn1_model.specs.Strings.{is_octet, groups_of_seven}
use Rattle.std.specs.List.{list_all}
use Rattle.asn1_values_bits.proofs.Binary.{octet_bits-append}
use Rattle.asn1_values_identifiers.specs.Groups.{contents}
use Rattle.per_codec_packing.specs.FieldLists.{as_field_list, field_list_at}
use Rattle.per_codec_packing.proofs.Adding.{plus_both}
use Rattle.per_codec_packing.proofs.Formed.{as_field_list-append}
use Rattle.per_codec_writing.specs.declared.length.Due.{Due}
use Rattle.per_codec_writing.specs.Writing.{Packed, Adds, place, plus}
use Rattle.per_codec_writing.proofs.Fragments.{adds_octets}
use Rattle.per_codec_writing.proofs.HeadingForms.{counted_added}
use Rattle.per_codec_writing.proofs.HeadingFieldLists.{few_heads}
use Rattle.per_codec_writing.proofs.UnitFieldLists.{all_octets_added}

pub first_contents : (first : ℕ) (old new : Packed) → new ≡ plus old (as_field_list (octet_bits (groups_of_seven first))) → new ≡ plus old (as_field_list (octet_bits (contents first [])))
first_contents first old new e = e ∙ ap (λ l. plus old (as_field_list (octet_bits l))) (sym (append-nil (groups_of_seven first)))

contents_more : (first : ℕ) (xs : List ℕ) (i : ℕ) → i < length xs → contents first (take (i + 1) xs) ≡ contents first (take i xs) ++ groups_of_seven (get_or xs i 0)
contents_more first xs i h =
    let front : List ℕ = take i xs in
    let x : ℕ = get_or xs i 0 in
    ap (λ k. contents first (take k xs)) (add-one i) ∙ ap (contents first) (take-suc xs i 0 h)
    ∙ ap (λ l. groups_of_seven first ++ l) (flat_map-append groups_of_seven front (x ∷ []) ∙ ap (λ l. flat_map groups_of_seven front ++ l) (append-nil (groups_of_seven x)))
    ∙ sym (append_assoc (groups_of_seven first) (flat_map groups_of_seven front) (groups_of_seven x))

pub more_contents : (first : ℕ) (xs : List ℕ) (i n : ℕ) (old mid new : Packed) → i < length xs → n ≡ get_or xs i 0 →
    mid ≡ plus old (as_field_list (octet_bits (contents first (take i xs)))) → new ≡ plus mid (as_field_list (octet_bits (groups_of_seven n))) →
    new ≡ plus old (as_field_list (octet_bits (contents first (take (i + 1) xs))))
more_contents first xs i n old mid new h m e f =
    let front : List ℕ = contents first (take i xs) in
    let behind : List ℕ = groups_of_seven (get_or xs i 0) in
    f ∙ ap (λ k. plus mid (as_field_list (octet_bits (groups_of_seven k)))) m ∙ ap (λ p. plus p (as_field_list (octet_bits behind))) e ∙
    plus_both old (as_field_list (octet_bits front)) (as_field_list (octet_bits behind))
    ∙ ap (plus old) (as_field_list-append (octet_bits front) (octet_bits behind) ∙ ap as_field_list (sym (octet_bits-append front behind) ∙ ap octet_bits (sym (contents_more first xs i h))))

unit_count : (os : List ℕ) → length (Per.octet_units os) ≡ length os
unit_count [] = refl
unit_count (o ∷ os) = ap suc (unit_count os)

pub short_counted : (al : Bool) (os : List ℕ) (n : ℕ) (old mid new : Packed) → list_all is_octet os ≡ true → n ≡ length os → n < 16384 →
    Adds (field_list_at (Per.short_length al n) (place old)) old mid → new ≡ plus mid (as_field_list (octet_bits os)) → Adds (field_list_at (Per.counted_octets al os) (place old)) old new
short_counted al os n old mid new h e l a b =
    let due : Due = record { units = n; behind = None } in
    adds_octets al os old new h
    (counted_added al (Per.octet_units os) n due old mid new (e ∙ sym (unit_count os)) (few_heads al n due old mid l refl a) (all_octets_added os mid new b))

-- At a known position, the bits that are written there are added.
use Rattle.std.proofs.Common.{◌≡◌, Bool, List, ◌++◌, length, Option, Some, None, option_map, refl, ap, sym, ◌∙◌}
use Rattle.asn1_model.specs.Form.{written}
use Rattle.asn1_model.specs.Per
use Rattle.per_codec_packing.specs.FieldLists.{FieldList, as_field_list, field_list_at}
use Rattle.per_codec_packing.proofs.Formed.{known, length-field_list, as_field_list-append}
use Rattle.per_codec_packing.specs.Packed.{Packed, Adds, from_start, place, plus}
use Rattle.per_codec_packing.proofs.Adding.{added}

at_place : (x : Per.BitForm) (o : List Bool) → field_list_at x (place (from_start o)) ≡ option_map as_field_list (written x (length o))
at_place x o = ap (λ n. field_list_at x (Some n)) (length-field_list o) ∙ known x (length o)

pub bits_written : (x : Per.BitForm) (o : List Bool) (new : Packed) → Adds (field_list_at x (place (from_start o))) (from_start o) new →
    (w : List Bool) × (written x (length o) ≡ Some w) × (new ≡ from_start (o ++ w))
bits_written x o new a =
    let p = added (field_list_at x (place (from_start o))) (from_start o) new a in
    let q = bits (written x (length o)) p.0 (sym (at_place x o) ∙ p.1) in
    (q.0, q.1, sym p.2 ∙ ap (λ t. plus (from_start o) t) q.2 ∙ ap (λ t. let r : Packed = record { field_list = t; placed = (from_start o).placed } in r) (as_field_list-append o q.0))
  where
    bits : (u : Option (List Bool)) (w : FieldList) → option_map as_field_list u ≡ Some w → (l : List Bool) × (u ≡ Some l) × (w ≡ as_field_list l)
    bits None w e = cc
    bits (Some l) w e = (l, refl, cc)

pub none_written : (x : Per.BitForm) (o : List Bool) → field_list_at x (place (from_start o)) ≡ None → written x (length o) ≡ None
none_written x o e = none (written x (length o)) (sym (at_place x o) ∙ e)
  where
    none : (u : Option (List Bool)) → option_map as_field_list u ≡ None → u ≡ None
    none None e = refl
    none (Some l) e = cc

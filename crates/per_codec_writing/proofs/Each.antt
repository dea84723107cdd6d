-- Elements in sequence.
use Rattle.std.proofs.Common.{◌≡◌, ℕ, ◌+◌, ◌<◌, ◌≤◌, List, [], ◌∷◌, length, get_or, drop, Some, ap, subst, sym, ◌∙◌}
use Rattle.std.proofs.lemmas.List.{append-nil, drop_more}
use Rattle.asn1_model.specs.Form.{joined}
use Rattle.per_codec_packing.specs.FieldLists.{field_list_at, as_form}
use Rattle.per_codec_packing.proofs.Spread.{none_left}
use Rattle.per_codec_writing.specs.Writing.{Packed, Adds, place}
use Rattle.per_codec_writing.proofs.PaddingFieldLists.{adds_both}
use Rattle.per_codec_writing.specs.Members.{view_forms}
use Rattle.per_codec_packing.specs.Viewed.{field_list_of}
use Rattle.per_codec_packing.specs.declared.field_list_view.FieldListView.{FieldListView}

-- no element adds nothing
pub none_more : (p : Packed) → Adds (field_list_at (joined (view_forms [])) (place p)) p p
unfolding field_list_at
none_more p = ap (λ t. Some (record { field_list = t; placed = p.placed })) (append-nil p.field_list)

-- one element, and those after it
pub next_added : (ms : List FieldListView) (i : ℕ) (m : FieldListView) (old mid new : Packed) → i < length ms → m ≡ get_or ms i m →
    Adds (field_list_at (as_form (field_list_of m)) (place old)) old mid →
    Adds (field_list_at (joined (view_forms (drop (i + 1) ms))) (place mid)) mid new → Adds (field_list_at (joined (view_forms (drop i ms))) (place old)) old new
next_added ms i m old mid new h e a r =
    let d : m ∷ drop (i + 1) ms ≡ drop i ms = ap (λ x. x ∷ drop (i + 1) ms) e ∙ sym (drop_more ms i m h) in
    subst (λ l. Adds (field_list_at (joined (view_forms l)) (place old)) old new) d
    (adds_both (as_form (field_list_of m)) (joined (view_forms (drop (i + 1) ms))) old mid new a r)

-- after the last one
pub at_end : (ms : List FieldListView) (i : ℕ) (p : Packed) → length ms ≤ i → Adds (field_list_at (joined (view_forms (drop i ms))) (place p)) p p
at_end ms i p h = subst (λ l. Adds (field_list_at (joined (view_forms l)) (place p)) p p) (sym (none_left i ms h)) (none_more p)

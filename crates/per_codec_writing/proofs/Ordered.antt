-- Field-lists in the order of their complete encodings are those in the order of the octets of these.
use Rattle.std.proofs.Common.{◌≡◌, ℕ, zero, suc, ◌+◌, ◌<◌, Bool, true, false, cond, ltb, List, [], ◌∷◌, ◌++◌, length}
use Rattle.std.proofs.Common.{map, take, drop, get_or, Option, Some, option_map, option_and_then, refl, ap, subst, sym}
use Rattle.std.proofs.Common.{◌∙◌, add-one, arith}
use Rattle.std.specs.Prelude.{⊤}
use Rattle.std.proofs.lemmas.List.{length-drop, drop_more, take_more, map-append}
use Rattle.asn1_model.specs.Form.{written, ascending, with_keys, put_in_place, stands_before, given}
use Rattle.asn1_model.specs.Numbers.{octet_bits}
use Rattle.asn1_model.specs.Strings.{is_octet}
use Rattle.std.specs.List.{list_all}
use Rattle.asn1_model.specs.Per
use Rattle.asn1_laws_numbers.proofs.Ordered.{ordered_as_bits}
use Rattle.asn1_schema_order.specs.Entries.{octets_of, ArePlaced, AreInOrder}
use Rattle.asn1_schema_order.specs.declared.encodings.Entry.{Entry}
use Rattle.per_codec_packing.specs.FieldLists.{FieldList, field_list_at, as_form}
use Rattle.per_codec_packing.specs.Viewed.{field_list_of}
use Rattle.per_codec_packing.specs.declared.field_list_view.FieldListView.{FieldListView}
use Rattle.per_codec_writing.specs.Keys.{AreKeyed}
use Rattle.per_codec_writing.specs.Members.{forms, view_forms}

abbrev by_bits : List Bool → List Bool → Bool
by_bits = stands_before Per.bit_less

abbrev by_octets : List ℕ → List ℕ → Bool
by_octets = stands_before ltb

abbrev key : Per.BitForm → Option (List Bool)
key x = written (Per.complete x) 0

abbrev own : Entry → Option (List ℕ)
own e = Some (octets_of e)

-- an entry with its octets
abbrev Held : Type 0
Held = List ℕ × Entry

-- the entries are of some field-lists, and have octets
abbrev AreOf : List FieldList → List Held → Type 0
AreOf ts [] = ⊤
AreOf ts (e ∷ es) = (list_all is_octet e.0 ≡ true) × (e.1.index < length ts) × AreOf ts es

-- entries are of some field-lists
abbrev pub AreWithin : List FieldList → List Entry → Type 0
AreWithin ts [] = ⊤
AreWithin ts (e ∷ es) = (e.index < length ts) × AreWithin ts es

module _ (ts : List FieldList) where
  -- the field-list of an entry, as a form
  abbrev pub form_at : Entry → Per.BitForm
  form_at e = as_form (get_or ts e.index [])

  -- .. and with its bits
  abbrev turned : Held → List Bool × Per.BitForm
  turned e = (octet_bits e.0, form_at e.1)

  put_turned : (e : Held) (es : List Held) → list_all is_octet e.0 ≡ true → AreOf ts es → put_in_place by_bits (turned e) (map turned es) ≡ map turned (put_in_place by_octets e es)
  put_turned e [] h k = refl
  put_turned e (d ∷ es) h k =
      ap (λ b. cond b (turned d ∷ put_in_place by_bits (turned e) (map turned es)) (turned e ∷ turned d ∷ map turned es)) (ordered_as_bits d.0 e.0 k.0 h)
      ∙ go (by_octets d.0 e.0) (put_turned e es h k.2)
    where
      go : (b : Bool) → put_in_place by_bits (turned e) (map turned es) ≡ map turned (put_in_place by_octets e es) →
          cond b (turned d ∷ put_in_place by_bits (turned e) (map turned es)) (turned e ∷ turned d ∷ map turned es) ≡ map turned (cond b (d ∷ put_in_place by_octets e es) (e ∷ d ∷ es))
      go true i = ap (λ l. turned d ∷ l) i
      go false i = refl

  put_of : (e : Held) (es : List Held) → list_all is_octet e.0 ≡ true → e.1.index < length ts → AreOf ts es → AreOf ts (put_in_place by_octets e es)
  put_of e [] h l k = (h, l, tt)
  put_of e (d ∷ es) h l k = go (by_octets d.0 e.0) (put_of e es h l k.2)
    where
      go : (b : Bool) → AreOf ts (put_in_place by_octets e es) → AreOf ts (cond b (d ∷ put_in_place by_octets e es) (e ∷ d ∷ es))
      go true i = (k.0, k.1, i)
      go false i = (h, l, k)

  -- the entries of field-lists, by octets and by bits
  record Entered (us : List FieldList) (es : List Entry) : Type 0 where
    held : List Held
    sound : AreOf ts held
    owned : with_keys own by_octets es ≡ Some held
    keyed : with_keys key by_bits (forms us) ≡ Some (map turned held)

  -- the field-list at an index, and those after it
  front : (i : ℕ) (u : FieldList) (us : List FieldList) → drop i ts ≡ u ∷ us → (i < length ts) × (get_or ts i [] ≡ u) × (drop (suc i) ts ≡ us)
  front i u us e =
      let l : i < length ts = omega (arith, length-drop i ts, ap length e) in
      let d : get_or ts i [] ∷ drop (suc i) ts ≡ u ∷ us = ap (λ n. get_or ts i [] ∷ drop n ts) (sym (add-one i)) ∙ sym (drop_more ts i [] l) ∙ e in
      (l, cc, cc)

  entered : (i : ℕ) (us : List FieldList) (ws : List (List ℕ)) (es : List Entry) → drop i ts ≡ us → AreKeyed us ws → ArePlaced i ws es → Entered us es
  entered i [] (w ∷ ws) es d r p = absurd r
  entered i (u ∷ us) [] es d r p = absurd r
  entered i [] [] (e ∷ es) d r p = absurd p
  entered i (u ∷ us) (w ∷ ws) [] d r p = absurd p
  entered i [] [] [] d r p = record { held = []; sound = tt; owned = refl; keyed = refl }
  entered i (u ∷ us) (w ∷ ws) (e ∷ es) d r p = go (entered (suc i) us ws es at.2 r.1 p.2)
    where
      at : (i < length ts) × (get_or ts i [] ≡ u) × (drop (suc i) ts ≡ us)
      at = front i u us d

      entry : Held
      entry = (octets_of e, e)

      octets : list_all is_octet (octets_of e) ≡ true
      octets = ap (list_all is_octet) p.0 ∙ r.0.octets

      field_list : get_or ts e.index [] ≡ u
      field_list = ap (λ k. get_or ts k []) p.1 ∙ at.1

      within : e.index < length ts
      within = subst (λ k. k < length ts) (sym p.1) at.0

      go : Entered us es → Entered (u ∷ us) (e ∷ es)
      go x = record {
        held = put_in_place by_octets entry x.held;
        sound = put_of entry x.held octets within x.sound;
        owned = ap (option_map (λ l. put_in_place by_octets entry l)) x.owned;
        keyed =
            ap (option_and_then (λ b. option_map (λ l. put_in_place by_bits (b, as_form u) l) (with_keys key by_bits (forms us)))) r.0.key
            ∙ ap (option_map (λ l. put_in_place by_bits (octet_bits w, as_form u) l)) x.keyed
            ∙ ap (λ v. Some (put_in_place by_bits (octet_bits v, as_form u) (map turned x.held))) (sym p.0)
            ∙ ap (λ t. Some (put_in_place by_bits (octet_bits (octets_of e), as_form t) (map turned x.held))) (sym field_list)
            ∙ ap Some (put_turned entry x.held octets x.sound);
      }

  last_turned : (es : List Held) → map (λ (e : List Bool × Per.BitForm). e.1) (map turned es) ≡ map form_at (map (λ (e : Held). e.1) es)
  last_turned [] = refl
  last_turned (e ∷ es) = ap (λ l. form_at e.1 ∷ l) (last_turned es)

  last_within : (es : List Held) → AreOf ts es → AreWithin ts (map (λ (e : Held). e.1) es)
  last_within [] h = tt
  last_within (e ∷ es) h = (h.1, last_within es h.2)

  module _ (ws : List (List ℕ)) (entries : List Entry) (r : AreKeyed ts ws) (o : AreInOrder ws entries) where
    all : Entered ts o.all
    all = entered 0 ts ws o.all refl r o.placed

    sorted : map (λ (e : Held). e.1) all.held ≡ entries
    sorted = let e : Some (map (λ (e : Held). e.1) all.held) ≡ Some entries = sym (ap (option_map (map (λ (e : Held). e.1))) all.owned) ∙ o.ascend in cc

    pub entries_within : AreWithin ts entries
    entries_within = subst (AreWithin ts) sorted (last_within all.held all.sound)

    pub in_order_of_bits : (vs : List FieldListView) → view_forms vs ≡ map form_at entries → ascending key by_bits (forms ts) ≡ Some (view_forms vs)
    in_order_of_bits vs e =
        ap (option_map (map (λ (e : List Bool × Per.BitForm). e.1))) all.keyed ∙ ap Some (last_turned all.held ∙ ap (map form_at) sorted ∙ sym e)

pub within_at : (ts : List FieldList) (es : List Entry) (k : ℕ) (e d : Entry) → AreWithin ts es → k < length es → e ≡ get_or es k d → e.index < length ts
within_at ts [] k e d h l q = absurd (omega arith)
within_at ts (f ∷ es) zero e d h l q = subst (λ (x : Entry). x.index < length ts) (sym q) h.0
within_at ts (f ∷ es) (suc k) e d h l q = within_at ts es k e d h.1 (omega arith) q

-- one more view of the field-lists of entries
pub next_of : (ts : List FieldList) (es : List Entry) (vs more : List FieldListView) (k : ℕ) (e d : Entry) (v : FieldListView) → k < length es →
    view_forms vs ≡ map (form_at ts) (take k es) → e ≡ get_or es k d → field_list_of v ≡ get_or ts e.index [] → more ≡ vs ++ v ∷ [] → view_forms more ≡ map (form_at ts) (take (k + 1) es)
next_of ts es vs more k e d v l h q t f =
    ap view_forms f ∙ map-append (λ u. as_form (field_list_of u)) vs (v ∷ [])
    ∙ ap (λ us. us ++ as_form (field_list_of v) ∷ []) h ∙ ap (λ u. map (form_at ts) (take k es) ++ as_form u ∷ []) t
    ∙ sym (map-append (form_at ts) (take k es) (e ∷ []))
    ∙ ap (map (form_at ts)) (ap (λ x. take k es ++ x ∷ []) q ∙ sym (take_more es k d l))

pub length-members : (vs : List FieldListView) → length (view_forms vs) ≡ length vs
length-members [] = refl
length-members (v ∷ vs) = ap suc (length-members vs)

-- the field-list of a bag is that of the list of its elements in order
pub bag_field_list : (ts : List FieldList) (vs : List FieldListView) (f : List Per.BitForm → Per.BitForm) (q : Option ℕ) →
    ascending (λ x. written (Per.complete x) 0) (stands_before Per.bit_less) (forms ts) ≡ Some (view_forms vs) → field_list_at (Per.in_any_order (forms ts) f) q ≡ field_list_at (f (view_forms vs)) q
unfolding field_list_at Per.in_any_order
bag_field_list ts vs f q e = ap (λ o. field_list_at (given o f) q) e

-- The pieces of which the octet rules compose their forms.
use Rattle.std.specs.Prelude.{is_some}
use Rattle.std.proofs.Common.{◌≡◌, ℕ, zero, suc, ltb, Bool, true, false, cond, ◌&&◌, ◌||◌, List, [], ◌∷◌, map, Option, Some, None, option_map, refl, ap, ◌∙◌}
use Rattle.std.proofs.Math.Path.{fun_ext}
use Rattle.asn1_model.specs.Value.{Value, item, members, bag, fields, chosen, Parts, end, absent, present}
use Rattle.asn1_model.specs.Schema.{Schema, enumerated, sequence_of, set_of, sequence, set, group, choice, Components, no_component, component, Alternatives, no_alternative, alternative}
use Rattle.asn1_model.specs.Normal.{presence_bits, is_required}
use Rattle.asn1_model.specs.Form.{refused, both, varied, written, only_if, given, Bitmap, own_bitmap}
use Rattle.asn1_model.specs.Oer
use Rattle.asn1_laws_values.proofs.Composition.{Pieces, IsComposed, component_forms, addition_forms, bitmapped, sequence_form, fields_form, alternative_form, is_of_kind}

abbrev pub octet_pieces : Pieces ℕ
octet_pieces = record {
  form = λ s v. Oer.form s v;
  item_form = λ n k e o p. only_if (is_some o || (e && is_some p)) (Oer.item_form n);
  list_form = λ z c us. Oer.members_form c us;
  key = λ x. written x 0;
  less = λ a b. ltb a b;
  preamble = λ ms. Oer.preamble ms;
  bitmap = λ xs. Oer.counted_bits (map (λ a. is_some a) xs);
  counted = λ os. Oer.counted os;
  open_type = λ x. Oer.open_type x;
  tagged = λ a t x. both (Oer.tag_form t) (cond a (Oer.open_type x) x);
  root_form = λ e k i x. x;
  added_form = λ i x. x;
}

components_are : (cs : Components) (ps : Parts) → Oer.component_forms cs ps ≡ component_forms octet_pieces cs ps
unfolding Oer.component_forms
components_are no_component end = refl
components_are no_component (absent ps) = refl
components_are no_component (present v ps) = refl
components_are (component t o s cs) end = refl
components_are (component t o s cs) (absent ps) = ap (λ x. cond (is_required o) refused x) (components_are cs ps)
components_are (component t o s cs) (present v ps) = ap (λ x. both (Oer.spelled o s v (Oer.form s v)) x) (components_are cs ps)

additions_are : (cs : Components) (ps : Parts) → Oer.addition_forms cs ps ≡ addition_forms octet_pieces cs ps
unfolding Oer.addition_forms
additions_are no_component end = refl
additions_are no_component (absent ps) = refl
additions_are no_component (present v ps) = refl
additions_are (component t o s cs) end = refl
additions_are (component t o s cs) (absent ps) =
    ap (λ x. cond (is_required o) None (option_map (λ xs. None ∷ xs) x)) (additions_are cs ps)
additions_are (component t o s cs) (present v ps) =
    ap (λ x. option_map (λ xs. Some (Oer.spelled o s v (Oer.open_type (Oer.form s v))) ∷ xs) x) (additions_are cs ps)

bitmapped_is : (ms : List Bool) (r : Oer.OctetForm) (xs : List (Option Oer.OctetForm)) (b : Option Bitmap) →
    Oer.bitmapped ms r xs b ≡ bitmapped octet_pieces ms r xs b
unfolding Oer.bitmapped Oer.with_additions Oer.additions
bitmapped_is ms r xs None = refl
bitmapped_is ms r xs (Some b) = refl

sequence_is : (e : Bool) (ms : List Bool) (r : Oer.OctetForm) (xs : List (Option Oer.OctetForm)) →
    Oer.sequence_form e ms r xs ≡ sequence_form octet_pieces e ms r xs
unfolding Oer.sequence_form
sequence_is false ms r [] = refl
sequence_is false ms r (x ∷ xs) = refl
sequence_is true ms r xs = ap (λ f. varied Oer.other_bitmap (own_bitmap xs) f) (fun_ext (λ b. bitmapped_is ms r xs b))

fields_are : (cs : Components) (e : Bool) (adds : Components) (ps qs : Parts) →
    given (Oer.addition_forms adds qs) (Oer.sequence_form e (presence_bits cs ps) (Oer.component_forms cs ps))
    ≡ fields_form octet_pieces cs e adds ps qs
fields_are cs e adds ps qs =
    let ms = presence_bits cs ps in
    let r = component_forms octet_pieces cs ps in
    ap (λ r. given (Oer.addition_forms adds qs) (Oer.sequence_form e ms r)) (components_are cs ps)
    ∙ ap (λ o. given o (Oer.sequence_form e ms r)) (additions_are adds qs)
    ∙ ap (λ f. given (addition_forms octet_pieces adds qs) f) (fun_ext (λ xs. sequence_is e ms r xs))

alternatives_are : (added : Bool) (others : Alternatives) (i : ℕ) (v : Value) →
    Oer.alternative_form added others i v ≡ alternative_form octet_pieces added others i v
unfolding Oer.alternative_form
alternatives_are true no_alternative i v = refl
alternatives_are false no_alternative i v = refl
alternatives_are true (alternative t s others) zero v = refl
alternatives_are false (alternative t s others) zero v = refl
alternatives_are true (alternative t s others) (suc i) v = alternatives_are true others i v
alternatives_are false (alternative t s others) (suc i) v = alternatives_are false others i v

only_of_kind : (s : Schema) (v : Value) → Oer.form s v ≡ only_if (is_of_kind s v) (Oer.form s v)
unfolding Oer.form
only_of_kind (enumerated roots e adds) (item n) = refl
only_of_kind (sequence_of z c s) (members vs) = refl
only_of_kind (set_of z c s) (bag vs) = refl
only_of_kind (sequence cs e adds) (fields ps qs) = refl
only_of_kind (set cs e adds) (fields ps qs) = refl
only_of_kind (group cs) (fields ps end) = refl
only_of_kind (choice roots e adds) (chosen false i v) = refl
only_of_kind (choice roots true adds) (chosen true i v) = refl
only_of_kind s (members vs) = refl
only_of_kind s (bag vs) = refl
only_of_kind s (fields ps qs) = refl
only_of_kind s (chosen a i v) = refl
only_of_kind s v = refl

pub composed : IsComposed octet_pieces
unfolding Oer.form Oer.in_any_order
composed = record {
  only = only_of_kind;
  items = λ roots e adds n. refl;
  root_items = λ n k e i o p. refl;
  no_marker = λ n k o. refl;
  no_item = λ n k. refl;
  lists = λ z c s vs. refl;
  bags = λ z c s vs. refl;
  sequences = fields_are;
  sets = fields_are;
  groups = λ cs ps. ap (λ x. both (Oer.preamble (presence_bits cs ps)) x) (components_are cs ps);
  roots = λ others e adds i v. alternatives_are false others i v;
  added = λ others adds i v. alternatives_are true adds i v;
  same_bitmap = λ xs ys e. ap (λ bs. Oer.counted_bits bs) e;
}

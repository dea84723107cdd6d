-- The pieces of which the packed rules compose their forms.
use Rattle.std.specs.Prelude.{is_some}
use Rattle.std.proofs.Common.{◌≡◌, ℕ, zero, suc, ◌-◌, Bool, true, false, cond, List, [], ◌∷◌, map, Option, Some, None, option_map, refl, ap, sym, ◌∙◌}
use Rattle.std.proofs.Math.Path.{fun_ext}
use Rattle.asn1_model.specs.Value.{Value, item, members, bag, fields, chosen, Parts, end, absent, present}
use Rattle.asn1_model.specs.Schema.{Schema, enumerated, sequence_of, set_of, sequence, set, group, choice, Components, no_component, component, Alternatives, no_alternative, alternative}
use Rattle.asn1_model.specs.Normal.{presence_bits, is_required, alternative_count}
use Rattle.asn1_model.specs.Form.{exactly, refused, both, varied, written, only_if, given, Bitmap, own_bitmap}
use Rattle.asn1_model.specs.Per
use Rattle.asn1_laws_values.proofs.Composition.{Pieces, IsComposed, component_forms, addition_forms, bitmapped, sequence_form, fields_form, alternative_form, is_of_kind}

flags_are : (xs : List (Option Per.BitForm)) → map Per.flag xs ≡ Per.bit_units (map (λ a. is_some a) xs)
flags_are [] = refl
flags_are (x ∷ xs) = ap (λ l. Per.flag x ∷ l) (flags_are xs)

abbrev pub bit_pieces : Bool → Pieces Bool
bit_pieces al = record {
  form = λ s v. Per.form al s v;
  item_form = λ n k e o p. Per.item_form al k e o p;
  list_form = λ z c us. Per.sized al z c (λ c. false) us;
  key = λ x. written (Per.complete x) 0;
  less = λ a b. Per.bit_less a b;
  preamble = λ ms. exactly ms;
  bitmap = λ xs. Per.normally_few al (map Per.flag xs);
  counted = λ os. Per.counted_octets al os;
  open_type = λ x. Per.open_type al x;
  tagged = λ a t x. x;
  root_form = λ e k i x. both (Per.extension_bit_of e false) (both (Per.constrained al (k - 1) i) x);
  added_form = λ i x. both (exactly (true ∷ [])) (both (Per.normally_small al i) (Per.open_type al x));
}

module _ (al : Bool) where
  abbrev R : Pieces Bool
  R = bit_pieces al

  components_are : (cs : Components) (ps : Parts) → Per.component_forms al cs ps ≡ component_forms R cs ps
  unfolding Per.component_forms
  components_are no_component end = refl
  components_are no_component (absent ps) = refl
  components_are no_component (present v ps) = refl
  components_are (component t o s cs) end = refl
  components_are (component t o s cs) (absent ps) = ap (λ x. cond (is_required o) refused x) (components_are cs ps)
  components_are (component t o s cs) (present v ps) = ap (λ x. both (Per.spelled o s v (Per.form al s v)) x) (components_are cs ps)

  additions_are : (cs : Components) (ps : Parts) → Per.addition_forms al cs ps ≡ addition_forms R cs ps
  unfolding Per.addition_forms
  additions_are no_component end = refl
  additions_are no_component (absent ps) = refl
  additions_are no_component (present v ps) = refl
  additions_are (component t o s cs) end = refl
  additions_are (component t o s cs) (absent ps) =
      ap (λ x. cond (is_required o) None (option_map (λ xs. None ∷ xs) x)) (additions_are cs ps)
  additions_are (component t o s cs) (present v ps) =
      ap (λ x. option_map (λ xs. Some (Per.spelled o s v (Per.open_type al (Per.form al s v))) ∷ xs) x) (additions_are cs ps)

  bitmapped_is : (ms : List Bool) (r : Per.BitForm) (xs : List (Option Per.BitForm)) (b : Option Bitmap) →
      Per.bitmapped al ms r xs b ≡ bitmapped R ms r xs b
  unfolding Per.bitmapped Per.with_additions Per.additions
  bitmapped_is ms r xs None = refl
  bitmapped_is ms r xs (Some b) = refl

  sequence_is : (e : Bool) (ms : List Bool) (r : Per.BitForm) (xs : List (Option Per.BitForm)) →
      Per.sequence_form al e ms r xs ≡ sequence_form R e ms r xs
  unfolding Per.sequence_form
  sequence_is false ms r [] = refl
  sequence_is false ms r (x ∷ xs) = refl
  sequence_is true ms r xs = ap (λ f. varied Per.other_bitmap (own_bitmap xs) f) (fun_ext (λ b. bitmapped_is ms r xs b))

  fields_are : (cs : Components) (e : Bool) (adds : Components) (ps qs : Parts) →
      given (Per.addition_forms al adds qs) (Per.sequence_form al e (presence_bits cs ps) (Per.component_forms al cs ps))
      ≡ fields_form R cs e adds ps qs
  fields_are cs e adds ps qs =
      let ms = presence_bits cs ps in
      let r = component_forms R cs ps in
      ap (λ r. given (Per.addition_forms al adds qs) (Per.sequence_form al e ms r)) (components_are cs ps)
      ∙ ap (λ o. given o (Per.sequence_form al e ms r)) (additions_are adds qs)
      ∙ ap (λ f. given (addition_forms R adds qs) f) (fun_ext (λ xs. sequence_is e ms r xs))

  alternatives_are : (added : Bool) (others : Alternatives) (i : ℕ) (v : Value) →
      Per.alternative_form al others i v ≡ alternative_form R added others i v
  unfolding Per.alternative_form
  alternatives_are added no_alternative i v = refl
  alternatives_are added (alternative t s others) zero v = refl
  alternatives_are added (alternative t s others) (suc i) v = alternatives_are added others i v

  only_of_kind : (s : Schema) (v : Value) → Per.form al s v ≡ only_if (is_of_kind s v) (Per.form al s v)
  unfolding Per.form
  only_of_kind (enumerated roots e adds) (item n) = refl
  only_of_kind (sequence_of z c s) (members vs) = refl
  only_of_kind (set_of z c s) (bag vs) = refl
  only_of_kind (sequence cs e adds) (fields ps qs) = refl
  only_of_kind (set cs e adds) (fields ps qs) = refl
  only_of_kind (group cs) (fields ps end) = refl
  only_of_kind (choice roots e adds) (chosen false i v) = refl
  only_of_kind (choice roots true adds) (chosen true i v) = refl
  only_of_kind s (members vs) = refl
  only_of_kind s (bag vs) = refl
  only_of_kind s (fields ps qs) = refl
  only_of_kind s (chosen a i v) = refl
  only_of_kind s v = refl

  pub composed : IsComposed R
  unfolding Per.form Per.in_any_order Per.item_form
  composed = record {
    only = only_of_kind;
    items = λ roots e adds n. refl;
    root_items = λ n k e i o p. refl;
    no_marker = λ n k o. refl;
    no_item = λ n k. refl;
    lists = λ z c s vs. refl;
    bags = λ z c s vs. refl;
    sequences = fields_are;
    sets = fields_are;
    groups = λ cs ps. ap (λ x. both (exactly (presence_bits cs ps)) x) (components_are cs ps);
    roots = λ others e adds i v. ap (R.root_form e (alternative_count others) i) (alternatives_are false others i v);
    added = λ others adds i v. ap (R.added_form i) (alternatives_are true adds i v);
    same_bitmap = λ xs ys e.
        ap (λ us. Per.normally_few al us) (flags_are xs ∙ ap (λ bs. Per.bit_units bs) e ∙ sym (flags_are ys));
  }

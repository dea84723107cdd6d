-- CHOICE types by the alternatives of an enum, and enumerations by their items.
use Rattle.std.proofs.Common.{◌≡◌, ℕ, ℤ, Bool, true, false, List, [], ◌∷◌, ap, subst, sym, refl}
use Rattle.asn1_model.specs.Lawful.{is_tag}
use Rattle.asn1_model.specs.Schema.{Tag, Schema}
use Rattle.asn1_model.specs.Types.{context}
use Rattle.asn1_model.specs.Value.{Value}
use Rattle.asn1_model.specs.Lawful.{are_tags}
use Rattle.asn1_schema_laws.specs.Tables.{IsValue}
use Rattle.asn1_schema_laws.proofs.Beginnings.{all_tags_begin}
use Rattle.asn1_schema_types.specs.declared.described.Described.{Ghosts}
use Rattle.asn1_schema_tags.specs.declared.chosen.Chosen.{Chosen}
use Rattle.asn1_schema_authored.specs.ChoiceShapes.{ChoiceShape}
use Rattle.asn1_schema_constructed.specs.Tables.{Variants, no_variant, variant, Choices, side, type_at, all_tags, are_choices, AreVariants}
use Rattle.asn1_schema_constructed.proofs.Types.{no_variants, more_variants, type_choice, value_choice}

-- Alternatives whose types are well-formed.
pub record Listed : Type 0 where
  pub variants : Variants
  pub lawful : AreVariants variants

abbrev pub none : Listed
none = record { variants = no_variant; lawful = no_variants }

-- An alternative with a context-specific tag, and the alternatives after it.
abbrev pub one : {A : Type 0} → ℕ → Ghosts A → Listed → Listed
one n d l = record { variants = variant (context n) d.schema l.variants; lawful = more_variants (context n) refl d.typed l.lawful }

-- A value of one of the alternatives.
pub record Placed (t : Choices) : Type 0 where
  pub place : Chosen
  pub inner : Value
  pub fits : IsValue (type_at (side t place.added) place.place) inner

-- A value of the root alternative with this index, and of the added one.
abbrev pub of_root : {A : Type 0} {t : Choices} (i : ℕ) (d : Ghosts A) → type_at t.root i ≡ d.schema → A → Placed t
of_root i d e x = record {
  place = record { added = false; place = i };
  inner = d.meaning x;
  fits = subst (λ (s : ℕ → Schema). IsValue s (d.meaning x)) (sym e) (d.valued x);
}

abbrev pub of_addition : {A : Type 0} {t : Choices} (i : ℕ) (d : Ghosts A) → type_at t.additions i ≡ d.schema → A → Placed t
of_addition i d e x = record {
  place = record { added = true; place = i };
  inner = d.meaning x;
  fits = subst (λ (s : ℕ → Schema). IsValue s (d.meaning x)) (sym e) (d.valued x);
}

-- CHOICE of these root alternatives, with or without an extension marker and added alternatives after it.
abbrev pub choices : Listed → Bool → Listed → Choices
choices r e a = record { root = r.variants; extensible = e; additions = a.variants }

abbrev pub choice_of : {A : Type 0} (r : Listed) (e : Bool) (a : Listed) → are_tags (all_tags (choices r e a)) ≡ true →
    are_choices (choices r e a) ≡ true → (A → Placed (choices r e a)) → ChoiceShape A
choice_of r e a k d f = record {
  table = choices r e a;
  place = λ x. (f x).place;
  inner = λ x. (f x).inner;
  typed = type_choice (choices r e a) (all_tags_begin (all_tags (choices r e a)) k) r.lawful a.lawful d;
  valued = λ x. value_choice (choices r e a) (f x).place.added (f x).place.place (f x).fits;
}

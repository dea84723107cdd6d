-- The laws of all types: the records of a value are found if the bits have its form, and if bits have its form, those
-- of a value like it.
use Rattle.std.proofs.Common.{◌≡◌, ℕ, suc, Bool, Option, Some, None, true, false, IsTrue, List, [], ◌∷◌, length, refl, ap, subst}
use Rattle.std.proofs.lemmas.Bool.{and_parts}
use Rattle.asn1_model.specs.Value.{Value, fields, Parts, end, absent, present, same}
use Rattle.asn1_model.specs.Schema.{Schema, cut, boolean, null, integer, enumerated, bit_string, octet_string}
use Rattle.asn1_model.specs.Schema.{character_string, object_identifier, sequence_of, set_of, sequence, set, group}
use Rattle.asn1_model.specs.Schema.{choice, Components, no_component, component, Alternatives, no_alternative}
use Rattle.asn1_model.specs.Schema.{alternative}
use Rattle.asn1_model.specs.Form.{given}
use Rattle.std.specs.Prelude.{is_some}
use Rattle.asn1_model.specs.Lawful.{is_lawful, are_lawful, are_lawful_alternatives}
use Rattle.asn1_model.specs.Normal.{presence_bits}
use Rattle.asn1_model.specs.Per
use Rattle.asn1_laws_values.proofs.Listed.{EachAlternative}
use Rattle.asn1_schema_laws.specs.Records.{Record, additions_begin, mismatch}
use Rattle.asn1_schema_laws.specs.Presents.{presents, root_records, added_records, behind_root, optional_count, component_count}
use Rattle.asn1_schema_laws.specs.Chains.{Chain}
use Rattle.asn1_schema_reading_laws.specs.Bags.{has_no_bag}
use Rattle.per_codec_laws.specs.Takes.{Position, State, components, Front, Found, Begins, Takes}
use Rattle.per_codec_laws.specs.Laws.{Bridges}
use Rattle.asn1_schema_reading_laws.proofs.Alike.{LikeParts, parts_self, both_same, like_fields}
use Rattle.per_codec_laws.proofs.Fronts.{Finds, Shows, by_itself, Step, of_refused, given_out, none}
use Rattle.per_codec_laws.proofs.Lists.{list_finds, list_shows, bag_finds, bag_shows}
use Rattle.per_codec_laws.proofs.Parts.{EachFinds, EachShows, booleans, nulls, integers, items, bit_strings, octet_strings, strings, identifiers}
use Rattle.per_codec_laws.proofs.Sequences.{begun_in, plain_in, plain_out}
use Rattle.per_codec_laws.proofs.Bitmaps.{additions_long, extended_in, extended_out}
use Rattle.per_codec_laws.proofs.Choices.{choice_finds, choice_shows}

module _ (al : Bool) (free : Per.Freedom → Bool) (other : IsTrue (free Per.other_bitmap)) where
  -- ---- SEQUENCE and SET
  -- records of components after a first one, and the form of a value of them
  abbrev Parted : Components → Bool → Components → Parts → Parts → State → State → Type 0
  Parted cs e adds ps qs m b = Chain (Step free al) (root_records cs ps (behind_root e adds (added_records adds qs))) m b

  abbrev Fielded : Components → Bool → Components → Parts → Parts → Per.BitForm
  Fielded cs e adds ps qs = given (Per.addition_forms al adds qs) (Per.sequence_form al e (presence_bits cs ps) (Per.component_forms al cs ps))

  -- a value with more parts than its type
  no_more : (cs : Components) → EachFinds al free cs → (ps : Parts) (a m b : State) → Begins free false (optional_count cs) a m → Chain (Step free al) (root_records cs ps (mismatch ∷ [])) m b → ⊥
  no_more cs h ps a m b t c = let o = begun_in free al false cs h ps (mismatch ∷ []) a m b t c in o.7.1

  -- additions without an extension bit
  no_additions : (cs : Components) → EachFinds al free cs → (ps : Parts) (n : ℕ) (rs : List Record) (a m b : State) →
      Begins free false (optional_count cs) a m → Chain (Step free al) (root_records cs ps (additions_begin n ∷ rs)) m b → ⊥
  no_additions cs h ps n rs a m b t c = let o = begun_in free al false cs h ps (additions_begin n ∷ rs) a m b t c in without o.0 o.1 o.3 o.4 o.7
    where
      without : (x : Option Bool) (more : List Bool) (mid : Position) → is_some x ≡ false → Chain (Step free al) (additions_begin n ∷ rs) (mid, components x more ∷ a.1) b → ⊥
      without None more mid e c = c.1
      without (Some x) more mid e c = cc

  fields_in : (cs : Components) → EachFinds al free cs → (e : Bool) (adds : Components) → EachFinds al free adds → (ps qs : Parts) (a m b : State) →
      Begins free e (optional_count cs) a m → Parted cs e adds ps qs m b → Found free (Fielded cs e adds ps qs) a b
  unfolding Per.sequence_form Per.addition_forms added_records
  fields_in cs h true adds k ps qs a m b t c = extended_in free al other adds k qs cs h ps a m b t c
  fields_in cs h false no_component k ps end a m b t c = plain_in free al cs h ps a m b t c
  fields_in cs h false no_component k ps (absent qs) a m b t c = absurd (no_more cs h ps a m b t c)
  fields_in cs h false no_component k ps (present v qs) a m b t c = absurd (no_more cs h ps a m b t c)
  fields_in cs h false (component g o s adds) k ps qs a m b t c = absurd (no_additions cs h ps _ (added_records (component g o s adds) qs) a m b t c)

  abbrev FieldsOut : Components → Bool → Components → Parts → Parts → State → State → Type 0
  FieldsOut cs e adds ps qs a b = (rs : Parts) × (ss : Parts) × (m : State) × LikeParts cs ps rs × LikeParts adds qs ss × Begins free e (optional_count cs) a m × Parted cs e adds rs ss m b

  fields_out : (cs : Components) → EachShows al free cs → (e : Bool) (adds : Components) → EachShows al free adds → (ps qs : Parts) (a b : State) →
      Found free (Fielded cs e adds ps qs) a b → FieldsOut cs e adds ps qs a b
  unfolding Per.sequence_form Per.addition_forms added_records
  fields_out cs h true adds k ps qs a b f = let t = extended_out free al other adds k qs cs h ps a b f in (t.2.0, t.0, t.2.1, t.2.2, t.1, t.2.3, t.2.4)
  fields_out cs h false no_component k ps end a b f = let t = plain_out free al cs h ps a b f in (t.0, end, t.1, t.2, (parts_self end, λ n. refl), t.3, t.4)
  fields_out cs h false no_component k ps (absent qs) a b f = absurd (of_refused free a.0 b.0 f.0)
  fields_out cs h false no_component k ps (present v qs) a b f = absurd (of_refused free a.0 b.0 f.0)
  fields_out cs h false (component g o s adds) k ps qs a b f =
      let t = given_out free (Per.addition_forms al (component g o s adds) qs) (Per.sequence_form al false (presence_bits cs ps) (Per.component_forms al cs ps)) a.0 b.0 f.0 in
      absurd (refuses t.0 (additions_long free al (component g o s adds) qs t.0 t.1) a.0 b.0 t.2)
    where
      refuses : (xs : List (Option Per.BitForm)) → length xs ≡ suc (component_count adds) → (start rest : Position) →
          Front free (Per.sequence_form al false (presence_bits cs ps) (Per.component_forms al cs ps) xs) start rest → ⊥
      refuses [] e start rest f = cc
      refuses (x ∷ xs) e start rest f = of_refused free start rest f

  -- ---- every type
  module _ (order : IsTrue (free Per.other_order)) where
    mutual
      unfolding presents Per.form

      pub finds : (s : Schema) → Finds al free s
      finds cut v a b c = (none free al a b).0 c
      finds boolean v a b c = (booleans free al v a b).0 c
      finds null v a b c = (nulls free al v a b).0 c
      finds (integer z h) v a b c = (integers free al z h v a b).0 c
      finds (enumerated roots e adds) v a b c = (items free al roots e adds v a b).0 c
      finds (bit_string z h) v a b c = (bit_strings free al z h v a b).0 c
      finds (octet_string z h) v a b c = (octet_strings free al z h v a b).0 c
      finds (character_string k z l h) v a b c = (strings free al k z l h v a b).0 c
      finds object_identifier v a b c = (identifiers free al v a b).0 c
      finds (sequence_of z h s) v a b c = list_finds free al z h s (finds s) v a b c
      finds (set_of z h s) v a b c = bag_finds free al order z h s (finds s) v a b c
      finds (sequence cs e adds) (fields ps qs) a b c = fields_in cs (component_finds cs) e adds (component_finds adds) ps qs a c.0 b c.1 c.2
      finds (sequence cs e adds) v a b c = (none free al a b).0 c
      finds (set cs e adds) (fields ps qs) a b c = fields_in cs (component_finds cs) e adds (component_finds adds) ps qs a c.0 b c.1 c.2
      finds (set cs e adds) v a b c = (none free al a b).0 c
      finds (group cs) (fields ps end) a b c = plain_in free al cs (component_finds cs) ps a c.0 b c.1 c.2
      finds (group cs) v a b c = (none free al a b).0 c
      finds (choice roots e adds) v a b c = choice_finds free al roots e adds (alternative_finds roots) (alternative_finds adds) v a b c

      component_finds : (cs : Components) → EachFinds al free cs
      component_finds no_component = tt
      component_finds (component t o s cs) = (finds s, component_finds cs)

      alternative_finds : (others : Alternatives) → EachAlternative (λ s. Finds al free s) others
      alternative_finds no_alternative = tt
      alternative_finds (alternative t s others) = (finds s, alternative_finds others)

  mutual
    unfolding presents Per.form is_lawful are_lawful are_lawful_alternatives

    pub shows : (s : Schema) → is_lawful s ≡ true → Shows al free s
    shows cut l v a b f = absurd (of_refused free a.0 b.0 f.0)
    shows boolean l v a b f = (by_itself al free boolean (booleans free al)).1 v a b f
    shows null l v a b f = (by_itself al free null (nulls free al)).1 v a b f
    shows (integer z h) l v a b f = (by_itself al free (integer z h) (integers free al z h)).1 v a b f
    shows (enumerated roots e adds) l v a b f = (by_itself al free (enumerated roots e adds) (items free al roots e adds)).1 v a b f
    shows (bit_string z h) l v a b f = (by_itself al free (bit_string z h) (bit_strings free al z h)).1 v a b f
    shows (octet_string z h) l v a b f = (by_itself al free (octet_string z h) (octet_strings free al z h)).1 v a b f
    shows (character_string k z g h) l v a b f = (by_itself al free (character_string k z g h) (strings free al k z g h)).1 v a b f
    shows object_identifier l v a b f = (by_itself al free object_identifier (identifiers free al)).1 v a b f
    shows (sequence_of z h s) l v a b f = list_shows free al z h s (shows s ((and_parts _ _ l).1)) v a b f
    shows (set_of z h s) l v a b f = bag_shows free al z h s (shows s ((and_parts _ _ l).1)) v a b f
    shows (sequence cs e adds) l (fields ps qs) a b f =
        let t = fields_out cs (component_shows cs ((and_parts _ _ ((and_parts _ _ l).0)).1)) e adds (component_shows adds ((and_parts _ _ l).1)) ps qs a b f in
        (fields t.0 t.1, like_fields cs adds ps qs t.0 t.1 t.3 t.4, (t.2, t.5, t.6))
    shows (sequence cs e adds) l v a b f = absurd (of_refused free a.0 b.0 f.0)
    shows (set cs e adds) l (fields ps qs) a b f =
        let t = fields_out cs (component_shows cs ((and_parts _ _ ((and_parts _ _ l).0)).1)) e adds (component_shows adds ((and_parts _ _ l).1)) ps qs a b f in
        (fields t.0 t.1, like_fields cs adds ps qs t.0 t.1 t.3 t.4, (t.2, t.5, t.6))
    shows (set cs e adds) l v a b f = absurd (of_refused free a.0 b.0 f.0)
    shows (group cs) l (fields ps end) a b f =
        let t = plain_out free al cs (component_shows cs ((and_parts _ _ l).1)) ps a b f in
        (fields t.0 end, (both_same ps end t.0 end t.2.0 (parts_self end), λ n. ap (λ x. fields x end) (t.2.1 n)), (t.1, t.3, t.4))
    shows (group cs) l v a b f = absurd (of_refused free a.0 b.0 f.0)
    shows (choice roots e adds) l v a b f = choice_shows free al roots e adds (alternative_shows roots ((and_parts _ _ ((and_parts _ _ l).0)).1)) (alternative_shows adds ((and_parts _ _ l).1)) v a b f

    component_shows : (cs : Components) → are_lawful cs ≡ true → EachShows al free cs
    component_shows no_component l = tt
    component_shows (component t o s cs) l = (shows s ((and_parts _ _ ((and_parts _ _ l).0)).1), component_shows cs ((and_parts _ _ l).1))

    alternative_shows : (others : Alternatives) → are_lawful_alternatives others ≡ true → EachAlternative (λ s. Shows al free s) others
    alternative_shows no_alternative l = tt
    alternative_shows (alternative t s others) l = (shows s ((and_parts _ _ ((and_parts _ _ l).0)).1), alternative_shows others ((and_parts _ _ l).1))

pub records_read : (al : Bool) (free : Per.Freedom → Bool) (s : Schema) (v : Value) (a b : State) → IsTrue (free Per.other_bitmap) →
    IsTrue (free Per.other_order) → Chain (Takes al free) (presents s v) a b → Found free (Per.form al s v) a b
records_read al free s v a b other order c = finds al free other order s v a b c

pub forms_show : (al : Bool) (free : Per.Freedom → Bool) (s : Schema) (v : Value) (a b : State) → IsTrue (free Per.other_bitmap) →
    IsTrue (is_lawful s) → Found free (Per.form al s v) a b → (w : Value) × (same v w ≡ true) × Chain (Takes al free) (presents s w) a b
forms_show al free s v a b other l f = let t = shows al free other s l v a b f in (t.0, t.1.0, t.2)

pub each_bridges : (al : Bool) (free : Per.Freedom → Bool) (s : Schema) (v : Value) → IsTrue (free Per.other_bitmap) → IsTrue (free Per.other_order) →
    IsTrue (is_lawful s) → has_no_bag s ≡ true → Bridges al free s v
each_bridges al free s v other order l n a b = (λ c. finds al free other order s v a b c, back)
  where
    back : Found free (Per.form al s v) a b → Chain (Takes al free) (presents s v) a b
    back f = let t = shows al free other s l v a b f in subst (λ w. Chain (Takes al free) (presents s w) a b) (t.1.1 n) t.2

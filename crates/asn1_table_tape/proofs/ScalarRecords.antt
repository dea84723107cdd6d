-- Values of one record, and indices of no type.
use Rattle.std.proofs.Common.{◌≡◌, ◌∙◌, refl, sym, ap, subst, ℕ, ℤ, Bool, true, List, [], ◌∷◌, ◌++◌, Option, Some, None, slice_get}
use Rattle.asn1_model.specs.Value.{Value, same_number, truth, nothing, number, item, bit_list, octet_list, text, arcs}
use Rattle.asn1_model.specs.Schema.{Bounds, Range, Size, Alphabet, Schema, boolean, null, object_identifier, any_count}
use Rattle.asn1_model.specs.Lawful.{is_lawful, are_distinct}
use Rattle.asn1_model.specs.Normal.{normal}
use Rattle.std.proofs.lemmas.Bool.{and_parts}
use Rattle.asn1_table_types.specs.Tables.{AreLawful}
use Rattle.asn1_schema_errors.specs.declared.DecodeError.{DecodeError}
use Rattle.asn1_schema_errors.specs.declared.DecodeError.TheVariants.{OutOfMemory}
use Rattle.asn1_schema_laws.specs.Records.{Record, flag, nil, whole, one_of, bits, octets, characters, identifier}
use Rattle.asn1_schema_laws.specs.Records.{asks_flag, asks_nil, asks_whole, asks_one_of, asks_bits, asks_octets}
use Rattle.asn1_schema_laws.specs.Records.{asks_characters, asks_identifier}
use Rattle.asn1_schema_laws.specs.Chains.{Chain}
use Rattle.asn1_schema_laws.specs.Presents.{presents, Fits}
use Rattle.asn1_schema_decode.specs.Reads.{NoRecord}
use Rattle.asn1_schema_decode.proofs.SingleRecords.{unread_boolean, unread_null, unread_integer, unread_bit_string, unread_octet_string, unread_character_string, unread_identifier}
use Rattle.asn1_table_laws.specs.Walks.{Told, NoValue}
use Rattle.asn1_table_nodes.specs.Meaning.{type_of, type_at, bounds_in, held_in, alphabet_in, kind_of}
use Rattle.asn1_schema_constraints.specs.Terms.{size_of}
use Rattle.asn1_schema_constraints.specs.declared.sizes.Sizes.{Sizes}
use Rattle.asn1_table_nodes.specs.declared.nodes.NumberLimits.{NumberLimits}
use Rattle.asn1_table_nodes.specs.declared.nodes.ItemTable.{ItemTable}
use Rattle.asn1_table_nodes.specs.declared.nodes.TypeNode.{TypeNode}
use Rattle.asn1_table_nodes.specs.declared.nodes.TypeNode.TheVariants.{Integer, Enumerated, BitString, OctetString, CharacterString as Strings}
use Rattle.asn1_table_nodes.specs.declared.nodes.StringTable.{StringTable}
use Rattle.asn1_table_tape.specs.declared.strings.CharacterString.{CharacterString}
use Rattle.asn1_table_tape.specs.Strings.{kind_in, text_of}
use Rattle.asn1_table_tape.specs.declared.tape.Event.{Event}
use Rattle.asn1_table_tape.specs.declared.tape.Event.TheVariants.{Flag, Nil, Number, Item, Bits, Octets, Text, Arcs}
use Rattle.asn1_table_tape.specs.Records.{record_of, records_of, number_record, item_record, bits_record, octets_record, text_record}
use Rattle.asn1_table_tape.proofs.Nodes.{kept_one}

module _ {S : Type 0} {step : S → Record → S → Type 0} where
  -- a value of one record
  one_told : (ns : List TypeNode) (old new : List Event) (e : Event) (s : Schema) (v : Value) {r : Record} {a b : S} → presents s v ≡ r ∷ [] → normal s v ≡ v → Fits s v →
      record_of ns e ≡ r → step a r b → new ≡ old ++ e ∷ [] → Told step s a b (records_of ns old) (records_of ns new)
  one_told ns old new e s v {r} {a} {b} p n f q m k = record {
    raw = v;
    fits = f;
    chain = subst (λ rs. Chain step rs a b) (sym p) (b, m, refl);
    kept = kept_one ns old new e k ∙ ap (λ r. records_of ns old ++ r ∷ []) q ∙ sym (ap (λ rs. records_of ns old ++ rs) (ap (λ w. presents s w) n ∙ p));
  }

  pub flag_told : (ns : List TypeNode) (old new : List Event) (v : Bool) {a b : S} → step a (flag v) b → new ≡ old ++ Flag v ∷ [] → Told step boolean a b (records_of ns old) (records_of ns new)
  unfolding presents Fits normal
  flag_told ns old new v m k = one_told ns old new (Flag v) boolean (truth v) refl refl tt refl m k

  pub nil_told : (ns : List TypeNode) (old new : List Event) {a b : S} → step a nil b → new ≡ old ++ Nil ∷ [] → Told step null a b (records_of ns old) (records_of ns new)
  unfolding presents Fits normal
  nil_told ns old new m k = one_told ns old new Nil null nothing refl refl tt refl m k

  pub arcs_told : (ns : List TypeNode) (old new : List Event) (v : List ℕ) {a b : S} → step a (identifier v) b → new ≡ old ++ Arcs v ∷ [] →
      Told step object_identifier a b (records_of ns old) (records_of ns new)
  unfolding presents Fits normal
  arcs_told ns old new v m k = one_told ns old new (Arcs v) object_identifier (arcs v) refl refl tt refl m k

  pub number_told : (ns : List TypeNode) (n place : ℕ) (l : Option NumberLimits) (old new : List Event) (v : ℤ) {z : Bounds} {h : Range} {a b : S} → z ≡ bounds_in l → h ≡ held_in l →
      slice_get ns place ≡ Some (Integer l) → step a (whole z h v) b → new ≡ old ++ Number place v ∷ [] → Told step (type_of ns n (Some (Integer l))) a b (records_of ns old) (records_of ns new)
  unfolding presents Fits normal
  number_told ns n place l old new v {z} {h} {a} {b} q r e m k =
      let s : record_of ns (Number place v) ≡ whole (bounds_in l) (held_in l) v = ap (λ o. number_record o v) e in
      one_told ns old new (Number place v) (type_of ns n (Some (Integer l))) (number v) refl refl tt s
      (subst (λ (h : Range). step a (whole (bounds_in l) h v) b) r (subst (λ (z : Bounds). step a (whole z h v) b) q m)) k

  pub item_told : (ns : List TypeNode) (n place : ℕ) (t : ItemTable) (old new : List Event) (v : ℤ) {w : ℤ} {r : List ℤ} {x : Bool} {o : List ℤ} {a b : S} →
      ((v : ℤ) → item_record (slice_get ns place) v ≡ one_of r x o v) → w ≡ v → step a (one_of r x o w) b → new ≡ old ++ Item place v ∷ [] →
      slice_get ns place ≡ Some (Enumerated t) → Told step (type_of ns n (Some (Enumerated t))) a b (records_of ns old) (records_of ns new)
  unfolding presents Fits normal
  item_told ns n place t old new v {w} {r} {x} {o} {a} {b} q h m k e =
      let s : record_of ns (Item place v) ≡ one_of t.root.items t.is_extensible t.additions.items v = ap (λ o. item_record o v) e in
      one_told ns old new (Item place v) (type_of ns n (Some (Enumerated t))) (item v) refl refl tt s (subst (λ (y : Record). step a y b) (ap (one_of r x o) h ∙ sym (q v) ∙ s) m) k

  pub bits_told : (ns : List TypeNode) (n place : ℕ) (z : Sizes) (old new : List Event) (v : List Bool) {y : Size} {a b : S} → y ≡ size_of z →
      slice_get ns place ≡ Some (BitString z) → step a (bits y any_count v) b → new ≡ old ++ Bits place v ∷ [] →
      Told step (type_of ns n (Some (BitString z))) a b (records_of ns old) (records_of ns new)
  unfolding presents Fits normal
  bits_told ns n place z old new v {y} {a} {b} q e m k =
      let s : record_of ns (Bits place v) ≡ bits (size_of z) any_count v = ap (λ o. bits_record o v) e in
      one_told ns old new (Bits place v) (type_of ns n (Some (BitString z))) (bit_list v) refl refl tt s (subst (λ (y : Size). step a (bits y any_count v) b) q m) k

  pub octets_told : (ns : List TypeNode) (n place : ℕ) (z : Sizes) (old new : List Event) (v : List ℕ) {os : List ℕ} {y : Size} {a b : S} → y ≡ size_of z → v ≡ os →
      slice_get ns place ≡ Some (OctetString z) → step a (octets y any_count os) b → new ≡ old ++ Octets place v ∷ [] →
      Told step (type_of ns n (Some (OctetString z))) a b (records_of ns old) (records_of ns new)
  unfolding presents Fits normal
  octets_told ns n place z old new v {os} {y} {a} {b} q h e m k =
      let s : record_of ns (Octets place v) ≡ octets (size_of z) any_count os = ap (λ o. octets_record o v) e ∙ ap (octets (size_of z) any_count) h in
      one_told ns old new (Octets place v) (type_of ns n (Some (OctetString z))) (octet_list os) refl refl tt s (subst (λ (y : Size). step a (octets y any_count os) b) q m) k

  pub text_told : (ns : List TypeNode) (n place : ℕ) (t : StringTable) (old new : List Event) (v : CharacterString) {y : Size} {l : Alphabet} {a b : S} → y ≡ size_of t.sizes →
      l ≡ alphabet_in t.alphabet → kind_in v ≡ kind_of t.kind →
      slice_get ns place ≡ Some (Strings t) → step a (characters (kind_of t.kind) y l any_count (text_of v)) b → new ≡ old ++ Text place v ∷ [] →
      Told step (type_of ns n (Some (Strings t))) a b (records_of ns old) (records_of ns new)
  unfolding presents Fits normal
  text_told ns n place t old new v {y} {l} {a} {b} q r h e m k =
      let s : record_of ns (Text place v) ≡ characters (kind_of t.kind) (size_of t.sizes) (alphabet_in t.alphabet) any_count (text_of v) =
      ap (λ o. text_record o v) e ∙ ap (λ k. characters k (size_of t.sizes) (alphabet_in t.alphabet) any_count (text_of v)) h in
      one_told ns old new (Text place v) (type_of ns n (Some (Strings t))) (text (text_of v)) refl refl tt s
      (subst (λ (l : Alphabet). step a (characters (kind_of t.kind) (size_of t.sizes) l any_count (text_of v)) b) r
      (subst (λ (y : Size). step a (characters (kind_of t.kind) y l any_count (text_of v)) b) q m)) k

  pub flag_refused : {few : S → S → S → Type 0} {a failed : S} {x : DecodeError} → NoRecord step few asks_flag a failed x → NoValue step few boolean a failed x
  flag_refused u = unread_boolean 0 u

  pub nil_refused : {few : S → S → S → Type 0} {a failed : S} {x : DecodeError} → NoRecord step few asks_nil a failed x → NoValue step few null a failed x
  nil_refused u = unread_null 0 u

  pub arcs_refused : {few : S → S → S → Type 0} {a failed : S} {x : DecodeError} → NoRecord step few asks_identifier a failed x → NoValue step few object_identifier a failed x
  arcs_refused u = unread_identifier 0 u

  pub number_refused : (ns : List TypeNode) (n : ℕ) (l : Option NumberLimits) {z : Bounds} {h : Range} {few : S → S → S → Type 0} {a failed : S} {x : DecodeError} → z ≡ bounds_in l →
      h ≡ held_in l →
      NoRecord step few (asks_whole z h) a failed x → NoValue step few (type_of ns n (Some (Integer l))) a failed x
  number_refused ns n l {z} {h} {few} {a} {failed} {x} q r u =
      unread_integer (bounds_in l) (held_in l) 0 (subst (λ (h : Range). NoRecord step few (asks_whole (bounds_in l) h) a failed x) r
      (subst (λ (z : Bounds). NoRecord step few (asks_whole z h) a failed x) q u))

  pub item_refused : (ns : List TypeNode) (n place : ℕ) (t : ItemTable) {r : List ℤ} {y : Bool} {o : List ℤ} {few : S → S → S → Type 0} {a failed : S} {x : DecodeError} →
      ((v : ℤ) → item_record (slice_get ns place) v ≡ one_of r y o v) → NoRecord step few (asks_one_of r y o) a failed x → slice_get ns place ≡ Some (Enumerated t) →
      NoValue step few (type_of ns n (Some (Enumerated t))) a failed x
  unfolding presents Fits
  item_refused ns n place t {r} {y} {o} {few} {a} {failed} {x} q u e = record {
    none = λ w start near v c. elim v as (λ v. Fits (type_of ns n (Some (Enumerated t))) v → Chain step (presents (type_of ns n (Some (Enumerated t))) v) start c → ⊥) [
      | item k ↦ λ f p. u.none w start near (one_of r y o k) p.0 refl (subst (λ (z : Record). step start z p.0) (sym (ap (λ o. item_record o k) e) ∙ q k) p.1)
      | _ ↦ λ f p. f
    ];
  }

  pub bits_refused : (ns : List TypeNode) (n : ℕ) (z : Sizes) {y : Size} {few : S → S → S → Type 0} {a failed : S} {x : DecodeError} → y ≡ size_of z →
      NoRecord step few (asks_bits y any_count) a failed x → NoValue step few (type_of ns n (Some (BitString z))) a failed x
  bits_refused ns n z {y} {few} {a} {failed} {x} q u = unread_bit_string (size_of z) any_count 0 (subst (λ (y : Size). NoRecord step few (asks_bits y any_count) a failed x) q u)

  pub octets_refused : (ns : List TypeNode) (n : ℕ) (z : Sizes) {y : Size} {few : S → S → S → Type 0} {a failed : S} {x : DecodeError} → y ≡ size_of z →
      NoRecord step few (asks_octets y any_count) a failed x → NoValue step few (type_of ns n (Some (OctetString z))) a failed x
  octets_refused ns n z {y} {few} {a} {failed} {x} q u = unread_octet_string (size_of z) any_count 0 (subst (λ (y : Size). NoRecord step few (asks_octets y any_count) a failed x) q u)

  pub text_refused : (ns : List TypeNode) (n : ℕ) (t : StringTable) {y : Size} {l : Alphabet} {few : S → S → S → Type 0} {a failed : S} {x : DecodeError} → y ≡ size_of t.sizes →
      l ≡ alphabet_in t.alphabet →
      NoRecord step few (asks_characters (kind_of t.kind) y l any_count) a failed x → NoValue step few (type_of ns n (Some (Strings t))) a failed x
  text_refused ns n t {y} {l} {few} {a} {failed} {x} q r u =
      unread_character_string (kind_of t.kind) (size_of t.sizes) (alphabet_in t.alphabet) any_count 0
      (subst (λ (l : Alphabet). NoRecord step few (asks_characters (kind_of t.kind) (size_of t.sizes) l any_count) a failed x) r
      (subst (λ (y : Size). NoRecord step few (asks_characters (kind_of t.kind) y l any_count) a failed x) q u))

  -- where memory ran out
  pub no_memory : (s : Schema) {few : S → S → S → Type 0} {a failed : S} {x : DecodeError} → x ≡ OutOfMemory → NoValue step few s a failed x
  no_memory s e = record { none = λ w start near v c f p. w e }

  -- the type at an index
  pub refused_at : (ns : List TypeNode) (m place : ℕ) (y : TypeNode) {few : S → S → S → Type 0} {a failed : S} {x : DecodeError} → slice_get ns place ≡ Some y →
      NoValue step few (type_of ns m (Some y)) a failed x → NoValue step few (type_at ns m place) a failed x
  refused_at ns m place y {few} {a} {failed} {x} e u = subst (λ (o : Option TypeNode). NoValue step few (type_of ns m o) a failed x) (sym e) u

  pub refused_past : (ns : List TypeNode) (m place : ℕ) {few : S → S → S → Type 0} {a failed : S} {x : DecodeError} → slice_get ns place ≡ None → NoValue step few (type_at ns m place) a failed x
  unfolding Fits
  refused_past ns m place {few} {a} {failed} {x} e = subst (λ (o : Option TypeNode). NoValue step few (type_of ns m o) a failed x) (sym e) (record { none = λ w start near v c f p. f })

-- the items of a lawful table
pub items_differ : (ns : List TypeNode) (place : ℕ) (t : ItemTable) → AreLawful ns → slice_get ns place ≡ Some (Enumerated t) → are_distinct same_number (t.root.items ++ t.additions.items) ≡ true
unfolding is_lawful
items_differ ns place t l e =
    let q : is_lawful (type_of ns 0 (Some (Enumerated t))) ≡ true = ap (λ o. is_lawful (type_of ns 0 o)) (sym e) ∙ l 0 place in
    (and_parts _ _ q).1

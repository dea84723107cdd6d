-- Records that are kept, read again, and those of a value.
use Rattle.std.proofs.Common.{◌≡◌, ◌∙◌, refl, sym, ap, subst, ℕ, ◌+◌, zero-add, add-zero, arith, Bool, true, false, List, [], ◌∷◌, ◌++◌, map, length, Option, Some, None, slice_get}
use Rattle.std.specs.Prelude.{ℤ, ◌&&◌, not, cond, position}
use Rattle.std.specs.List.{list_all, position_from}
use Rattle.std.proofs.lemmas.Iterator.Adapters.{position_from-zero}
use Rattle.std.proofs.lemmas.Bool.{and_parts, and_from}
use Rattle.std.proofs.lemmas.List.{append_assoc, append-nil, length-map}
use Rattle.std.proofs.lemmas.List.Folds.{list_all-map}
use Rattle.asn1_model.specs.Value.{Value}
use Rattle.asn1_model.specs.Schema.{Schema}
use Rattle.asn1_model.specs.Lawful.{is_lawful}
use Rattle.asn1_schema_decode.specs.Reads.{Unread}
use Rattle.asn1_schema_errors.specs.declared.CodecKind.TheVariants.{Oer}
use Rattle.asn1_schema_errors.specs.declared.DecodeError.{DecodeError}
use Rattle.asn1_schema_errors.specs.declared.DecodeError.TheVariants.{OutOfMemory as NoRoom}
use Rattle.asn1_schema_lacking_laws.specs.Carried.{AtOnce}
use Rattle.asn1_schema_laws.proofs.OneValue.{one_value}
use Rattle.asn1_schema_laws.specs.Chains.{Chain}
use Rattle.asn1_schema_laws.specs.Presents.{presents, Fits}
use Rattle.asn1_schema_laws.specs.Records.{Record, is_default, is_empty}
use Rattle.asn1_schema_records.specs.Kept.{Written, Puts, kept}
use Rattle.asn1_schema_records.specs.ReadingLaws.{takes_one}
use Rattle.asn1_schema_records.specs.Taken.{Left, Takes, IsKept}
use Rattle.asn1_schema_tags.specs.Chosen.{ChoiceTags}
use Rattle.asn1_schema_tags.specs.declared.chosen.Chosen.{Chosen}
use Rattle.asn1_table_building.proofs.Typed.{value_all}
use Rattle.asn1_table_building.proofs.Stated.{is_stated, normal_itself}
use Rattle.asn1_table_building.specs.Admitted.{is_admitted}
use Rattle.asn1_table_building.specs.Built.{begun, AreOf, IsBuilt, NotBuilt}
use Rattle.asn1_table_building.specs.declared.errors.BuildError.{BuildError}
use Rattle.asn1_table_building.specs.declared.errors.BuildError.TheVariants.{OutOfMemory}
use Rattle.asn1_table_laws.specs.Walks.{ReadsOnto}
use Rattle.asn1_table_tape.specs.Records.{record_of, records_of, number_record, item_record, bits_record, octets_record, text_record, list_record, choice_record}
use Rattle.asn1_table_tape.specs.declared.strings.CharacterString.{CharacterString}
use Rattle.asn1_table_tape.specs.declared.tape.Event.{Event}
use Rattle.asn1_table_tape.specs.declared.tape.Event.TheVariants.{Number, Item, Bits, Octets, Text, ListBegins, ChoiceBegins}
use Rattle.asn1_table_types.specs.Choices.{tags_at}
use Rattle.asn1_table_nodes.specs.declared.nodes.TypeNode.{TypeNode}
use Rattle.asn1_table_nodes.specs.declared.nodes.TypeNode.TheVariants as node
use Rattle.asn1_table_walker.proofs.Told.{value_of}

-- ---- kept

pub put_all : (rs : List Record) (a b : Written) → Chain Puts rs a b → b.records ≡ a.records ++ map kept rs
put_all [] a b p = ap (λ (w : Written). w.records) p ∙ sym (append-nil a.records)
put_all (r ∷ rs) a b p =
    put_all rs p.0 b p.2 ∙ ap (λ (w : Written). w.records ++ map kept rs) p.1.1 ∙ append_assoc a.records (kept r ∷ []) (map kept rs)

-- ---- no event notes anything

abbrev plain : Record → Type 0
plain r = is_stated (kept r) ≡ true

number_plain : (o : Option TypeNode) (v : ℤ) → plain (number_record o v)
number_plain None v = refl
number_plain (Some (node.Integer l)) v = refl
number_plain (Some x) v = refl

item_plain : (o : Option TypeNode) (v : ℤ) → plain (item_record o v)
item_plain None v = refl
item_plain (Some (node.Enumerated t)) v = refl
item_plain (Some x) v = refl

bits_plain : (o : Option TypeNode) (v : List Bool) → plain (bits_record o v)
bits_plain None v = refl
bits_plain (Some (node.BitString z)) v = refl
bits_plain (Some x) v = refl

octets_plain : (o : Option TypeNode) (v : List ℕ) → plain (octets_record o v)
octets_plain None v = refl
octets_plain (Some (node.OctetString z)) v = refl
octets_plain (Some x) v = refl

text_plain : (o : Option TypeNode) (v : CharacterString) → plain (text_record o v)
text_plain None v = refl
text_plain (Some (node.CharacterString t)) v = refl
text_plain (Some x) v = refl

list_plain : (o : Option TypeNode) (n : ℕ) → plain (list_record o n)
list_plain None n = refl
list_plain (Some (node.SequenceOf z i)) n = refl
list_plain (Some (node.SetOf z i)) n = refl
list_plain (Some x) n = refl

choice_plain : (o : Option ChoiceTags) (c : Chosen) → plain (choice_record o c)
choice_plain None c = refl
choice_plain (Some t) c = refl

event_plain : (ns : List TypeNode) (e : Event) → plain (record_of ns e)
event_plain ns (Number i v) = number_plain (slice_get ns i) v
event_plain ns (Item i v) = item_plain (slice_get ns i) v
event_plain ns (Bits i bs) = bits_plain (slice_get ns i) bs
event_plain ns (Octets i os) = octets_plain (slice_get ns i) os
event_plain ns (Text i x) = text_plain (slice_get ns i) x
event_plain ns (ListBegins i n) = list_plain (slice_get ns i) n
event_plain ns (ChoiceBegins i c) = choice_plain (tags_at ns i) c
event_plain ns x = refl

events_plain : (ns : List TypeNode) (es : List Event) → list_all is_stated (map kept (records_of ns es)) ≡ true
events_plain ns [] = refl
events_plain ns (e ∷ es) = and_from _ _ (event_plain ns e) (events_plain ns es)

-- ---- the first value outside a constraint

none_from : {X : Type 0} (t : X → Bool) (i : ℕ) (xs : List X) → position_from (λ x. not (t x)) i xs ≡ None → list_all t xs ≡ true
none_from t i [] e = refl
none_from t i (x ∷ xs) e = go (t x) (none_from t (i + 1) xs) e where
  go : (b : Bool) → (position_from (λ y. not (t y)) (i + 1) xs ≡ None → list_all t xs ≡ true)
      → cond (not b) (Some i) (position_from (λ y. not (t y)) (i + 1) xs) ≡ None → (b && list_all t xs) ≡ true
  go true h k = h k
  go false h k = let z : Some i ≡ None = k in cc

some_from : {X : Type 0} (t : X → Bool) (i k : ℕ) (xs : List X) → position_from (λ x. not (t x)) i xs ≡ Some k → list_all t xs ≡ true → ⊥
some_from t i k [] e h = let z : None ≡ Some k = e in cc
some_from t i k (x ∷ xs) e h = go (t x) (some_from t (i + 1) k xs) e h where
  go : (b : Bool) → (position_from (λ y. not (t y)) (i + 1) xs ≡ Some k → list_all t xs ≡ true → ⊥)
      → cond (not b) (Some i) (position_from (λ y. not (t y)) (i + 1) xs) ≡ Some k → (b && list_all t xs) ≡ true → ⊥
  go true f p q = f p q
  go false f p q = let z : false ≡ true = q in cc

pub none_outside : {X : Type 0} (t : X → Bool) (xs : List X) → position (λ x. not (t x)) xs ≡ None → list_all t xs ≡ true
none_outside t xs e = none_from t 0 xs (sym (position_from-zero (λ x. not (t x)) xs) ∙ e)

pub some_outside : {X : Type 0} (t : X → Bool) (xs : List X) (k : ℕ) → position (λ x. not (t x)) xs ≡ Some k → list_all t xs ≡ true → ⊥
some_outside t xs k e = some_from t 0 k xs (sym (position_from-zero (λ x. not (t x)) xs) ∙ e)

-- ---- read

record_stated : (k r : Record) → IsKept k r → is_stated k ≡ true → is_stated r ≡ true
record_stated k is_default e h = ap is_stated (sym e) ∙ h
record_stated k is_empty e h = ap is_stated (sym e) ∙ h
record_stated k r e h = refl

chain_stated : (rs : List Record) (a b : Left) → Chain Takes rs a b → list_all is_stated a.records ≡ true → list_all is_stated rs ≡ true
chain_stated [] a b p h = refl
chain_stated (r ∷ rs) a b (m, t, p) h =
    let q = and_parts (is_stated t.front) (list_all is_stated m.records) (ap (λ (xs : List Record). list_all is_stated xs) (sym t.taken) ∙ h) in
    and_from _ _ (record_stated t.front r t.is_kept q.0) (chain_stated rs m b p q.1)

chain_length : (rs : List Record) (a b : Left) → Chain Takes rs a b → length a.records ≡ length rs + length b.records
chain_length [] a b p = ap (λ (s : Left). length s.records) (sym p) ∙ sym (zero-add (length b.records))
chain_length (r ∷ rs) a b (m, t, p) =
    ap length t.taken ∙ omega (arith, chain_length rs m b p)

none_there : {X : Type 0} (xs : List X) (n : ℕ) → n ≡ n + length xs → xs ≡ []
none_there [] n e = refl
none_there (x ∷ xs) n e = absurd (omega (arith, e))

-- the value that was read is its own normal form
module _ (schema : ℕ → Schema) (ns : List TypeNode) (es : List Event) where
  module _ {old new : Left} {before after : List Record} (e : old ≡ begun ns es) (n : before ≡ []) (t : ReadsOnto Takes schema old.levels old new before after) where
    at : ReadsOnto Takes schema 128 (begun ns es) new [] after
    at = subst (λ (b : List Record). ReadsOnto Takes schema 128 (begun ns es) new b after) n
        (subst (λ (o : Left). ReadsOnto Takes schema o.levels o new before after) e t)

    itself : at.reads.raw ≡ at.value
    itself = sym (normal_itself (schema 128) at.reads.raw at.reads.fits
        (chain_stated (presents (schema 128) at.reads.raw) (begun ns es) new at.reads.chain (events_plain ns es))) ∙ at.reads.means

    same : (v : Value) (g : AreOf ns (schema 128) es v) → (v ≡ at.reads.raw) × (g.after ≡ new)
    same v g = one_value takes_one (schema 128) v at.reads.raw (begun ns es) g.after new g.fits at.reads.fits g.read at.reads.chain

    -- as many records are left as there are more events than records that were kept
    left : (tape : List Event) → after ≡ records_of ns tape → length es ≡ length tape + length new.records
    left tape w =
        let a : length (map kept (records_of ns es)) ≡ length es = length-map (records_of ns es) kept ∙ length-map es (λ x. record_of ns x) in
        let b : length (presents (schema 128) at.reads.raw) ≡ length tape =
        ap (λ v. length (presents (schema 128) v)) itself ∙ ap length (sym at.kept ∙ w) ∙ length-map tape (λ x. record_of ns x) in
        sym a ∙ chain_length (presents (schema 128) at.reads.raw) (begun ns es) new at.reads.chain ∙ ap (λ n. n + length new.records) b

    pub built : (tape : List Event) → after ≡ records_of ns tape → is_lawful (schema 128) ≡ true → length tape ≡ length es →
        list_all (λ x. is_admitted (record_of ns x)) tape ≡ true → IsBuilt ns (schema 128) es tape
    built tape w l k a =
        let z : new.records ≡ [] = none_there new.records (length es) (left tape w ∙ ap (λ n. n + length new.records) k) in
        let f : Fits (schema 128) at.value = subst (λ (v : Value). Fits (schema 128) v) itself at.reads.fits in
        let r : records_of ns tape ≡ presents (schema 128) at.value = sym w ∙ at.kept in
        record {
          built = record {
            value = at.value;
            is_value = value_of (schema 128) at.reads.raw at.value l at.reads.fits at.reads.means;
            is_of_type = sym (value_all (schema 128) at.value f) ∙ ap (λ (rs : List Record). list_all is_admitted rs) (sym r) ∙ list_all-map is_admitted (λ x. record_of ns x) tape ∙ a;
            kept = r;
          };
          given = record {
            fits = f;
            after = new;
            read = subst (λ (v : Value). Chain Takes (presents (schema 128) v) (begun ns es) new) itself at.reads.chain;
            none_left = z;
          };
        }

    pub surplus : (tape : List Event) → after ≡ records_of ns tape → (length tape ≡ length es → ⊥) → (x : BuildError) → NotBuilt ns (schema 128) es x
    surplus tape w k x = record {
      none = λ u v g h.
          let z : new.records ≡ [] = ap (λ (b : Left). b.records) (sym (same v g).1) ∙ g.none_left in
          k (sym (left tape w ∙ ap (λ (rs : List Record). length tape + length rs) z ∙ add-zero (length tape)));
    }

    pub outside : (tape : List Event) → after ≡ records_of ns tape → (list_all (λ x. is_admitted (record_of ns x)) tape ≡ true → ⊥) → (x : BuildError) →
        NotBuilt ns (schema 128) es x
    outside tape w k x = record {
      none = λ u v g h.
          let q : v ≡ at.value = (same v g).0 ∙ itself in
          let r : presents (schema 128) v ≡ records_of ns tape = ap (λ z. presents (schema 128) z) q ∙ sym at.kept ∙ w in
          k (sym (list_all-map is_admitted (λ y. record_of ns y) tape) ∙ ap (λ (rs : List Record). list_all is_admitted rs) (sym r) ∙ value_all (schema 128) v g.fits ∙ h);
    }

  pub unread : {old failed : Left} {y : DecodeError} → old ≡ begun ns es → Unread Takes AtOnce schema old.levels old failed y → (x : BuildError) → (y ≡ NoRoom → x ≡ OutOfMemory) →
      NotBuilt ns (schema 128) es x
  unread {old} {failed} {y} e u x k =
      let a = subst (λ (o : Left). Unread Takes AtOnce schema o.levels o failed y) e u in
      record { none = λ w v g h. a.none (λ q. w (k q)) (begun ns es) refl v g.after g.fits g.read }

  pub no_memory : NotBuilt ns (schema 128) es OutOfMemory
  no_memory = record { none = λ w v g h. w refl }

-- a decoder of the records that were kept
pub begun_by : (ns : List TypeNode) (es : List Event) (rs : List Record) (d : Left) → d ≡ record { records = rs; levels = 128; most = 128; failed = false; rules = Oer } →
    rs ≡ map kept (records_of ns es) → d ≡ begun ns es
begun_by ns es rs d e k = e ∙ ap (λ (xs : List Record). let l : Left = record { records = xs; levels = 128; most = 128; failed = false; rules = Oer } in l) k

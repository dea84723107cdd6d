-- The bridge as a fact of chains, and of whole messages.
use Rattle.std.proofs.Common.{◌≡◌, ◌↔◌, Bool, List, [], ◌∷◌, ◌++◌, Option, Some, None, option_map, option_and_then, refl, ap, sym, ◌∙◌}
use Rattle.std.proofs.lemmas.List.{append-nil}
use Rattle.asn1_model.specs.Schema.{Schema}
use Rattle.asn1_model.specs.Value.{Value}
use Rattle.asn1_model.specs.Numbers.{packed}
use Rattle.asn1_model.specs.Form.{written}
use Rattle.asn1_model.specs.Per
use Rattle.asn1_model.specs.Rules.{per}
use Rattle.asn1_schema_laws.specs.Records.{Record}
use Rattle.asn1_schema_laws.specs.Presents.{presents}
use Rattle.asn1_schema_laws.specs.Chains.{Chain}
use Rattle.per_codec_packing.specs.FieldLists.{FieldList, as_field_list, field_list_at}
use Rattle.per_codec_encoder.specs.Steps.{Scope, State, Step, position, run, runs}
use Rattle.per_codec_encoder.specs.Ties.{octets_of}
use Rattle.per_codec_packing.proofs.Formed.{known, plain_field_list}
use Rattle.per_codec_encoder.proofs.Types.{every_type}

chain_runs : (al : Bool) (rs : List Record) (a b : State) → Chain (Step al) rs a b → runs al rs a ≡ Some b
chain_runs al [] a b h = ap Some (sym h)
chain_runs al (r ∷ rs) a b h = ap (option_and_then (λ m. runs al rs m)) h.1 ∙ chain_runs al rs h.0 b h.2

runs_chain : (al : Bool) (rs : List Record) (a b : State) → runs al rs a ≡ Some b → Chain (Step al) rs a b
runs_chain al [] a b h = cc
runs_chain al (r ∷ rs) a b h = go (λ m f. runs_chain al rs m b f) (run al r a) refl h
  where
    go : ((m : State) → runs al rs m ≡ Some b → Chain (Step al) rs m b) → (o : Option State) → run al r a ≡ o → option_and_then (λ m. runs al rs m) o ≡ Some b → Chain (Step al) (r ∷ rs) a b
    go again None e f = cc
    go again (Some m) e f = (m, e, again m f)

-- the records alone
all_of : (al : Bool) (s : Schema) (v : Value) (os : FieldList) (k : List Scope) → runs al (presents s v) (os, k)
    ≡ option_and_then {U = State} (λ w. Some (os ++ w, k)) (field_list_at (Per.form al s v) (position (os, k)))
all_of al s v os k = ap (λ l. runs al l (os, k)) (sym (append-nil (presents s v))) ∙ every_type s al v os k []

-- the records of a value are a chain exactly from what is held to that with the value's field-list appended
pub added : (al : Bool) (s : Schema) (v : Value) (os : FieldList) (k : List Scope) (new : State) →
    Chain (Step al) (presents s v) (os, k) new ↔ ((w : FieldList) × (field_list_at (Per.form al s v) (position (os, k)) ≡ Some w) × (new ≡ (os ++ w, k)))
added al s v os k new = (
  λ c. go (field_list_at (Per.form al s v) (position (os, k))) refl
      (sym (all_of al s v os k) ∙ chain_runs al (presents s v) (os, k) new c),
  λ t.
      runs_chain al (presents s v) (os, k) new (all_of al s v os k ∙ ap (option_and_then (λ w. Some (os ++ w, k))) t.1 ∙ ap Some (sym t.2)),
)
  where
    go : (o : Option FieldList) → field_list_at (Per.form al s v) (position (os, k)) ≡ o → option_and_then (λ w. Some (os ++ w, k)) o ≡ Some new →
        (w : FieldList) × (field_list_at (Per.form al s v) (position (os, k)) ≡ Some w) × (new ≡ (os ++ w, k))
    go None e f = cc
    go (Some w) e f = (w, e, let q : new ≡ (os ++ w, k) = cc in q)

-- a message is the field-list of the records, padded
pub messages : (al : Bool) (s : Schema) (v : Value) → option_and_then octets_of (runs al (presents s v) ([], [])) ≡ per al s v
unfolding per Per.message Per.complete written
messages al s v =
    ap (option_and_then octets_of) (all_of al s v [] [] ∙ ap (option_and_then (λ w. Some (w, []))) (known (Per.form al s v) 0))
    ∙ go (written (Per.form al s v) 0)
  where
    go : (o : Option (List Bool)) → option_and_then octets_of (option_and_then (λ w. Some (w, [])) (option_map as_field_list o)) ≡ option_map packed (option_and_then (λ w. written (Per.padded w) 0) o)
    go None = refl
    go (Some w) = ap (option_and_then (λ w. option_map packed (written (Per.padded w) 0))) (plain_field_list w)

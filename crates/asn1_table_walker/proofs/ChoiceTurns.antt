-- Choices of a table: their beginnings, and their turns.
use Rattle.std.proofs.Common.{◌≡◌, ◌∙◌, refl, sym, ap, subst, ℕ, zero, suc, ◌+◌, ◌<◌, Bool, true, false, cond, List, [], ◌∷◌, ◌++◌, Option, Some, option_map, slice_get, arith}
use Rattle.asn1_model.specs.Lawful.{alternative_tags}
use Rattle.asn1_model.specs.Schema.{Schema, Tag, Alternatives}
use Rattle.asn1_schema_errors.specs.declared.DecodeError.{DecodeError}
use Rattle.asn1_schema_laws.specs.Records.{Record, choice_begins, ends, asks_choice}
use Rattle.asn1_schema_laws.specs.Presents.{Fits}
use Rattle.asn1_schema_laws.specs.Chains.{OneRecord}
use Rattle.asn1_schema_lacking_laws.specs.Carried.{CarriesRecords}
use Rattle.asn1_schema_decode.specs.Reads.{NoLevel}
use Rattle.asn1_schema_tags.specs.Chosen.{ChoiceTags}
use Rattle.asn1_schema_tags.specs.declared.chosen.Chosen.{Chosen}
use Rattle.asn1_table_laws.specs.Walks.{NoValue, Begun, EndsClosing, chosen}
use Rattle.asn1_table_laws.proofs.Choices.{type_in, no_choice, choice_begun, choice_ends}
use Rattle.asn1_table_types.specs.Choices.{tags_of, tags_there}
use Rattle.asn1_table_nodes.specs.Meaning.{type_of, type_at, alternatives_of, tags_among}
use Rattle.asn1_table_types.proofs.TagLaws.{among_are}
use Rattle.asn1_table_nodes.specs.declared.nodes.Alternative.{Alternative}
use Rattle.asn1_table_nodes.specs.declared.nodes.AlternativeTable.{AlternativeTable}
use Rattle.asn1_table_nodes.specs.declared.nodes.TypeNode.{TypeNode}
use Rattle.asn1_table_nodes.specs.declared.nodes.TypeNode.TheVariants.{Choice}
use Rattle.asn1_table_tape.specs.declared.tape.Event.{Event}
use Rattle.asn1_table_tape.specs.declared.tape.Event.TheVariants.{ChoiceBegins, Ends as Ended}
use Rattle.asn1_table_tape.specs.Records.{records_of, choice_record}
use Rattle.asn1_table_tape.proofs.Nodes.{kept_one}

-- the type of the alternative at an index
type_there : (f : ℕ → Schema) (xs : List Alternative) (i : ℕ) → type_in (alternatives_of f xs) i ≡ option_map f (option_map (λ a. a.place) (slice_get xs i))
type_there f [] i = refl
type_there f (x ∷ xs) zero = refl
type_there f (x ∷ xs) (suc i) = type_there f xs i

-- the alternatives of the root, or the added ones
side_of : (f : ℕ → Schema) (added : Bool) (rs adds : List Alternative) → cond added (alternatives_of f adds) (alternatives_of f rs) ≡ alternatives_of f (cond added adds rs)
side_of f false rs adds = refl
side_of f true rs adds = refl

-- the record with which a choice begins
abbrev begins_with : ChoiceTags → Chosen → Record
begins_with c p = choice_begins c.roots c.extensible c.additions p.added p.place

module _ (f : ℕ → Schema) (t : AlternativeTable) where
  abbrev roots : Alternatives
  roots = alternatives_of f t.root.items

  abbrev added : Alternatives
  added = alternatives_of f t.additions.items

  -- the tags of a table are those of its alternatives
  tags_as : (P : List Tag → List Tag → Type 0) → P (tags_among t.root.items) (tags_among t.additions.items) → P (alternative_tags roots) (alternative_tags added)
  tags_as P h =
      subst (λ (us : List Tag). P us (alternative_tags added)) (sym (among_are f t.root.items))
      (subst (λ (us : List Tag). P (tags_among t.root.items) us) (sym (among_are f t.additions.items)) h)

module _ {S : Type 0} {step : S → Record → S → Type 0} {few : S → S → S → Type 0} where
  -- no choice begins
  pub choice_refused : (ns : List TypeNode) (place : ℕ) (t : AlternativeTable) (m : ℕ) {c : ChoiceTags} {a failed : S} {x : DecodeError} → c ≡ tags_of t → slice_get ns place ≡ Some (Choice t) →
      NoLevel step few (asks_choice c.roots c.extensible c.additions) m a failed x → NoValue step few (type_at ns m place) a failed x
  unfolding Fits
  choice_refused ns place t m {c} {a} {failed} {x} q e k =
      subst (λ (o : Option TypeNode). NoValue step few (type_of ns m o) a failed x) (sym e)
      (at m (subst (λ (c : ChoiceTags). NoLevel step few (asks_choice c.roots c.extensible c.additions) m a failed x) q k))
    where
      at : (m : ℕ) → NoLevel step few (asks_choice (tags_among t.root.items) t.is_extensible (tags_among t.additions.items)) m a failed x → NoValue step few (type_of ns m (Some (Choice t))) a failed x
      at zero k = record { none = λ w start near v c f p. f }
      at (suc n) k =
          let f : ℕ → Schema = λ i. type_at ns n i in
          no_choice (alternatives_of f t.root.items) t.is_extensible (alternatives_of f t.additions.items) (let l : 0 < suc n = omega arith in l)
          (tags_as f t (λ us vs. NoLevel step few (asks_choice us t.is_extensible vs) (suc n) a failed x) k)

  -- a choice begins
  pub choice_opened : (one : OneRecord step) → CarriesRecords step few → (within : S → S → S → Type 0) (ns : List TypeNode) (place : ℕ) (t : AlternativeTable) (m n : ℕ) (old new : List Event)
      (p : Chosen) (i : ℕ) {c : ChoiceTags} {a b : S} → c ≡ tags_of t → option_map (λ a. a.place) (slice_get (cond p.added t.additions.items t.root.items) p.place) ≡ Some i →
      slice_get ns place ≡ Some (Choice t) → m ≡ n + 1 → step a (begins_with c p) b → new ≡ old ++ ChoiceBegins place p ∷ [] →
      Begun step few within (type_at ns m place) (chosen (type_at ns n i)) a b (records_of ns old) (records_of ns new)
  choice_opened one carries within ns place t m n old new p i {c} {a} {b} q j e l h k =
      let f : ℕ → Schema = λ i. type_at ns n i in
      let r : records_of ns new ≡ records_of ns old ++ begins_with (tags_of t) p ∷ [] =
      kept_one ns old new (ChoiceBegins place p) k ∙ ap (λ o. records_of ns old ++ choice_record (tags_there o) p ∷ []) e in
      let s : step a (begins_with (tags_of t) p) b = subst (λ (c : ChoiceTags). step a (begins_with c p) b) q h in
      let y : type_in (cond p.added (alternatives_of f t.additions.items) (alternatives_of f t.root.items)) p.place ≡ Some (f i) =
      ap (λ xs. type_in xs p.place) (side_of f p.added t.root.items t.additions.items) ∙ type_there f (cond p.added t.additions.items t.root.items) p.place ∙ ap (option_map f) j in
      let w : Begun step few within (type_of ns (suc n) (Some (Choice t))) (chosen (type_at ns n i)) a b (records_of ns old) (records_of ns new) =
      choice_begun (alternatives_of f t.root.items) t.is_extensible (alternatives_of f t.additions.items) one carries p.added p.place (f i) y
      (tags_as f t (λ us vs. step a (choice_begins us t.is_extensible vs p.added p.place) b) s)
      (tags_as f t (λ us vs. records_of ns new ≡ records_of ns old ++ choice_begins us t.is_extensible vs p.added p.place ∷ []) r) in
      let v : Begun step few within (type_of ns m (Some (Choice t))) (chosen (type_at ns n i)) a b (records_of ns old) (records_of ns new) =
      subst (λ (m : ℕ). Begun step few within (type_of ns m (Some (Choice t))) (chosen (type_at ns n i)) a b (records_of ns old) (records_of ns new)) (let g : suc n ≡ m = omega arith in g) w in
      subst (λ (o : Option TypeNode). Begun step few within (type_of ns m o) (chosen (type_at ns n i)) a b (records_of ns old) (records_of ns new)) (sym e) v

-- the end
pub closing_told : {S : Type 0} (step : S → Record → S → Type 0) (ns : List TypeNode) (old new : List Event) {a b : S} → step a ends b → new ≡ old ++ Ended ∷ [] →
    EndsClosing step a b (records_of ns old) (records_of ns new)
closing_told step ns old new m k = choice_ends m (kept_one ns old new Ended k)

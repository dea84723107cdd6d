-- Sequences of a table: their beginnings, and their turns.
use Rattle.std.proofs.Common.{◌≡◌, ◌∙◌, refl, sym, ap, subst, ℕ, zero, suc, ◌+◌, ◌<◌, ◌≤◌, Bool, true, false, List, [], ◌∷◌, ◌++◌, map, length, drop, get_or, Vec, Global, Option, Some}
use Rattle.std.proofs.Common.{slice_get, arith}
use Rattle.std.specs.Prelude.{◌||◌, not}
use Rattle.std.proofs.lemmas.List.{drop_all, drop_more}
use Rattle.std.proofs.lemmas.Bool.{both_ways, or_right}
use Rattle.asn1_model.specs.Schema.{Schema, no_component, Components}
use Rattle.asn1_model.specs.Schema as model
use Rattle.asn1_model.specs.Normal.{is_required}
use Rattle.asn1_model.specs.Lawful.{are_no_components, is_empty}
use Rattle.asn1_schema_errors.specs.declared.DecodeError.{DecodeError}
use Rattle.asn1_schema_laws.specs.Records.{Record, sequence_begins, set_begins, presence_bit, additions_begin, addition}
use Rattle.asn1_schema_laws.specs.Records.{group_begins, ends, question, asks_sequence, asks_set, asks_group, asks_presence_bit, asks_additions, asks_addition}
use Rattle.asn1_schema_laws.specs.Presents.{Fits, component_count, optional_count}
use Rattle.asn1_model.specs.Value.{Value}
use Rattle.asn1_schema_laws.specs.Chains.{OneRecord}
use Rattle.asn1_schema_lacking_laws.specs.Carried.{keeps_members, CarriesRecords, CarriesValues}
use Rattle.asn1_schema_decode.specs.Reads.{NoRecord, NoLevel}
use Rattle.asn1_schema_tags.specs.Tags.{tag_of}
use Rattle.asn1_table_laws.specs.Walks.{NoValue, Ends, Stuck, Begun, Passes, Awaits, StuckRoot, StuckAdded, EndsAdded, Pending}
use Rattle.asn1_table_laws.specs.Walks as walk
use Rattle.asn1_table_laws.proofs.Roots.{Composed, composed_sequence, composed_set, composed_group, none_begun, components_begun}
use Rattle.asn1_table_laws.proofs.Roots.{has_default, required_awaited, present_awaited, noting_awaited}
use Rattle.asn1_table_laws.proofs.Roots.{absent_passes as left_out_passes, bit_stuck, rest_passes, rest_stuck, end_passes}
use Rattle.asn1_table_laws.proofs.Additions.{added_ends, addition_stuck, required_refused, absent_passes, value_awaited}
use Rattle.asn1_table_nodes.specs.Meaning.{type_of, type_at, components_of, presence_of}
use Rattle.asn1_table_types.proofs.TagLaws.{none_are}
use Rattle.asn1_table_nodes.specs.declared.nodes.Component.{Component}
use Rattle.asn1_table_nodes.specs.declared.nodes.ComponentTable.{ComponentTable}
use Rattle.asn1_table_nodes.specs.declared.nodes.TypeNode.{TypeNode}
use Rattle.asn1_table_nodes.specs.declared.nodes.TypeNode.TheVariants.{Sequence, Set, Group}
use Rattle.asn1_table_tape.specs.declared.tape.Event.{Event}
use Rattle.asn1_table_tape.specs.declared.tape.Event.TheVariants.{SequenceBegins, SetBegins, GroupBegins, PresenceBit, AdditionsBegin, Addition, Ends as Ended}
use Rattle.asn1_table_tape.specs.Records.{record_of, records_of}
use Rattle.asn1_table_tape.specs.Terms.{Lists, optional_in, lists_in}
use Rattle.asn1_table_tape.proofs.Nodes.{kept_one, records_counted}
use Rattle.asn1_table_types.specs.Tables.{AreLawful}
use Rattle.asn1_table_walker.specs.Frames.{pending_root, pending_noting, pending_noted, pending_added, pending_ending, pending_inside}
use Rattle.asn1_table_walker.proofs.Nodes.{optional_counted, components_counted, root_fine}

-- the component at an index, and those after it
component_is : (f : ℕ → Schema) (cs : List Component) (i : ℕ) (x : Component) → i < length cs → x ≡ get_or cs i x → components_of f (drop i cs) ≡
    model.component (map tag_of x.tags.items) (presence_of x.presence) (f x.place) (components_of f (drop (i + 1) cs))
component_is f cs i x h e = ap (components_of f) (drop_more cs i x h) ∙ ap (λ (y : Component). model.component (map tag_of y.tags.items) (presence_of y.presence) (f y.place)
    (components_of f (drop (i + 1) cs))) (sym e)

components_done : (f : ℕ → Schema) (cs : List Component) (i : ℕ) → length cs ≤ i → components_of f (drop i cs) ≡ no_component
components_done f cs i h = ap (components_of f) (drop_all i cs h)

-- the end
pub end_told : {S : Type 0} (step : S → Record → S → Type 0) (ns : List TypeNode) (old new : List Event) {a b : S} → step a ends b → new ≡ old ++ Ended ∷ [] →
    EndsAdded step no_component a b (records_of ns old) (records_of ns new)
end_told step ns old new m k = added_ends m (kept_one ns old new Ended k)

not_group : (b : Bool) → not b ≡ true → b ≡ false
not_group true e = absurd (let z : false ≡ true = e in cc)
not_group false e = refl

no_default : (o : model.Presence) → is_required o ≡ true → has_default o ≡ false
no_default model.required e = refl
no_default model.optional e = refl
no_default (model.by_default d) e = absurd (let z : false ≡ true = e in cc)

-- whether there are additions, or an extension marker
open_as : (f : ℕ → Schema) (t : Lists) {r : Bool} → r ≡ (t.extensible || not (is_empty t.additions)) →
    (t.extensible || not (are_no_components (components_of f t.additions))) ≡ r
open_as f t q = ap (λ x. t.extensible || not x) (none_are f t.additions) ∙ sym q

-- where there is neither there is no addition
no_additions : (f : ℕ → Schema) (e : Bool) (cs : List Component) → (e || not (is_empty cs)) ≡ false → components_of f cs ≡ no_component
no_additions f e [] q = refl
no_additions f e (c ∷ cs) q = let z : (e || true) ≡ false = q in absurd (both_ways (e || true) z (or_right e true refl))

-- ---- a SEQUENCE, SET or group begins

module _ {S : Type 0} {step : S → Record → S → Type 0} {few : S → S → S → Type 0} (ns : List TypeNode) (place : ℕ) (y : TypeNode) (t : Lists) (r : ℕ → Record)
    (made : (n : ℕ) → Composed (type_of ns (suc n) (Some y)) (r (optional_count (components_of (λ i. type_at ns n i) t.root))) (components_of (λ i. type_at ns n i) t.root) t.extensible
    (components_of (λ i. type_at ns n i) t.additions)) where
  none_opened : ((v : Value) → Fits (type_of ns zero (Some y)) v → ⊥) → (m : ℕ) {k : ℕ} {a failed : S} {x : DecodeError} → k ≡ optional_in t.root → slice_get ns place ≡ Some y →
      NoLevel step few (question (r k)) m a failed x → NoValue step few (type_at ns m place) a failed x
  none_opened low m {k} {a} {failed} {x} q e u = subst (λ (o : Option TypeNode). NoValue step few (type_of ns m o) a failed x) (sym e) (at m u)
    where
      at : (m : ℕ) → NoLevel step few (question (r k)) m a failed x → NoValue step few (type_of ns m (Some y)) a failed x
      at zero u = record { none = λ w start near v c f p. low v f }
      at (suc n) u = none_begun (made n) (let l : 0 < suc n = omega arith in l)
          (subst (λ (k : ℕ). NoLevel step few (question (r k)) (suc n) a failed x) (q ∙ sym (optional_counted (λ i. type_at ns n i) t.root)) u)

  opened : OneRecord step → CarriesRecords step few → (within : S → S → S → Type 0) → ((k : ℕ) → keeps_members (r k) ≡ true) → lists_in (Some y) ≡ Some t →
      (event : ℕ → Event) → ((k : ℕ) → record_of ns (event k) ≡ r k) → (m n : ℕ) (old new : List Event) (k : ℕ) {a b : S} → k ≡ optional_in t.root →
      slice_get ns place ≡ Some y → m ≡ n + 1 → step a (r k) b → new ≡ old ++ event k ∷ [] →
      Begun step few within (type_at ns m place) (pending_root ns n (lists_in (slice_get ns place)) 0) a b (records_of ns old) (records_of ns new)
  opened one carries within plain listed event same m n old new k {a} {b} q e l h j =
      let f : ℕ → Schema = λ i. type_at ns n i in
      let c : k ≡ optional_count (components_of f t.root) = q ∙ sym (optional_counted f t.root) in
      let i : records_of ns new ≡ records_of ns old ++ r (optional_count (components_of f t.root)) ∷ [] =
      kept_one ns old new (event k) j ∙ ap (λ z. records_of ns old ++ z ∷ []) (same k) ∙ ap (λ k. records_of ns old ++ r k ∷ []) c in
      let w : Begun step few within (type_of ns (suc n) (Some y)) (pending_root ns n (Some t) 0) a b (records_of ns old) (records_of ns new) =
      components_begun (made n) one carries (plain (optional_count (components_of f t.root))) (subst (λ (k : ℕ). step a (r k) b) c h) i in
      let v : Begun step few within (type_of ns m (Some y)) (pending_root ns n (lists_in (Some y)) 0) a b (records_of ns old) (records_of ns new) = subst
      (λ (o : Option Lists). Begun step few within (type_of ns m (Some y)) (pending_root ns n o 0) a b (records_of ns old) (records_of ns new)) (sym listed)
      (subst (λ (m : ℕ). Begun step few within (type_of ns m (Some y)) (pending_root ns n (Some t) 0) a b (records_of ns old) (records_of ns new))
      (let g : suc n ≡ m = omega arith in g) w) in
      subst (λ (o : Option TypeNode). Begun step few within (type_of ns m o) (pending_root ns n (lists_in o) 0) a b (records_of ns old) (records_of ns new)) (sym e) v

abbrev lists_of : ComponentTable → Lists
lists_of t = record { root = t.root.items; extensible = t.is_extensible; additions = t.additions.items }

abbrev lists_of_group : Vec Component Global → Lists
lists_of_group cs = record { root = cs.items; extensible = false; additions = [] }

module _ {S : Type 0} {step : S → Record → S → Type 0} {few : S → S → S → Type 0} (ns : List TypeNode) (place : ℕ) where
  pub sequence_refused : (t : ComponentTable) (m : ℕ) {k : ℕ} {a failed : S} {x : DecodeError} → k ≡ optional_in t.root.items → slice_get ns place ≡ Some (Sequence t) →
      NoLevel step few (asks_sequence t.is_extensible k) m a failed x → NoValue step few (type_at ns m place) a failed x
  unfolding Fits
  sequence_refused t m q e u = none_opened ns place (Sequence t) (lists_of t) (λ k. sequence_begins t.is_extensible k) (λ n. composed_sequence _ _ _) (λ v f. f) m q e u

  pub set_refused : (t : ComponentTable) (m : ℕ) {k : ℕ} {a failed : S} {x : DecodeError} → k ≡ optional_in t.root.items → slice_get ns place ≡ Some (Set t) →
      NoLevel step few (asks_set t.is_extensible k) m a failed x → NoValue step few (type_at ns m place) a failed x
  unfolding Fits
  set_refused t m q e u = none_opened ns place (Set t) (lists_of t) (λ k. set_begins t.is_extensible k) (λ n. composed_set _ _ _) (λ v f. f) m q e u

  pub group_refused : (cs : Vec Component Global) (m : ℕ) {k : ℕ} {a failed : S} {x : DecodeError} → k ≡ optional_in cs.items → slice_get ns place ≡ Some (Group cs) →
      NoLevel step few (asks_group k) m a failed x → NoValue step few (type_at ns m place) a failed x
  unfolding Fits
  group_refused cs m q e u = none_opened ns place (Group cs) (lists_of_group cs) (λ k. group_begins k) (λ n. composed_group _) (λ v f. f) m q e u

  module _ (one : OneRecord step) (carries : CarriesRecords step few) (within : S → S → S → Type 0) where
    pub sequence_opened : (t : ComponentTable) (m n : ℕ) (old new : List Event) (k : ℕ) {a b : S} → k ≡ optional_in t.root.items → slice_get ns place ≡ Some (Sequence t) → m ≡ n + 1 →
        step a (sequence_begins t.is_extensible k) b → new ≡ old ++ SequenceBegins t.is_extensible k ∷ [] →
        Begun step few within (type_at ns m place) (pending_root ns n (lists_in (slice_get ns place)) 0) a b (records_of ns old) (records_of ns new)
    sequence_opened t m n old new k q e l h j = opened ns place (Sequence t) (lists_of t) (λ k. sequence_begins t.is_extensible k) (λ n. composed_sequence _ _ _) one carries within
        (λ k. refl) refl (λ k. SequenceBegins t.is_extensible k) (λ k. refl) m n old new k q e l h j

    pub set_opened : (t : ComponentTable) (m n : ℕ) (old new : List Event) (k : ℕ) {a b : S} → k ≡ optional_in t.root.items → slice_get ns place ≡ Some (Set t) → m ≡ n + 1 →
        step a (set_begins t.is_extensible k) b → new ≡ old ++ SetBegins t.is_extensible k ∷ [] →
        Begun step few within (type_at ns m place) (pending_root ns n (lists_in (slice_get ns place)) 0) a b (records_of ns old) (records_of ns new)
    set_opened t m n old new k q e l h j = opened ns place (Set t) (lists_of t) (λ k. set_begins t.is_extensible k) (λ n. composed_set _ _ _) one carries within
        (λ k. refl) refl (λ k. SetBegins t.is_extensible k) (λ k. refl) m n old new k q e l h j

    pub group_opened : (cs : Vec Component Global) (m n : ℕ) (old new : List Event) (k : ℕ) {a b : S} → k ≡ optional_in cs.items → slice_get ns place ≡ Some (Group cs) → m ≡ n + 1 →
        step a (group_begins k) b → new ≡ old ++ GroupBegins k ∷ [] →
        Begun step few within (type_at ns m place) (pending_root ns n (lists_in (slice_get ns place)) 0) a b (records_of ns old) (records_of ns new)
    group_opened cs m n old new k q e l h j = opened ns place (Group cs) (lists_of_group cs) (λ k. group_begins k) (λ n. composed_group _) one carries within
        (λ k. refl) refl (λ k. GroupBegins k) (λ k. refl) m n old new k q e l h j

-- ---- turns

module _ {S : Type 0} {step : S → Record → S → Type 0} {few : S → S → S → Type 0} where
  module _ (one : OneRecord step) (carries : CarriesRecords step few) (values : CarriesValues step few) (within : S → S → S → Type 0) where
    -- after the root components
    module _ (ns : List TypeNode) (n : ℕ) (t : Lists) where
      pub root_ends : {a b : S} {K K1 : List Record} {r : Bool} → r ≡ (t.extensible || not (is_empty t.additions)) → r ≡ false → EndsAdded step no_component a b K K1 →
          Ends step (walk.root no_component t.extensible (components_of (λ i. type_at ns n i) t.additions)) a b K K1
      root_ends {a} {b} {K} {K1} {r} q z h =
          let f : ℕ → Schema = λ i. type_at ns n i in
          let v : EndsAdded step (components_of f t.additions) a b K K1 = subst (λ cs. EndsAdded step cs a b K K1) (sym (no_additions f t.extensible t.additions (sym q ∙ z))) h in
          let w : Passes step few within (walk.root no_component t.extensible (components_of f t.additions)) (walk.added (components_of f t.additions)) a a K K =
          end_passes one carries values (open_as f t q ∙ z) in
          w.done b K1 v

      pub root_end_refused : {a failed : S} {x : DecodeError} {r : Bool} → r ≡ (t.extensible || not (is_empty t.additions)) → r ≡ false → StuckAdded step few no_component a failed x →
          StuckRoot step few no_component t.extensible (components_of (λ i. type_at ns n i) t.additions) a failed x
      root_end_refused {a} {failed} {x} {r} q z h =
          let f : ℕ → Schema = λ i. type_at ns n i in
          let v : StuckAdded step few (components_of f t.additions) a failed x = subst (λ cs. StuckAdded step few cs a failed x)
          (sym (no_additions f t.extensible t.additions (sym q ∙ z))) h in
          let w : Passes step few within (walk.root no_component t.extensible (components_of f t.additions)) (walk.added (components_of f t.additions)) a a [] [] =
          end_passes one carries values (open_as f t q ∙ z) in
          w.stuck failed x v

      pub additions_refused : {a failed : S} {x : DecodeError} {r : Bool} {k : ℕ} → r ≡ (t.extensible || not (is_empty t.additions)) → r ≡ true → k ≡ length t.additions →
          NoRecord step few (asks_additions k) a failed x → StuckRoot step few no_component t.extensible (components_of (λ i. type_at ns n i) t.additions) a failed x
      additions_refused {a} {failed} {x} {r} {k} q z j u =
          let f : ℕ → Schema = λ i. type_at ns n i in
          rest_stuck one carries (open_as f t q ∙ z) (subst (λ (k : ℕ). NoRecord step few (asks_additions k) a failed x) (j ∙ sym (components_counted f t.additions)) u)

    module _ (ns : List TypeNode) (n sequence next : ℕ) (t : Lists) (e : lists_in (slice_get ns sequence) ≡ Some t) where
      -- what a frame means at a component, and after the last one
      pub root_is : (x : Component) → next < length t.root → x ≡ get_or t.root next x →
          pending_root ns n (lists_in (slice_get ns sequence)) next ≡ walk.root (model.component (map tag_of x.tags.items) (presence_of x.presence) (type_at ns n x.place)
          (components_of (λ i. type_at ns n i) (drop (next + 1) t.root))) t.extensible (components_of (λ i. type_at ns n i) t.additions)
      root_is x l q = ap (λ o. pending_root ns n o next) e ∙ ap (λ cs. walk.root cs t.extensible (components_of (λ i. type_at ns n i) t.additions))
          (component_is (λ i. type_at ns n i) t.root next x l q)

      pub root_done : length t.root ≤ next → pending_root ns n (lists_in (slice_get ns sequence)) next ≡ walk.root no_component t.extensible
          (components_of (λ i. type_at ns n i) t.additions)
      root_done l = ap (λ o. pending_root ns n o next) e ∙ ap (λ cs. walk.root cs t.extensible (components_of (λ i. type_at ns n i) t.additions))
          (components_done (λ i. type_at ns n i) t.root next l)

      added_is : (x : Component) → next < length t.additions → x ≡ get_or t.additions next x →
          pending_added ns n (lists_in (slice_get ns sequence)) next ≡ walk.added (model.component (map tag_of x.tags.items) (presence_of x.presence) (type_at ns n x.place)
          (components_of (λ i. type_at ns n i) (drop (next + 1) t.additions)))
      added_is x l q = ap (λ o. pending_added ns n o next) e ∙ ap (λ cs. walk.added cs) (component_is (λ i. type_at ns n i) t.additions next x l q)

      pub added_done : length t.additions ≤ next → pending_added ns n (lists_in (slice_get ns sequence)) next ≡ walk.added no_component
      added_done l = ap (λ o. pending_added ns n o next) e ∙ ap (λ cs. walk.added cs) (components_done (λ i. type_at ns n i) t.additions next l)

      pub noted_is : (from : ℕ) (x : Component) → next < length t.root → x ≡ get_or t.root next x → is_required (presence_of x.presence) ≡ false →
          pending_noted ns n (lists_in (slice_get ns sequence)) next from ≡ walk.noting (presence_of x.presence) (type_at ns n x.place) from
          (components_of (λ i. type_at ns n i) (drop (next + 1) t.root)) t.extensible (components_of (λ i. type_at ns n i) t.additions)
      noted_is from x l q r =
          let d : drop next t.root ≡ x ∷ drop (next + 1) t.root = drop_more t.root next x l ∙ ap (λ (y : Component). y ∷ drop (next + 1) t.root) (sym q) in
          ap (λ o. pending_noted ns n o next from) e ∙ ap (λ cs. pending_noting ns n t cs from) d ∙ rw r refl

      pub noted_required : (from : ℕ) (x : Component) → next < length t.root → x ≡ get_or t.root next x → is_required (presence_of x.presence) ≡ true →
          pending_noted ns n (lists_in (slice_get ns sequence)) next from ≡ walk.lost
      noted_required from x l q r =
          let d : drop next t.root ≡ x ∷ drop (next + 1) t.root = drop_more t.root next x l ∙ ap (λ (y : Component). y ∷ drop (next + 1) t.root) (sym q) in
          ap (λ o. pending_noted ns n o next from) e ∙ ap (λ cs. pending_noting ns n t cs from) d ∙ rw r refl

      pub noted_past : (from : ℕ) → length t.root ≤ next → pending_noted ns n (lists_in (slice_get ns sequence)) next from ≡ walk.lost
      noted_past from l = ap (λ o. pending_noted ns n o next from) e ∙ ap (λ cs. pending_noting ns n t cs from) (drop_all next t.root l)

      pub inside_is : (from : ℕ) (x : Component) → next < length t.additions → x ≡ get_or t.additions next x →
          pending_inside ns n (lists_in (slice_get ns sequence)) next from ≡ walk.inside (presence_of x.presence) (type_at ns n x.place) from
          (components_of (λ i. type_at ns n i) (drop (next + 1) t.additions))
      inside_is from x l q =
          let d : drop next t.additions ≡ x ∷ drop (next + 1) t.additions = drop_more t.additions next x l ∙ ap (λ (y : Component). y ∷ drop (next + 1) t.additions) (sym q) in
          ap (λ o. pending_inside ns n o next from) e ∙ ap (λ cs. pending_ending ns n cs from) d

      pub inside_past : (from : ℕ) → length t.additions ≤ next → pending_inside ns n (lists_in (slice_get ns sequence)) next from ≡ walk.lost
      inside_past from l = ap (λ o. pending_inside ns n o next from) e ∙ ap (λ cs. pending_ending ns n cs from) (drop_all next t.additions l)

      pub root_next : pending_root ns n (lists_in (slice_get ns sequence)) (next + 1) ≡ walk.root (components_of (λ i. type_at ns n i) (drop (next + 1) t.root)) t.extensible
          (components_of (λ i. type_at ns n i) t.additions)
      root_next = ap (λ o. pending_root ns n o (next + 1)) e

      pub added_next : pending_added ns n (lists_in (slice_get ns sequence)) (next + 1) ≡ walk.added (components_of (λ i. type_at ns n i) (drop (next + 1) t.additions))
      added_next = ap (λ o. pending_added ns n o (next + 1)) e

      -- ---- a turn at a root component
      module _ (x : Component) (l : next < length t.root) (q : x ≡ get_or t.root next x) where
        pub required_comes : {a : S} {K : List Record} → AreLawful ns → is_required (presence_of x.presence) ≡ true →
            Awaits step few within (pending_root ns n (lists_in (slice_get ns sequence)) next) (pending_root ns n (lists_in (slice_get ns sequence)) (next + 1)) (type_at ns n x.place) a a K K
        required_comes {a} {K} served r = subst (λ (p : Pending). Awaits step few within p (pending_root ns n (lists_in (slice_get ns sequence)) (next + 1)) (type_at ns n x.place) a a K K)
            (sym (root_is x l q))
            (subst (λ (p : Pending). Awaits step few within (walk.root (model.component (map tag_of x.tags.items) (presence_of x.presence) (type_at ns n x.place) (components_of
            (λ i. type_at ns n i) (drop (next + 1) t.root))) t.extensible (components_of (λ i. type_at ns n i) t.additions)) p (type_at ns n x.place) a a K K) (sym root_next)
            (required_awaited one carries values r (no_default (presence_of x.presence) r) (not_group _ (root_fine ns n sequence t next x served e l q).placed)))

        pub present_comes : {a b : S} (old new : List Event) → AreLawful ns → is_required (presence_of x.presence) ≡ false → has_default (presence_of x.presence) ≡ false → step a
            (presence_bit true) b →
            new ≡ old ++ PresenceBit true ∷ [] → Awaits step few within (pending_root ns n (lists_in (slice_get ns sequence)) next)
            (pending_root ns n (lists_in (slice_get ns sequence)) (next + 1)) (type_at ns n x.place) a b (records_of ns old) (records_of ns new)
        present_comes {a} {b} old new served r d m k = subst (λ (p : Pending). Awaits step few within p (pending_root ns n (lists_in (slice_get ns sequence)) (next + 1))
            (type_at ns n x.place) a b (records_of ns old) (records_of ns new)) (sym (root_is x l q))
            (subst (λ (p : Pending). Awaits step few within (walk.root (model.component (map tag_of x.tags.items) (presence_of x.presence) (type_at ns n x.place) (components_of
            (λ i. type_at ns n i) (drop (next + 1) t.root))) t.extensible (components_of (λ i. type_at ns n i) t.additions)) p (type_at ns n x.place) a b (records_of ns old)
            (records_of ns new)) (sym root_next)
            (present_awaited one carries values r d (not_group _ (root_fine ns n sequence t next x served e l q).placed) m (kept_one ns old new (PresenceBit true) k)))

        pub noting_comes : {a b : S} (old new : List Event) (from : ℕ) → is_required (presence_of x.presence) ≡ false → from ≡ length old → step a (presence_bit true) b →
            new ≡ old ++ PresenceBit true ∷ [] → Awaits step few within (pending_root ns n (lists_in (slice_get ns sequence)) next)
            (pending_noted ns n (lists_in (slice_get ns sequence)) next from) (type_at ns n x.place) a b (records_of ns old) (records_of ns new)
        noting_comes {a} {b} old new from r d m k = subst (λ (p : Pending). Awaits step few within p (pending_noted ns n (lists_in (slice_get ns sequence)) next from)
            (type_at ns n x.place) a b (records_of ns old) (records_of ns new)) (sym (root_is x l q))
            (subst (λ (p : Pending). Awaits step few within (walk.root (model.component (map tag_of x.tags.items) (presence_of x.presence) (type_at ns n x.place) (components_of
            (λ i. type_at ns n i) (drop (next + 1) t.root))) t.extensible (components_of (λ i. type_at ns n i) t.additions)) p (type_at ns n x.place) a b (records_of ns old)
            (records_of ns new)) (sym (noted_is from x l q r))
            (noting_awaited one carries values r (d ∙ sym (records_counted ns old)) m (kept_one ns old new (PresenceBit true) k)))

        pub absent_goes : {a b : S} (old new : List Event) → is_required (presence_of x.presence) ≡ false → step a (presence_bit false) b → new ≡ old ++ PresenceBit false ∷ [] →
            Passes step few within (pending_root ns n (lists_in (slice_get ns sequence)) next) (pending_root ns n (lists_in (slice_get ns sequence)) (next + 1)) a b (records_of ns old)
            (records_of ns new)
        absent_goes {a} {b} old new r m k = subst (λ (p : Pending). Passes step few within p (pending_root ns n (lists_in (slice_get ns sequence)) (next + 1)) a b (records_of ns old)
            (records_of ns new)) (sym (root_is x l q))
            (subst (λ (p : Pending). Passes step few within (walk.root (model.component (map tag_of x.tags.items) (presence_of x.presence) (type_at ns n x.place) (components_of
            (λ i. type_at ns n i) (drop (next + 1) t.root))) t.extensible (components_of (λ i. type_at ns n i) t.additions)) p a b (records_of ns old) (records_of ns new))
            (sym root_next)
            (left_out_passes one carries values r m (kept_one ns old new (PresenceBit false) k)))

        pub bit_refused : {a failed : S} {y : DecodeError} (K : List Record) → is_required (presence_of x.presence) ≡ false → NoRecord step few asks_presence_bit a failed y →
            Stuck step few within (pending_root ns n (lists_in (slice_get ns sequence)) next) K a failed y
        bit_refused {a} {failed} {y} K r u = subst (λ (p : Pending). Stuck step few within p K a failed y) (sym (root_is x l q)) (bit_stuck one carries r u)

      -- ---- a turn at an addition
      module _ (x : Component) (l : next < length t.additions) (q : x ≡ get_or t.additions next x) where
        pub addition_comes : {a b : S} (old new : List Event) (from : ℕ) → from ≡ length old → step a (addition true) b → new ≡ old ++ Addition true ∷ [] →
            Awaits step few within (pending_added ns n (lists_in (slice_get ns sequence)) next) (pending_inside ns n (lists_in (slice_get ns sequence)) next from) (type_at ns n x.place) a b
            (records_of ns old) (records_of ns new)
        addition_comes {a} {b} old new from d m k = subst (λ (p : Pending). Awaits step few within p (pending_inside ns n (lists_in (slice_get ns sequence)) next from)
            (type_at ns n x.place) a b (records_of ns old) (records_of ns new)) (sym (added_is x l q))
            (subst (λ (p : Pending). Awaits step few within (walk.added (model.component (map tag_of x.tags.items) (presence_of x.presence) (type_at ns n x.place) (components_of
            (λ i. type_at ns n i) (drop (next + 1) t.additions)))) p (type_at ns n x.place) a b (records_of ns old) (records_of ns new)) (sym (inside_is from x l q))
            (value_awaited one carries values (d ∙ sym (records_counted ns old)) m (kept_one ns old new (Addition true) k)))

        pub addition_goes : {a b : S} (old new : List Event) → is_required (presence_of x.presence) ≡ false → step a (addition false) b → new ≡ old ++ Addition false ∷ [] →
            Passes step few within (pending_added ns n (lists_in (slice_get ns sequence)) next) (pending_added ns n (lists_in (slice_get ns sequence)) (next + 1)) a b (records_of ns old)
            (records_of ns new)
        addition_goes {a} {b} old new r m k = subst (λ (p : Pending). Passes step few within p (pending_added ns n (lists_in (slice_get ns sequence)) (next + 1)) a b (records_of ns old)
            (records_of ns new)) (sym (added_is x l q))
            (subst (λ (p : Pending). Passes step few within (walk.added (model.component (map tag_of x.tags.items) (presence_of x.presence) (type_at ns n x.place) (components_of
            (λ i. type_at ns n i) (drop (next + 1) t.additions)))) p a b (records_of ns old) (records_of ns new)) (sym added_next)
            (absent_passes one carries values r m (kept_one ns old new (Addition false) k)))

        pub addition_refused : {a failed : S} {y : DecodeError} (K : List Record) → NoRecord step few asks_addition a failed y →
            Stuck step few within (pending_added ns n (lists_in (slice_get ns sequence)) next) K a failed y
        addition_refused {a} {failed} {y} K u = subst (λ (p : Pending). Stuck step few within p K a failed y) (sym (added_is x l q)) (addition_stuck u)

        pub absence_refused : {a b : S} (failed : S) (y : DecodeError) (K : List Record) → is_required (presence_of x.presence) ≡ true → step a (addition false) b →
            Stuck step few within (pending_added ns n (lists_in (slice_get ns sequence)) next) K a failed y
        absence_refused {a} failed y K r m = subst (λ (p : Pending). Stuck step few within p K a failed y) (sym (added_is x l q)) (required_refused one carries failed y r m)

      -- ---- after the root components
      pub stuck_done : {a failed : S} {x : DecodeError} (K : List Record) → length t.root ≤ next → StuckRoot step few no_component t.extensible
          (components_of (λ i. type_at ns n i) t.additions) a failed x → Stuck step few within (pending_root ns n (lists_in (slice_get ns sequence)) next) K a failed x
      stuck_done {a} {failed} {x} K l u = subst (λ (p : Pending). Stuck step few within p K a failed x) (sym (root_done l)) u

      pub additions_begun : {a b : S} (old new : List Event) (k : ℕ) {r : Bool} → k ≡ length t.additions → r ≡ (t.extensible || not (is_empty t.additions)) → r ≡ true →
          step a (additions_begin k) b → new ≡ old ++ AdditionsBegin k ∷ [] → Passes step few within
          (walk.root no_component t.extensible (components_of (λ i. type_at ns n i) t.additions)) (pending_added ns n (lists_in (slice_get ns sequence)) 0) a b (records_of ns old)
          (records_of ns new)
      additions_begun {a} {b} old new k j q z m h =
          let f : ℕ → Schema = λ i. type_at ns n i in
          let c : k ≡ component_count (components_of f t.additions) = j ∙ sym (components_counted f t.additions) in
          subst (λ (o : Option Lists). Passes step few within (walk.root no_component t.extensible (components_of f t.additions)) (pending_added ns n o 0) a b
          (records_of ns old) (records_of ns new)) (sym e)
          (rest_passes one carries values (open_as f t q ∙ z) (subst (λ (k : ℕ). step a (additions_begin k) b) c m)
          (kept_one ns old new (AdditionsBegin k) h ∙ ap (λ k. records_of ns old ++ additions_begin k ∷ []) c))

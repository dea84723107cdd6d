-- What is noted of a component of a table that was read: its turns.
use Rattle.std.proofs.Common.{◌≡◌, ◌∙◌, refl, sym, ap, subst, ℕ, zero, suc, ◌+◌, ◌<◌, ◌≤◌, Bool, true, false, cond, List, [], ◌∷◌, ◌++◌, length, drop, get_or, Some, slice_get}
use Rattle.std.proofs.Math.ListN.{take}
use Rattle.asn1_model.specs.Value.{Value}
use Rattle.asn1_model.specs.Schema.{Schema, Presence}
use Rattle.asn1_model.specs.Normal.{normal, is_required, is_at_default, is_group_left_out}
use Rattle.asn1_schema_errors.specs.declared.DecodeError.{DecodeError}
use Rattle.asn1_schema_laws.specs.Records.{Record, presence_bit, is_default, is_empty, addition, addition_ends, asks_addition_end, asks_default, asks_empty}
use Rattle.asn1_schema_laws.specs.Presents.{presents, Fits}
use Rattle.asn1_schema_laws.specs.Chains.{Chain, OneRecord}
use Rattle.asn1_schema_lacking_laws.specs.Carried.{CarriesRecords, CarriesValues}
use Rattle.asn1_schema_decode.specs.Reads.{NoRecord}
use Rattle.asn1_table_laws.specs.Walks.{Stuck, Passes, Notes, NotNoted, Pending}
use Rattle.asn1_table_laws.specs.Walks as walk
use Rattle.asn1_table_laws.proofs.Noting.{noting_passes, noting_stuck, inside_passes, inside_stuck, inside_end_stuck}
use Rattle.asn1_table_laws.proofs.Normal.{not_required_there}
use Rattle.asn1_table_nodes.specs.Meaning.{type_at, components_of, presence_of}
use Rattle.asn1_table_types.specs.Tables.{AreLawful}
use Rattle.asn1_table_nodes.specs.declared.nodes.Component.{Component}
use Rattle.asn1_table_nodes.specs.declared.nodes.TypeNode.{TypeNode}
use Rattle.asn1_table_tape.specs.declared.tape.Event.{Event}
use Rattle.asn1_table_tape.specs.declared.tape.Event.TheVariants.{PresenceBit, Addition, AdditionEnds}
use Rattle.asn1_table_tape.specs.Records.{record_of, records_of}
use Rattle.asn1_table_tape.specs.Terms.{Lists, lists_in}
use Rattle.asn1_table_tape.proofs.Nodes.{kept_one}
use Rattle.asn1_table_walker.specs.Frames.{pending_root, pending_noted, pending_added, pending_inside}
use Rattle.asn1_table_walker.proofs.Nodes.{added_fine}
use Rattle.asn1_table_walker.proofs.SequenceTurns.{noted_is, noted_required, noted_past, inside_is, inside_past, root_next, added_next}

records_dropped : (ns : List TypeNode) (i : ℕ) (es : List Event) → records_of ns (drop i es) ≡ drop i (records_of ns es)
records_dropped ns zero es = refl
records_dropped ns (suc i) [] = refl
records_dropped ns (suc i) (e ∷ es) = records_dropped ns i es

records_taken : (ns : List TypeNode) (i : ℕ) (es : List Event) → records_of ns (take i es) ≡ take i (records_of ns es)
records_taken ns zero es = refl
records_taken ns (suc i) [] = refl
records_taken ns (suc i) (e ∷ es) = ap (λ rs. record_of ns e ∷ rs) (records_taken ns i es)

cut : (ns : List TypeNode) (from : ℕ) (old new : List Event) (e : Event) → new ≡ take from old ++ e ∷ [] → records_of ns new ≡ take from (records_of ns old) ++ record_of ns e ∷ []
cut ns from old new e k = kept_one ns (take from old) new e k ∙ ap (λ rs. rs ++ record_of ns e ∷ []) (records_taken ns from old)

root_cut : (ns : List TypeNode) (from : ℕ) (old new : List Event) (y : Bool) → new ≡ cond y (take from old ++ PresenceBit false ∷ []) old →
    records_of ns new ≡ cond y (take from (records_of ns old) ++ presence_bit false ∷ []) (records_of ns old)
root_cut ns from old new true k = cut ns from old new (PresenceBit false) k
root_cut ns from old new false k = ap (λ es. records_of ns es) k

added_cut : (ns : List TypeNode) (from : ℕ) (old new : List Event) (y : Bool) → new ≡ cond y (take from old ++ Addition false ∷ []) (old ++ AdditionEnds ∷ []) →
    records_of ns new ≡ cond y (take from (records_of ns old) ++ addition false ∷ []) (records_of ns old ++ addition_ends ∷ [])
added_cut ns from old new true k = cut ns from old new (Addition false) k
added_cut ns from old new false k = kept_one ns old new AdditionEnds k

-- ---- what is noted

module _ {S : Type 0} {step : S → Record → S → Type 0} (o : Presence) (s : Schema) (value : List Record) where
  pub default_notes : {a b : S} → ((v : Value) → Fits s v → value ≡ presents s (normal s v) → is_at_default o s v ≡ true) → step a is_default b → Notes step o s value true a b
  default_notes {a} {b} h m = record { of_each = λ v f e. let q = h v f e in (rw q (b, m, refl), rw q refl) }

  pub default_refused : {few : S → S → S → Type 0} {a failed : S} {x : DecodeError} → ((v : Value) → Fits s v → value ≡ presents s (normal s v) → is_at_default o s v ≡ true) → NoRecord step few
      asks_default a failed x →
      NotNoted step few o s value a failed x
  default_refused h u = record {
    none = λ w v f e start near d p.
        let q : Chain step (is_default ∷ []) start d = rw (h v f e) at p in
        u.none w start near is_default q.0 refl q.1;
  }

  module _ (other : (v : Value) → Fits s v → value ≡ presents s (normal s v) → is_at_default o s v ≡ false) where
    pub empty_notes : {a b : S} → ((v : Value) → Fits s v → value ≡ presents s (normal s v) → is_group_left_out s v ≡ true) → step a is_empty b → Notes step o s value true a b
    empty_notes {a} {b} h m = record { of_each = λ v f e. let q = other v f e in let r = h v f e in (rw (q, r) (b, m, refl), rw (q, r) refl) }

    pub empty_refused : {few : S → S → S → Type 0} {a failed : S} {x : DecodeError} → ((v : Value) → Fits s v → value ≡ presents s (normal s v) → is_group_left_out s v ≡ true) → NoRecord step few
        asks_empty a failed x →
        NotNoted step few o s value a failed x
    empty_refused h u = record {
      none = λ w v f e start near d p.
          let q : Chain step (is_empty ∷ []) start d = rw (other v f e, h v f e) at p in
          u.none w start near is_empty q.0 refl q.1;
    }

    pub nothing_notes : (a : S) → ((v : Value) → Fits s v → value ≡ presents s (normal s v) → is_group_left_out s v ≡ false) → Notes step o s value false a a
    nothing_notes a h = record { of_each = λ v f e. let q = other v f e in let r = h v f e in (rw (q, r) refl, rw (q, r) refl) }

-- ---- turns

module _ {S : Type 0} {step : S → Record → S → Type 0} {few : S → S → S → Type 0} (one : OneRecord step) (carries : CarriesRecords step few) (values : CarriesValues step few)
    (within : S → S → S → Type 0) (ns : List TypeNode) (n sequence component from : ℕ) (t : Lists) (e : lists_in (slice_get ns sequence) ≡ Some t) where
  -- ---- a root component
  pub noting_past : length t.root ≤ component → (a failed : S) (x : DecodeError) (K : List Record) →
      Stuck step few within (pending_noted ns n (lists_in (slice_get ns sequence)) component from) K a failed x
  noting_past l a failed x K = subst (λ (p : Pending). Stuck step few within p K a failed x) (sym (noted_past one carries values within ns n sequence component t e from l)) tt

  module _ (c : Component) (l : component < length t.root) (q : c ≡ get_or t.root component c) where
    pub noting_required : is_required (presence_of c.presence) ≡ true → (a failed : S) (x : DecodeError) (K : List Record) →
        Stuck step few within (pending_noted ns n (lists_in (slice_get ns sequence)) component from) K a failed x
    noting_required r a failed x K = subst (λ (p : Pending). Stuck step few within p K a failed x)
        (sym (noted_required one carries values within ns n sequence component t e from c l q r)) tt

    pub noting_refused : is_required (presence_of c.presence) ≡ false → (old : List Event) {a failed : S} {x : DecodeError} →
        NotNoted step few (presence_of c.presence) (type_at ns n c.place) (records_of ns (drop (from + 1) old)) a failed x →
        Stuck step few within (pending_noted ns n (lists_in (slice_get ns sequence)) component from) (records_of ns old) a failed x
    noting_refused r old {a} {failed} {x} u = subst (λ (p : Pending). Stuck step few within p (records_of ns old) a failed x)
        (sym (noted_is one carries values within ns n sequence component t e from c l q r))
        (noting_stuck (subst (λ rs. NotNoted step few (presence_of c.presence) (type_at ns n c.place) rs a failed x) (records_dropped ns (from + 1) old) u))

    pub noting_goes : is_required (presence_of c.presence) ≡ false → (y : Bool) (old new : List Event) {a b : S} →
        Notes step (presence_of c.presence) (type_at ns n c.place) (records_of ns (drop (from + 1) old)) y a b → new ≡ cond y (take from old ++ PresenceBit false ∷ []) old →
        Passes step few within (pending_noted ns n (lists_in (slice_get ns sequence)) component from) (pending_root ns n (lists_in (slice_get ns sequence)) (component + 1)) a b
        (records_of ns old) (records_of ns new)
    noting_goes r y old new {a} {b} h k =
        let i = subst (λ rs. Notes step (presence_of c.presence) (type_at ns n c.place) rs y a b) (records_dropped ns (from + 1) old) h in
        subst (λ (p : Pending). Passes step few within p (pending_root ns n (lists_in (slice_get ns sequence)) (component + 1)) a b (records_of ns old) (records_of ns new))
        (sym (noted_is one carries values within ns n sequence component t e from c l q r))
        (subst (λ (p : Pending). Passes step few within (walk.noting (presence_of c.presence) (type_at ns n c.place) from (components_of (λ i. type_at ns n i) (drop (component + 1) t.root))
        t.extensible (components_of (λ i. type_at ns n i) t.additions)) p a b (records_of ns old) (records_of ns new))
        (sym (root_next one carries values within ns n sequence component t e)) (noting_passes one carries from y r i (root_cut ns from old new y k)))

  -- ---- an addition
  pub ending_past : length t.additions ≤ component → (a failed : S) (x : DecodeError) (K : List Record) →
      Stuck step few within (pending_inside ns n (lists_in (slice_get ns sequence)) component from) K a failed x
  ending_past l a failed x K = subst (λ (p : Pending). Stuck step few within p K a failed x) (sym (inside_past one carries values within ns n sequence component t e from l)) tt

  module _ (c : Component) (l : component < length t.additions) (q : c ≡ get_or t.additions component c) where
    pub end_refused : {a failed : S} {x : DecodeError} (K : List Record) → NoRecord step few asks_addition_end a failed x →
        Stuck step few within (pending_inside ns n (lists_in (slice_get ns sequence)) component from) K a failed x
    end_refused {a} {failed} {x} K u = subst (λ (p : Pending). Stuck step few within p K a failed x)
        (sym (inside_is one carries values within ns n sequence component t e from c l q)) (inside_end_stuck u)

    pub inside_refused : (old : List Event) {a m failed : S} {x : DecodeError} → step a addition_ends m →
        NotNoted step few (presence_of c.presence) (type_at ns n c.place) (records_of ns (drop (from + 1) old)) m failed x →
        Stuck step few within (pending_inside ns n (lists_in (slice_get ns sequence)) component from) (records_of ns old) a failed x
    inside_refused old {a} {m} {failed} {x} s u = subst (λ (p : Pending). Stuck step few within p (records_of ns old) a failed x)
        (sym (inside_is one carries values within ns n sequence component t e from c l q))
        (inside_stuck one carries s (subst (λ rs. NotNoted step few (presence_of c.presence) (type_at ns n c.place) rs m failed x) (records_dropped ns (from + 1) old) u))

    pub inside_goes : AreLawful ns → (y : Bool) (old new : List Event) {a m b : S} → step a addition_ends m →
        Notes step (presence_of c.presence) (type_at ns n c.place) (records_of ns (drop (from + 1) old)) y m b →
        new ≡ cond y (take from old ++ Addition false ∷ []) (old ++ AdditionEnds ∷ []) →
        Passes step few within (pending_inside ns n (lists_in (slice_get ns sequence)) component from) (pending_added ns n (lists_in (slice_get ns sequence)) (component + 1)) a b
        (records_of ns old) (records_of ns new)
    inside_goes lawful y old new {a} {m} {b} s h k =
        let i = subst (λ rs. Notes step (presence_of c.presence) (type_at ns n c.place) rs y m b) (records_dropped ns (from + 1) old) h in
        let p = (added_fine ns n sequence t component c lawful e l q).placed in
        subst (λ (p : Pending). Passes step few within p (pending_added ns n (lists_in (slice_get ns sequence)) (component + 1)) a b (records_of ns old) (records_of ns new))
        (sym (inside_is one carries values within ns n sequence component t e from c l q))
        (subst (λ (p : Pending). Passes step few within (walk.inside (presence_of c.presence) (type_at ns n c.place) from (components_of (λ i. type_at ns n i) (drop (component + 1) t.additions)))
        p a b (records_of ns old) (records_of ns new)) (sym (added_next one carries values within ns n sequence component t e))
        (inside_passes one carries from y (λ v w. not_required_there (presence_of c.presence) (type_at ns n c.place) v p w) s i (added_cut ns from old new y k)))

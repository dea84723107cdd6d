-- Lists of a table: their beginnings, and their turns.
use Rattle.std.proofs.Common.{◌≡◌, ◌∙◌, sym, ap, subst, ℕ, zero, suc, ◌+◌, ◌-◌, ◌^◌, ◌<◌, true, false, List, [], ◌∷◌, ◌++◌, length, Option, Some, slice_get, arith}
use Rattle.std.specs.Prelude.{slice_set as set, leb}
use Rattle.std.proofs.lemmas.Bool.{and_parts, and_from, le-leb, leb-true}
use Rattle.asn1_model.specs.Schema.{Size, Counts}
use Rattle.asn1_model.specs.Numbers.{is_count_within}
use Rattle.asn1_schema_constraints.specs.Bounds.{members_of}
use Rattle.asn1_schema_constraints.specs.Terms.{size_of}
use Rattle.asn1_schema_constraints.specs.declared.bounds.Bounded.TheVariants.{None as Unbounded}
use Rattle.asn1_schema_constraints.specs.declared.sizes.Sizes.{Sizes}
use Rattle.asn1_schema_errors.specs.declared.DecodeError.{DecodeError}
use Rattle.asn1_schema_laws.specs.Records.{Record, list_begins, bag_begins, further, ends, asks_list, asks_bag, asks_further, asks_end}
use Rattle.asn1_schema_laws.specs.Presents.{Fits}
use Rattle.asn1_schema_laws.specs.Chains.{OneRecord}
use Rattle.asn1_schema_lacking_laws.specs.Carried.{CarriesMembers}
use Rattle.asn1_schema_decode.specs.Reads.{NoRecord, NoLevel}
use Rattle.asn1_table_laws.specs.Walks.{NoValue, Ends, Stuck, Begun, Awaits}
use Rattle.asn1_table_laws.proofs.Members.{last_told, further_stuck, full_stuck, close_stuck, member_awaited, list_begun, no_list, bag_begun, no_bag}
use Rattle.asn1_table_nodes.specs.Meaning.{type_of, type_at}
use Rattle.asn1_table_types.specs.Tables.{AreLawful}
use Rattle.asn1_table_nodes.specs.declared.nodes.TypeNode.{TypeNode}
use Rattle.asn1_table_nodes.specs.declared.nodes.TypeNode.TheVariants.{SequenceOf, SetOf}
use Rattle.asn1_table_tape.specs.declared.tape.Event.{Event}
use Rattle.asn1_table_tape.specs.declared.tape.Event.TheVariants.{ListBegins, Further, Ends as Ended}
use Rattle.asn1_table_tape.specs.Records.{record_of, records_of, list_record}
use Rattle.asn1_table_tape.specs.Terms.{members_in}
use Rattle.asn1_table_walker.specs.Frames.{pending_members}
use Rattle.asn1_table_tape.proofs.Nodes.{kept_one, records_set, records_counted}

within_held : (k : ℕ) → k < 2 ^ 64 → is_count_within (members_of Unbounded) k ≡ true
within_held k h = and_from _ _ (le-leb 0 k (omega arith)) (le-leb k (2 ^ 64 - 1) (omega (arith, h)))

not_held : (k : ℕ) → k ≡ 2 ^ 64 - 1 → (n : ℕ) → is_count_within (members_of Unbounded) (k + suc n) ≡ true → ⊥
not_held k e n h =
    let p = and_parts (leb 0 (k + suc n)) (leb (k + suc n) (2 ^ 64 - 1)) h in
    let l = leb-true (k + suc n) (2 ^ 64 - 1) p.1 in
    absurd (omega (arith, e, l))

module _ {S : Type 0} {step : S → Record → S → Type 0} {few : S → S → S → Type 0} where
  -- no list begins
  pub list_refused : (ns : List TypeNode) (place : ℕ) (z : Sizes) (i : ℕ) (m : ℕ) {y : Size} {a failed : S} {x : DecodeError} → y ≡ size_of z → slice_get ns place ≡ Some (SequenceOf z i) →
      NoLevel step few (asks_list y (members_of Unbounded)) m a failed x → NoValue step few (type_at ns m place) a failed x
  unfolding Fits
  list_refused ns place z i m {y} {a} {failed} {x} q e k =
      subst (λ (o : Option TypeNode). NoValue step few (type_of ns m o) a failed x) (sym e) (at m (subst (λ (y : Size). NoLevel step few (asks_list y (members_of Unbounded)) m a failed x) q k))
    where
      at : (m : ℕ) → NoLevel step few (asks_list (size_of z) (members_of Unbounded)) m a failed x → NoValue step few (type_of ns m (Some (SequenceOf z i))) a failed x
      at zero k = record { none = λ w start near v c f p. f }
      at (suc n) k = no_list (type_at ns n i) (let l : 0 < suc n = omega arith in l) k

  -- no bag begins
  pub bag_refused : (ns : List TypeNode) (place : ℕ) (z : Sizes) (i : ℕ) (m : ℕ) {y : Size} {a failed : S} {x : DecodeError} → y ≡ size_of z → slice_get ns place ≡ Some (SetOf z i) →
      NoLevel step few (asks_bag y (members_of Unbounded)) m a failed x → NoValue step few (type_at ns m place) a failed x
  unfolding Fits
  bag_refused ns place z i m {y} {a} {failed} {x} q e k =
      subst (λ (o : Option TypeNode). NoValue step few (type_of ns m o) a failed x) (sym e) (at m (subst (λ (y : Size). NoLevel step few (asks_bag y (members_of Unbounded)) m a failed x) q k))
    where
      at : (m : ℕ) → NoLevel step few (asks_bag (size_of z) (members_of Unbounded)) m a failed x → NoValue step few (type_of ns m (Some (SetOf z i))) a failed x
      at zero k = record { none = λ w start near v c f p. f }
      at (suc n) k = no_bag (type_at ns n i) (let l : 0 < suc n = omega arith in l) k

  module _ (one : OneRecord step) {within : S → S → S → Type 0} (carries : CarriesMembers step few within) where
    -- a list begins
    pub list_opened : (ns : List TypeNode) (place : ℕ) (z : Sizes) (i : ℕ) (m n begins : ℕ) (old new : List Event) {y : Size} {a b : S} → ((a : S) (z : Size) (h : Counts) (k : ℕ) (b : S) →
        step a (list_begins z h k) b → is_count_within h k ≡ true) → y ≡ size_of z → slice_get ns place ≡ Some (SequenceOf z i) → m ≡ n + 1 →
        ((k : ℕ) → is_count_within (members_of Unbounded) k ≡ true → step a (list_begins y (members_of Unbounded) k) b) → new ≡ old ++ ListBegins place 0 ∷ [] → begins ≡ length old →
        Begun step few within (type_at ns m place) (pending_members ns n (λ k. list_record (slice_get ns place) k) (members_in (slice_get ns place)) begins 0) a b (records_of ns old)
        (records_of ns new)
    list_opened ns place z i m n begins old new {y} {a} {b} law q e l h k j =
        let r : record_of ns (ListBegins place 0) ≡ list_begins (size_of z) (members_of Unbounded) 0 = ap (λ o. list_record o 0) e in
        let t : records_of ns new ≡ records_of ns old ++ list_begins (size_of z) (members_of Unbounded) 0 ∷ [] =
        kept_one ns old new (ListBegins place 0) k ∙ ap (λ o. records_of ns old ++ o ∷ []) r in
        let h2 = subst (λ (y : Size). (k : ℕ) → is_count_within (members_of Unbounded) k ≡ true → step a (list_begins y (members_of Unbounded) k) b) q h in
        let w : Begun step few within (type_of ns (suc n) (Some (SequenceOf z i))) (pending_members ns n (λ k. list_record (Some (SequenceOf z i)) k) (Some i) begins 0) a b (records_of ns old)
        (records_of ns new) =
        list_begun one carries law h2 t (j ∙ sym (records_counted ns old)) in
        let v : Begun step few within (type_of ns m (Some (SequenceOf z i))) (pending_members ns n (λ k. list_record (Some (SequenceOf z i)) k) (Some i) begins 0) a b (records_of ns old)
        (records_of ns new) =
        subst (λ (m : ℕ). Begun step few within (type_of ns m (Some (SequenceOf z i))) (pending_members ns n (λ k. list_record (Some (SequenceOf z i)) k) (Some i) begins 0) a b
        (records_of ns old) (records_of ns new))
        (let g : suc n ≡ m = omega arith in g) w in
        subst (λ (o : Option TypeNode). Begun step few within (type_of ns m o) (pending_members ns n (λ k. list_record o k) (members_in o) begins 0) a b (records_of ns old) (records_of ns new))
        (sym e) v

    -- a bag begins
    pub bag_opened : (ns : List TypeNode) (place : ℕ) (z : Sizes) (i : ℕ) (m n begins : ℕ) (old new : List Event) {y : Size} {a b : S} → ((a : S) (z : Size) (h : Counts) (k : ℕ) (b : S) →
        step a (bag_begins z h k) b → is_count_within h k ≡ true) → y ≡ size_of z → slice_get ns place ≡ Some (SetOf z i) → m ≡ n + 1 →
        ((k : ℕ) → is_count_within (members_of Unbounded) k ≡ true → step a (bag_begins y (members_of Unbounded) k) b) → new ≡ old ++ ListBegins place 0 ∷ [] → begins ≡ length old →
        Begun step few within (type_at ns m place) (pending_members ns n (λ k. list_record (slice_get ns place) k) (members_in (slice_get ns place)) begins 0) a b (records_of ns old)
        (records_of ns new)
    bag_opened ns place z i m n begins old new {y} {a} {b} law q e l h k j =
        let r : record_of ns (ListBegins place 0) ≡ bag_begins (size_of z) (members_of Unbounded) 0 = ap (λ o. list_record o 0) e in
        let t : records_of ns new ≡ records_of ns old ++ bag_begins (size_of z) (members_of Unbounded) 0 ∷ [] =
        kept_one ns old new (ListBegins place 0) k ∙ ap (λ o. records_of ns old ++ o ∷ []) r in
        let h2 = subst (λ (y : Size). (k : ℕ) → is_count_within (members_of Unbounded) k ≡ true → step a (bag_begins y (members_of Unbounded) k) b) q h in
        let w : Begun step few within (type_of ns (suc n) (Some (SetOf z i))) (pending_members ns n (λ k. list_record (Some (SetOf z i)) k) (Some i) begins 0) a b (records_of ns old)
        (records_of ns new) =
        bag_begun one carries law h2 t (j ∙ sym (records_counted ns old)) in
        let v : Begun step few within (type_of ns m (Some (SetOf z i))) (pending_members ns n (λ k. list_record (Some (SetOf z i)) k) (Some i) begins 0) a b (records_of ns old)
        (records_of ns new) =
        subst (λ (m : ℕ). Begun step few within (type_of ns m (Some (SetOf z i))) (pending_members ns n (λ k. list_record (Some (SetOf z i)) k) (Some i) begins 0) a b (records_of ns old)
        (records_of ns new))
        (let g : suc n ≡ m = omega arith in g) w in
        subst (λ (o : Option TypeNode). Begun step few within (type_of ns m o) (pending_members ns n (λ k. list_record o k) (members_in o) begins 0) a b (records_of ns old) (records_of ns new))
        (sym e) v

    -- ---- a turn of a list, whose elements have the type at i
    module _ (ns : List TypeNode) (n : ℕ) (f : ℕ → Record) (begins count : ℕ) (i : ℕ) {o : Option ℕ} (e : o ≡ Some i) where
      pub further_refused : {a failed : S} {x : DecodeError} (K : List Record) → NoRecord step few asks_further a failed x → Stuck step few within (pending_members ns n f o begins count) K a failed x
      further_refused {a} {failed} {x} K u = subst (λ (o : Option ℕ). Stuck step few within (pending_members ns n f o begins count) K a failed x) (sym e) (further_stuck one carries u)

      pub member_refused : {a b : S} (failed : S) (x : DecodeError) (K : List Record) → count ≡ 2 ^ 64 - 1 → step a (further true) b → Stuck step few within
          (pending_members ns n f o begins count) K a failed x
      member_refused {a} {b} failed x K k m = subst (λ (o : Option ℕ). Stuck step few within (pending_members ns n f o begins count) K a failed x) (sym e)
          (full_stuck one carries failed x (not_held count k) m)

      pub close_refused : {a b failed : S} {x : DecodeError} → step a (further false) b → NoRecord step few asks_end b failed x →
          (K : List Record) → Stuck step few within (pending_members ns n f o begins count) K a failed x
      close_refused {a} {b} {failed} {x} m u K = subst (λ (o : Option ℕ). Stuck step few within (pending_members ns n f o begins count) K a failed x) (sym e) (close_stuck one carries m u)

      pub member_comes : {a b : S} (old new : List Event) → AreLawful ns → step a (further true) b → new ≡ old ++ Further true ∷ [] →
          Awaits step few within (pending_members ns n f o begins count) (pending_members ns n f o begins (count + 1)) (type_at ns n i) a b (records_of ns old) (records_of ns new)
      member_comes {a} {b} old new lawful m k =
          subst (λ (o : Option ℕ). Awaits step few within (pending_members ns n f o begins count) (pending_members ns n f o begins (count + 1)) (type_at ns n i) a b (records_of ns old)
          (records_of ns new)) (sym e)
          (member_awaited one carries (lawful n i) m (kept_one ns old new (Further true) k))

    module _ (ns : List TypeNode) (n list begins count : ℕ) (i : ℕ) (e : members_in (slice_get ns list) ≡ Some i) where
      pub list_ends : {a : S} (b : S) {c : S} (es es1 es2 es3 : List Event) → count < 2 ^ 64 → step a (further false) b → es1 ≡ es ++ Further false ∷ [] → step b ends c → es2 ≡ es1 ++ Ended ∷ [] →
          es3 ≡ set es2 begins (ListBegins list count) → Ends step (pending_members ns n (λ k. list_record (slice_get ns list) k) (members_in (slice_get ns list)) begins count) a c
          (records_of ns es) (records_of ns es3)
      list_ends {a} b {c} es es1 es2 es3 l m k p q t =
          let s : records_of ns es3 ≡ set (records_of ns es2) begins (list_record (slice_get ns list) count) = ap (λ es. records_of ns es) t ∙ records_set ns es2 begins (ListBegins list count) in
          subst (λ (o : Option ℕ). Ends step (pending_members ns n (λ k. list_record (slice_get ns list) k) o begins count) a c (records_of ns es) (records_of ns es3)) (sym e)
          (last_told b m (kept_one ns es es1 (Further false) k) p (kept_one ns es1 es2 Ended q) s (within_held count l))

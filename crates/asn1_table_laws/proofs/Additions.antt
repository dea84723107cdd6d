-- The additions of a sequence, one after another, and its end.
use Rattle.std.proofs.Common.{◌≡◌, ◌∙◌, refl, sym, ap, subst, ℕ, Bool, true, false, List, [], ◌∷◌, ◌++◌, length}
use Rattle.asn1_model.specs.Value.{Value, Parts, end, absent, present}
use Rattle.asn1_model.specs.Schema.{Tag, Presence, Schema, Components, no_component, component}
use Rattle.asn1_model.specs.Normal.{normal, normal_parts, is_required}
use Rattle.asn1_schema_errors.specs.declared.DecodeError.{DecodeError}
use Rattle.asn1_schema_laws.specs.Records.{Record, addition, addition_ends, ends, asks_addition, asks_end}
use Rattle.asn1_schema_laws.specs.Presents.{Part, left_out, there, with_part, presents, noted, addition_records, added_records, Fits, PartsFit}
use Rattle.asn1_schema_laws.specs.Parts.{normal_part}
use Rattle.asn1_schema_laws.specs.Chains.{Chain, OneRecord}
use Rattle.asn1_schema_laws.proofs.Chains.{chain_append, chain_split}
use Rattle.asn1_schema_laws.proofs.OneValue.{one_value}
use Rattle.asn1_schema_laws.proofs.Values.{normal_field}
use Rattle.asn1_schema_lacking_laws.specs.Carried.{CarriesRecords, CarriesValues}
use Rattle.asn1_schema_decode.specs.Reads.{NoRecord}
use Rattle.asn1_table_laws.specs.Walks.{Told, NoValue, EndsAdded, EndsInside, StuckAdded, StuckInside, added, inside, Passes, Awaits}
use Rattle.asn1_table_laws.proofs.Lists.{behind}

-- an addition before the others
added_with : (t : List Tag) (o : Presence) (s : Schema) (cs : Components) (x : Part) (ps : Parts) →
    added_records (component t o s cs) (with_part x ps) ≡ addition_records (λ v. presents s v) o s x ++ added_records cs ps
unfolding added_records
added_with t o s cs left_out ps = refl
added_with t o s cs (there v) ps = refl

-- what is first asked of additions
first_addition : {S : Type 0} (step : S → Record → S → Type 0) (t : List Tag) (o : Presence) (s : Schema) (cs : Components) (qs : Parts) (a c : S) → PartsFit (component t o s cs) qs →
    Chain step (added_records (component t o s cs) qs) a c → (y : Bool) × (m : S) × step a (addition y) m
unfolding PartsFit added_records
first_addition step t o s cs end a c f p = absurd f
first_addition step t o s cs (absent qs) a c f p = let q : Chain step (addition false ∷ added_records cs qs) a c = rw f.0 at p in (false, q.0, q.1)
first_addition step t o s cs (present v qs) a c f p = (true, p.0, p.1)

added_end : {S : Type 0} (step : S → Record → S → Type 0) (qs : Parts) (a c : S) → PartsFit no_component qs → Chain step (added_records no_component qs) a c → (m : S) × step a ends m
unfolding PartsFit added_records
added_end step end a c f p = (p.0, p.1)
added_end step (absent qs) a c f p = absurd f
added_end step (present v qs) a c f p = absurd f

module _ {S : Type 0} {step : S → Record → S → Type 0} where
  absent_told : {t : List Tag} {o : Presence} {s : Schema} {cs : Components} {a b c : S} {K K1 K2 : List Record} → is_required o ≡ false → step a (addition false) b →
      K1 ≡ K ++ addition false ∷ [] → EndsAdded step cs b c K1 K2 → EndsAdded step (component t o s cs) a c K K2
  unfolding PartsFit added_records normal_parts
  absent_told {cs = cs} {b = b} {K = K} q m k r = record {
    raw = absent r.raw;
    fits = (q, r.fits);
    chain = rw q (b, m, r.chain);
    kept = rw q (behind K (addition false ∷ []) (added_records cs (normal_parts cs r.raw)) k r.kept);
  }

  value_told : {t : List Tag} {o : Presence} {s : Schema} {cs : Components} {place : ℕ} {a b c d : S} {K K1 K2 K3 : List Record} → place ≡ length K → step a (addition true) b →
      K1 ≡ K ++ addition true ∷ [] → Told step s b c K1 K2 → EndsInside step o s place cs c d K2 K3 → EndsAdded step (component t o s cs) a d K K3
  unfolding PartsFit
  value_told {t} {o} {s} {cs} {place} {a} {b} {c} {d} {K} {K1} {K2} {K3} j m k h r =
      let n = r.of_each K h.raw (sym j) h.fits (behind K (addition true ∷ []) (presents s (normal s h.raw)) k h.kept) in
      let records = addition_records (λ v. presents s v) o s (normal_part o s (there h.raw)) in
      let read : Chain step (addition_records (λ v. presents s v) o s (there h.raw)) a n.behind =
      (b, m, chain_append step (presents s h.raw) (addition_ends ∷ noted o s h.raw) b c n.behind h.chain n.notes) in
      record {
        raw = present h.raw n.rest.raw;
        fits = (h.fits, n.rest.fits);
        chain = subst (λ rs. Chain step rs a d) (sym (added_with t o s cs (there h.raw) n.rest.raw))
            (chain_append step (addition_records (λ v. presents s v) o s (there h.raw)) (added_records cs n.rest.raw) a n.behind d read n.rest.chain);
        kept = behind K records (added_records cs (normal_parts cs n.rest.raw)) refl n.rest.kept
            ∙ ap (λ rs. K ++ rs) (sym (ap (λ ps. added_records (component t o s cs) ps) (normal_field t o s cs (there h.raw) n.rest.raw)
            ∙ added_with t o s cs (normal_part o s (there h.raw)) (normal_parts cs n.rest.raw)));
      }

  -- the end
  pub added_ends : {a b : S} {K K1 : List Record} → step a ends b → K1 ≡ K ++ ends ∷ [] → EndsAdded step no_component a b K K1
  unfolding PartsFit added_records normal_parts
  added_ends {b = b} m k = record { raw = end; fits = tt; chain = (b, m, refl); kept = k }

  module _ {few : S → S → S → Type 0} where
    pub end_stuck : {a failed : S} {x : DecodeError} → NoRecord step few asks_end a failed x → StuckAdded step few no_component a failed x
    end_stuck u = record { none = λ w start near qs c f p. let q = added_end step qs start c f p in u.none w start near ends q.0 refl q.1 }

    pub addition_stuck : {t : List Tag} {o : Presence} {s : Schema} {cs : Components} {a failed : S} {x : DecodeError} → NoRecord step few asks_addition a failed x →
        StuckAdded step few (component t o s cs) a failed x
    addition_stuck {t} {o} {s} {cs} u = record { none = λ w start near qs c f p. let q = first_addition step t o s cs qs start c f p in u.none w start near (addition q.0) q.1 refl q.2 }

  module _ (one : OneRecord step) where
    true_addition : (t : List Tag) (o : Presence) (s : Schema) (cs : Components) (qs : Parts) {a b : S} (c : S) → step a (addition true) b → PartsFit (component t o s cs) qs →
        Chain step (added_records (component t o s cs) qs) a c →
        (v : Value) × (rs : Parts) × Fits s v × PartsFit cs rs × Chain step ((presents s v ++ (addition_ends ∷ noted o s v)) ++ added_records cs rs) b c
    unfolding PartsFit added_records
    true_addition t o s cs end c m f p = absurd f
    true_addition t o s cs (absent qs) {a} {b} c m f p =
        let q : Chain step (addition false ∷ added_records cs qs) a c = rw f.0 at p in
        let e : addition false ≡ addition true = (one a (addition false) (addition true) q.0 b refl q.1 m).0 in
        cc
    true_addition t o s cs (present v qs) {a} {b} c m f p = (
      v,
      qs,
      f.0,
      f.1,
      subst (λ (z : S). Chain step ((presents s v ++ (addition_ends ∷ noted o s v)) ++ added_records cs qs) z c)
          (one a (addition true) (addition true) p.0 b refl p.1 m).1 p.2,
    )

    false_addition : (t : List Tag) (o : Presence) (s : Schema) (cs : Components) (qs : Parts) {a b : S} (c : S) → step a (addition false) b → PartsFit (component t o s cs) qs →
        Chain step (added_records (component t o s cs) qs) a c → (is_required o ≡ false) × (rs : Parts) × PartsFit cs rs × Chain step (added_records cs rs) b c
    unfolding PartsFit added_records
    false_addition t o s cs end c m f p = absurd f
    false_addition t o s cs (absent qs) {a} {b} c m f p =
        let q : Chain step (addition false ∷ added_records cs qs) a c = rw f.0 at p in
        (f.0, qs, f.1, subst (λ (z : S). Chain step (added_records cs qs) z c) (one a (addition false) (addition false) q.0 b refl q.1 m).1 q.2)
    false_addition t o s cs (present v qs) {a} {b} c m f p =
        let e : addition true ≡ addition false = (one a (addition true) (addition false) p.0 b refl p.1 m).0 in
        cc

    module _ {few : S → S → S → Type 0} (carries : CarriesRecords step few) where
      absent_passed : {t : List Tag} {o : Presence} {s : Schema} {cs : Components} {a b failed : S} {x : DecodeError} → step a (addition false) b → StuckAdded step few cs b failed x →
          StuckAdded step few (component t o s cs) a failed x
      absent_passed {t} {o} {s} {cs} {a} {b} {failed} m u = record {
        none = λ w start near qs c f p.
            let y = carries (addition false) a b failed start refl m near in
            let q = false_addition t o s cs qs c y.1 f p in
            u.none w y.0 y.2 q.1 c q.2 q.3;
      }

      -- an addition that is absent and required
      pub required_refused : {t : List Tag} {o : Presence} {s : Schema} {cs : Components} {a b : S} (failed : S) (x : DecodeError) → is_required o ≡ true → step a (addition false) b →
          StuckAdded step few (component t o s cs) a failed x
      required_refused {t} {o} {s} {cs} {a} {b} failed x q m = record {
        none = λ w start near qs c f p.
            let y = carries (addition false) a b failed start refl m near in
            let r = false_addition t o s cs qs c y.1 f p in
            let e : true ≡ false = sym q ∙ r.0 in
            cc;
      }

      value_stuck : {t : List Tag} {o : Presence} {s : Schema} {cs : Components} {a b failed : S} {x : DecodeError} → step a (addition true) b →
          NoValue step few s b failed x → StuckAdded step few (component t o s cs) a failed x
      value_stuck {t} {o} {s} {cs} {a} {b} {failed} m u = record {
        none = λ w start near qs c f p.
            let y = carries (addition true) a b failed start refl m near in
            let q = true_addition t o s cs qs c y.1 f p in
            let r = chain_split step (presents s q.0 ++ (addition_ends ∷ noted o s q.0)) (added_records cs q.1) y.0 c q.4 in
            let l = chain_split step (presents s q.0) (addition_ends ∷ noted o s q.0) y.0 r.0 r.1 in
            u.none w y.0 y.2 q.0 l.0 q.2 l.1;
      }

      module _ (values : CarriesValues step few) where
        value_passed : {t : List Tag} {o : Presence} {s : Schema} {cs : Components} {place : ℕ} {a b d failed : S} {x : DecodeError} (K : List Record) {K1 K2 : List Record} → place ≡ length K →
            step a (addition true) b → K1 ≡ K ++ addition true ∷ [] → Told step s b d K1 K2 → StuckInside step few o s place cs K2 d failed x → StuckAdded step few (component t o s cs) a failed x
        value_passed {t} {o} {s} {cs} {place} {a} {b} {d} {failed} {x} K {K1} {K2} j m k h u = record {
          none = λ w start near qs c f p.
              let y = carries (addition true) a b failed start refl m near in
              let z = values s h.raw b d failed y.0 h.chain y.2 in
              let q = true_addition t o s cs qs c y.1 f p in
              let r = chain_split step (presents s q.0 ++ (addition_ends ∷ noted o s q.0)) (added_records cs q.1) y.0 c q.4 in
              let l = chain_split step (presents s q.0) (addition_ends ∷ noted o s q.0) y.0 r.0 r.1 in
              let e = one_value one s q.0 h.raw y.0 l.0 z.0 q.2 h.fits l.1 z.1 in
              let i = subst (λ (v : Value). Chain step (addition_ends ∷ noted o s v) z.0 r.0) e.0 (subst (λ (t : S). Chain step (addition_ends ∷ noted o s q.0) t r.0) e.1 l.2) in
              u.none w K h.raw (sym j) h.fits (behind K (addition true ∷ []) (presents s (normal s h.raw)) k h.kept) z.0 z.2 r.0 i q.1 c q.3 r.2;
        }

        -- ---- turns
        pub absent_passes : {within : S → S → S → Type 0} {t : List Tag} {o : Presence} {s : Schema} {cs : Components} {a b : S} {K K1 : List Record} → is_required o ≡ false →
            step a (addition false) b → K1 ≡ K ++ addition false ∷ [] → Passes step few within (added (component t o s cs)) (added cs) a b K K1
        absent_passes q m k = record { done = λ c more r. absent_told q m k r; stuck = λ failed x u. absent_passed m u }

        pub value_awaited : {within : S → S → S → Type 0} {t : List Tag} {o : Presence} {s : Schema} {cs : Components} {place : ℕ} {a b : S} {K K1 : List Record} → place ≡ length K →
            step a (addition true) b → K1 ≡ K ++ addition true ∷ [] → Awaits step few within (added (component t o s cs)) (inside o s place cs) s a b K K1
        value_awaited {K = K} j m k = record {
          passes = λ c more h. record { done = λ d end r. value_told j m k h r; stuck = λ failed x u. value_passed K j m k h u };
          stuck = λ failed x u. value_stuck m u;
        }

-- A choice: its beginning, the value of the chosen alternative, and its end.
use Rattle.std.proofs.Common.{◌≡◌, ◌∙◌, refl, sym, ap, subst, ℕ, zero, suc, ◌<◌, Bool, true, false, cond, List, [], ◌∷◌, ◌++◌, Option, Some, None}
use Rattle.asn1_model.specs.Value.{Value, chosen as chosen_value}
use Rattle.asn1_model.specs.Schema.{Schema, choice, Alternatives, no_alternative, alternative}
use Rattle.asn1_model.specs.Normal.{normal, normal_alternative}
use Rattle.asn1_model.specs.Lawful.{alternative_tags}
use Rattle.asn1_schema_errors.specs.declared.DecodeError.{DecodeError}
use Rattle.asn1_schema_laws.specs.Records.{Record, choice_begins, ends, asks_choice, asks_end}
use Rattle.asn1_schema_laws.specs.Presents.{presents, chosen_records, Fits, ChosenFits}
use Rattle.asn1_schema_laws.specs.Chains.{Chain, OneRecord}
use Rattle.asn1_schema_laws.proofs.Chains.{chain_append, chain_split}
use Rattle.asn1_schema_laws.proofs.OneValue.{one_value}
use Rattle.asn1_schema_lacking_laws.specs.Carried.{CarriesRecords, CarriesValues}
use Rattle.asn1_schema_decode.specs.Reads.{NoRecord, NoLevel}
use Rattle.asn1_table_laws.specs.Walks.{Told, NoValue, chosen, closing, EndsChosen, EndsClosing, StuckChosen, StuckClosing, Begun, Awaits}
use Rattle.asn1_table_laws.proofs.Lists.{behind}

-- ---- the alternative at an index

-- The type of an alternative, if there is one.
abbrev pub type_in : Alternatives → ℕ → Option Schema
type_in no_alternative i = None
type_in (alternative t s others) zero = Some s
type_in (alternative t s others) (suc i) = type_in others i

same_type : {s t : Schema} → Some s ≡ Some t → s ≡ t
same_type e = cc

pub records_in : (xs : Alternatives) (i : ℕ) (s : Schema) (v : Value) → type_in xs i ≡ Some s → chosen_records xs i v ≡ presents s v ++ (ends ∷ [])
unfolding chosen_records
records_in no_alternative i s v e = absurd (let z : None ≡ Some s = e in cc)
records_in (alternative t u xs) zero s v e = ap (λ w. presents w v ++ (ends ∷ [])) (same_type e)
records_in (alternative t u xs) (suc i) s v e = records_in xs i s v e

pub normal_in : (xs : Alternatives) (i : ℕ) (s : Schema) (v : Value) → type_in xs i ≡ Some s → normal_alternative xs i v ≡ normal s v
unfolding normal_alternative
normal_in no_alternative i s v e = absurd (let z : None ≡ Some s = e in cc)
normal_in (alternative t u xs) zero s v e = ap (λ w. normal w v) (same_type e)
normal_in (alternative t u xs) (suc i) s v e = normal_in xs i s v e

pub fits_in : (xs : Alternatives) (i : ℕ) (s : Schema) (v : Value) → type_in xs i ≡ Some s → Fits s v → ChosenFits xs i v
unfolding ChosenFits
fits_in no_alternative i s v e f = absurd (let z : None ≡ Some s = e in cc)
fits_in (alternative t u xs) zero s v e f = subst (λ (w : Schema). Fits w v) (sym (same_type e)) f
fits_in (alternative t u xs) (suc i) s v e f = fits_in xs i s v e f

pub fits_there : (xs : Alternatives) (i : ℕ) (s : Schema) (v : Value) → type_in xs i ≡ Some s → ChosenFits xs i v → Fits s v
unfolding ChosenFits
fits_there no_alternative i s v e f = absurd f
fits_there (alternative t u xs) zero s v e f = subst (λ (w : Schema). Fits w v) (same_type e) f
fits_there (alternative t u xs) (suc i) s v e f = fits_there xs i s v e f

-- ---- a choice by its alternatives

module _ (roots : Alternatives) (e : Bool) (adds : Alternatives) where
  -- the record with which it begins
  abbrev pub begins : Bool → ℕ → Record
  begins c i = choice_begins (alternative_tags roots) e (alternative_tags adds) c i

  -- the alternatives of the root, or the added ones
  abbrev pub side : Bool → Alternatives
  side c = cond c adds roots

  value_records : (c : Bool) (i : ℕ) (s : Schema) (v : Value) → type_in (side c) i ≡ Some s →
      presents (choice roots e adds) (chosen_value c i v) ≡ begins c i ∷ (presents s v ++ (ends ∷ []))
  unfolding presents
  value_records false i s v t = ap (λ rs. begins false i ∷ rs) (records_in roots i s v t)
  value_records true i s v t = ap (λ rs. begins true i ∷ rs) (records_in adds i s v t)

  value_fits : (c : Bool) (i : ℕ) (s : Schema) (v : Value) → type_in (side c) i ≡ Some s → Fits s v → Fits (choice roots e adds) (chosen_value c i v)
  unfolding Fits
  value_fits false i s v t f = fits_in roots i s v t f
  value_fits true i s v t f = fits_in adds i s v t f

  value_normal : (c : Bool) (i : ℕ) (s : Schema) (v : Value) → type_in (side c) i ≡ Some s →
      normal (choice roots e adds) (chosen_value c i v) ≡ chosen_value c i (normal s v)
  unfolding normal
  value_normal false i s v t = ap (λ w. chosen_value false i w) (normal_in roots i s v t)
  value_normal true i s v t = ap (λ w. chosen_value true i w) (normal_in adds i s v t)

  module _ {S : Type 0} (step : S → Record → S → Type 0) where
    -- what the records of a value are, from its beginning on
    some_begins : (v : Value) (a c : S) → Fits (choice roots e adds) v → Chain step (presents (choice roots e adds) v) a c →
        (d : Bool) × (j : ℕ) × (u : Value) × (m : S) × step a (begins d j) m × ChosenFits (side d) j u × Chain step (chosen_records (side d) j u) m c
    unfolding presents Fits
    some_begins v a c = elim v as (λ v. Fits (choice roots e adds) v → Chain step (presents (choice roots e adds) v) a c →
        (d : Bool) × (j : ℕ) × (u : Value) × (m : S) × step a (begins d j) m × ChosenFits (side d) j u × Chain step (chosen_records (side d) j u) m c) [
          | chosen_value d j u ↦ elim d as (λ d. Fits (choice roots e adds) (chosen_value d j u) → Chain step (presents (choice roots e adds) (chosen_value d j u)) a c →
              (d : Bool) × (j : ℕ) × (u : Value) × (m : S) × step a (begins d j) m × ChosenFits (side d) j u × Chain step (chosen_records (side d) j u) m c) [
                | false ↦ λ f p. (false, j, u, p.0, p.1, f, p.2)
                | true ↦ λ f p. (true, j, u, p.0, p.1, f, p.2)
              ]
          | _ ↦ λ f p. absurd f
        ]

  module _ {S : Type 0} {step : S → Record → S → Type 0} where
    -- no choice begins
    pub no_choice : {few : S → S → S → Type 0} {m : ℕ} {a failed : S} {x : DecodeError} → 0 < m → NoLevel step few (asks_choice (alternative_tags roots) e (alternative_tags adds)) m a failed x →
        NoValue step few (choice roots e adds) a failed x
    no_choice l u = record {
      none = λ w start near v c f p.
          let q = some_begins step v start c f p in
          u.none w start near l (begins q.0 q.1) q.3 refl q.4;
    }

    -- a choice begins
    chosen_told : (c : Bool) (i : ℕ) (s : Schema) {a b d : S} {K K1 K2 : List Record} → type_in (side c) i ≡ Some s → step a (begins c i) b → K1 ≡ K ++ begins c i ∷ [] →
        EndsChosen step s b d K1 K2 → Told step (choice roots e adds) a d K K2
    chosen_told c i s {a} {b} {d} {K} {K1} {K2} t m k r = record {
      raw = chosen_value c i r.raw;
      fits = value_fits c i s r.raw t r.fits;
      chain = subst (λ rs. Chain step rs a d) (sym (value_records c i s r.raw t)) (b, m, r.chain);
      kept = behind K (begins c i ∷ []) (presents s (normal s r.raw) ++ (ends ∷ [])) k r.kept
          ∙ ap (λ rs. K ++ rs) (sym (ap (λ v. presents (choice roots e adds) v) (value_normal c i s r.raw t) ∙ value_records c i s (normal s r.raw) t));
    }

    module _ (one : OneRecord step) {few : S → S → S → Type 0} (carries : CarriesRecords step few) where
      chosen_stuck : (c : Bool) (i : ℕ) (s : Schema) {a b failed : S} {x : DecodeError} → type_in (side c) i ≡ Some s → step a (begins c i) b → StuckChosen step few s b failed x →
          NoValue step few (choice roots e adds) a failed x
      chosen_stuck c i s {a} {b} {failed} t m u = record {
        none = λ w start near v d f p.
            let y = carries (begins c i) a b failed start refl m near in
            let q = some_begins step v start d f p in
            let l = one start (begins q.0 q.1) (begins c i) q.3 y.0 refl q.4 y.1 in
            let same_side : q.0 ≡ c = cc l.0 in
            let same_index : q.1 ≡ i = cc l.0 in
            let there : type_in (side q.0) q.1 ≡ Some s = ap (λ g. type_in (side g) q.1) same_side ∙ ap (λ (j : ℕ). type_in (side c) j) same_index ∙ t in
            let rest : Chain step (presents s q.2 ++ (ends ∷ [])) y.0 d =
            subst (λ (z : S). Chain step (presents s q.2 ++ (ends ∷ [])) z d) l.1 (subst (λ rs. Chain step rs q.3 d) (records_in (side q.0) q.1 s q.2 there) q.6) in
            u.none w y.0 y.2 q.2 d (fits_there (side q.0) q.1 s q.2 there q.5) rest;
      }

      pub choice_begun : {within : S → S → S → Type 0} (c : Bool) (i : ℕ) (s : Schema) {a b : S} {K K1 : List Record} → type_in (side c) i ≡ Some s → step a (begins c i) b → K1 ≡ K ++ begins c i
          ∷ [] →
          Begun step few within (choice roots e adds) (chosen s) a b K K1
      choice_begun c i s t m k = record { done = λ d more r. chosen_told c i s t m k r; stuck = λ failed x u. chosen_stuck c i s t m u }

-- ---- the value of the chosen alternative, and the end

module _ {S : Type 0} {step : S → Record → S → Type 0} where
  value_told : (s : Schema) {a b c : S} {K K1 K2 : List Record} → Told step s a b K K1 → EndsClosing step b c K1 K2 → EndsChosen step s a c K K2
  value_told s {a} {b} {c} {K} {K1} {K2} t r = record {
    raw = t.raw;
    fits = t.fits;
    chain = chain_append step (presents s t.raw) (ends ∷ []) a b c t.chain (c, r.ended, refl);
    kept = behind K (presents s (normal s t.raw)) (ends ∷ []) t.kept r.kept;
  }

  -- the value is not next
  pub value_stuck : {few : S → S → S → Type 0} (s : Schema) {a failed : S} {x : DecodeError} → NoValue step few s a failed x → StuckChosen step few s a failed x
  value_stuck s u = record {
    none = λ w start near v c f p.
        let q = chain_split step (presents s v) (ends ∷ []) start c p in
        u.none w start near v q.0 f q.1;
  }

  -- the end is not next
  end_missing : {few : S → S → S → Type 0} (one : OneRecord step) → CarriesValues step few → (s : Schema) {a b failed : S} {x : DecodeError} {K K1 : List Record} → Told step s a b K K1 →
      StuckClosing step few b failed x →
      StuckChosen step few s a failed x
  end_missing one values s {a} {b} {failed} t u = record {
    none = λ w start near v c f p.
        let y = values s t.raw a b failed start t.chain near in
        let q = chain_split step (presents s v) (ends ∷ []) start c p in
        let l = one_value one s v t.raw start q.0 y.0 f t.fits q.1 y.1 in
        let z = subst (λ (z : S). Chain step (ends ∷ []) z c) l.1 q.2 in
        u.none w y.0 y.2 z.0 z.1;
  }

  -- one turn at the value: it comes
  pub chosen_awaited : {few : S → S → S → Type 0} (one : OneRecord step) → CarriesValues step few → {within : S → S → S → Type 0} (s : Schema) {a : S} {K : List Record} → Awaits step few within
      (chosen s) closing s a a K K
  chosen_awaited one values s = record {
    passes = λ b more t. record { done = λ c end r. value_told s t r; stuck = λ failed x u. end_missing one values s t u };
    stuck = λ failed x u. value_stuck s u;
  }

  -- the end
  pub choice_ends : {a b : S} {K K1 : List Record} → step a ends b → K1 ≡ K ++ ends ∷ [] → EndsClosing step a b K K1
  choice_ends m k = record { ended = m; kept = k }

  pub close_stuck : {few : S → S → S → Type 0} {a failed : S} {x : DecodeError} → NoRecord step few asks_end a failed x → StuckClosing step few a failed x
  close_stuck u = record { none = λ w start near new m. u.none w start near ends new refl m }

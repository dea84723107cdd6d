-- How a choice is decoded.
use Rattle.std.proofs.Common.{◌≡◌, ℕ, ◌+◌, ◌<◌, zero, suc, Bool, [], ◌∷◌, ◌++◌, refl, subst, sym, ◌∙◌, ap, arith}
use Rattle.asn1_model.specs.Value.{Value, chosen}
use Rattle.asn1_model.specs.Schema.{Schema, choice}
use Rattle.asn1_schema_errors.specs.declared.DecodeError.{DecodeError}
use Rattle.asn1_schema_laws.specs.Records.{Record, asks_end, ends}
use Rattle.asn1_schema_laws.specs.Presents.{presents, Fits}
use Rattle.asn1_schema_laws.specs.Tables.{scope}
use Rattle.asn1_schema_laws.specs.Chains.{Chain, OneRecord}
use Rattle.asn1_schema_laws.proofs.Chains.{chain_append, chain_split}
use Rattle.asn1_schema_laws.proofs.OneValue.{one_value}
use Rattle.asn1_schema_decode.proofs.Carrying.{reads_near}
use Rattle.asn1_schema_decode.specs.Reads.{NoRecord, NoLevel, Reads, Unread}
use Rattle.asn1_schema_lacking_laws.specs.Carried.{CarriesRecords, CarriesValues}
use Rattle.asn1_schema_decode.proofs.Reading.{reads_as, unread_as}
use Rattle.asn1_schema_tags.specs.declared.chosen.Chosen.{Chosen}
use Rattle.asn1_schema_constructed.specs.Tables.{Choices, alternatives_at, side, type_at, choice_type}
use Rattle.asn1_schema_constructed.specs.Chosen.{begins, asks, chosen_type, chosen_value}
use Rattle.asn1_schema_constructed.proofs.Types.{one_fits, one_normal}
use Rattle.asn1_schema_constructed.proofs.Records.{chosen_fits, choice_records}

module _ {S : Type 0} (step : S → Record → S → Type 0) (t : Choices) where
  reads_choice : (b : Bool) (i : ℕ) {m n : ℕ} {v : Value} {a p q d : S} → m ≡ n + 1 → step a (begins t b i) p →
      Reads step (type_at (side t b) i) n v p q → step q ends d → Reads step (choice_type t) m (chosen b i v) a d
  unfolding choice_type scope
  reads_choice b i {m} {n} {v} {a} {p} {q} {d} l h r z =
      let y : Reads step (choice_type t) (suc n) (chosen b i v) a d = record {
        raw = chosen b i r.raw;
        fits = one_fits t b i n r.raw r.fits;
        means = one_normal t b i n r.raw ∙ ap (λ w. chosen b i w) r.means;
        chain = subst (λ rs. Chain step rs a d) (sym (choice_records t b i n r.raw r.fits)) (p, h, chain_append step (presents (type_at (side t b) i n) r.raw) (ends ∷ []) p q d r.chain (d, z, refl));
      } in
      subst (λ (k : ℕ). Reads step (choice_type t) k (chosen b i v) a d) (let e : suc n ≡ m = omega arith in e) y

  -- no value is read where no records are next
  module _ (n : ℕ) (a : S) (k : (b : Bool) (i : ℕ) (v : Value) (c p : S) → Fits (type_at (side t b) i n) v → step a (begins t b i) p →
      Chain step (presents (type_at (side t b) i n) v ++ (ends ∷ [])) p c → ⊥) where
    none_next : (v : Value) (c : S) → Fits (choice_type t (suc n)) v → Chain step (presents (choice_type t (suc n)) v) a c → ⊥
    unfolding choice_type scope Fits
    none_next v c = elim v as (λ v. Fits (choice (alternatives_at n t.root) t.extensible (alternatives_at n t.additions)) v →
        Chain step (presents (choice (alternatives_at n t.root) t.extensible (alternatives_at n t.additions)) v) a c → ⊥) [
          | chosen b i u ↦ λ f r.
              let g = chosen_fits t b i n u f in
              let s = subst (λ rs. Chain step rs a c) (choice_records t b i n u g) r in
              k b i u c s.0 g s.1 s.2
          | _ ↦ λ f r. f
        ]

  unread_choice_here : (m : ℕ) {few : S → S → S → Type 0} {a failed : S} {x : DecodeError} → NoLevel step few (asks t) m a failed x → Unread step few (choice_type t) m a failed x
  unfolding choice_type scope Fits
  unread_choice_here zero h = record { none = λ w start near v c f r. f }
  unread_choice_here (suc n) h = record { none = λ w start near. none_next n start (λ b i v c p g s r. h.none w start near (let z : 0 < suc n = omega arith in z) (begins t b i) p refl s) }

  module _ (one : OneRecord step) (b : Bool) (i : ℕ) (n : ℕ) {a p : S} (h : step a (begins t b i) p) where
    -- the chosen alternative is the one that begins, and its records are next
    here : (c : Bool) (j : ℕ) (v : Value) (y z : S) → Fits (type_at (side t c) j n) v → step a (begins t c j) z →
        Chain step (presents (type_at (side t c) j n) v ++ (ends ∷ [])) z y → Fits (type_at (side t b) i n) v × Chain step (presents (type_at (side t b) i n) v ++ (ends ∷ [])) p y
    here c j v y z g s r =
        let e = one a (begins t c j) (begins t b i) z p refl s h in
        let eb : c ≡ b = cc e.0 in
        let ei : j ≡ i = cc e.0 in
        let P : Bool → ℕ → S → Type 0 = λ d k u. Fits (type_at (side t d) k n) v × Chain step (presents (type_at (side t d) k n) v ++ (ends ∷ [])) u y in
        subst (λ (d : Bool). P d i p) eb (subst (λ (k : ℕ). P c k p) ei (subst (λ (u : S). P c j u) e.1 (g, r)))

  module _ (one : OneRecord step) {few : S → S → S → Type 0} (carries : CarriesRecords step few) (b : Bool) (i : ℕ) (m n : ℕ) {a p failed : S} (l : m ≡ n + 1) (h : step a (begins t b i) p) where
    deep : {x : DecodeError} → Unread step few (choice_type t) (suc n) a failed x → Unread step few (choice_type t) m a failed x
    deep {x} u = subst (λ (k : ℕ). Unread step few (choice_type t) k a failed x) (let e : suc n ≡ m = omega arith in e) u

    unread_chosen : {x : DecodeError} → Unread step few (type_at (side t b) i) n p failed x → Unread step few (choice_type t) m a failed x
    unread_chosen u = deep (record {
      none = λ w start near.
          let k = carries (begins t b i) a p failed start refl h near in
          none_next n start (λ c j v y z g s r.
          let d = here one b i n k.1 c j v y z g s r in
          let q = chain_split step (presents (type_at (side t b) i n) v) (ends ∷ []) k.0 y d.1 in
          u.none w k.0 k.2 v q.0 d.0 q.1);
    })

    module _ (values : CarriesValues step few) where
      unread_choice_end : {v : Value} {q : S} {x : DecodeError} → Reads step (type_at (side t b) i) n v p q → NoRecord step few asks_end q failed x → Unread step few (choice_type t) m a failed x
      unread_choice_end r u = deep (record {
        none = λ w start near.
            let k = carries (begins t b i) a p failed start refl h near in
            let o = reads_near values r k.2 in
            let x = o.1 in
            none_next n start (λ c j v y z g s q.
            let d = here one b i n k.1 c j v y z g s q in
            let f = chain_split step (presents (type_at (side t b) i n) v) (ends ∷ []) k.0 y d.1 in
            let e = one_value one (type_at (side t b) i n) v x.raw k.0 f.0 o.0 d.0 x.fits f.1 x.chain in
            let j = subst (λ (j : S). Chain step (ends ∷ []) j y) e.1 f.2 in
            u.none w o.0 o.2 ends j.0 refl j.1);
      })

-- the same for a type with these alternatives
module _ {S : Type 0} {step : S → Record → S → Type 0} (t : Choices) {s : ℕ → Schema} (is : (n : ℕ) → s n ≡ choice_type t n) where
  pub reads_begun : (p : Chosen) {m n : ℕ} {v u : Value} {a b q d : S} → v ≡ chosen_value p u → m ≡ n + 1 → step a (begins t p.added p.place) b →
      Reads step (chosen_type t p) n u b q → step q ends d → Reads step s m v a d
  reads_begun p {m} {n} {v} {u} {a} {b} {q} {d} e l h r z = subst (λ w. Reads step s m w a d) (sym e) (reads_as (choice_type t) s is (reads_choice step t p.added p.place l h r z))

  pub unread_begun_here : (m : ℕ) {few : S → S → S → Type 0} {a failed : S} {y : DecodeError} → NoLevel step few (asks t) m a failed y → Unread step few s m a failed y
  unread_begun_here m k = unread_as (choice_type t) s is (unread_choice_here step t m k)

  module _ (one : OneRecord step) {few : S → S → S → Type 0} (carries : CarriesRecords step few) (p : Chosen) {m n : ℕ} {a b failed : S} (l : m ≡ n + 1) (h : step a (begins t p.added p.place) b) where
    pub unread_begun : {y : DecodeError} → Unread step few (chosen_type t p) n b failed y → Unread step few s m a failed y
    unread_begun u = unread_as (choice_type t) s is (unread_chosen step t one carries p.added p.place m n l h u)

    pub unread_begun_end : CarriesValues step few → {u : Value} {q : S} {y : DecodeError} → Reads step (chosen_type t p) n u b q →
        NoRecord step few asks_end q failed y → Unread step few s m a failed y
    unread_begun_end values r k = unread_as (choice_type t) s is (unread_choice_end step t one carries p.added p.place m n l h values r k)

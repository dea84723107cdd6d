-- What is noted of a component that was read, and how it is kept: as its normal form has it.
use Rattle.std.proofs.Common.{◌≡◌, ◌∙◌, refl, sym, ap, subst, ℕ, ◌+◌, Bool, true, false, cond, List, [], ◌∷◌, ◌++◌, drop, length, append_assoc}
use Rattle.std.specs.Prelude.{◌||◌}
use Rattle.std.proofs.Math.ListN.{take}
use Rattle.std.proofs.Math.Seq.{take-append_seam}
use Rattle.asn1_model.specs.Value.{Value, Parts}
use Rattle.asn1_model.specs.Schema.{Presence, Schema, Components}
use Rattle.asn1_model.specs.Normal.{normal, is_required, is_at_default, is_group_left_out, is_empty_group, is_default_by}
use Rattle.asn1_schema_errors.specs.declared.DecodeError.{DecodeError}
use Rattle.asn1_schema_laws.specs.Records.{Record, presence_bit, is_default, is_empty, addition, addition_ends, asks_addition_end}
use Rattle.asn1_schema_laws.specs.Presents.{left_out, there, presents, part_records, addition_records, noted, root_records, added_records, behind_root}
use Rattle.asn1_schema_laws.specs.Presents.{Fits, PartsFit}
use Rattle.asn1_schema_laws.specs.Parts.{normal_part}
use Rattle.asn1_schema_laws.specs.Chains.{Chain, OneRecord}
use Rattle.asn1_schema_laws.proofs.Joined.{nothing_noted, present_records}
use Rattle.asn1_schema_laws.proofs.OneValue.{same_records}
use Rattle.asn1_schema_lacking_laws.specs.Carried.{CarriesRecords}
use Rattle.asn1_schema_decode.specs.Reads.{NoRecord}
use Rattle.asn1_table_laws.specs.Walks.{EndsRoot, EndsAdded, StuckNoting, StuckInside, Notes, NotNoted, noting, root, inside, added, Passes}
use Rattle.asn1_table_laws.proofs.Lists.{drop_after}
use Rattle.asn1_table_laws.proofs.Normal.{normal_twice}

-- ---- in normal form

-- nothing is noted of a normal form that is there
noted_twice : (o : Presence) (s : Schema) (v : Value) → (is_at_default o s v || is_group_left_out s v) ≡ false → noted o s (normal s v) ≡ []
noted_twice o s v e =
    let p = neither (is_at_default o s v) (is_group_left_out s v) e in
    nothing_noted o s (normal s v) (ap (λ w. is_empty_group s w) (normal_twice s v) ∙ p.1) (ap (λ w. is_default_by (λ d. normal s d) o w) (normal_twice s v) ∙ p.0)
  where
    neither : (a b : Bool) → (a || b) ≡ false → (a ≡ false) × (b ≡ false)
    neither true b e = absurd (let z : true ≡ false = e in cc)
    neither false b e = (refl, e)

part_is : (o : Presence) (s : Schema) (v : Value) (b : Bool) → b ≡ (is_at_default o s v || is_group_left_out s v) → normal_part o s (there v) ≡ cond b left_out (there (normal s v))
part_is o s v b q = ap (λ b. cond b left_out (there (normal s v))) (sym q)

-- a value that is kept, and what is kept of it in normal form
root_kept : (o : Presence) (s : Schema) (v : Value) (b : Bool) (kept K K1 : List Record) → b ≡ (is_at_default o s v || is_group_left_out s v) → is_required o ≡ false →
    K ≡ kept ++ presence_bit true ∷ presents s (normal s v) → K1 ≡ cond b (kept ++ presence_bit false ∷ []) K →
    K1 ≡ kept ++ part_records (λ w. presents s w) o s (normal_part o s (there v))
root_kept o s v true kept K K1 q r e k =
    let p : part_records (λ w. presents s w) o s left_out ≡ presence_bit false ∷ [] = rw r refl in
    k ∙ ap (λ rs. kept ++ rs) (sym (ap (λ x. part_records (λ w. presents s w) o s x) (part_is o s v true q) ∙ p))
root_kept o s v false kept K K1 q r e k =
    let p = present_records o s (normal s v) r (noted_twice o s v (sym q)) in
    k ∙ e ∙ ap (λ rs. kept ++ rs) (sym (ap (λ x. part_records (λ w. presents s w) o s x) (part_is o s v false q) ∙ p))

added_kept : (o : Presence) (s : Schema) (v : Value) (b : Bool) (kept K K1 : List Record) → b ≡ (is_at_default o s v || is_group_left_out s v) → (b ≡ true → is_required o ≡ false) →
    K ≡ kept ++ addition true ∷ presents s (normal s v) → K1 ≡ cond b (kept ++ addition false ∷ []) (K ++ addition_ends ∷ []) →
    K1 ≡ kept ++ addition_records (λ w. presents s w) o s (normal_part o s (there v))
added_kept o s v true kept K K1 q r e k =
    let p : addition_records (λ w. presents s w) o s left_out ≡ addition false ∷ [] = rw (r refl) refl in
    k ∙ ap (λ rs. kept ++ rs) (sym (ap (λ x. addition_records (λ w. presents s w) o s x) (part_is o s v true q) ∙ p))
added_kept o s v false kept K K1 q r e k =
    let p : addition_records (λ w. presents s w) o s (there (normal s v)) ≡ addition true ∷ (presents s (normal s v) ++ (addition_ends ∷ [])) =
    ap (λ rs. addition true ∷ (presents s (normal s v) ++ (addition_ends ∷ rs))) (noted_twice o s v (sym q)) in
    k ∙ ap (λ rs. rs ++ addition_ends ∷ []) e ∙ append_assoc kept (addition true ∷ presents s (normal s v)) (addition_ends ∷ [])
    ∙ ap (λ rs. kept ++ rs) (sym (ap (λ x. addition_records (λ w. presents s w) o s x) (part_is o s v false q) ∙ p))

-- ---- what comes after other records
value_kept : (kept K value : List Record) (r : Record) (place : ℕ) → length kept ≡ place → K ≡ kept ++ r ∷ value → drop (place + 1) K ≡ value
value_kept kept K value r place l e = ap (λ rs. drop (place + 1) rs) e ∙ subst (λ (n : ℕ). drop (n + 1) (kept ++ r ∷ value) ≡ value) l (drop_after kept r value)

others_kept : (kept K value : List Record) (r : Record) (place : ℕ) → length kept ≡ place → K ≡ kept ++ r ∷ value → take place K ≡ kept
others_kept kept K value r place l e = ap (λ rs. take place rs) e ∙ subst (λ (n : ℕ). take n (kept ++ r ∷ value) ≡ kept) l (take-append_seam kept (r ∷ value))

module _ {S : Type 0} {step : S → Record → S → Type 0} where
  module _ {few : S → S → S → Type 0} where
    -- ---- refused
    pub noting_stuck : {o : Presence} {s : Schema} {place : ℕ} {cs : Components} {e : Bool} {adds : Components} {a failed : S} {x : DecodeError} {K : List Record} →
        NotNoted step few o s (drop (place + 1) K) a failed x → StuckNoting step few o s place cs e adds K a failed x
    noting_stuck {s = s} {place = place} {K = K} u = record {
      none = λ w kept v l f z start near d p ps qs end g i r. u.none w v f (value_kept kept K (presents s (normal s v)) (presence_bit true) place l z) start near d p;
    }

    pub inside_end_stuck : {o : Presence} {s : Schema} {place : ℕ} {adds : Components} {a failed : S} {x : DecodeError} {K : List Record} → NoRecord step few asks_addition_end a failed x →
        StuckInside step few o s place adds K a failed x
    inside_end_stuck u = record { none = λ w kept v l f z start near d p qs end g r. u.none w start near addition_ends p.0 refl p.1 }

  module _ (one : OneRecord step) {few : S → S → S → Type 0} (carries : CarriesRecords step few) where
    pub inside_stuck : {o : Presence} {s : Schema} {place : ℕ} {adds : Components} {a b failed : S} {x : DecodeError} {K : List Record} → step a addition_ends b →
        NotNoted step few o s (drop (place + 1) K) b failed x → StuckInside step few o s place adds K a failed x
    inside_stuck {o} {s} {place} {adds} {a} {b} {failed} {K = K} m u = record {
      none = λ w kept v l f z start near d p qs end g r.
          let y = carries addition_ends a b failed start refl m near in
          let e = (one start addition_ends addition_ends p.0 y.0 refl p.1 y.1).1 in
          u.none w v f (value_kept kept K (presents s (normal s v)) (addition true) place l z) y.0 y.2 d (subst (λ (t : S). Chain step (noted o s v) t d) e p.2);
    }

    -- what is noted is also next with a little more input
    carry_noted : (o : Presence) (s : Schema) (v : Value) (a b failed c : S) → Chain step (noted o s v) a b → few a failed c → (d : S) × Chain step (noted o s v) c d × few b failed d
    carry_noted o s v a b failed c p f = by_case (is_at_default o s v) (is_group_left_out s v) p
      where
        carry_one : (r : Record) → ((d : S) → step a r d → (y : S) × step c r y × few d failed y) → Chain step (r ∷ []) a b → (d : S) × Chain step (r ∷ []) c d × few b failed d
        carry_one r h q = let y = h q.0 q.1 in (y.0, (y.0, y.1, refl), subst (λ (t : S). few t failed y.0) (sym q.2) y.2)

        by_case : (d g : Bool) → Chain step (cond d (is_default ∷ []) (cond g (is_empty ∷ []) [])) a b →
            (y : S) × Chain step (cond d (is_default ∷ []) (cond g (is_empty ∷ []) [])) c y × few b failed y
        by_case true g q = carry_one is_default (λ d m. carries is_default a d failed c refl m f) q
        by_case false true q = carry_one is_empty (λ d m. carries is_empty a d failed c refl m f) q
        by_case false false q = (c, refl, subst (λ (t : S). few t failed c) (sym q) f)

    -- ---- read
    pub noting_passes : {within : S → S → S → Type 0} {o : Presence} {s : Schema} (place : ℕ) (y : Bool) {cs : Components} {e : Bool} {adds : Components} {a b : S} {K K1 : List Record} →
        is_required o ≡ false → Notes step o s (drop (place + 1) K) y a b → K1 ≡ cond y (take place K ++ presence_bit false ∷ []) K →
        Passes step few within (noting o s place cs e adds) (root cs e adds) a b K K1
    noting_passes {o = o} {s = s} place y {cs} {e} {adds} {a} {b} {K} {K1} q n k = record {
      done = λ c more r. record {
        of_each = λ kept v l f z.
            let value = presents s (normal s v) in
            let h = n.of_each v f (value_kept kept K value (presence_bit true) place l z) in
            let i = k ∙ ap (λ ks. cond y (ks ++ presence_bit false ∷ []) K) (others_kept kept K value (presence_bit true) place l z) in
            record { behind = b; notes = h.0; rest = subst (λ (ks : List Record). EndsRoot step cs e adds b c ks more) (root_kept o s v y kept K K1 h.1 q z i) r };
      };
      stuck = λ failed x u. record {
        none = λ w kept v l f z start near d p ps qs end g i r.
            let h = n.of_each v f (value_kept kept K (presents s (normal s v)) (presence_bit true) place l z) in
            let t = carry_noted o s v a b failed start h.0 near in
            let j = same_records one (noted o s v) start d t.0 p t.1 in
            u.none w t.0 t.2 ps qs end g i (subst (λ (t : S). Chain step (root_records cs ps (behind_root e adds (added_records adds qs))) t end) j r);
      };
    }

    pub inside_passes : {within : S → S → S → Type 0} {o : Presence} {s : Schema} (place : ℕ) (y : Bool) {adds : Components} {a m b : S} {K K1 : List Record} →
        ((v : Value) → (is_at_default o s v || is_group_left_out s v) ≡ true → is_required o ≡ false) → step a addition_ends m → Notes step o s (drop (place + 1) K) y m b →
        K1 ≡ cond y (take place K ++ addition false ∷ []) (K ++ addition_ends ∷ []) → Passes step few within (inside o s place adds) (added adds) a b K K1
    inside_passes {o = o} {s = s} place y {adds} {a} {m} {b} {K} {K1} q ended n k = record {
      done = λ c more r. record {
        of_each = λ kept v l f z.
            let value = presents s (normal s v) in
            let h = n.of_each v f (value_kept kept K value (addition true) place l z) in
            let i = k ∙ ap (λ ks. cond y (ks ++ addition false ∷ []) (K ++ addition_ends ∷ [])) (others_kept kept K value (addition true) place l z) in
            record { behind = b; notes = (m, ended, h.0); rest = subst (λ (ks : List Record). EndsAdded step adds b c ks more) (added_kept o s v y kept K K1 h.1 (λ t. q v (sym h.1 ∙ t)) z i) r };
      };
      stuck = λ failed x u. record {
        none = λ w kept v l f z start near d p qs end g r.
            let h = n.of_each v f (value_kept kept K (presents s (normal s v)) (addition true) place l z) in
            let o' = carries addition_ends a m failed start refl ended near in
            let t = carry_noted o s v m b failed o'.0 h.0 o'.2 in
            let e = (one start addition_ends addition_ends p.0 o'.0 refl p.1 o'.1).1 in
            let j = same_records one (noted o s v) o'.0 d t.0 (subst (λ (t : S). Chain step (noted o s v) t d) e p.2) t.1 in
            u.none w t.0 t.2 qs end g (subst (λ (t : S). Chain step (added_records adds qs) t end) j r);
      };
    }

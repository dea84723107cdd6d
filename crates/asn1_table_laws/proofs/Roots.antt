-- The root components of a sequence, one after another, and what follows them.
use Rattle.std.proofs.Common.{◌≡◌, ◌∙◌, refl, sym, ap, subst, ℕ, ◌<◌, Bool, true, false, List, [], ◌∷◌, ◌++◌, length}
use Rattle.std.specs.Prelude.{◌||◌, not}
use Rattle.asn1_model.specs.Value.{Value, Parts, fields, end, absent, present}
use Rattle.asn1_model.specs.Schema.{Tag, Presence, required, optional, by_default, Schema, sequence, set, group, Components, no_component, component}
use Rattle.asn1_model.specs.Normal.{normal, normal_parts, is_required, is_at_default}
use Rattle.asn1_model.specs.Lawful.{is_group, are_no_components}
use Rattle.asn1_schema_errors.specs.declared.DecodeError.{DecodeError}
use Rattle.asn1_schema_laws.specs.Records.{Record, question, sequence_begins, set_begins, group_begins, presence_bit, additions_begin, asks_presence_bit, asks_additions}
use Rattle.asn1_schema_laws.specs.Presents.{Part, left_out, there, with_part, presents, part_records, noted}
use Rattle.asn1_schema_laws.specs.Presents.{root_records, added_records, behind_root, optional_count, component_count}
use Rattle.asn1_schema_laws.specs.Presents.{Fits, PartFits, PartsFit}
use Rattle.asn1_schema_laws.specs.Parts.{normal_part}
use Rattle.asn1_schema_laws.specs.Chains.{Chain, OneRecord}
use Rattle.asn1_schema_laws.proofs.Chains.{chain_append, chain_split}
use Rattle.asn1_schema_laws.proofs.OneValue.{one_value, one_part}
use Rattle.asn1_schema_laws.proofs.Values.{not_empty, normal_field, fits_field}
use Rattle.asn1_schema_laws.proofs.Joined.{nothing_noted, there_records, present_records}
use Rattle.asn1_schema_lacking_laws.specs.Carried.{keeps_members, CarriesRecords, CarriesValues}
use Rattle.asn1_schema_decode.specs.Reads.{NoRecord, NoLevel, UnreadPart}
use Rattle.asn1_schema_decode.proofs.Carrying.{carry_part}
use Rattle.asn1_schema_decode.proofs.Reading.{unread_presence_bit, unread_present}
use Rattle.asn1_table_laws.specs.Walks.{Told, NoValue, EndsRoot, EndsAdded, EndsNoting, StuckRoot, StuckAdded, StuckNoting, root, noting, added, Begun, Passes, Awaits}
use Rattle.asn1_table_laws.proofs.Lists.{behind}

-- whether a component has a default
abbrev pub has_default : Presence → Bool
has_default (by_default d) = true
has_default o = false

at_no_default : (o : Presence) (s : Schema) (v : Value) → has_default o ≡ false → is_at_default o s v ≡ false
at_no_default required s v e = refl
at_no_default optional s v e = refl
at_no_default (by_default d) s v e = absurd (let z : true ≡ false = e in cc)

-- nothing is noted after a value, and its normal form is there
pub not_noted : (o : Presence) (s : Schema) (v : Value) → has_default o ≡ false → is_group s ≡ false → noted o s v ≡ []
not_noted o s v d g = nothing_noted o s v (not_empty s (normal s v) g) (at_no_default o s v d)

pub normal_there : (o : Presence) (s : Schema) (v : Value) → has_default o ≡ false → is_group s ≡ false → normal_part o s (there v) ≡ there (normal s v)
normal_there o s v d g = rw (at_no_default o s v d, not_empty s (normal s v) g) refl

-- a component is read, present or absent
pub record ToldPart {S : Type 0} (step : S → Record → S → Type 0) (o : Presence) (s : Schema) (old new : S) (before after : List Record) : Type 0 where
  pub raw : Part
  pub fits : PartFits (λ v. Fits s v) o raw
  pub chain : Chain step (part_records (λ v. presents s v) o s raw) old new
  pub kept : after ≡ before ++ part_records (λ v. presents s v) o s (normal_part o s raw)

abbrev pub NoPart : {S : Type 0} → (S → Record → S → Type 0) → (S → S → S → Type 0) → Presence → Schema → S → S → DecodeError → Type 0
NoPart step few o s old failed x = UnreadPart step few o (λ _. s) 0 old failed x

-- a component before the others
root_with : (t : List Tag) (o : Presence) (s : Schema) (cs : Components) (x : Part) (ps : Parts) (rest : List Record) →
    root_records (component t o s cs) (with_part x ps) rest ≡ part_records (λ v. presents s v) o s x ++ root_records cs ps rest
unfolding root_records
root_with t o s cs left_out ps rest = refl
root_with t o s cs (there v) ps rest = refl

-- no parts, and what follows them
parts_end : {S : Type 0} (step : S → Record → S → Type 0) (ps : Parts) (rest : List Record) (a c : S) → PartsFit no_component ps → Chain step (root_records no_component ps rest) a c →
    Chain step rest a c
unfolding PartsFit root_records
parts_end step end rest a c f p = p
parts_end step (absent ps) rest a c f p = absurd f
parts_end step (present v ps) rest a c f p = absurd f

module _ {S : Type 0} {step : S → Record → S → Type 0} where
  -- parts, and what they are made of
  parts_of : (t : List Tag) (o : Presence) (s : Schema) (cs : Components) (ps : Parts) (rest : List Record) (a c : S) → PartsFit (component t o s cs) ps →
      Chain step (root_records (component t o s cs) ps rest) a c → (x : Part) × (rs : Parts) × (m : S) × PartFits (λ v. Fits s v) o x × PartsFit cs rs × Chain step
      (part_records (λ v. presents s v) o s x) a m × Chain step (root_records cs rs rest) m c
  unfolding PartsFit root_records
  parts_of t o s cs end rest a c f p = absurd f
  parts_of t o s cs (absent ps) rest a c f p = let d = chain_split step (part_records (λ v. presents s v) o s left_out) (root_records cs ps rest) a c p in (left_out, ps, d.0, f.0, f.1, d.1, d.2)
  parts_of t o s cs (present v ps) rest a c f p = let d = chain_split step (part_records (λ v. presents s v) o s (there v)) (root_records cs ps rest) a c p in
      (there v, ps, d.0, f.0, f.1, d.1, d.2)

  -- ---- one component
  pub required_told : {o : Presence} {s : Schema} {a b : S} {K K1 : List Record} → is_required o ≡ true → has_default o ≡ false → is_group s ≡ false → Told step s a b K K1 →
      ToldPart step o s a b K K1
  required_told {o} {s} {a} {b} {K} {K1} q d g t = record {
    raw = there t.raw;
    fits = t.fits;
    chain = subst (λ rs. Chain step rs a b) (sym (there_records o s t.raw (not_noted o s t.raw d g) ∙ rw q refl)) t.chain;
    kept = t.kept ∙ ap (λ rs. K ++ rs) (sym (ap (λ x. part_records (λ v. presents s v) o s x) (normal_there o s t.raw d g)
        ∙ there_records o s (normal s t.raw) (not_noted o s (normal s t.raw) d g) ∙ rw q refl));
  }

  pub present_told : {o : Presence} {s : Schema} {a b c : S} {K K1 K2 : List Record} → is_required o ≡ false → has_default o ≡ false → is_group s ≡ false → step a (presence_bit true) b →
      K1 ≡ K ++ presence_bit true ∷ [] → Told step s b c K1 K2 → ToldPart step o s a c K K2
  present_told {o} {s} {a} {b} {c} {K} {K1} {K2} q d g m e t = record {
    raw = there t.raw;
    fits = t.fits;
    chain = subst (λ rs. Chain step rs a c) (sym (present_records o s t.raw q (not_noted o s t.raw d g))) (b, m, t.chain);
    kept = behind K (presence_bit true ∷ []) (presents s (normal s t.raw)) e t.kept ∙ ap (λ rs. K ++ rs)
        (sym (ap (λ x. part_records (λ v. presents s v) o s x) (normal_there o s t.raw d g) ∙ present_records o s (normal s t.raw) q (not_noted o s (normal s t.raw) d g)));
  }

  pub absent_told : {o : Presence} {s : Schema} {a b : S} {K K1 : List Record} → is_required o ≡ false → step a (presence_bit false) b → K1 ≡ K ++ presence_bit false ∷ [] →
      ToldPart step o s a b K K1
  absent_told {o} {s} {a} {b} {K} {K1} q m e = record {
    raw = left_out;
    fits = q;
    chain = rw q (b, m, refl);
    kept = rw q e;
  }

  pub required_stuck : {o : Presence} {s : Schema} {few : S → S → S → Type 0} {a failed : S} {x : DecodeError} → is_required o ≡ true → has_default o ≡ false → is_group s ≡ false →
      NoValue step few s a failed x → NoPart step few o s a failed x
  required_stuck {o} {s} {few} {a} {failed} q d g u = record {
    none = λ w start near p c. elim p as (λ p. PartFits (λ v. Fits s v) o p → Chain step (part_records (λ v. presents s v) o s p) start c → ⊥) [
      | left_out ↦ λ f r. let e : true ≡ false = sym q ∙ f in cc
      | there v ↦ λ f r. u.none w start near v c f (subst (λ rs. Chain step rs start c) (there_records o s v (not_noted o s v d g) ∙ rw q refl) r)
    ];
  }

  -- ---- a component, and those after it
  part_told : {t : List Tag} {o : Presence} {s : Schema} {cs : Components} {e : Bool} {adds : Components} {a b c : S} {K K1 K2 : List Record} → ToldPart step o s a b K K1 →
      EndsRoot step cs e adds b c K1 K2 → EndsRoot step (component t o s cs) e adds a c K K2
  part_told {t} {o} {s} {cs} {e} {adds} {a} {b} {c} {K} {K1} {K2} h r =
      let rest = behind_root e adds (added_records adds r.additions) in
      let more = behind_root e adds (added_records adds (normal_parts adds r.additions)) in
      record {
        raw = with_part h.raw r.raw;
        additions = r.additions;
        fits = fits_field t o s cs h.raw r.raw h.fits r.fits;
        fits_added = r.fits_added;
        chain = subst (λ rs. Chain step rs a c) (sym (root_with t o s cs h.raw r.raw rest))
            (chain_append step (part_records (λ v. presents s v) o s h.raw) (root_records cs r.raw rest) a b c h.chain r.chain);
        kept = behind K (part_records (λ v. presents s v) o s (normal_part o s h.raw)) (root_records cs (normal_parts cs r.raw) more) h.kept r.kept
            ∙ ap (λ rs. K ++ rs) (sym (ap (λ ps. root_records (component t o s cs) ps more) (normal_field t o s cs h.raw r.raw)
            ∙ root_with t o s cs (normal_part o s h.raw) (normal_parts cs r.raw) more));
      }

  part_stuck : {t : List Tag} {o : Presence} {s : Schema} {cs : Components} {e : Bool} {adds : Components} {few : S → S → S → Type 0} {a failed : S} {x : DecodeError} →
      NoPart step few o s a failed x → StuckRoot step few (component t o s cs) e adds a failed x
  part_stuck {t} {o} {s} {cs} {e} {adds} u = record {
    none = λ w start near ps qs c f g p.
        let d = parts_of t o s cs ps (behind_root e adds (added_records adds qs)) start c f p in
        u.none w start near d.0 d.2 d.3 d.5;
  }

  -- the value of a component with a default, and what is noted of it
  noting_told : {t : List Tag} {o : Presence} {s : Schema} {cs : Components} {e : Bool} {adds : Components} {place : ℕ} {a b c d : S} {K K1 K2 K3 : List Record} → is_required o ≡ false →
      place ≡ length K → step a (presence_bit true) b → K1 ≡ K ++ presence_bit true ∷ [] → Told step s b c K1 K2 → EndsNoting step o s place cs e adds c d K2 K3 →
      EndsRoot step (component t o s cs) e adds a d K K3
  noting_told {o = o} {s = s} {a = a} {b = b} {c = c} {K = K} q j m k h r =
      let n = r.of_each K h.raw (sym j) h.fits (behind K (presence_bit true ∷ []) (presents s (normal s h.raw)) k h.kept) in
      let read : Chain step (part_records (λ v. presents s v) o s (there h.raw)) a n.behind =
      rw q (b, m, chain_append step (presents s h.raw) (noted o s h.raw) b c n.behind h.chain n.notes) in
      part_told (record { raw = there h.raw; fits = h.fits; chain = read; kept = refl }) n.rest

  -- a component comes where its presence bit is 1
  there_comes : OneRecord step → (o : Presence) (s : Schema) (x : Part) (a b c : S) → is_required o ≡ false → step a (presence_bit true) b → PartFits (λ v. Fits s v) o x →
      Chain step (part_records (λ v. presents s v) o s x) a c → (v : Value) × Fits s v × Chain step (presents s v ++ noted o s v) b c
  there_comes one o s left_out a b c r m f p =
      let q : Chain step (presence_bit false ∷ []) a c = rw r at p in
      let e : presence_bit false ≡ presence_bit true = (one a (presence_bit false) (presence_bit true) q.0 b refl q.1 m).0 in
      cc
  there_comes one o s (there v) a b c r m f p =
      let q : Chain step (presence_bit true ∷ (presents s v ++ noted o s v)) a c = rw r at p in
      (v, f, subst (λ (z : S). Chain step (presents s v ++ noted o s v) z c) (one a (presence_bit true) (presence_bit true) q.0 b refl q.1 m).1 q.2)

  module _ (one : OneRecord step) {few : S → S → S → Type 0} (carries : CarriesRecords step few) where
    pub bit_stuck : {t : List Tag} {o : Presence} {s : Schema} {cs : Components} {e : Bool} {adds : Components} {a failed : S} {x : DecodeError} → is_required o ≡ false →
        NoRecord step few asks_presence_bit a failed x → StuckRoot step few (component t o s cs) e adds a failed x
    bit_stuck {o = o} {s = s} q u = part_stuck (unread_presence_bit o (λ _. s) 0 q u)

    -- ---- the additions, or the end
    rest_told : {e : Bool} {adds : Components} {a b c : S} {K K1 K2 : List Record} → (e || not (are_no_components adds)) ≡ true → step a (additions_begin (component_count adds)) b →
        K1 ≡ K ++ additions_begin (component_count adds) ∷ [] → EndsAdded step adds b c K1 K2 → EndsRoot step no_component e adds a c K K2
    unfolding root_records PartsFit normal_parts
    rest_told {e} {adds} {a} {b} {c} {K} q m k r = record {
      raw = end;
      additions = r.raw;
      fits = tt;
      fits_added = r.fits;
      chain = rw q (b, m, r.chain);
      kept = rw q (behind K (additions_begin (component_count adds) ∷ []) (added_records adds (normal_parts adds r.raw)) k r.kept);
    }

    end_told : {e : Bool} {adds : Components} {a c : S} {K K2 : List Record} → (e || not (are_no_components adds)) ≡ false → EndsAdded step adds a c K K2 →
        EndsRoot step no_component e adds a c K K2
    unfolding root_records PartsFit normal_parts
    end_told q r = record {
      raw = end;
      additions = r.raw;
      fits = tt;
      fits_added = r.fits;
      chain = rw q r.chain;
      kept = rw q r.kept;
    }

    pub rest_stuck : {e : Bool} {adds : Components} {a failed : S} {x : DecodeError} → (e || not (are_no_components adds)) ≡ true →
        NoRecord step few (asks_additions (component_count adds)) a failed x → StuckRoot step few no_component e adds a failed x
    rest_stuck {e} {adds} q u = record {
      none = λ w start near ps qs c f g p.
          let r : Chain step (additions_begin (component_count adds) ∷ added_records adds qs) start c = rw q at (parts_end step ps (behind_root e adds (added_records adds qs)) start c f p) in
          u.none w start near (additions_begin (component_count adds)) r.0 refl r.1;
    }

    rest_passed : {e : Bool} {adds : Components} {a b failed : S} {x : DecodeError} → (e || not (are_no_components adds)) ≡ true → step a (additions_begin (component_count adds)) b →
        StuckAdded step few adds b failed x → StuckRoot step few no_component e adds a failed x
    rest_passed {e} {adds} {a} {b} {failed} q m u = record {
      none = λ w start near ps qs c f g p.
          let r : Chain step (additions_begin (component_count adds) ∷ added_records adds qs) start c = rw q at (parts_end step ps (behind_root e adds (added_records adds qs)) start c f p) in
          let y = carries (additions_begin (component_count adds)) a b failed start refl m near in
          let i = (one start (additions_begin (component_count adds)) (additions_begin (component_count adds)) r.0 y.0 refl r.1 y.1).1 in
          u.none w y.0 y.2 qs c g (subst (λ (z : S). Chain step (added_records adds qs) z c) i r.2);
    }

    end_passed : {e : Bool} {adds : Components} {a failed : S} {x : DecodeError} → (e || not (are_no_components adds)) ≡ false → StuckAdded step few adds a failed x →
        StuckRoot step few no_component e adds a failed x
    end_passed {e} {adds} q u = record {
      none = λ w start near ps qs c f g p. u.none w start near qs c g (rw q at (parts_end step ps (behind_root e adds (added_records adds qs)) start c f p));
    }

    module _ (values : CarriesValues step few) where
      part_passed : {t : List Tag} {o : Presence} {s : Schema} {cs : Components} {e : Bool} {adds : Components} {a b failed : S} {x : DecodeError} {K K1 : List Record} →
          ToldPart step o s a b K K1 → StuckRoot step few cs e adds b failed x → StuckRoot step few (component t o s cs) e adds a failed x
      part_passed {t} {o} {s} {cs} {e} {adds} {a} {b} {failed} h u = record {
        none = λ w start near ps qs c f g p.
            let rest = behind_root e adds (added_records adds qs) in
            let i = carry_part step few carries values o s h.raw a b failed start h.chain near in
            let d = parts_of t o s cs ps rest start c f p in
            let l = one_part one o s (one_value one s) d.0 h.raw start d.2 i.0 d.3 h.fits d.5 i.1 in
            u.none w i.0 i.2 d.1 qs c d.4 g (subst (λ (z : S). Chain step (root_records cs d.1 rest) z c) l.1 d.6);
      }

      -- ---- turns
      pub part_passes : {within : S → S → S → Type 0} {t : List Tag} {o : Presence} {s : Schema} {cs : Components} {e : Bool} {adds : Components} {a b : S} {K K1 : List Record} →
          ToldPart step o s a b K K1 → Passes step few within (root (component t o s cs) e adds) (root cs e adds) a b K K1
      part_passes h = record { done = λ c more r. part_told h r; stuck = λ failed x u. part_passed h u }

      -- a component that is absent
      pub absent_passes : {within : S → S → S → Type 0} {t : List Tag} {o : Presence} {s : Schema} {cs : Components} {e : Bool} {adds : Components} {a b : S} {K K1 : List Record} →
          is_required o ≡ false → step a (presence_bit false) b → K1 ≡ K ++ presence_bit false ∷ [] → Passes step few within (root (component t o s cs) e adds) (root cs e adds) a b K K1
      absent_passes q m k = part_passes (absent_told q m k)

      -- one whose value comes
      pub required_awaited : {within : S → S → S → Type 0} {t : List Tag} {o : Presence} {s : Schema} {cs : Components} {e : Bool} {adds : Components} {a : S} {K : List Record} →
          is_required o ≡ true → has_default o ≡ false → is_group s ≡ false → Awaits step few within (root (component t o s cs) e adds) (root cs e adds) s a a K K
      required_awaited q d g = record {
        passes = λ b more h. part_passes (required_told q d g h);
        stuck = λ failed x u. part_stuck (required_stuck q d g u);
      }

      pub present_awaited : {within : S → S → S → Type 0} {t : List Tag} {o : Presence} {s : Schema} {cs : Components} {e : Bool} {adds : Components} {a b : S} {K K1 : List Record} →
          is_required o ≡ false → has_default o ≡ false → is_group s ≡ false → step a (presence_bit true) b → K1 ≡ K ++ presence_bit true ∷ [] →
          Awaits step few within (root (component t o s cs) e adds) (root cs e adds) s a b K K1
      present_awaited {o = o} {s = s} q d g m k = record {
        passes = λ c more h. part_passes (present_told q d g m k h);
        stuck = λ failed x u. part_stuck (unread_present one carries o {s = λ _. s} {n = 0} q m u);
      }

      -- one with a default whose value comes
      noting_passed : {t : List Tag} {o : Presence} {s : Schema} {cs : Components} {e : Bool} {adds : Components} {place : ℕ} {a b c failed : S} {x : DecodeError} (K : List Record)
          {K1 K2 : List Record} →
          is_required o ≡ false → place ≡ length K → step a (presence_bit true) b → K1 ≡ K ++ presence_bit true ∷ [] → Told step s b c K1 K2 →
          StuckNoting step few o s place cs e adds K2 c failed x → StuckRoot step few (component t o s cs) e adds a failed x
      noting_passed {t} {o} {s} {cs} {e} {adds} {place} {a} {b} {c} {failed} {x} K {K1} {K2} q j m k h u = record {
        none = λ w start near ps qs end f g p.
            let rest = behind_root e adds (added_records adds qs) in
            let y = carries (presence_bit true) a b failed start refl m near in
            let z = values s h.raw b c failed y.0 h.chain y.2 in
            let d = parts_of t o s cs ps rest start end f p in
            let v = there_comes one o s d.0 start y.0 d.2 q y.1 d.3 d.5 in
            let l = chain_split step (presents s v.0) (noted o s v.0) y.0 d.2 v.2 in
            let i = one_value one s v.0 h.raw y.0 l.0 z.0 v.1 h.fits l.1 z.1 in
            let n = subst (λ (v : Value). Chain step (noted o s v) z.0 d.2) i.0 (subst (λ (t : S). Chain step (noted o s v.0) t d.2) i.1 l.2) in
            u.none w K h.raw (sym j) h.fits (behind K (presence_bit true ∷ []) (presents s (normal s h.raw)) k h.kept) z.0 z.2 d.2 n d.1 qs end d.4 g d.6;
      }

      pub noting_awaited : {within : S → S → S → Type 0} {t : List Tag} {o : Presence} {s : Schema} {cs : Components} {e : Bool} {adds : Components} {place : ℕ} {a b : S} {K K1 : List Record} →
          is_required o ≡ false → place ≡ length K → step a (presence_bit true) b → K1 ≡ K ++ presence_bit true ∷ [] →
          Awaits step few within (root (component t o s cs) e adds) (noting o s place cs e adds) s a b K K1
      noting_awaited {o = o} {s = s} {K = K} q j m k = record {
        passes = λ c more h. record { done = λ d last r. noting_told q j m k h r; stuck = λ failed x u. noting_passed K q j m k h u };
        stuck = λ failed x u. part_stuck (unread_present one carries o {s = λ _. s} {n = 0} q m u);
      }

      -- the additions
      pub rest_passes : {within : S → S → S → Type 0} {e : Bool} {adds : Components} {a b : S} {K K1 : List Record} → (e || not (are_no_components adds)) ≡ true →
          step a (additions_begin (component_count adds)) b → K1 ≡ K ++ additions_begin (component_count adds) ∷ [] → Passes step few within (root no_component e adds) (added adds) a b K K1
      rest_passes q m k = record { done = λ c more r. rest_told q m k r; stuck = λ failed x u. rest_passed q m u }

      pub end_passes : {within : S → S → S → Type 0} {e : Bool} {adds : Components} {a : S} {K : List Record} → (e || not (are_no_components adds)) ≡ false →
          Passes step few within (root no_component e adds) (added adds) a a K K
      end_passes q = record { done = λ c more r. end_told q r; stuck = λ failed x u. end_passed q u }

-- ---- a value of components begins

-- a type whose values are components after a record: a SEQUENCE, a SET, or a group of additions
pub record Composed (s : Schema) (r : Record) (cs : Components) (e : Bool) (adds : Components) : Type 0 where
  pub fits : (ps qs : Parts) → PartsFit cs ps → PartsFit adds qs → Fits s (fields ps qs)
  pub is_normal : (ps qs : Parts) → PartsFit adds qs → normal s (fields ps qs) ≡ fields (normal_parts cs ps) (normal_parts adds qs)
  pub presented : (ps qs : Parts) → PartsFit adds qs → presents s (fields ps qs) ≡ r ∷ root_records cs ps (behind_root e adds (added_records adds qs))
  pub presented_normal : (ps qs : Parts) → PartsFit adds qs →
      presents s (fields (normal_parts cs ps) (normal_parts adds qs)) ≡ r ∷ root_records cs (normal_parts cs ps) (behind_root e adds (added_records adds (normal_parts adds qs)))
  pub made_of : (v : Value) → Fits s v → (ps : Parts) × (qs : Parts) × (v ≡ fields ps qs) × PartsFit cs ps × PartsFit adds qs

pub composed_sequence : (cs : Components) (e : Bool) (adds : Components) → Composed (sequence cs e adds) (sequence_begins e (optional_count cs)) cs e adds
unfolding presents Fits normal
composed_sequence cs e adds = record {
  fits = λ ps qs f g. (f, g);
  is_normal = λ ps qs g. refl;
  presented = λ ps qs g. refl;
  presented_normal = λ ps qs g. refl;
  made_of = λ v. elim v as (λ v. Fits (sequence cs e adds) v → (ps : Parts) × (qs : Parts) × (v ≡ fields ps qs) × PartsFit cs ps × PartsFit adds qs) [
    | fields ps qs ↦ λ f. (ps, qs, refl, f.0, f.1)
    | _ ↦ λ f. absurd f
  ];
}

pub composed_set : (cs : Components) (e : Bool) (adds : Components) → Composed (set cs e adds) (set_begins e (optional_count cs)) cs e adds
unfolding presents Fits normal
composed_set cs e adds = record {
  fits = λ ps qs f g. (f, g);
  is_normal = λ ps qs g. refl;
  presented = λ ps qs g. refl;
  presented_normal = λ ps qs g. refl;
  made_of = λ v. elim v as (λ v. Fits (set cs e adds) v → (ps : Parts) × (qs : Parts) × (v ≡ fields ps qs) × PartsFit cs ps × PartsFit adds qs) [
    | fields ps qs ↦ λ f. (ps, qs, refl, f.0, f.1)
    | _ ↦ λ f. absurd f
  ];
}

-- a group has no additions of its own
no_parts : (qs : Parts) → PartsFit no_component qs → qs ≡ end
unfolding PartsFit
no_parts end f = refl
no_parts (absent qs) f = absurd f
no_parts (present v qs) f = absurd f

group_presented : (cs : Components) (ps qs : Parts) → qs ≡ end →
    presents (group cs) (fields ps qs) ≡ group_begins (optional_count cs) ∷ root_records cs ps (behind_root false no_component (added_records no_component qs))
unfolding presents added_records
group_presented cs ps qs e = rw e refl

pub composed_group : (cs : Components) → Composed (group cs) (group_begins (optional_count cs)) cs false no_component
unfolding Fits normal normal_parts PartsFit
composed_group cs = record {
  fits = λ ps qs f g. (f, no_parts qs g);
  is_normal = λ ps qs g. refl;
  presented = λ ps qs g. group_presented cs ps qs (no_parts qs g);
  presented_normal = λ ps qs g. group_presented cs (normal_parts cs ps) qs (no_parts qs g);
  made_of = λ v. elim v as (λ v. Fits (group cs) v → (ps : Parts) × (qs : Parts) × (v ≡ fields ps qs) × PartsFit cs ps × PartsFit no_component qs) [
    | fields ps qs ↦ λ f. (ps, qs, refl, f.0, subst (λ (qs : Parts). PartsFit no_component qs) (sym f.1) tt)
    | _ ↦ λ f. absurd f
  ];
}

-- none of its records is next without the first
first_of : {S : Type 0} (step : S → Record → S → Type 0) {s : Schema} {r : Record} {cs : Components} {e : Bool} {adds : Components} → Composed s r cs e adds → {start : S} (v : Value) (c : S) →
    Fits s v → Chain step (presents s v) start c →
    (ps : Parts) × (qs : Parts) × PartsFit cs ps × PartsFit adds qs × Chain step (r ∷ root_records cs ps (behind_root e adds (added_records adds qs))) start c
first_of step {s} made {start} v c f p =
    let d = made.made_of v f in
    let i = ap (λ w. presents s w) d.2 ∙ made.presented d.0 d.1 d.4 in
    (d.0, d.1, d.3, d.4, subst (λ rs. Chain step rs start c) i p)

module _ {S : Type 0} {step : S → Record → S → Type 0} {s : Schema} {r : Record} {cs : Components} {e : Bool} {adds : Components} (made : Composed s r cs e adds) where
  pub none_begun : {few : S → S → S → Type 0} {m : ℕ} {a failed : S} {x : DecodeError} → 0 < m → NoLevel step few (question r) m a failed x → NoValue step few s a failed x
  none_begun l k = record { none = λ w start near v c f p. let d = first_of step made v c f p in k.none w start near l r d.4.0 refl d.4.1 }

  pub components_begun : OneRecord step → {few : S → S → S → Type 0} → CarriesRecords step few → keeps_members r ≡ true → {within : S → S → S → Type 0} {a b : S} {K K1 : List Record} →
      step a r b → K1 ≡ K ++ r ∷ [] → Begun step few within s (root cs e adds) a b K K1
  components_begun one carries l {a = a} {b} {K} {K1} m k = record {
    done = λ c more q.
        let i = made.is_normal q.raw q.additions q.fits_added in
        let j = made.presented_normal q.raw q.additions q.fits_added in
        record {
          raw = fields q.raw q.additions;
          fits = made.fits q.raw q.additions q.fits q.fits_added;
          chain = subst (λ rs. Chain step rs a c) (sym (made.presented q.raw q.additions q.fits_added)) (b, m, q.chain);
          kept = behind K (r ∷ []) (root_records cs (normal_parts cs q.raw) (behind_root e adds (added_records adds (normal_parts adds q.additions)))) k q.kept
              ∙ ap (λ rs. K ++ rs) (sym (ap (λ w. presents s w) i ∙ j));
        };
    stuck = λ failed x u. record {
      none = λ w start near v c f p.
          let i = carries r a b failed start l m near in
          let d = first_of step made v c f p in
          let h = (one start r r d.4.0 i.0 refl d.4.1 i.1).1 in
          u.none w i.0 i.2 d.0 d.1 c d.2 d.3 (subst (λ (z : S). Chain step (root_records cs d.0 (behind_root e adds (added_records adds d.1))) z c) h d.4.2);
    };
  }

-- How extension addition groups that a decoder finds are put together.
use Rattle.std.proofs.Common.{◌≡◌, ℕ, ◌+◌, ◌<◌, zero, suc, true, false, [], ◌∷◌, refl, subst, sym, ◌∙◌, ap, arith}
use Rattle.asn1_model.specs.Value.{Value, fields, Parts, end, absent, present, are_absent}
use Rattle.asn1_model.specs.Schema.{optional, group, Components}
use Rattle.asn1_model.specs.Normal.{normal, is_group_left_out, is_empty_group}
use Rattle.asn1_schema_errors.specs.declared.DecodeError.{DecodeError}
use Rattle.asn1_schema_laws.specs.Records.{Record, group_begins, is_empty, addition, addition_ends, ends, asks_group, asks_empty}
use Rattle.asn1_schema_laws.specs.Presents.{left_out, presents, optional_count, root_records, Fits, PartsFit}
use Rattle.asn1_schema_laws.specs.Tables.{Fields, Table, components_at, optional_field_count, scope}
use Rattle.asn1_schema_laws.specs.Parts.{part_unless}
use Rattle.asn1_schema_laws.specs.Chains.{Chain, OneRecord}
use Rattle.asn1_schema_laws.proofs.Joined.{optional_fields_at}
use Rattle.asn1_schema_decode.specs.Reads.{NoRecord, NoLevel, Reads, Unread, ReadsTail, UnreadTail}
use Rattle.asn1_schema_lacking_laws.specs.Carried.{CarriesRecords, CarriesValues}
use Rattle.asn1_schema_laws.specs.Additions.{group_type, IsGroup}
use Rattle.asn1_schema_laws.proofs.Groups.{no_part}
use Rattle.asn1_schema_authored.specs.Reads.{ReadsEnclosed, ReadsAddition, UnreadAddition}
use Rattle.asn1_schema_authored.proofs.Extending.{group_tail, group_fits}
use Rattle.asn1_schema_authored.proofs.Reading.{reads_addition, reads_empty, unread_empty}

-- the records of a group, and what they are made of
of_group : {S : Type 0} (step : S → Record → S → Type 0) (cs : Components) (v : Value) (a c : S) → Fits (group cs) v →
    Chain step (presents (group cs) v) a c → (ps : Parts) × (b : S) × PartsFit cs ps × step a (group_begins (optional_count cs)) b × Chain step (root_records cs ps (ends ∷ [])) b c
unfolding presents Fits
of_group step cs (fields ps end) a c f p = (ps, p.0, f.0, p.1, p.2)
of_group step cs (fields ps (present w qs)) a c f p = let e : present w qs ≡ end = f.1 in cc
of_group step cs (fields ps (absent qs)) a c f p = let e : absent qs ≡ end = f.1 in cc
of_group step cs v a c f p = absurd f

module _ {S : Type 0} {step : S → Record → S → Type 0} {t : Table} (g : IsGroup t) {k : ℕ} (e : k ≡ optional_field_count t.root) where
  pub reads_group : {ps qs : Parts} {m n : ℕ} {a b c : S} → m ≡ n + 1 → step a (group_begins k) b → ReadsTail step t n ps qs b c → Reads step (group_type t) m (fields ps end) a c
  unfolding group_type scope presents Fits normal
  reads_group {ps} {qs} {m} {n} {a} {b} {c} l h r =
      let z : r.additions ≡ end = no_part n r.additions (subst (λ (fs : Fields). PartsFit (components_at n fs) r.additions) g.no_additions r.fits.1) in
      let y : Reads step (group_type t) (suc n) (fields ps end) a c = record {
        raw = fields r.root end;
        fits = (r.fits.0, refl);
        means = ap (λ xs. fields xs end) r.means;
        chain = (b, subst (λ (i : ℕ). step a (group_begins i) b) (e ∙ sym (optional_fields_at n t.root)) h, subst (λ rs. Chain step rs b c) (group_tail n g r.root z) r.chain);
      } in
      subst (λ (i : ℕ). Reads step (group_type t) i (fields ps end) a c) (let z : suc n ≡ m = omega arith in z) y

  pub unread_group_here : (m : ℕ) {few : S → S → S → Type 0} {a failed : S} {x : DecodeError} → NoLevel step few (asks_group k) m a failed x → Unread step few (group_type t) m a failed x
  unfolding group_type scope Fits
  unread_group_here zero h = record { none = λ w start near v c f p. f }
  unread_group_here (suc n) h = record {
    none = λ w start near v c f p.
        let d = of_group step (components_at n t.root) v start c f p in
        h.none w start near (let z : 0 < suc n = omega arith in z) _ d.1 (ap asks_group (optional_fields_at n t.root ∙ sym e)) d.3;
  }

  pub unread_group : OneRecord step → {few : S → S → S → Type 0} → CarriesRecords step few → {m n : ℕ} {a b failed : S} {x : DecodeError} →
      m ≡ n + 1 → step a (group_begins k) b → UnreadTail step few t n b failed x → Unread step few (group_type t) m a failed x
  unfolding group_type scope
  unread_group one {few} carries {m} {n} {a} {b} {failed} {x} l h u =
      let r : Unread step few (group_type t) (suc n) a failed x = record {
        none = λ w start near v c f p.
            let j = carries (group_begins k) a b failed start refl h near in
            let d = of_group step (components_at n t.root) v start c f p in
            let i = (one start (group_begins (optional_count (components_at n t.root))) (group_begins k) d.1 j.0 (ap asks_group (optional_fields_at n t.root ∙ sym e)) d.3 j.1).1 in
            let q = subst (λ (s : S). Chain step (root_records (components_at n t.root) d.0 (ends ∷ [])) s c) i d.4 in
            u.none w j.0 j.2 d.0 end c (group_fits n g d.0 refl d.2) (subst (λ rs. Chain step rs j.0 c) (sym (group_tail n g d.0 refl)) q);
      } in
      subst (λ (i : ℕ). Unread step few (group_type t) i a failed x) (let z : suc n ≡ m = omega arith in z) r

-- a value of a group is left out if none of its components is present
left_out_as : (t : Table) (n : ℕ) (v : Value) {ps : Parts} → Fits (group_type t n) v → normal (group_type t n) v ≡ fields ps end → is_group_left_out (group_type t n) v ≡ are_absent ps
unfolding group_type scope Fits
left_out_as t zero v f e = absurd f
left_out_as t (suc n) v {ps} f e = ap (λ (w : Value). is_empty_group (group (components_at n t.root)) w) e

module _ {S : Type 0} {step : S → Record → S → Type 0} (t : Table) {n : ℕ} {ps : Parts} where
  pub reads_kept : {a d : S} → are_absent ps ≡ false → ReadsEnclosed step (group_type t) n (fields ps end) a d →
      ReadsAddition step optional (group_type t) n (part_unless (are_absent ps) (fields ps end)) a d
  reads_kept k h = rw k (reads_addition optional h (left_out_as t n h.reads.raw h.reads.fits h.reads.means ∙ k) refl)

  pub reads_left : {a c d : S} → are_absent ps ≡ true → ReadsEnclosed step (group_type t) n (fields ps end) a c → step c is_empty d → ReadsAddition step optional (group_type t) n left_out a d
  reads_left k h z = reads_empty optional h refl (left_out_as t n h.reads.raw h.reads.fits h.reads.means ∙ k) z

  pub unread_left : OneRecord step → {few : S → S → S → Type 0} → CarriesRecords step few → CarriesValues step few →
      {a b c d failed : S} {x : DecodeError} → are_absent ps ≡ true → step a (addition true) b → Reads step (group_type t) n (fields ps end) b c →
      step c addition_ends d → NoRecord step few asks_empty d failed x → UnreadAddition step few optional (group_type t) n a failed x
  unread_left one carries values k m r e h = unread_empty one carries values optional m r e refl (left_out_as t n r.raw r.fits r.means ∙ k) h

-- SEQUENCE and SET at once, and SEQUENCE OF and SET OF at once.
use Rattle.std.proofs.Common.{◌≡◌, ℕ, ◌+◌, zero, suc, Bool, List, [], ◌∷◌, length, refl, ap}
use Rattle.asn1_model.specs.Value.{Value, Values, no_more, member, members, bag, fields, Parts, map_members, depth, depth_of_members}
use Rattle.asn1_model.specs.Schema.{Size, Counts, Schema}
use Rattle.asn1_model.specs.Normal.{normal, normal_parts}
use Rattle.asn1_model.specs.Lawful.{member_count}
use Rattle.asn1_schema_laws.specs.Records.{Record, Question, question, list_begins, bag_begins, asks_list, asks_bag}
use Rattle.asn1_schema_laws.specs.Presents.{presents, member_records, Fits, AllFit}
use Rattle.asn1_schema_laws.specs.Parts.{values_of, tail_records, TailFits}
use Rattle.asn1_schema_laws.specs.Tables.{Table, optional_field_count, components_at, scope, sequence_type, list_type, bag_type}
use Rattle.asn1_schema_laws.specs.Forms.{Form, sequence_form, set_form, constructed_type, begins, asks}
use Rattle.asn1_schema_laws.proofs.Joined.{optional_fields_at}

-- ---- SEQUENCE OF and SET OF

-- the type, the value with these elements, the record with which it begins, and the question for it
abbrev pub listed_type : Form → Size → Counts → (ℕ → Schema) → ℕ → Schema
listed_type sequence_form = list_type
listed_type set_form = bag_type

abbrev pub listed : Form → Values → Value
listed sequence_form = members
listed set_form = bag

abbrev pub begins_list : Form → Size → Counts → ℕ → Record
begins_list sequence_form = list_begins
begins_list set_form = bag_begins

abbrev pub asks_for_list : Form → Size → Counts → Question
asks_for_list sequence_form = asks_list
asks_for_list set_form = asks_bag

pub list_question : (k : Form) (z : Size) (h : Counts) (i : ℕ) → question (begins_list k z h i) ≡ asks_for_list k z h
list_question sequence_form z h i = refl
list_question set_form z h i = refl

pub depth_of_list : (k : Form) (vs : Values) → depth (listed k vs) ≡ depth_of_members vs + 1
unfolding depth
depth_of_list sequence_form vs = refl
depth_of_list set_form vs = refl

module _ (z : Size) (h : Counts) (s : ℕ → Schema) where
  -- no value fits at level zero
  pub no_list : (k : Form) (v : Value) → Fits (listed_type k z h s zero) v → ⊥
  unfolding list_type bag_type scope Fits
  no_list sequence_form v f = f
  no_list set_form v f = f

  module _ (n : ℕ) where
    pub list_fits : (k : Form) (vs : Values) → AllFit (λ v. Fits (s n) v) vs → Fits (listed_type k z h s (suc n)) (listed k vs)
    unfolding list_type bag_type scope Fits
    list_fits sequence_form vs f = f
    list_fits set_form vs f = f

    pub elements_fit : (k : Form) (vs : Values) → Fits (listed_type k z h s (suc n)) (listed k vs) → AllFit (λ v. Fits (s n) v) vs
    unfolding list_type bag_type scope Fits
    elements_fit sequence_form vs f = f
    elements_fit set_form vs f = f

    pub list_records : (k : Form) (vs : Values) → presents (listed_type k z h s (suc n)) (listed k vs) ≡ begins_list k z h (member_count vs) ∷ member_records (λ v. presents (s n) v) vs
    unfolding list_type bag_type scope presents
    list_records sequence_form vs = refl
    list_records set_form vs = refl

    -- each value has elements
    pub elements_of : (k : Form) (v : Value) → Fits (listed_type k z h s (suc n)) v → (vs : Values) × AllFit (λ v. Fits (s n) v) vs
        × (presents (listed_type k z h s (suc n)) v ≡ begins_list k z h (member_count vs) ∷ member_records (λ v. presents (s n) v) vs)
    unfolding list_type bag_type scope presents Fits
    elements_of sequence_form (members vs) f = (vs, f, refl)
    elements_of sequence_form v f = absurd f
    elements_of set_form (bag vs) f = (vs, f, refl)
    elements_of set_form v f = absurd f

    pub normal_list : (k : Form) (vs : Values) → normal (listed_type k z h s (suc n)) (listed k vs) ≡ listed k (map_members (λ v. normal (s n) v) vs)
    unfolding list_type bag_type scope normal
    normal_list sequence_form vs = refl
    normal_list set_form vs = refl

-- the number of elements
pub count_values : {A : Type 0} (f : A → Value) (xs : List A) → member_count (values_of f xs) ≡ length xs
count_values f [] = refl
count_values f (x ∷ xs) = ap suc (count_values f xs)

pub count_mapped : (g : Value → Value) (vs : Values) → member_count (map_members g vs) ≡ member_count vs
count_mapped g no_more = refl
count_mapped g (member v vs) = ap suc (count_mapped g vs)

-- ---- SEQUENCE and SET
pub form_question : (k : Form) (e : Bool) (i : ℕ) → question (begins k e i) ≡ asks k e i
form_question sequence_form e i = refl
form_question set_form e i = refl

module _ (t : Table) where
  -- no value fits at level zero
  pub no_fields : (k : Form) (v : Value) → Fits (constructed_type k t zero) v → ⊥
  unfolding sequence_type scope Fits
  no_fields sequence_form v f = f
  no_fields set_form v f = f

  module _ (n : ℕ) where
    pub form_fits : (k : Form) (ps qs : Parts) → TailFits n t ps qs → Fits (constructed_type k t (suc n)) (fields ps qs)
    unfolding sequence_type scope Fits
    form_fits sequence_form ps qs f = f
    form_fits set_form ps qs f = f

    pub tail_fits_form : (k : Form) (ps qs : Parts) → Fits (constructed_type k t (suc n)) (fields ps qs) → TailFits n t ps qs
    unfolding sequence_type scope Fits
    tail_fits_form sequence_form ps qs f = f
    tail_fits_form set_form ps qs f = f

    pub form_records : (k : Form) (ps qs : Parts) → presents (constructed_type k t (suc n)) (fields ps qs) ≡ begins k t.extensible (optional_field_count t.root) ∷ tail_records n t ps qs
    unfolding sequence_type scope presents
    form_records sequence_form ps qs = rw (optional_fields_at n t.root) refl
    form_records set_form ps qs = rw (optional_fields_at n t.root) refl

    -- each value has components
    pub form_parts : (k : Form) (v : Value) → Fits (constructed_type k t (suc n)) v → (ps : Parts) × (qs : Parts) × TailFits n t ps qs
        × (presents (constructed_type k t (suc n)) v ≡ begins k t.extensible (optional_field_count t.root) ∷ tail_records n t ps qs)
    unfolding sequence_type scope Fits
    form_parts sequence_form (fields ps qs) f = (ps, qs, f, form_records sequence_form ps qs)
    form_parts sequence_form v f = absurd f
    form_parts set_form (fields ps qs) f = (ps, qs, f, form_records set_form ps qs)
    form_parts set_form v f = absurd f

    pub normal_form : (k : Form) (ps qs : Parts) → normal (constructed_type k t (suc n)) (fields ps qs)
        ≡ fields (normal_parts (components_at n t.root) ps) (normal_parts (components_at n t.additions) qs)
    unfolding sequence_type scope normal
    normal_form sequence_form ps qs = refl
    normal_form set_form ps qs = refl

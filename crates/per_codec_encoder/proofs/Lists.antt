-- Lists: a count before all elements, or length determinants between them.
use Rattle.std.proofs.Common.{◌≡◌, ℕ, zero, suc, ◌+◌, Bool, true, false, List, ◌∷◌, ◌++◌, length, take, drop, Option, Some, None, option_map, option_and_then, refl, ap, sym, ◌∙◌, append_assoc, arith}
use Rattle.std.proofs.lemmas.List.{append-nil}
use Rattle.asn1_model.specs.Value.{Value, members as in_list, Values, no_more, member, each}
use Rattle.asn1_model.specs.Schema.{Counts, Size, Schema, sequence_of}
use Rattle.asn1_model.specs.Numbers.{is_count_within}
use Rattle.asn1_model.specs.Form.{both, joined}
use Rattle.asn1_model.specs.Per
use Rattle.asn1_schema_laws.specs.Records.{Record, further, ends}
use Rattle.asn1_model.specs.Lawful.{member_count}
use Rattle.asn1_schema_laws.specs.Presents.{presents, member_records}
use Rattle.per_codec_packing.specs.FieldLists.{FieldList, on, field_list_at}
use Rattle.per_codec_writing.specs.Headings.{general, sized_count, form_due}
use Rattle.per_codec_writing.proofs.HeadingForms.{left, Ready, by_heading, next_field_list, AllSound, next_sound, Leads, general_leads, count_leads, if_leads, extensible_leads}
use Rattle.per_codec_encoder.specs.Steps.{LengthDeterminants, Scope, members, offset, position, Heading, next_determinant, list_heading, headed, counted_on, runs}
use Rattle.per_codec_encoder.specs.Ties.{BridgesAt, Bridges}
use Rattle.per_codec_packing.proofs.Formed.{chain_same, two_field_lists, behind, behind_nothing, both_assoc}

-- ---- elements

pub length-each : {X : Type 0} (f : Value → X) (vs : Values) → length (each f vs) ≡ member_count vs
length-each f no_more = refl
length-each f (member v vs) = ap suc (length-each f vs)

module _ (al : Bool) (s : Schema) (h : (v : Value) → BridgesAt al s v) where
  abbrev calls : Values → List Record
  calls vs = member_records (λ v. presents s v) vs

  abbrev forms : Values → List Per.BitForm
  forms vs = each (λ v. Per.form al s v) vs

  -- with `n` elements due before these length determinants, their field-lists are added
  abbrev Adds : Values → ℕ → LengthDeterminants → Type 0
  Adds vs n hs = n + left hs ≡ member_count vs → (os : FieldList) (k : List Scope) (rest : List Record) →
      runs al (calls vs ++ rest) (os, members n hs ∷ k) ≡ option_and_then (λ w. runs al rest (os ++ w, k)) (field_list_at (form_due al n hs (forms vs)) (position (os, k)))

  abbrev Later : Values → Type 0
  Later no_more = Unit {0}
  Later (member v vs) = (n : ℕ) (hs : LengthDeterminants) → Adds vs n hs

  one_member : (v : Value) (vs : Values) (n : ℕ) (hs : LengthDeterminants) → Adds vs n hs → n + left hs ≡ member_count vs →
      (os : FieldList) (k : List Scope) (rest : List Record) → runs al ((presents s v ++ calls vs) ++ rest) (os, members n hs ∷ k)
      ≡ option_and_then (λ w. runs al rest (os ++ w, k)) (field_list_at (both (Per.form al s v) (form_due al n hs (forms vs))) (position (os, k)))
  unfolding field_list_at
  one_member v vs n hs others c os k rest =
      ap (λ l. runs al l (os, members n hs ∷ k)) (append_assoc (presents s v) (calls vs) rest)
      ∙ h v os (members n hs ∷ k) (calls vs ++ rest)
      ∙ chain_same (field_list_at (Per.form al s v) (position (os, k))) _
      (λ a. option_and_then (λ b. runs al rest ((os ++ a) ++ b, k)) (field_list_at (form_due al n hs (forms vs)) (on (position (os, k)) a)))
      (λ a. others c (os ++ a) k rest ∙ ap (λ p. option_and_then (λ b. runs al rest ((os ++ a) ++ b, k)) (field_list_at (form_due al n hs (forms vs)) p)) (behind (offset k) os a))
      ∙ two_field_lists (field_list_at (Per.form al s v) (position (os, k))) (λ a. field_list_at (form_due al n hs (forms vs)) (on (position (os, k)) a)) os (λ w. runs al rest (w, k))

  ready_members : (vs : Values) → Later vs → (n : ℕ) (hs : LengthDeterminants) → Ready hs n → Adds vs n hs
  unfolding field_list_at
  ready_members no_more l zero None r c os k rest = sym (ap (λ t. runs al rest (t, k)) (append-nil os))
  ready_members no_more l zero (Some g) r c os k rest = absurd r
  ready_members no_more l (suc n) hs r c os k rest = absurd (omega arith)
  ready_members (member v vs) l zero None r c os k rest = absurd (omega arith)
  ready_members (member v vs) l zero (Some g) r c os k rest = absurd r
  ready_members (member v vs) l (suc n) None r c os k rest = one_member v vs n None (l n None) (omega arith) os k rest
  ready_members (member v vs) l (suc n) (Some g) r c os k rest =
      one_member v vs n (Some g) (l n (Some g)) (omega arith) os k rest
      ∙ ap (option_and_then (λ w. runs al rest (os ++ w, k))) (sym (both_assoc (Per.form al s v) (joined (take n (forms vs))) (Per.fragments al g.0 (drop n (forms vs))) (position (os, k))))

  -- after a heading
  behind_heading : (vs : Values) → Later vs → (os : FieldList) (k : List Scope) (rest : List Record) (o : Option Heading) →
      AllSound (member_count vs) o → option_and_then (λ m. runs al (calls vs ++ rest) m) (headed os k o)
      ≡ option_and_then (λ w. runs al rest (os ++ w, k)) (by_heading al (forms vs) (position (os, k)) o)
  behind_heading vs l os k rest None c = refl
  behind_heading vs l os k rest (Some g) c =
      ready_members vs l g.due g.determinants c.ready c.counts (os ++ g.field_list) k rest
      ∙ ap (λ p. option_and_then (λ b. runs al rest ((os ++ g.field_list) ++ b, k)) (field_list_at (form_due al g.due g.determinants (forms vs)) p)) (behind (offset k) os g.field_list)
      ∙ two_field_lists (Some g.field_list) (λ a. field_list_at (form_due al g.due g.determinants (forms vs)) (on (position (os, k)) a)) os (λ w. runs al rest (w, k))

  -- the next record writes the length determinant that is due
  determinant_first : (b : Bool) (more : List Record) (os : FieldList) (k : List Scope) (n : ℕ) (o : Option Heading) → AllSound n o →
      option_and_then (λ m. runs al more m) (option_and_then (λ (g : Heading). counted_on g.due g.determinants (os ++ g.field_list) k b) o)
      ≡ option_and_then (λ m. runs al (further b ∷ more) m) (headed os k o)
  determinant_first b more os k n None c = refl
  determinant_first b more os k n (Some g) c = go g.due g.determinants c.ready (os ++ g.field_list)
    where
      go : (due : ℕ) (hs : LengthDeterminants) → Ready hs due → (t : FieldList) → option_and_then (λ m. runs al more m) (counted_on due hs t k b) ≡ runs al (further b ∷ more) (t, members due hs ∷ k)
      go zero None r t = refl
      go zero (Some g) r t = absurd r
      go (suc due) None r t = refl
      go (suc due) (Some g) r t = refl

  determinants_first : (vs : Values) → Later vs → (g : List ℕ × ℕ) → Adds vs zero (Some g)
  unfolding field_list_at
  determinants_first vs l g c os k rest =
      first vs
      ∙ behind_heading vs l os k rest (next_determinant al g.0 g.1 (position (os, k))) (let e : member_count vs ≡ g.1 = omega arith in rw e (next_sound al g.0 g.1 (position (os, k))))
      ∙ ap (option_and_then (λ w. runs al rest (os ++ w, k)))
      (ap (λ n. by_heading al (forms vs) (position (os, k)) (next_determinant al g.0 n (position (os, k)))) counted ∙ sym (next_field_list al g.0 (forms vs) (position (os, k))) ∙ nothing_first)
    where
      counted : g.1 ≡ length (forms vs)
      counted = let e = length-each (λ v. Per.form al s v) vs in omega arith

      first : (vs : Values) → runs al (calls vs ++ rest) (os, members zero (Some g) ∷ k) ≡ option_and_then (λ m. runs al (calls vs ++ rest) m)
          (headed os k (next_determinant al g.0 g.1 (position (os, k))))
      first no_more = determinant_first false (ends ∷ rest) os k g.1 (next_determinant al g.0 g.1 (position (os, k))) (next_sound al g.0 g.1 (position (os, k)))
      first (member v vs) = determinant_first true ((presents s v ++ calls vs) ++ rest) os k g.1 (next_determinant al g.0 g.1 (position (os, k))) (next_sound al g.0 g.1 (position (os, k)))

      same : (o : Option FieldList) → o ≡ option_map (λ b. b) o
      same None = refl
      same (Some w) = refl

      nothing_first : field_list_at (Per.fragments al g.0 (forms vs)) (position (os, k)) ≡ field_list_at
          (both (joined (take zero (forms vs))) (Per.fragments al g.0 (drop zero (forms vs)))) (position (os, k))
      nothing_first = same (field_list_at (Per.fragments al g.0 (forms vs)) (position (os, k))) ∙
          ap (λ p. option_map (λ b. b) (field_list_at (Per.fragments al g.0 (forms vs)) p)) (behind_nothing (position (os, k)))

  members_added : (vs : Values) (n : ℕ) (hs : LengthDeterminants) → Adds vs n hs
  members_added no_more n None = ready_members no_more tt n None tt
  members_added no_more (suc n) (Some g) = ready_members no_more tt (suc n) (Some g) tt
  members_added no_more zero (Some g) = determinants_first no_more tt g
  members_added (member v vs) n None = ready_members (member v vs) (members_added vs) n None tt
  members_added (member v vs) (suc n) (Some g) = ready_members (member v vs) (members_added vs) (suc n) (Some g) tt
  members_added (member v vs) zero (Some g) = determinants_first (member v vs) (members_added vs) g

  list_added : (vs : Values) (os : FieldList) (k : List Scope) (rest : List Record) (o : Option Heading) → AllSound (member_count vs) o →
      option_and_then (λ m. runs al (calls vs ++ rest) m) (headed os k o) ≡ option_and_then (λ w. runs al rest (os ++ w, k)) (by_heading al (forms vs) (position (os, k)) o)
  list_added no_more = behind_heading no_more tt
  list_added (member v vs) = behind_heading (member v vs) (members_added vs)

-- ---- the heading is that of the form

list_leads : (al : Bool) (z : Size) (held : Counts) (us : List Per.BitForm) → Leads al (list_heading al z held (length us)) (length us) us (Per.sized al z held (λ c. false) us)
unfolding Per.sized
list_leads al z held us =
    if_leads al (is_count_within held (length us)) _ (length us) us _
    (extensible_leads al z.extensible (is_count_within z.counts (length us)) (λ q. sized_count al z.counts z.counts.high false (length us) q)
    (λ q. general al (length us) q) (length us) us (Per.sized_root al z.counts z.counts.high (λ c. false) us) (Per.counted al us)
    (count_leads al z.counts z.counts.high (λ c. false) us) (general_leads al us))

-- units under a size constraint have the field-list of their heading, and of what is due after it
pub list_field_list : (al : Bool) (z : Size) (held : Counts) (us : List Per.BitForm) (p : Option ℕ) →
    field_list_at (Per.sized al z held (λ c. false) us) p ≡ by_heading al us p (list_heading al z held (length us) p)
list_field_list al z held us p = (list_leads al z held us).field_list p

pub lists : (z : Size) (held : Counts) (s : Schema) → Bridges s → Bridges (sequence_of z held s)
unfolding presents Per.form field_list_at
lists z held s b al (in_list vs) os k rest =
    list_added al s (b al) vs os k rest (list_heading al z held (member_count vs) (position (os, k))) sound
    ∙ ap (λ n. option_and_then (λ w. runs al rest (os ++ w, k)) (by_heading al us (position (os, k)) (list_heading al z held n (position (os, k))))) (sym count)
    ∙ ap (option_and_then (λ w. runs al rest (os ++ w, k))) (sym (l.field_list (position (os, k))))
  where
    us : List Per.BitForm
    us = each (λ v. Per.form al s v) vs

    count : length us ≡ member_count vs
    count = length-each (λ v. Per.form al s v) vs

    l : Leads al (list_heading al z held (length us)) (length us) us (Per.sized al z held (λ c. false) us)
    l = list_leads al z held us

    sound : AllSound (member_count vs) (list_heading al z held (member_count vs) (position (os, k)))
    sound = rw⁻¹ count (l.sound (position (os, k)))
lists z held s b al v os k rest = refl

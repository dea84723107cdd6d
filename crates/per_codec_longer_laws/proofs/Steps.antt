-- What appending bits changes for one record.
use Rattle.std.proofs.Common.{◌≡◌, inl, inr, ◌≤◌, ℕ, zero, suc, ◌-◌, Bool, true, false, List, [], ◌∷◌, length, drop, Option, Some, None, refl, ap, sym, ◌∙◌, subst, arith}
use Rattle.asn1_model.specs.Value.{truth, nothing, number, item, bit_list, octet_list, text, arcs}
use Rattle.asn1_model.specs.Schema.{Counts, Size, boolean, null, integer, enumerated, bit_string, octet_string, character_string, object_identifier}
use Rattle.asn1_model.specs.Numbers.{binary, octet_bits}
use Rattle.asn1_model.specs.Form.{exactly, both, joined, present_ones}
use Rattle.asn1_model.specs.Per
use Rattle.asn1_schema_reading_laws.specs.PresenceBits.{preamble_bits, first_bits}
use Rattle.asn1_schema_laws.specs.Records.{Record, flag, nil, whole, one_of, bits, octets, characters, identifier}
use Rattle.asn1_schema_laws.specs.Records.{list_begins, bag_begins, further, sequence_begins, set_begins, group_begins}
use Rattle.asn1_schema_laws.specs.Records.{presence_bit, is_default, is_empty, additions_begin, addition, addition_ends}
use Rattle.asn1_schema_laws.specs.Records.{choice_begins, ends, mismatch}
use Rattle.per_codec_laws.specs.Sizes.{extension_bit, told_highest}
use Rattle.per_codec_laws.specs.Takes.{Position, State, Tally, Scope, components, added, open_type, members}
use Rattle.per_codec_laws.specs.Takes.{alternative, Front, Found, NextDeterminant, Counted, ListBegins, MemberDue}
use Rattle.per_codec_laws.specs.Takes.{NextMember, Begins, NextPresenceBit, AdditionsBegin, Opens, Closes, NextAddition}
use Rattle.per_codec_laws.specs.Takes.{AdditionEnds, unknown_forms, Chooses, Ends, Takes}
use Rattle.per_codec_laws.proofs.Next.{state_same}
use Rattle.per_codec_longer_laws.specs.More.{place_with, scopes_with, with_more, bits_behind, outermost}
use Rattle.per_codec_longer_laws.proofs.Behind.{front_less, front_more, front_back}

abbrev less : List Bool → List Bool → Type 0
less rest os = length rest ≤ length os

self_less : (l : List Bool) → less l l
self_less l = omega arith

-- in a state that is known by an equation
at_less : (b c : State) (l : List Bool) → b ≡ c → less (outermost c) l → less (outermost b) l
at_less b c l q h = subst (λ s. less (outermost s) l) (sym q) h

module _ (al : Bool) (free : Per.Freedom → Bool) where
  -- after a prefix, in scopes that add no open type
  pushed_less : (x : Per.BitForm) (p : Position) (k l : List Scope) (b : State) → Front free x p b.0 → b.1 ≡ l → bits_behind b.0 l ≡ bits_behind b.0 k → less (outermost b) (bits_behind p k)
  pushed_less x p k l b f q r = subst (λ i. less i (bits_behind p k)) (sym (ap (λ m. bits_behind b.0 m) q ∙ r)) (front_less free x k p b.0 f)

  found_less : (x : Per.BitForm) (a b : State) → Found free x a b → less (outermost b) (outermost a)
  found_less x a b f = pushed_less x a.0 a.1 a.1 b f.0 f.1 refl

  begin_less : (e : Bool) (n : ℕ) (a b : State) → Begins free e n a b → less (outermost b) (outermost a)
  begin_less e n a b f = pushed_less (exactly (preamble_bits f.0 f.1)) a.0 a.1 (components f.0 f.1 ∷ a.1) b f.4 f.5 refl

  determinant_less : (t : Tally) (k : List Scope) (a b : Position) (due : ℕ) (hs : Option Tally) → NextDeterminant al free t a b due hs → less (bits_behind b k) (bits_behind a k)
  determinant_less t k a b due hs (inl f) = front_less free (Per.at_octet al (exactly (true ∷ true ∷ binary 6 f.0))) k a b f.3
  determinant_less t k a b due hs (inr f) = front_less free (Per.short_length al due) k a b f.1

  count_less : (z : Size) (h : Counts) (out : Bool) (o : Option ℕ) (p : Position) (k : List Scope) (b : State) → Counted al free z h out o p k b → less (outermost b) (bits_behind p k)
  count_less z h out None p k b f =
      subst (λ l. less (bits_behind b.0 l) (bits_behind p k)) (sym f.3) (determinant_less (record { size = z; held = h; outside = out; counted = 0; last = 4 }) k p b.0 f.0 f.1 f.2)
  count_less z h out (Some high) p k b f = pushed_less (Per.constrained al (high - z.counts.low) (f.0 - z.counts.low)) p k (members f.0 None ∷ k) b f.2 f.3 refl

  list_less : (z : Size) (h : Counts) (n : ℕ) (a b : State) → ListBegins al free z h n a b → less (outermost b) (outermost a)
  list_less z h n a b f =
      let g = front_less free (extension_bit z.extensible f.1) a.1 a.0 f.2 f.3 in
      let c = count_less z h f.1 (told_highest f.1 z.counts.high) f.2 a.1 b f.4 in
      omega arith

  due_less : (v : Bool) (n : ℕ) (hs : Option Tally) (p : Position) (k : List Scope) (b : State) → MemberDue v n hs p k b → less (outermost b) (bits_behind p k)
  due_less v (suc n) hs p k b f = at_less b (p, members n hs ∷ k) (bits_behind p k) f.1 (self_less (bits_behind p k))
  due_less v zero None p k b f = at_less b (p, members zero None ∷ k) (bits_behind p k) f.1 (self_less (bits_behind p k))
  due_less v zero (Some t) p k b f = absurd f

  member_less : (v : Bool) (p : Position) (k : List Scope) (b : State) → NextMember al free v p k b → less (outermost b) (bits_behind p k)
  member_less v p (members zero (Some t) ∷ k) b f =
      let g = determinant_less t k p f.2 f.0 f.1 f.3 in
      let d = due_less v f.0 f.1 f.2 k b f.4 in
      omega arith
  member_less v p (members zero None ∷ k) b f = due_less v zero None p k b f
  member_less v p (members (suc n) hs ∷ k) b f = due_less v (suc n) hs p k b f
  member_less v p k b f = absurd f

  presence_bit_less : (v : Bool) (p : Position) (k : List Scope) (b : State) → NextPresenceBit v p k b → less (outermost b) (bits_behind p k)
  presence_bit_less v p (components x (m ∷ ms) ∷ k) b f = at_less b (p, components x ms ∷ k) (bits_behind p k) f.1 (self_less (bits_behind p k))
  presence_bit_less v p k b f = absurd f

  additions_less : (n : ℕ) (p : Position) (k : List Scope) (b : State) → AdditionsBegin al free n p k b → less (outermost b) (bits_behind p k)
  additions_less n p (components (Some false) [] ∷ k) b f = at_less b (p, added (first_bits n []) [] ∷ k) (bits_behind p k) f (self_less (bits_behind p k))
  additions_less n p (components (Some true) [] ∷ k) b f = pushed_less (Per.normally_few al (Per.bit_units f.0)) p k (added (first_bits n f.0) (drop n f.0) ∷ k) b f.2 f.3 refl
  additions_less n p k b f = absurd f

  open_less : (p : Position) (k : List Scope) (b : State) → Opens al free p k b → less (outermost b) (bits_behind p k)
  open_less p k b f = at_less b ((0, octet_bits f.0), open_type f.1 ∷ k) (bits_behind p k) f.3 (front_less free (Per.counted_octets al f.0) k p f.1 f.2)

  close_less : (p rest : Position) (k : List Scope) (b : State) → Closes free p rest k b → less (outermost b) (bits_behind rest k)
  close_less p rest k b f = at_less b (rest, k) (bits_behind rest k) f.6 (self_less (bits_behind rest k))

  addition_less : (v : Bool) (p : Position) (k : List Scope) (b : State) → NextAddition al free v p k b → less (outermost b) (bits_behind p k)
  addition_less v p (added (false ∷ ms) us ∷ k) b f = at_less b (p, added ms us ∷ k) (bits_behind p k) f.1 (self_less (bits_behind p k))
  addition_less v p (added (true ∷ ms) us ∷ k) b f = open_less p (added ms us ∷ k) b f.1
  addition_less v p k b f = absurd f

  addition_end_less : (p : Position) (k : List Scope) (b : State) → AdditionEnds free p k b → less (outermost b) (bits_behind p k)
  addition_end_less p (open_type rest ∷ added ms us ∷ k) b f = close_less p rest (added ms us ∷ k) b f
  addition_end_less p k b f = absurd f

  choice_less : (roots : ℕ) (e : Bool) (others : ℕ) (v : Bool) (i : ℕ) (a b : State) → Chooses al free roots e others v i a b → less (outermost b) (outermost a)
  choice_less roots e others false i a b f = pushed_less (both (Per.extension_bit_of e false) (Per.constrained al (roots - 1) i)) a.0 a.1 (alternative ∷ a.1) b f.1 f.2 refl
  choice_less roots e others true i a b f =
      let g = open_less f.2 a.1 b f.4 in
      let h = front_less free (both (exactly (true ∷ [])) (Per.normally_small al i)) a.1 a.0 f.2 f.3 in
      omega arith

  end_less : (p : Position) (k : List Scope) (b : State) → Ends al free p k b → less (outermost b) (bits_behind p k)
  end_less p (components None [] ∷ k) b f = at_less b (p, k) (bits_behind p k) f (self_less (bits_behind p k))
  end_less p (added [] us ∷ k) b f = pushed_less (joined (present_ones (unknown_forms al f.0.0))) p k k b f.0.2 f.1 refl
  end_less p (open_type rest ∷ k) b f = close_less p rest k b f
  end_less p (members zero None ∷ k) b f = at_less b (p, k) (bits_behind p k) f (self_less (bits_behind p k))
  end_less p (alternative ∷ k) b f = at_less b (p, k) (bits_behind p k) f (self_less (bits_behind p k))
  end_less p k b f = absurd f

  pub takes_less : (a : State) (r : Record) (b : State) → Takes al free a r b → less (outermost b) (outermost a)
  takes_less a (flag v) b f = found_less (Per.form al boolean (truth v)) a b f
  takes_less a nil b f = found_less (Per.form al null nothing) a b f
  takes_less a (whole z h v) b f = found_less (Per.form al (integer z h) (number v)) a b f
  takes_less a (one_of roots e adds v) b f = found_less (Per.form al (enumerated roots e adds) (item v)) a b f
  takes_less a (bits z h v) b f = found_less (Per.form al (bit_string z h) (bit_list v)) a b f
  takes_less a (octets z h v) b f = found_less (Per.form al (octet_string z h) (octet_list v)) a b f
  takes_less a (characters k z l h v) b f = found_less (Per.form al (character_string k z l h) (text v)) a b f
  takes_less a (identifier v) b f = found_less (Per.form al object_identifier (arcs v)) a b f
  takes_less a (list_begins z h n) b f = list_less z h n a b f
  takes_less a (bag_begins z h n) b f = list_less z h n a b f
  takes_less a (further v) b f = member_less v a.0 a.1 b f
  takes_less a (sequence_begins x n) b f = begin_less x n a b f
  takes_less a (set_begins x n) b f = begin_less x n a b f
  takes_less a (group_begins n) b f = begin_less false n a b f
  takes_less a (presence_bit v) b f = presence_bit_less v a.0 a.1 b f
  takes_less a is_default b f = at_less b a (outermost a) f.1 (self_less (outermost a))
  takes_less a is_empty b f = at_less b a (outermost a) f.1 (self_less (outermost a))
  takes_less a (additions_begin n) b f = additions_less n a.0 a.1 b f
  takes_less a (addition v) b f = addition_less v a.0 a.1 b f
  takes_less a addition_ends b f = addition_end_less a.0 a.1 b f
  takes_less a (choice_begins roots x others v i) b f = choice_less (length roots) x (length others) v i a b f
  takes_less a ends b f = end_less a.0 a.1 b f
  takes_less a mismatch b f = absurd f

  module _ (e : List Bool) where
    -- after a prefix, in scopes without another open type
    pushed_more : (x : Per.BitForm) (p : Position) (k l : List Scope) (b : State) → Front free x p b.0 → b.1 ≡ l →
        place_with e l b.0 ≡ place_with e k b.0 → Front free x (place_with e k p) (place_with e b.1 b.0)
    pushed_more x p k l b f q r = subst (λ i. Front free x (place_with e k p) i) (sym (ap (λ m. place_with e m b.0) q ∙ r)) (front_more free e x k p b.0 f)

    scopes_more : (b : State) (l : List Scope) → b.1 ≡ l → scopes_with e b.1 ≡ scopes_with e l
    scopes_more b l q = ap (λ k. scopes_with e k) q

    state_more : (b c : State) → b ≡ c → with_more e b ≡ with_more e c
    state_more b c q = ap (λ s. with_more e s) q

    found_more : (x : Per.BitForm) (a b : State) → Found free x a b → Found free x (with_more e a) (with_more e b)
    found_more x a b f = (pushed_more x a.0 a.1 a.1 b f.0 f.1 refl, scopes_more b a.1 f.1)

    begin_more : (x : Bool) (n : ℕ) (a b : State) → Begins free x n a b → Begins free x n (with_more e a) (with_more e b)
    begin_more x n a b f = (f.0, f.1, f.2, f.3, pushed_more (exactly (preamble_bits f.0 f.1)) a.0 a.1 (components f.0 f.1 ∷ a.1) b f.4 f.5 refl, scopes_more b (components f.0 f.1 ∷ a.1) f.5)

    determinant_more : (t : Tally) (k : List Scope) (a b : Position) (due : ℕ) (hs : Option Tally) → NextDeterminant al free t a b due hs →
        NextDeterminant al free t (place_with e k a) (place_with e k b) due hs
    determinant_more t k a b due hs (inl f) = inl (f.0, f.1, f.2, front_more free e (Per.at_octet al (exactly (true ∷ true ∷ binary 6 f.0))) k a b f.3, f.4, f.5)
    determinant_more t k a b due hs (inr f) = inr (f.0, front_more free e (Per.short_length al due) k a b f.1, f.2)

    count_more : (z : Size) (h : Counts) (out : Bool) (o : Option ℕ) (p : Position) (k : List Scope) (b : State) → Counted al free z h out o p k b →
        Counted al free z h out o (place_with e k p) (scopes_with e k) (with_more e b)
    count_more z h out None p k b f =
        let t : Tally = record { size = z; held = h; outside = out; counted = 0; last = 4 } in
        (f.0, f.1, subst (λ l. NextDeterminant al free t (place_with e k p) (place_with e l b.0) f.0 f.1) (sym f.3) (determinant_more t k p b.0 f.0 f.1 f.2), scopes_more b (members f.0 f.1 ∷ k) f.3)
    count_more z h out (Some high) p k b f =
        (f.0, f.1, pushed_more (Per.constrained al (high - z.counts.low) (f.0 - z.counts.low)) p k (members f.0 None ∷ k) b f.2 f.3 refl, scopes_more b (members f.0 None ∷ k) f.3)

    list_more : (z : Size) (h : Counts) (n : ℕ) (a b : State) → ListBegins al free z h n a b → ListBegins al free z h n (with_more e a) (with_more e b)
    list_more z h n a b f = (f.0, f.1, place_with e a.1 f.2, front_more free e (extension_bit z.extensible f.1) a.1 a.0 f.2 f.3, count_more z h f.1 (told_highest f.1 z.counts.high) f.2 a.1 b f.4)

    due_more : (v : Bool) (n : ℕ) (hs : Option Tally) (p : Position) (k : List Scope) (b : State) → MemberDue v n hs p k b → MemberDue v n hs (place_with e k p) (scopes_with e k) (with_more e b)
    due_more v (suc n) hs p k b f = (f.0, state_more b (p, members n hs ∷ k) f.1)
    due_more v zero None p k b f = (f.0, state_more b (p, members zero None ∷ k) f.1)
    due_more v zero (Some t) p k b f = absurd f

    member_more : (v : Bool) (p : Position) (k : List Scope) (b : State) → NextMember al free v p k b → NextMember al free v (place_with e k p) (scopes_with e k) (with_more e b)
    member_more v p (members zero (Some t) ∷ k) b f = (f.0, f.1, place_with e k f.2, determinant_more t k p f.2 f.0 f.1 f.3, due_more v f.0 f.1 f.2 k b f.4)
    member_more v p (members zero None ∷ k) b f = due_more v zero None p k b f
    member_more v p (members (suc n) hs ∷ k) b f = due_more v (suc n) hs p k b f
    member_more v p k b f = absurd f

    presence_bit_more : (v : Bool) (p : Position) (k : List Scope) (b : State) → NextPresenceBit v p k b → NextPresenceBit v (place_with e k p) (scopes_with e k) (with_more e b)
    presence_bit_more v p (components x (m ∷ ms) ∷ k) b f = (f.0, state_more b (p, components x ms ∷ k) f.1)
    presence_bit_more v p k b f = absurd f

    additions_more : (n : ℕ) (p : Position) (k : List Scope) (b : State) → AdditionsBegin al free n p k b → AdditionsBegin al free n (place_with e k p) (scopes_with e k) (with_more e b)
    additions_more n p (components (Some false) [] ∷ k) b f = state_more b (p, added (first_bits n []) [] ∷ k) f
    additions_more n p (components (Some true) [] ∷ k) b f =
        (f.0, f.1, pushed_more (Per.normally_few al (Per.bit_units f.0)) p k (added (first_bits n f.0) (drop n f.0) ∷ k) b f.2 f.3 refl, scopes_more b (added (first_bits n f.0) (drop n f.0) ∷ k) f.3)
    additions_more n p k b f = absurd f

    open_more : (p : Position) (k : List Scope) (b : State) → Opens al free p k b → Opens al free (place_with e k p) (scopes_with e k) (with_more e b)
    open_more p k b f = (f.0, place_with e k f.1, front_more free e (Per.counted_octets al f.0) k p f.1 f.2, state_more b ((0, octet_bits f.0), open_type f.1 ∷ k) f.3)

    close_more : (p rest : Position) (k : List Scope) (b : State) → Closes free p rest k b → Closes free p (place_with e k rest) (scopes_with e k) (with_more e b)
    close_more p rest k b f = (f.0, f.1, f.2, f.3, f.4, f.5, state_more b (rest, k) f.6)

    addition_more : (v : Bool) (p : Position) (k : List Scope) (b : State) → NextAddition al free v p k b → NextAddition al free v (place_with e k p) (scopes_with e k) (with_more e b)
    addition_more v p (added (false ∷ ms) us ∷ k) b f = (f.0, state_more b (p, added ms us ∷ k) f.1)
    addition_more v p (added (true ∷ ms) us ∷ k) b f = (f.0, open_more p (added ms us ∷ k) b f.1)
    addition_more v p k b f = absurd f

    addition_end_more : (p : Position) (k : List Scope) (b : State) → AdditionEnds free p k b → AdditionEnds free (place_with e k p) (scopes_with e k) (with_more e b)
    addition_end_more p (open_type rest ∷ added ms us ∷ k) b f = close_more p rest (added ms us ∷ k) b f
    addition_end_more p k b f = absurd f

    choice_more : (roots : ℕ) (x : Bool) (others : ℕ) (v : Bool) (i : ℕ) (a b : State) → Chooses al free roots x others v i a b → Chooses al free roots x others v i (with_more e a) (with_more e b)
    choice_more roots x others false i a b f =
        (f.0, pushed_more (both (Per.extension_bit_of x false) (Per.constrained al (roots - 1) i)) a.0 a.1 (alternative ∷ a.1) b f.1 f.2 refl, scopes_more b (alternative ∷ a.1) f.2)
    choice_more roots x others true i a b f = (f.0, f.1, place_with e a.1 f.2, front_more free e (both (exactly (true ∷ [])) (Per.normally_small al i)) a.1 a.0 f.2 f.3, open_more f.2 a.1 b f.4)

    end_more : (p : Position) (k : List Scope) (b : State) → Ends al free p k b → Ends al free (place_with e k p) (scopes_with e k) (with_more e b)
    end_more p (components None [] ∷ k) b f = state_more b (p, k) f
    end_more p (added [] us ∷ k) b f = ((f.0.0, f.0.1, pushed_more (joined (present_ones (unknown_forms al f.0.0))) p k k b f.0.2 f.1 refl), scopes_more b k f.1)
    end_more p (open_type rest ∷ k) b f = close_more p rest k b f
    end_more p (members zero None ∷ k) b f = state_more b (p, k) f
    end_more p (alternative ∷ k) b f = state_more b (p, k) f
    end_more p k b f = absurd f

    pub takes_more : (a : State) (r : Record) (b : State) → Takes al free a r b → Takes al free (with_more e a) r (with_more e b)
    takes_more a (flag v) b f = found_more (Per.form al boolean (truth v)) a b f
    takes_more a nil b f = found_more (Per.form al null nothing) a b f
    takes_more a (whole z h v) b f = found_more (Per.form al (integer z h) (number v)) a b f
    takes_more a (one_of roots x adds v) b f = found_more (Per.form al (enumerated roots x adds) (item v)) a b f
    takes_more a (bits z h v) b f = found_more (Per.form al (bit_string z h) (bit_list v)) a b f
    takes_more a (octets z h v) b f = found_more (Per.form al (octet_string z h) (octet_list v)) a b f
    takes_more a (characters k z l h v) b f = found_more (Per.form al (character_string k z l h) (text v)) a b f
    takes_more a (identifier v) b f = found_more (Per.form al object_identifier (arcs v)) a b f
    takes_more a (list_begins z h n) b f = list_more z h n a b f
    takes_more a (bag_begins z h n) b f = list_more z h n a b f
    takes_more a (further v) b f = member_more v a.0 a.1 b f
    takes_more a (sequence_begins x n) b f = begin_more x n a b f
    takes_more a (set_begins x n) b f = begin_more x n a b f
    takes_more a (group_begins n) b f = begin_more false n a b f
    takes_more a (presence_bit v) b f = presence_bit_more v a.0 a.1 b f
    takes_more a is_default b f = (f.0, state_more b a f.1)
    takes_more a is_empty b f = (f.0, state_more b a f.1)
    takes_more a (additions_begin n) b f = additions_more n a.0 a.1 b f
    takes_more a (addition v) b f = addition_more v a.0 a.1 b f
    takes_more a addition_ends b f = addition_end_more a.0 a.1 b f
    takes_more a (choice_begins roots x others v i) b f = choice_more (length roots) x (length others) v i a b f
    takes_more a ends b f = end_more a.0 a.1 b f
    takes_more a mismatch b f = absurd f

    -- ---- what is left is not needed
    abbrev pub Back : State → (State → Type 0) → Type 0
    Back c p = (b : State) × (c ≡ with_more e b) × p b

    -- after a prefix, in scopes without another open type
    pushed_back : (x : Per.BitForm) (p : Position) (k l : List Scope) (c : State) → Front free x (place_with e k p) c.0 → c.1 ≡ scopes_with e l →
        bits_behind c.0 (scopes_with e l) ≡ bits_behind c.0 (scopes_with e k) → ((r : Position) → place_with e k r ≡ place_with e l r) →
        less e (outermost c) → Back c (λ b. Front free x p b.0 × (b.1 ≡ l))
    pushed_back x p k l c f q r s h =
        let z = front_back free e x k p c.0 f (subst (λ i. less e i) (ap (λ m. bits_behind c.0 m) q ∙ r) h) in
        ((z.0, l), state_same c (with_more e (z.0, l)) (z.1 ∙ s z.0) q, (z.2, refl))

    found_back : (x : Per.BitForm) (a c : State) → Found free x (with_more e a) c → less e (outermost c) → Back c (λ b. Found free x a b)
    found_back x a c f h = pushed_back x a.0 a.1 a.1 c f.0 f.1 refl (λ r. refl) h

    begin_back : (x : Bool) (n : ℕ) (a c : State) → Begins free x n (with_more e a) c → less e (outermost c) → Back c (λ b. Begins free x n a b)
    begin_back x n a c f h =
        let z = pushed_back (exactly (preamble_bits f.0 f.1)) a.0 a.1 (components f.0 f.1 ∷ a.1) c f.4 f.5 refl (λ r. refl) h in
        (z.0, z.1, (f.0, f.1, f.2, f.3, z.2.0, z.2.1))

    determinant_back : (t : Tally) (k : List Scope) (a r : Position) (due : ℕ) (hs : Option Tally) →
        NextDeterminant al free t (place_with e k a) r due hs → less e (bits_behind r (scopes_with e k)) → (b : Position) × (r ≡ place_with e k b) × NextDeterminant al free t a b due hs
    determinant_back t k a r due hs (inl f) h =
        let z = front_back free e (Per.at_octet al (exactly (true ∷ true ∷ binary 6 f.0))) k a r f.3 h in
        (z.0, z.1, inl (f.0, f.1, f.2, z.2, f.4, f.5))
    determinant_back t k a r due hs (inr f) h =
        let z = front_back free e (Per.short_length al due) k a r f.1 h in
        (z.0, z.1, inr (f.0, z.2, f.2))

    count_back : (z : Size) (i : Counts) (out : Bool) (o : Option ℕ) (p : Position) (k : List Scope) (c : State) →
        Counted al free z i out o (place_with e k p) (scopes_with e k) c → less e (outermost c) → Back c (λ b. Counted al free z i out o p k b)
    count_back z i out None p k c f h =
        let t : Tally = record { size = z; held = i; outside = out; counted = 0; last = 4 } in
        let y = determinant_back t k p c.0 f.0 f.1 f.2 (subst (λ l. less e (bits_behind c.0 l)) f.3 h) in
        ((y.0, members f.0 f.1 ∷ k), state_same c (with_more e (y.0, members f.0 f.1 ∷ k)) y.1 f.3, (f.0, f.1, y.2, refl))
    count_back z i out (Some high) p k c f h =
        let y = pushed_back (Per.constrained al (high - z.counts.low) (f.0 - z.counts.low)) p k (members f.0 None ∷ k) c f.2 f.3 refl (λ r. refl) h in
        (y.0, y.1, (f.0, f.1, y.2.0, y.2.1))

    list_back : (z : Size) (i : Counts) (n : ℕ) (a c : State) → ListBegins al free z i n (with_more e a) c → less e (outermost c) → Back c (λ b. ListBegins al free z i n a b)
    list_back z i n a c f h =
        let l = count_less z i f.1 (told_highest f.1 z.counts.high) f.2 (scopes_with e a.1) c f.4 in
        let y = front_back free e (extension_bit z.extensible f.1) a.1 a.0 f.2 f.3 (omega arith) in
        let d = count_back z i f.1 (told_highest f.1 z.counts.high) y.0 a.1 c (subst (λ p. Counted al free z i f.1 (told_highest f.1 z.counts.high) p (scopes_with e a.1) c) y.1 f.4) h in
        (d.0, d.1, (f.0, f.1, y.0, y.2, d.2))

    due_back : (v : Bool) (n : ℕ) (hs : Option Tally) (p : Position) (k : List Scope) (c : State) → MemberDue v n hs (place_with e k p) (scopes_with e k) c → Back c (λ b. MemberDue v n hs p k b)
    due_back v (suc n) hs p k c f = ((p, members n hs ∷ k), f.1, (f.0, refl))
    due_back v zero None p k c f = ((p, members zero None ∷ k), f.1, (f.0, refl))
    due_back v zero (Some t) p k c f = absurd f

    member_back : (v : Bool) (p : Position) (k : List Scope) (c : State) → NextMember al free v (place_with e k p) (scopes_with e k) c → less e (outermost c) → Back c (λ b. NextMember al free v p k b)
    member_back v p (members zero (Some t) ∷ k) c f h =
        let l = due_less v f.0 f.1 f.2 (scopes_with e k) c f.4 in
        let z = determinant_back t k p f.2 f.0 f.1 f.3 (omega arith) in
        let y = due_back v f.0 f.1 z.0 k c (subst (λ q. MemberDue v f.0 f.1 q (scopes_with e k) c) z.1 f.4) in
        (y.0, y.1, (f.0, f.1, z.0, z.2, y.2))
    member_back v p (members zero None ∷ k) c f h = due_back v zero None p k c f
    member_back v p (members (suc n) hs ∷ k) c f h = due_back v (suc n) hs p k c f
    member_back v p k c f h = absurd f

    presence_bit_back : (v : Bool) (p : Position) (k : List Scope) (c : State) → NextPresenceBit v (place_with e k p) (scopes_with e k) c → Back c (λ b. NextPresenceBit v p k b)
    presence_bit_back v p (components x (m ∷ ms) ∷ k) c f = ((p, components x ms ∷ k), f.1, (f.0, refl))
    presence_bit_back v p k c f = absurd f

    additions_back : (n : ℕ) (p : Position) (k : List Scope) (c : State) → AdditionsBegin al free n (place_with e k p) (scopes_with e k) c →
        less e (outermost c) → Back c (λ b. AdditionsBegin al free n p k b)
    additions_back n p (components (Some false) [] ∷ k) c f h = ((p, added (first_bits n []) [] ∷ k), f, refl)
    additions_back n p (components (Some true) [] ∷ k) c f h =
        let z = pushed_back (Per.normally_few al (Per.bit_units f.0)) p k (added (first_bits n f.0) (drop n f.0) ∷ k) c f.2 f.3 refl (λ r. refl) h in
        (z.0, z.1, (f.0, f.1, z.2.0, z.2.1))
    additions_back n p k c f h = absurd f

    open_back : (p : Position) (k : List Scope) (c : State) → Opens al free (place_with e k p) (scopes_with e k) c → less e (outermost c) → Back c (λ b. Opens al free p k b)
    open_back p k c f h =
        let z = front_back free e (Per.counted_octets al f.0) k p f.1 f.2 (subst (λ s. less e (outermost s)) f.3 h) in
        (((0, octet_bits f.0), open_type z.0 ∷ k), f.3 ∙ ap (λ (r : Position). ((0, octet_bits f.0), open_type r ∷ scopes_with e k)) z.1, (f.0, z.0, z.2, refl))

    close_back : (p rest : Position) (k : List Scope) (c : State) → Closes free p (place_with e k rest) (scopes_with e k) c → Back c (λ b. Closes free p rest k b)
    close_back p rest k c f = ((rest, k), f.6, (f.0, f.1, f.2, f.3, f.4, f.5, refl))

    addition_back : (v : Bool) (p : Position) (k : List Scope) (c : State) → NextAddition al free v (place_with e k p) (scopes_with e k) c →
        less e (outermost c) → Back c (λ b. NextAddition al free v p k b)
    addition_back v p (added (false ∷ ms) us ∷ k) c f h = ((p, added ms us ∷ k), f.1, (f.0, refl))
    addition_back v p (added (true ∷ ms) us ∷ k) c f h = let z = open_back p (added ms us ∷ k) c f.1 h in (z.0, z.1, (f.0, z.2))
    addition_back v p k c f h = absurd f

    addition_end_back : (p : Position) (k : List Scope) (c : State) → AdditionEnds free (place_with e k p) (scopes_with e k) c → Back c (λ b. AdditionEnds free p k b)
    addition_end_back p (open_type rest ∷ added ms us ∷ k) c f = close_back p rest (added ms us ∷ k) c f
    addition_end_back p k c f = absurd f

    choice_back : (roots : ℕ) (x : Bool) (others : ℕ) (v : Bool) (i : ℕ) (a c : State) → Chooses al free roots x others v i (with_more e a) c →
        less e (outermost c) → Back c (λ b. Chooses al free roots x others v i a b)
    choice_back roots x others false i a c f h =
        let z = pushed_back (both (Per.extension_bit_of x false) (Per.constrained al (roots - 1) i)) a.0 a.1 (alternative ∷ a.1) c f.1 f.2 refl (λ r. refl) h in
        (z.0, z.1, (f.0, z.2.0, z.2.1))
    choice_back roots x others true i a c f h =
        let l = open_less f.2 (scopes_with e a.1) c f.4 in
        let z = front_back free e (both (exactly (true ∷ [])) (Per.normally_small al i)) a.1 a.0 f.2 f.3 (omega arith) in
        let y = open_back z.0 a.1 c (subst (λ p. Opens al free p (scopes_with e a.1) c) z.1 f.4) h in
        (y.0, y.1, (f.0, f.1, z.0, z.2, y.2))

    end_back : (p : Position) (k : List Scope) (c : State) → Ends al free (place_with e k p) (scopes_with e k) c → less e (outermost c) → Back c (λ b. Ends al free p k b)
    end_back p (components None [] ∷ k) c f h = ((p, k), f, refl)
    end_back p (added [] us ∷ k) c f h =
        let z = pushed_back (joined (present_ones (unknown_forms al f.0.0))) p k k c f.0.2 f.1 refl (λ r. refl) h in
        (z.0, z.1, ((f.0.0, f.0.1, z.2.0), z.2.1))
    end_back p (open_type rest ∷ k) c f h = close_back p rest k c f
    end_back p (members zero None ∷ k) c f h = ((p, k), f, refl)
    end_back p (alternative ∷ k) c f h = ((p, k), f, refl)
    end_back p k c f h = absurd f

    pub takes_back : (a : State) (r : Record) (c : State) → Takes al free (with_more e a) r c → less e (outermost c) → Back c (λ b. Takes al free a r b)
    takes_back a (flag v) c f h = found_back (Per.form al boolean (truth v)) a c f h
    takes_back a nil c f h = found_back (Per.form al null nothing) a c f h
    takes_back a (whole z i v) c f h = found_back (Per.form al (integer z i) (number v)) a c f h
    takes_back a (one_of roots x adds v) c f h = found_back (Per.form al (enumerated roots x adds) (item v)) a c f h
    takes_back a (bits z i v) c f h = found_back (Per.form al (bit_string z i) (bit_list v)) a c f h
    takes_back a (octets z i v) c f h = found_back (Per.form al (octet_string z i) (octet_list v)) a c f h
    takes_back a (characters k z l i v) c f h = found_back (Per.form al (character_string k z l i) (text v)) a c f h
    takes_back a (identifier v) c f h = found_back (Per.form al object_identifier (arcs v)) a c f h
    takes_back a (list_begins z i n) c f h = list_back z i n a c f h
    takes_back a (bag_begins z i n) c f h = list_back z i n a c f h
    takes_back a (further v) c f h = member_back v a.0 a.1 c f h
    takes_back a (sequence_begins x n) c f h = begin_back x n a c f h
    takes_back a (set_begins x n) c f h = begin_back x n a c f h
    takes_back a (group_begins n) c f h = begin_back false n a c f h
    takes_back a (presence_bit v) c f h = presence_bit_back v a.0 a.1 c f
    takes_back a is_default c f h = (a, f.1, (f.0, refl))
    takes_back a is_empty c f h = (a, f.1, (f.0, refl))
    takes_back a (additions_begin n) c f h = additions_back n a.0 a.1 c f h
    takes_back a (addition v) c f h = addition_back v a.0 a.1 c f h
    takes_back a addition_ends c f h = addition_end_back a.0 a.1 c f
    takes_back a (choice_begins roots x others v i) c f h = choice_back (length roots) x (length others) v i a c f h
    takes_back a ends c f h = end_back a.0 a.1 c f h
    takes_back a mismatch c f h = absurd f

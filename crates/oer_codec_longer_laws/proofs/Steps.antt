-- What appending octets changes for one record.
use Rattle.std.proofs.Common.{◌≡◌, ◌≤◌, ℕ, zero, suc, Bool, true, false, List, [], ◌∷◌, length, drop, Some, None, refl, ap, sym, ◌∙◌, subst, arith}
use Rattle.asn1_model.specs.Value.{truth, nothing, number, item, bit_list, octet_list, text, arcs}
use Rattle.asn1_model.specs.Schema.{Tag, Counts, boolean, null, integer, enumerated, bit_string, octet_string, character_string, object_identifier}
use Rattle.asn1_model.specs.Form.{joined, present_ones}
use Rattle.asn1_model.specs.Oer
use Rattle.asn1_schema_reading_laws.specs.PresenceBits.{preamble_bits, first_bits}
use Rattle.asn1_schema_laws.specs.Records.{Record, flag, nil, whole, one_of, bits, octets, characters, identifier}
use Rattle.asn1_schema_laws.specs.Records.{list_begins, bag_begins, further, sequence_begins, set_begins, group_begins}
use Rattle.asn1_schema_laws.specs.Records.{presence_bit, is_default, is_empty, additions_begin, addition, addition_ends}
use Rattle.asn1_schema_laws.specs.Records.{choice_begins, ends, mismatch}
use Rattle.oer_codec_laws.specs.Takes.{State, Scope, components, added, open_type, members, alternative, Front, Found}
use Rattle.oer_codec_laws.specs.Takes.{ListBegins, NextMember, Begins, NextPresenceBit, AdditionsBegin, Opens, Closes}
use Rattle.oer_codec_laws.specs.Takes.{NextAddition, AdditionEnds, unknown_forms, Enters, Chooses, Ends, Takes}
use Rattle.oer_codec_laws.proofs.Next.{state_same}
use Rattle.oer_codec_longer_laws.specs.More.{octets_with, scopes_with, with_more, octets_behind, outermost}
use Rattle.oer_codec_longer_laws.proofs.Behind.{front_less, front_more, front_back}

abbrev less : List ℕ → List ℕ → Type 0
less rest os = length rest ≤ length os

self_less : (l : List ℕ) → less l l
self_less l = omega arith

-- in a state that is known by an equation
at_less : (b c : State) (l : List ℕ) → b ≡ c → less (outermost c) l → less (outermost b) l
at_less b c l q h = subst (λ s. less (outermost s) l) (sym q) h

module _ (free : Oer.Freedom → Bool) where
  -- after a prefix, in scopes that add no open type
  pushed_less : (x : Oer.OctetForm) (os : List ℕ) (k l : List Scope) (b : State) → Front free x os b.0 → b.1 ≡ l → octets_behind b.0 l ≡ octets_behind b.0 k → less (outermost b) (octets_behind os k)
  pushed_less x os k l b f q r = subst (λ i. less i (octets_behind os k)) (sym (ap (λ m. octets_behind b.0 m) q ∙ r)) (front_less free x k os b.0 f)

  found_less : (x : Oer.OctetForm) (a b : State) → Found free x a b → less (outermost b) (outermost a)
  found_less x a b f = pushed_less x a.0 a.1 a.1 b f.0 f.1 refl

  count_less : (h : Counts) (n : ℕ) (a b : State) → ListBegins free h n a b → less (outermost b) (outermost a)
  count_less h n a b f = pushed_less (Oer.unsigned f.0) a.0 a.1 (members f.0 ∷ a.1) b f.3 f.4 refl

  begin_less : (e : Bool) (n : ℕ) (a b : State) → Begins free e n a b → less (outermost b) (outermost a)
  begin_less e n a b f = pushed_less (Oer.preamble (preamble_bits f.0 f.1)) a.0 a.1 (components f.0 f.1 ∷ a.1) b f.4 f.5 refl

  member_less : (v : Bool) (os : List ℕ) (k : List Scope) (b : State) → NextMember v os k b → less (outermost b) (octets_behind os k)
  member_less v os (members zero ∷ k) b f = at_less b (os, members zero ∷ k) (octets_behind os k) f.1 (self_less (octets_behind os k))
  member_less v os (members (suc n) ∷ k) b f = at_less b (os, members n ∷ k) (octets_behind os k) f.1 (self_less (octets_behind os k))
  member_less v os k b f = absurd f

  presence_bit_less : (v : Bool) (os : List ℕ) (k : List Scope) (b : State) → NextPresenceBit v os k b → less (outermost b) (octets_behind os k)
  presence_bit_less v os (components x (m ∷ ms) ∷ k) b f = at_less b (os, components x ms ∷ k) (octets_behind os k) f.1 (self_less (octets_behind os k))
  presence_bit_less v os k b f = absurd f

  additions_less : (n : ℕ) (os : List ℕ) (k : List Scope) (b : State) → AdditionsBegin free n os k b → less (outermost b) (octets_behind os k)
  additions_less n os (components (Some false) [] ∷ k) b f = at_less b (os, added (first_bits n []) [] ∷ k) (octets_behind os k) f (self_less (octets_behind os k))
  additions_less n os (components (Some true) [] ∷ k) b f = pushed_less (Oer.counted_bits f.0) os k (added (first_bits n f.0) (drop n f.0) ∷ k) b f.2 f.3 refl
  additions_less n os k b f = absurd f

  open_less : (os : List ℕ) (k : List Scope) (b : State) → Opens free os k b → less (outermost b) (octets_behind os k)
  open_less os k b f = subst (λ l. less (octets_behind b.0 l) (octets_behind os k)) (sym f.2) (front_less free (Oer.counted b.0) k os f.0 f.1)

  close_less : (os rest : List ℕ) (k : List Scope) (b : State) → Closes free os rest k b → less (outermost b) (octets_behind rest k)
  close_less os rest k b f = at_less b (rest, k) (octets_behind rest k) f.1 (self_less (octets_behind rest k))

  addition_less : (v : Bool) (os : List ℕ) (k : List Scope) (b : State) → NextAddition free v os k b → less (outermost b) (octets_behind os k)
  addition_less v os (added (false ∷ ms) us ∷ k) b f = at_less b (os, added ms us ∷ k) (octets_behind os k) f.1 (self_less (octets_behind os k))
  addition_less v os (added (true ∷ ms) us ∷ k) b f = open_less os (added ms us ∷ k) b f.1
  addition_less v os k b f = absurd f

  addition_end_less : (os : List ℕ) (k : List Scope) (b : State) → AdditionEnds free os k b → less (outermost b) (octets_behind os k)
  addition_end_less os (open_type rest ∷ added ms us ∷ k) b f = close_less os rest (added ms us ∷ k) b f
  addition_end_less os k b f = absurd f

  entry_less : (v : Bool) (os : List ℕ) (k : List Scope) (b : State) → Enters free v os k b → less (outermost b) (octets_behind os k)
  entry_less false os k b f = at_less b (os, alternative ∷ k) (octets_behind os k) f (self_less (octets_behind os k))
  entry_less true os k b f = open_less os k b f

  choice_less : (roots : List Tag) (e : Bool) (others : List Tag) (v : Bool) (i : ℕ) (a b : State) → Chooses free roots e others v i a b → less (outermost b) (outermost a)
  choice_less roots e others v i a b f =
      let g = entry_less v f.1 a.1 b f.4 in
      let h = front_less free (Oer.tag_form f.0) a.1 a.0 f.1 f.3 in
      omega arith

  end_less : (os : List ℕ) (k : List Scope) (b : State) → Ends free os k b → less (outermost b) (octets_behind os k)
  end_less os (components None [] ∷ k) b f = at_less b (os, k) (octets_behind os k) f (self_less (octets_behind os k))
  end_less os (added [] us ∷ k) b f = pushed_less (joined (present_ones (unknown_forms f.0.0))) os k k b f.0.2 f.1 refl
  end_less os (open_type rest ∷ k) b f = close_less os rest k b f
  end_less os (members zero ∷ k) b f = at_less b (os, k) (octets_behind os k) f (self_less (octets_behind os k))
  end_less os (alternative ∷ k) b f = at_less b (os, k) (octets_behind os k) f (self_less (octets_behind os k))
  end_less os k b f = absurd f

  pub takes_less : (a : State) (r : Record) (b : State) → Takes free a r b → less (outermost b) (outermost a)
  takes_less a (flag v) b f = found_less (Oer.form boolean (truth v)) a b f
  takes_less a nil b f = found_less (Oer.form null nothing) a b f
  takes_less a (whole z h v) b f = found_less (Oer.form (integer z h) (number v)) a b f
  takes_less a (one_of roots e adds v) b f = found_less (Oer.form (enumerated roots e adds) (item v)) a b f
  takes_less a (bits z h v) b f = found_less (Oer.form (bit_string z h) (bit_list v)) a b f
  takes_less a (octets z h v) b f = found_less (Oer.form (octet_string z h) (octet_list v)) a b f
  takes_less a (characters k z l h v) b f = found_less (Oer.form (character_string k z l h) (text v)) a b f
  takes_less a (identifier v) b f = found_less (Oer.form object_identifier (arcs v)) a b f
  takes_less a (list_begins z h n) b f = count_less h n a b f
  takes_less a (bag_begins z h n) b f = count_less h n a b f
  takes_less a (further v) b f = member_less v a.0 a.1 b f
  takes_less a (sequence_begins x n) b f = begin_less x n a b f
  takes_less a (set_begins x n) b f = begin_less x n a b f
  takes_less a (group_begins n) b f = begin_less false n a b f
  takes_less a (presence_bit v) b f = presence_bit_less v a.0 a.1 b f
  takes_less a is_default b f = at_less b a (outermost a) f.1 (self_less (outermost a))
  takes_less a is_empty b f = at_less b a (outermost a) f.1 (self_less (outermost a))
  takes_less a (additions_begin n) b f = additions_less n a.0 a.1 b f
  takes_less a (addition v) b f = addition_less v a.0 a.1 b f
  takes_less a addition_ends b f = addition_end_less a.0 a.1 b f
  takes_less a (choice_begins roots x others v i) b f = choice_less roots x others v i a b f
  takes_less a ends b f = end_less a.0 a.1 b f
  takes_less a mismatch b f = absurd f

  module _ (e : List ℕ) where
    -- after a prefix, in scopes without another open type
    pushed_more : (x : Oer.OctetForm) (os : List ℕ) (k l : List Scope) (b : State) → Front free x os b.0 → b.1 ≡ l →
        octets_with e l b.0 ≡ octets_with e k b.0 → Front free x (octets_with e k os) (octets_with e b.1 b.0)
    pushed_more x os k l b f q r = subst (λ i. Front free x (octets_with e k os) i) (sym (ap (λ m. octets_with e m b.0) q ∙ r)) (front_more free e x k os b.0 f)

    scopes_more : (b : State) (l : List Scope) → b.1 ≡ l → scopes_with e b.1 ≡ scopes_with e l
    scopes_more b l q = ap (λ k. scopes_with e k) q

    state_more : (b c : State) → b ≡ c → with_more e b ≡ with_more e c
    state_more b c q = ap (λ s. with_more e s) q

    found_more : (x : Oer.OctetForm) (a b : State) → Found free x a b → Found free x (with_more e a) (with_more e b)
    found_more x a b f = (pushed_more x a.0 a.1 a.1 b f.0 f.1 refl, scopes_more b a.1 f.1)

    count_more : (h : Counts) (n : ℕ) (a b : State) → ListBegins free h n a b → ListBegins free h n (with_more e a) (with_more e b)
    count_more h n a b f = (f.0, f.1, f.2, pushed_more (Oer.unsigned f.0) a.0 a.1 (members f.0 ∷ a.1) b f.3 f.4 refl, scopes_more b (members f.0 ∷ a.1) f.4)

    begin_more : (x : Bool) (n : ℕ) (a b : State) → Begins free x n a b → Begins free x n (with_more e a) (with_more e b)
    begin_more x n a b f = (f.0, f.1, f.2, f.3, pushed_more (Oer.preamble (preamble_bits f.0 f.1)) a.0 a.1 (components f.0 f.1 ∷ a.1) b f.4 f.5 refl, scopes_more b (components f.0 f.1 ∷ a.1) f.5)

    pub member_more : (v : Bool) (os : List ℕ) (k : List Scope) (b : State) → NextMember v os k b → NextMember v (octets_with e k os) (scopes_with e k) (with_more e b)
    member_more v os (members zero ∷ k) b f = (f.0, state_more b (os, members zero ∷ k) f.1)
    member_more v os (members (suc n) ∷ k) b f = (f.0, state_more b (os, members n ∷ k) f.1)
    member_more v os k b f = absurd f

    presence_bit_more : (v : Bool) (os : List ℕ) (k : List Scope) (b : State) → NextPresenceBit v os k b → NextPresenceBit v (octets_with e k os) (scopes_with e k) (with_more e b)
    presence_bit_more v os (components x (m ∷ ms) ∷ k) b f = (f.0, state_more b (os, components x ms ∷ k) f.1)
    presence_bit_more v os k b f = absurd f

    additions_more : (n : ℕ) (os : List ℕ) (k : List Scope) (b : State) → AdditionsBegin free n os k b → AdditionsBegin free n (octets_with e k os) (scopes_with e k) (with_more e b)
    additions_more n os (components (Some false) [] ∷ k) b f = state_more b (os, added (first_bits n []) [] ∷ k) f
    additions_more n os (components (Some true) [] ∷ k) b f =
        (f.0, f.1, pushed_more (Oer.counted_bits f.0) os k (added (first_bits n f.0) (drop n f.0) ∷ k) b f.2 f.3 refl, scopes_more b (added (first_bits n f.0) (drop n f.0) ∷ k) f.3)
    additions_more n os k b f = absurd f

    open_more : (os : List ℕ) (k : List Scope) (b : State) → Opens free os k b → Opens free (octets_with e k os) (scopes_with e k) (with_more e b)
    open_more os k b f =
        let g : Front free (Oer.counted (octets_with e b.1 b.0)) (octets_with e k os) (octets_with e k f.0) =
        subst (λ l. Front free (Oer.counted (octets_with e l b.0)) (octets_with e k os) (octets_with e k f.0)) (sym f.2) (front_more free e (Oer.counted b.0) k os f.0 f.1) in
        (octets_with e k f.0, g, scopes_more b (open_type f.0 ∷ k) f.2)

    close_more : (os rest : List ℕ) (k : List Scope) (b : State) → Closes free os rest k b → Closes free os (octets_with e k rest) (scopes_with e k) (with_more e b)
    close_more os rest k b f = (f.0, state_more b (rest, k) f.1)

    addition_more : (v : Bool) (os : List ℕ) (k : List Scope) (b : State) → NextAddition free v os k b → NextAddition free v (octets_with e k os) (scopes_with e k) (with_more e b)
    addition_more v os (added (false ∷ ms) us ∷ k) b f = (f.0, state_more b (os, added ms us ∷ k) f.1)
    addition_more v os (added (true ∷ ms) us ∷ k) b f = (f.0, open_more os (added ms us ∷ k) b f.1)
    addition_more v os k b f = absurd f

    addition_end_more : (os : List ℕ) (k : List Scope) (b : State) → AdditionEnds free os k b → AdditionEnds free (octets_with e k os) (scopes_with e k) (with_more e b)
    addition_end_more os (open_type rest ∷ added ms us ∷ k) b f = close_more os rest (added ms us ∷ k) b f
    addition_end_more os k b f = absurd f

    entry_more : (v : Bool) (os : List ℕ) (k : List Scope) (b : State) → Enters free v os k b → Enters free v (octets_with e k os) (scopes_with e k) (with_more e b)
    entry_more false os k b f = state_more b (os, alternative ∷ k) f
    entry_more true os k b f = open_more os k b f

    choice_more : (roots : List Tag) (x : Bool) (others : List Tag) (v : Bool) (i : ℕ) (a b : State) → Chooses free roots x others v i a b →
        Chooses free roots x others v i (with_more e a) (with_more e b)
    choice_more roots x others v i a b f = (f.0, octets_with e a.1 f.1, f.2, front_more free e (Oer.tag_form f.0) a.1 a.0 f.1 f.3, entry_more v f.1 a.1 b f.4)

    end_more : (os : List ℕ) (k : List Scope) (b : State) → Ends free os k b → Ends free (octets_with e k os) (scopes_with e k) (with_more e b)
    end_more os (components None [] ∷ k) b f = state_more b (os, k) f
    end_more os (added [] us ∷ k) b f = ((f.0.0, f.0.1, pushed_more (joined (present_ones (unknown_forms f.0.0))) os k k b f.0.2 f.1 refl), scopes_more b k f.1)
    end_more os (open_type rest ∷ k) b f = close_more os rest k b f
    end_more os (members zero ∷ k) b f = state_more b (os, k) f
    end_more os (alternative ∷ k) b f = state_more b (os, k) f
    end_more os k b f = absurd f

    pub takes_more : (a : State) (r : Record) (b : State) → Takes free a r b → Takes free (with_more e a) r (with_more e b)
    takes_more a (flag v) b f = found_more (Oer.form boolean (truth v)) a b f
    takes_more a nil b f = found_more (Oer.form null nothing) a b f
    takes_more a (whole z h v) b f = found_more (Oer.form (integer z h) (number v)) a b f
    takes_more a (one_of roots x adds v) b f = found_more (Oer.form (enumerated roots x adds) (item v)) a b f
    takes_more a (bits z h v) b f = found_more (Oer.form (bit_string z h) (bit_list v)) a b f
    takes_more a (octets z h v) b f = found_more (Oer.form (octet_string z h) (octet_list v)) a b f
    takes_more a (characters k z l h v) b f = found_more (Oer.form (character_string k z l h) (text v)) a b f
    takes_more a (identifier v) b f = found_more (Oer.form object_identifier (arcs v)) a b f
    takes_more a (list_begins z h n) b f = count_more h n a b f
    takes_more a (bag_begins z h n) b f = count_more h n a b f
    takes_more a (further v) b f = member_more v a.0 a.1 b f
    takes_more a (sequence_begins x n) b f = begin_more x n a b f
    takes_more a (set_begins x n) b f = begin_more x n a b f
    takes_more a (group_begins n) b f = begin_more false n a b f
    takes_more a (presence_bit v) b f = presence_bit_more v a.0 a.1 b f
    takes_more a is_default b f = (f.0, state_more b a f.1)
    takes_more a is_empty b f = (f.0, state_more b a f.1)
    takes_more a (additions_begin n) b f = additions_more n a.0 a.1 b f
    takes_more a (addition v) b f = addition_more v a.0 a.1 b f
    takes_more a addition_ends b f = addition_end_more a.0 a.1 b f
    takes_more a (choice_begins roots x others v i) b f = choice_more roots x others v i a b f
    takes_more a ends b f = end_more a.0 a.1 b f
    takes_more a mismatch b f = absurd f

    -- ---- what is left is not needed
    abbrev pub Back : State → (State → Type 0) → Type 0
    Back c p = (b : State) × (c ≡ with_more e b) × p b

    -- after a prefix, in scopes without another open type
    pushed_back : (x : Oer.OctetForm) (os : List ℕ) (k l : List Scope) (c : State) → Front free x (octets_with e k os) c.0 → c.1 ≡ scopes_with e l →
        octets_behind c.0 (scopes_with e l) ≡ octets_behind c.0 (scopes_with e k) → ((r : List ℕ) → octets_with e k r ≡ octets_with e l r) →
        less e (outermost c) → Back c (λ b. Front free x os b.0 × (b.1 ≡ l))
    pushed_back x os k l c f q r s h =
        let z = front_back free e x k os c.0 f (subst (λ i. less e i) (ap (λ m. octets_behind c.0 m) q ∙ r) h) in
        ((z.0, l), state_same c (with_more e (z.0, l)) (z.1 ∙ s z.0) q, (z.2, refl))

    found_back : (x : Oer.OctetForm) (a c : State) → Found free x (with_more e a) c → less e (outermost c) → Back c (λ b. Found free x a b)
    found_back x a c f h = pushed_back x a.0 a.1 a.1 c f.0 f.1 refl (λ r. refl) h

    count_back : (i : Counts) (n : ℕ) (a c : State) → ListBegins free i n (with_more e a) c → less e (outermost c) → Back c (λ b. ListBegins free i n a b)
    count_back i n a c f h =
        let z = pushed_back (Oer.unsigned f.0) a.0 a.1 (members f.0 ∷ a.1) c f.3 f.4 refl (λ r. refl) h in
        (z.0, z.1, (f.0, f.1, f.2, z.2.0, z.2.1))

    begin_back : (x : Bool) (n : ℕ) (a c : State) → Begins free x n (with_more e a) c → less e (outermost c) → Back c (λ b. Begins free x n a b)
    begin_back x n a c f h =
        let z = pushed_back (Oer.preamble (preamble_bits f.0 f.1)) a.0 a.1 (components f.0 f.1 ∷ a.1) c f.4 f.5 refl (λ r. refl) h in
        (z.0, z.1, (f.0, f.1, f.2, f.3, z.2.0, z.2.1))

    pub member_back : (v : Bool) (os : List ℕ) (k : List Scope) (c : State) → NextMember v (octets_with e k os) (scopes_with e k) c → Back c (λ b. NextMember v os k b)
    member_back v os (members zero ∷ k) c f = ((os, members zero ∷ k), f.1, (f.0, refl))
    member_back v os (members (suc n) ∷ k) c f = ((os, members n ∷ k), f.1, (f.0, refl))
    member_back v os k c f = absurd f

    presence_bit_back : (v : Bool) (os : List ℕ) (k : List Scope) (c : State) → NextPresenceBit v (octets_with e k os) (scopes_with e k) c → Back c (λ b. NextPresenceBit v os k b)
    presence_bit_back v os (components x (m ∷ ms) ∷ k) c f = ((os, components x ms ∷ k), f.1, (f.0, refl))
    presence_bit_back v os k c f = absurd f

    additions_back : (n : ℕ) (os : List ℕ) (k : List Scope) (c : State) → AdditionsBegin free n (octets_with e k os) (scopes_with e k) c →
        less e (outermost c) → Back c (λ b. AdditionsBegin free n os k b)
    additions_back n os (components (Some false) [] ∷ k) c f h = ((os, added (first_bits n []) [] ∷ k), f, refl)
    additions_back n os (components (Some true) [] ∷ k) c f h =
        let z = pushed_back (Oer.counted_bits f.0) os k (added (first_bits n f.0) (drop n f.0) ∷ k) c f.2 f.3 refl (λ r. refl) h in
        (z.0, z.1, (f.0, f.1, z.2.0, z.2.1))
    additions_back n os k c f h = absurd f

    open_back : (os : List ℕ) (k : List Scope) (c : State) → Opens free (octets_with e k os) (scopes_with e k) c → less e (outermost c) → Back c (λ b. Opens free os k b)
    open_back os k c f h =
        let z = front_back free e (Oer.counted c.0) k os f.0 f.1 (subst (λ l. less e (octets_behind c.0 l)) f.2 h) in
        ((c.0, open_type z.0 ∷ k), state_same c (with_more e (c.0, open_type z.0 ∷ k)) refl (f.2 ∙ ap (λ r. open_type r ∷ scopes_with e k) z.1), (z.0, z.2, refl))

    close_back : (os rest : List ℕ) (k : List Scope) (c : State) → Closes free os (octets_with e k rest) (scopes_with e k) c → Back c (λ b. Closes free os rest k b)
    close_back os rest k c f = ((rest, k), f.1, (f.0, refl))

    addition_back : (v : Bool) (os : List ℕ) (k : List Scope) (c : State) → NextAddition free v (octets_with e k os) (scopes_with e k) c →
        less e (outermost c) → Back c (λ b. NextAddition free v os k b)
    addition_back v os (added (false ∷ ms) us ∷ k) c f h = ((os, added ms us ∷ k), f.1, (f.0, refl))
    addition_back v os (added (true ∷ ms) us ∷ k) c f h = let z = open_back os (added ms us ∷ k) c f.1 h in (z.0, z.1, (f.0, z.2))
    addition_back v os k c f h = absurd f

    addition_end_back : (os : List ℕ) (k : List Scope) (c : State) → AdditionEnds free (octets_with e k os) (scopes_with e k) c → Back c (λ b. AdditionEnds free os k b)
    addition_end_back os (open_type rest ∷ added ms us ∷ k) c f = close_back os rest (added ms us ∷ k) c f
    addition_end_back os k c f = absurd f

    entry_back : (v : Bool) (os : List ℕ) (k : List Scope) (c : State) → Enters free v (octets_with e k os) (scopes_with e k) c → less e (outermost c) → Back c (λ b. Enters free v os k b)
    entry_back false os k c f h = ((os, alternative ∷ k), f, refl)
    entry_back true os k c f h = open_back os k c f h

    choice_back : (roots : List Tag) (x : Bool) (others : List Tag) (v : Bool) (i : ℕ) (a c : State) →
        Chooses free roots x others v i (with_more e a) c → less e (outermost c) → Back c (λ b. Chooses free roots x others v i a b)
    choice_back roots x others v i a c f h =
        let l = entry_less v f.1 (scopes_with e a.1) c f.4 in
        let z = front_back free e (Oer.tag_form f.0) a.1 a.0 f.1 f.3 (omega arith) in
        let y = entry_back v z.0 a.1 c (subst (λ os. Enters free v os (scopes_with e a.1) c) z.1 f.4) h in
        (y.0, y.1, (f.0, z.0, f.2, z.2, y.2))

    end_back : (os : List ℕ) (k : List Scope) (c : State) → Ends free (octets_with e k os) (scopes_with e k) c → less e (outermost c) → Back c (λ b. Ends free os k b)
    end_back os (components None [] ∷ k) c f h = ((os, k), f, refl)
    end_back os (added [] us ∷ k) c f h =
        let z = pushed_back (joined (present_ones (unknown_forms f.0.0))) os k k c f.0.2 f.1 refl (λ r. refl) h in
        (z.0, z.1, ((f.0.0, f.0.1, z.2.0), z.2.1))
    end_back os (open_type rest ∷ k) c f h = close_back os rest k c f
    end_back os (members zero ∷ k) c f h = ((os, k), f, refl)
    end_back os (alternative ∷ k) c f h = ((os, k), f, refl)
    end_back os k c f h = absurd f

    pub takes_back : (a : State) (r : Record) (c : State) → Takes free (with_more e a) r c → less e (outermost c) → Back c (λ b. Takes free a r b)
    takes_back a (flag v) c f h = found_back (Oer.form boolean (truth v)) a c f h
    takes_back a nil c f h = found_back (Oer.form null nothing) a c f h
    takes_back a (whole z i v) c f h = found_back (Oer.form (integer z i) (number v)) a c f h
    takes_back a (one_of roots x adds v) c f h = found_back (Oer.form (enumerated roots x adds) (item v)) a c f h
    takes_back a (bits z i v) c f h = found_back (Oer.form (bit_string z i) (bit_list v)) a c f h
    takes_back a (octets z i v) c f h = found_back (Oer.form (octet_string z i) (octet_list v)) a c f h
    takes_back a (characters k z l i v) c f h = found_back (Oer.form (character_string k z l i) (text v)) a c f h
    takes_back a (identifier v) c f h = found_back (Oer.form object_identifier (arcs v)) a c f h
    takes_back a (list_begins z i n) c f h = count_back i n a c f h
    takes_back a (bag_begins z i n) c f h = count_back i n a c f h
    takes_back a (further v) c f h = member_back v a.0 a.1 c f
    takes_back a (sequence_begins x n) c f h = begin_back x n a c f h
    takes_back a (set_begins x n) c f h = begin_back x n a c f h
    takes_back a (group_begins n) c f h = begin_back false n a c f h
    takes_back a (presence_bit v) c f h = presence_bit_back v a.0 a.1 c f
    takes_back a is_default c f h = (a, f.1, (f.0, refl))
    takes_back a is_empty c f h = (a, f.1, (f.0, refl))
    takes_back a (additions_begin n) c f h = additions_back n a.0 a.1 c f h
    takes_back a (addition v) c f h = addition_back v a.0 a.1 c f h
    takes_back a addition_ends c f h = addition_end_back a.0 a.1 c f
    takes_back a (choice_begins roots x others v i) c f h = choice_back roots x others v i a c f h
    takes_back a ends c f h = end_back a.0 a.1 c f h
    takes_back a mismatch c f h = absurd f

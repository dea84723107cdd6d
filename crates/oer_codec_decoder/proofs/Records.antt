-- What a record that answers a question does, and why none is found.
use Rattle.std.proofs.Common.{◌≡◌, ℕ, ℤ, Bool, true, false, List, [], ◌∷◌, Some, refl, sym, ◌∙◌, subst}
use Rattle.asn1_model.specs.Oer
use Rattle.asn1_model.specs.Schema.{Tag, Counts, Size, enumerated}
use Rattle.asn1_model.specs.Value.{item}
use Rattle.oer_codec_decoder.proofs.Refused.{NoneIn, NoneInLevel}
use Rattle.asn1_schema_errors.specs.declared.DecodeError.{DecodeError}
use Rattle.asn1_schema_errors.specs.declared.DecodeError.TheVariants.{OutOfMemory}
use Rattle.asn1_schema_laws.specs.Records.{Record, Question, question, one_of, bag_begins, set_begins, group_begins}
use Rattle.asn1_schema_laws.specs.Records.{addition, addition_ends, additions_begin, further, presence_bit, ends}
use Rattle.asn1_schema_laws.specs.Records.{choice_begins, asks_further, asks_presence_bit, asks_end, asks_addition_end}
use Rattle.asn1_schema_laws.specs.Records.{asks_additions, asks_one_of, asks_bag, asks_set, asks_group, asks_addition}
use Rattle.asn1_schema_laws.specs.Records.{asks_choice}
use Rattle.oer_codec_laws.specs.Takes.{Scope, components, State, Found, ListBegins, Begins, NextMember, NextPresenceBit, NextAddition, AdditionsBegin, AdditionEnds, Ends, Chooses, Takes}
use Rattle.oer_codec_reading.specs.Fronts.{freedoms}
use Rattle.oer_codec_held_laws.specs.Held.{Held, state_of}
use Rattle.oer_codec_decoder.specs.Refusals.{NoChoice, NoEnd, NoAdditionEnd, NoAdditions}
use Rattle.oer_codec_decoder.specs.Scopes.{NextPresent}
use Rattle.oer_codec_decoder.proofs.Adding.{none_next}
use Rattle.oer_codec_decoder.specs.Members.{NoMembers}
use Rattle.oer_codec_decoder.specs.Preamble.{HasPreamble}
use Rattle.oer_codec_decoder.proofs.Finding.{OfType, no_beginning, not_counted}

-- ---- found and not found

-- ---- not found
pub no_record : (old now : Held) (q : Question) (e x : DecodeError) → now ≡ old → x ≡ e →
    (¬ (e ≡ OutOfMemory) → (r : Record) (b : State) → question r ≡ q → Takes (freedoms now.rules) (state_of now) r b → ⊥) → NoneIn q old x
no_record old now q e x same faults none =
    record { none = λ i r new k p. none (λ y. i (faults ∙ y)) r (state_of new) k (subst (λ (h : Held). Takes (freedoms h.rules) (state_of h) r (state_of new)) (sym same) p.taken) }

pub no_level : (old now : Held) (q : Question) (e x : DecodeError) → now ≡ old → x ≡ e →
    (¬ (e ≡ OutOfMemory) → (r : Record) (b : State) → question r ≡ q → Takes (freedoms now.rules) (state_of now) r b → ⊥) → NoneInLevel q old.levels old x
no_level old now q e x same faults none =
    record { none = λ i l r new k p. none (λ y. i (faults ∙ y)) r (state_of new) k (subst (λ (h : Held). Takes (freedoms h.rules) (state_of h) r (state_of new)) (sym same) p.taken) }

-- ---- by the question
module _ (free : Oer.Freedom → Bool) (a b : State) where
  pub asked_item : (roots : List ℤ) (e : Bool) (adds : List ℤ) (r : Record) → question r ≡ asks_one_of roots e adds → Takes free a r b → OfType free a b (enumerated roots e adds)
  asked_item roots e adds (one_of ss d bs v) k t = let p : enumerated ss d bs ≡ enumerated roots e adds = cc k in (item v, subst (λ s. Found free (Oer.form s (item v)) a b) p t)
  asked_item roots e adds r k t = cc k

  pub asked_bag : (z : Size) (h : Counts) (r : Record) → question r ≡ asks_bag z h → Takes free a r b → (n : ℕ) × ListBegins free h n a b
  asked_bag z h (bag_begins y i n) k t =
      let p : bag_begins y i n ≡ bag_begins z h n = cc k in
      (n, subst (λ r. Takes free a r b) p t)
  asked_bag z h r k t = cc k

  pub asked_set : (e : Bool) (n : ℕ) (r : Record) → question r ≡ asks_set e n → Takes free a r b → Begins free e n a b
  asked_set e n (set_begins d m) k t =
      let p : set_begins d m ≡ set_begins e n = cc k in
      subst (λ r. Takes free a r b) p t
  asked_set e n r k t = cc k

  pub asked_group : (n : ℕ) (r : Record) → question r ≡ asks_group n → Takes free a r b → Begins free false n a b
  asked_group n (group_begins m) k t =
      let p : group_begins m ≡ group_begins n = cc k in
      subst (λ r. Takes free a r b) p t
  asked_group n r k t = cc k

  pub asked_addition : (r : Record) → question r ≡ asks_addition → Takes free a r b → (v : Bool) × NextAddition free v a.0 a.1 b
  asked_addition (addition v) k t = (v, t)
  asked_addition r k t = cc k

  pub asked_choice : (roots : List Tag) (e : Bool) (others : List Tag) (r : Record) → question r ≡ asks_choice roots e others → Takes free a r b →
      (plus : Bool) × (i : ℕ) × Chooses free roots e others plus i a b
  asked_choice roots e others (choice_begins ss d us plus i) k t =
      let p : choice_begins ss d us plus i ≡ choice_begins roots e others plus i = cc k in
      (plus, i, subst (λ r. Takes free a r b) p t)
  asked_choice roots e others r k t = cc k

-- ---- what opens a scope
pub no_set : (old now : Held) (e : Bool) (n : ℕ) (x : DecodeError) → now ≡ old → ((s : Scope) (rest : List ℕ) → HasPreamble e n s now.octets rest → ⊥) → NoneInLevel (asks_set e n) old.levels old x
no_set old now e n x same none = no_level old now (asks_set e n) x x same refl (λ i r b k t.
    no_beginning (freedoms now.rules) e n (state_of now) b (asked_set (freedoms now.rules) (state_of now) b e n r k t) none)

pub no_group : (old now : Held) (n : ℕ) (x : DecodeError) → now ≡ old → ((s : Scope) (rest : List ℕ) → HasPreamble false n s now.octets rest → ⊥) → NoneInLevel (asks_group n) old.levels old x
no_group old now n x same none = no_level old now (asks_group n) x x same refl (λ i r b k t.
    no_beginning (freedoms now.rules) false n (state_of now) b (asked_group (freedoms now.rules) (state_of now) b n r k t) none)

pub no_bag : (old now : Held) (z : Size) (h : Counts) (e x : DecodeError) → now ≡ old → x ≡ e → NoMembers (freedoms now.rules) h now.octets e → NoneInLevel (asks_bag z h) old.levels old x
no_bag old now z h e x same faults m = no_level old now (asks_bag z h) e x same faults (λ i r b k t. let c =
    asked_bag (freedoms now.rules) (state_of now) b z h r k t in not_counted (freedoms now.rules) h c.0 (state_of now) b e m i c.1)

pub not_chosen : (old now : Held) (roots : List Tag) (e : Bool) (others : List Tag) (f x : DecodeError) → now ≡ old → x ≡ f →
    NoChoice (freedoms now.rules) roots e others now.octets f → NoneInLevel (asks_choice roots e others) old.levels old x
not_chosen old now roots e others f x same faults m = no_level old now (asks_choice roots e others) f x same faults
    (λ i r b k t. let c = asked_choice (freedoms now.rules) (state_of now) b roots e others r k t in m.none i c.0 c.1 now.scopes b c.2)

pub no_addition : (old now : Held) (x : DecodeError) → now ≡ old → ((v : Bool) (after : List Scope) → NextPresent v now.scopes after → ⊥) → NoneIn asks_addition old x
no_addition old now x same none = no_record old now asks_addition x x same refl (λ i r b q t. let v =
    asked_addition (freedoms now.rules) (state_of now) b r q t in none_next (freedoms now.rules) v.0 now.octets now.scopes b none v.1)

-- ---- questions that need no octets
asked_further : (free : Oer.Freedom → Bool) (a b : State) (r : Record) → question r ≡ asks_further → Takes free a r b → (v : Bool) × NextMember v a.0 a.1 b
asked_further free a b (further v) k t = (v, t)
asked_further free a b r k t = cc k

pub no_further : (old now : Held) (x : DecodeError) → now ≡ old → ((v : Bool) (os : List ℕ) (b : State) → NextMember v os now.scopes b → ⊥) → NoneIn asks_further old x
no_further old now x same none = no_record old now asks_further x x same refl (λ i r b q t. let v = asked_further (freedoms now.rules) (state_of now) b r q t in none v.0 now.octets b v.1)

asked_presence_bit : (free : Oer.Freedom → Bool) (a b : State) (r : Record) → question r ≡ asks_presence_bit → Takes free a r b → (v : Bool) × NextPresenceBit v a.0 a.1 b
asked_presence_bit free a b (presence_bit v) k t = (v, t)
asked_presence_bit free a b r k t = cc k

pub no_presence_bit : (old now : Held) (x : DecodeError) → now ≡ old → ((v : Bool) (os : List ℕ) (b : State) → NextPresenceBit v os now.scopes b → ⊥) → NoneIn asks_presence_bit old x
no_presence_bit old now x same none = no_record old now asks_presence_bit x x same refl (λ i r b q t. let v =
    asked_presence_bit (freedoms now.rules) (state_of now) b r q t in none v.0 now.octets b v.1)

asked_end : (free : Oer.Freedom → Bool) (a b : State) (r : Record) → question r ≡ asks_end → Takes free a r b → Ends free a.0 a.1 b
asked_end free a b ends k t = t
asked_end free a b r k t = cc k

pub no_end : (old now : Held) (e x : DecodeError) → now ≡ old → x ≡ e → NoEnd (freedoms now.rules) now.octets now.scopes e → NoneIn asks_end old x
no_end old now e x same faults n = no_record old now asks_end e x same faults (λ i r b q t. n.none i b (asked_end (freedoms now.rules) (state_of now) b r q t))

asked_addition_end : (free : Oer.Freedom → Bool) (a b : State) (r : Record) → question r ≡ asks_addition_end → Takes free a r b → AdditionEnds free a.0 a.1 b
asked_addition_end free a b addition_ends k t = t
asked_addition_end free a b r k t = cc k

pub no_addition_end : (old now : Held) (e x : DecodeError) → now ≡ old → x ≡ e → NoAdditionEnd (freedoms now.rules) now.octets now.scopes e → NoneIn asks_addition_end old x
no_addition_end old now e x same faults n = no_record old now asks_addition_end e x same faults (λ i r b q t. n.none i b (asked_addition_end (freedoms now.rules) (state_of now) b r q t))

-- additions begin after an extension bit
pub asked_additions : (free : Oer.Freedom → Bool) (n : ℕ) (a b : State) (r : Record) → question r ≡ asks_additions n → Takes free a r b → AdditionsBegin free n a.0 a.1 b
asked_additions free n a b (additions_begin m) k t = let p : additions_begin m ≡ additions_begin n = cc k in subst (λ r. Takes free a r b) p t
asked_additions free n a b r k t = cc k

behind_bit : (free : Oer.Freedom → Bool) (n : ℕ) (os : List ℕ) (k : List Scope) (b : State) → AdditionsBegin free n os k b → (set : Bool) × (l : List Scope) × (k ≡ components (Some set) [] ∷ l)
behind_bit free n os (components (Some false) [] ∷ k) b t = (false, k, refl)
behind_bit free n os (components (Some true) [] ∷ k) b t = (true, k, refl)
behind_bit free n os k b t = absurd t

pub no_extension_bit : (old now : Held) (n : ℕ) (x : DecodeError) → now ≡ old → ((set : Bool) (k : List Scope) → now.scopes ≡ components (Some set) [] ∷ k → ⊥) → NoneIn (asks_additions n) old x
no_extension_bit old now n x same none = no_record old now (asks_additions n) x x same refl
    (λ i r b q t. let v = behind_bit (freedoms now.rules) n now.octets now.scopes b (asked_additions (freedoms now.rules) n (state_of now) b r q t) in none v.0 v.1 v.2)

pub no_additions : (old now : Held) (n : ℕ) (set : Bool) (k : List Scope) (e x : DecodeError) → now ≡ old → x ≡ e →
    now.scopes ≡ components (Some set) [] ∷ k → NoAdditions (freedoms now.rules) set n now.octets e → NoneIn (asks_additions n) old x
no_additions old now n set k e x same faults is m = no_record old now (asks_additions n) e x same faults
    (λ i r b q t. m.none i k b (subst (λ l. AdditionsBegin (freedoms now.rules) n now.octets l b) is (asked_additions (freedoms now.rules) n (state_of now) b r q t)))

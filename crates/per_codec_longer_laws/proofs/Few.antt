-- What is next is also next with a few bits appended, and missing elements lack the bits that the laws say.
use Rattle.std.proofs.Common.{◌≡◌, ◌⊎◌, inl, inr, ◌≤◌, ℕ, zero, suc, ◌+◌, ◌-◌, Bool, true, false, cond, IsTrue, List, [], ◌∷◌, ◌++◌, length, Option, Some, None, refl, ap, sym, ◌∙◌, subst, arith}
use Rattle.std.proofs.lemmas.Bool.{cases_lt}
use Rattle.asn1_model.specs.Value.{Value, Values}
use Rattle.asn1_model.specs.Schema.{Schema, Size, Counts}
use Rattle.asn1_model.specs.Lawful.{IsLawful}
use Rattle.asn1_model.specs.Per
use Rattle.asn1_schema_reading_laws.specs.PresenceBits.{first_bits}
use Rattle.asn1_schema_reading_laws.proofs.Fitting
use Rattle.asn1_model.specs.Numbers.{octet_bits}
use Rattle.asn1_schema_laws.specs.Records.{Record, flag, nil, whole, one_of, bits, octets, characters, identifier}
use Rattle.asn1_schema_laws.specs.Records.{list_begins, bag_begins, further, sequence_begins, set_begins, group_begins}
use Rattle.asn1_schema_laws.specs.Records.{presence_bit, is_default, is_empty, additions_begin, addition, addition_ends}
use Rattle.asn1_schema_laws.specs.Records.{choice_begins, ends, mismatch}
use Rattle.asn1_schema_laws.specs.Presents.{presents, member_records, Fits}
use Rattle.asn1_schema_laws.specs.Chains.{Chain}
use Rattle.asn1_schema_laws.proofs.Chains.{chain_split}
use Rattle.per_codec_laws.specs.Sizes.{told_highest}
use Rattle.per_codec_laws.specs.Takes.{Position, Tally, State, Scope, components, added, open_type, members}
use Rattle.per_codec_laws.specs.Takes.{alternative, MemberDue, Counted, ListBegins, NextMember, NextPresenceBit}
use Rattle.per_codec_laws.specs.Takes.{AdditionsBegin, NextAddition, AdditionEnds, Chooses, Ends, Takes}
use Rattle.per_codec_laws.proofs.Next.{one_taken}
use Rattle.per_codec_laws.proofs.Whole.{records_read}
use Rattle.per_codec_longer_laws.specs.More.{is_within, place_with, scopes_with, with_more}
use Rattle.per_codec_longer_laws.specs.Few.{due, around, FewMore, TooFew, TooFewMembers, FewCarried}
use Rattle.asn1_schema_lacking_laws.specs.Carried.{keeps_members}
use Rattle.per_codec_longer_laws.proofs.Behind.{more_none}
use Rattle.per_codec_longer_laws.proofs.Steps.{takes_more}
use Rattle.per_codec_longer_laws.proofs.Chained.{chain_more}
use Rattle.per_codec_longer_laws.proofs.Lacking.{lacking}

pub none_owed : (hs : Option Tally) (k : List Scope) → due (members zero hs ∷ k) ≡ due k
none_owed hs k = by_case (is_within k)
  where
    by_case : (b : Bool) → cond b (due k) (0 + due k) ≡ due k
    by_case true = refl
    by_case false = omega arith

module _ (al : Bool) (free : Per.Freedom → Bool) where
  same_owed : (k l : List Scope) → due k ≡ due l → due k ≤ due l
  same_owed k l e = omega arith

  at : (b : State) (c : State) → b ≡ c → (l : List Scope) → due (c.1) ≡ due l → due (b.1) ≤ due l
  at b c e l h = let g : due (b.1) ≡ due (c.1) = ap (λ (s : State). due (s.1)) e in omega arith

  end_owed : (p : Position) (k : List Scope) (b : State) → Ends al free p k b → due (b.1) ≤ due k
  end_owed p (components None [] ∷ k) b f = at b (p, k) f k refl
  end_owed p (added [] us ∷ k) b f = same_owed b.1 k (ap (λ l. due l) f.1)
  end_owed p (open_type rest ∷ k) b f = at b (rest, k) f.6 k refl
  end_owed p (members zero None ∷ k) b f = at b (p, k) f (members zero None ∷ k) (sym (none_owed None k))
  end_owed p (alternative ∷ k) b f = at b (p, k) f k refl
  end_owed p k b f = absurd f

  presence_bit_owed : (v : Bool) (p : Position) (k : List Scope) (b : State) → NextPresenceBit v p k b → due (b.1) ≤ due k
  presence_bit_owed v p (components x (m ∷ ms) ∷ k) b f = at b (p, components x ms ∷ k) f.1 k refl
  presence_bit_owed v p k b f = absurd f

  additions_owed : (n : ℕ) (p : Position) (k : List Scope) (b : State) → AdditionsBegin al free n p k b → due (b.1) ≤ due k
  additions_owed n p (components (Some false) [] ∷ k) b f = at b (p, added (first_bits n []) [] ∷ k) f k refl
  additions_owed n p (components (Some true) [] ∷ k) b f = same_owed b.1 k (ap (λ l. due l) f.3)
  additions_owed n p k b f = absurd f

  addition_owed : (v : Bool) (p : Position) (k : List Scope) (b : State) → NextAddition al free v p k b → due (b.1) ≤ due k
  addition_owed v p (added (false ∷ ms) us ∷ k) b f = at b (p, added ms us ∷ k) f.1 k refl
  addition_owed v p (added (true ∷ ms) us ∷ k) b f = at b ((0, octet_bits f.1.0), open_type f.1.1 ∷ added ms us ∷ k) f.1.3 k refl
  addition_owed v p k b f = absurd f

  addition_end_owed : (p : Position) (k : List Scope) (b : State) → AdditionEnds free p k b → due (b.1) ≤ due k
  addition_end_owed p (open_type rest ∷ added ms us ∷ k) b f = at b (rest, added ms us ∷ k) f.6 k refl
  addition_end_owed p k b f = absurd f

  choice_owed : (roots : ℕ) (e : Bool) (others : ℕ) (v : Bool) (i : ℕ) (a b : State) → Chooses al free roots e others v i a b → due (b.1) ≤ due (a.1)
  choice_owed roots e others false i a b f = same_owed b.1 a.1 (ap (λ l. due l) f.2)
  choice_owed roots e others true i a b f = at b ((0, octet_bits f.4.0), open_type f.4.1 ∷ a.1) f.4.3 a.1 refl

  pub takes_owed : (r : Record) (a b : State) → keeps_members r ≡ true → Takes al free a r b → due (b.1) ≤ due (a.1)
  takes_owed (flag v) a b e f = same_owed b.1 a.1 (ap (λ l. due l) f.1)
  takes_owed nil a b e f = same_owed b.1 a.1 (ap (λ l. due l) f.1)
  takes_owed (whole z h v) a b e f = same_owed b.1 a.1 (ap (λ l. due l) f.1)
  takes_owed (one_of roots x adds v) a b e f = same_owed b.1 a.1 (ap (λ l. due l) f.1)
  takes_owed (bits z h v) a b e f = same_owed b.1 a.1 (ap (λ l. due l) f.1)
  takes_owed (octets z h v) a b e f = same_owed b.1 a.1 (ap (λ l. due l) f.1)
  takes_owed (characters k z l h v) a b e f = same_owed b.1 a.1 (ap (λ l. due l) f.1)
  takes_owed (identifier v) a b e f = same_owed b.1 a.1 (ap (λ l. due l) f.1)
  takes_owed (sequence_begins x n) a b e f = same_owed b.1 a.1 (ap (λ l. due l) f.5)
  takes_owed (set_begins x n) a b e f = same_owed b.1 a.1 (ap (λ l. due l) f.5)
  takes_owed (group_begins n) a b e f = same_owed b.1 a.1 (ap (λ l. due l) f.5)
  takes_owed (presence_bit v) a b e f = presence_bit_owed v a.0 a.1 b f
  takes_owed is_default a b e f = at b a f.1 a.1 refl
  takes_owed is_empty a b e f = at b a f.1 a.1 refl
  takes_owed (additions_begin n) a b e f = additions_owed n a.0 a.1 b f
  takes_owed (addition v) a b e f = addition_owed v a.0 a.1 b f
  takes_owed addition_ends a b e f = addition_end_owed a.0 a.1 b f
  takes_owed (choice_begins roots x others v i) a b e f = choice_owed _ x _ v i a b f
  takes_owed ends a b e f = end_owed a.0 a.1 b f
  takes_owed mismatch a b e f = absurd f
  takes_owed (list_begins z h n) a b e f = cc
  takes_owed (bag_begins z h n) a b e f = cc
  takes_owed (further v) a b e f = cc

  -- a few bits appended, if no more elements are due
  pub fewer_owed : (n m l : ℕ) (a b : State) (e : List Bool) → m ≤ l → (length e + l ≤ n) ⊎ (e ≡ []) → FewMore n m b (with_more e b)
  fewer_owed n m l a b e h (inl i) = (e, refl, inl (omega arith))
  fewer_owed n m l a b e h (inr i) = (e, refl, inr i)

  pub at_once : (n : ℕ) (a : State) → TooFew n a a
  at_once n a = ([], sym (more_none a), inr refl)

  pub records : (n : ℕ) (r : Record) (a b c : State) → keeps_members r ≡ true → Takes al free a r b → TooFew n a c → (d : State) × Takes al free c r d × TooFew n b d
  records n r a b c k t f =
      let h = subst (λ s. Takes al free s r (with_more f.0 b)) (sym f.1) (takes_more al free f.0 a r b t) in
      (with_more f.0 b, h, fewer_owed n (due b.1) (due a.1) a b f.0 (takes_owed r a b k t) f.2)

  module _ (other : IsTrue (free Per.other_bitmap)) (order : IsTrue (free Per.other_order)) where
    pub values : (n : ℕ) (s : Schema) (v : Value) (a b c : State) → Chain (Takes al free) (presents s v) a b → TooFew n a c → (d : State) × Chain (Takes al free) (presents s v) c d × TooFew n b d
    values n s v a b c t f =
        let h = subst (λ x. Chain (Takes al free) (presents s v) x (with_more f.0 b)) (sym f.1) (chain_more al free f.0 (presents s v) a b t) in
        let g = records_read al free s v a b other order t in
        (with_more f.0 b, h, fewer_owed n (due b.1) (due a.1) a b f.0 (same_owed b.1 a.1 (ap (λ l. due l) g.1)) f.2)

    -- ---- lists
    counted_around : (z : Size) (h : Counts) (out : Bool) (o : Option ℕ) (p : Position) (k : List Scope) (b : State) → Counted al free z h out o p k b → around b.1 ≡ k
    counted_around z h out None p k b f = ap (λ l. around l) f.3
    counted_around z h out (Some high) p k b f = ap (λ l. around l) f.3

    pub list_around : (z : Size) (h : Counts) (m : ℕ) (a b : State) → ListBegins al free z h m a b → around b.1 ≡ a.1
    list_around z h m a b f = counted_around z h f.1 (told_highest f.1 z.counts.high) f.2 a.1 b f.4

    pub begins : (n : ℕ) (z : Size) (h : Counts) (m : ℕ) (a b c : State) → Takes al free a (list_begins z h m) b → TooFew n a c → (d : State) ×
        Takes al free c (list_begins z h m) d × TooFewMembers n b d
    begins n z h m a b c t f =
        let g = subst (λ s. Takes al free s (list_begins z h m) (with_more f.0 b)) (sym f.1) (takes_more al free f.0 a (list_begins z h m) b t) in
        (with_more f.0 b, g, fewer_owed n (due (around b.1)) (due a.1) a b f.0 (same_owed (around b.1) a.1 (ap (λ l. due l) (list_around z h m a b t))) f.2)

    around_due : (v : Bool) (n : ℕ) (hs : Option Tally) (p : Position) (k : List Scope) (b : State) → MemberDue v n hs p k b → around b.1 ≡ k
    around_due v (suc n) hs p k b f = ap (λ (s : State). around (s.1)) f.1
    around_due v zero None p k b f = ap (λ (s : State). around (s.1)) f.1
    around_due v zero (Some t) p k b f = absurd f

    pub around_member : (v : Bool) (p : Position) (k : List Scope) (b : State) → NextMember al free v p k b → around b.1 ≡ around k
    around_member v p (members zero (Some t) ∷ k) b f = around_due v f.0 f.1 f.2 k b f.4
    around_member v p (members zero None ∷ k) b f = around_due v zero None p k b f
    around_member v p (members (suc n) hs ∷ k) b f = around_due v (suc n) hs p k b f
    around_member v p k b f = absurd f

    pub coming : (n : ℕ) (a b c : State) → Takes al free a (further true) b → TooFewMembers n a c → (d : State) × Takes al free c (further true) d
    coming n a b c t f = (with_more f.0 b, subst (λ s. Takes al free s (further true) (with_more f.0 b)) (sym f.1) (takes_more al free f.0 a (further true) b t))

    pub next_member : (n : ℕ) (s : Schema) (v : Value) (a m b c : State) → Takes al free a (further true) m →
        Chain (Takes al free) (presents s v) m b → TooFewMembers n a c → (d : State) × (e : State) × Takes al free c (further true) d × Chain (Takes al free) (presents s v) d e × TooFewMembers n b e
    next_member n s v a m b c t q f =
        let g = subst (λ s. Takes al free s (further true) (with_more f.0 m)) (sym f.1) (takes_more al free f.0 a (further true) m t) in
        let h = chain_more al free f.0 (presents s v) m b q in
        let r = records_read al free s v m b other order q in
        let o : around b.1 ≡ around a.1 = ap (λ l. around l) r.1 ∙ around_member true a.0 a.1 m t in
        (with_more f.0 m, with_more f.0 b, g, h, fewer_owed n (due (around b.1)) (due (around a.1)) a b f.0 (same_owed (around b.1) (around a.1) (ap (λ l. due l) o)) f.2)

    due_last : (n : ℕ) (hs : Option Tally) (p : Position) (k : List Scope) (b : State) → MemberDue false n hs p k b → due (b.1) ≡ due k
    due_last (suc n) hs p k b f = let e : false ≡ true = f.0 in cc
    due_last zero None p k b f = ap (λ (s : State). due (s.1)) f.1 ∙ none_owed None k
    due_last zero (Some t) p k b f = absurd f

    pub last_owed : (p : Position) (k : List Scope) (b : State) → NextMember al free false p k b → due (b.1) ≡ due (around k)
    last_owed p (members zero (Some t) ∷ k) b f = due_last f.0 f.1 f.2 k b f.4
    last_owed p (members zero None ∷ k) b f = due_last zero None p k b f
    last_owed p (members (suc n) hs ∷ k) b f = due_last (suc n) hs p k b f
    last_owed p k b f = absurd f

    pub last_member : (n : ℕ) (a b c : State) → Takes al free a (further false) b → TooFewMembers n a c → (d : State) × Takes al free c (further false) d × TooFew n b d
    last_member n a b c t f =
        let g = subst (λ s. Takes al free s (further false) (with_more f.0 b)) (sym f.1) (takes_more al free f.0 a (further false) b t) in
        (with_more f.0 b, g, fewer_owed n (due b.1) (due (around a.1)) a b f.0 (same_owed b.1 (around a.1) (last_owed a.0 a.1 b t)) f.2)

    -- if no element is due, none is missing; if one is due, it comes
    asked_at : (n : ℕ) (p : Position) (k : List Scope) → ((c : State) → TooFew n (p, k) c → (v : Bool) (d : State) → Takes al free c (further v) d →
        ⊥) → (e : List Bool) → (length e + due (around k) ≤ n) ⊎ (e ≡ []) → (v : Bool) (d : State) → NextMember al free v (place_with e k p) (scopes_with e k) d → ⊥
    asked_at n p (members (suc m) hs ∷ k) h e q v d t = h (p, members (suc m) hs ∷ k) (at_once n (p, members (suc m) hs ∷ k)) true (p, members m hs ∷ k) (refl, refl)
    asked_at n p (members zero hs ∷ k) h e q v d t =
        let a : State = (p, members zero hs ∷ k) in
        let o : due (a.1) ≡ due k = none_owed hs k in
        h (with_more e a) (fewer_owed n (due (a.1)) (due k) a a e (same_owed (a.1) k o) q) v d t
    asked_at n p [] h e q v d t = absurd t
    asked_at n p (components x ms ∷ k) h e q v d t = absurd t
    asked_at n p (added ms us ∷ k) h e q v d t = absurd t
    asked_at n p (open_type r ∷ k) h e q v d t = absurd t
    asked_at n p (alternative ∷ k) h e q v d t = absurd t

    pub asked : (n : ℕ) (a : State) → ((c : State) → TooFew n a c → (v : Bool) (d : State) → Takes al free c (further v) d → ⊥) → (c : State) →
        TooFewMembers n a c → (v : Bool) (d : State) → Takes al free c (further v) d → ⊥
    asked n a h c f v d t = asked_at n a.0 a.1 h f.0 f.2 v d (subst (λ s. Takes al free s (further v) d) f.1 t)

    -- if an element is missing, so are those after it
    abbrev Absent : ℕ → Schema → State → Type 0
    Absent n s b = (c : State) → TooFew n b c → (v : Value) (d : State) → Fits s v → Chain (Takes al free) (presents s v) c d → ⊥

    fits : (s : Schema) (v : Value) (a b : State) → Chain (Takes al free) (presents s v) a b → Fits s v
    fits s v a b t = Fitting.records_fit _ _ (λ x y m. m) s v a b t

    stuck_at : (n : ℕ) (s : Schema) → IsLawful s → (j : ℕ) (hs : Option Tally) (p : Position) (k : List Scope) → Absent n s (p, members j hs ∷ k) →
        (e : List Bool) → (length e + due k ≤ n) ⊎ (e ≡ []) → (v : Value) (vs : Values) (c : State) →
        Chain (Takes al free) (presents s v ++ member_records (λ w. presents s w) vs) (with_more e (p, members j hs ∷ k)) c → ⊥
    stuck_at n s l j hs p k h e (inr q) v vs c t =
        let a : State = (p, members j hs ∷ k) in
        let z = chain_split (Takes al free) (presents s v) (member_records (λ w. presents s w) vs) (with_more e a) c t in
        h (with_more e a) (e, refl, inr q) v z.0 (fits s v (with_more e a) z.0 z.1) z.1
    stuck_at n s l j hs p k h e (inl q) v vs c t = by_case (is_within k) refl
      where
        here : (m : ℕ) → (m + (j + due k) ≤ n) ⊎ (m ≡ 0) → is_within k ≡ false → (f : List Bool) (u : Value) (d : State) → length f ≤ m →
            Chain (Takes al free) (presents s u) (with_more f (p, members j hs ∷ k)) d → ⊥
        here m (inl i) w f u d g x =
            let o : due (members j hs ∷ k) ≡ j + due k = ap (λ b. cond b (due k) (j + due k)) w in
            h (with_more f (p, members j hs ∷ k)) (f, refl, inl (omega arith)) u d (fits s u (with_more f (p, members j hs ∷ k)) d x) x
        here m (inr i) w [] u d g x = h (with_more [] (p, members j hs ∷ k)) ([], refl, inr refl) u d (fits s u (with_more [] (p, members j hs ∷ k)) d x) x
        here m (inr i) w (y ∷ f) u d g x = absurd (omega arith)

        by_case : (b : Bool) → is_within k ≡ b → ⊥
        by_case true w =
            let a : State = (p, members j hs ∷ k) in
            let z = chain_split (Takes al free) (presents s v) (member_records (λ w. presents s w) vs) (with_more e a) c t in
            let o : due (members j hs ∷ k) ≡ due k = ap (λ b. cond b (due k) (j + due k)) w in
            h (with_more e a) (e, refl, inl (omega arith)) v z.0 (fits s v (with_more e a) z.0 z.1) z.1
        by_case false w = elim (cases_lt n (j + due k)) [
          | inl i ↦ lacking al free s 0 j hs p k other order l w (here 0 (inr refl) w) e v vs c (omega arith) t
          | inr i ↦ lacking al free s (n - (j + due k)) j hs p k other order l w (here (n - (j + due k)) (inl (omega arith)) w) e v vs c (omega arith) t
        ]

    due_coming : (n : ℕ) (hs : Option Tally) (p : Position) (k : List Scope) (b : State) → MemberDue true n hs p k b → (j : ℕ) × (is : Option Tally) × (b ≡ (b.0, members j is ∷ k))
    due_coming (suc n) hs p k b f = (n, hs, f.1 ∙ ap (λ (x : Position). (x, members n hs ∷ k)) (sym (ap (λ (s : State). s.0) f.1)))
    due_coming zero None p k b f = let e : true ≡ false = f.0 in cc
    due_coming zero (Some t) p k b f = absurd f

    pub member_coming : (p : Position) (k : List Scope) (b : State) → NextMember al free true p k b → (j : ℕ) × (is : Option Tally) × (b ≡ (b.0, members j is ∷ around k))
    member_coming p (members zero (Some t) ∷ k) b f = due_coming f.0 f.1 f.2 k b f.4
    member_coming p (members zero None ∷ k) b f = due_coming zero None p k b f
    member_coming p (members (suc n) hs ∷ k) b f = due_coming (suc n) hs p k b f
    member_coming p k b f = absurd f

    pub stuck : (n : ℕ) (s : Schema) → IsLawful s → (a b : State) → Takes al free a (further true) b → Absent n s b → (c d : State) →
        TooFewMembers n a c → Takes al free c (further true) d → (v : Value) (vs : Values) (e : State) → Chain (Takes al free) (presents s v ++ member_records (λ w. presents s w) vs) d e → ⊥
    stuck n s l a b t h c d f g v vs e q =
        let m = member_coming a.0 a.1 b t in
        let i : d ≡ with_more f.0 b =
        (one_taken al free (with_more f.0 a) (further true) (further true) d (with_more f.0 b) refl
        (subst (λ x. Takes al free x (further true) d) f.1 g) (takes_more al free f.0 a (further true) b t)).1 in
        let o : d ≡ with_more f.0 (b.0, members m.0 m.1 ∷ around a.1) = i ∙ ap (λ x. with_more f.0 x) m.2 in
        stuck_at n s l m.0 m.1 b.0 (around a.1) (subst (λ x. Absent n s x) m.2 h) f.0 f.2 v vs e (subst (λ x. Chain (Takes al free) (presents s v ++ member_records (λ w. presents s w) vs) x e) o q)

    pub bag_begun : (n : ℕ) (z : Size) (h : Counts) (m : ℕ) (a b c : State) → Takes al free a (bag_begins z h m) b → TooFew n a c → (d : State) ×
        Takes al free c (bag_begins z h m) d × TooFewMembers n b d
    bag_begun n z h m a b c t f = begins n z h m a b c t f

pub few_carried : FewCarried
few_carried al free n other order = (
  λ r a b failed c k t f. records al free (n failed) r a b c k t f,
  λ s v a b failed c t f. values al free other order (n failed) s v a b c t f,
  record {
    list = λ z h m a b failed c t f. begins al free other order (n failed) z h m a b c t f;
    bag = λ z h m a b failed c t f. bag_begun al free other order (n failed) z h m a b c t f;
    coming = λ a b failed c t f. coming al free other order (n failed) a b c t f;
    member = λ s v a m b failed c t q f. next_member al free other order (n failed) s v a m b c t q f;
    last = λ a b failed c t f. last_member al free other order (n failed) a b c t f;
    asked = λ a failed h c f v d t. asked al free other order (n failed) a h c f v d t;
    stuck = λ s l a b failed t h c d f g v vs e w q. stuck al free other order (n failed) s l a b t h c d f g v vs e q;
  },
)

-- What is next is also next with a few octets appended, and missing elements lack the octets that the laws say.
use Rattle.std.proofs.Common.{◌≡◌, ◌⊎◌, inl, inr, ◌≤◌, ◌<◌, ℕ, zero, suc, ◌+◌, ◌-◌, Bool, true, false, cond, IsTrue}
use Rattle.std.proofs.Common.{List, [], ◌∷◌, ◌++◌, length, drop, Option, Some, None, refl, ap, sym, ◌∙◌, subst, arith}
use Rattle.std.proofs.lemmas.Bool.{cases_lt}
use Rattle.asn1_model.specs.Value.{Value, Values}
use Rattle.asn1_model.specs.Schema.{Schema, Size, Counts}
use Rattle.asn1_model.specs.Lawful.{IsLawful}
use Rattle.asn1_model.specs.Oer
use Rattle.asn1_schema_reading_laws.specs.PresenceBits.{first_bits}
use Rattle.asn1_schema_reading_laws.proofs.Fitting
use Rattle.asn1_schema_laws.specs.Records.{Record, flag, nil, whole, one_of, bits, octets, characters, identifier}
use Rattle.asn1_schema_laws.specs.Records.{list_begins, bag_begins, further, sequence_begins, set_begins, group_begins}
use Rattle.asn1_schema_laws.specs.Records.{presence_bit, is_default, is_empty, additions_begin, addition, addition_ends}
use Rattle.asn1_schema_laws.specs.Records.{choice_begins, ends, mismatch}
use Rattle.asn1_schema_laws.specs.Presents.{presents, member_records, Fits}
use Rattle.asn1_schema_laws.specs.Chains.{Chain}
use Rattle.asn1_schema_laws.proofs.Chains.{chain_split}
use Rattle.oer_codec_laws.specs.Takes.{State, Scope, components, added, open_type, members, alternative, Found}
use Rattle.oer_codec_laws.specs.Takes.{NextMember, NextPresenceBit, AdditionsBegin, NextAddition, AdditionEnds, Chooses}
use Rattle.oer_codec_laws.specs.Takes.{Enters, Ends, Takes}
use Rattle.oer_codec_laws.proofs.Whole.{records_read}
use Rattle.oer_codec_longer_laws.specs.More.{is_within, octets_with, scopes_with, with_more}
use Rattle.oer_codec_longer_laws.specs.Few.{due, around, FewMore, TooFew, TooFewMembers, FewCarried}
use Rattle.asn1_schema_lacking_laws.specs.Carried.{keeps_members, CarriesMembers}
use Rattle.oer_codec_longer_laws.proofs.Behind.{more_none}
use Rattle.oer_codec_longer_laws.proofs.Steps.{takes_more, takes_back, member_more, member_back}
use Rattle.oer_codec_longer_laws.proofs.Chained.{chain_more}
use Rattle.oer_codec_longer_laws.proofs.Lacking.{lacking}

none_owed : (k : List Scope) → due (members zero ∷ k) ≡ due k
none_owed k = by_case (is_within k)
  where
    by_case : (b : Bool) → cond b (due k) (0 + due k) ≡ due k
    by_case true = refl
    by_case false = omega arith

module _ (free : Oer.Freedom → Bool) where
  owes : List Scope → List Scope → Type 0
  owes k l = due k ≤ due l

  same_owed : (k l : List Scope) → due k ≡ due l → due k ≤ due l
  same_owed k l e = omega arith

  at : (b : State) (c : State) → b ≡ c → (l : List Scope) → due (c.1) ≡ due l → due (b.1) ≤ due l
  at b c e l h = let g : due (b.1) ≡ due (c.1) = ap (λ (s : State). due (s.1)) e in omega arith

  end_owed : (os : List ℕ) (k : List Scope) (b : State) → Ends free os k b → due (b.1) ≤ due k
  end_owed os (components None [] ∷ k) b f = at b (os, k) f k refl
  end_owed os (added [] us ∷ k) b f = same_owed b.1 k (ap (λ l. due l) f.1)
  end_owed os (open_type rest ∷ k) b f = at b (rest, k) f.1 k refl
  end_owed os (members zero ∷ k) b f = at b (os, k) f (members zero ∷ k) (sym (none_owed k))
  end_owed os (alternative ∷ k) b f = at b (os, k) f k refl
  end_owed os k b f = absurd f

  presence_bit_owed : (v : Bool) (os : List ℕ) (k : List Scope) (b : State) → NextPresenceBit v os k b → due (b.1) ≤ due k
  presence_bit_owed v os (components x (m ∷ ms) ∷ k) b f = at b (os, components x ms ∷ k) f.1 k refl
  presence_bit_owed v os k b f = absurd f

  additions_owed : (n : ℕ) (os : List ℕ) (k : List Scope) (b : State) → AdditionsBegin free n os k b → due (b.1) ≤ due k
  additions_owed n os (components (Some false) [] ∷ k) b f = at b (os, added (first_bits n []) [] ∷ k) f k refl
  additions_owed n os (components (Some true) [] ∷ k) b f = same_owed b.1 k (ap (λ l. due l) f.3)
  additions_owed n os k b f = absurd f

  addition_owed : (v : Bool) (os : List ℕ) (k : List Scope) (b : State) → NextAddition free v os k b → due (b.1) ≤ due k
  addition_owed v os (added (false ∷ ms) us ∷ k) b f = at b (os, added ms us ∷ k) f.1 k refl
  addition_owed v os (added (true ∷ ms) us ∷ k) b f = same_owed b.1 k (ap (λ l. due l) f.1.2)
  addition_owed v os k b f = absurd f

  addition_end_owed : (os : List ℕ) (k : List Scope) (b : State) → AdditionEnds free os k b → due (b.1) ≤ due k
  addition_end_owed os (open_type rest ∷ added ms us ∷ k) b f = at b (rest, added ms us ∷ k) f.1 k refl
  addition_end_owed os k b f = absurd f

  entry_owed : (v : Bool) (os : List ℕ) (k : List Scope) (b : State) → Enters free v os k b → due (b.1) ≤ due k
  entry_owed false os k b f = at b (os, alternative ∷ k) f k refl
  entry_owed true os k b f = same_owed b.1 k (ap (λ l. due l) f.2)

  pub takes_owed : (r : Record) (a b : State) → keeps_members r ≡ true → Takes free a r b → due (b.1) ≤ due (a.1)
  takes_owed (flag v) a b e f = same_owed b.1 a.1 (ap (λ l. due l) f.1)
  takes_owed nil a b e f = same_owed b.1 a.1 (ap (λ l. due l) f.1)
  takes_owed (whole z h v) a b e f = same_owed b.1 a.1 (ap (λ l. due l) f.1)
  takes_owed (one_of roots x adds v) a b e f = same_owed b.1 a.1 (ap (λ l. due l) f.1)
  takes_owed (bits z h v) a b e f = same_owed b.1 a.1 (ap (λ l. due l) f.1)
  takes_owed (octets z h v) a b e f = same_owed b.1 a.1 (ap (λ l. due l) f.1)
  takes_owed (characters k z l h v) a b e f = same_owed b.1 a.1 (ap (λ l. due l) f.1)
  takes_owed (identifier v) a b e f = same_owed b.1 a.1 (ap (λ l. due l) f.1)
  takes_owed (sequence_begins x n) a b e f = same_owed b.1 a.1 (ap (λ l. due l) f.5)
  takes_owed (set_begins x n) a b e f = same_owed b.1 a.1 (ap (λ l. due l) f.5)
  takes_owed (group_begins n) a b e f = same_owed b.1 a.1 (ap (λ l. due l) f.5)
  takes_owed (presence_bit v) a b e f = presence_bit_owed v a.0 a.1 b f
  takes_owed is_default a b e f = at b a f.1 a.1 refl
  takes_owed is_empty a b e f = at b a f.1 a.1 refl
  takes_owed (additions_begin n) a b e f = additions_owed n a.0 a.1 b f
  takes_owed (addition v) a b e f = addition_owed v a.0 a.1 b f
  takes_owed addition_ends a b e f = addition_end_owed a.0 a.1 b f
  takes_owed (choice_begins roots x others v i) a b e f = entry_owed v f.1 a.1 b f.4
  takes_owed ends a b e f = end_owed a.0 a.1 b f
  takes_owed mismatch a b e f = absurd f
  takes_owed (list_begins z h n) a b e f = cc
  takes_owed (bag_begins z h n) a b e f = cc
  takes_owed (further v) a b e f = cc

  -- a few octets appended, if no more elements are due
  pub fewer_owed : (n m l : ℕ) (a b : State) (e : List ℕ) → m ≤ l → (length e + l ≤ n) ⊎ (e ≡ []) → FewMore n m b (with_more e b)
  fewer_owed n m l a b e h (inl i) = (e, refl, inl (omega arith))
  fewer_owed n m l a b e h (inr i) = (e, refl, inr i)

  pub at_once : (n : ℕ) (a : State) → TooFew n a a
  at_once n a = ([], sym (more_none a), inr refl)

  pub records : (n : ℕ) (r : Record) (a b c : State) → keeps_members r ≡ true → Takes free a r b → TooFew n a c → (d : State) × Takes free c r d × TooFew n b d
  records n r a b c k t f =
      let h = subst (λ s. Takes free s r (with_more f.0 b)) (sym f.1) (takes_more free f.0 a r b t) in
      (with_more f.0 b, h, fewer_owed n (due b.1) (due a.1) a b f.0 (takes_owed r a b k t) f.2)

  module _ (other : IsTrue (free Oer.other_bitmap)) (order : IsTrue (free Oer.other_order)) where
    pub values : (n : ℕ) (s : Schema) (v : Value) (a b c : State) → Chain (Takes free) (presents s v) a b → TooFew n a c → (d : State) × Chain (Takes free) (presents s v) c d × TooFew n b d
    values n s v a b c t f =
        let h = subst (λ x. Chain (Takes free) (presents s v) x (with_more f.0 b)) (sym f.1) (chain_more free f.0 (presents s v) a b t) in
        let g = records_read free s v a b other order t in
        (with_more f.0 b, h, fewer_owed n (due b.1) (due a.1) a b f.0 (same_owed b.1 a.1 (ap (λ l. due l) g.1)) f.2)

    -- ---- lists
    pub begins : (n : ℕ) (z : Size) (h : Counts) (m : ℕ) (a b c : State) → Takes free a (list_begins z h m) b → TooFew n a c → (d : State) × Takes free c (list_begins z h m) d × TooFewMembers n b d
    begins n z h m a b c t f =
        let g = subst (λ s. Takes free s (list_begins z h m) (with_more f.0 b)) (sym f.1) (takes_more free f.0 a (list_begins z h m) b t) in
        let o : due (around b.1) ≡ due a.1 = ap (λ l. due (around l)) t.4 in
        (with_more f.0 b, g, fewer_owed n (due (around b.1)) (due a.1) a b f.0 (omega arith) f.2)

    pub around_member : (v : Bool) (os : List ℕ) (k : List Scope) (b : State) → NextMember v os k b → around b.1 ≡ around k
    around_member v os (members zero ∷ k) b f = ap (λ (s : State). around (s.1)) f.1
    around_member v os (members (suc n) ∷ k) b f = ap (λ (s : State). around (s.1)) f.1
    around_member v os k b f = absurd f

    pub coming : (n : ℕ) (a b c : State) → Takes free a (further true) b → TooFewMembers n a c → (d : State) × Takes free c (further true) d
    coming n a b c t f = (with_more f.0 b, subst (λ s. Takes free s (further true) (with_more f.0 b)) (sym f.1) (takes_more free f.0 a (further true) b t))

    pub next_member : (n : ℕ) (s : Schema) (v : Value) (a m b c : State) → Takes free a (further true) m → Chain (Takes free) (presents s v) m b →
        TooFewMembers n a c → (d : State) × (e : State) × Takes free c (further true) d × Chain (Takes free) (presents s v) d e × TooFewMembers n b e
    next_member n s v a m b c t q f =
        let g = subst (λ s. Takes free s (further true) (with_more f.0 m)) (sym f.1) (takes_more free f.0 a (further true) m t) in
        let h = chain_more free f.0 (presents s v) m b q in
        let r = records_read free s v m b other order q in
        let o : around b.1 ≡ around a.1 = ap (λ l. around l) r.1 ∙ around_member true a.0 a.1 m t in
        (with_more f.0 m, with_more f.0 b, g, h, fewer_owed n (due (around b.1)) (due (around a.1)) a b f.0 (same_owed (around b.1) (around a.1) (ap (λ l. due l) o)) f.2)

    pub last_owed : (os : List ℕ) (k : List Scope) (b : State) → NextMember false os k b → due (b.1) ≡ due (around k)
    last_owed os (members zero ∷ k) b f = ap (λ (s : State). due (s.1)) f.1 ∙ none_owed k
    last_owed os (members (suc n) ∷ k) b f = let e : false ≡ true = f.0 in cc
    last_owed os k b f = absurd f

    pub last_member : (n : ℕ) (a b c : State) → Takes free a (further false) b → TooFewMembers n a c → (d : State) × Takes free c (further false) d × TooFew n b d
    last_member n a b c t f =
        let g = subst (λ s. Takes free s (further false) (with_more f.0 b)) (sym f.1) (takes_more free f.0 a (further false) b t) in
        (with_more f.0 b, g, fewer_owed n (due b.1) (due (around a.1)) a b f.0 (same_owed b.1 (around a.1) (last_owed a.0 a.1 b t)) f.2)

    pub asked : (n : ℕ) (a : State) → ((c : State) → TooFew n a c → (v : Bool) (d : State) → Takes free c (further v) d → ⊥) → (c : State) →
        TooFewMembers n a c → (v : Bool) (d : State) → Takes free c (further v) d → ⊥
    asked n a h c f v d t =
        let z = member_back free f.0 v a.0 a.1 d (subst (λ s. Takes free s (further v) d) f.1 t) in
        h a (at_once n a) v z.0 z.2

    -- if an element is missing, so are those after it
    abbrev Absent : ℕ → Schema → State → Type 0
    Absent n s b = (c : State) → TooFew n b c → (v : Value) (d : State) → Fits s v → Chain (Takes free) (presents s v) c d → ⊥

    fits : (s : Schema) (v : Value) (a b : State) → Chain (Takes free) (presents s v) a b → Fits s v
    fits s v a b t = Fitting.records_fit _ _ (λ x y m. m) s v a b t

    stuck_at : (n : ℕ) (s : Schema) → IsLawful s → (j : ℕ) (os : List ℕ) (k : List Scope) → Absent n s (os, members j ∷ k) → (e : List ℕ) →
        (length e + due k ≤ n) ⊎ (e ≡ []) → (v : Value) (vs : Values) (c : State) → Chain (Takes free) (presents s v ++ member_records (λ w. presents s w) vs) (with_more e (os, members j ∷ k)) c → ⊥
    stuck_at n s l j os k h e (inr q) v vs c t =
        let a : State = (os, members j ∷ k) in
        let z = chain_split (Takes free) (presents s v) (member_records (λ w. presents s w) vs) (with_more e a) c t in
        h (with_more e a) (e, refl, inr q) v z.0 (fits s v (with_more e a) z.0 z.1) z.1
    stuck_at n s l j os k h e (inl q) v vs c t = by_case (is_within k) refl
      where
        here : (m : ℕ) → (m + (j + due k) ≤ n) ⊎ (m ≡ 0) → is_within k ≡ false → (f : List ℕ) (u : Value) (d : State) → length f ≤ m →
            Chain (Takes free) (presents s u) (with_more f (os, members j ∷ k)) d → ⊥
        here m (inl i) w f u d g x =
            let o : due (members j ∷ k) ≡ j + due k = ap (λ b. cond b (due k) (j + due k)) w in
            h (with_more f (os, members j ∷ k)) (f, refl, inl (omega arith)) u d (fits s u (with_more f (os, members j ∷ k)) d x) x
        here m (inr i) w [] u d g x = h (with_more [] (os, members j ∷ k)) ([], refl, inr refl) u d (fits s u (with_more [] (os, members j ∷ k)) d x) x
        here m (inr i) w (y ∷ f) u d g x = absurd (omega arith)

        by_case : (b : Bool) → is_within k ≡ b → ⊥
        by_case true w =
            let a : State = (os, members j ∷ k) in
            let z = chain_split (Takes free) (presents s v) (member_records (λ w. presents s w) vs) (with_more e a) c t in
            let o : due (members j ∷ k) ≡ due k = ap (λ b. cond b (due k) (j + due k)) w in
            h (with_more e a) (e, refl, inl (omega arith)) v z.0 (fits s v (with_more e a) z.0 z.1) z.1
        by_case false w = elim (cases_lt n (j + due k)) [
          | inl i ↦ lacking free s 0 j os k other order l w (here 0 (inr refl) w) e v vs c (omega arith) t
          | inr i ↦ lacking free s (n - (j + due k)) j os k other order l w (here (n - (j + due k)) (inl (omega arith)) w) e v vs c (omega arith) t
        ]

    stuck_from : (n : ℕ) (s : Schema) → IsLawful s → (os : List ℕ) (k : List Scope) (b : State) → NextMember true os k b → Absent n s b →
        (e : List ℕ) → (length e + due (around k) ≤ n) ⊎ (e ≡ []) → (d : State) → NextMember true (octets_with e k os) (scopes_with e k) d →
        (v : Value) (vs : Values) (c : State) → Chain (Takes free) (presents s v ++ member_records (λ w. presents s w) vs) d c → ⊥
    stuck_from n s l os (members zero ∷ k) b f h e q d g v vs c t = let e : true ≡ false = f.0 in cc
    stuck_from n s l os (members (suc j) ∷ k) b f h e q d g v vs c t =
        stuck_at n s l j os k (subst (λ x. Absent n s x) f.1 h) e q v vs c (subst (λ x. Chain (Takes free) (presents s v ++ member_records (λ w. presents s w) vs) x c) g.1 t)
    stuck_from n s l os k b f h e q d g v vs c t = absurd f

    pub stuck : (n : ℕ) (s : Schema) → IsLawful s → (a b : State) → Takes free a (further true) b → Absent n s b → (c d : State) →
        TooFewMembers n a c → Takes free c (further true) d → (v : Value) (vs : Values) (e : State) → Chain (Takes free) (presents s v ++ member_records (λ w. presents s w) vs) d e → ⊥
    stuck n s l a b t h c d f g v vs e q = stuck_from n s l a.0 a.1 b t h f.0 f.2 d (subst (λ x. Takes free x (further true) d) f.1 g) v vs e q

    pub bag_begun : (n : ℕ) (z : Size) (h : Counts) (m : ℕ) (a b c : State) → Takes free a (bag_begins z h m) b → TooFew n a c → (d : State) × Takes free c (bag_begins z h m) d × TooFewMembers n b d
    bag_begun n z h m a b c t f = begins n z h m a b c t f

pub few_carried : FewCarried
few_carried free n other order = (
  λ r a b failed c k t f. records free (n failed) r a b c k t f,
  λ s v a b failed c t f. values free other order (n failed) s v a b c t f,
  record {
    list = λ z h m a b failed c t f. begins free other order (n failed) z h m a b c t f;
    bag = λ z h m a b failed c t f. bag_begun free other order (n failed) z h m a b c t f;
    coming = λ a b failed c t f. coming free other order (n failed) a b c t f;
    member = λ s v a m b failed c t q f. next_member free other order (n failed) s v a m b c t q f;
    last = λ a b failed c t f. last_member free other order (n failed) a b c t f;
    asked = λ a failed h c f v d t. asked free other order (n failed) a h c f v d t;
    stuck = λ s l a b failed t h c d f g v vs e i q. stuck free other order (n failed) s l a b t h c d f g v vs e q;
  },
)

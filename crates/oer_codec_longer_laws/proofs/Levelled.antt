-- The laws of elements, for values with a limited number of nested levels.
use Rattle.std.proofs.Common.{◌≡◌, ◌⊎◌, inl, inr, ◌≤◌, ◌<◌, ℕ, zero, suc, ◌+◌, ◌-◌, max, Bool, true, false, cond, IsTrue, List, [], ◌∷◌, ◌++◌, length, refl, ap, sym, ◌∙◌, subst, arith}
use Rattle.std.proofs.lemmas.Bool.{cases_lt}
use Rattle.asn1_model.specs.Value.{Value, Values, no_more, member, depth, depth_of_members}
use Rattle.asn1_model.specs.Schema.{Schema}
use Rattle.asn1_model.specs.Lawful.{IsLawful}
use Rattle.asn1_model.specs.Oer
use Rattle.asn1_schema_reading_laws.proofs.Fitting
use Rattle.asn1_schema_laws.specs.Presents.{presents, member_records, Fits}
use Rattle.asn1_schema_laws.specs.Records.{further}
use Rattle.asn1_schema_laws.specs.Chains.{Chain}
use Rattle.asn1_schema_laws.proofs.Chains.{chain_split}
use Rattle.oer_codec_laws.specs.Takes.{State, Scope, members, NextMember, Takes}
use Rattle.oer_codec_laws.proofs.Next.{state_same}
use Rattle.oer_codec_laws.proofs.Whole.{records_read}
use Rattle.oer_codec_longer_laws.specs.More.{is_within, octets_with, scopes_with, with_more, octets_behind, outermost}
use Rattle.oer_codec_longer_laws.specs.Few.{due, around, TooFew, TooFewMembers}
use Rattle.oer_codec_longer_laws.proofs.Behind.{more_twice, more_none, outside}
use Rattle.oer_codec_longer_laws.proofs.Chained.{chain_back}
use Rattle.oer_codec_longer_laws.proofs.Empty.{empty}
use Rattle.oer_codec_longer_laws.proofs.Lacking.{in_two}
use Rattle.asn1_schema_lacking_laws.proofs.Nesting.{no_deeper}

module _ (free : Oer.Freedom → Bool) (other : IsTrue (free Oer.other_bitmap)) (order : IsTrue (free Oer.other_order)) (s : Schema) (deepest : ℕ) where
  abbrev Found : Value → State → State → Type 0
  Found v a b = Chain (Takes free) (presents s v) a b

  -- if no value with so few levels is next in some state, each takes at least one octet in every state
  some_within : IsLawful s → (c : State) → ((w : Value) (d : State) → depth w ≤ deepest → Found w c d → ⊥) → (v : Value) (a b : State) → depth v ≤ deepest → Found v a b → length (b.0) < length (a.0)
  some_within l c none v a b i q =
      elim (cases_lt (length (b.0)) (length (a.0))) [
        | inl h ↦ h
        | inr h ↦
            let z = empty free s v a b c other order l q h in
            let k = no_deeper v z.0 z.1 in
            absurd (none z.0 c (omega arith) z.2)
      ]

  abbrev Each : Type 0
  Each = (v : Value) (a b : State) → depth v ≤ deepest → Found v a b → length (b.0) < length (a.0)

  abbrev Members : Values → State → State → Type 0
  Members vs a b = Chain (Takes free) (member_records (λ w. presents s w) vs) a b

  members_take : Each → (j : ℕ) (k : List Scope) (os : List ℕ) (vs : Values) (c : State) → depth_of_members vs ≤ deepest → Members vs (os, members j ∷ k) c → j ≤ length os
  unfolding depth_of_members
  members_take h zero k os vs c i q = omega arith
  members_take h (suc j) k os no_more c i q = let e : false ≡ true = q.1.0 in cc
  members_take h (suc j) k os (member v vs) c i q =
      let z = chain_split (Takes free) (presents s v) (member_records (λ w. presents s w) vs) q.0 c q.2 in
      let y : Found v (os, members j ∷ k) z.0 = subst (λ a. Found v a z.0) q.1.1 z.1 in
      let f = records_read free s v (os, members j ∷ k) z.0 other order y in
      let r : Members vs (z.0.0, members j ∷ k) c = subst (λ a. Members vs a c) (state_same z.0 (z.0.0, members j ∷ k) refl f.1) z.2 in
      let m = members_take h j k z.0.0 vs c (omega arith) r in
      let t = h v (os, members j ∷ k) z.0 (omega arith) y in
      omega arith

  lacking_within : IsLawful s → (n j : ℕ) (os : List ℕ) (k : List Scope) → is_within k ≡ false →
      ((e : List ℕ) (v : Value) (c : State) → length e ≤ n → depth v ≤ deepest → Found v (with_more e (os, members j ∷ k)) c → ⊥) →
      (e : List ℕ) (v : Value) (vs : Values) (c : State) → length e ≤ n + j → depth v ≤ deepest → depth_of_members vs ≤ deepest →
      Chain (Takes free) (presents s v ++ member_records (λ w. presents s w) vs) (with_more e (os, members j ∷ k)) c → ⊥
  lacking_within l n j os k w none e v vs c h dv dvs q =
      let a : State = (os, members j ∷ k) in
      let z = chain_split (Takes free) (presents s v) (member_records (λ w. presents s w) vs) (with_more e a) c q in
      let here : (u : Value) (d : State) → depth u ≤ deepest → Found u a d → ⊥ = λ u d i x. none [] u d (omega arith) i (subst (λ b. Found u b d) (sym (more_none a)) x) in
      let f = records_read free s v (with_more e a) z.0 other order z.1 in
      let r : Members vs (z.0.0, members j ∷ scopes_with e k) c = subst (λ b. Members vs b c) (state_same z.0 (z.0.0, members j ∷ scopes_with e k) refl f.1) z.2 in
      let i = members_take (some_within l a here) j (scopes_with e k) z.0.0 vs c dvs r in
      let g : outermost z.0 ≡ z.0.0 = ap (λ m. octets_behind z.0.0 m) f.1 ∙ outside e k z.0.0 w in
      let g' : length (outermost z.0) ≡ length (z.0.0) = ap (λ (m : List ℕ). length m) g in
      let p = in_two n j e h in
      let y : Found v (with_more p.1 (with_more p.0 a)) z.0 = subst (λ b. Found v b z.0) (sym (ap (λ m. with_more m a) p.2) ∙ more_twice p.0 p.1 a) z.1 in
      let x = chain_back free p.1 (presents s v) (with_more p.0 a) z.0 y (omega arith) in
      none p.0 v x.0 p.3 dv x.2

  -- no value with so few levels is next, nor with a few octets appended
  abbrev pub Absent : ℕ → State → Type 0
  Absent n b = (c : State) → TooFew n b c → (v : Value) (d : State) → Fits s v → depth v ≤ deepest → Found v c d → ⊥

  fits : (v : Value) (a b : State) → Found v a b → Fits s v
  fits v a b t = Fitting.records_fit _ _ (λ x y m. m) s v a b t

  stuck_at : IsLawful s → (n j : ℕ) (os : List ℕ) (k : List Scope) → Absent n (os, members j ∷ k) → (e : List ℕ) → (length e + due k ≤ n) ⊎ (e ≡ []) →
      (v : Value) (vs : Values) (c : State) → depth v ≤ deepest → depth_of_members vs ≤ deepest →
      Chain (Takes free) (presents s v ++ member_records (λ w. presents s w) vs) (with_more e (os, members j ∷ k)) c → ⊥
  stuck_at l n j os k h e (inr q) v vs c dv dvs t =
      let a : State = (os, members j ∷ k) in
      let z = chain_split (Takes free) (presents s v) (member_records (λ w. presents s w) vs) (with_more e a) c t in
      h (with_more e a) (e, refl, inr q) v z.0 (fits v (with_more e a) z.0 z.1) dv z.1
  stuck_at l n j os k h e (inl q) v vs c dv dvs t = by_case (is_within k) refl
    where
      here : (m : ℕ) → (m + (j + due k) ≤ n) ⊎ (m ≡ 0) → is_within k ≡ false → (f : List ℕ) (u : Value) (d : State) → length f ≤ m → depth u ≤ deepest → Found u (with_more f (os, members j ∷ k)) d → ⊥
      here m (inl i) w f u d g du x =
          let o : due (members j ∷ k) ≡ j + due k = ap (λ b. cond b (due k) (j + due k)) w in
          h (with_more f (os, members j ∷ k)) (f, refl, inl (omega arith)) u d (fits u (with_more f (os, members j ∷ k)) d x) du x
      here m (inr i) w [] u d g du x = h (with_more [] (os, members j ∷ k)) ([], refl, inr refl) u d (fits u (with_more [] (os, members j ∷ k)) d x) du x
      here m (inr i) w (y ∷ f) u d g du x = absurd (omega arith)

      by_case : (b : Bool) → is_within k ≡ b → ⊥
      by_case true w =
          let a : State = (os, members j ∷ k) in
          let z = chain_split (Takes free) (presents s v) (member_records (λ w. presents s w) vs) (with_more e a) c t in
          let o : due (members j ∷ k) ≡ due k = ap (λ b. cond b (due k) (j + due k)) w in
          h (with_more e a) (e, refl, inl (omega arith)) v z.0 (fits v (with_more e a) z.0 z.1) dv z.1
      by_case false w = elim (cases_lt n (j + due k)) [
        | inl i ↦ lacking_within l 0 j os k w (here 0 (inr refl) w) e v vs c (omega arith) dv dvs t
        | inr i ↦ lacking_within l (n - (j + due k)) j os k w (here (n - (j + due k)) (inl (omega arith)) w) e v vs c (omega arith) dv dvs t
      ]

  stuck_from : IsLawful s → (n : ℕ) (os : List ℕ) (k : List Scope) (b : State) → NextMember true os k b → Absent n b → (e : List ℕ) →
      (length e + due (around k) ≤ n) ⊎ (e ≡ []) → (d : State) → NextMember true (octets_with e k os) (scopes_with e k) d →
      (v : Value) (vs : Values) (c : State) → depth v ≤ deepest → depth_of_members vs ≤ deepest → Chain (Takes free) (presents s v ++ member_records (λ w. presents s w) vs) d c → ⊥
  stuck_from l n os (members zero ∷ k) b f h e q d g v vs c dv dvs t = let e : true ≡ false = f.0 in cc
  stuck_from l n os (members (suc j) ∷ k) b f h e q d g v vs c dv dvs t =
      stuck_at l n j os k (subst (λ x. Absent n x) f.1 h) e q v vs c dv dvs (subst (λ x. Chain (Takes free) (presents s v ++ member_records (λ w. presents s w) vs) x c) g.1 t)
  stuck_from l n os k b f h e q d g v vs c dv dvs t = absurd f

pub stuck_within : (free : Oer.Freedom → Bool) (other : IsTrue (free Oer.other_bitmap)) (order : IsTrue (free Oer.other_order)) (s : Schema)
    (deepest : ℕ) → IsLawful s → (n : ℕ) (a b : State) → Takes free a (further true) b → Absent free other order s deepest n b → (c d : State) →
    TooFewMembers n a c → Takes free c (further true) d → (v : Value) (vs : Values) (e : State) → depth v ≤ deepest → depth_of_members vs ≤ deepest →
    Chain (Takes free) (presents s v ++ member_records (λ w. presents s w) vs) d e → ⊥
stuck_within free other order s deepest l n a b t h c d f g v vs e dv dvs q =
    stuck_from free other order s deepest l n a.0 a.1 b t h f.0 f.2 d (subst (λ x. Takes free x (further true) d) f.1 g) v vs e dv dvs q

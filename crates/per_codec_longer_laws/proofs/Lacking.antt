-- How many bits the elements of a list lack at least.
use Rattle.std.proofs.Common.{◌≡◌, ◌≤◌, ◌<◌, ℕ, zero, suc, ◌+◌, Bool, true, false, IsTrue, List, [], ◌∷◌, ◌++◌, length, Option, refl, ap, sym, ◌∙◌, subst, arith}
use Rattle.asn1_model.specs.Value.{Value, Values, no_more, member}
use Rattle.asn1_model.specs.Schema.{Schema}
use Rattle.asn1_model.specs.Per
use Rattle.asn1_schema_laws.specs.Presents.{presents, member_records}
use Rattle.asn1_schema_laws.specs.Chains.{Chain}
use Rattle.asn1_schema_laws.proofs.Chains.{chain_split}
use Rattle.per_codec_laws.specs.Takes.{Position, Tally, State, Scope, members, Takes}
use Rattle.per_codec_laws.proofs.Next.{state_same}
use Rattle.per_codec_laws.proofs.Whole.{records_read}
use Rattle.per_codec_longer_laws.specs.More.{scopes_with, with_more, bits_behind, outermost}
use Rattle.per_codec_longer_laws.specs.Laws.{MembersAreLacking}
use Rattle.per_codec_longer_laws.proofs.Behind.{more_twice, more_none, outside}
use Rattle.per_codec_longer_laws.proofs.Chained.{chain_back}
use Rattle.per_codec_longer_laws.proofs.Empty.{some}

-- a list in two parts, each within a limit
pub in_two : (n j : ℕ) (e : List Bool) → length e ≤ n + j → (f : List Bool) × (g : List Bool) × (f ++ g ≡ e) × (length f ≤ n) × (length g ≤ j)
in_two zero j e h = ([], e, refl, omega arith, omega arith)
in_two (suc n) j [] h = ([], [], refl, omega arith, omega arith)
in_two (suc n) j (x ∷ e) h = let z = in_two n j e (omega arith) in (x ∷ z.0, z.1, ap (λ l. x ∷ l) z.2, omega arith, z.4)

module _ (al : Bool) (free : Per.Freedom → Bool) (other : IsTrue (free Per.other_bitmap)) (order : IsTrue (free Per.other_order)) (s : Schema) where
  abbrev Each : Type 0
  Each = (v : Value) (a b : State) → Chain (Takes al free) (presents s v) a b → length (b.0.1) < length (a.0.1)

  -- the elements that are to come take at least one bit each
  members_take : Each → (j : ℕ) (hs : Option Tally) (k : List Scope) (p : Position) (vs : Values) (c : State) →
      Chain (Takes al free) (member_records (λ w. presents s w) vs) (p, members j hs ∷ k) c → j ≤ length (p.1)
  members_take h zero hs k p vs c q = omega arith
  members_take h (suc j) hs k p no_more c q = let e : false ≡ true = q.1.0 in cc
  members_take h (suc j) hs k p (member v vs) c q =
      let z = chain_split (Takes al free) (presents s v) (member_records (λ w. presents s w) vs) q.0 c q.2 in
      let y : Chain (Takes al free) (presents s v) (p, members j hs ∷ k) z.0 = subst (λ a. Chain (Takes al free) (presents s v) a z.0) q.1.1 z.1 in
      let f = records_read al free s v (p, members j hs ∷ k) z.0 other order y in
      let r : Chain (Takes al free) (member_records (λ w. presents s w) vs) (z.0.0, members j hs ∷ k) c =
      subst (λ a. Chain (Takes al free) (member_records (λ w. presents s w) vs) a c) (state_same z.0 (z.0.0, members j hs ∷ k) refl f.1) z.2 in
      let i = members_take h j hs k z.0.0 vs c r in
      let t = h v (p, members j hs ∷ k) z.0 y in
      omega arith

pub lacking : MembersAreLacking
lacking al free s n j hs p k other order l w none e v vs c h q =
    let a : State = (p, members j hs ∷ k) in
    let z = chain_split (Takes al free) (presents s v) (member_records (λ w. presents s w) vs) (with_more e a) c q in
    let here : (u : Value) (d : State) → Chain (Takes al free) (presents s u) a d → ⊥ = λ u d x.
    none [] u d (omega arith) (subst (λ b. Chain (Takes al free) (presents s u) b d) (sym (more_none a)) x) in
    let f = records_read al free s v (with_more e a) z.0 other order z.1 in
    let r : Chain (Takes al free) (member_records (λ w. presents s w) vs) (z.0.0, members j hs ∷ scopes_with e k) c =
    subst (λ b. Chain (Takes al free) (member_records (λ w. presents s w) vs) b c) (state_same z.0 (z.0.0, members j hs ∷ scopes_with e k) refl f.1) z.2 in
    let i = members_take al free other order s (some al free s a other order l here) j hs (scopes_with e k) z.0.0 vs c r in
    let g : outermost z.0 ≡ z.0.0.1 = ap (λ m. bits_behind z.0.0 m) f.1 ∙ outside e k z.0.0 w in
    let g' : length (outermost z.0) ≡ length (z.0.0.1) = ap (λ (m : List Bool). length m) g in
    let t = in_two n j e h in
    let y : Chain (Takes al free) (presents s v) (with_more t.1 (with_more t.0 a)) z.0 =
    subst (λ b. Chain (Takes al free) (presents s v) b z.0) (sym (ap (λ m. with_more m a) t.2) ∙ more_twice t.0 t.1 a) z.1 in
    let x = chain_back al free t.1 (presents s v) (with_more t.0 a) z.0 y (omega arith) in
    none t.0 v x.0 t.3 x.2

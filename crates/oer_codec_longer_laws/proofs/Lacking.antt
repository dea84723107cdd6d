-- How many octets the elements of a list lack at least.
use Rattle.std.proofs.Common.{◌≡◌, ◌≤◌, ◌<◌, ℕ, zero, suc, ◌+◌, Bool, true, false, IsTrue, List, [], ◌∷◌, ◌++◌, length, refl, ap, sym, ◌∙◌, subst, arith}
use Rattle.asn1_model.specs.Value.{Value, Values, no_more, member}
use Rattle.asn1_model.specs.Schema.{Schema}
use Rattle.asn1_model.specs.Oer
use Rattle.asn1_schema_laws.specs.Presents.{presents, member_records}
use Rattle.asn1_schema_laws.specs.Chains.{Chain}
use Rattle.asn1_schema_laws.proofs.Chains.{chain_split}
use Rattle.oer_codec_laws.specs.Takes.{State, Scope, members, Takes}
use Rattle.oer_codec_laws.proofs.Next.{state_same}
use Rattle.oer_codec_laws.proofs.Whole.{records_read}
use Rattle.oer_codec_longer_laws.specs.More.{scopes_with, with_more, octets_behind, outermost}
use Rattle.oer_codec_longer_laws.specs.Laws.{MembersAreLacking}
use Rattle.oer_codec_longer_laws.proofs.Behind.{more_twice, more_none, outside}
use Rattle.oer_codec_longer_laws.proofs.Chained.{chain_back}
use Rattle.oer_codec_longer_laws.proofs.Empty.{some}

-- a list in two parts, each within a limit
pub in_two : (n j : ℕ) (e : List ℕ) → length e ≤ n + j → (f : List ℕ) × (g : List ℕ) × (f ++ g ≡ e) × (length f ≤ n) × (length g ≤ j)
in_two zero j e h = ([], e, refl, omega arith, omega arith)
in_two (suc n) j [] h = ([], [], refl, omega arith, omega arith)
in_two (suc n) j (x ∷ e) h = let z = in_two n j e (omega arith) in (x ∷ z.0, z.1, ap (λ l. x ∷ l) z.2, omega arith, z.4)

module _ (free : Oer.Freedom → Bool) (other : IsTrue (free Oer.other_bitmap)) (order : IsTrue (free Oer.other_order)) (s : Schema) where
  abbrev Each : Type 0
  Each = (v : Value) (a b : State) → Chain (Takes free) (presents s v) a b → length (b.0) < length (a.0)

  -- the elements that are to come take at least one octet each
  members_take : Each → (j : ℕ) (k : List Scope) (os : List ℕ) (vs : Values) (c : State) → Chain (Takes free) (member_records (λ w. presents s w) vs) (os, members j ∷ k) c → j ≤ length os
  members_take h zero k os vs c q = omega arith
  members_take h (suc j) k os no_more c q = let e : false ≡ true = q.1.0 in cc
  members_take h (suc j) k os (member v vs) c q =
      let z = chain_split (Takes free) (presents s v) (member_records (λ w. presents s w) vs) q.0 c q.2 in
      let y : Chain (Takes free) (presents s v) (os, members j ∷ k) z.0 = subst (λ a. Chain (Takes free) (presents s v) a z.0) q.1.1 z.1 in
      let f = records_read free s v (os, members j ∷ k) z.0 other order y in
      let r : Chain (Takes free) (member_records (λ w. presents s w) vs) (z.0.0, members j ∷ k) c =
      subst (λ a. Chain (Takes free) (member_records (λ w. presents s w) vs) a c) (state_same z.0 (z.0.0, members j ∷ k) refl f.1) z.2 in
      let i = members_take h j k z.0.0 vs c r in
      let t = h v (os, members j ∷ k) z.0 y in
      omega arith

pub lacking : MembersAreLacking
lacking free s n j os k other order l w none e v vs c h q =
    let a : State = (os, members j ∷ k) in
    let z = chain_split (Takes free) (presents s v) (member_records (λ w. presents s w) vs) (with_more e a) c q in
    let here : (u : Value) (d : State) → Chain (Takes free) (presents s u) a d → ⊥ = λ u d x. none [] u d (omega arith) (subst (λ b. Chain (Takes free) (presents s u) b d) (sym (more_none a)) x) in
    let f = records_read free s v (with_more e a) z.0 other order z.1 in
    let r : Chain (Takes free) (member_records (λ w. presents s w) vs) (z.0.0, members j ∷ scopes_with e k) c =
    subst (λ b. Chain (Takes free) (member_records (λ w. presents s w) vs) b c) (state_same z.0 (z.0.0, members j ∷ scopes_with e k) refl f.1) z.2 in
    let i = members_take free other order s (some free s a other order l here) j (scopes_with e k) z.0.0 vs c r in
    let g : outermost z.0 ≡ z.0.0 = ap (λ m. octets_behind z.0.0 m) f.1 ∙ outside e k z.0.0 w in
    let g' : length (outermost z.0) ≡ length (z.0.0) = ap (λ (m : List ℕ). length m) g in
    let p = in_two n j e h in
    let y : Chain (Takes free) (presents s v) (with_more p.1 (with_more p.0 a)) z.0 =
    subst (λ b. Chain (Takes free) (presents s v) b z.0) (sym (ap (λ m. with_more m a) p.2) ∙ more_twice p.0 p.1 a) z.1 in
    let x = chain_back free p.1 (presents s v) (with_more p.0 a) z.0 y (omega arith) in
    none p.0 v x.0 p.3 x.2

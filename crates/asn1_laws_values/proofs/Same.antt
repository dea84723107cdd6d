-- Equality of values is an equivalence.
use Rattle.std.proofs.Common.{◌≡◌, ℕ, zero, suc, ◌+◌, ◌<◌, max, true, refl, ap, sym, ◌∙◌, subst, arith}
use Rattle.std.proofs.lemmas.Bool.{and_parts, and_from, eqb-true, eq-eqb}
use Rattle.asn1_model.specs.Value.{Value, truth, nothing, number, item, bit_list, octet_list, text, arcs, members, bag}
use Rattle.asn1_model.specs.Value.{fields, chosen, Values, no_more, member, Parts, end, absent, present, same}
use Rattle.asn1_model.specs.Value.{same_truth, same_members, same_bag, same_parts, depth, depth_of_members}
use Rattle.asn1_model.specs.Value.{depth_of_parts}
use Rattle.asn1_laws_values.proofs.Leaves.{truths_equal, truth_same, numbers_equal, number_same, bits_equal, bits_same, naturals_equal, naturals_same}
use Rattle.asn1_laws_values.proofs.Counts.{EquivalentBelow, counts_alike, alike_counted}

mutual
  unfolding same same_members same_bag same_parts

  pub same_self : (v : Value) → same v v ≡ true
  same_self (truth a) = truth_same a
  same_self nothing = refl
  same_self (number a) = number_same a
  same_self (item a) = number_same a
  same_self (bit_list bs) = bits_same bs
  same_self (octet_list os) = naturals_same os
  same_self (text cs) = naturals_same cs
  same_self (arcs ns) = naturals_same ns
  same_self (members vs) = same_members_self vs
  same_self (bag vs) = same_bag_self vs
  same_self (fields ps qs) = and_from _ _ (same_parts_self ps) (same_parts_self qs)
  same_self (chosen a i v) = and_from _ _ (and_from _ _ (truth_same a) (eq-eqb i i refl)) (same_self v)

  same_members_self : (vs : Values) → same_members vs vs ≡ true
  same_members_self no_more = refl
  same_members_self (member v vs) = and_from _ _ (same_self v) (same_members_self vs)

  same_bag_self : (vs : Values) → same_bag vs vs ≡ true
  same_bag_self no_more = refl
  same_bag_self (member v vs) = let e = same_self v in rw e (same_bag_self vs)

  same_parts_self : (ps : Parts) → same_parts ps ps ≡ true
  same_parts_self end = refl
  same_parts_self (absent ps) = same_parts_self ps
  same_parts_self (present v ps) = and_from _ _ (same_self v) (same_parts_self ps)

same_as : (v w : Value) → v ≡ w → same w v ≡ true
same_as v w e = subst (λ x. same x v ≡ true) e (same_self v)

module _ (n : ℕ) (q : EquivalentBelow n) where
  members_turned : (vs ws : Values) → depth_of_members vs < n → depth_of_members ws < n → same_members vs ws ≡ true → same_members ws vs ≡ true
  unfolding same_members depth_of_members
  members_turned no_more no_more h i e = refl
  members_turned no_more (member w ws) h i e = cc
  members_turned (member v vs) no_more h i e = cc
  members_turned (member v vs) (member w ws) h i e = let p = and_parts _ _ e in and_from _ _ (q.turned v w (omega arith) (omega arith) p.0) (members_turned vs ws (omega arith) (omega arith) p.1)

  parts_turned : (ps qs : Parts) → depth_of_parts ps < n → depth_of_parts qs < n → same_parts ps qs ≡ true → same_parts qs ps ≡ true
  unfolding same_parts depth_of_parts
  parts_turned end end h i e = refl
  parts_turned (absent ps) (absent qs) h i e = parts_turned ps qs h i e
  parts_turned (present v ps) (present w qs) h i e = let p = and_parts _ _ e in and_from _ _ (q.turned v w (omega arith) (omega arith) p.0) (parts_turned ps qs (omega arith) (omega arith) p.1)
  parts_turned ps qs h i e = cc

  members_chained : (us vs ws : Values) → depth_of_members us < n → depth_of_members vs < n → depth_of_members ws < n →
      same_members us vs ≡ true → same_members vs ws ≡ true → same_members us ws ≡ true
  unfolding same_members depth_of_members
  members_chained no_more no_more ws h i j e f = f
  members_chained no_more (member v vs) ws h i j e f = cc
  members_chained (member u us) no_more ws h i j e f = cc
  members_chained (member u us) (member v vs) no_more h i j e f = cc
  members_chained (member u us) (member v vs) (member w ws) h i j e f = let p = and_parts _ _ e in let r = and_parts _ _ f in
      and_from _ _ (q.chained u v w (omega arith) (omega arith) (omega arith) p.0 r.0) (members_chained us vs ws (omega arith) (omega arith) (omega arith) p.1 r.1)

  parts_chained : (ps qs rs : Parts) → depth_of_parts ps < n → depth_of_parts qs < n → depth_of_parts rs < n → same_parts ps qs ≡ true → same_parts qs rs ≡ true → same_parts ps rs ≡ true
  unfolding same_parts depth_of_parts
  parts_chained end end rs h i j e f = f
  parts_chained (absent ps) (absent qs) (absent rs) h i j e f = parts_chained ps qs rs h i j e f
  parts_chained (absent ps) (absent qs) rs h i j e f = cc
  parts_chained (present v ps) (present w qs) (present z rs) h i j e f = let p = and_parts _ _ e in let r = and_parts _ _ f in
      and_from _ _ (q.chained v w z (omega arith) (omega arith) (omega arith) p.0 r.0) (parts_chained ps qs rs (omega arith) (omega arith) (omega arith) p.1 r.1)
  parts_chained (present v ps) (present w qs) rs h i j e f = cc
  parts_chained ps qs rs h i j e f = cc

  next_turned : (v w : Value) → depth v < suc n → depth w < suc n → same v w ≡ true → same w v ≡ true
  unfolding same depth
  next_turned (truth a) (truth b) h i e = same_as _ _ (ap truth (truths_equal a b e))
  next_turned nothing nothing h i e = refl
  next_turned (number a) (number b) h i e = same_as _ _ (ap number (numbers_equal a b e))
  next_turned (item a) (item b) h i e = same_as _ _ (ap item (numbers_equal a b e))
  next_turned (bit_list a) (bit_list b) h i e = same_as _ _ (ap bit_list (bits_equal a b e))
  next_turned (octet_list a) (octet_list b) h i e = same_as _ _ (ap octet_list (naturals_equal a b e))
  next_turned (text a) (text b) h i e = same_as _ _ (ap text (naturals_equal a b e))
  next_turned (arcs a) (arcs b) h i e = same_as _ _ (ap arcs (naturals_equal a b e))
  next_turned (members vs) (members ws) h i e = members_turned vs ws (omega arith) (omega arith) e
  next_turned (bag vs) (bag ws) h i e = alike_counted n q same_self ws vs (omega arith) (omega arith) (λ t k. sym (counts_alike n q same_self vs ws (omega arith) (omega arith) e t k))
  next_turned (fields ps qs) (fields rs ss) h i e = let p = and_parts _ _ e in and_from _ _ (parts_turned ps rs (omega arith) (omega arith) p.0) (parts_turned qs ss (omega arith) (omega arith) p.1)
  next_turned (chosen a k v) (chosen b l w) h i e =
      let p = and_parts _ _ e in
      let r = and_parts _ _ p.0 in
      and_from _ _ (and_from _ _ (subst (λ x. same_truth x a ≡ true) (truths_equal a b r.0) (truth_same a)) (eq-eqb l k (sym (eqb-true k l r.1)))) (q.turned v w (omega arith) (omega arith) p.1)
  next_turned v w h i e = cc

  next_chained : (u v w : Value) → depth u < suc n → depth v < suc n → depth w < suc n → same u v ≡ true → same v w ≡ true → same u w ≡ true
  unfolding same depth
  next_chained (truth a) (truth b) w h i j e f = subst (λ x. same (truth x) w ≡ true) (sym (truths_equal a b e)) f
  next_chained nothing nothing w h i j e f = f
  next_chained (number a) (number b) w h i j e f = subst (λ x. same (number x) w ≡ true) (sym (numbers_equal a b e)) f
  next_chained (item a) (item b) w h i j e f = subst (λ x. same (item x) w ≡ true) (sym (numbers_equal a b e)) f
  next_chained (bit_list a) (bit_list b) w h i j e f = subst (λ x. same (bit_list x) w ≡ true) (sym (bits_equal a b e)) f
  next_chained (octet_list a) (octet_list b) w h i j e f = subst (λ x. same (octet_list x) w ≡ true) (sym (naturals_equal a b e)) f
  next_chained (text a) (text b) w h i j e f = subst (λ x. same (text x) w ≡ true) (sym (naturals_equal a b e)) f
  next_chained (arcs a) (arcs b) w h i j e f = subst (λ x. same (arcs x) w ≡ true) (sym (naturals_equal a b e)) f
  next_chained (members us) (members vs) (members ws) h i j e f = members_chained us vs ws (omega arith) (omega arith) (omega arith) e f
  next_chained (members us) (members vs) w h i j e f = cc
  next_chained (bag us) (bag vs) (bag ws) h i j e f =
      alike_counted n q same_self us ws (omega arith) (omega arith)
      (λ t k. counts_alike n q same_self us vs (omega arith) (omega arith) e t k ∙ counts_alike n q same_self vs ws (omega arith) (omega arith) f t k)
  next_chained (bag us) (bag vs) w h i j e f = cc
  next_chained (fields ps qs) (fields rs ss) (fields xs ys) h i j e f =
      let p = and_parts _ _ e in
      let r = and_parts _ _ f in
      and_from _ _ (parts_chained ps rs xs (omega arith) (omega arith) (omega arith) p.0 r.0) (parts_chained qs ss ys (omega arith) (omega arith) (omega arith) p.1 r.1)
  next_chained (fields ps qs) (fields rs ss) w h i j e f = cc
  next_chained (chosen a k u) (chosen b l v) (chosen c m w) h i j e f =
      let p = and_parts _ _ e in
      let r = and_parts _ _ p.0 in
      let p' = and_parts _ _ f in
      let r' = and_parts _ _ p'.0 in
      and_from _ _ (and_from _ _ (subst (λ x. same_truth a x ≡ true) (truths_equal b c r'.0) r.0)
      (eq-eqb k m (eqb-true k l r.1 ∙ eqb-true l m r'.1))) (q.chained u v w (omega arith) (omega arith) (omega arith) p.1 p'.1)
  next_chained (chosen a k u) (chosen b l v) w h i j e f = cc
  next_chained u v w h i j e f = cc

pub below : (n : ℕ) → EquivalentBelow n
below zero = record { turned = λ v w h i e. absurd (omega arith); chained = λ u v w h i j e f. absurd (omega arith) }
below (suc n) = record { turned = next_turned n (below n); chained = next_chained n (below n) }

pub same_turned : (v w : Value) → same v w ≡ true → same w v ≡ true
same_turned v w e = (below (max (depth v) (depth w) + 1)).turned v w (omega arith) (omega arith) e

pub same_chained : (u v w : Value) → same u v ≡ true → same v w ≡ true → same u w ≡ true
same_chained u v w e f = (below (max (depth u) (max (depth v) (depth w)) + 1)).chained u v w (omega arith) (omega arith) (omega arith) e f

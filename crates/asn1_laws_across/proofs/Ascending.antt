-- SET OF values whose elements ascend.
use Rattle.std.proofs.Common.{◌≡◌, ℕ, ltb, Bool, true, IsTrue, List, [], ◌∷◌, map, Option, Some, None, refl, ap, sym, ◌∙◌, subst, inr}
use Rattle.asn1_model.specs.Value.{Value, bag, Values, values_of, each, same}
use Rattle.asn1_model.specs.Schema.{Counts, Size, Schema, set_of}
use Rattle.asn1_model.specs.Lawful.{is_lawful}
use Rattle.asn1_model.specs.Form.{written, given, arranged, ascending, stands_before}
use Rattle.asn1_model.specs.Per
use Rattle.asn1_model.specs.Oer
use Rattle.asn1_laws_values.proofs.Listed.{listed, listed_again, each_is_map, order_map}
use Rattle.asn1_laws_values.proofs.Bags.{arranged_same}
use Rattle.asn1_laws_values.proofs.Same.{same_turned}
use Rattle.asn1_laws_across.proofs.OerGives as octets
use Rattle.asn1_laws_across.proofs.PerGives as packed
use Rattle.asn1_laws_across.proofs.AsWritten.{ReadsAsWritten}
use Rattle.asn1_laws_across.proofs.Strictly.{as_written}
use Rattle.std.specs.Prelude.{false}

-- ---- SET OF
each_value : {X : Type 0} (f : Value → X) (us : List Value) → each f (values_of us) ≡ map f us
each_value f [] = refl
each_value f (u ∷ us) = ap (λ l. f u ∷ l) (each_value f us)

no_key : {X : Type 0} → X → Option ℕ
no_key x = None

-- the SET OF in the order in which its elements are read
in_that_order : {X : Type 0} (f : Value → X) (is : List ℕ) (vs : Values) (ys : List X) → arranged is (each f vs) ≡ Some ys →
    (us : List Value) × (each f (values_of us) ≡ ys) × (same (bag (values_of us)) (bag vs) ≡ true)
in_that_order {X} f is vs ys e =
    let q = order_map f no_key ltb (Some is) (listed vs) ys (subst (λ l. arranged is l ≡ Some ys) (each_is_map f vs) e) in
    let s = arranged_same q.0 (listed vs) q.1 q.2 in
    (q.1, each_value f q.1 ∙ q.3, same_turned (bag vs) (bag (values_of q.1)) (subst (λ l. same (bag l) (bag (values_of q.1)) ≡ true) (listed_again vs) s))

own_order : (al : Bool) (xs ys : List Per.BitForm) (f : List Per.BitForm → Per.BitForm) (p : ℕ) (w : List Bool) → xs ≡ ys →
    ascending (λ x. written (Per.complete x) 0) (stands_before Per.bit_less) ys ≡ Some ys → written (f ys) p ≡ Some w → written (Per.in_any_order xs f) p ≡ Some w
unfolding written Per.in_any_order
own_order al xs ys f p w e a t = rw (e, a) t

own_order_of_octets : (xs ys : List Oer.OctetForm) (f : List Oer.OctetForm → Oer.OctetForm) (p : ℕ) (w : List ℕ) → xs ≡ ys →
    ascending (λ x. written x 0) (stands_before ltb) ys ≡ Some ys → written (f ys) p ≡ Some w → written (Oer.in_any_order xs f) p ≡ Some w
unfolding written Oer.in_any_order
own_order_of_octets xs ys f p w e a t = rw (e, a) t

-- a SET OF read in some order, where its canonical encoding is the same
read_in : (free : Per.Freedom → Bool) (xs ys : List Per.BitForm) (f : List Per.BitForm → Per.BitForm) (is : List ℕ) (p : ℕ)
    (w : List Bool) → IsTrue (free Per.other_order) → arranged is xs ≡ Some ys → written (Per.in_any_order xs f) p ≡ Some w →
    ReadsAsWritten free (f ys) p w → ReadsAsWritten free (Per.in_any_order xs f) p w
unfolding written Per.in_any_order ReadsAsWritten
read_in free xs ys f is p w h e t r = (Some is, inr (h, ap (λ o. written (given o f) p) e ∙ as_written free (f ys) p w r ∙ sym t), subst (λ o. ReadsAsWritten free (given o f) p w) (sym e) r)

read_octets_in : (free : Oer.Freedom → Bool) (xs ys : List Oer.OctetForm) (f : List Oer.OctetForm → Oer.OctetForm) (is : List ℕ)
    (p : ℕ) (w : List ℕ) → IsTrue (free Oer.other_order) → arranged is xs ≡ Some ys → written (Oer.in_any_order xs f) p ≡ Some w →
    ReadsAsWritten free (f ys) p w → ReadsAsWritten free (Oer.in_any_order xs f) p w
unfolding written Oer.in_any_order ReadsAsWritten
read_octets_in free xs ys f is p w h e t r = (Some is, inr (h, ap (λ o. written (given o f) p) e ∙ as_written free (f ys) p w r ∙ sym t), subst (λ o. ReadsAsWritten free (given o f) p w) (sym e) r)

pub packed_bags : (free : Per.Freedom → Bool) (al : Bool) (z : Size) (held : Counts) (s : Schema) (vs : Values) (is : List ℕ)
    (ys : List Per.BitForm) (p : ℕ) (w : List Bool) → IsTrue (free Per.other_order) → is_lawful (set_of z held s) ≡ true →
    arranged is (each (λ v. Per.form al s v) vs) ≡ Some ys →
    ascending (λ x. written (Per.complete x) 0) (stands_before Per.bit_less) ys ≡ Some ys →
    ReadsAsWritten free (Per.sized al z held (λ c. false) ys) p w → ReadsAsWritten free (Per.form al (set_of z held s) (bag vs)) p w
unfolding Per.form
packed_bags free al z held s vs is ys p w h l e a r =
    let q = in_that_order (λ v. Per.form al s v) is vs ys e in
    let t = own_order al _ ys (Per.sized al z held (λ c. false)) p w q.1 a (as_written free _ p w r) in
    read_in free (each (λ v. Per.form al s v) vs) ys (Per.sized al z held (λ c. false)) is p w h e ((packed.form_same al (set_of z held s) (bag (values_of q.0)) (bag vs) l q.2).texts p w t) r

pub octets_bags : (free : Oer.Freedom → Bool) (z : Size) (held : Counts) (s : Schema) (vs : Values) (is : List ℕ)
    (ys : List Oer.OctetForm) (p : ℕ) (w : List ℕ) → IsTrue (free Oer.other_order) → is_lawful (set_of z held s) ≡ true →
    arranged is (each (λ v. Oer.form s v) vs) ≡ Some ys → ascending (λ x. written x 0) (stands_before ltb) ys ≡ Some ys →
    ReadsAsWritten free (Oer.members_form held ys) p w → ReadsAsWritten free (Oer.form (set_of z held s) (bag vs)) p w
unfolding Oer.form
octets_bags free z held s vs is ys p w h l e a r =
    let q = in_that_order (λ v. Oer.form s v) is vs ys e in
    let t = own_order_of_octets _ ys (Oer.members_form held) p w q.1 a (as_written free _ p w r) in
    read_octets_in free (each (λ v. Oer.form s v) vs) ys (Oer.members_form held) is p w h e ((octets.form_same (set_of z held s) (bag (values_of q.0)) (bag vs) l q.2).texts p w t) r

-- The order of tags.
use Rattle.std.proofs.Common.{◌≡◌, ◌∙◌, ap, ℕ, true, false, arith}
use Rattle.std.proofs.lemmas.Bool.Decides.{nat_tests}
use Rattle.asn1_model.specs.Schema.{Tag}
use Rattle.asn1_model.specs.Lawful.{tag_less}

pub less_itself : (t : Tag) → tag_less t t ≡ false
less_itself t = grind (arith, nat_tests)

pub less_through : (t u v : Tag) → tag_less t u ≡ true → tag_less u v ≡ true → tag_less t v ≡ true
less_through t u v p q = grind (arith, nat_tests)

-- if u is less than t and not less than v, t is not less than v
pub less_past : (t u v : Tag) → tag_less u t ≡ true → tag_less u v ≡ false → tag_less t v ≡ false
less_past t u v p q = grind (arith, nat_tests)

pub less_back : (t u v : Tag) → tag_less t u ≡ false → tag_less u v ≡ false → tag_less t v ≡ false
less_back t u v p q = grind (arith, nat_tests)

-- of two different tags one is less than the other
pub less_one : (t u : Tag) → tag_less t u ≡ false → tag_less u t ≡ false → t ≡ u
less_one t u p q =
    let classes : t.class ≡ u.class = grind (arith, nat_tests) in
    let numbers : t.number ≡ u.number = grind (arith, nat_tests) in
    ap (λ (k : ℕ). let r : Tag = record { class = k; number = t.number } in r) classes ∙ ap (λ (k : ℕ). let r : Tag = record { class = u.class; number = k } in r) numbers

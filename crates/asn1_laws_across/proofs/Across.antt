-- What is equal in one set of rules is equal in all.
use Rattle.std.proofs.Common.{◌≡◌, ℕ, true, List, [], Some, refl, ap, sym, ◌∙◌, subst}
use Rattle.asn1_model.specs.Value.{Value, same}
use Rattle.asn1_model.specs.Schema.{Schema}
use Rattle.asn1_model.specs.Lawful.{is_lawful}
use Rattle.asn1_model.specs.Normal.{normal}
use Rattle.asn1_model.specs.Rules.{Rules, canonical, IsEncoding}
use Rattle.asn1_laws_values.proofs.Messages.{canonical_is_read}
use Rattle.asn1_laws_values.proofs.Normals.{normal_again}
use Rattle.asn1_laws_values.proofs.Normal.{normal_same}
use Rattle.asn1_laws_fronts.proofs.Every.{one_front}
use Rattle.asn1_laws_across.proofs.Canonical.{canonical_same, same_written}

-- what is read of the same octets is the same
read_same : (r : Rules) (s : Schema) (v u : Value) (w : List ℕ) → is_lawful s ≡ true → IsEncoding r s v w → IsEncoding r s u w → same v u ≡ true
read_same r s v u w l f g = (one_front r s v u w w [] [] l f g refl).1

pub one_meaning : (q r : Rules) (s : Schema) (v u : Value) (w : List ℕ) → is_lawful s ≡ true → IsEncoding q s v w →
    IsEncoding q s u w → (same v u ≡ true) × (same (normal s v) (normal s u) ≡ true) × (canonical r s v ≡ canonical r s u)
one_meaning q r s v u w l f g = let e = read_same q s v u w l f g in (e, normal_same s v u e, same_written r s v u l e)

some_same : {x y : List ℕ} → Some x ≡ Some y → x ≡ y
some_same e = cc

pub tell_normal : (r : Rules) (s : Schema) (v u : Value) (a b : List ℕ) → is_lawful s ≡ true → canonical r s v ≡ Some a →
    canonical r s u ≡ Some b → (a ≡ b → same (normal s v) (normal s u) ≡ true) × (same (normal s v) (normal s u) ≡ true → a ≡ b)
tell_normal r s v u a b l e f = (
  λ g. read_same r s (normal s v) (normal s u) a l (canonical_is_read r s v a e) (canonical_is_read r s u a (f ∙ ap Some (sym g))),
  λ n. some_same (sym e ∙ canonical_same r s v u l n ∙ f),
)

-- what is read of the canonical octets is the normal form
back : (r : Rules) (s : Schema) (v u : Value) (b : List ℕ) → is_lawful s ≡ true → canonical r s v ≡ Some b → IsEncoding r s u b → same (normal s u) (normal s v) ≡ true
back r s v u b l e f =
    let q = read_same r s u (normal s v) b l f (canonical_is_read r s v b e) in
    subst (λ x. same (normal s u) x ≡ true) (normal_again s v) (normal_same s u (normal s v) q)

pub detours : (p r : Rules) (s : Schema) (v u : Value) (b : List ℕ) → is_lawful s ≡ true → canonical r s v ≡ Some b → IsEncoding r s u b → canonical p s u ≡ canonical p s v
detours p r s v u b l e f = canonical_same p s u v l (back r s v u b l e f)

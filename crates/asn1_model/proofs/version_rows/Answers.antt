use Rattle.std.proofs.Common.{◌≡◌, ℕ, true, false, pos, List, [], ◌∷◌, Contains, Some, refl, ap, sym, ◌∙◌, subst, arith}
use Rattle.std.proofs.lemmas.List.Elements.{All-nil, All-cons, All-head, All-contains, All-contains_itself}
use Rattle.asn1_model.specs.Value.{Value, same}
use Rattle.asn1_model.specs.Schema.{Tag, Bounds, Schema}
use Rattle.asn1_model.specs.Normal.{normal}
use Rattle.asn1_model.specs.Types.{context, default_old}
use Rattle.asn1_model.specs.VersionRows.{group_of}
use Rattle.asn1_model.specs.Versions.{carried, carried_parts, carried_alternative, Extends, ExtendsEach}
use Rattle.asn1_model.specs.Versions.{ExtendsAlternatives}
use Rattle.asn1_model.proofs.OnValues.{on_values}
use Rattle.asn1_model.proofs.version_rows.Goals as goal
use Rattle.std.specs.Prelude.{All}

as_carried : (u w v : Value) → Some u ≡ Some w → same w v ≡ true → same u v ≡ true
as_carried u w v e f = let q : u ≡ w = cc in subst (λ w. same w v ≡ true) (sym q) f

gained : All (Contains (context 0 ∷ context 1 ∷ context 9 ∷ [])) (context 0 ∷ context 9 ∷ [])
gained =
    let ts : List Tag = context 0 ∷ context 1 ∷ context 9 ∷ [] in
    All-cons (Contains ts) (context 0) (context 9 ∷ []) (0, omega arith, refl) (All-cons (Contains ts) (context 9) [] (2, omega arith, refl) (All-nil (Contains ts)))

first_gained : All (Contains (context 0 ∷ context 1 ∷ [])) (context 0 ∷ [])
first_gained =
    let ts : List Tag = context 0 ∷ context 1 ∷ [] in
    All-cons (Contains ts) (context 0) [] (0, omega arith, refl) (All-nil (Contains ts))

lone : (t u : Tag) → All (Contains (u ∷ [])) (t ∷ []) → t.number ≡ u.number
lone t u h = ap (λ (t : Tag). t.number) (All-contains (λ t. t ≡ u) (u ∷ []) t (All-cons (λ t. t ≡ u) u [] refl (All-nil (λ t. t ≡ u))) (All-head (Contains (u ∷ [])) t [] h))

own : (n : ℕ) → All (Contains (context n ∷ [])) (context n ∷ [])
own n = All-contains_itself (context n ∷ [])

stays_apart : (s : Schema) (w : Value) → same (normal s w) w ≡ false → same w w ≡ true → normal s w ≡ w → ⊥
stays_apart s w f t e = let q : false ≡ true = sym f ∙ ap (λ v. same v w) e ∙ t in cc

pub returns : goal.returns
unfolding on_values carried carried_parts carried_alternative Extends ExtendsEach ExtendsAlternatives
returns c = (
  ((own 0, tt, tt, tt), refl, tt),
  ((own 0, (_, refl, refl), ((own 0, tt, tt, tt), refl, tt), tt), refl, tt),
  ((own 0, tt, tt, tt), refl, tt),
  (refl, refl, (_, refl)),
  refl,
  refl,
  (_, refl, λ e. stays_apart default_old _ refl refl e),
  refl,
  refl,
  refl,
  refl,
  refl,
  refl,
  refl,
  refl,
  refl,
  refl,
  refl,
  refl,
  (_, refl, λ e. stays_apart (group_of default_old) _ refl refl e),
  refl,
  (λ e. absurd e.0),
  (λ e. absurd e.2),
  (λ e. let q : Some (pos 4) ≡ Some (pos 5) = ap (λ (b : Bounds). b.range.high) e.0 in cc),
  (λ e. let q : true ≡ false = e.1 in cc),
  (λ e. absurd e.0.2.2),
  ((own 0, (_, refl, refl), (refl, refl, (refl, refl)), tt), refl, tt),
  (λ e. let q : false ≡ true = as_carried _ _ _ e.0.1.1 e.0.1.2 in cc),
  ((own 0, (_, refl, refl), ((own 0, tt, tt, tt), refl, tt), tt), refl, tt),
  (λ e. let q : false ≡ true = as_carried _ _ _ e.0.1.1 e.0.1.2 in cc),
  (tt, refl, (gained, tt, (first_gained, tt, ((refl, tt, tt), refl, tt), (own 9, tt, tt, tt)), tt)),
  (λ e. absurd e.2.2.2.2),
  (λ e. let q : 0 ≡ 1 = lone (context 0) (context 1) e.0.0 in omega arith),
)

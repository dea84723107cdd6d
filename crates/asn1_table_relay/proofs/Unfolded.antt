-- Two unfoldings of a type of a table agree as far as both go.
use Rattle.std.proofs.Common.{ℕ, zero, suc, ◌≤◌, inl, inr, List, [], ◌∷◌, Option, Some, None, slice_get, refl, arith}
use Rattle.asn1_model.specs.Schema.{Schema}
use Rattle.asn1_laws_values.specs.Unfolding.{AgreesTo, AgreesEach, AgreesAlternatives}
use Rattle.asn1_schema_types.specs.Versions.{Unfolds}
use Rattle.asn1_table_nodes.specs.Meaning.{components_of, alternatives_of, type_of, type_at}
use Rattle.asn1_table_nodes.specs.declared.nodes.Alternative.{Alternative}
use Rattle.asn1_table_nodes.specs.declared.nodes.Component.{Component}
use Rattle.asn1_table_nodes.specs.declared.nodes.TypeNode.{TypeNode}
use Rattle.asn1_table_nodes.specs.declared.nodes.TypeNode.TheVariants as node

module _ (f g : ℕ → Schema) (k : ℕ) (h : (p : ℕ) → AgreesTo k (f p) (g p)) where
  components_agree : (cs : List Component) → AgreesEach k (components_of f cs) (components_of g cs)
  unfolding AgreesEach
  components_agree [] = tt
  components_agree (c ∷ cs) = (refl, refl, h c.place, components_agree cs)

  alternatives_agree : (others : List Alternative) → AgreesAlternatives k (alternatives_of f others) (alternatives_of g others)
  unfolding AgreesAlternatives
  alternatives_agree [] = tt
  alternatives_agree (a ∷ others) = (refl, h a.place, alternatives_agree others)

module _ (ns : List TypeNode) where
  -- no level
  cut_agrees : (i j : ℕ) (o : Option TypeNode) → AgreesTo zero (type_of ns i o) (type_of ns j o)
  unfolding AgreesTo
  cut_agrees i j None = inr refl
  cut_agrees zero zero (Some (node.SequenceOf z p)) = inl refl
  cut_agrees zero (suc j) (Some (node.SequenceOf z p)) = inl refl
  cut_agrees (suc i) zero (Some (node.SequenceOf z p)) = inl refl
  cut_agrees (suc i) (suc j) (Some (node.SequenceOf z p)) = inl refl
  cut_agrees zero zero (Some (node.SetOf z p)) = inl refl
  cut_agrees zero (suc j) (Some (node.SetOf z p)) = inl refl
  cut_agrees (suc i) zero (Some (node.SetOf z p)) = inl refl
  cut_agrees (suc i) (suc j) (Some (node.SetOf z p)) = inl refl
  cut_agrees zero zero (Some (node.Sequence t)) = inl refl
  cut_agrees zero (suc j) (Some (node.Sequence t)) = inl refl
  cut_agrees (suc i) zero (Some (node.Sequence t)) = inl refl
  cut_agrees (suc i) (suc j) (Some (node.Sequence t)) = inl refl
  cut_agrees zero zero (Some (node.Set t)) = inl refl
  cut_agrees zero (suc j) (Some (node.Set t)) = inl refl
  cut_agrees (suc i) zero (Some (node.Set t)) = inl refl
  cut_agrees (suc i) (suc j) (Some (node.Set t)) = inl refl
  cut_agrees zero zero (Some (node.Group cs)) = inl refl
  cut_agrees zero (suc j) (Some (node.Group cs)) = inl refl
  cut_agrees (suc i) zero (Some (node.Group cs)) = inl refl
  cut_agrees (suc i) (suc j) (Some (node.Group cs)) = inl refl
  cut_agrees zero zero (Some (node.Choice t)) = inl refl
  cut_agrees zero (suc j) (Some (node.Choice t)) = inl refl
  cut_agrees (suc i) zero (Some (node.Choice t)) = inl refl
  cut_agrees (suc i) (suc j) (Some (node.Choice t)) = inl refl
  cut_agrees i j (Some x) = inr refl

  -- one more level
  level_agrees : (k i j : ℕ) → ((p : ℕ) → AgreesTo k (type_at ns i p) (type_at ns j p)) → (o : Option TypeNode) → AgreesTo (suc k) (type_of ns (suc i) o) (type_of ns (suc j) o)
  unfolding AgreesTo
  level_agrees k i j h None = refl
  level_agrees k i j h (Some (node.SequenceOf z p)) = (refl, refl, h p)
  level_agrees k i j h (Some (node.SetOf z p)) = (refl, refl, h p)
  level_agrees k i j h (Some (node.Sequence t)) = (components_agree (type_at ns i) (type_at ns j) k h t.root.items, refl, components_agree (type_at ns i) (type_at ns j) k h t.additions.items)
  level_agrees k i j h (Some (node.Set t)) = (components_agree (type_at ns i) (type_at ns j) k h t.root.items, refl, components_agree (type_at ns i) (type_at ns j) k h t.additions.items)
  level_agrees k i j h (Some (node.Group cs)) = components_agree (type_at ns i) (type_at ns j) k h cs.items
  level_agrees k i j h (Some (node.Choice t)) =
      (alternatives_agree (type_at ns i) (type_at ns j) k h t.root.items, refl, alternatives_agree (type_at ns i) (type_at ns j) k h t.additions.items)
  level_agrees k i j h (Some x) = refl

  agree : (k i j : ℕ) → k ≤ i → k ≤ j → (p : ℕ) → AgreesTo k (type_at ns i p) (type_at ns j p)
  agree zero i j a b p = cut_agrees i j (slice_get ns p)
  agree (suc k) zero j a b p = absurd (let h : ⊥ = omega (arith, a) in h)
  agree (suc k) (suc i) zero a b p = absurd (let h : ⊥ = omega (arith, b) in h)
  agree (suc k) (suc i) (suc j) a b p = level_agrees k i j (λ q. agree k i j (omega (arith, a)) (omega (arith, b)) q) (slice_get ns p)

  pub unfolds : (p : ℕ) → Unfolds (λ n. type_at ns n p)
  unfolds p = record { alike = λ k i j a b. agree k i j a b p }

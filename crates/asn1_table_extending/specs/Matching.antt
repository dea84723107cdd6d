-- Which types of two tables match, apart from the types of their parts. Where these match, and all types to which they
-- lead, the newer one is a newer version of the older (X.680 52).
use Rattle.std.specs.Prelude.{◌≡◌, ℕ, Bool, true, false, List, [], ◌∷◌, Option, Some, None, All, Contains, slice_get}
use Rattle.asn1_model.specs.Value.{same}
use Rattle.asn1_model.specs.Versions.{Begins}
use Rattle.asn1_schema_constraints.specs.Terms.{size_of}
use Rattle.asn1_table_nodes.specs.Meaning.{alphabet_in, bounds_in, held_in}
use Rattle.asn1_table_nodes.specs.Values.{value_of}
use Rattle.asn1_table_nodes.specs.declared.nodes.Alternative.{Alternative}
use Rattle.asn1_table_nodes.specs.declared.nodes.AlternativeTable.{AlternativeTable}
use Rattle.asn1_table_nodes.specs.declared.nodes.Component.{Component}
use Rattle.asn1_table_nodes.specs.declared.nodes.ComponentTable.{ComponentTable}
use Rattle.asn1_table_nodes.specs.declared.nodes.ItemTable.{ItemTable}
use Rattle.asn1_table_nodes.specs.declared.nodes.NumberLimits.{NumberLimits}
use Rattle.asn1_table_nodes.specs.declared.nodes.Presence.{Presence}
use Rattle.asn1_table_nodes.specs.declared.nodes.Presence.TheVariants.{Required, Optional, Default}
use Rattle.asn1_table_nodes.specs.declared.nodes.StringTable.{StringTable}
use Rattle.asn1_table_nodes.specs.declared.nodes.TypeNode.{TypeNode}
use Rattle.asn1_table_nodes.specs.declared.nodes.TypeNode.TheVariants as node
use Rattle.asn1_table_extending.specs.declared.pairs.Pair.{Pair}

-- The pair of these places is listed.
abbrev pub IsListed : List Pair → ℕ → ℕ → Type 0
IsListed ps i j = Contains ps (record { older = i; newer = j })

-- Value constraints mean the same (X.680 51.4).
abbrev pub LimitsMatch : Option NumberLimits → Option NumberLimits → Type 0
LimitsMatch l m = (bounds_in l ≡ bounds_in m) × (held_in l ≡ held_in m)

-- Root items are equal, and the added items of one are the first of the other (X.680 20).
abbrev pub ItemsMatch : ItemTable → ItemTable → Type 0
ItemsMatch t u =
    (t.root.items ≡ u.root.items) × (t.is_extensible ≡ u.is_extensible) × Begins t.additions.items u.additions.items

-- Strings are of one kind, and their constraints mean the same (X.680 41).
abbrev pub StringsMatch : StringTable → StringTable → Type 0
StringsMatch t u =
    (t.kind ≡ u.kind) × (size_of t.sizes ≡ size_of u.sizes) × (alphabet_in t.alphabet ≡ alphabet_in u.alphabet)

-- Both are required, both are OPTIONAL, or both have the same default.
abbrev pub PresencesMatch : Presence → Presence → Type 0
PresencesMatch Required Required = Unit {0}
PresencesMatch Optional Optional = Unit {0}
PresencesMatch (Default d) (Default e) = same (value_of d) (value_of e) ≡ true
PresencesMatch o p = ⊥

-- Each tag of one component is one of the other, and they may be absent alike.
abbrev pub ComponentMatches : Component → Component → Type 0
ComponentMatches c d = All (Contains d.tags.items) c.tags.items × PresencesMatch c.presence d.presence

-- Further ones may follow (true), or there are none.
abbrev pub MayFollow : {X : Type 0} → Bool → List X → Type 0
MayFollow true xs = Unit {0}
MayFollow false [] = Unit {0}
MayFollow false (x ∷ xs) = ⊥

module _ (Match : ℕ → ℕ → Type 0) where
  -- One by one, with types that match.
  abbrev pub ComponentsMatch : Bool → List Component → List Component → Type 0
  ComponentsMatch more [] ds = MayFollow more ds
  ComponentsMatch more (c ∷ cs) [] = ⊥
  ComponentsMatch more (c ∷ cs) (d ∷ ds) =
      ComponentMatches c d × Match c.place d.place × ComponentsMatch more cs ds

  -- The same for alternatives, whose tags are equal.
  abbrev pub AlternativesMatch : Bool → List Alternative → List Alternative → Type 0
  AlternativesMatch more [] ds = MayFollow more ds
  AlternativesMatch more (c ∷ cs) [] = ⊥
  AlternativesMatch more (c ∷ cs) (d ∷ ds) =
      (c.tag ≡ d.tag) × Match c.place d.place × AlternativesMatch more cs ds

  -- The components of a SEQUENCE or SET, with further additions after an extension marker (X.680 25 and 27).
  abbrev pub TablesMatch : ComponentTable → ComponentTable → Type 0
  TablesMatch t u =
      ComponentsMatch false t.root.items u.root.items × (t.is_extensible ≡ u.is_extensible)
      × ComponentsMatch t.is_extensible t.additions.items u.additions.items

  -- The same of a CHOICE (X.680 29).
  abbrev pub ChoicesMatch : AlternativeTable → AlternativeTable → Type 0
  ChoicesMatch t u =
      AlternativesMatch false t.root.items u.root.items × (t.is_extensible ≡ u.is_extensible)
      × AlternativesMatch t.is_extensible t.additions.items u.additions.items

  -- Two types, where those of their parts match.
  abbrev pub NodesMatch : TypeNode → TypeNode → Type 0
  NodesMatch node.Boolean node.Boolean = Unit {0}
  NodesMatch node.Null node.Null = Unit {0}
  NodesMatch (node.Integer l) (node.Integer m) = LimitsMatch l m
  NodesMatch (node.Enumerated t) (node.Enumerated u) = ItemsMatch t u
  NodesMatch (node.BitString z) (node.BitString y) = size_of z ≡ size_of y
  NodesMatch (node.OctetString z) (node.OctetString y) = size_of z ≡ size_of y
  NodesMatch (node.CharacterString t) (node.CharacterString u) = StringsMatch t u
  NodesMatch node.ObjectIdentifier node.ObjectIdentifier = Unit {0}
  NodesMatch (node.SequenceOf z i) (node.SequenceOf y j) = (size_of z ≡ size_of y) × Match i j
  NodesMatch (node.SetOf z i) (node.SetOf y j) = (size_of z ≡ size_of y) × Match i j
  NodesMatch (node.Sequence t) (node.Sequence u) = TablesMatch t u
  NodesMatch (node.Set t) (node.Set u) = TablesMatch t u
  NodesMatch (node.Group cs) (node.Group ds) = ComponentsMatch false cs.items ds.items
  NodesMatch (node.Choice t) (node.Choice u) = ChoicesMatch t u
  NodesMatch x y = ⊥

  -- The same of what is at two places of tables; both may be outside.
  abbrev pub BothMatch : Option TypeNode → Option TypeNode → Type 0
  BothMatch None None = Unit {0}
  BothMatch (Some x) (Some y) = NodesMatch x y
  BothMatch o p = ⊥

-- The types at a pair of places of two tables match, with all pairs of parts listed.
abbrev pub PairMatches : List TypeNode → List TypeNode → List Pair → Pair → Type 0
PairMatches ns ms ps p = BothMatch (IsListed ps) (slice_get ns p.older) (slice_get ms p.newer)

-- Two types without parts.
abbrev pub ScalarsMatch : TypeNode → TypeNode → Type 0
ScalarsMatch x y = NodesMatch (λ i j. ⊥) x y

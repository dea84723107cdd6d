-- To which types two types of two tables lead: to those of the components, alternatives and elements at one index.
use Rattle.std.specs.Prelude.{◌≡◌, ℕ, zero, suc, ◌⊎◌, List, Option, Some, None, slice_get}
use Rattle.asn1_table_nodes.specs.declared.nodes.Alternative.{Alternative}
use Rattle.asn1_table_nodes.specs.declared.nodes.AlternativeTable.{AlternativeTable}
use Rattle.asn1_table_nodes.specs.declared.nodes.Component.{Component}
use Rattle.asn1_table_nodes.specs.declared.nodes.ComponentTable.{ComponentTable}
use Rattle.asn1_table_nodes.specs.declared.nodes.TypeNode.{TypeNode}
use Rattle.asn1_table_nodes.specs.declared.nodes.TypeNode.TheVariants as node
use Rattle.asn1_table_extending.specs.Differing.{AtSame, DoNotMatch}
use Rattle.asn1_table_extending.specs.Matching.{IsListed}
use Rattle.asn1_table_extending.specs.declared.differences.ExtendingError.{ExtendingError}
use Rattle.asn1_table_extending.specs.declared.differences.ExtendingError.TheVariants.{NotExtended, OutOfMemory}
use Rattle.asn1_table_extending.specs.declared.pairs.Pair.{Pair}

-- Two components at one index have their types at these places.
abbrev pub ComponentParts : List Component → List Component → ℕ → ℕ → Type 0
ComponentParts cs es i j = AtSame (λ c e. (c.place ≡ i) × (e.place ≡ j)) cs es

-- The same of alternatives.
abbrev pub AlternativeParts : List Alternative → List Alternative → ℕ → ℕ → Type 0
AlternativeParts cs es i j = AtSame (λ c e. (c.place ≡ i) × (e.place ≡ j)) cs es

-- The same of components in the root, or of additions.
abbrev pub TableParts : ComponentTable → ComponentTable → ℕ → ℕ → Type 0
TableParts t u i j =
    ComponentParts t.root.items u.root.items i j ⊎ ComponentParts t.additions.items u.additions.items i j

-- The same of alternatives in the root, or of additions.
abbrev pub ChoiceParts : AlternativeTable → AlternativeTable → ℕ → ℕ → Type 0
ChoiceParts t u i j =
    AlternativeParts t.root.items u.root.items i j ⊎ AlternativeParts t.additions.items u.additions.items i j

-- Two types of one kind have parts of which the types are at these places.
abbrev pub NodeParts : TypeNode → TypeNode → ℕ → ℕ → Type 0
NodeParts (node.SequenceOf z i) (node.SequenceOf y j) k l = (i ≡ k) × (j ≡ l)
NodeParts (node.SetOf z i) (node.SetOf y j) k l = (i ≡ k) × (j ≡ l)
NodeParts (node.Sequence t) (node.Sequence u) k l = TableParts t u k l
NodeParts (node.Set t) (node.Set u) k l = TableParts t u k l
NodeParts (node.Group cs) (node.Group es) k l = ComponentParts cs.items es.items k l
NodeParts (node.Choice t) (node.Choice u) k l = ChoiceParts t u k l
NodeParts x y k l = ⊥

-- The same of what is at two places of tables.
abbrev pub BothParts : Option TypeNode → Option TypeNode → ℕ → ℕ → Type 0
BothParts (Some x) (Some y) k l = NodeParts x y k l
BothParts o p k l = ⊥

-- The types at two places lead to those at two others in this many steps, each from two types to parts of both.
abbrev pub LeadIn : List TypeNode → List TypeNode → ℕ → ℕ → ℕ → ℕ → ℕ → Type 0
LeadIn ns ms i j zero k l = (i ≡ k) × (j ≡ l)
LeadIn ns ms i j (suc n) k l =
    (a : ℕ) × (b : ℕ) × LeadIn ns ms i j n a b × BothParts (slice_get ns a) (slice_get ms b) k l

-- The same in some number of steps.
pub record Lead (ns ms : List TypeNode) (i j k l : ℕ) : Type 0 where
  pub steps : ℕ
  pub path : LeadIn ns ms i j steps k l

-- The second list has no other pairs than the first and such ones.
abbrev pub AddsOnly : (ℕ → ℕ → Type 0) → List Pair → List Pair → Type 0
AddsOnly Part ps qs = (i j : ℕ) → IsListed qs i j → IsListed ps i j ⊎ Part i j

-- A refusal is right: the two types lead to those that it names, and these do not match.
abbrev pub IsRefused : List TypeNode → List TypeNode → ℕ → ℕ → ExtendingError → Type 0
IsRefused ns ms i j (NotExtended newer older d) =
    Lead ns ms i j older newer × DoNotMatch d (slice_get ns older) (slice_get ms newer)
IsRefused ns ms i j OutOfMemory = Unit {0}

-- What each difference between two types of two tables means, apart from the types of their parts (X.680 52).
use Rattle.std.specs.Prelude.{◌≡◌, ℕ, ◌<◌, ◌⊎◌, Bool, true, false, List, Option, Some, None, All, Contains, length}
use Rattle.std.specs.Prelude.{slice_get}
use Rattle.asn1_model.specs.Value.{same}
use Rattle.asn1_model.specs.Versions.{Begins}
use Rattle.asn1_schema_constraints.specs.Terms.{size_of}
use Rattle.asn1_schema_constraints.specs.declared.sizes.Sizes.{Sizes}
use Rattle.asn1_table_nodes.specs.Meaning.{alphabet_in}
use Rattle.asn1_table_nodes.specs.Values.{value_of}
use Rattle.asn1_table_nodes.specs.declared.nodes.Alternative.{Alternative}
use Rattle.asn1_table_nodes.specs.declared.nodes.AlternativeTable.{AlternativeTable}
use Rattle.asn1_table_nodes.specs.declared.nodes.Component.{Component}
use Rattle.asn1_table_nodes.specs.declared.nodes.ComponentTable.{ComponentTable}
use Rattle.asn1_table_nodes.specs.declared.nodes.ItemTable.{ItemTable}
use Rattle.asn1_table_nodes.specs.declared.nodes.NumberLimits.{NumberLimits}
use Rattle.asn1_table_nodes.specs.declared.nodes.Presence.{Presence}
use Rattle.asn1_table_nodes.specs.declared.nodes.Presence.TheVariants.{Default}
use Rattle.asn1_table_nodes.specs.declared.nodes.StringTable.{StringTable}
use Rattle.asn1_table_nodes.specs.declared.nodes.TypeNode.{TypeNode}
use Rattle.asn1_table_nodes.specs.declared.nodes.TypeNode.TheVariants as node
use Rattle.asn1_table_extending.specs.Matching.{BothMatch, LimitsMatch, PresencesMatch}
use Rattle.asn1_table_extending.specs.declared.differences.Difference.{Difference}
use Rattle.asn1_table_extending.specs.declared.differences.Difference.TheVariants as difference
use Rattle.asn1_table_extending.specs.declared.differences.ExtendingError.{ExtendingError}
use Rattle.asn1_table_extending.specs.declared.differences.ExtendingError.TheVariants.{NotExtended, OutOfMemory}
use Rattle.asn1_table_extending.specs.declared.differences.Fault.{Fault}
use Rattle.asn1_table_extending.specs.declared.differences.Fault.TheVariants.{Differs, NoMemory}
use Rattle.asn1_table_extending.specs.declared.pairs.Pair.{Pair}

-- Value constraints do not mean the same (X.680 51.4).
abbrev pub LimitsDiffer : Difference → Option NumberLimits → Option NumberLimits → Type 0
LimitsDiffer d l m = (d ≡ difference.Bounds) × ¬ LimitsMatch l m

-- Size constraints do not mean the same (X.680 51.5).
abbrev pub SizesDiffer : Difference → Sizes → Sizes → Type 0
SizesDiffer d z y = (d ≡ difference.Sizes) × ¬ (size_of z ≡ size_of y)

-- Only one has an extension marker (X.680 52).
abbrev pub MarkersDiffer : Difference → Bool → Bool → Type 0
MarkersDiffer d e f = (d ≡ difference.Marker) × ¬ (e ≡ f)

-- Strings are of two kinds, or their constraints do not mean the same (X.680 41).
abbrev pub StringsDiffer : Difference → StringTable → StringTable → Type 0
StringsDiffer d t u =
    ((d ≡ difference.Kind) × ¬ (t.kind ≡ u.kind)) ⊎ SizesDiffer d t.sizes u.sizes
    ⊎ ((d ≡ difference.Alphabet) × ¬ (alphabet_in t.alphabet ≡ alphabet_in u.alphabet))

-- Root items differ, or the added items of one are not the first of the other (X.680 20).
abbrev pub ItemsDiffer : Difference → ItemTable → ItemTable → Type 0
ItemsDiffer d t u =
    ((d ≡ difference.RootItems) × ¬ (t.root.items ≡ u.root.items)) ⊎ MarkersDiffer d t.is_extensible u.is_extensible
    ⊎ ((d ≡ difference.AddedItems) × ¬ Begins t.additions.items u.additions.items)

-- Of two numbers of parts the second is less, or it is more and there may not be more.
abbrev pub CountsDiffer : Difference → Difference → Difference → Bool → ℕ → ℕ → Type 0
CountsDiffer missing added d more m n =
    ((d ≡ missing) × (n < m)) ⊎ ((d ≡ added) × (more ≡ false) × (m < n))

-- Both have defaults, and not the same ones; or one may be absent, or has a default, and the other not.
abbrev pub PresencesDiffer : Difference → Presence → Presence → Type 0
PresencesDiffer d (Default v) (Default w) = (d ≡ difference.Default) × ¬ (same (value_of v) (value_of w) ≡ true)
PresencesDiffer d o p = (d ≡ difference.Presence) × ¬ PresencesMatch o p

-- A tag of one component is none of the other, or they may not be absent alike.
abbrev pub ComponentDiffers : Difference → Component → Component → Type 0
ComponentDiffers d c e =
    ((d ≡ difference.ComponentTags) × ¬ All (Contains e.tags.items) c.tags.items)
    ⊎ PresencesDiffer d c.presence e.presence

-- The tags of two alternatives differ.
abbrev pub AlternativeDiffers : Difference → Alternative → Alternative → Type 0
AlternativeDiffers d c e = (d ≡ difference.AlternativeTag) × ¬ (c.tag ≡ e.tag)

-- This holds of the elements at some index of two lists.
abbrev pub AtSame : {X : Type 0} → (X → X → Type 0) → List X → List X → Type 0
AtSame {X} P xs ys = (k : ℕ) × (x : X) × (y : X) × (slice_get xs k ≡ Some x) × (slice_get ys k ≡ Some y) × P x y

-- A component is missing or added, or two at one index differ.
abbrev pub ComponentsDiffer : Difference → Bool → List Component → List Component → Type 0
ComponentsDiffer d more cs es =
    CountsDiffer difference.ComponentMissing difference.ComponentAdded d more (length cs) (length es)
    ⊎ AtSame (ComponentDiffers d) cs es

-- The same of alternatives.
abbrev pub AlternativesDiffer : Difference → Bool → List Alternative → List Alternative → Type 0
AlternativesDiffer d more cs es =
    CountsDiffer difference.AlternativeMissing difference.AlternativeAdded d more (length cs) (length es)
    ⊎ AtSame (AlternativeDiffers d) cs es

-- The components of two SEQUENCEs or SETs differ (X.680 25 and 27).
abbrev pub TablesDiffer : Difference → ComponentTable → ComponentTable → Type 0
TablesDiffer d t u =
    ComponentsDiffer d false t.root.items u.root.items ⊎ MarkersDiffer d t.is_extensible u.is_extensible
    ⊎ ComponentsDiffer d t.is_extensible t.additions.items u.additions.items

-- The same of two CHOICEs (X.680 29).
abbrev pub ChoicesDiffer : Difference → AlternativeTable → AlternativeTable → Type 0
ChoicesDiffer d t u =
    AlternativesDiffer d false t.root.items u.root.items ⊎ MarkersDiffer d t.is_extensible u.is_extensible
    ⊎ AlternativesDiffer d t.is_extensible t.additions.items u.additions.items

-- Two types without parts are of two kinds, or their constraints differ.
abbrev pub ScalarsDiffer : Difference → TypeNode → TypeNode → Type 0
ScalarsDiffer d node.Boolean node.Boolean = ⊥
ScalarsDiffer d node.Null node.Null = ⊥
ScalarsDiffer d (node.Integer l) (node.Integer m) = LimitsDiffer d l m
ScalarsDiffer d (node.Enumerated t) (node.Enumerated u) = ItemsDiffer d t u
ScalarsDiffer d (node.BitString z) (node.BitString y) = SizesDiffer d z y
ScalarsDiffer d (node.OctetString z) (node.OctetString y) = SizesDiffer d z y
ScalarsDiffer d (node.CharacterString t) (node.CharacterString u) = StringsDiffer d t u
ScalarsDiffer d node.ObjectIdentifier node.ObjectIdentifier = ⊥
ScalarsDiffer d x y = d ≡ difference.Kind

-- Two types differ.
abbrev pub NodesDiffer : Difference → TypeNode → TypeNode → Type 0
NodesDiffer d (node.SequenceOf z i) (node.SequenceOf y j) = SizesDiffer d z y
NodesDiffer d (node.SetOf z i) (node.SetOf y j) = SizesDiffer d z y
NodesDiffer d (node.Sequence t) (node.Sequence u) = TablesDiffer d t u
NodesDiffer d (node.Set t) (node.Set u) = TablesDiffer d t u
NodesDiffer d (node.Group cs) (node.Group es) = ComponentsDiffer d false cs.items es.items
NodesDiffer d (node.Choice t) (node.Choice u) = ChoicesDiffer d t u
NodesDiffer d x y = ScalarsDiffer d x y

-- The same of what is at two places of tables; both may be outside.
abbrev pub BothDiffer : Difference → Option TypeNode → Option TypeNode → Type 0
BothDiffer d None None = ⊥
BothDiffer d (Some x) (Some y) = NodesDiffer d x y
BothDiffer d o p = d ≡ difference.Place

-- Two types do not match, whatever the types of their parts, and differ so.
pub record DoNotMatch (d : Difference) (o p : Option TypeNode) : Type 0 where
  pub unmatched : ¬ BothMatch (λ i j. Unit {0}) o p
  pub told : BothDiffer d o p

-- Two types differ, if they are what is refused.
abbrev pub IsDue : (Difference → Type 0) → Fault → Type 0
IsDue Differ (Differs d) = Differ d
IsDue Differ NoMemory = Unit {0}

-- The error of a fault of a pair.
abbrev pub error_of : Pair → Fault → ExtendingError
error_of p (Differs d) = NotExtended p.newer p.older d
error_of p NoMemory = OutOfMemory

-- The refusal of the types of a pair is right.
abbrev pub IsRefusedAt : List TypeNode → List TypeNode → Pair → ExtendingError → Type 0
IsRefusedAt ns ms p (NotExtended newer older d) =
    (older ≡ p.older) × (newer ≡ p.newer) × DoNotMatch d (slice_get ns older) (slice_get ms newer)
IsRefusedAt ns ms p OutOfMemory = Unit {0}

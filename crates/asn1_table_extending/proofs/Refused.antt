-- Types that differ do not match, and what a check refuses it refuses for that.
use Rattle.std.proofs.Common.{◌≡◌, ℕ, zero, suc, ◌+◌, ◌<◌, ◌≤◌, ◌⊎◌, inl, inr, Bool, true, false, List, [], ◌∷◌, length, get_or}
use Rattle.std.proofs.Common.{Option, Some, None, slice_get, refl, sym, ◌∙◌, subst, Result, Ok, Err, arith}
use Rattle.std.specs.Result.{IfErr, IsErrAnd}
use Rattle.std.proofs.lemmas.Bool.{false≢true}
use Rattle.std.proofs.lemmas.Option.{slice_get-get_or, slice_get_read}
use Rattle.asn1_table_nodes.specs.declared.nodes.Alternative.{Alternative}
use Rattle.asn1_table_nodes.specs.declared.nodes.AlternativeTable.{AlternativeTable}
use Rattle.asn1_table_nodes.specs.declared.nodes.Component.{Component}
use Rattle.asn1_table_nodes.specs.declared.nodes.ComponentTable.{ComponentTable}
use Rattle.asn1_table_nodes.specs.declared.nodes.ItemTable.{ItemTable}
use Rattle.asn1_table_nodes.specs.declared.nodes.Presence.{Presence}
use Rattle.asn1_table_nodes.specs.declared.nodes.Presence.TheVariants.{Default}
use Rattle.asn1_table_nodes.specs.declared.nodes.StringTable.{StringTable}
use Rattle.asn1_table_nodes.specs.declared.nodes.TypeNode.{TypeNode}
use Rattle.asn1_table_nodes.specs.declared.nodes.TypeNode.TheVariants as node
use Rattle.asn1_table_extending.specs.Matching.{AlternativesMatch, BothMatch, ChoicesMatch, ComponentMatches, ComponentsMatch, ItemsMatch, NodesMatch, PresencesMatch, StringsMatch, TablesMatch}
use Rattle.asn1_table_extending.specs.Differing.{AlternativeDiffers, AlternativesDiffer, AtSame, BothDiffer, ChoicesDiffer, ComponentDiffers, ComponentsDiffer, CountsDiffer, IsDue, IsRefusedAt, ItemsDiffer, PresencesDiffer, StringsDiffer, TablesDiffer, error_of}
use Rattle.asn1_table_extending.specs.declared.differences.Difference.{Difference}
use Rattle.asn1_table_extending.specs.declared.differences.Fault.{Fault}
use Rattle.asn1_table_extending.specs.declared.differences.Fault.TheVariants.{Differs, NoMemory}
use Rattle.asn1_table_extending.specs.declared.pairs.Pair.{Pair}

-- ---- what differs does not match
some_is : {X : Type 0} {x y : X} → Some x ≡ Some y → x ≡ y
some_is e = cc

counts_clash : (missing added d : Difference) (more : Bool) (m n : ℕ) → CountsDiffer missing added d more m n → m ≤ n → (more ≡ false → n ≤ m) → ⊥
counts_clash missing added d more m n (inl h) a b = omega (arith, h.1, a)
counts_clash missing added d more m n (inr h) a b = omega (arith, h.2, b h.1)

strings_clash : (d : Difference) (t u : StringTable) → StringsDiffer d t u → StringsMatch t u → ⊥
strings_clash d t u (inl h) m = h.1 m.0
strings_clash d t u (inr (inl h)) m = h.1 m.1
strings_clash d t u (inr (inr h)) m = h.1 m.2

items_clash : (d : Difference) (t u : ItemTable) → ItemsDiffer d t u → ItemsMatch t u → ⊥
items_clash d t u (inl h) m = h.1 m.0
items_clash d t u (inr (inl h)) m = h.1 m.1
items_clash d t u (inr (inr h)) m = h.1 m.2

presences_clash : (d : Difference) (o p : Presence) → PresencesDiffer d o p → PresencesMatch o p → ⊥
presences_clash d (Default v) (Default w) h m = h.1 m
presences_clash d o p h m = h.1 m

component_clashes : (d : Difference) (c e : Component) → ComponentDiffers d c e → ComponentMatches c e → ⊥
component_clashes d c e (inl h) m = h.1 m.0
component_clashes d c e (inr h) m = presences_clash d c.presence e.presence h m.1

module _ (Match : ℕ → ℕ → Type 0) where
  component_at : (more : Bool) (cs es : List Component) → ComponentsMatch Match more cs es → (k : ℕ) (c e : Component) → slice_get cs k ≡ Some c → slice_get es k ≡ Some e → ComponentMatches c e
  component_at more [] es m k c e g h = cc
  component_at more (x ∷ cs) [] m k c e g h = absurd m
  component_at more (x ∷ cs) (y ∷ es) m zero c e g h =
      let P : Component → Type 0 = λ z. ComponentMatches z e in
      let Q : Component → Type 0 = λ z. ComponentMatches x z in
      subst P (some_is g) (subst Q (some_is h) m.0)
  component_at more (x ∷ cs) (y ∷ es) m (suc k) c e g h = component_at more cs es m.2 k c e g h

  components_enough : (more : Bool) (cs es : List Component) → ComponentsMatch Match more cs es → length cs ≤ length es
  components_enough more [] es m = omega arith
  components_enough more (x ∷ cs) [] m = absurd m
  components_enough more (x ∷ cs) (y ∷ es) m = omega (arith, components_enough more cs es m.2)

  components_no_more : (more : Bool) (cs es : List Component) → ComponentsMatch Match more cs es → more ≡ false → length es ≤ length cs
  components_no_more true cs es m e = cc
  components_no_more false [] [] m e = omega arith
  components_no_more false [] (y ∷ es) m e = absurd m
  components_no_more false (x ∷ cs) [] m e = absurd m
  components_no_more false (x ∷ cs) (y ∷ es) m e = omega (arith, components_no_more false cs es m.2 e)

  components_clash : (d : Difference) (more : Bool) (cs es : List Component) → ComponentsDiffer d more cs es → ComponentsMatch Match more cs es → ⊥
  components_clash d more cs es (inl h) m = counts_clash _ _ d more (length cs) (length es) h (components_enough more cs es m) (λ e. components_no_more more cs es m e)
  components_clash d more cs es (inr h) m = component_clashes d h.1 h.2 h.5 (component_at more cs es m h.0 h.1 h.2 h.3 h.4)

  tag_at : (more : Bool) (cs es : List Alternative) → AlternativesMatch Match more cs es → (k : ℕ) (c e : Alternative) → slice_get cs k ≡ Some c → slice_get es k ≡ Some e → c.tag ≡ e.tag
  tag_at more [] es m k c e g h = cc
  tag_at more (x ∷ cs) [] m k c e g h = absurd m
  tag_at more (x ∷ cs) (y ∷ es) m zero c e g h =
      let P : Alternative → Type 0 = λ z. z.tag ≡ e.tag in
      let Q : Alternative → Type 0 = λ z. x.tag ≡ z.tag in
      subst P (some_is g) (subst Q (some_is h) m.0)
  tag_at more (x ∷ cs) (y ∷ es) m (suc k) c e g h = tag_at more cs es m.2 k c e g h

  alternatives_enough : (more : Bool) (cs es : List Alternative) → AlternativesMatch Match more cs es → length cs ≤ length es
  alternatives_enough more [] es m = omega arith
  alternatives_enough more (x ∷ cs) [] m = absurd m
  alternatives_enough more (x ∷ cs) (y ∷ es) m = omega (arith, alternatives_enough more cs es m.2)

  alternatives_no_more : (more : Bool) (cs es : List Alternative) → AlternativesMatch Match more cs es → more ≡ false → length es ≤ length cs
  alternatives_no_more true cs es m e = cc
  alternatives_no_more false [] [] m e = omega arith
  alternatives_no_more false [] (y ∷ es) m e = absurd m
  alternatives_no_more false (x ∷ cs) [] m e = absurd m
  alternatives_no_more false (x ∷ cs) (y ∷ es) m e = omega (arith, alternatives_no_more false cs es m.2 e)

  alternatives_clash : (d : Difference) (more : Bool) (cs es : List Alternative) → AlternativesDiffer d more cs es → AlternativesMatch Match more cs es → ⊥
  alternatives_clash d more cs es (inl h) m = counts_clash _ _ d more (length cs) (length es) h (alternatives_enough more cs es m) (λ e. alternatives_no_more more cs es m e)
  alternatives_clash d more cs es (inr h) m = h.5.1 (tag_at more cs es m h.0 h.1 h.2 h.3 h.4)

  tables_clash : (d : Difference) (t u : ComponentTable) → TablesDiffer d t u → TablesMatch Match t u → ⊥
  tables_clash d t u (inl h) m = components_clash d false t.root.items u.root.items h m.0
  tables_clash d t u (inr (inl h)) m = h.1 m.1
  tables_clash d t u (inr (inr h)) m = components_clash d t.is_extensible t.additions.items u.additions.items h m.2

  choices_clash : (d : Difference) (t u : AlternativeTable) → ChoicesDiffer d t u → ChoicesMatch Match t u → ⊥
  choices_clash d t u (inl h) m = alternatives_clash d false t.root.items u.root.items h m.0
  choices_clash d t u (inr (inl h)) m = h.1 m.1
  choices_clash d t u (inr (inr h)) m = alternatives_clash d t.is_extensible t.additions.items u.additions.items h m.2

  pub both_clash : (d : Difference) (o p : Option TypeNode) → BothDiffer d o p → BothMatch Match o p → ⊥
  both_clash d None None h m = h
  both_clash d (Some node.Boolean) (Some node.Boolean) h m = h
  both_clash d (Some node.Null) (Some node.Null) h m = h
  both_clash d (Some (node.Integer l)) (Some (node.Integer k)) h m = h.1 m
  both_clash d (Some (node.Enumerated t)) (Some (node.Enumerated u)) h m = items_clash d t u h m
  both_clash d (Some (node.BitString z)) (Some (node.BitString y)) h m = h.1 m
  both_clash d (Some (node.OctetString z)) (Some (node.OctetString y)) h m = h.1 m
  both_clash d (Some (node.CharacterString t)) (Some (node.CharacterString u)) h m = strings_clash d t u h m
  both_clash d (Some node.ObjectIdentifier) (Some node.ObjectIdentifier) h m = h
  both_clash d (Some (node.SequenceOf z i)) (Some (node.SequenceOf y j)) h m = h.1 m.0
  both_clash d (Some (node.SetOf z i)) (Some (node.SetOf y j)) h m = h.1 m.0
  both_clash d (Some (node.Sequence t)) (Some (node.Sequence u)) h m = tables_clash d t u h m
  both_clash d (Some (node.Set t)) (Some (node.Set u)) h m = tables_clash d t u h m
  both_clash d (Some (node.Group cs)) (Some (node.Group es)) h m = components_clash d false cs.items es.items h m
  both_clash d (Some (node.Choice t)) (Some (node.Choice u)) h m = choices_clash d t u h m
  both_clash d o p h m = m

-- ---- elements at one index
pub same_index : {X : Type 0} (P : X → X → Type 0) (xs ys : List X) (k : ℕ) (x y : X) → k < length xs → x ≡ get_or xs k x → k < length ys → y ≡ get_or ys k y → P x y → AtSame P xs ys
same_index P xs ys k x y l e j f p = (k, x, y, slice_get_read xs (length xs) k x refl l e, slice_get_read ys (length ys) k y refl j f, p)

pub read_index : {X : Type 0} (P : X → X → Type 0) (xs ys : List X) (k : ℕ) (x y : X) → k < length xs → k < length ys → P (get_or xs k x) (get_or ys k y) → AtSame P xs ys
read_index P xs ys k x y l j p = (k, get_or xs k x, get_or ys k y, slice_get-get_or xs k x l, slice_get-get_or ys k y j, p)

-- ---- a test that failed
pub untrue : {P : Type 0} (b : Bool) → (P → b ≡ true) → b ≡ false → P → ⊥
untrue b f e p = false≢true (sym e ∙ f p)

-- ---- at equal lists
pub components_differ_at : (d : Difference) (more : Bool) (xs ys us vs : List Component) → xs ≡ us → ys ≡ vs → ComponentsDiffer d more xs ys → ComponentsDiffer d more us vs
components_differ_at d more xs ys us vs e f m =
    let P : List Component → Type 0 = λ zs. ComponentsDiffer d more zs ys in
    let Q : List Component → Type 0 = λ zs. ComponentsDiffer d more us zs in
    subst Q f (subst P e m)

pub alternatives_differ_at : (d : Difference) (more : Bool) (xs ys us vs : List Alternative) → xs ≡ us → ys ≡ vs → AlternativesDiffer d more xs ys → AlternativesDiffer d more us vs
alternatives_differ_at d more xs ys us vs e f m =
    let P : List Alternative → Type 0 = λ zs. AlternativesDiffer d more zs ys in
    let Q : List Alternative → Type 0 = λ zs. AlternativesDiffer d more us zs in
    subst Q f (subst P e m)

-- ---- refusals that are passed on
pub raised : {T : Type 0} (P : Difference → Type 0) (d : Difference) (r : Result T Fault) → IsErrAnd r (λ f. f ≡ Differs d) → P d → IfErr r (λ f. IsDue P f)
raised P d (Ok v) h p = absurd h
raised P d (Err f) h p = let Q : Fault → Type 0 = λ g. IsDue P g in subst Q (sym h) p

pub raised_none : {T : Type 0} (P : Difference → Type 0) (r : Result T Fault) → IsErrAnd r (λ f. f ≡ NoMemory) → IfErr r (λ f. IsDue P f)
raised_none P (Ok v) h = absurd h
raised_none P (Err f) h = let Q : Fault → Type 0 = λ g. IsDue P g in subst Q (sym h) tt

pub raised_more : {T : Type 0} (P Q : Difference → Type 0) (f : Fault) (r : Result T Fault) → ((d : Difference) → P d → Q d) → IsErrAnd r (λ g. g ≡ f) → IsDue P f → IfErr r (λ g. IsDue Q g)
raised_more P Q f (Ok v) k h p = absurd h
raised_more P Q f (Err g) k h p = go g (let D : Fault → Type 0 = λ z. IsDue P z in subst D (sym h) p) where
  go : (g : Fault) → IsDue P g → IsDue Q g
  go (Differs d) p = k d p
  go NoMemory p = tt

pub due_more : {T : Type 0} (P Q : Difference → Type 0) (r : Result T Fault) → ((d : Difference) → P d → Q d) → IfErr r (λ f. IsDue P f) → IfErr r (λ f. IsDue Q f)
due_more P Q (Ok v) k h = h
due_more P Q (Err (Differs d)) k h = k d h
due_more P Q (Err NoMemory) k h = h

pub raised_as : {T : Type 0} (P Q : Difference → Type 0) (d : Difference) (r : Result T Difference) → ((d : Difference) → P d → Q d) → IsErrAnd r (λ e. e ≡ d) → P d → IfErr r (λ e. Q e)
raised_as P Q d (Ok v) k h p = absurd h
raised_as P Q d (Err e) k h p = subst Q (sym h) (k d p)

-- ---- the error of a pair
pub refused_of : (ns ms : List TypeNode) (p : Pair) (f : Fault) → IsDue (λ d. BothDiffer d (slice_get ns p.older) (slice_get ms p.newer)) f → IsRefusedAt ns ms p (error_of p f)
refused_of ns ms p (Differs d) h =
    (refl, refl, record { unmatched = λ m. both_clash (λ i j. Unit {0}) d (slice_get ns p.older) (slice_get ms p.newer) h m; told = h })
refused_of ns ms p NoMemory h = tt

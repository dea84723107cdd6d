-- The equations of the leaves of a tree, and of functions on them.
use Rattle.std.proofs.Common.{◌≡◌, ◌∙◌, refl, sym, ap, List, [], ◌∷◌, ◌++◌, map, flat_map, Bool, true, false, not, cond}
use Rattle.std.proofs.Common.{◌&&◌, ◌||◌, ℕ, ◌+◌, ◌<◌, length, drop, drop-cons, get_or, add-one, arith, take, ◌-◌}
use Rattle.std.proofs.Common.{length-drop}
use Rattle.std.specs.List.{list_any}
use Rattle.std.proofs.Math.Seq.{drop-length}
use Rattle.std.proofs.lemmas.List.{take_all}
use Rattle.std.proofs.lemmas.List.Folds.{list_any-append}
use Rattle.asn1_model.specs.Schema.{Tag as ModelTag}
use Rattle.asn1_model.specs.Lawful.{tag_less, tag_same, smallest}
use Rattle.std.specs.List.{list_all}
use Rattle.asn1_schema_tags.specs.Tags.{tag_of}
use Rattle.asn1_schema_tags.specs.Trees.{leaves_step, leaves, leaves_of, no_own_tag, own_tag_step, own_tag, are_unique, is_among, share_a_tag}
use Rattle.asn1_schema_tags.specs.declared.tags.Tag.{Tag}
use Rattle.asn1_schema_tags.specs.declared.trees.TagTree.{TagTree}
use Rattle.asn1_schema_tags.specs.declared.trees.TagTree.TheVariants.{Leaf, Choice, rolls-Leaf, rolls-Choice}
use Rattle.asn1_schema_tags.specs.declared.trees.TagTree.TheFolds.{fold-roll-TagTree}

-- joining the leaves of each
flat_map_map : (trees : List TagTree) → flat_map (λ tags. tags) (map leaves trees) ≡ leaves_of trees
flat_map_map [] = refl
flat_map_map (t ∷ ts) = ap (λ rest. leaves t ++ rest) (flat_map_map ts)

-- a leaf has its tag
pub leaves_leaf : (t : Tag) → leaves (Leaf t) ≡ tag_of t ∷ []
leaves_leaf t = ap leaves (sym (rolls-Leaf t)) ∙ fold-roll-TagTree (List ModelTag) leaves_step _

-- a CHOICE has the leaves of all its trees
pub leaves_choice : (nodes : _) → leaves (Choice nodes) ≡ leaves_of nodes.now
leaves_choice nodes = ap leaves (sym (rolls-Choice nodes)) ∙ (fold-roll-TagTree (List ModelTag) leaves_step _ ∙ flat_map_map nodes.now)

-- a leaf's own tag is that tag
pub own_tag_leaf : (t : Tag) → own_tag (Leaf t) ≡ t
own_tag_leaf t = ap own_tag (sym (rolls-Leaf t)) ∙ fold-roll-TagTree Tag own_tag_step _

-- a CHOICE has none
pub own_tag_choice : (nodes : _) → own_tag (Choice nodes) ≡ no_own_tag
own_tag_choice nodes = ap own_tag (sym (rolls-Choice nodes)) ∙ fold-roll-TagTree Tag own_tag_step _

-- these four
pub ruleset leaves_and_tags = (leaves_leaf, leaves_choice, own_tag_leaf, own_tag_choice)

-- the smallest of two lists joined
pub smallest-append : (t : ModelTag) (xs ys : List ModelTag) → smallest t (xs ++ ys) ≡ smallest (smallest t xs) ys
smallest-append t [] ys = refl
smallest-append t (x ∷ xs) ys =
    elim (tag_less x t) as (λ b. cond b (smallest x (xs ++ ys)) (smallest t (xs ++ ys)) ≡ smallest (cond b (smallest x xs) (smallest t xs)) ys)
    [ true ↦ smallest-append x xs ys | false ↦ smallest-append t xs ys ]

-- a test of each element of two lists joined
list_all-append : {X : Type 0} (p : X → Bool) (xs ys : List X) → list_all p (xs ++ ys) ≡ (list_all p xs && list_all p ys)
list_all-append p [] ys = refl
list_all-append p (x ∷ xs) ys = elim (p x) as (λ b. (b && list_all p (xs ++ ys)) ≡ ((b && list_all p xs) && list_all p ys))
    [ true ↦ list_all-append p xs ys | false ↦ refl ]

-- no element passes exactly if none is found
list_all_not : {X : Type 0} (p : X → Bool) (xs : List X) → list_all (λ y. not (p y)) xs ≡ not (list_any p xs)
list_all_not p [] = refl
list_all_not p (x ∷ xs) = elim (p x) as (λ b. (not b && list_all (λ y. not (p y)) xs) ≡ not (b || list_any p xs))
    [ true ↦ refl | false ↦ list_all_not p xs ]

-- the booleans in the step of the next lemma
regroup : (a b c d e : Bool) → ((a && not b) && (c && (not d && e))) ≡ ((a && c) && (not (b || d) && e))
regroup true true true d e = refl
regroup true true false d e = refl
regroup true false c d e = refl
regroup false b c d e = refl

-- the tags of two lists joined are distinct exactly if those of each are and they share none
pub are_unique-append : (xs ys : List ModelTag) → are_unique (xs ++ ys) ≡ (are_unique xs && (not (share_a_tag xs ys) && are_unique ys))
are_unique-append [] ys = refl
are_unique-append (x ∷ xs) ys =
    ap (λ b. b && are_unique (xs ++ ys)) (list_all-append (λ y. not (tag_same x y)) xs ys ∙ ap (λ b. list_all (λ y. not (tag_same x y)) xs && b) (list_all_not (tag_same x) ys))
    ∙ (ap (λ b. (list_all (λ y. not (tag_same x y)) xs && not (is_among ys x)) && b) (are_unique-append xs ys)
    ∙ regroup (list_all (λ y. not (tag_same x y)) xs) (is_among ys x) (are_unique xs) (share_a_tag xs ys) (are_unique ys))

-- what is among two lists joined is among either
pub is_among-append : (xs ys : List ModelTag) (t : ModelTag) → is_among (xs ++ ys) t ≡ (is_among xs t || is_among ys t)
is_among-append xs ys t = list_any-append (tag_same t) xs ys

-- what two lists joined share with a third, either shares
pub share_a_tag-append : (xs ys us : List ModelTag) → share_a_tag (xs ++ ys) us ≡ (share_a_tag xs us || share_a_tag ys us)
share_a_tag-append xs ys us = list_any-append (is_among us) xs ys

-- the leaves of the trees from an index on: those of the tree there, and those of the further ones
pub leaves_of_drop : (nodes : List TagTree) (i : ℕ) (d : TagTree) → i < length nodes → leaves_of (drop i nodes) ≡ leaves (get_or nodes i d) ++ leaves_of (drop (i + 1) nodes)
leaves_of_drop nodes i d h = rw (add-one, drop-cons nodes i d) refl

-- from the last index on there is no leaf
pub leaves_of_end : (nodes : List TagTree) → leaves_of (drop (length nodes) nodes) ≡ []
leaves_of_end nodes = simp drop-length refl

-- the same for a tree that is the one there
pub leaves_at : (nodes : List TagTree) (i : ℕ) (d : TagTree) → i < length nodes → d ≡ get_or nodes i d → leaves_of (drop i nodes) ≡ leaves d ++ leaves_of (drop (i + 1) nodes)
leaves_at nodes i d h is = leaves_of_drop nodes i d h ∙ ap (λ e. leaves e ++ leaves_of (drop (i + 1) nodes)) (sym is)

-- one step of the search for the smallest tag
pub smallest_step : (t : ModelTag) (nodes : List TagTree) (i : ℕ) (d : TagTree) → i < length nodes → d ≡ get_or nodes i d
    → smallest t (leaves_of (drop i nodes)) ≡ smallest (smallest t (leaves d)) (leaves_of (drop (i + 1) nodes))
smallest_step t nodes i d h is = ap (smallest t) (leaves_at nodes i d h is) ∙ smallest-append t (leaves d) (leaves_of (drop (i + 1) nodes))

-- one step of the search for a tag that occurs twice
pub are_unique_step : (nodes : List TagTree) (i : ℕ) (d : TagTree) → i < length nodes → d ≡ get_or nodes i d
    → are_unique (leaves_of (drop i nodes))
    ≡ (are_unique (leaves d) && (not (share_a_tag (leaves d) (leaves_of (drop (i + 1) nodes))) && are_unique (leaves_of (drop (i + 1) nodes))))
are_unique_step nodes i d h is = ap are_unique (leaves_at nodes i d h is) ∙ are_unique-append (leaves d) (leaves_of (drop (i + 1) nodes))

-- a slice to the end is all the rest
slice_to_end : (nodes : List TagTree) (k : ℕ) → take (length nodes - k) (drop k nodes) ≡ drop k nodes
slice_to_end nodes k = take_all (length nodes - k) (drop k nodes) (omega (arith, length-drop k nodes))

-- the step where all tags are distinct
pub are_unique_next : (nodes : List TagTree) (i : ℕ) (d : TagTree) → i < length nodes → d ≡ get_or nodes i d → are_unique (leaves d) ≡ true
    → share_a_tag (leaves d) (leaves_of (take (length nodes - (i + 1)) (drop (i + 1) nodes))) ≡ false
    → are_unique (leaves_of (drop (i + 1) nodes)) ≡ are_unique (leaves_of (drop i nodes))
are_unique_next nodes i d h is u s =
    let rest = leaves_of (drop (i + 1) nodes) in
    let apart : share_a_tag (leaves d) rest ≡ false = ap (λ ns. share_a_tag (leaves d) (leaves_of ns)) (sym (slice_to_end nodes (i + 1))) ∙ s in
    sym (are_unique_step nodes i d h is ∙ (ap (λ b. b && (not (share_a_tag (leaves d) rest) && are_unique rest)) u ∙ ap (λ b. not b && are_unique rest) apart))

-- the step where a tree has a tag twice
pub are_unique_not : (nodes : List TagTree) (i : ℕ) (d : TagTree) → i < length nodes → d ≡ get_or nodes i d → are_unique (leaves d) ≡ false
    → are_unique (leaves_of (drop i nodes)) ≡ false
are_unique_not nodes i d h is u =
    let rest = leaves_of (drop (i + 1) nodes) in
    are_unique_step nodes i d h is ∙ ap (λ b. b && (not (share_a_tag (leaves d) rest) && are_unique rest)) u

-- false where the second of three is
middle_false : (a b : Bool) → (a && (false && b)) ≡ false
middle_false true b = refl
middle_false false b = refl

-- the step where a tree shares a tag with a further one
pub are_unique_shared : (nodes : List TagTree) (i : ℕ) (d : TagTree) → i < length nodes → d ≡ get_or nodes i d
    → share_a_tag (leaves d) (leaves_of (take (length nodes - (i + 1)) (drop (i + 1) nodes))) ≡ true
    → are_unique (leaves_of (drop i nodes)) ≡ false
are_unique_shared nodes i d h is s =
    let rest = leaves_of (drop (i + 1) nodes) in
    let met : share_a_tag (leaves d) rest ≡ true = ap (λ ns. share_a_tag (leaves d) (leaves_of ns)) (sym (slice_to_end nodes (i + 1))) ∙ s in
    are_unique_step nodes i d h is ∙ (ap (λ b. are_unique (leaves d) && (not b && are_unique rest)) met ∙ middle_false (are_unique (leaves d)) (are_unique rest))

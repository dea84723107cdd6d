-- Equality of trees of tags, step by step.
use Rattle.std.proofs.Common.{◌≡◌, ◌∙◌, refl, sym, ap, List, [], ◌∷◌, map, Bool, true, false, ◌&&◌, ℕ, ◌+◌, ◌<◌, length, drop, drop-cons, get_or, add-one, suc}
use Rattle.std.proofs.Math.Seq.{drop-length}
use Rattle.asn1_model.specs.Lawful.{tag_same}
use Rattle.asn1_schema_tags.specs.Tags.{tag_of}
use Rattle.asn1_schema_tags.specs.Plain.{Plain, own, one_of, Plains, further, in_row, plain_step, plain, is_same, are_same, same_tree}
use Rattle.asn1_schema_tags.specs.declared.tags.Tag.{Tag}
use Rattle.asn1_schema_tags.specs.declared.trees.TagTree.{TagTree}
use Rattle.asn1_schema_tags.specs.declared.trees.TagTree.TheVariants.{Leaf, Choice, rolls-Leaf, rolls-Choice}
use Rattle.asn1_schema_tags.specs.declared.trees.TagTree.TheFolds.{fold-roll-TagTree}

-- ---- the equations of plain trees

pub plain_leaf : (t : Tag) → plain (Leaf t) ≡ own (tag_of t)
plain_leaf t = ap plain (sym (rolls-Leaf t)) ∙ fold-roll-TagTree Plain plain_step _

-- a sequence of trees as plain data
abbrev pub row_of : List TagTree → Plains
row_of trees = in_row (map plain trees)

pub plain_choice : (nodes : _) → plain (Choice nodes) ≡ one_of (row_of nodes.now)
plain_choice nodes = ap plain (sym (rolls-Choice nodes)) ∙ fold-roll-TagTree Plain plain_step _

-- ---- two trees, by what they are

pub choice_choice : (s t : TagTree) (ns ms : _) → s ≡ Choice ns → t ≡ Choice ms → same_tree s t ≡ are_same (row_of ns.now) (row_of ms.now)
unfolding is_same
choice_choice s t ns ms e f = ap (λ x. same_tree x t) e ∙ (ap (same_tree (Choice ns)) f
    ∙ (ap (λ x. is_same x (plain (Choice ms))) (plain_choice ns) ∙ ap (is_same (one_of (row_of ns.now))) (plain_choice ms)))

pub leaf_leaf : (s t : TagTree) (a b : Tag) → s ≡ Leaf a → t ≡ Leaf b → same_tree s t ≡ tag_same (tag_of a) (tag_of b)
unfolding is_same
leaf_leaf s t a b e f = ap (λ x. same_tree x t) e ∙ (ap (same_tree (Leaf a)) f
    ∙ (ap (λ x. is_same x (plain (Leaf b))) (plain_leaf a) ∙ ap (is_same (own (tag_of a))) (plain_leaf b)))

pub leaf_choice : (s t : TagTree) (a : Tag) (ms : _) → s ≡ Leaf a → t ≡ Choice ms → same_tree s t ≡ false
unfolding is_same
leaf_choice s t a ms e f = ap (λ x. same_tree x t) e ∙ (ap (same_tree (Leaf a)) f
    ∙ (ap (λ x. is_same x (plain (Choice ms))) (plain_leaf a) ∙ ap (is_same (own (tag_of a))) (plain_choice ms)))

pub choice_leaf : (s t : TagTree) (ns : _) (b : Tag) → s ≡ Choice ns → t ≡ Leaf b → same_tree s t ≡ false
unfolding is_same
choice_leaf s t ns b e f = ap (λ x. same_tree x t) e ∙ (ap (same_tree (Choice ns)) f
    ∙ (ap (λ x. is_same x (plain (Leaf b))) (plain_choice ns) ∙ ap (is_same (one_of (row_of ns.now))) (plain_leaf b)))

-- ---- one step of the comparison of two sequences

row_drop : (nodes : List TagTree) (i : ℕ) (d : TagTree) → i < length nodes → row_of (drop i nodes) ≡ further (plain (get_or nodes i d)) (row_of (drop (i + 1) nodes))
row_drop nodes i d h = rw (add-one, drop-cons nodes i d) refl

-- the trees at this point, and those after them
pub row_step : (nodes others : List TagTree) (i : ℕ) (d e : TagTree) → i < length nodes → i < length others → d ≡ get_or nodes i d → e ≡ get_or others i e
    → are_same (row_of (drop i nodes)) (row_of (drop i others)) ≡ (same_tree d e && are_same (row_of (drop (i + 1) nodes)) (row_of (drop (i + 1) others)))
unfolding are_same
row_step nodes others i d e h k is at =
    let rest = row_of (drop (i + 1) nodes) in
    let rest' = row_of (drop (i + 1) others) in
    ap (λ r. are_same r (row_of (drop i others))) (row_drop nodes i d h)
    ∙ (ap (are_same (further (plain (get_or nodes i d)) rest)) (row_drop others i e k)
    ∙ (ap (λ x. is_same (plain x) (plain (get_or others i e)) && are_same rest rest') (sym is) ∙ ap (λ x. is_same (plain d) (plain x) && are_same rest rest') (sym at)))

-- if these trees are equal, the comparison goes on after them
pub row_next : (nodes others : List TagTree) (i : ℕ) (d e : TagTree) → i < length nodes → i < length others → d ≡ get_or nodes i d → e ≡ get_or others i e
    → same_tree d e ≡ true → are_same (row_of (drop (i + 1) nodes)) (row_of (drop (i + 1) others)) ≡ are_same (row_of (drop i nodes)) (row_of (drop i others))
row_next nodes others i d e h k is at s =
    sym (row_step nodes others i d e h k is at ∙ ap (λ b. b && are_same (row_of (drop (i + 1) nodes)) (row_of (drop (i + 1) others))) s)

-- if they are not, the sequences are not
pub row_not : (nodes others : List TagTree) (i : ℕ) (d e : TagTree) → i < length nodes → i < length others → d ≡ get_or nodes i d → e ≡ get_or others i e
    → same_tree d e ≡ false → false ≡ are_same (row_of (drop i nodes)) (row_of (drop i others))
row_not nodes others i d e h k is at s =
    sym (row_step nodes others i d e h k is at ∙ ap (λ b. b && are_same (row_of (drop (i + 1) nodes)) (row_of (drop (i + 1) others))) s)

-- after the last trees nothing differs
pub row_end : (nodes others : List TagTree) → length nodes ≡ length others → true ≡ are_same (row_of (drop (length nodes) nodes)) (row_of (drop (length nodes) others))
unfolding are_same
row_end nodes others e = rw e (simp drop-length (rw (sym e) (simp drop-length refl)))

false_behind : (a b : Bool) → false ≡ b → false ≡ (a && b)
false_behind true b e = e
false_behind false b e = refl

-- sequences of different lengths differ
pub row_lengths : (nodes others : List TagTree) → ¬ (length nodes ≡ length others) → false ≡ are_same (row_of nodes) (row_of others)
unfolding are_same
row_lengths [] [] h = absurd (h refl)
row_lengths [] (y ∷ ys) h = refl
row_lengths (x ∷ xs) [] h = refl
row_lengths (x ∷ xs) (y ∷ ys) h = false_behind (is_same (plain x) (plain y)) (are_same (row_of xs) (row_of ys)) (row_lengths xs ys (λ e. h (ap suc e)))

-- T ::= SEQUENCE {value INTEGER, branches SEQUENCE OF T}: the type and its values.
use Rattle.std.specs.Prelude.{◌≡◌, ℕ, zero, suc, refl, List, [], ◌∷◌, map}
use Rattle.std.proofs.Common.{ap, sym, subst, ◌∙◌}
use Rattle.asn1_schema.specs.Author.{sequence_form}
use Rattle.asn1_schema.specs.Author.{IsType, IsValue, Parts, Schema, Table, Value, Values, any_number_held, any_size}
use Rattle.asn1_schema.specs.Author.{components_at, cut, end, fields, is_lawful, is_tidy, list_type, member}
use Rattle.asn1_schema.specs.Author.{members, no_more, no_table, number, required, scope, sequence_type, there}
use Rattle.asn1_schema.specs.Author.{values_of, with_field, with_part}
use Rattle.asn1_schema.proofs.Author.{integer_value, more_types, more_values, no_types, no_values}
use Rattle.asn1_schema.proofs.Author.{part_required, type_list, type_sequence, value_as, value_list, value_sequence}
use Rattle.asn1_schema_example.specs.Numbers.{whole_number, number_typed}
use Rattle.asn1_schema_example.specs.declared.tree.Tree.{Tree, Tree', Row_of-Tree, end_of-Tree, more_of-Tree}
use Rattle.asn1_schema_example.specs.declared.tree.Tree.{items-the_row-Tree, items_hidden-the_row-Tree-0}
use Rattle.asn1_schema_example.specs.declared.tree.Tree.TheBlock.{hidden-the_row-Tree-0}
use Rattle.asn1_schema_example.specs.declared.tree.Tree.TheOpen.{Tree-F}
use Rattle.asn1_schema_example.specs.declared.tree.Tree.TheViews.{out-Tree, roll-Tree, out-roll-Tree}
use Rattle.asn1_schema_example.specs.declared.tree.Tree.TheViews.{roll-out-Tree, rolls-struct-Tree}
use Rattle.asn1_schema_example.specs.declared.tree.Tree.TheFolds.{ind-Tree}

-- The components, with the type of the second as a parameter.
abbrev pub tree_table : (ℕ → Schema) → Table
tree_table s = with_field (record { class = 0; number = 2 } ∷ []) required whole_number
    (with_field (record { class = 0; number = 16 } ∷ []) required s no_table)

unfoldable mutual
  -- The type, unfolded to a number of nested levels: the SEQUENCE takes one level, and the SEQUENCE OF in it the next.
  pub tree_schema : ℕ → Schema
  tree_schema zero = cut
  tree_schema (suc n) = sequence_type (tree_table (λ _. branches_schema n)) (suc n)

  -- The SEQUENCE OF the type.
  pub branches_schema : ℕ → Schema
  branches_schema zero = cut
  branches_schema (suc n) = list_type any_size any_number_held (λ _. tree_schema n) (suc n)

-- It is a SEQUENCE of these components, and the second is a SEQUENCE OF the type.
pub tree_is : (n : ℕ) → tree_schema n ≡ sequence_type (tree_table branches_schema) n
unfolding tree_schema sequence_type scope components_at
tree_is zero = refl
tree_is (suc n) = refl

pub branches_are : (n : ℕ) → branches_schema n ≡ list_type any_size any_number_held tree_schema n
unfolding branches_schema list_type scope
branches_are zero = refl
branches_are (suc n) = refl

-- The type is well-formed, and so is the SEQUENCE OF it, each at the levels that the other leaves.
abbrev IsSequence : (ℕ → Schema) → Type 0
IsSequence s = IsType (record { class = 0; number = 16 } ∷ []) s

sequence_typed : {s : ℕ → Schema} → IsSequence s → IsSequence (sequence_type (tree_table s))
sequence_typed {s} t = type_sequence (tree_table s) refl
    (more_types _ required (λ _. refl) number_typed (more_types _ required (λ _. refl) t no_types)) refl

list_typed : {s : ℕ → Schema} → IsSequence s → IsSequence (list_type any_size any_number_held s)
list_typed t = type_list sequence_form any_size any_number_held refl refl t

mutual
  unfolding tree_schema branches_schema is_lawful is_tidy

  tree_at : (n : ℕ) → IsSequence (λ _. tree_schema n)
  tree_at zero = record { tagged = λ m. refl; lawful = λ m. refl; tidy = λ m. refl; no_group = λ m. refl }
  tree_at (suc n) = record {
    tagged = λ m. (sequence_typed (branches_at n)).tagged (suc n);
    lawful = λ m. (sequence_typed (branches_at n)).lawful (suc n);
    tidy = λ m.
        (sequence_typed (branches_at n)).tidy (suc n);
    no_group = λ m. (sequence_typed (branches_at n)).no_group (suc n);
  }

  branches_at : (n : ℕ) → IsSequence (λ _. branches_schema n)
  branches_at zero = record { tagged = λ m. refl; lawful = λ m. refl; tidy = λ m. refl; no_group = λ m. refl }
  branches_at (suc n) = record {
    tagged = λ m. (list_typed (tree_at n)).tagged (suc n);
    lawful = λ m. (list_typed (tree_at n)).lawful (suc n);
    tidy = λ m.
        (list_typed (tree_at n)).tidy (suc n);
    no_group = λ m. (list_typed (tree_at n)).no_group (suc n);
  }

pub tree_typed : IsType (record { class = 0; number = 16 } ∷ []) tree_schema
tree_typed = record {
  tagged = λ n. (tree_at n).tagged n;
  lawful = λ n. (tree_at n).lawful n;
  tidy = λ n. (tree_at n).tidy n;
  no_group =
      λ n. (tree_at n).no_group n;
}

pub branches_typed : IsType (record { class = 0; number = 16 } ∷ []) branches_schema
branches_typed = record {
  tagged = λ n. (branches_at n).tagged n;
  lawful = λ n. (branches_at n).lawful n;
  tidy = λ n. (branches_at n).tidy n;
  no_group = λ n. (branches_at n).no_group n;
}

-- What a tree means, and what its branches mean.
abbrev mutual
  pub tree_meaning : Tree → Value
  tree_meaning (Tree' value n branches) = fields (with_part (there (number value))
      (with_part (there (members (branch_values branches))) end)) end

  pub branch_values : {n : _} → Row_of-Tree n → Values
  branch_values end_of-Tree = no_more
  branch_values (more_of-Tree x branches) = member (tree_meaning x) (branch_values branches)

-- The components, by the fields: each branch is an element.
abbrev pub tree_parts : Tree-F Tree → Parts
tree_parts t = with_part (there (number t.value)) (with_part
    (there (members (values_of tree_meaning t.branches.items))) end)

abbrev pub tree_root : Tree → Parts
tree_root x = tree_parts (out-Tree x)

branch_items : (n : _) (row : Row_of-Tree n) → branch_values row ≡ values_of tree_meaning (items-the_row-Tree n row)
branch_items n end_of-Tree = refl
branch_items n (more_of-Tree x row) = ap (member (tree_meaning x)) (branch_items _ row)

-- A tree that is made from its fields is the value with their components.
pub tree_rolls : (t : Tree-F Tree) → tree_meaning (roll-Tree t) ≡ fields (tree_parts t) end
tree_rolls t =
    ap tree_meaning (rolls-struct-Tree t)
    ∙ ap (λ vs. fields (with_part (there (number t.value)) (with_part (there (members vs)) end)) end)
    (branch_items _ (hidden-the_row-Tree-0 t.branches)
    ∙ ap (values_of tree_meaning) (items_hidden-the_row-Tree-0 t.branches))

-- A tree is the value with its components.
pub tree_opens : (x : Tree) → tree_meaning x ≡ fields (tree_root x) end
tree_opens x = ap tree_meaning (sym (roll-out-Tree x)) ∙ tree_rolls (out-Tree x)

-- The components of a tree that is made from its fields.
pub tree_made : (t : Tree-F Tree) → tree_root (roll-Tree t) ≡ tree_parts t
tree_made t = ap tree_parts (out-roll-Tree t)

-- Each tree is a value of the type, because each of its branches is.
abbrev IsTree : Tree → Type 0
IsTree x = IsValue tree_schema (tree_meaning x)

values_each : (xs : List ((x : Tree) × IsTree x)) → values_of tree_meaning (map (λ e. e.0) xs)
    ≡ values_of (λ e. tree_meaning e.0) xs
values_each [] = refl
values_each (x ∷ xs) = ap (member (tree_meaning x.0)) (values_each xs)

branches_valued : (xs : List ((x : Tree) × IsTree x))
    → IsValue branches_schema (members (values_of tree_meaning (map (λ e. e.0) xs)))
branches_valued xs = subst (λ vs. IsValue branches_schema (members vs)) (sym (values_each xs))
    (value_as (list_type any_size any_number_held tree_schema) branches_schema branches_are
    (value_list sequence_form any_size any_number_held tree_schema (λ e. tree_meaning e.0) xs (λ e. e.1)))

parts_valued : (t : Tree-F Tree) → IsValue branches_schema (members (values_of tree_meaning t.branches.items))
    → IsTree (roll-Tree t)
parts_valued t h =
    let v = value_sequence (tree_table branches_schema)
    (more_values _ (part_required number_typed (integer_value _ _ t.value))
    (more_values _ (part_required branches_typed h) no_values)) in
    subst (λ w. IsValue tree_schema w) (sym (tree_rolls t))
    (value_as (sequence_type (tree_table branches_schema)) tree_schema tree_is v)

pub tree_valued : (x : Tree) → IsValue tree_schema (tree_meaning x)
tree_valued = ind-Tree IsTree (λ t below is. parts_valued t
    (subst (λ (u : Tree-F Tree). IsValue branches_schema (members (values_of tree_meaning u.branches.items))) is
    (branches_valued below.branches.items)))

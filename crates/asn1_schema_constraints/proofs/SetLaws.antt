-- Lists of constraints: what they admit, and lists joined.
use Rattle.std.proofs.Common.{◌≡◌, ◌∙◌, refl, sym, ap, ℕ, ℤ, leb, Bool, true, false, ◌&&◌, ◌||◌, List, [], ◌∷◌, ◌++◌, map, fold, Option, Some, None}
use Rattle.asn1_model.specs.Numbers.{is_at_most}
use Rattle.std.specs.List.{list_all}
use Rattle.asn1_schema_constraints.specs.declared.parts.Value.{Value}
use Rattle.asn1_schema_constraints.specs.declared.parts.Size.{Size}
use Rattle.asn1_schema_constraints.specs.declared.extensions.Extensible.{Extensible}
use Rattle.asn1_schema_constraints.specs.declared.extensions.PermittedAlphabet.{PermittedAlphabet}
use Rattle.asn1_schema_constraints.specs.declared.lists.Constraint.{Constraint}
use Rattle.asn1_schema_constraints.specs.declared.lists.Constraints.{Constraints}
use Rattle.asn1_schema_constraints.specs.Bounds.{admits_number, admits_count}
use Rattle.asn1_schema_constraints.specs.Sets.{unconstrained, alone, both_parts, later_marker, met_values, met_sizes, later_alphabet, both, all_of, root_passes, admit_number, admit_count}
use Rattle.asn1_schema_constraints.proofs.Meets.{meet_groups}
use Rattle.asn1_schema_constraints.proofs.Common.{number_order, count_order, number_meet_admits, count_meet_admits}

-- ---- three constraints may be grouped either way

markers_join : {X : Type 0} (a b c : Option X) → later_marker (later_marker a b) c ≡ later_marker a (later_marker b c)
markers_join a b None = refl
markers_join a b (Some c) = refl

parts_group : {X : Type 0} (met : X → X → X) → ((a b c : X) → met (met a b) c ≡ met a (met b c)) → (x y z : Option (Extensible X))
    → both_parts met (both_parts met x y) z ≡ both_parts met x (both_parts met y z)
parts_group met groups (Some a) (Some b) (Some c) =
    ap (λ root. Some (record { constraint = root; extensible = later_marker (later_marker a.extensible b.extensible) c.extensible })) (groups a.constraint b.constraint c.constraint)
    ∙ ap (λ markers. Some (record { constraint = met a.constraint (met b.constraint c.constraint); extensible = markers })) (markers_join a.extensible b.extensible c.extensible)
parts_group met groups (Some a) (Some b) None = refl
parts_group met groups (Some a) None z = refl
parts_group met groups None y z = refl

pub values_group : (a b c : Value) → met_values (met_values a b) c ≡ met_values a (met_values b c)
values_group a b c = ap (λ bounds. record { value = bounds }) (meet_groups is_at_most number_order a.value b.value c.value)

pub sizes_group : (a b c : Size) → met_sizes (met_sizes a b) c ≡ met_sizes a (met_sizes b c)
sizes_group a b c = ap (λ bounds. record { range = bounds }) (meet_groups leb count_order a.range b.range c.range)

alphabets_group : (a b c : PermittedAlphabet) → later_alphabet (later_alphabet a b) c ≡ later_alphabet a (later_alphabet b c)
alphabets_group a b c = refl

markers_group : (a b c : Bool) → ((a || b) || c) ≡ (a || (b || c))
markers_group true b c = refl
markers_group false b c = refl

-- constraints that agree kind by kind are the same
by_kinds : {v v' : Option (Extensible Value)} {s s' : Option (Extensible Size)} {a a' : Option (Extensible PermittedAlphabet)} {m m' : Bool}
    → v ≡ v' → s ≡ s' → a ≡ a' → m ≡ m'
    → (let one : Constraints = record { value = v; size = s; permitted_alphabet = a; is_extensible = m } in one)
    ≡ record { value = v'; size = s'; permitted_alphabet = a'; is_extensible = m' }
by_kinds {v} {v'} {s} {s'} {a} {a'} {m} {m'} e f g h =
    ap (λ (x : Option (Extensible Value)). let one : Constraints = record { value = x; size = s; permitted_alphabet = a; is_extensible = m } in one) e
    ∙ (ap (λ (x : Option (Extensible Size)). let one : Constraints = record { value = v'; size = x; permitted_alphabet = a; is_extensible = m } in one) f
    ∙ (ap (λ (x : Option (Extensible PermittedAlphabet)). let one : Constraints = record { value = v'; size = s'; permitted_alphabet = x; is_extensible = m } in one) g
    ∙ ap (λ (x : Bool). let one : Constraints = record { value = v'; size = s'; permitted_alphabet = a'; is_extensible = x } in one) h))

pub both_groups : (a b c : Constraints) → both (both a b) c ≡ both a (both b c)
both_groups a b c = by_kinds
    (parts_group met_values values_group a.value b.value c.value)
    (parts_group met_sizes sizes_group a.size b.size c.size)
    (parts_group later_alphabet alphabets_group a.permitted_alphabet b.permitted_alphabet c.permitted_alphabet)
    (markers_group a.is_extensible b.is_extensible c.is_extensible)

-- ---- an empty list changes nothing

part_and_none : {X : Type 0} (met : X → X → X) (x : Option (Extensible X)) → both_parts met x None ≡ x
part_and_none met (Some a) = refl
part_and_none met None = refl

mark_and_none : (m : Bool) → (m || false) ≡ m
mark_and_none true = refl
mark_and_none false = refl

pub both_none : (a : Constraints) → both a unconstrained ≡ a
both_none a = by_kinds (part_and_none met_values a.value) (part_and_none met_sizes a.size) (part_and_none later_alphabet a.permitted_alphabet) (mark_and_none a.is_extensible)

-- ---- lists joined

-- further constraints, applied one by one or together
one_by_one : (a : Constraints) (cs : List Constraint) → fold both a (map alone cs) ≡ both a (all_of cs)
one_by_one a [] = sym (both_none a)
one_by_one a (c ∷ cs) = one_by_one (both a (alone c)) cs ∙ (both_groups a (alone c) (all_of cs) ∙ ap (both a) (sym (one_by_one (alone c) cs)))

-- a list followed by another has the effective constraints of both, applied in turn
pub all_of_joined : (cs ds : List Constraint) → all_of (cs ++ ds) ≡ both (all_of cs) (all_of ds)
all_of_joined cs ds = go unconstrained cs ∙ one_by_one (all_of cs) ds where
  go : (a : Constraints) (xs : List Constraint) → fold both a (map alone (xs ++ ds)) ≡ fold both (fold both a (map alone xs)) (map alone ds)
  go a [] = refl
  go a (x ∷ xs) = go (both a (alone x)) xs

-- ---- what a list admits

and_true : (p : Bool) → p ≡ (p && true)
and_true true = refl
and_true false = refl

and_groups : (p q r : Bool) → ((p && q) && r) ≡ (p && (q && r))
and_groups true q r = refl
and_groups false q r = refl

root_of_both : {X : Type 0} (met : X → X → X) (test : X → Bool) → ((a b : X) → test (met a b) ≡ (test a && test b)) → (x y : Option (Extensible X))
    → root_passes test (both_parts met x y) ≡ (root_passes test x && root_passes test y)
root_of_both met test h (Some a) (Some b) = h a.constraint b.constraint
root_of_both met test h (Some a) None = and_true (test a.constraint)
root_of_both met test h None y = refl

-- both admit a number exactly if each does
pub both_admit_number : (a b : Constraints) (v : ℤ) → admit_number (both a b) v ≡ (admit_number a v && admit_number b v)
both_admit_number a b v = root_of_both met_values (λ root. admits_number root.value v) (λ x y. number_meet_admits x.value y.value v) a.value b.value

-- both admit a count exactly if each does
pub both_admit_count : (a b : Constraints) (n : ℕ) → admit_count (both a b) n ≡ (admit_count a n && admit_count b n)
both_admit_count a b n = root_of_both met_sizes (λ root. admits_count root.range n) (λ x y. count_meet_admits x.range y.range n) a.size b.size

-- a property preserved by both is preserved by lists
each_alone : (test : Constraints → Bool) → ((a b : Constraints) → test (both a b) ≡ (test a && test b)) → (a : Constraints) (cs : List Constraint)
    → test (fold both a (map alone cs)) ≡ (test a && list_all (λ c. test (alone c)) cs)
each_alone test h a [] = and_true (test a)
each_alone test h a (c ∷ cs) = each_alone test h (both a (alone c)) cs
    ∙ (ap (λ t. t && list_all (λ d. test (alone d)) cs) (h a (alone c)) ∙ and_groups (test a) (test (alone c)) (list_all (λ d. test (alone d)) cs))

-- a list admits a number exactly if each of its constraints does
pub all_admit_number : (cs : List Constraint) (v : ℤ) → admit_number (all_of cs) v ≡ list_all (λ c. admit_number (alone c) v) cs
all_admit_number cs v = each_alone (λ c. admit_number c v) (λ a b. both_admit_number a b v) unconstrained cs

-- a list admits a size exactly if each of its constraints does
pub all_admit_count : (cs : List Constraint) (n : ℕ) → admit_count (all_of cs) n ≡ list_all (λ c. admit_count (alone c) n) cs
all_admit_count cs n = each_alone (λ c. admit_count c n) (λ a b. both_admit_count a b n) unconstrained cs

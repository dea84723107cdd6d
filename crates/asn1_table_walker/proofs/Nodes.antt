-- The components of the types of a lawful table.
use Rattle.std.proofs.Common.{◌≡◌, ◌∙◌, refl, ap, sym, subst, ℕ, zero, suc, ◌<◌, Bool, true, false, cond, List, [], ◌∷◌, ◌++◌, map, length, get_or, slice_get, Option, Some, None, Result, Ok, Err}
use Rattle.std.proofs.Common.{arith}
use Rattle.std.proofs.lemmas.Bool.{and_parts}
use Rattle.std.specs.Prelude.{◌&&◌, ◌||◌, not}
use Rattle.std.specs.Result.{IfErr, IfOk}
use Rattle.asn1_model.specs.Schema.{Schema, Presence, Components}
use Rattle.asn1_model.specs.Lawful.{is_lawful, are_lawful, is_group, is_optional, are_groups_in_place, has_typed_default, are_no_components, are_distinct, tag_same, component_tags}
use Rattle.asn1_model.specs.Lawful.{is_sequence_table, are_tags_of, are_ascending, tag_less, component_places}
use Rattle.asn1_model.specs.Normal.{is_required}
use Rattle.asn1_model.specs.Tidy.{is_tidy, are_tidy, has_normal_default}
use Rattle.asn1_schema_laws.specs.Presents.{optional_count, component_count}
use Rattle.asn1_schema_tags.specs.Tags.{tag_of}
use Rattle.asn1_table_nodes.specs.Meaning.{type_of, type_at, components_of, presence_of}
use Rattle.asn1_table_types.specs.Tables.{AreLawful, AreTidy}
use Rattle.asn1_table_nodes.specs.declared.nodes.Component.{Component}
use Rattle.asn1_table_nodes.specs.declared.nodes.TypeNode.{TypeNode}
use Rattle.asn1_table_nodes.specs.declared.nodes.TypeNode.TheVariants as node
use Rattle.asn1_table_tape.specs.Terms.{Lists, optional_in, lists_in}

pub optional_counted : (f : ℕ → Schema) (cs : List Component) → optional_count (components_of f cs) ≡ optional_in cs
optional_counted f [] = refl
optional_counted f (c ∷ cs) = ap (λ n. cond (is_required (presence_of c.presence)) n (suc n)) (optional_counted f cs)

pub components_counted : (f : ℕ → Schema) (cs : List Component) → component_count (components_of f cs) ≡ length cs
components_counted f [] = refl
components_counted f (c ∷ cs) = ap suc (components_counted f cs)

-- ---- what is lawful

-- components, of which groups are in place
record Fine (added : Bool) (cs : Components) : Type 0 where
  pub lawful : are_lawful cs ≡ true
  pub placed : are_groups_in_place added cs ≡ true

record BothFine (f : ℕ → Schema) (t : Lists) : Type 0 where
  pub root : Fine false (components_of f t.root)
  pub additions : Fine true (components_of f t.additions)

fine_table : (cs : Components) (e : Bool) (adds : Components) → (is_sequence_table cs e adds && are_lawful cs) ≡ true → are_lawful adds ≡ true → Fine false cs × Fine true adds
fine_table cs e adds h k =
    let b = and_parts (is_sequence_table cs e adds) (are_lawful cs) h in
    let c = and_parts ((e || are_no_components adds) && are_distinct tag_same (component_tags cs ++ component_tags adds) && are_groups_in_place false cs) (are_groups_in_place true adds) b.0 in
    let d = and_parts ((e || are_no_components adds) && are_distinct tag_same (component_tags cs ++ component_tags adds)) (are_groups_in_place false cs) c.0 in
    (record { lawful = b.1; placed = d.1 }, record { lawful = k; placed = c.1 })

some_lists : {a b : Lists} → Some a ≡ Some b → a ≡ b
some_lists e = cc

lawful_lists : (ns : List TypeNode) (n : ℕ) (y : TypeNode) (t : Lists) → is_lawful (type_of ns (suc n) (Some y)) ≡ true → lists_in (Some y) ≡ Some t → BothFine (λ i. type_at ns n i) t
unfolding is_lawful are_lawful
lawful_lists ns n y t = elim y as (λ y. is_lawful (type_of ns (suc n) (Some y)) ≡ true → lists_in (Some y) ≡ Some t → BothFine (λ i. type_at ns n i) t) [
  | node.Sequence u ↦ λ l e.
      let f : ℕ → Schema = λ i. type_at ns n i in
      let cs = components_of f u.root.items in
      let adds = components_of f u.additions.items in
      let a = and_parts (is_sequence_table cs u.is_extensible adds && are_lawful cs) (are_lawful adds) l in
      let b = fine_table cs u.is_extensible adds a.0 a.1 in
      subst (λ (t : Lists). BothFine f t) (some_lists e) (record { root = b.0; additions = b.1 })
  | node.Set u ↦ λ l e.
      let f : ℕ → Schema = λ i. type_at ns n i in
      let cs = components_of f u.root.items in
      let adds = components_of f u.additions.items in
      let a = and_parts (is_sequence_table cs u.is_extensible adds && are_ascending tag_less (component_places cs) && are_lawful cs) (are_lawful adds) l in
      let k = and_parts (is_sequence_table cs u.is_extensible adds && are_ascending tag_less (component_places cs)) (are_lawful cs) a.0 in
      let h = and_parts (is_sequence_table cs u.is_extensible adds) (are_ascending tag_less (component_places cs)) k.0 in
      let q : (is_sequence_table cs u.is_extensible adds && are_lawful cs) ≡ true = rw (h.0, k.1) refl in
      let b = fine_table cs u.is_extensible adds q a.1 in
      subst (λ (t : Lists). BothFine f t) (some_lists e) (record { root = b.0; additions = b.1 })
  | node.Group u ↦ λ l e.
      let f : ℕ → Schema = λ i. type_at ns n i in
      let cs = components_of f u.items in
      let a = and_parts (not (are_no_components cs) && are_distinct tag_same (component_tags cs) && are_groups_in_place false cs) (are_lawful cs) l in
      let b = and_parts (not (are_no_components cs) && are_distinct tag_same (component_tags cs)) (are_groups_in_place false cs) a.0 in
      subst (λ (t : Lists). BothFine f t) (some_lists e) (record { root = record { lawful = a.1; placed = b.1 }; additions = record { lawful = refl; placed = refl } })
  | _ ↦ λ l e. absurd (let z : None ≡ Some t = e in cc)
]

fine_lists : (ns : List TypeNode) (n place : ℕ) (t : Lists) → AreLawful ns → lists_in (slice_get ns place) ≡ Some t → BothFine (λ i. type_at ns n i) t
fine_lists ns n place t l = by_node (slice_get ns place) refl
  where
    by_node : (o : Option TypeNode) → slice_get ns place ≡ o → lists_in o ≡ Some t → BothFine (λ i. type_at ns n i) t
    by_node None q e = absurd (let z : None ≡ Some t = e in cc)
    by_node (Some y) q e = lawful_lists ns n y t (ap (λ o. is_lawful (type_of ns (suc n) o)) (sym q) ∙ l (suc n) place) e

-- one of them
pub record FineAt (added : Bool) (o : Presence) (s : Schema) : Type 0 where
  pub typed : has_typed_default s o ≡ true
  pub lawful : is_lawful s ≡ true
  pub placed : cond added (not (is_group s) || is_optional o) (not (is_group s)) ≡ true

fine_at : (added : Bool) (f : ℕ → Schema) (cs : List Component) (i : ℕ) (x : Component) → Fine added (components_of f cs) → i < length cs → x ≡ get_or cs i x →
    FineAt added (presence_of x.presence) (f x.place)
unfolding are_lawful
fine_at added f [] i x h l e = absurd (omega (arith, l))
fine_at added f (c ∷ cs) zero x h l e =
    let o = presence_of c.presence in
    let s = f c.place in
    let a = and_parts (are_tags_of (map tag_of c.tags.items) s && has_typed_default s o && is_lawful s) (are_lawful (components_of f cs)) h.lawful in
    let b = and_parts (are_tags_of (map tag_of c.tags.items) s && has_typed_default s o) (is_lawful s) a.0 in
    let d = and_parts (are_tags_of (map tag_of c.tags.items) s) (has_typed_default s o) b.0 in
    let g = and_parts (cond added (not (is_group s) || is_optional o) (not (is_group s))) (are_groups_in_place added (components_of f cs)) h.placed in
    subst (λ (y : Component). FineAt added (presence_of y.presence) (f y.place)) (sym e) (record { typed = d.1; lawful = b.1; placed = g.0 })
fine_at added f (c ∷ cs) (suc i) x h l e =
    let o = presence_of c.presence in
    let s = f c.place in
    let a = and_parts (are_tags_of (map tag_of c.tags.items) s && has_typed_default s o && is_lawful s) (are_lawful (components_of f cs)) h.lawful in
    let g = and_parts (cond added (not (is_group s) || is_optional o) (not (is_group s))) (are_groups_in_place added (components_of f cs)) h.placed in
    fine_at added f cs i x (record { lawful = a.1; placed = g.1 }) (let k : suc i < suc (length cs) = l in omega (arith, k)) e

pub root_fine : (ns : List TypeNode) (n place : ℕ) (t : Lists) (i : ℕ) (x : Component) → AreLawful ns → lists_in (slice_get ns place) ≡ Some t → i < length t.root → x ≡ get_or t.root i x →
    FineAt false (presence_of x.presence) (type_at ns n x.place)
root_fine ns n place t i x l e h q = fine_at false (λ i. type_at ns n i) t.root i x (fine_lists ns n place t l e).root h q

pub added_fine : (ns : List TypeNode) (n place : ℕ) (t : Lists) (i : ℕ) (x : Component) → AreLawful ns → lists_in (slice_get ns place) ≡ Some t → i < length t.additions →
    x ≡ get_or t.additions i x → FineAt true (presence_of x.presence) (type_at ns n x.place)
added_fine ns n place t i x l e h q = fine_at true (λ i. type_at ns n i) t.additions i x (fine_lists ns n place t l e).additions h q

-- ---- defaults in normal form

record BothTidy (f : ℕ → Schema) (t : Lists) : Type 0 where
  pub root : are_tidy (components_of f t.root) ≡ true
  pub additions : are_tidy (components_of f t.additions) ≡ true

tidy_lists : (ns : List TypeNode) (n : ℕ) (y : TypeNode) (t : Lists) → is_tidy (type_of ns (suc n) (Some y)) ≡ true → lists_in (Some y) ≡ Some t → BothTidy (λ i. type_at ns n i) t
unfolding is_tidy are_tidy
tidy_lists ns n y t = elim y as (λ y. is_tidy (type_of ns (suc n) (Some y)) ≡ true → lists_in (Some y) ≡ Some t → BothTidy (λ i. type_at ns n i) t) [
  | node.Sequence u ↦ λ l e.
      let f : ℕ → Schema = λ i. type_at ns n i in
      let a = and_parts (are_tidy (components_of f u.root.items)) (are_tidy (components_of f u.additions.items)) l in
      subst (λ (t : Lists). BothTidy f t) (some_lists e) (record { root = a.0; additions = a.1 })
  | node.Set u ↦ λ l e.
      let f : ℕ → Schema = λ i. type_at ns n i in
      let a = and_parts (are_tidy (components_of f u.root.items)) (are_tidy (components_of f u.additions.items)) l in
      subst (λ (t : Lists). BothTidy f t) (some_lists e) (record { root = a.0; additions = a.1 })
  | node.Group u ↦ λ l e. subst (λ (t : Lists). BothTidy (λ i. type_at ns n i) t) (some_lists e) (record { root = l; additions = refl })
  | _ ↦ λ l e. absurd (let z : None ≡ Some t = e in cc)
]

both_tidy : (ns : List TypeNode) (n place : ℕ) (t : Lists) → AreTidy ns → lists_in (slice_get ns place) ≡ Some t → BothTidy (λ i. type_at ns n i) t
both_tidy ns n place t l = by_node (slice_get ns place) refl
  where
    by_node : (o : Option TypeNode) → slice_get ns place ≡ o → lists_in o ≡ Some t → BothTidy (λ i. type_at ns n i) t
    by_node None q e = absurd (let z : None ≡ Some t = e in cc)
    by_node (Some y) q e = tidy_lists ns n y t (ap (λ o. is_tidy (type_of ns (suc n) o)) (sym q) ∙ l (suc n) place) e

tidy_at : (f : ℕ → Schema) (cs : List Component) (i : ℕ) (x : Component) → are_tidy (components_of f cs) ≡ true → i < length cs → x ≡ get_or cs i x →
    has_normal_default (f x.place) (presence_of x.presence) ≡ true
unfolding are_tidy
tidy_at f [] i x h l e = absurd (omega (arith, l))
tidy_at f (c ∷ cs) zero x h l e =
    let a = and_parts (has_normal_default (f c.place) (presence_of c.presence) && is_tidy (f c.place)) (are_tidy (components_of f cs)) h in
    let b = and_parts (has_normal_default (f c.place) (presence_of c.presence)) (is_tidy (f c.place)) a.0 in
    subst (λ (y : Component). has_normal_default (f y.place) (presence_of y.presence) ≡ true) (sym e) b.0
tidy_at f (c ∷ cs) (suc i) x h l e =
    let a = and_parts (has_normal_default (f c.place) (presence_of c.presence) && is_tidy (f c.place)) (are_tidy (components_of f cs)) h in
    tidy_at f cs i x a.1 (let k : suc i < suc (length cs) = l in omega (arith, k)) e

pub root_tidy : (ns : List TypeNode) (n place : ℕ) (t : Lists) (i : ℕ) (x : Component) → AreTidy ns → lists_in (slice_get ns place) ≡ Some t → i < length t.root → x ≡ get_or t.root i x →
    has_normal_default (type_at ns n x.place) (presence_of x.presence) ≡ true
root_tidy ns n place t i x l e h q = tidy_at (λ i. type_at ns n i) t.root i x (both_tidy ns n place t l e).root h q

pub added_tidy : (ns : List TypeNode) (n place : ℕ) (t : Lists) (i : ℕ) (x : Component) → AreTidy ns → lists_in (slice_get ns place) ≡ Some t → i < length t.additions → x ≡ get_or t.additions i x →
    has_normal_default (type_at ns n x.place) (presence_of x.presence) ≡ true
added_tidy ns n place t i x l e h q = tidy_at (λ i. type_at ns n i) t.additions i x (both_tidy ns n place t l e).additions h q

-- ---- results

pub if_err : {T E : Type 0} {P Q : E → Type 0} (r : Result T E) → ((x : E) → P x → Q x) → IfErr r P → IfErr r Q
if_err (Ok v) f h = tt
if_err (Err x) f h = f x h

pub if_ok : {T E : Type 0} {P Q : T → Type 0} (r : Result T E) → ((x : T) → P x → Q x) → IfOk r P → IfOk r Q
if_ok (Ok v) f h = f v h
if_ok (Err x) f h = tt

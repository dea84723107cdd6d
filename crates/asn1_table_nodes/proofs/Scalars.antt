-- Values without parts: of which types of a table they are.
use Rattle.std.proofs.Common.{◌≡◌, ◌∙◌, refl, ap, ℕ, ℤ, zero, suc, Bool, true, false, not, cond, ◌&&◌, ◌||◌, List}
use Rattle.std.proofs.Common.{[], ◌∷◌, length, ◌<◌, is_some, Option, Some, None, option_map, arith}
use Rattle.std.proofs.Common.{Fits, w8, slice_index_or}
use Rattle.std.specs.List.{list_all}
use Rattle.std.proofs.lemmas.Bool.{le-leb, and_from}
use Rattle.asn1_model.specs.Value.{same_number}
use Rattle.asn1_model.specs.Schema.{any_count, bmp}
use Rattle.asn1_model.specs.Normal.{item_index}
use Rattle.asn1_model.specs.Numbers.{admits, is_count_within}
use Rattle.asn1_model.specs.Strings.{is_identifier, is_of_octets, may_hold, characters_of, is_among}
use Rattle.asn1_schema_constraints.specs.declared.sizes.Sizes.{Sizes}
use Rattle.asn1_schema_constraints.specs.Terms.{size_of}
use Rattle.asn1_table_nodes.specs.declared.nodes.StringTable.{StringTable}
use Rattle.asn1_table_nodes.specs.declared.nodes.TypeNode.{TypeNode}
use Rattle.asn1_table_nodes.specs.declared.nodes.TypeNode.TheVariants as node
use Rattle.asn1_table_nodes.specs.declared.events.Event.{Event}
use Rattle.asn1_table_nodes.specs.declared.events.Event.TheVariants as event
use Rattle.asn1_table_nodes.specs.Defaults.{is_scalar, is_in, is_size_of, is_text_of, has_type}
use Rattle.asn1_table_nodes.specs.Meaning.{kind_of}
use Rattle.asn1_table_nodes.specs.Values.{scalar_of}

pub one_arc : (ns : List ℕ) → length ns ≡ 1 → is_identifier ns ≡ false
one_arc [] e = refl
one_arc (a ∷ []) e = refl
one_arc (a ∷ b ∷ ns) e = absurd (omega (arith, e))

some_map : {A B : Type 0} (f : A → B) (o : Option A) → is_some (option_map f o) ≡ is_some o
some_map f None = refl
some_map f (Some x) = refl

-- an item is at a place if it is among the items
pub placed : (v : ℤ) (ds : List ℤ) → is_some (item_index v ds) ≡ is_in v ds
placed v [] = refl
placed v (d ∷ ds) = go (same_number v d) (some_map suc (item_index v ds) ∙ placed v ds) where
  go : (b : Bool) → is_some (option_map suc (item_index v ds)) ≡ is_in v ds
      → is_some (cond b (Some zero) (option_map suc (item_index v ds))) ≡ not (not b && list_all (λ e. not (same_number v e)) ds)
  go true e = refl
  go false e = e

-- a string of any length is held
pub any_size : (z : Sizes) (n : ℕ) → admits (size_of z) any_count n ≡ is_size_of z n
any_size z n = ap (λ b. (b && true) && is_size_of z n) (le-leb 0 n (omega arith))

-- nor is the length of a character string limited
true_after : (a : Bool) → (a && true) ≡ a
true_after true = refl
true_after false = refl

pub text_held : (t : StringTable) (cs : List ℕ) → (may_hold (kind_of t.kind) cs && is_count_within any_count (length cs) && (is_of_octets (kind_of t.kind) || admits (size_of t.sizes) any_count (length cs)))
    ≡ is_text_of t cs
text_held t cs =
    let k = kind_of t.kind in
    ap (λ b. may_hold k cs && b && (is_of_octets k || admits (size_of t.sizes) any_count (length cs))) (ap (λ b. b && true) (le-leb 0 (length cs) (omega arith)))
    ∙ ap (λ b. b && (is_of_octets k || admits (size_of t.sizes) any_count (length cs))) (true_after (may_hold k cs))
    ∙ ap (λ b. may_hold k cs && (is_of_octets k || b)) (any_size t.sizes (length cs))

-- a BMPString may hold all octets
octet_in_run : (c : ℕ) → c < 256 → is_among (characters_of bmp) c ≡ true
octet_in_run c h = rw (le-leb 0 c (omega arith), le-leb c 65535 (omega arith)) refl

pub octets_in_bmp : (cs : List ℕ) → ((i : ℕ) → Fits w8 (slice_index_or cs i 0)) → list_all (λ c. is_among (characters_of bmp) c) cs ≡ true
octets_in_bmp [] h = refl
octets_in_bmp (c ∷ cs) h = and_from _ _ (octet_in_run c (omega (arith, h 0))) (octets_in_bmp cs (λ i. h (suc i)))

-- a value without parts is of a type if the type says so
pub scalar_typed : (ns : List TypeNode) (x : TypeNode) (e : Event) → has_type ns (Some x) (scalar_of e) ≡ is_scalar x e
unfolding has_type
scalar_typed ns node.Boolean (event.Truth b) = refl
scalar_typed ns x (event.Truth b) = refl
scalar_typed ns node.Null event.Nothing = refl
scalar_typed ns x event.Nothing = refl
scalar_typed ns (node.Integer l) (event.Number v) = refl
scalar_typed ns x (event.Number v) = refl
scalar_typed ns (node.Enumerated t) (event.Item v) = refl
scalar_typed ns x (event.Item v) = refl
scalar_typed ns (node.BitString z) (event.Bits bs) = refl
scalar_typed ns x (event.Bits bs) = refl
scalar_typed ns (node.OctetString z) (event.Octets os) = refl
scalar_typed ns x (event.Octets os) = refl
scalar_typed ns (node.CharacterString t) (event.Text cs) = refl
scalar_typed ns x (event.Text cs) = refl
scalar_typed ns node.ObjectIdentifier (event.Arcs xs) = refl
scalar_typed ns x (event.Arcs xs) = refl

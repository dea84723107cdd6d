-- T ::= CHOICE {leaf [0] NULL, more [1] T}: the type and its values.
use Rattle.std.specs.Prelude.{◌≡◌, ◌<◌, ℕ, zero, suc, refl, Bool, true, false, [], ◌∷◌}
use Rattle.std.proofs.Common.{arith, ap, ◌∙◌}
use Rattle.asn1_schema.specs.Author.{Choices, Chosen, IsAmong, IsType, IsValue, Schema, Value, alternatives_at}
use Rattle.asn1_schema.specs.Author.{choice_type, chosen, context, no_variant, nothing, null, recursive_choice}
use Rattle.asn1_schema.specs.Author.{scope, variant}
use Rattle.asn1_schema.proofs.Author.{more_variants, no_variants, null_type, null_value, recursive_choice_type}
use Rattle.asn1_schema.proofs.Author.{value_as, value_choice}
use Rattle.asn1_relay_types.specs.declared.nest.Nest.{Nest, Leaf, More'}

-- The alternatives, with the type of the second as a parameter.
abbrev pub nest_table : (ℕ → Schema) → Choices
nest_table s = record {
  root = variant (context 0) (λ _. null) (variant (context 1) s no_variant);
  extensible = false;
  additions = no_variant;
}

abbrev pub nest_schema : ℕ → Schema
nest_schema = recursive_choice nest_table

-- It is a choice of these alternatives.
pub nest_is : (n : ℕ) → nest_schema n ≡ choice_type (nest_table nest_schema) n
unfolding recursive_choice choice_type scope alternatives_at
nest_is zero = refl
nest_is (suc n) = refl

-- The type is well-formed.
pub nest_typed : IsType (context 0 ∷ context 1 ∷ []) nest_schema
nest_typed = recursive_choice_type nest_table (λ s. refl)
    (λ s t. more_variants _ refl (null_type {ts = context 0 ∷ []} refl) (more_variants _ refl t no_variants))
    (λ s t. no_variants) (λ s. refl)

-- Which alternative a value has chosen, what that means, and what the value means.
abbrev pub nest_place : Nest → Chosen
nest_place Leaf = record { added = false; place = 0 }
nest_place (More' p x) = record { added = false; place = 1 }

abbrev pub nest_meaning : Nest → Value
nest_meaning Leaf = chosen false 0 nothing
nest_meaning (More' p x) = chosen false 1 (nest_meaning x)

abbrev pub nest_inner : Nest → Value
nest_inner Leaf = nothing
nest_inner (More' p x) = nest_meaning x

pub nest_means : (x : Nest) → nest_meaning x ≡ chosen (nest_place x).added (nest_place x).place (nest_inner x)
nest_means Leaf = refl
nest_means (More' p x) = refl

-- Each value of the Rust type is a value of the ASN.1 type.
pub nest_valued : (x : Nest) → IsValue nest_schema (nest_meaning x)
nest_valued Leaf = value_as (choice_type (nest_table nest_schema)) nest_schema nest_is
    (value_choice (nest_table nest_schema) false 0 null_value)
nest_valued (More' p x) = value_as (choice_type (nest_table nest_schema)) nest_schema nest_is
    (value_choice (nest_table nest_schema) false 1 (nest_valued x))

-- A chosen alternative is one of the two.
only_root : (added : Bool) (place : ℕ) → IsAmong (nest_table nest_schema) (record { added = added; place = place })
    → (added ≡ false) × (place < 2)
only_root false place h = (refl, h)
only_root true place h = absurd (let z : place < 0 = h in omega arith)

the_place : (c : Chosen) (b : Bool) (i : ℕ) → c.added ≡ b → c.place ≡ i → c ≡ record { added = b; place = i }
the_place c b i a e = ap (λ (x : Bool). let r : Chosen = record { added = x; place = c.place } in r) a
    ∙ ap (λ (k : ℕ). let r : Chosen = record { added = b; place = k } in r) e

pub nest_first : (c : Chosen) → IsAmong (nest_table nest_schema) c → c.place ≡ 0 → c
    ≡ record { added = false; place = 0 }
nest_first c h e = the_place c false 0 (only_root c.added c.place h).0 e

pub nest_second : (c : Chosen) → IsAmong (nest_table nest_schema) c → (c.place ≡ 0 → ⊥) → c
    ≡ record { added = false; place = 1 }
nest_second c h e =
    let d = only_root c.added c.place h in
    let b : c.place < 2 = d.1 in
    the_place c false 1 d.0 (let p : c.place ≡ 1 = omega arith in p)

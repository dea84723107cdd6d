-- T ::= SEQUENCE {value INTEGER, next T OPTIONAL}: the type and its values.
use Rattle.std.specs.Prelude.{◌≡◌, ℕ, ℤ, zero, suc, refl, List, [], ◌∷◌, Option, Some, None}
use Rattle.std.proofs.Common.{Box, Global}
use Rattle.asn1_schema.specs.Author.{Value, Parts, number, fields, end, Schema, Tag, required, optional}
use Rattle.asn1_schema.specs.Author.{Part, left_out, there, with_part, part_of, Table, no_table, with_field}
use Rattle.asn1_schema.specs.Author.{components_at, scope, sequence_type, IsType, IsValue, IsPart}
use Rattle.asn1_schema.specs.Author.{recursive_sequence}
use Rattle.asn1_schema.proofs.Author.{integer_value, no_types, more_types, no_values, more_values}
use Rattle.asn1_schema.proofs.Author.{part_required, value_sequence, recursive_type, value_as, part_absent}
use Rattle.asn1_schema.proofs.Author.{part_there}
use Rattle.asn1_schema_example.specs.Numbers.{whole_number, number_typed}
use Rattle.asn1_schema_example.specs.declared.chain.Chain.{Chain, Chain', Held-Chain-next, None', Some'}
use Rattle.asn1_schema_example.specs.declared.chain.Chain.TheViews.{out-Chain, roll-Chain}
use denote.Hole.Carrier.{out, roll}

-- The components, with the type of the second as a parameter.
abbrev pub chain_table : (ℕ → Schema) → Table
chain_table s = with_field (record { class = 0; number = 2 } ∷ []) required whole_number
    (with_field (record { class = 0; number = 16 } ∷ []) optional s no_table)

abbrev pub chain_schema : ℕ → Schema
chain_schema = recursive_sequence chain_table

-- It is a SEQUENCE of these components.
pub chain_is : (n : ℕ) → chain_schema n ≡ sequence_type (chain_table chain_schema) n
unfolding recursive_sequence sequence_type scope components_at
chain_is zero = refl
chain_is (suc n) = refl

-- The type is well-formed.
pub chain_typed : IsType (record { class = 0; number = 16 } ∷ []) chain_schema
chain_typed = recursive_type chain_table refl (λ s t. more_types _ required (λ _. refl)
    number_typed (more_types _ optional (λ _. refl) t no_types)) (λ s. refl)

-- What a chain means.
abbrev mutual
  pub chain_meaning : Chain → Value
  chain_meaning (Chain' value next) = fields (with_part (there (number value)) (with_part (next_part next) end)) end

  pub next_part : Held-Chain-next → Part
  next_part None' = left_out
  next_part (Some' p x) = there (chain_meaning x)

-- The components of a chain, by its fields.
abbrev pub chain_root : Chain → Parts
chain_root x = with_part (there (number (out-Chain x).value))
    (with_part (part_of (λ b. chain_meaning b.value) (out-Chain x).next) end)

-- A chain is the value with its components.
pub chain_opens : (x : Chain) → chain_meaning x ≡ fields (chain_root x) end
unfolding out-Chain out
chain_opens (Chain' value None') = refl
chain_opens (Chain' value (Some' p x)) = refl

-- The components of a chain that is made from its fields.
pub chain_made : (value : ℤ) (next : Option (Box Chain Global))
    → chain_root (roll-Chain (record { value = value; next = next }))
    ≡ with_part (there (number value)) (with_part (part_of (λ b. chain_meaning b.value) next) end)
unfolding out-Chain out roll-Chain roll
chain_made value None = refl
chain_made value (Some b) = refl

-- Each chain is a value of the type.
mutual
  pub chain_valued : (x : Chain) → IsValue chain_schema (chain_meaning x)
  chain_valued (Chain' value next) = value_as (sequence_type (chain_table chain_schema)) chain_schema chain_is
      (value_sequence (chain_table chain_schema) (more_values _ (part_required number_typed (integer_value _ _ value))
      (more_values _ (next_valued next) no_values)))

  pub next_valued : (next : Held-Chain-next) → IsPart optional chain_schema (next_part next)
  next_valued None' = part_absent chain_schema
  next_valued (Some' p x) = part_there chain_typed (chain_valued x)

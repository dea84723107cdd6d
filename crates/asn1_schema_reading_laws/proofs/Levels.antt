-- Records that answer one question leave the same number of levels.
use Rattle.std.proofs.Common.{◌≡◌, ℕ, Option, Some, refl, sym, ◌∙◌, ap}
use Rattle.asn1_schema_laws.specs.Records.{Record, Question, question, flag}
use Rattle.asn1_schema_laws.specs.Records.{asks_list, asks_bag, asks_sequence, asks_set, asks_group, asks_choice, asks_end}
use Rattle.asn1_schema_laws.specs.Levels.{level, inside, outside}

-- the levels that are left after a record, by the question that it answers
asked : ℕ → Question → ℕ → Option ℕ
asked most (asks_list z h) l = inside l
asked most (asks_bag z h) l = inside l
asked most (asks_sequence e n) l = inside l
asked most (asks_set e n) l = inside l
asked most (asks_group n) l = inside l
asked most (asks_choice r e a) l = inside l
asked most asks_end l = outside most l
asked most q l = Some l

level_asked : (most : ℕ) (r : Record) (l : ℕ) → level most r l ≡ asked most (question r) l
unfolding asked
level_asked most (flag v) l = refl
level_asked most r l = refl

pub same_level : (most : ℕ) (r s : Record) (l : ℕ) → question r ≡ question s → level most r l ≡ level most s l
same_level most r s l e = level_asked most r l ∙ ap (λ q. asked most q l) e ∙ sym (level_asked most s l)

-- The records that are kept, one after another.
use Rattle.std.proofs.Common.{◌≡◌, ◌∙◌, refl, ap, ℕ, zero, suc, List, [], ◌∷◌, ◌++◌, map, length}
use Rattle.std.specs.Prelude.{slice_set as set}
use Rattle.asn1_table_nodes.specs.declared.nodes.TypeNode.{TypeNode}
use Rattle.asn1_table_tape.specs.declared.tape.Event.{Event}
use Rattle.asn1_table_tape.specs.Records.{record_of, records_of}

map_one : {A B : Type 0} (f : A → B) (xs : List A) (x : A) → map f (xs ++ x ∷ []) ≡ map f xs ++ f x ∷ []
map_one f [] x = refl
map_one f (y ∷ ys) x = ap (λ zs. f y ∷ zs) (map_one f ys x)

pub kept_one : (ns : List TypeNode) (old new : List Event) (e : Event) → new ≡ old ++ e ∷ [] → records_of ns new ≡ records_of ns old ++ record_of ns e ∷ []
kept_one ns old new e h = ap (λ es. records_of ns es) h ∙ map_one (λ e. record_of ns e) old e

pub records_set : (ns : List TypeNode) (es : List Event) (i : ℕ) (e : Event) → records_of ns (set es i e) ≡ set (records_of ns es) i (record_of ns e)
records_set ns [] i e = refl
records_set ns (x ∷ es) zero e = refl
records_set ns (x ∷ es) (suc i) e = ap (λ zs. record_of ns x ∷ zs) (records_set ns es i e)

pub records_counted : (ns : List TypeNode) (es : List Event) → length (records_of ns es) ≡ length es
records_counted ns [] = refl
records_counted ns (x ∷ es) = ap suc (records_counted ns es)

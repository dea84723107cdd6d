use Rattle.std.proofs.Common.{◌≡◌, fold, map, drop}
use Rattle.asn1_schema_constraints.specs.Sets.{alone, both, all_of}
use Rattle.asn1_schema_constraints.proofs.lists.Constraints.new.Given as goal

abbrev pub invariant-loop-constraint : goal.invariant-loop-constraint
invariant-loop-constraint l = fold both l.all (map alone (drop l.constraint-index l.constraints)) ≡ all_of l.constraints

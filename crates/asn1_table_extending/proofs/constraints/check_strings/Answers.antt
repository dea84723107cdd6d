use Rattle.std.proofs.Common.{inl, inr, refl}
use Rattle.asn1_table_extending.proofs.Refused.{raised_as, untrue}
use Rattle.asn1_table_extending.specs.Differing.{SizesDiffer, StringsDiffer}
use Rattle.asn1_table_extending.proofs.constraints.check_strings.Goals as goal

pub returns-then-not-is_same_kind-clause-refused : goal.returns-then-not-is_same_kind-clause-refused
returns-then-not-is_same_kind-clause-refused c = inl (refl, λ m. untrue _ c.is_same_kind.ensures.1 c.if-not-is_same_kind.true m)

pub returns-in_err-check_sizes-clause-refused : goal.returns-in_err-check_sizes-clause-refused
returns-in_err-check_sizes-clause-refused c =
    raised_as (λ d. SizesDiffer d c.args.older.now.sizes c.args.newer.now.sizes) (λ d. StringsDiffer d c.args.older.now c.args.newer.now) _ _
    (λ d h. inr (inl h)) c.from_residual.ensures.1 c.in_err-check_sizes.ensures.refused

pub returns-then-not-is_same_alphabet-clause-refused : goal.returns-then-not-is_same_alphabet-clause-refused
returns-then-not-is_same_alphabet-clause-refused c = inr (inr (refl, λ m. untrue _ c.is_same_alphabet.ensures.1 c.if-not-is_same_alphabet.true m))

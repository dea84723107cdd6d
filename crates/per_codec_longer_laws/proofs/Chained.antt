-- The laws of one record, for a sequence of records.
use Rattle.std.proofs.Common.{◌≤◌, [], ◌∷◌, length, refl, ap, sym, subst, arith}
use Rattle.asn1_schema_laws.specs.Chains.{Chain}
use Rattle.per_codec_laws.specs.Takes.{Takes}
use Rattle.per_codec_longer_laws.specs.More.{with_more, outermost}
use Rattle.per_codec_longer_laws.specs.Laws.{MoreChangesNothing, LeftIsNotNeeded, MoreInPieces, NothingGrows}
use Rattle.per_codec_longer_laws.proofs.Behind.{more_twice, more_none}
use Rattle.per_codec_longer_laws.proofs.Steps.{takes_less, takes_more, takes_back}

pub chain_more : MoreChangesNothing
chain_more al free e [] a b c = ap (λ s. with_more e s) c
chain_more al free e (r ∷ rs) a b c = (with_more e c.0, takes_more al free e a r c.0 c.1, chain_more al free e rs c.0 b c.2)

pub chain_less : NothingGrows
chain_less al free [] a b c = subst (λ s. length (outermost s) ≤ length (outermost a)) (sym c) (omega arith)
chain_less al free (r ∷ rs) a b c =
    let l = takes_less al free a r c.0 c.1 in
    let m = chain_less al free rs c.0 b c.2 in
    omega arith

pub chain_back : LeftIsNotNeeded
chain_back al free e [] a c q h = (a, q, refl)
chain_back al free e (r ∷ rs) a c q h =
    let m = chain_less al free rs q.0 c q.2 in
    let z = takes_back al free e a r q.0 q.1 (omega arith) in
    let y = chain_back al free e rs z.0 c (subst (λ s. Chain (Takes al free) rs s c) z.1 q.2) h in
    (y.0, y.1, (z.0, z.2, y.2))

pub pieces : MoreInPieces
pieces = (more_twice, more_none)

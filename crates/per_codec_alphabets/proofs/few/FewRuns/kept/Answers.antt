use Rattle.std.proofs.Common.{subst, arith}
use Rattle.std.proofs.lemmas.Option.{IfSome_then}
use Rattle.asn1_model.specs.Strings.{characters_of, is_among, sorted}
use Rattle.per_codec_alphabets.proofs.Listed.{few_sorted}
use Rattle.per_codec_alphabets.specs.Codes.{runs_of, singles, SameCharacters}
use Rattle.per_codec_alphabets.proofs.few.FewRuns.kept.Goals as goal

pub returns-clause-few : goal.returns-clause-few
returns-clause-few g c =
    let test = is_among (characters_of g.S.StaticPermittedAlphabet.kind) in
    let cs = c.args.characters.now in
    IfSome_then c.in_order.result c.in_order.ensures (λ runs k.
    let same = subst (λ l. SameCharacters (runs_of runs) (singles (sorted l))) c.in_ok-listed.ensures k in
    omega (arith, few_sorted test cs (runs_of runs) same, c.well_formed.0.0))

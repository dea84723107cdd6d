use Rattle.std.proofs.Common.{◌∙◌, IfOk, ap, filter, subst}
use Rattle.std.proofs.lemmas.List.Filters.{dedup_is}
use Rattle.asn1_model.specs.Strings.{characters_of, is_among, sorted}
use Rattle.per_codec_alphabets.specs.Codes.{runs_of, singles, SameCharacters}
use Rattle.per_codec_alphabets.proofs.Sorting.{sorted_left, put_in_order}
use Rattle.per_codec_alphabets.proofs.runs.sorted_runs.Goals as goal

pub returns-clause-characters : goal.returns-clause-characters
returns-clause-characters g c =
    let test = is_among (characters_of g.S.StaticPermittedAlphabet.kind) in
    let cs = c.args.characters.now in
    let is = dedup_is _ _ _ c.dedup.ensures.filtered in
    let order = put_in_order _ _ c.sort_unstable.ensures.permutation c.sort_unstable.ensures.sorted in
    let left = ap (filter test) (c.as_slice.ensures.value ∙ is ∙ order ∙ ap sorted c.in_ok-ascending.ensures.items) ∙ sorted_left test cs in
    subst (λ l. IfOk c.listed_runs.result (λ runs. SameCharacters (runs_of runs.items) (singles l))) left c.listed_runs.ensures.characters

use Rattle.std.proofs.Common.{◌≡◌, ◌<◌, ◌^◌, ◌++◌, ◌∷◌, [], ltb, true, sym, ◌∙◌, ap, subst, refl, arith, take, length, filter}
use Rattle.asn1_model.specs.Lawful.{are_ascending}
use Rattle.asn1_model.specs.Strings.{characters_of, is_among, sorted}
use Rattle.asn1_model.proofs.Ascending.{ascending_order}
use Rattle.per_codec_alphabets.specs.Codes.{runs_of, singles, SameCharacters}
use Rattle.per_codec_alphabets.proofs.Places.{one_kept, one_left, filter_more, filter_same, few_left, all_taken}
use Rattle.per_codec_alphabets.proofs.Sorting.{ascends_more, ascends_front}
use Rattle.per_codec_alphabets.proofs.runs.kept_runs.Goals.{then-contains_char+else-from-next+in_ok-push_character, else-contains_char}
use Rattle.per_codec_alphabets.proofs.runs.kept_runs.Goals as goal

pub loop-character-preserved : goal.loop-character-preserved
loop-character-preserved g c =
    let test = is_among (characters_of g.S.StaticPermittedAlphabet.kind) in
    let i = c.loop-character.character-index in
    let cs = c.args.characters.now in
    elim c.if-contains_char.branch [
      | then-contains_char+else-from-next+in_ok-push_character w ↦
          let more = filter_more test cs i _ c.loop-character-test.true refl (sym w.if-contains_char.ensures) in
          rw (w.runs-is, w.next-is) (record {
            same = one_kept test cs i _ (runs_of c.loop-character.runs.items) (runs_of w.push_character.new.runs.items) c.loop-character-test.true
                refl (sym w.if-contains_char.ensures) c.loop-character.invariant.same w.in_ok-push_character.ensures;
            ascending = rw (more, w.from-next.ensures) (ascends_more (filter test (take i cs)) c.loop-character.next _
                (omega (arith, w.from.ensures, w.if-from-next.false)) c.loop-character.invariant.ascending);
          })
      | else-contains_char w ↦
          let same = filter_same test cs i _ c.loop-character-test.true refl (sym w.if-contains_char.ensures) in
          rw (w.runs-is, w.next-is) (record {
            same = one_left test cs i _ (runs_of c.loop-character.runs.items) c.loop-character-test.true refl (sym w.if-contains_char.ensures) c.loop-character.invariant.same;
            ascending = rw same c.loop-character.invariant.ascending;
          })
    ]

pub returns-clause-few : goal.returns-clause-few
returns-clause-few g c =
    let test = is_among (characters_of g.S.StaticPermittedAlphabet.kind) in
    let cs = c.args.characters.now in
    let all : take c.loop-character.character-index cs ≡ cs = all_taken cs c.loop-character.character-index c.loop-character-test.false in
    let l = few_left test cs (runs_of c.loop-character.runs.items) (rw all at c.loop-character.invariant.same) in
    let fits : length cs < 2 ^ 63 = omega (arith, c.in_ok-runs.ensures.capacity, c.in_ok-runs.runs.small) in
    omega (arith, l, fits)

pub returns-clause-characters : goal.returns-clause-characters
returns-clause-characters g c =
    let test = is_among (characters_of g.S.StaticPermittedAlphabet.kind) in
    let cs = c.args.characters.now in
    let all : take c.loop-character.character-index cs ≡ cs = all_taken cs c.loop-character.character-index c.loop-character-test.false in
    let up : are_ascending ltb (filter test cs) ≡ true = ascends_front (filter test cs) c.loop-character.next
    (subst (λ l. are_ascending ltb (filter test l ++ c.loop-character.next ∷ []) ≡ true) all c.loop-character.invariant.ascending) in
    let order : sorted (filter test cs) ≡ filter test cs = ascending_order (filter test cs) up in
    subst (λ l. SameCharacters (runs_of c.loop-character.runs.items) (singles l)) (ap (filter test) all ∙ sym order) c.loop-character.invariant.same

use Rattle.std.proofs.Common.{◌≡◌, ◌<◌, ◌^◌, sym, refl, arith, take, length}
use Rattle.asn1_model.specs.Strings.{characters_of, is_among}
use Rattle.per_codec_alphabets.specs.Codes.{runs_of}
use Rattle.per_codec_alphabets.proofs.Places.{one_kept, one_left, few_left, all_taken}
use Rattle.per_codec_alphabets.proofs.runs.listed_runs.Goals.{then-contains_char+in_ok-push_character, else-contains_char}
use Rattle.per_codec_alphabets.proofs.runs.listed_runs.Goals as goal

pub loop-character-preserved : goal.loop-character-preserved
loop-character-preserved g c =
    let test = is_among (characters_of g.S.StaticPermittedAlphabet.kind) in
    let i = c.loop-character.character-index in
    let cs = c.args.characters.now in
    elim c.if-contains_char.branch [
      | then-contains_char+in_ok-push_character w ↦ rw w.runs-is (one_kept test cs i _ (runs_of c.loop-character.runs.items)
          (runs_of w.push_character.new.runs.items) c.loop-character-test.true refl (sym w.if-contains_char.ensures) c.loop-character.invariant w.in_ok-push_character.ensures)
      | else-contains_char w ↦ rw w.runs-is (one_left test cs i _ (runs_of c.loop-character.runs.items) c.loop-character-test.true refl (sym w.if-contains_char.ensures) c.loop-character.invariant)
    ]

pub returns-clause-few : goal.returns-clause-few
returns-clause-few g c =
    let test = is_among (characters_of g.S.StaticPermittedAlphabet.kind) in
    let cs = c.args.characters.now in
    let all : take c.loop-character.character-index cs ≡ cs = all_taken cs c.loop-character.character-index c.loop-character-test.false in
    let l = few_left test cs (runs_of c.loop-character.runs.items) (rw all at c.loop-character.invariant) in
    let fits : length cs < 2 ^ 63 = omega (arith, c.in_ok-runs.ensures.capacity, c.in_ok-runs.runs.small) in
    omega (arith, l, fits)

use Rattle.std.proofs.lemmas.List.Sorted.{searched}
use Rattle.asn1_values_alphabets.proofs.SingleRuns.{ascends, ascends-le}
use Rattle.asn1_values_alphabets.proofs.Coded.{found_place}
use Rattle.asn1_values_alphabets.proofs.alphabet.place_among.Goals as goal

pub returns : goal.returns
returns c =
    let a = ascends c.args.characters.now c.requires in
    let s = searched c.args.characters.now c.args.character c.binary_search.result c.binary_search.ensures.position (ascends-le c.args.characters.now c.requires) in
    rw c.ok.ensures.value (found_place c.args.characters.now c.args.character c.binary_search.result a s)

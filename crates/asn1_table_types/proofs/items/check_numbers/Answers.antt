use Rattle.std.proofs.Common.{ap, not}
use Rattle.std.proofs.lemmas.Bool.{and_from}
use Rattle.asn1_table_types.proofs.TagLaws.{told, told_false}
use Rattle.asn1_table_types.proofs.items.check_numbers.Goals as goal

pub returns-clause-sound : goal.returns-clause-sound
returns-clause-sound c =
    and_from _ _
    (and_from _ _ (and_from _ _ (and_from _ _ (ap not (told_false c.is_none.ensures c.if-is_none.false))
    (told c.is_marked.ensures c.if-not-is_marked.false)) (told c.are_ascending_items.ensures c.if-not-are_ascending_items.false))
    (told c.are_ascending_items-2.ensures c.if-not-are_ascending_items-2.false))
    (told c.in_ok-is_distinct.ensures c.if-not-is_distinct.false)

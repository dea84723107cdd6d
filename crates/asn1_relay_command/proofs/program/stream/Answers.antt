use Rattle.asn1_schema_constructed.specs.Recursive.{recursive_choice}
use Rattle.asn1_schema_constructed.specs.Tables.{alternatives_at, choice_type}
use Rattle.asn1_schema_laws.specs.Additions.{group_type}
use Rattle.asn1_schema_laws.specs.Tables.{scope, components_at, sequence_type, list_type, bag_type}
use Rattle.asn1_relay_command.proofs.program.stream.Goals as goal

pub returns-in-Pair : goal.returns-in-Pair
unfolding scope components_at sequence_type
returns-in-Pair g c = rw c.in-Pair.is c.stream_of-in-Pair.ensures

pub returns-in-Nulls : goal.returns-in-Nulls
unfolding scope list_type
returns-in-Nulls g c = rw c.in-Nulls.is c.stream_of-in-Nulls.ensures

pub returns-in-Set : goal.returns-in-Set
unfolding scope components_at
returns-in-Set g c = rw c.in-Set.is c.stream_of-in-Set.ensures

pub returns-in-Bag : goal.returns-in-Bag
unfolding scope bag_type
returns-in-Bag g c = rw c.in-Bag.is c.stream_of-in-Bag.ensures

pub returns-in-Nest : goal.returns-in-Nest
unfolding scope alternatives_at choice_type recursive_choice
returns-in-Nest g c = rw c.in-Nest.is c.stream_of-in-Nest.ensures

pub returns-in-New : goal.returns-in-New
unfolding scope components_at sequence_type
returns-in-New g c = rw c.in-New.is c.stream_of-in-New.ensures

pub returns-in-Old : goal.returns-in-Old
unfolding scope components_at sequence_type
returns-in-Old g c = rw c.in-Old.is c.stream_of-in-Old.ensures

pub returns-in-Group : goal.returns-in-Group
unfolding scope components_at sequence_type group_type
returns-in-Group g c = rw c.in-Group.is c.stream_of-in-Group.ensures

use Rattle.std.proofs.Common.{◌≡◌, slice_range}
use Rattle.per_codec_packing.specs.FieldLists.{as_field_list}
use Rattle.per_codec_writing.specs.Writing.{plus}
use Rattle.per_codec_writing.specs.Units.{together}
use Rattle.per_codec_writing.specs.Characters.{field_lists_of}
use Rattle.per_codec_writing.proofs.character_units.CharacterUnitsUnits.push_range.Given as goal

abbrev pub invariant-loop-place : goal.invariant-loop-place
invariant-loop-place g l =
    l.output ≡ plus l.initial.output (as_field_list (together (slice_range (field_lists_of l.self.alphabet.now (g.S.StaticPermittedAlphabet.characters l.self.string.now)) l.from l.place)))

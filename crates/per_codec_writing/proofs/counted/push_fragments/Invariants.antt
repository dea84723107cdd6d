use Rattle.std.proofs.Common.{◌≤◌, ◌-◌, length, drop}
use Rattle.per_codec_packing.specs.FieldLists.{field_list_at}
use Rattle.per_codec_writing.specs.Headings.{form_due, determinants_of, IsDue}
use Rattle.per_codec_writing.specs.Writing.{Packed, Adds, place}
use Rattle.per_codec_rules.specs.Variants.{is_aligned}
use Rattle.per_codec_writing.proofs.counted.push_fragments.Given as goal

abbrev pub invariant-loop-due : goal.invariant-loop-due
invariant-loop-due g l = record {
  within : l.from ≤ length (g.U.Units.forms l.units);
  due : IsDue (length (g.U.Units.forms l.units) - l.from) l.due;
  rest : (new : Packed) → Adds
      (field_list_at (form_due (is_aligned l.variant) l.due.units (determinants_of l.due.behind) (drop l.from (g.U.Units.forms l.units)))
      (place l.output)) l.output new →
      Adds (field_list_at (form_due (is_aligned l.variant) l.fn.first.units (determinants_of l.fn.first.behind) (g.U.Units.forms l.units)) (place l.fn.output)) l.fn.output new;
}

abbrev pub decreases-loop-due : goal.decreases-loop-due
decreases-loop-due g l = length (g.U.Units.forms l.units) - l.from

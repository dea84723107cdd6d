use Rattle.std.specs.Prelude.{FitsSigned, ◌<ℤ◌, ◌≤ℤ◌, ◌-ℤ◌}
use Rattle.std.specs.Int.{w128}
use Rattle.std.proofs.Common.{◌≡◌, ◌⊎◌, inl, inr, ℕ, pos, Fits, w64, rules, arith}
use Rattle.std.proofs.lemmas.Int.{ints, to_z-of_z}
use Rattle.asn1_model.specs.Per
use Rattle.per_codec_packing.specs.FieldLists.{field_list_at}
use Rattle.per_codec_writing.specs.Writing.{place}
use Rattle.per_codec_writing.proofs.NumberFieldLists.{did_same}
use Rattle.per_codec_writing.proofs.FormFieldLists.{offset, form_field_list, form_none}
use Rattle.per_codec_rules.specs.Variants.{is_aligned}
use Rattle.per_codec_writing.proofs.integer.push_in_form.Goals.{then-number-low-via-then-number-low, then-number-low-via-else-number-low+then-high-number}
use Rattle.per_codec_writing.proofs.integer.push_in_form.Goals as goal

pub returns-then-number-low : goal.returns-then-number-low
returns-then-number-low c =
    let number = c.ranges.number in
    let low : FitsSigned w128 c.low.result = search rules in
    let v = c.args.number in
    let form = c.args.form.now in
    let out : (v <ℤ form.low) ⊎ (form.high <ℤ v) = elim c.then-number-low.branch [
      | then-number-low-via-then-number-low w ↦ let l : v <ℤ c.low.result = grind (arith, ints, w.if-number-low.true) in inl (rw c.low.ensures at l)
      | then-number-low-via-else-number-low+then-high-number w ↦
          let high : FitsSigned w128 w.high.result = search rules in
          let l : w.high.result <ℤ v = grind (arith, ints, w.if-high-number.true) in
          inr (rw w.high.ensures at l)
    ] in
    form_none (is_aligned c.args.variant) form v (place c.args.output.now) out

-- the offset of a number that is between the bounds
offset_here : (c : goal.After-low-2) → (d : ℕ) × (c.args.number -ℤ c.args.form.now.low ≡ pos d) × FitsSigned w128 (pos d) × Fits w64 d
offset_here c =
    let number = c.ranges.number in
    let low : FitsSigned w128 c.low.result = search rules in
    let high : FitsSigned w128 c.high.result = search rules in
    let form = c.args.form.now in
    let l : c.low.result ≤ℤ c.args.number = grind (arith, ints, c.if-number-low.false) in
    let h : c.args.number ≤ℤ c.high.result = grind (arith, ints, c.if-high-number.false) in
    let o = offset form.low form.high c.args.number c.span-span.result (rw c.low.ensures at l) (rw c.high.ensures at h) c.span-span.ensures in
    let most = c.span-span.type_inv in
    let within = o.2 in
    (o.0, o.1, record { sfits = omega (arith, most, within) }, record { fits = omega (arith, most, within) })

pub overflow_sub-offset : goal.overflow_sub-offset
overflow_sub-offset c =
    let least : FitsSigned w128 c.low-2.result = search rules in
    let o = offset_here c in
    rw (to_z-of_z w128 c.args.number c.ranges.number, to_z-of_z w128 c.low-2.result least, c.low-2.ensures, o.1) o.2

pub overflow_cast-offset : goal.overflow_cast-offset
overflow_cast-offset c =
    let least : FitsSigned w128 c.low-2.result = search rules in
    let o = offset_here c in
    rw (to_z-of_z w128 c.args.number c.ranges.number, to_z-of_z w128 c.low-2.result least, c.low-2.ensures, o.1, to_z-of_z w128 (pos o.0) o.2) (tt, o.3)

pub returns : goal.returns
returns c =
    let number = c.ranges.number in
    let low : FitsSigned w128 c.low.result = search rules in
    let high : FitsSigned w128 c.high.result = search rules in
    let least : FitsSigned w128 c.low-2.result = search rules in
    let form = c.args.form.now in
    let v = c.args.number in
    let span = c.span-span.result in
    let al = is_aligned c.args.variant in
    let old = c.args.output.now in
    let l : c.low.result ≤ℤ v = grind (arith, ints, c.if-number-low.false) in
    let h : v ≤ℤ c.high.result = grind (arith, ints, c.if-high-number.false) in
    let l' = rw c.low.ensures at l in
    let h' = rw c.high.ensures at h in
    let o = offset form.low form.high v span l' h' c.span-span.ensures in
    let most = c.span-span.type_inv in
    let within = o.2 in
    let fits : FitsSigned w128 (pos o.0) = record { sfits = omega (arith, most, within) } in
    let done = rw (to_z-of_z w128 v number, to_z-of_z w128 c.low-2.result least, c.low-2.ensures, o.1, to_z-of_z w128 (pos o.0) fits) at c.push_offset.ensures in
    did_same c.push_offset.result _ (field_list_at (Per.constrained al span o.0) (place old)) old c.push_offset.new.output
    (form_field_list al form v span o.0 (place old) number l' h' c.span-span.ensures o.1) done

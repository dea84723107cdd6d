use Rattle.std.proofs.Common.{sym, subst}
use Rattle.std.proofs.lemmas.Result.{err_from_is_err_and}
use Rattle.asn1_schema_constraints.specs.Bounds.{counts_of}
use Rattle.asn1_schema_constraints.specs.Terms.{size_of}
use Rattle.per_codec_laws.specs.Sizes.{extension_bit, told_highest}
use Rattle.per_codec_laws.proofs.Fronts.{split}
use Rattle.per_codec_reading.specs.Fronts.{freedoms, is_aligned}
use Rattle.per_codec_reading.proofs.Fronts.{misses_also}
use Rattle.per_codec_reading.specs.Runs.{units_in, InOneRun}
use Rattle.per_codec_reading.specs.Headings.{contents_have_padding, determinant_form, heading_form, sized_units, units_by_length}
use Rattle.per_codec_reading.proofs.LastFronts.{lent_behind}
use Rattle.per_codec_reading.proofs.HeadingFronts.{in_one_run, bit_in_front}
use Rattle.per_codec_reading.proofs.SizedFronts.{sized_in, no_heading, no_units, not_admitted, not_outside}
use Rattle.per_codec_reading.proofs.sized.read_sized.Goals as goal

pub returns-in_err-heading-clause-only : goal.returns-in_err-heading-clause-only
returns-in_err-heading-clause-only c =
    let p = err_from_is_err_and c.from_residual.result c.from_residual.ensures.1 in
    let f = freedoms c.args.rules in
    let al = is_aligned c.args.rules in
    let z = size_of c.args.sizes in
    let h = counts_of c.args.held in
    let has_padding = contents_have_padding c.args.contents c.args.width in
    let a = c.args.cursor.now in
    rw (p.1, p.2) (misses_also f (heading_form al z) (sized_units al z h c.args.width has_padding) a a _ (no_heading f al z h c.args.width has_padding a) c.in_err-heading.ensures.only)

pub returns-in_err-run-clause-only : goal.returns-in_err-run-clause-only
returns-in_err-run-clause-only c =
    let p = err_from_is_err_and c.from_residual-in_err-run.result c.from_residual-in_err-run.ensures.1 in
    let f = freedoms c.args.rules in
    let al = is_aligned c.args.rules in
    let z = size_of c.args.sizes in
    let h = counts_of c.args.held in
    let w = c.args.width in
    let has_padding = contents_have_padding c.args.contents c.args.width in
    let heading = c.in_ok-heading.heading in
    let o = heading.is_outside in
    let a = c.args.cursor.now in
    let s = split f (extension_bit z.extensible o) (determinant_form al z.counts (told_highest o z.counts.high) heading.determinant) a c.read_heading.new.cursor c.in_ok-heading.ensures.ok in
    rw (p.1, p.2) (misses_also f (units_by_length al w has_padding z.counts (told_highest o z.counts.high)) (sized_units al z h w has_padding) s.0 a _
    (no_units f al z h w has_padding o a s.0 s.1) (c.in_err-run.ensures.only (told_highest o z.counts.high) s.0 s.2))

pub returns-then-not-is_admitted-clause-only : goal.returns-then-not-is_admitted-clause-only
returns-then-not-is_admitted-clause-only c =
    let f = freedoms c.args.rules in
    let al = is_aligned c.args.rules in
    let z = size_of c.args.sizes in
    let h = counts_of c.args.held in
    let w = c.args.width in
    let has_padding = contents_have_padding c.args.contents c.args.width in
    let heading = c.in_ok-heading.heading in
    let o = heading.is_outside in
    let us = units_in c.in_ok-run.run' in
    let a = c.args.cursor.now in
    let b = c.read_units.new.cursor in
    let s = split f (extension_bit z.extensible o) (determinant_form al z.counts (told_highest o z.counts.high) heading.determinant) a c.read_heading.new.cursor c.in_ok-heading.ensures.ok in
    not_admitted f al z h w has_padding us o a s.0 b s.1 (c.in_ok-run.ensures.ok (told_highest o z.counts.high) s.0 s.2) (sym c.if-not-is_admitted.ensures.counts)

pub returns-then-not-is_accepted_outside-clause-only : goal.returns-then-not-is_accepted_outside-clause-only
returns-then-not-is_accepted_outside-clause-only c =
    let f = freedoms c.args.rules in
    let al = is_aligned c.args.rules in
    let z = size_of c.args.sizes in
    let h = counts_of c.args.held in
    let w = c.args.width in
    let has_padding = contents_have_padding c.args.contents c.args.width in
    let heading = c.in_ok-heading.heading in
    let o = heading.is_outside in
    let us = units_in c.in_ok-run.run' in
    let a = c.args.cursor.now in
    let b = c.read_units.new.cursor in
    let s = split f (extension_bit z.extensible o) (determinant_form al z.counts (told_highest o z.counts.high) heading.determinant) a c.read_heading.new.cursor c.in_ok-heading.ensures.ok in
    not_outside f al z h w has_padding us o a s.0 b (sym c.if-not-is_accepted_outside.ensures) s.1 (c.in_ok-run.ensures.ok (told_highest o z.counts.high) s.0 s.2)

pub returns-clause-ok : goal.returns-clause-ok
returns-clause-ok c =
    let f = freedoms c.args.rules in
    let al = is_aligned c.args.rules in
    let z = size_of c.args.sizes in
    let h = counts_of c.args.held in
    let w = c.args.width in
    let has_padding = contents_have_padding c.args.contents c.args.width in
    let heading = c.in_ok-heading.heading in
    let o = heading.is_outside in
    let us = units_in c.in_ok-run.run' in
    let a = c.args.cursor.now in
    let b = c.read_units.new.cursor in
    let s = split f (extension_bit z.extensible o) (determinant_form al z.counts (told_highest o z.counts.high) heading.determinant) a c.read_heading.new.cursor c.in_ok-heading.ensures.ok in
    sized_in f al z h w has_padding us o a s.0 b (sym c.if-not-is_accepted_outside.ensures) s.1
    (c.in_ok-run.ensures.ok (told_highest o z.counts.high) s.0 s.2) (sym c.if-not-is_admitted.ensures.counts)

pub returns-clause-lent : goal.returns-clause-lent
returns-clause-lent c = λ one.
    let f = freedoms c.args.rules in
    let al = is_aligned c.args.rules in
    let z = size_of c.args.sizes in
    let heading = c.in_ok-heading.heading in
    let o = heading.is_outside in
    let us = c.in_ok-run.run' in
    let a = c.args.cursor.now in
    let m = c.read_heading.new.cursor in
    let s = split f (extension_bit z.extensible o) (determinant_form al z.counts (told_highest o z.counts.high) heading.determinant) a m c.in_ok-heading.ensures.ok in
    let told = subst (λ t. InOneRun (told_highest t z.counts.high) us.count) (bit_in_front f z.extensible o a s.0 s.1) one in
    c.in_ok-run.ensures.lent (in_one_run f al z.counts (told_highest o z.counts.high) heading.determinant us.count s.0 m s.2 told)

pub returns-clause-last : goal.returns-clause-last
returns-clause-last c = lent_behind (freedoms c.args.rules) _ c.in_ok-run.run'.bits c.args.cursor.now c.read_heading.new.cursor
    c.read_units.new.cursor c.in_ok-heading.ensures.ok c.in_ok-run.ensures.last

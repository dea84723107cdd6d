use Rattle.std.proofs.Common.{◌∙◌, refl, sym, ap, length, ◌-◌, Some, slice_get, arith}
use Rattle.asn1_schema_tags.specs.Tags.{tag_of}
use Rattle.asn1_schema_tags.proofs.Halves.{half_width, at_first, middle, upper_half, lower_half, entry, just_there, between, width_64}
use Rattle.asn1_schema_tags.proofs.PlainLookUp.{same_as_search}
use Rattle.asn1_schema_tags.proofs.finding.find_place.Goals as goal

-- src/finding.rt:23:5
pub loop-low-init : goal.loop-low-init
loop-low-init c = at_first _ _ _ _ refl c.requires.fresh c.len-high.ensures

-- src/finding.rt:25:15
pub compare-requires-clause-range : goal.compare-requires-clause-range
compare-requires-clause-range c =
    let s = c.loop-low.invariant in
    let t = ap length s.table in
    omega (arith, s.within, t, c.loop-low-test.true)

-- src/finding.rt:25:15
pub compare-requires-clause-room : goal.compare-requires-clause-room
compare-requires-clause-room c =
    let s = c.loop-low.invariant in
    let w = width_64 (length c.args.probe.now.places) (omega (arith, c.len-high.ensures, c.len-high.type_inv)) in
    omega (arith, s.few, w)

-- src/finding.rt:23:5
pub loop-low-preserved-in-Less : goal.loop-low-preserved-in-Less
loop-low-preserved-in-Less c =
    let s = c.loop-low.invariant in
    let ps = c.args.probe.now.places in
    let found = entry ps (middle c.loop-low.low c.loop-low.high) (omega (arith, s.within, c.loop-low-test.true)) in
    let here = ap (λ xs. slice_get xs (middle c.loop-low.low c.loop-low.high)) s.table ∙ found.1 in
    let less = (c.compare.ensures.less found.0 here).0 c.in-Less.is in
    upper_half ps (tag_of c.args.tag) c.loop-low.probe c.compare.new.self c.loop-low.low c.loop-low.high found.0 c.requires.ascending s
    c.loop-low-test.true c.compare.ensures.table c.compare.ensures.counted found.1 less

-- src/finding.rt:23:5
pub loop-low-preserved : goal.loop-low-preserved
loop-low-preserved c =
    let s = c.loop-low.invariant in
    let ps = c.args.probe.now.places in
    let found = entry ps (middle c.loop-low.low c.loop-low.high) (omega (arith, s.within, c.loop-low-test.true)) in
    let here = ap (λ xs. slice_get xs (middle c.loop-low.low c.loop-low.high)) s.table ∙ found.1 in
    let less = (c.compare.ensures.greater found.0 here).0 c.in-Greater.is in
    lower_half ps (tag_of c.args.tag) c.loop-low.probe c.compare.new.self c.loop-low.low c.loop-low.high found.0 c.requires.ascending s
    c.loop-low-test.true c.compare.ensures.table c.compare.ensures.counted found.1 less

-- src/finding.rt:28:44
pub place_at-requires : goal.place_at-requires
place_at-requires c =
    let s = c.loop-low.invariant in
    let t = ap length (c.compare.ensures.table ∙ s.table) in
    omega (arith, s.within, t, c.loop-low-test.true)

-- src/finding.rt:28:32
pub returns-in-Equal-clause-place : goal.returns-in-Equal-clause-place
returns-in-Equal-clause-place c =
    let s = c.loop-low.invariant in
    let ps = c.args.probe.now.places in
    let found = entry ps (middle c.loop-low.low c.loop-low.high) (omega (arith, s.within, c.loop-low-test.true)) in
    let here = ap (λ xs. slice_get xs (middle c.loop-low.low c.loop-low.high)) s.table ∙ found.1 in
    let same = (c.compare.ensures.equal found.0 here).0 c.in-Equal.is in
    let place = c.place_at.ensures found.0 (ap (λ xs. slice_get xs (middle c.loop-low.low c.loop-low.high)) c.compare.ensures.table ∙ here) in
    (ap Some place ∙ sym (just_there ps (middle c.loop-low.low c.loop-low.high) found.0 (tag_of c.args.tag) c.requires.ascending found.1 (ap tag_of same)))

-- src/finding.rt:28:32
pub returns-in-Equal-clause-plain : goal.returns-in-Equal-clause-plain
returns-in-Equal-clause-plain c =
    let s = c.loop-low.invariant in
    let ps = c.args.probe.now.places in
    let found = entry ps (middle c.loop-low.low c.loop-low.high) (omega (arith, s.within, c.loop-low-test.true)) in
    let here = ap (λ xs. slice_get xs (middle c.loop-low.low c.loop-low.high)) s.table ∙ found.1 in
    let same = (c.compare.ensures.equal found.0 here).0 c.in-Equal.is in
    let place = c.place_at.ensures found.0 (ap (λ xs. slice_get xs (middle c.loop-low.low c.loop-low.high)) c.compare.ensures.table ∙ here) in
    (λ ts h. (ap Some place ∙ sym (just_there ps (middle c.loop-low.low c.loop-low.high) found.0 (tag_of c.args.tag)
    c.requires.ascending found.1 (ap tag_of same))) ∙ same_as_search ps (tag_of c.args.tag) ts h)

-- src/finding.rt:28:32
pub returns-in-Equal-clause-table : goal.returns-in-Equal-clause-table
returns-in-Equal-clause-table c = c.compare.ensures.table ∙ c.loop-low.invariant.table

-- src/finding.rt:28:32
pub returns-in-Equal-clause-few : goal.returns-in-Equal-clause-few
returns-in-Equal-clause-few c =
    let s = c.loop-low.invariant in
    let less = half_width (c.loop-low.high - c.loop-low.low) 0 (omega (arith, c.loop-low-test.true)) (omega arith) in
    omega (arith, less, s.few, c.compare.ensures.counted)

-- src/finding.rt:13:1
pub returns-clause-place : goal.returns-clause-place
returns-clause-place c =
    sym (between c.args.probe.now.places (tag_of c.args.tag) c.loop-low.low c.loop-low.high (omega (arith, c.loop-low-test.false)) c.loop-low.invariant.before c.loop-low.invariant.behind)

-- src/finding.rt:13:1
pub returns-clause-plain : goal.returns-clause-plain
returns-clause-plain c =
    λ ts h. sym (between c.args.probe.now.places (tag_of c.args.tag) c.loop-low.low c.loop-low.high
    (omega (arith, c.loop-low-test.false)) c.loop-low.invariant.before c.loop-low.invariant.behind) ∙ same_as_search c.args.probe.now.places (tag_of c.args.tag) ts h

-- src/finding.rt:13:1
pub returns-clause-table : goal.returns-clause-table
returns-clause-table c = c.loop-low.invariant.table

-- src/finding.rt:13:1
pub returns-clause-few : goal.returns-clause-few
returns-clause-few c = let s = c.loop-low.invariant in omega (arith, s.few)

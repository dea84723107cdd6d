use Rattle.std.proofs.Common.{length, refl}
use Rattle.per_codec_reading_values.proofs.IndexFronts.{added_count, none_added}
use Rattle.per_codec_reading_values.proofs.enumerated.added_count.Goals as goal

pub returns-in-Some : goal.returns-in-Some
returns-in-Some g c =
    let e = g.I.EnumerationItems in
    added_count e.number c.in-Some.added.now (length c.in-Some.added.now) (e.extensible c.args.items.now) (e.additions c.args.items.now) refl c.in-Some.ensures

pub returns-in-None : goal.returns-in-None
returns-in-None g c =
    let e = g.I.EnumerationItems in
    none_added (e.extensible c.args.items.now) (e.additions c.args.items.now) c.in-None.ensures

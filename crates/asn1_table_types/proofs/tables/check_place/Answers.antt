use Rattle.std.proofs.Common.{◌∙◌, ap, length, refl, sym, subst}
use Rattle.std.proofs.lemmas.Option.{slice_get_read}
use Rattle.asn1_table_nodes.specs.Reduced.{has_reduced_defaults}
use Rattle.asn1_table_types.proofs.NormalDefaults.{refused_untidy}
use Rattle.asn1_table_types.specs.declared.faults.TableError.{TableError}
use Rattle.asn1_table_types.specs.Tables.{IsRefused}
use Rattle.asn1_table_types.proofs.Unlawful.{refused_whole}
use Rattle.asn1_table_types.proofs.tables.check_place.Goals as goal

pub returns-in-Err-clause-refused : goal.returns-in-Err-clause-refused
returns-in-Err-clause-refused c =
    let P : TableError → Type 0 = λ e. IsRefused c.args.nodes.now e in
    subst P (sym c.refused_at.ensures)
    (refused_whole c.args.nodes.now c.args.place c.in-Some.node.now c.in-Err.refusal c.in-Some.ensures.lookup.3.0 c.in-Some.ensures.lookup.3.1 c.in-Err.ensures.lacking)

pub returns-clause-reduced : goal.returns-clause-reduced
returns-clause-reduced c =
    let ns = c.args.nodes.now in
    let x = c.in-Some.node.now in
    let q = slice_get_read ns (length ns) c.args.place x refl c.in-Some.ensures.lookup.3.0 (c.in-Some.ensures.lookup.3.1 x) in
    ap (λ o. has_reduced_defaults ns o) q ∙ sym c.has_reduced_defaults.ensures ∙ c.if-not-has_reduced_defaults.false

pub returns-then-not-has_reduced_defaults-clause-refused : goal.returns-then-not-has_reduced_defaults-clause-refused
returns-then-not-has_reduced_defaults-clause-refused c =
    let ns = c.args.nodes.now in
    let x = c.in-Some.node.now in
    let q = slice_get_read ns (length ns) c.args.place x refl c.in-Some.ensures.lookup.3.0 (c.in-Some.ensures.lookup.3.1 x) in
    refused_untidy ns c.args.place c.in-Some.ensures.lookup.3.0 x q (sym c.has_reduced_defaults.ensures ∙ c.if-not-has_reduced_defaults.true)

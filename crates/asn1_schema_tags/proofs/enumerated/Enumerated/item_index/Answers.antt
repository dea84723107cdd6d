use Rattle.std.proofs.Common.{◌≡◌, ◌∙◌, w64, true, None}
use Rattle.std.proofs.lemmas.Int.{to_z-of_z}
use Rattle.asn1_model.specs.Normal.{item_index}
use Rattle.asn1_schema_tags.proofs.ItemIndexes.{missed, nowhere}
use Rattle.asn1_schema_tags.proofs.enumerated.Enumerated.item_index.Goals as goal
use Rattle.asn1_schema_tags.proofs.enumerated.Enumerated.item_index.Goals.{in-Some-extended_variants+in_default-place_of, in_default-extended_variants}

pub unreachable-requires : goal.unreachable-requires
unreachable-requires g c =
    let e = g.Self.Enumerated in
    let x = c.args.self.now in
    let l = g.met.Self.Enumerated.listed x in
    let n = to_z-of_z w64 c.discriminant-number.result (record { sfits = c.discriminant-number.type_inv }) ∙ c.discriminant-number.ensures in
    let k : e.extensible ≡ true → item_index (e.number x) e.additions ≡ None = elim c.match-extended_variants.branch [
      | in-Some-extended_variants+in_default-place_of w ↦ λ t. missed _ _ _ _ _ w.in_default-place_of.is w.place_of-in-Some-extended_variants.ensures n w.in-Some-extended_variants.ensures.1
      | in_default-extended_variants w ↦ λ t. let z = w.in_default-extended_variants.ensures in cc
    ] in
    nowhere e.roots e.extensible e.additions (e.number x) l.0 l.1 l.2 (missed _ _ _ _ _ c.in_default.is c.place_of.ensures n c.variants.ensures) k

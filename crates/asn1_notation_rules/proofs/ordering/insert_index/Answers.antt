use Rattle.std.proofs.Common.{◌≡◌, ℕ, ◌<◌, false, length, get_or, ap, sym, subst, ◌∙◌, arith}
use Rattle.std.specs.Prelude.{All, insert}
use Rattle.std.specs.List.{prefix_len}
use Rattle.asn1_model.specs.Lawful.{tag_same}
use Rattle.asn1_schema_tags.specs.Tags.{tag_of}
use Rattle.std.proofs.lemmas.List.{get_or_default}
use Rattle.std.proofs.lemmas.Option.{get_or_from_slice_get}
use Rattle.std.proofs.lemmas.List.Sums.{prefix_len-le-length}
use Rattle.asn1_notation_rules.specs.Ordering.{comes_before, key_at}
use Rattle.asn1_notation_rules.proofs.Rows.{order_more, order_read, order_same, order_within, tag_within}
use Rattle.asn1_notation_rules.proofs.ordering.insert_index.Goals.{then-place-len+else-is_tag_at, else-place-len}
use Rattle.asn1_notation_rules.proofs.ordering.insert_index.Goals as goal

pub place_of-place-requires : goal.place_of-place-requires
place_of-place-requires c =
    let within = tag_within c.args.tags.now c.args.index c.args.tag c.requires.tag in
    subst (λ o. All (λ i. i < length c.args.tags.now) o) (sym c.as_slice.ensures.value)
    (order_within c.args.tags.now c.args.index c.args.order.now.items c.requires.order (omega (arith, within)))

pub is_tag_at-requires : goal.is_tag_at-requires
is_tag_at-requires c =
    let within = tag_within c.args.tags.now c.args.index c.args.tag c.requires.tag in
    let inside : c.place_of-place.result < length c.args.order.now.items = omega (arith, ap length c.as_slice.ensures.value, c.as_slice.ensures.len) in
    let below = order_read c.args.tags.now c.args.index c.args.order.now.items c.place_of-place.result c.index-first.result.now c.requires.order inside c.index-first.ensures in
    omega (arith, within, below)

pub insert-requires : goal.insert-requires
insert-requires c =
    omega (arith, prefix_len-le-length (comes_before c.args.tags.now c.args.tag) c.as_slice.result.now, c.as_slice.ensures.len, c.place_of-place.ensures)

pub returns-then-is_tag_at-clause-refused : goal.returns-then-is_tag_at-clause-refused
returns-then-is_tag_at-clause-refused c =
    let within = tag_within c.args.tags.now c.args.index c.args.tag c.requires.tag in
    let inside : c.place_of-place.result < length c.args.order.now.items = omega (arith, ap length c.as_slice.ensures.value, c.as_slice.ensures.len) in (
      order_read c.args.tags.now c.args.index c.args.order.now.items c.place_of-place.result c.index-first.result.now c.requires.order inside c.index-first.ensures,
      within,
      order_same c.args.tags.now c.index-first.result.now c.args.index c.args.tag (c.is_tag_at.ensures.same c.if-is_tag_at.true) c.requires.tag,
    )

pub returns-clause-order : goal.returns-clause-order
returns-clause-order c =
    let tags = c.args.tags.now in
    let tag = c.args.tag in
    let order = c.args.order.now.items in
    let place = c.place_of-place.result in
    let within = tag_within tags c.args.index tag c.requires.tag in
    let inserted : c.insert.new.self.items ≡ insert order place c.args.index = c.in_ok-insert.ensures.items in
    let differs : (d : ℕ) → place < length order → tag_same (key_at tags tag (get_or order place d)) (tag_of tag) ≡ false =
    elim c.if-place-len.branch [
      | then-place-len+else-is_tag_at w ↦ λ d l.
          ap (λ i. tag_same (key_at tags tag i) (tag_of tag)) (get_or_default order place d w.index-first.result.now l ∙ sym w.index-first.ensures)
          ∙ sym w.is_tag_at.ensures.value
          ∙ w.if-is_tag_at.false
      | else-place-len w ↦ λ d l. absurd (omega (arith, ap length c.as_slice.ensures.value, c.as_slice.ensures.len))
    ] in
    order_more tags c.args.index place order c.insert.new.self.items tag c.requires.order within (sym (get_or_from_slice_get tags c.args.index tag tag c.requires.tag))
    (c.place_of-place.ensures ∙ ap (prefix_len (comes_before tags tag)) c.as_slice.ensures.value) inserted differs

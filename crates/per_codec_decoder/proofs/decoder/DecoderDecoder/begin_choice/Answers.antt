use Rattle.std.proofs.Common.{◌∙◌, ap, sym, subst, length, refl}
use Rattle.asn1_schema_laws.proofs.Joined.{raised}
use Rattle.per_codec_laws.specs.Takes.{Front}
use Rattle.per_codec_reading.specs.Fronts.{freedoms, is_aligned, Misses}
use Rattle.asn1_laws_fronts.proofs.PerNumbers.{length_of_map}
use Rattle.asn1_schema_tags.specs.Tags.{tag_of}
use Rattle.asn1_schema_tags.specs.declared.chosen.Chosen.{Chosen}
use Rattle.per_codec_reading_values.specs.Indices.{index_form}
use Rattle.per_codec_held_laws.specs.Held.{Held}
use Rattle.per_codec_decoder.proofs.Settling.{ok_of, err_of, moves_there, now_ready}
use Rattle.per_codec_decoder.proofs.Opening.{no_place, type_begun, alternative_begun, place_within}
use Rattle.per_codec_decoder.proofs.Lacking.{choice_lacking}
use Rattle.per_codec_decoder.proofs.Refused.{still_none_in}
use Rattle.per_codec_decoder.proofs.decoder.DecoderDecoder.begin_choice.Goals as goal

pub returns-in_err-chosen-clause-only : goal.returns-in_err-chosen-clause-only
returns-in_err-chosen-clause-only c = rw (sym c.extensible-extensible.ensures)
    (raised _ _ _ c.from_residual-in_err-chosen.ensures.1 (still_none_in c.in_err-chosen.ensures.owed
    (no_place _ _ c.args.tables.now.roots c.extensible-extensible.result c.args.tables.now.additions (length c.roots-root_count.result.now)
    (length c.additions-added_count.result.now) c.cursor-cursor.result c.in_err-chosen.field-0.0 c.self.view_is
    (sym (length_of_map tag_of c.roots-root_count.result.now) ∙ ap length c.roots-root_count.ensures)
    (sym (length_of_map tag_of c.additions-added_count.result.now) ∙ ap length c.additions-added_count.ensures) c.cursor-cursor.ensures
    (err_of (λ e. Misses (freedoms c.self.inside.rules) (index_form (is_aligned c.self.inside.rules) (length c.roots-root_count.result.now)
    c.extensible-extensible.result (length c.additions-added_count.result.now)) c.cursor-cursor.result e) c.read_alternative_index-answer.result
    c.in_err-chosen.field-0.0 c.in_err-chosen.ensures.same c.read_alternative_index-answer.ensures.only))))

pub returns-in_err-open_type-clause-only : goal.returns-in_err-open_type-clause-only
returns-in_err-open_type-clause-only c = rw (sym c.extensible-extensible.ensures)
    (raised _ _ _ c.from_residual-in_err-open_type.ensures.1 (choice_lacking c.args.self.now c.settle.new.self c.open_type.new.self
    c.args.tables.now.roots c.extensible-extensible.result c.args.tables.now.additions (length c.roots-root_count.result.now)
    (length c.additions-added_count.result.now) c.in_ok-chosen.chosen c.cursor-cursor.result c.read_alternative_index-answer.new.cursor
    (sym (length_of_map tag_of c.roots-root_count.result.now) ∙ ap length c.roots-root_count.ensures)
    (sym (length_of_map tag_of c.additions-added_count.result.now) ∙ ap length c.additions-added_count.ensures)
    (c.cursor-cursor.ensures ∙ ap (λ (h : Held). h.place) c.self.view_is) c.if-chosen.true
    (subst (λ (h : Held). Front (freedoms h.rules) (index_form (is_aligned h.rules) (length c.roots-root_count.result.now)
    c.extensible-extensible.result (length c.additions-added_count.result.now) c.in_ok-chosen.chosen) c.cursor-cursor.result
    c.read_alternative_index-answer.new.cursor) c.self.view_is
    (ok_of (λ (p : Chosen). Front (freedoms c.self.inside.rules)
    (index_form (is_aligned c.self.inside.rules) (length c.roots-root_count.result.now) c.extensible-extensible.result
    (length c.additions-added_count.result.now) p) c.cursor-cursor.result c.read_alternative_index-answer.new.cursor)
    c.read_alternative_index-answer.result c.in_ok-chosen.chosen c.in_ok-chosen.ensures.same c.read_alternative_index-answer.ensures.ok))
    (moves_there c.args.self.now c.settle.new.self (freedoms c.args.self.now.rules)
    (index_form (is_aligned c.args.self.now.rules) (length c.roots-root_count.result.now) c.extensible-extensible.result
    (length c.additions-added_count.result.now) c.in_ok-chosen.chosen) c.cursor-cursor.result c.read_alternative_index-answer.new.cursor
    c.position-position.result (c.cursor-cursor.ensures ∙ ap (λ (h : Held). h.place) c.self.view_is) c.position-position.ensures
    (subst (λ (h : Held). Front (freedoms h.rules) (index_form (is_aligned h.rules) (length c.roots-root_count.result.now)
    c.extensible-extensible.result (length c.additions-added_count.result.now) c.in_ok-chosen.chosen) c.cursor-cursor.result
    c.read_alternative_index-answer.new.cursor) c.self.view_is
    (ok_of (λ (p : Chosen). Front (freedoms c.self.inside.rules)
    (index_form (is_aligned c.self.inside.rules) (length c.roots-root_count.result.now) c.extensible-extensible.result
    (length c.additions-added_count.result.now) p) c.cursor-cursor.result c.read_alternative_index-answer.new.cursor)
    c.read_alternative_index-answer.result c.in_ok-chosen.chosen c.in_ok-chosen.ensures.same c.read_alternative_index-answer.ensures.ok))
    c.in_ok-chosen.ensures.moved) c.in_err-open_type.ensures.only c.in_err-open_type.ensures.short))

pub returns-then-chosen-clause-ok : goal.returns-then-chosen-clause-ok
returns-then-chosen-clause-ok c = rw (sym c.extensible-extensible.ensures)
    (type_begun _ c.args.self.now c.settle.new.self c.open_type.new.self _ c.args.tables.now.roots c.extensible-extensible.result
    c.args.tables.now.additions (length c.roots-root_count.result.now) (length c.additions-added_count.result.now) c.in_ok-chosen.chosen
    c.cursor-cursor.result c.read_alternative_index-answer.new.cursor c.position-position.result refl
    (now_ready _ _ c.self.view_is (sym c.is_some.ensures ∙ c.in_ok-go_on.ensures.ok)) (sym (length_of_map tag_of c.roots-root_count.result.now) ∙
    ap length c.roots-root_count.ensures) (sym (length_of_map tag_of c.additions-added_count.result.now) ∙ ap length c.additions-added_count.ensures)
    (c.cursor-cursor.ensures ∙ ap (λ (h : Held). h.place) c.self.view_is) c.position-position.ensures c.if-chosen.true
    (subst (λ (h : Held). Front (freedoms h.rules) (index_form (is_aligned h.rules) (length c.roots-root_count.result.now)
    c.extensible-extensible.result (length c.additions-added_count.result.now) c.in_ok-chosen.chosen) c.cursor-cursor.result
    c.read_alternative_index-answer.new.cursor) c.self.view_is
    (ok_of (λ (p : Chosen). Front (freedoms c.self.inside.rules)
    (index_form (is_aligned c.self.inside.rules) (length c.roots-root_count.result.now) c.extensible-extensible.result
    (length c.additions-added_count.result.now) p) c.cursor-cursor.result c.read_alternative_index-answer.new.cursor)
    c.read_alternative_index-answer.result c.in_ok-chosen.chosen c.in_ok-chosen.ensures.same c.read_alternative_index-answer.ensures.ok))
    c.in_ok-chosen.ensures.moved c.in_ok-open_type.ensures.ok c.descend.ensures.levels c.descend.ensures.same)

pub returns-then-chosen-clause-within : goal.returns-then-chosen-clause-within
returns-then-chosen-clause-within c = place_within (freedoms c.self.inside.rules) (is_aligned c.self.inside.rules) c.args.tables.now.roots
    c.extensible-extensible.result c.args.tables.now.additions (length c.roots-root_count.result.now) (length c.additions-added_count.result.now)
    c.in_ok-chosen.chosen c.cursor-cursor.result c.read_alternative_index-answer.new.cursor
    (sym (length_of_map tag_of c.roots-root_count.result.now) ∙ ap length c.roots-root_count.ensures)
    (sym (length_of_map tag_of c.additions-added_count.result.now) ∙ ap length c.additions-added_count.ensures)
    (ok_of (λ (p : Chosen). Front (freedoms c.self.inside.rules)
    (index_form (is_aligned c.self.inside.rules) (length c.roots-root_count.result.now) c.extensible-extensible.result
    (length c.additions-added_count.result.now) p) c.cursor-cursor.result c.read_alternative_index-answer.new.cursor)
    c.read_alternative_index-answer.result c.in_ok-chosen.chosen c.in_ok-chosen.ensures.same c.read_alternative_index-answer.ensures.ok)

pub returns-clause-ok : goal.returns-clause-ok
returns-clause-ok c = rw (sym c.extensible-extensible.ensures)
    (alternative_begun _ c.args.self.now c.settle.new.self _ c.args.tables.now.roots c.extensible-extensible.result c.args.tables.now.additions
    (length c.roots-root_count.result.now) (length c.additions-added_count.result.now) c.in_ok-chosen.chosen c.cursor-cursor.result
    c.read_alternative_index-answer.new.cursor c.position-position.result refl
    (now_ready _ _ c.self.view_is (sym c.is_some.ensures ∙ c.in_ok-go_on.ensures.ok)) (sym (length_of_map tag_of c.roots-root_count.result.now) ∙
    ap length c.roots-root_count.ensures) (sym (length_of_map tag_of c.additions-added_count.result.now) ∙ ap length c.additions-added_count.ensures)
    (c.cursor-cursor.ensures ∙ ap (λ (h : Held). h.place) c.self.view_is) c.position-position.ensures c.if-chosen.false
    (subst (λ (h : Held). Front (freedoms h.rules) (index_form (is_aligned h.rules) (length c.roots-root_count.result.now)
    c.extensible-extensible.result (length c.additions-added_count.result.now) c.in_ok-chosen.chosen) c.cursor-cursor.result
    c.read_alternative_index-answer.new.cursor) c.self.view_is
    (ok_of (λ (p : Chosen). Front (freedoms c.self.inside.rules)
    (index_form (is_aligned c.self.inside.rules) (length c.roots-root_count.result.now) c.extensible-extensible.result
    (length c.additions-added_count.result.now) p) c.cursor-cursor.result c.read_alternative_index-answer.new.cursor)
    c.read_alternative_index-answer.result c.in_ok-chosen.chosen c.in_ok-chosen.ensures.same c.read_alternative_index-answer.ensures.ok))
    c.in_ok-chosen.ensures.moved c.in_ok-enter_alternative.ensures.levels c.in_ok-enter_alternative.ensures.scopes)

pub returns-clause-within : goal.returns-clause-within
returns-clause-within c = place_within (freedoms c.self.inside.rules) (is_aligned c.self.inside.rules) c.args.tables.now.roots
    c.extensible-extensible.result c.args.tables.now.additions (length c.roots-root_count.result.now) (length c.additions-added_count.result.now)
    c.in_ok-chosen.chosen c.cursor-cursor.result c.read_alternative_index-answer.new.cursor
    (sym (length_of_map tag_of c.roots-root_count.result.now) ∙ ap length c.roots-root_count.ensures)
    (sym (length_of_map tag_of c.additions-added_count.result.now) ∙ ap length c.additions-added_count.ensures)
    (ok_of (λ (p : Chosen). Front (freedoms c.self.inside.rules)
    (index_form (is_aligned c.self.inside.rules) (length c.roots-root_count.result.now) c.extensible-extensible.result
    (length c.additions-added_count.result.now) p) c.cursor-cursor.result c.read_alternative_index-answer.new.cursor)
    c.read_alternative_index-answer.result c.in_ok-chosen.chosen c.in_ok-chosen.ensures.same c.read_alternative_index-answer.ensures.ok)

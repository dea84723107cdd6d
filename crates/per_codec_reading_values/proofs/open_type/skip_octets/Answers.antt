use Rattle.std.proofs.Common.{sym, subst}
use Rattle.asn1_schema_laws.proofs.Joined.{raised}
use Rattle.per_codec_reading.specs.Fronts.{freedoms, is_aligned}
use Rattle.per_codec_reading.proofs.Fronts.{misses_also}
use Rattle.per_codec_reading.specs.Units.{counted_units, piece_form}
use Rattle.per_codec_reading_values.specs.Fields.{HasPiece}
use Rattle.per_codec_reading_values.proofs.Passing.{passed_none, passed_more, passed_last, passed_stop, passed_refused, piece_shortens}
use Rattle.per_codec_reading_values.proofs.open_type.skip_octets.Goals as goal

pub returns-in_err-length-clause-only : goal.returns-in_err-length-clause-only
returns-in_err-length-clause-only c = raised _ _ _ c.from_residual.ensures.1
    (misses_also (freedoms c.args.rules) (piece_form (is_aligned c.args.rules) 8) (counted_units (is_aligned c.args.rules) 8) c.fragments.cursor
    c.args.cursor.now _ (passed_stop (freedoms c.args.rules) (is_aligned c.args.rules) c.fragments.last c.args.cursor.now c.fragments.cursor c.fragments.invariant) c.in_err-length.ensures.only)

pub returns-then-not-may_follow-clause-only : goal.returns-then-not-may_follow-clause-only
returns-then-not-may_follow-clause-only c = passed_refused (freedoms c.args.rules) (is_aligned c.args.rules) c.fragments.last c.in_ok-length.length
    c.args.cursor.now c.fragments.cursor c.skip_piece.new.cursor (sym c.if-not-may_follow.ensures) c.fragments.invariant c.in_ok-length.ensures.ok

pub returns-in-Short-clause-ok : goal.returns-in-Short-clause-ok
returns-in-Short-clause-ok c = passed_last (freedoms c.args.rules) (is_aligned c.args.rules) c.fragments.last c.in-Short.field-0 c.args.cursor.now
    c.fragments.cursor c.skip_piece.new.cursor c.fragments.invariant
    (subst (λ l. HasPiece (freedoms c.args.rules) (is_aligned c.args.rules) l c.fragments.cursor c.skip_piece.new.cursor) c.in-Short.is c.in_ok-length.ensures.ok)

pub fragments-smaller : goal.fragments-smaller
fragments-smaller c = piece_shortens (freedoms c.args.rules) (is_aligned c.args.rules) c.in-Fragment.multiple c.fragments.cursor
    c.skip_piece.new.cursor (subst (λ l. HasPiece (freedoms c.args.rules) (is_aligned c.args.rules) l c.fragments.cursor c.skip_piece.new.cursor) c.in-Fragment.is c.in_ok-length.ensures.ok)

pub fragments-preserved : goal.fragments-preserved
fragments-preserved c = passed_more (freedoms c.args.rules) (is_aligned c.args.rules) c.fragments.last c.in-Fragment.multiple c.in_ok-length.length
    c.args.cursor.now c.fragments.cursor c.skip_piece.new.cursor c.in-Fragment.is (sym c.if-not-may_follow.ensures) c.fragments.invariant c.in_ok-length.ensures.ok

pub fragments-init : goal.fragments-init
fragments-init c = passed_none (freedoms c.args.rules) (is_aligned c.args.rules) c.args.cursor.now

use Rattle.std.proofs.Common.{List, take, arith, ap, sym, ◌∷◌, refl}
use Rattle.oer_codec_encoder.proofs.EndScopes.{small_within, small_ends}
use Rattle.asn1_model.specs.Versions.{Begins}
use Rattle.oer_codec_encoder.specs.Frames.{frame_of}
use Rattle.oer_codec_encoder.specs.EarlierOctets.{Keeps}
use Rattle.oer_codec_encoder.specs.declared.frame.Frame.{Frame}
use Rattle.std.proofs.lemmas.Result.{on_err_weaker}
use Rattle.asn1_values_identifiers.proofs.Begins.{begins_same}
use Rattle.oer_codec_encoder.proofs.EarlierOctets.{keeps_ground, keeps_room}
use Rattle.oer_codec_encoder.proofs.Going.{ground_small}
use Rattle.oer_codec_encoder.proofs.ends.end_small.Goals as goal

pub insert_length-requires : goal.insert_length-requires
insert_length-requires c =
    let l = small_within c.args.small c.in-OpenType.start c.args.octets.now.items c.requires c.in-OpenType.is in
    omega (arith, l, c.args.octets.now.ok.0)

pub returns-in-OpenType-clause-step : goal.returns-in-OpenType-clause-step
returns-in-OpenType-clause-step c = small_ends c.args.small c.in-OpenType.start c.args.octets.now.items c.insert_length.new.octets.items
    c.insert_length.result c.in-OpenType.is c.insert_length.ensures.text

pub returns-in-OpenType-clause-kept : goal.returns-in-OpenType-clause-kept
returns-in-OpenType-clause-kept c =
    let o = c.args.octets.now.items in
    let p = c.insert_length.new.octets.items in
    let left : Begins (take c.in-OpenType.start o) p → (k : List Frame) → Keeps (frame_of c.args.small ∷ k) o k p = λ b k.
    keeps_room (frame_of c.args.small ∷ k) k k o p c.in-OpenType.start (ap (λ e. frame_of e ∷ k) c.in-OpenType.is) refl b in
    on_err_weaker c.insert_length.result left c.insert_length.ensures.kept

pub returns-in-Members-clause-kept : goal.returns-in-Members-clause-kept
returns-in-Members-clause-kept c k =
    let o = c.args.octets.now.items in
    keeps_ground (frame_of c.args.small ∷ k) k o o (begins_same _ _ (sym (ground_small c.args.small k o)))

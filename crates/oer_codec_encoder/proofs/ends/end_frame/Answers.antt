use Rattle.std.proofs.Common.{rules, sym, ◌≡◌, List, take, MatchResult, subst, arith, ap, ◌∙◌, ◌∷◌, refl}
use Rattle.oer_codec_encoder.specs.declared.frame.Bag.{Bag}
use Rattle.oer_codec_encoder.specs.Frames.{NoEnd}
use Rattle.oer_codec_encoder.specs.Holding.{BagEnds}
use Rattle.oer_codec_encoder.proofs.BagScopes.{bag_ends}
use Rattle.oer_codec_encoder.proofs.EndScopes.{components_end, open_frame_within, open_frame_ends, added_frame_within, added_frame_ends}
use Rattle.asn1_model.specs.Versions.{Begins}
use Rattle.oer_codec_encoder.specs.EarlierOctets.{Keeps}
use Rattle.oer_codec_encoder.specs.declared.frame.Frame.{Frame}
use Rattle.oer_codec_encoder.specs.declared.frame.Frame.TheVariants.{Added, OpenType, Bag as BagOpen}
use Rattle.std.specs.Box.{with_value}
use Rattle.oer_codec_encoder.proofs.EarlierOctets.{keeps_bag, keeps_room, keeps_same}
use Rattle.std.proofs.lemmas.Result.{on_err_weaker}
use Rattle.oer_codec_encoder.proofs.ends.end_frame.Goals as goal
use Rattle.oer_codec_encoder.proofs.ends.end_frame.Goals.{then-preamble-via-then-preamble, then-preamble-via-else-preamble+then-preamble-gt0}

pub returns-else-preamble-gt0-clause-step : goal.returns-else-preamble-gt0-clause-step
returns-else-preamble-gt0-clause-step c =
    let f = c.in-Components in
    components_end c.args.frame.now f.preamble c.args.octets.now.items f.is c.if-preamble.false (omega (arith, c.if-preamble-gt0.false))

pub end_added-requires : goal.end_added-requires
end_added-requires c =
    let f = c.in-Added in
    let l = added_frame_within c.args.frame.now f.additions c.args.octets.now.items c.requires f.is in
    omega (arith, l, c.args.octets.now.ok.0)

pub returns-in-Added-clause-step : goal.returns-in-Added-clause-step
returns-in-Added-clause-step c = added_frame_ends c.args.frame.now c.in-Added.additions c.args.octets.now.items c.end_added.new.octets.items c.end_added.result c.in-Added.is c.end_added.ensures.step

pub insert_length-requires : goal.insert_length-requires
insert_length-requires c =
    let f = c.in-OpenType in
    let l = open_frame_within c.args.frame.now f.start c.args.octets.now.items c.requires f.is in
    omega (arith, l, c.args.octets.now.ok.0)

pub returns-in-OpenType-clause-step : goal.returns-in-OpenType-clause-step
returns-in-OpenType-clause-step c = open_frame_ends c.args.frame.now c.in-OpenType.start c.args.octets.now.items c.insert_length.new.octets.items
    c.insert_length.result c.in-OpenType.is c.insert_length.ensures.text

pub returns-in-Bag-clause-step : goal.returns-in-Bag-clause-step
returns-in-Bag-clause-step c =
    let o = c.args.octets.now.items in
    let p = c.end_bag.new.octets.items in
    let r = c.end_bag.result in
    bag_ends c.args.frame.now c.in-Bag.bag o p r c.in-Bag.is (subst (λ (b : Bag). MatchResult r (λ _. BagEnds b o p) (NoEnd b.due)) c.deref_mut.ensures.value c.end_bag.ensures.step)

pub returns-then-preamble-clause-kept : goal.returns-then-preamble-clause-kept
returns-then-preamble-clause-kept c k =
    elim c.then-preamble.branch [
      | then-preamble-via-then-preamble w ↦ keeps_same _ _ _ _ (ap (λ g. g ∷ k) (w.frame-is ∙ sym c.in-Components.is)) refl
      | then-preamble-via-else-preamble+then-preamble-gt0 w ↦ keeps_same _ _ _ _ (ap (λ g. g ∷ k) (w.frame-is ∙ sym c.in-Components.is)) refl
    ]

pub returns-in-Members-clause-kept : goal.returns-in-Members-clause-kept
returns-in-Members-clause-kept c k = keeps_same _ _ _ _ (ap (λ g. g ∷ k) (search rules)) refl

pub returns-in-Added-clause-kept : goal.returns-in-Added-clause-kept
returns-in-Added-clause-kept c =
    let o = c.args.octets.now.items in
    let p = c.end_added.new.octets.items in
    let f = c.args.frame.now in
    let i = c.in-Added in
    let left : p ≡ o → (k : List Frame) → Keeps (f ∷ k) o (Added i.additions ∷ k) p = λ e k. keeps_same (f ∷ k) (Added i.additions ∷ k) o p (ap (λ g. g ∷ k) (sym i.is)) e in
    on_err_weaker c.end_added.result left c.end_added.ensures.kept

pub returns-in-OpenType-clause-kept : goal.returns-in-OpenType-clause-kept
returns-in-OpenType-clause-kept c =
    let o = c.args.octets.now.items in
    let p = c.insert_length.new.octets.items in
    let f = c.args.frame.now in
    let i = c.in-OpenType in
    let left : Begins (take i.start o) p → (k : List Frame) → Keeps (f ∷ k) o (OpenType i.start ∷ k) p = λ b k. keeps_room (f ∷ k) k (OpenType i.start ∷ k) o p i.start (ap (λ g. g ∷ k) i.is) refl b in
    on_err_weaker c.insert_length.result left c.insert_length.ensures.kept

pub returns-in-Bag-clause-kept : goal.returns-in-Bag-clause-kept
returns-in-Bag-clause-kept c =
    let o = c.args.octets.now.items in
    let p = c.end_bag.new.octets.items in
    let f = c.args.frame.now in
    let i = c.in-Bag in
    let next = with_value i.bag c.end_bag.new.bag in
    let left : Begins c.deref_mut.result.now.outer.items c.end_bag.new.bag.outer.items → (k : List Frame) → Keeps (f ∷ k) o (BagOpen next ∷ k) p =
    λ b k. keeps_bag (f ∷ k) k (BagOpen next ∷ k) i.bag next o p (ap (λ g. g ∷ k) i.is) refl (subst (λ (x : Bag). Begins x.outer.items next.value.outer.items) c.deref_mut.ensures.value b) in
    on_err_weaker c.end_bag.result left c.end_bag.ensures.kept

-- What continues if no small frame is innermost, in the octets and the frames of an encoder.
use Rattle.std.proofs.Common.{◌≡◌, ℕ, Bool, List, ◌∷◌, Option, Some, None, Vec, Box, Global, Result, Ok, Err, MatchResult, refl, ap, sym, ◌∙◌}
use Rattle.asn1_schema_errors.specs.declared.EncodeError.{EncodeError}
use Rattle.asn1_schema_laws.specs.Records.{further}
use Rattle.oer_codec_encoder.specs.declared.frame.Bag.{Bag as BagFrame}
use Rattle.oer_codec_encoder.specs.declared.frame.Frame.{Frame}
use Rattle.oer_codec_encoder.specs.declared.frame.Frame.TheVariants.{Members, Bag}
use Rattle.oer_codec_encoder.specs.declared.frames.SmallFrame.{SmallFrame}
use Rattle.oer_codec_encoder.specs.declared.frames.SmallFrame.TheVariants.{Members as SmallMembers}
use Rattle.oer_codec_encoder.specs.declared.frames.SmallFrame.TheVariants.{Alternative as SmallAlternative}
use Rattle.oer_codec_encoder.specs.declared.frames.SmallFrame.TheVariants.{OpenType as SmallOpenType}
use Rattle.oer_codec_encoder.specs.Frames.{frame_of, frames_of, NoMember}
use Rattle.oer_codec_encoder.specs.EarlierOctets.{ground}
use Rattle.oer_codec_encoder.specs.Holding.{NextOfBag, Does, Cannot}
use Rattle.oer_codec_encoder.proofs.BagScopes.{does_next}
use Rattle.oer_codec_encoder.proofs.Refusals.{cannot, no_member_of_bag}

pub list_small : (e : Option SmallFrame) (due : ℕ) (fs : List Frame) → e ≡ Some (SmallMembers due) → frames_of e fs ≡ Members due ∷ fs
list_small e due fs a = ap (λ x. frames_of x fs) a

pub bag_goes_on : (more : Bool) (fs rest gs : List Frame) (b c : Box BagFrame Global) (o p : List ℕ) (r : Result (Unit {0}) EncodeError) →
    fs ≡ Bag b ∷ rest → MatchResult r (λ _. NextOfBag more b.value o c.value p) (NoMember more b.value.due) → gs ≡ Bag c ∷ rest →
    MatchResult r (λ _. Does (further more) fs o gs p) (Cannot (further more) fs o)
bag_goes_on more fs rest gs b c o p (Ok u) a m d = does_next fs rest gs b c o p a d more m
bag_goes_on more fs rest gs b c o p (Err e) a m d = cannot (further more) fs o e m.0 (λ n. no_member_of_bag fs rest b o more a (m.1 n))

-- octets that are exchanged with those before the innermost bag
pub sets_aside : (fs rest gs k : List Frame) (b f next : Box BagFrame Global) (o p : Vec ℕ Global) → fs ≡ Bag f ∷ rest → gs ≡ Bag next ∷ rest →
    (let a = f.value in next.value ≡ record a { outer = o }) → p ≡ f.value.outer → fs ≡ Bag b ∷ k → let a = b.value in (c : Box BagFrame Global) ×
    (gs ≡ Bag c ∷ k) × (c.value ≡ record a { outer = o }) × (p ≡ a.outer)
sets_aside fs rest gs k b f next o p d g v w e =
    let q : Bag f ∷ rest ≡ Bag b ∷ k = sym d ∙ e in
    let same : f ≡ b = cc q in
    let around : rest ≡ k = cc q in
    (next, g ∙ ap (λ l. Bag next ∷ l) around, v ∙ ap (λ (x : Box BagFrame Global). let a = x.value in record a { outer = o }) same, w ∙ ap (λ (x : Box BagFrame Global). x.value.outer) same)

-- a small frame has nothing set aside
pub ground_small : (e : SmallFrame) (k : List Frame) (o : List ℕ) → ground (frame_of e ∷ k) o ≡ ground k o
ground_small (SmallMembers due) k o = refl
ground_small SmallAlternative k o = refl
ground_small (SmallOpenType start) k o = refl

pub ground_others : (e : Option SmallFrame) (fs : List Frame) (o : List ℕ) → ground fs o ≡ ground (frames_of e fs) o
ground_others None fs o = refl
ground_others (Some e) fs o = sym (ground_small e fs o)

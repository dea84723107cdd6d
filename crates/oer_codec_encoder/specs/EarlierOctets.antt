-- The octets before everything that is open. An encoder appends to those with which it began. They do not change,
-- even after an error.
use Rattle.std.specs.Prelude.{◌≤◌, ℕ, List, [], ◌∷◌, length}
use Rattle.asn1_model.specs.Versions.{Begins}
use Rattle.oer_codec_encoder.specs.Holding.{shown, Holds}
use Rattle.oer_codec_encoder.specs.Steps.{Scope, components, added, open_type, members, bag_members, alternative}
use Rattle.oer_codec_encoder.specs.Steps.{State}
use Rattle.oer_codec_encoder.specs.declared.frame.Frame.{Frame}
use Rattle.oer_codec_encoder.specs.declared.frame.Frame.TheVariants.{Components, Added, OpenType, Members, Bag}
use Rattle.oer_codec_encoder.specs.declared.frame.Frame.TheVariants.{Alternative}

-- In what a writer holds: those before the outermost scope that has such octets, and all octets if none has.
abbrev pub outermost : List ℕ → List Scope → List ℕ
outermost os [] = os
outermost os (components e n ms front ∷ k) = outermost front k
outermost os (added n ms root bs front ∷ k) = outermost front k
outermost os (open_type front ∷ k) = outermost front k
outermost os (members n ∷ k) = outermost os k
outermost os (bag_members n ws front ∷ k) = outermost front k
outermost os (alternative ∷ k) = outermost os k

abbrev pub first_of : State → List ℕ
first_of s = outermost s.0 s.1

-- In an encoder: the octets that it writes, or, if bags are open, those before the outermost one.
abbrev pub ground : List Frame → List ℕ → List ℕ
ground [] o = o
ground (Components c ∷ fs) o = ground fs o
ground (Added a ∷ fs) o = ground fs o
ground (OpenType start ∷ fs) o = ground fs o
ground (Members due ∷ fs) o = ground fs o
ground (Bag boxed ∷ fs) o = ground fs boxed.value.outer.items
ground (Alternative ∷ fs) o = ground fs o

-- What a refused record leaves: the octets before everything that was open are still there.
pub record Keeps (fs : List Frame) (o : List ℕ) (gs : List Frame) (p : List ℕ) : Type 0 where
  pub keeps : (s : State) → Holds fs o s → Begins (first_of s) (ground gs p)

-- The octets and the frames represent what they show, and `n` octets come before everything that is open.
pub record Stands (fs : List Frame) (o : List ℕ) (n : ℕ) : Type 0 where
  pub holds : Holds fs o (shown fs o)
  pub behind : n ≤ length (first_of (shown fs o))

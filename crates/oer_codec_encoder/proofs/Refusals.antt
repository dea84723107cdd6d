-- Why records are refused, by the octets and the frames of an encoder.
use Rattle.std.proofs.Common.{◌≡◌, ℕ, zero, suc, not, ltb, Bool, true, false, List, [], ◌∷◌, Option, None, Box, Global, Result, Ok, Err, MatchResult, refl, ap, subst, sym, ◌∙◌, arith}
use Rattle.std.specs.Result.{IsErr, IsErrAnd}
use Rattle.std.proofs.lemmas.Bool.{lt-ltb}
use Rattle.asn1_schema_errors.specs.declared.EncodeError.{EncodeError}
use Rattle.asn1_schema_errors.specs.declared.EncodeError.TheVariants.{ValueConstraintNotSatisfied}
use Rattle.asn1_schema_errors.specs.declared.EncodeError.TheVariants.{SizeConstraintNotSatisfied}
use Rattle.asn1_schema_errors.specs.declared.EncodeError.TheVariants.{AlphabetConstraintNotSatisfied, TooLongValue}
use Rattle.asn1_schema_errors.specs.declared.EncodeError.TheVariants.{LengthExceedsPlatformSize, CallOutOfPlace}
use Rattle.asn1_schema_errors.specs.declared.EncodeError.TheVariants.{OutOfMemory, AlreadyFailed}
use Rattle.asn1_schema_laws.specs.Records.{Record, presence_bit, additions_begin, addition, addition_ends, further}
use Rattle.oer_codec_encoder.specs.Steps.{components, open_type, bag_members, State, run}
use Rattle.oer_codec_encoder.specs.declared.frame.Additions.{Additions}
use Rattle.oer_codec_encoder.specs.declared.frame.Bag.{Bag as BagFrame}
use Rattle.oer_codec_encoder.specs.declared.frame.Frame.{Frame}
use Rattle.oer_codec_encoder.specs.declared.frame.Frame.TheVariants.{Components, Added, OpenType, Members, Bag, Alternative}
use Rattle.oer_codec_encoder.specs.declared.frame.Preamble.{Preamble}
use Rattle.oer_codec_encoder.specs.Holding.{Holds, Cannot}
use Rattle.oer_codec_writing.specs.Writing.{Refuses}
use Rattle.oer_codec_encoder.proofs.Scopes.{on_top, behind_root}

-- what a `?` passes on
pub passed_on : {T E : Type 0} (P : T → Type 0) (Q : E → Type 0) (x : E) (r : Result T E) → IsErr r → IsErrAnd r (λ y. y ≡ x) → Q x → MatchResult r P Q
passed_on P Q x (Ok v) n h p = let e : false ≡ true = n in cc
passed_on P Q x (Err y) n h p = subst Q (sym h) p

-- a writer refused a text, and without it there is no step
pub no_text : (r : Record) (x : Option (List ℕ)) (fs : List Frame) (o : List ℕ) (e : EncodeError) → (x ≡ None → (s : State) → run r s ≡ None) → Refuses x e → Cannot r fs o e
no_text r x fs o OutOfMemory q h = tt
no_text r x fs o ValueConstraintNotSatisfied q h = λ s _. q h s
no_text r x fs o SizeConstraintNotSatisfied q h = λ s _. q h s
no_text r x fs o AlphabetConstraintNotSatisfied q h = λ s _. q h s
no_text r x fs o TooLongValue q h = λ s _. q h s
no_text r x fs o LengthExceedsPlatformSize q h = λ s _. q h s
no_text r x fs o CallOutOfPlace q h = λ s _. q h s
no_text r x fs o AlreadyFailed q h = absurd h

apart : {b : Bool} → true ≡ b → b ≡ false → ⊥
apart h k = let x : true ≡ false = h ∙ k in cc

pub cannot : (r : Record) (fs : List Frame) (o : List ℕ) (e : EncodeError) → ¬ (e ≡ AlreadyFailed) → (¬ (e ≡ OutOfMemory) → (s : State) → Holds fs o s → run r s ≡ None) → Cannot r fs o e
cannot r fs o OutOfMemory n h = tt
cannot r fs o ValueConstraintNotSatisfied n h = h (λ e. cc)
cannot r fs o SizeConstraintNotSatisfied n h = h (λ e. cc)
cannot r fs o AlphabetConstraintNotSatisfied n h = h (λ e. cc)
cannot r fs o TooLongValue n h = h (λ e. cc)
cannot r fs o LengthExceedsPlatformSize n h = h (λ e. cc)
cannot r fs o CallOutOfPlace n h = h (λ e. cc)
cannot r fs o AlreadyFailed n h = absurd (n refl)

pub no_addition_due : (fs : List Frame) (o : List ℕ) (present : Bool) → ((a : Additions) (k : List Frame) → fs ≡ Added a ∷ k → a.due ≡ 0) → (s : State) → Holds fs o s → run (addition present) s ≡ None
no_addition_due [] o present n s h = ap (run (addition present)) h
no_addition_due (Components c ∷ k) o present n s h = ap (run (addition present)) h.is
no_addition_due (Added a ∷ k) o present n s h = ap (run (addition present))
    (h.is ∙ ap (λ d. behind_root d h.has.inner h.preamble.presence_bits h.preamble.inner h.has.presence_bits h.outer) (n a k refl))
no_addition_due (OpenType start ∷ k) o present n s h = ap (run (addition present)) h.is
no_addition_due (Members due ∷ k) o present n s h = ap (run (addition present)) h.1
no_addition_due (Bag b ∷ k) o present n s h = ap (run (addition present)) h.1
no_addition_due (Alternative ∷ k) o present n s h = ap (run (addition present)) h.1

pub no_member_due : (fs rest : List Frame) (due : ℕ) (o : List ℕ) (more : Bool) → fs ≡ Members due ∷ rest → more ≡ not (ltb 0 due) → (s : State) → Holds fs o s → run (further more) s ≡ None
no_member_due fs rest due o more e n s h = go due more n (on_top fs rest (Members due) o s e h)
  where
    go : (due : ℕ) (more : Bool) → more ≡ not (ltb 0 due) → Holds (Members due ∷ rest) o s → run (further more) s ≡ None
    go zero true n h = ap (run (further true)) h.1
    go zero false n h = cc
    go (suc k) true n h = absurd (apart n (ap not (lt-ltb 0 (suc k) (omega arith))))
    go (suc k) false n h = ap (run (further false)) h.1

pub no_member_of_bag : (fs rest : List Frame) (b : Box BagFrame Global) (o : List ℕ) (more : Bool) → fs ≡ Bag b ∷ rest →
    more ≡ not (ltb 0 b.value.due) → (s : State) → Holds fs o s → run (further more) s ≡ None
no_member_of_bag fs rest b o more e n s h = let i = on_top fs rest (Bag b) o s e h in go b.value.due more n i.0 i.1
  where
    go : (due : ℕ) (more : Bool) → more ≡ not (ltb 0 due) → (t : State) → s ≡ (o, bag_members due b.value.members t.0 ∷ t.1) → run (further more) s ≡ None
    go zero true n t h = ap (run (further true)) h
    go zero false n t h = cc
    go (suc k) true n t h = absurd (apart n (ap not (lt-ltb 0 (suc k) (omega arith))))
    go (suc k) false n t h = ap (run (further false)) h

pub no_addition_end : (fs rest : List Frame) (o : List ℕ) (start : ℕ) → fs ≡ OpenType start ∷ rest →
    ((a : Additions) (k : List Frame) → rest ≡ Added a ∷ k → ⊥) → (s : State) → Holds fs o s → run addition_ends s ≡ None
no_addition_end fs rest o start e n s h = go rest n (on_top fs rest (OpenType start) o s e h)
  where
    go : (rest : List Frame) → ((a : Additions) (k : List Frame) → rest ≡ Added a ∷ k → ⊥) → Holds (OpenType start ∷ rest) o s → run addition_ends s ≡ None
    go [] n h = ap (run addition_ends) (h.is ∙ ap (λ (b : State). let l : State = (h.inner, open_type b.0 ∷ b.1) in l) h.under)
    go (Components c ∷ k) n h = ap (run addition_ends) (h.is ∙ ap (λ (b : State). let l : State = (h.inner, open_type b.0 ∷ b.1) in l) h.under.is)
    go (Added a ∷ k) n h = absurd (n a k refl)
    go (OpenType outer ∷ k) n h = ap (run addition_ends) (h.is ∙ ap (λ (b : State). let l : State = (h.inner, open_type b.0 ∷ b.1) in l) h.under.is)
    go (Members due ∷ k) n h = ap (run addition_ends) (h.is ∙ ap (λ (b : State). let l : State = (h.inner, open_type b.0 ∷ b.1) in l) h.under.1)
    go (Bag b ∷ k) n h = ap (run addition_ends) (h.is ∙ ap (λ (b : State). let l : State = (h.inner, open_type b.0 ∷ b.1) in l) h.under.1)
    go (Alternative ∷ k) n h = ap (run addition_ends) (h.is ∙ ap (λ (b : State). let l : State = (h.inner, open_type b.0 ∷ b.1) in l) h.under.1)

pub no_presence_bit_due : (fs : List Frame) (o : List ℕ) (present : Bool) → ((p : Preamble) (k : List Frame) → fs ≡ Components p ∷ k → p.due ≡ 0) →
    (s : State) → Holds fs o s → run (presence_bit present) s ≡ None
no_presence_bit_due [] o present n s h = ap (run (presence_bit present)) h
no_presence_bit_due (Components c ∷ k) o present n s h = ap (run (presence_bit present)) (h.is ∙
    ap (λ d. let l : State = (h.has.inner, components c.extensible d h.has.presence_bits h.outer.0 ∷ h.outer.1) in l) (n c k refl))
no_presence_bit_due (Added a ∷ k) o present n s h = ap (run (presence_bit present)) h.is
no_presence_bit_due (OpenType start ∷ k) o present n s h = ap (run (presence_bit present)) h.is
no_presence_bit_due (Members due ∷ k) o present n s h = ap (run (presence_bit present)) h.1
no_presence_bit_due (Bag b ∷ k) o present n s h = ap (run (presence_bit present)) h.1
no_presence_bit_due (Alternative ∷ k) o present n s h = ap (run (presence_bit present)) h.1

pub no_root : (fs : List Frame) (o : List ℕ) (count : ℕ) → ((p : Preamble) (k : List Frame) → fs ≡ Components p ∷ k → ⊥) → (s : State) → Holds fs o s → run (additions_begin count) s ≡ None
no_root [] o count n s h = ap (run (additions_begin count)) h
no_root (Components c ∷ k) o count n s h = absurd (n c k refl)
no_root (Added a ∷ k) o count n s h = ap (run (additions_begin count)) h.is
no_root (OpenType start ∷ k) o count n s h = ap (run (additions_begin count)) h.is
no_root (Members due ∷ k) o count n s h = ap (run (additions_begin count)) h.1
no_root (Bag b ∷ k) o count n s h = ap (run (additions_begin count)) h.1
no_root (Alternative ∷ k) o count n s h = ap (run (additions_begin count)) h.1

pub no_open_type : (fs : List Frame) (o : List ℕ) → ((start : ℕ) (k : List Frame) → fs ≡ OpenType start ∷ k → ⊥) → (s : State) → Holds fs o s → run addition_ends s ≡ None
no_open_type [] o n s h = ap (run addition_ends) h
no_open_type (Components c ∷ k) o n s h = ap (run addition_ends) h.is
no_open_type (Added a ∷ k) o n s h = ap (run addition_ends) h.is
no_open_type (OpenType start ∷ k) o n s h = absurd (n start k refl)
no_open_type (Members due ∷ k) o n s h = ap (run addition_ends) h.1
no_open_type (Bag b ∷ k) o n s h = ap (run addition_ends) h.1
no_open_type (Alternative ∷ k) o n s h = ap (run addition_ends) h.1

-- What the encoder's calls did, by what they did to the octets and the frames.
use Rattle.std.proofs.Common.{◌≡◌, ℕ, ◌≤◌, Bool, true, false, List, [], ◌++◌, length, take, arith, Option, Some, None, refl, ap, subst, sym, ◌∙◌}
use Rattle.std.proofs.lemmas.List.{take_all}
use Rattle.asn1_model.specs.Versions.{Begins}
use Rattle.asn1_schema_errors.specs.declared.EncodeError.{EncodeError}
use Rattle.asn1_schema_errors.specs.declared.EncodeError.TheVariants.{ValueConstraintNotSatisfied}
use Rattle.asn1_schema_errors.specs.declared.EncodeError.TheVariants.{SizeConstraintNotSatisfied}
use Rattle.asn1_schema_errors.specs.declared.EncodeError.TheVariants.{AlphabetConstraintNotSatisfied, TooLongValue}
use Rattle.asn1_schema_errors.specs.declared.EncodeError.TheVariants.{LengthExceedsPlatformSize, CallOutOfPlace}
use Rattle.asn1_schema_errors.specs.declared.EncodeError.TheVariants.{OutOfMemory, AlreadyFailed}
use Rattle.asn1_schema_encode.specs.Writes.{Refused}
use Rattle.asn1_schema_laws.specs.Records.{Record}
use Rattle.oer_codec_encoder.specs.Steps.{State, run, adds_text}
use Rattle.oer_codec_encoder.specs.declared.frame.Frame.{Frame}
use Rattle.oer_codec_encoder.specs.EarlierOctets.{ground, Keeps, Stands}
use Rattle.oer_codec_encoder.specs.Holding.{shown, Holds, AreSound, Does, Cannot}
use Rattle.oer_codec_encoder.specs.Stepping.{Written, Puts}
use Rattle.oer_codec_writing.specs.Writing.{Adds, Refuses}
use Rattle.oer_codec_encoder.proofs.EarlierOctets.{front_behind, front_kept, keeps_behind, stands_behind}
use Rattle.oer_codec_encoder.proofs.Refusals.{no_text}
use Rattle.oer_codec_encoder.proofs.Scopes.{shown_is, appended}

-- what the octets and the frames represent
abbrev pub now : List Frame → List ℕ → State
now fs o = shown fs o

pub is_sound : {n : ℕ} (fs : List Frame) (o : List ℕ) → Stands fs o n → AreSound fs o
is_sound fs o h = record { state = now fs o; holds = h.holds }

pub stays_sound : {n : ℕ} (r : Record) (fs gs : List Frame) (o p : List ℕ) → Stands fs o n → Does r fs o gs p → Stands gs p n
stays_sound r fs gs o p h d = stands_behind fs gs o p h r d

pub takes_step : {n : ℕ} (r : Record) (fs gs : List Frame) (o p : List ℕ) → Stands fs o n → Does r fs o gs p → run r (now fs o) ≡ Some (now gs p)
takes_step r fs gs o p h d = let t = d.after (now fs o) h.holds in t.1 ∙ ap Some (sym (shown_is gs p t.0 t.2))

-- what an encoder shows, and the number of octets that were there when it began
abbrev pub holding : List Frame → List ℕ → Bool → ℕ → Written
holding fs o f n = record { state = now fs o; failed = f; front = take n (ground fs o) }

no_step : (r : Record) (w : Written) (e : EncodeError) → run r w.state ≡ None → Refused Puts r w e
no_step r w e h = record { none = λ n b p. let x : None ≡ Some b.state = sym h ∙ p.2 in cc }

pub is_refused : {n : ℕ} (r : Record) (fs : List Frame) (o : List ℕ) (w : Written) (e : EncodeError) → now fs o ≡ w.state → Stands fs o n → Cannot r fs o e → Refused Puts r w e
is_refused r fs o w OutOfMemory q h c = record { none = λ n b p. absurd (n refl) }
is_refused r fs o w ValueConstraintNotSatisfied q h c = no_step r w _ (ap (run r) (sym q) ∙ c (now fs o) h.holds)
is_refused r fs o w SizeConstraintNotSatisfied q h c = no_step r w _ (ap (run r) (sym q) ∙ c (now fs o) h.holds)
is_refused r fs o w AlphabetConstraintNotSatisfied q h c = no_step r w _ (ap (run r) (sym q) ∙ c (now fs o) h.holds)
is_refused r fs o w TooLongValue q h c = no_step r w _ (ap (run r) (sym q) ∙ c (now fs o) h.holds)
is_refused r fs o w LengthExceedsPlatformSize q h c = no_step r w _ (ap (run r) (sym q) ∙ c (now fs o) h.holds)
is_refused r fs o w CallOutOfPlace q h c = no_step r w _ (ap (run r) (sym q) ∙ c (now fs o) h.holds)
is_refused r fs o w AlreadyFailed q h c = absurd c

pub has_failed_before : (r : Record) (w : Written) (e : EncodeError) → w.failed ≡ true → Refused Puts r w e
has_failed_before r w e h = record { none = λ n b p. let x : true ≡ false = sym h ∙ p.0 in cc }

pub puts : {n : ℕ} (r : Record) (fs gs : List Frame) (o p : List ℕ) (f : Bool) (w : Written) → holding fs o f n ≡ w → f ≡ false → Stands fs o n → Does r fs o gs p → Puts w r (holding gs p false n)
puts r fs gs o p f w e g h d = (
  sym (ap (λ (v : Written). v.failed) e) ∙ g,
  refl,
  ap (λ (v : Written). run r v.state) (sym e) ∙ takes_step r fs gs o p h d,
  front_behind fs gs o p h r d ∙ ap (λ (v : Written). v.front) e,
)

-- what was there before is still there after a record that is written, and after one that was refused
pub same_front : {n : ℕ} (r : Record) (fs gs : List Frame) (o p : List ℕ) (f : Bool) (w : Written) → holding fs o f n ≡ w → Stands fs o n → Does r fs o gs p → take n (ground gs p) ≡ w.front
same_front r fs gs o p f w e h d = front_behind fs gs o p h r d ∙ ap (λ (v : Written). v.front) e

pub kept_front : {n : ℕ} (fs gs : List Frame) (o p : List ℕ) (f : Bool) (w : Written) → holding fs o f n ≡ w → Stands fs o n → Keeps fs o gs p → take n (ground gs p) ≡ w.front
kept_front fs gs o p f w e h k = front_kept fs gs o p h k ∙ ap (λ (v : Written). v.front) e

-- ---- a text that is added

pub does_add : (r : Record) (x : Option (List ℕ)) (fs : List Frame) (o p : List ℕ) → ((s : State) → run r s ≡ adds_text x s) → Adds x o p → Does r fs o fs p
does_add r x fs o p e a = record { after = λ s h. go x s h (e s) a }
  where
    go : (x : Option (List ℕ)) (s : State) → Holds fs o s → run r s ≡ adds_text x s → Adds x o p → (t : State) × (run r s ≡ Some t) × Holds fs p t
    go None s h e a = cc
    go (Some w) s h e a =
        let q : o ++ w ≡ p = cc a in
        ((s.0 ++ w, s.1), e, subst (λ l. Holds fs l (s.0 ++ w, s.1)) q (appended fs o s w h))

pub refuses_none : (r : Record) (x : Option (List ℕ)) (fs : List Frame) (o : List ℕ) (e : EncodeError) → ((s : State) → run r s ≡ adds_text x s) → Refuses x e → Cannot r fs o e
refuses_none r x fs o e q h = no_text r x fs o e (λ n s. q s ∙ ap (λ y. adds_text y s) n) h

pub adds_sound : {n : ℕ} (r : Record) (x : Option (List ℕ)) (fs : List Frame) (o p : List ℕ) → ((s : State) → run r s ≡ adds_text x s) → Stands fs o n → Adds x o p → Stands fs p n
adds_sound r x fs o p e h a = stays_sound r fs fs o p h (does_add r x fs o p e a)

pub adds_puts : {n : ℕ} (r : Record) (x : Option (List ℕ)) (fs : List Frame) (o p : List ℕ) (f : Bool) (w : Written) →
    ((s : State) → run r s ≡ adds_text x s) → holding fs o f n ≡ w → f ≡ false → Stands fs o n → Adds x o p → Puts w r (holding fs p false n)
adds_puts r x fs o p f w q e g h a = puts r fs fs o p f w e g h (does_add r x fs o p q a)

pub adds_front : {n : ℕ} (r : Record) (x : Option (List ℕ)) (fs : List Frame) (o p : List ℕ) (f : Bool) (w : Written) →
    ((s : State) → run r s ≡ adds_text x s) → holding fs o f n ≡ w → Stands fs o n → Adds x o p → take n (ground fs p) ≡ w.front
adds_front r x fs o p f w q e h a = same_front r fs fs o p f w e h (does_add r x fs o p q a)

pub text_kept : {n : ℕ} (fs : List Frame) (o p : List ℕ) (f : Bool) (w : Written) → holding fs o f n ≡ w → Stands fs o n → Begins o p → take n (ground fs p) ≡ w.front
text_kept fs o p f w e h b = kept_front fs fs o p f w e h (keeps_behind fs fs o p refl b)

-- ---- an encoder that begins

pub stands_at_first : (o : List ℕ) (n : ℕ) → n ≤ length o → Stands [] o n
stands_at_first o n h = record { holds = refl; behind = h }

pub holding_at_first : (o : List ℕ) (n : ℕ) → n ≡ length o → holding [] o false n ≡ record { state = (o, []); failed = false; front = o }
holding_at_first o n h = ap (λ (l : List ℕ). let w : Written = record { state = (o, []); failed = false; front = l } in w) (take_all n o (omega (arith, h)))

-- What the encoder's calls did, by what they did to the bits and the frames.
use Rattle.std.proofs.Common.{◌≡◌, ℕ, Bool, true, false, List, [], ◌∷◌, ◌++◌, Option, Some, None, option_map}
use Rattle.std.proofs.Common.{option_and_then, Result, Ok, Err, Vec, Global, IfOk, OnErr, MatchResult, refl, ap, subst}
use Rattle.std.proofs.Common.{sym, ◌∙◌}
use Rattle.std.specs.Prelude.{IsErrAnd}
use Rattle.std.proofs.lemmas.List.{append-nil}
use Rattle.asn1_model.specs.Form.{written}
use Rattle.asn1_model.specs.Numbers.{packed}
use Rattle.asn1_model.specs.Per
use Rattle.asn1_schema_errors.specs.declared.EncodeError.{EncodeError}
use Rattle.asn1_schema_errors.specs.declared.EncodeError.TheVariants.{ValueConstraintNotSatisfied}
use Rattle.asn1_schema_errors.specs.declared.EncodeError.TheVariants.{SizeConstraintNotSatisfied}
use Rattle.asn1_schema_errors.specs.declared.EncodeError.TheVariants.{AlphabetConstraintNotSatisfied, TooLongValue}
use Rattle.asn1_schema_errors.specs.declared.EncodeError.TheVariants.{LengthExceedsPlatformSize, CallOutOfPlace}
use Rattle.asn1_schema_errors.specs.declared.EncodeError.TheVariants.{OutOfMemory, AlreadyFailed}
use Rattle.asn1_schema_encode.specs.Writes.{Refused}
use Rattle.asn1_schema_laws.specs.Records.{Record, nil, sequence_begins, set_begins, group_begins}
use Rattle.per_codec_packing.specs.FieldLists.{FieldList, bit, padding, as_field_list, plain, field_list_at}
use Rattle.per_codec_packing.proofs.Formed.{plain_field_list}
use Rattle.per_codec_packing.specs.Packed.{Packed, place, plus}
use Rattle.per_codec_packing.proofs.Adding.{added}
use Rattle.per_codec_encoder.specs.Steps.{State, run, adds_field_list, adds_form}
use Rattle.per_codec_encoder.specs.Ties.{octets_of}
use Rattle.per_codec_writing.specs.Writing.{Adds, Refuses}
use Rattle.per_codec_encoder.specs.declared.frame.Frame.{Frame}
use Rattle.per_codec_encoder.specs.Holding.{shown, Holds, AreSound, Does, Cannot}
use Rattle.per_codec_encoder.specs.Stepping.{Written, Puts}
use Rattle.per_codec_encoder.proofs.Scopes.{shown_is, appended, at_end, nothing_open}

-- what the bits and the frames represent
abbrev pub now : List Frame → Packed → State
now fs o = shown fs o

abbrev pub Sound : List Frame → Packed → Type 0
Sound fs o = Holds fs o (now fs o)

pub is_sound : (fs : List Frame) (o : Packed) → Sound fs o → AreSound fs o
is_sound fs o h = record { state = now fs o; holds = h }

moved : (fs : List Frame) (o : Packed) (t : State) → Holds fs o t → (now fs o ≡ t) × Sound fs o
moved fs o t h = let e = shown_is fs o t h in (e, subst (λ x. Holds fs o x) (sym e) h)

pub stays_sound : (al : Bool) (r : Record) (fs gs : List Frame) (o p : Packed) → Sound fs o → Does al r fs o gs p → Sound gs p
stays_sound al r fs gs o p h d = let t = d.after (now fs o) h in (moved gs p t.0 t.2).1

takes_step : (al : Bool) (r : Record) (fs gs : List Frame) (o p : Packed) → Sound fs o → Does al r fs o gs p → run al r (now fs o) ≡ Some (now gs p)
takes_step al r fs gs o p h d = let t = d.after (now fs o) h in t.1 ∙ ap Some (sym (moved gs p t.0 t.2).0)

no_step : (r : Record) (w : Written) (e : EncodeError) → run w.aligned r w.state ≡ None → Refused Puts r w e
no_step r w e h = record { none = λ n b p. let x : None ≡ Some b.state = sym h ∙ p.3 in cc }

-- an encoder with these bits and frames
abbrev pub made : List Frame → Packed → Bool → Bool → Written
made fs o al f = record { state = now fs o; aligned = al; failed = f }

pub is_refused : (al : Bool) (r : Record) (fs : List Frame) (o : Packed) (f : Bool) (w : Written) (e : EncodeError) → made fs o al f ≡ w → Sound fs o → Cannot al r fs o e → Refused Puts r w e
is_refused al r fs o f w e q h c = subst (λ (v : Written). Refused Puts r v e) q (go e c)
  where
    go : (e : EncodeError) → Cannot al r fs o e → Refused Puts r (made fs o al f) e
    go OutOfMemory c = record { none = λ n b p. absurd (n refl) }
    go ValueConstraintNotSatisfied c = no_step r _ _ (c (now fs o) h)
    go SizeConstraintNotSatisfied c = no_step r _ _ (c (now fs o) h)
    go AlphabetConstraintNotSatisfied c = no_step r _ _ (c (now fs o) h)
    go TooLongValue c = no_step r _ _ (c (now fs o) h)
    go LengthExceedsPlatformSize c = no_step r _ _ (c (now fs o) h)
    go CallOutOfPlace c = no_step r _ _ (c (now fs o) h)
    go AlreadyFailed c = absurd c

-- what is refused like this is not refused for an earlier error
pub never_after : {Q : Type 0} (al : Bool) (r : Record) (fs : List Frame) (o : Packed) (x : EncodeError) (q : Result (Unit {0}) EncodeError) →
    IsErrAnd q (λ y. y ≡ x) → Cannot al r fs o x → q ≡ Err AlreadyFailed → Q
never_after al r fs o x (Ok v) h c e = cc
never_after al r fs o x (Err y) h c e = let k : y ≡ AlreadyFailed = cc in absurd (subst (Cannot al r fs o) (sym h ∙ k) c)

pub puts : (al : Bool) (r : Record) (fs gs : List Frame) (o p : Packed) (f : Bool) (w : Written) → made fs o al f ≡ w → f ≡ false → Sound fs o → Does al r fs o gs p → Puts w r (made gs p al false)
puts al r fs gs o p f w e g h d = subst (λ (v : Written). Puts v r (made gs p al false)) e (g, refl, refl, takes_step al r fs gs o p h d)

-- ---- a form that is added

does_add : (al : Bool) (r : Record) (x : Per.BitForm) (fs : List Frame) (o p : Packed) → ((s : State) → run al r s ≡ adds_form x s) → Adds (field_list_at x (place o)) o p → Does al r fs o fs p
does_add al r x fs o p e a = record { after = λ s h. go s h (added (field_list_at x (place o)) o p a) }
  where
    go : (s : State) → Holds fs o s → (w : FieldList) × (field_list_at x (place o) ≡ Some w) × (plus o w ≡ p) → (t : State) × (run al r s ≡ Some t) × Holds fs p t
    go s h t = (
      (s.0 ++ t.0, s.1),
      e s ∙ ap (λ n. adds_field_list (field_list_at x n) s) (at_end fs o s h) ∙
          ap (λ u. adds_field_list u s) t.1,
      subst (λ l. Holds fs l (s.0 ++ t.0, s.1)) t.2 (appended fs o s t.0 h),
    )

refuses_none : (al : Bool) (r : Record) (x : Per.BitForm) (fs : List Frame) (o : Packed) (e : EncodeError) →
    ((s : State) → run al r s ≡ adds_form x s) → Refuses (field_list_at x (place o)) e → Cannot al r fs o e
refuses_none al r x fs o e q h = by_error e h
  where
    none : field_list_at x (place o) ≡ None → (s : State) → Holds fs o s → run al r s ≡ None
    none n s k = q s ∙ ap (λ j. adds_field_list (field_list_at x j) s) (at_end fs o s k) ∙ ap (λ t. adds_field_list t s) n

    by_error : (e : EncodeError) → Refuses (field_list_at x (place o)) e → Cannot al r fs o e
    by_error OutOfMemory h = tt
    by_error ValueConstraintNotSatisfied h = none h
    by_error SizeConstraintNotSatisfied h = none h
    by_error AlphabetConstraintNotSatisfied h = none h
    by_error TooLongValue h = none h
    by_error LengthExceedsPlatformSize h = none h
    by_error CallOutOfPlace h = absurd h
    by_error AlreadyFailed h = h

pub adds_sound : (al : Bool) (r : Record) (x : Per.BitForm) (fs : List Frame) (o p : Packed) → ((s : State) → run al r s ≡ adds_form x s) →
    Sound fs o → Adds (field_list_at x (place o)) o p → Sound fs p
adds_sound al r x fs o p e h a = stays_sound al r fs fs o p h (does_add al r x fs o p e a)

pub adds_puts : (al : Bool) (r : Record) (x : Per.BitForm) (fs : List Frame) (o p : Packed) (f : Bool) (w : Written) →
    ((s : State) → run al r s ≡ adds_form x s) → made fs o al f ≡ w → f ≡ false → Sound fs o → Adds (field_list_at x (place o)) o p → Puts w r (made fs p al false)
adds_puts al r x fs o p f w q e g h a = puts al r fs fs o p f w e g h (does_add al r x fs o p q a)

pub form_refused : (al : Bool) (r : Record) (x : Per.BitForm) (fs : List Frame) (o : Packed) (f : Bool) (w : Written) (e : EncodeError) →
    ((s : State) → run al r s ≡ adds_form x s) → made fs o al f ≡ w → Sound fs o → Refuses (field_list_at x (place o)) e → Refused Puts r w e
form_refused al r x fs o f w e q v h a = is_refused al r fs o f w e v h (refuses_none al r x fs o e q a)

-- ---- NULL adds nothing

pub nothing_added : (v w : Written) → v ≡ w → v.failed ≡ false → Puts w nil w
nothing_added v w e f = let h : w.failed ≡ false = sym (ap (λ (u : Written). u.failed) e) ∙ f in (h, h, refl, ap (λ (t : FieldList). let s : State = (t, w.state.1) in Some s) (append-nil w.state.0))

-- ---- the message is taken

-- what the octets say of the bits
abbrev pub Told : List Bool → Result (Vec ℕ Global) EncodeError → Type 0
Told l r = MatchResult r (λ octets. octets_of (as_field_list l, []) ≡ Some octets.items) (λ e. (e ≡ OutOfMemory) × (l ≡ []))

pub taken_out : (fs : List Frame) (o : Packed) (l : List Bool) (al f : Bool) (w : Written) (r : Result (Vec ℕ Global) EncodeError) →
    made fs o al f ≡ w → (f ≡ false → Sound fs o) → (o.placed ≡ true → plain o.field_list ≡ Some l) → Told l r →
    IfOk r (λ octets. w.failed ≡ false → w.state.1 ≡ [] → octets_of w.state ≡ Some octets.items)
taken_out fs o l al f w (Err x) e s q h = tt
taken_out fs o l al f w (Ok v) e s q h = λ g k.
    let a : now fs o ≡ w.state = ap (λ (u : Written). u.state) e in
    let b = nothing_open fs o (now fs o) (s (ap (λ (u : Written). u.failed) e ∙ g)) (ap (λ (t : State). t.1) a ∙ k) in
    ap octets_of (sym a ∙ b.1) ∙ ap (option_and_then (λ w. option_map packed (written (Per.padded w) 0))) (q b.0 ∙ sym (plain_field_list l)) ∙ h

-- a field-list without bits is none
no_field_list : (t : FieldList) → plain t ≡ Some [] → t ≡ []
no_field_list [] e = refl
no_field_list (bit b ∷ t) e = go (plain t) e
  where
    go : (p : Option (List Bool)) → option_map (λ l. b ∷ l) p ≡ Some [] → bit b ∷ t ≡ []
    go None e = cc
    go (Some l) e = cc
no_field_list (padding ∷ t) e = cc

-- memory is allocated only for a message without bits
pub none_taken_out : (fs : List Frame) (o : Packed) (l : List Bool) (al f : Bool) (w : Written) (r : Result (Vec ℕ Global) EncodeError) →
    made fs o al f ≡ w → (f ≡ false → Sound fs o) → (o.placed ≡ true → plain o.field_list ≡ Some l) → Told l r → OnErr r (w.failed ≡ false → w.state.1 ≡ [] → w.state.0 ≡ [])
none_taken_out fs o l al f w (Ok v) e s q h = tt
none_taken_out fs o l al f w (Err x) e s q h = λ g k.
    let a : now fs o ≡ w.state = ap (λ (u : Written). u.state) e in
    let b = nothing_open fs o (now fs o) (s (ap (λ (u : Written). u.failed) e ∙ g)) (ap (λ (t : State). t.1) a ∙ k) in
    ap (λ (t : State). t.0) (sym a ∙ b.1) ∙ no_field_list o.field_list (q b.0 ∙ ap Some h.1)

-- ---- sets and groups begin as sequences do

pub as_set : (al e : Bool) (n : ℕ) (fs gs : List Frame) (o p : Packed) → Does al (sequence_begins e n) fs o gs p → Does al (set_begins e n) fs o gs p
as_set al e n fs gs o p d = record { after = λ s h. d.after s h }

pub as_group : (al : Bool) (n : ℕ) (fs gs : List Frame) (o p : Packed) → Does al (sequence_begins false n) fs o gs p → Does al (group_begins n) fs o gs p
as_group al n fs gs o p d = record { after = λ s h. d.after s h }

-- Alternatives that begin, in the bits and the frames of an encoder.
use Rattle.std.proofs.Common.{◌≡◌, ℕ, ◌-◌, Bool, true, false, List, [], ◌∷◌, ◌++◌, length, Option, Some, None, option_map, refl, ap, subst, sym, ◌∙◌}
use Rattle.asn1_model.specs.Form.{exactly, both}
use Rattle.asn1_model.specs.Per
use Rattle.asn1_model.specs.Schema.{Tag}
use Rattle.asn1_schema_errors.specs.declared.EncodeError.{EncodeError}
use Rattle.asn1_schema_errors.specs.declared.EncodeError.TheVariants.{ValueConstraintNotSatisfied}
use Rattle.asn1_schema_errors.specs.declared.EncodeError.TheVariants.{SizeConstraintNotSatisfied}
use Rattle.asn1_schema_errors.specs.declared.EncodeError.TheVariants.{AlphabetConstraintNotSatisfied, TooLongValue}
use Rattle.asn1_schema_errors.specs.declared.EncodeError.TheVariants.{LengthExceedsPlatformSize, CallOutOfPlace}
use Rattle.asn1_schema_errors.specs.declared.EncodeError.TheVariants.{OutOfMemory, AlreadyFailed}
use Rattle.asn1_schema_laws.specs.Records.{choice_begins}
use Rattle.per_codec_packing.specs.FieldLists.{FieldList, field_list_at}
use Rattle.per_codec_packing.specs.Packed.{Packed, place, plus}
use Rattle.per_codec_packing.proofs.Adding.{added as field_list_added}
use Rattle.per_codec_encoder.specs.Steps.{open_type, alternative, position, State, chosen_on, run}
use Rattle.per_codec_writing.specs.Writing.{Adds, Refuses}
use Rattle.per_codec_writing.specs.Indices.{index_form}
use Rattle.per_codec_encoder.specs.declared.frame.Frame.{Frame}
use Rattle.per_codec_encoder.specs.declared.frame.Frame.TheVariants.{OpenType, Alternative}
use Rattle.per_codec_encoder.specs.Holding.{Holds, Does, Cannot}
use Rattle.per_codec_encoder.proofs.Scopes.{at_end, appended, put_back}

-- what follows an index
abbrev then_in : Bool → State → FieldList → State
then_in false s w = (s.0 ++ w, alternative ∷ s.1)
then_in true s w = ([], open_type (s.0 ++ w) ∷ s.1)

chosen_is : (al e added : Bool) (n i : ℕ) (s : State) (q : Option ℕ) → position s ≡ q → chosen_on al e n added i s ≡ option_map (then_in added s) (field_list_at (index_form al n e added i) q)
unfolding field_list_at
chosen_is al e false n i s q h = ap (λ p. option_map (then_in false s) (field_list_at (both (Per.extension_bit_of e false) (Per.constrained al (n - 1) i)) p)) h
chosen_is al true true n i s q h = ap (λ p. option_map (then_in true s) (field_list_at (both (exactly (true ∷ [])) (Per.normally_small al i)) p)) h
chosen_is al false true n i s q h = refl

module _ (al : Bool) (fs : List Frame) (o p : Packed) (n : ℕ) (e added : Bool) (i : ℕ) (ts us : List Tag) (m : length ts ≡ n) where
  at_place : (s : State) → Holds fs o s → run al (choice_begins ts e us added i) s ≡ option_map (then_in added s) (field_list_at (index_form al n e added i) (place o))
  at_place s h = ap (λ k. chosen_on al e k added i s) m ∙ chosen_is al e added n i s (place o) (at_end fs o s h)

  module _ (x : Adds (field_list_at (index_form al n e added i) (place o)) o p) where
    t : (w : FieldList) × (field_list_at (index_form al n e added i) (place o) ≡ Some w) × (plus o w ≡ p)
    t = field_list_added (field_list_at (index_form al n e added i) (place o)) o p x

    there : (s : State) → Holds fs o s → Holds fs p (s.0 ++ t.0, s.1)
    there s h = subst (λ l. Holds fs l (s.0 ++ t.0, s.1)) t.2 (appended fs o s t.0 h)

    taken : (s : State) → Holds fs o s → run al (choice_begins ts e us added i) s ≡ Some (then_in added s (t.0))
    taken s h = at_place s h ∙ ap (option_map (then_in added s)) t.1

    pub does_root : (gs : List Frame) → added ≡ false → gs ≡ Alternative ∷ fs → Does al (choice_begins ts e us added i) fs o gs p
    does_root gs c y = record {
      after = λ s h.
          (then_in false s (t.0), taken s h ∙ ap (λ b. Some (then_in b s (t.0))) c, put_back fs gs Alternative p (then_in false s (t.0)) y ((s.0 ++ t.0, s.1), refl, there s h));
    }

    pub does_added : (gs : List Frame) (outer q : Packed) → added ≡ true → outer ≡ p → q ≡ record { field_list = []; placed = true } →
        gs ≡ OpenType outer ∷ fs → Does al (choice_begins ts e us added i) fs o gs q
    does_added gs outer q c d z y = record { after = λ s h. go s h }
      where
        go : (s : State) → Holds fs o s → (t : State) × (run al (choice_begins ts e us added i) s ≡ Some t) × Holds gs q t
        go s h =
            let u : State = then_in true s (t.0) in (
              u,
              taken s h ∙ ap (λ b. Some (then_in b s (t.0))) c,
              put_back fs gs (OpenType outer) q u y (
                (s.0 ++ t.0, s.1),
                ap (λ (l : Packed). let z : State = (l.field_list, open_type (s.0 ++ t.0) ∷ s.1) in z) (sym z),
                ap
                    (λ (l : Packed). l.placed) z,
                subst (λ l. Holds fs l (s.0 ++ t.0, s.1)) (sym d) (there s h),
              ),
            )

  pub cannot_choose : (x : EncodeError) → Refuses (field_list_at (index_form al n e added i) (place o)) x → Cannot al (choice_begins ts e us added i) fs o x
  cannot_choose x r = go x r
    where
      none : field_list_at (index_form al n e added i) (place o) ≡ None → (s : State) → Holds fs o s → run al (choice_begins ts e us added i) s ≡ None
      none r s h = at_place s h ∙ ap (option_map (then_in added s)) r

      go : (x : EncodeError) → Refuses (field_list_at (index_form al n e added i) (place o)) x → Cannot al (choice_begins ts e us added i) fs o x
      go OutOfMemory r = tt
      go ValueConstraintNotSatisfied r = none r
      go SizeConstraintNotSatisfied r = none r
      go AlphabetConstraintNotSatisfied r = none r
      go TooLongValue r = none r
      go LengthExceedsPlatformSize r = none r
      go CallOutOfPlace r = absurd r
      go AlreadyFailed r = r

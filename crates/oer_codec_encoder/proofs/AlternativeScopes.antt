-- Choices that begin, in the octets and the frames of an encoder.
use Rattle.std.proofs.Common.{◌≡◌, ℕ, zero, suc, ◌<◌, ◌≤◌, length, get_or, map, not, arith, Bool, true, false, List, [], ◌∷◌, ◌++◌, Option, Some, None, option_and_then, refl, ap, subst, sym, ◌∙◌}
use Rattle.asn1_model.specs.Form.{written}
use Rattle.asn1_model.specs.Oer
use Rattle.asn1_model.specs.Schema.{Tag}
use Rattle.asn1_schema_tags.specs.declared.tags.Tag.{Tag as CodeTag}
use Rattle.asn1_schema_tags.specs.Tags.{tag_of}
use Rattle.asn1_schema_laws.specs.Records.{choice_begins}
use Rattle.oer_codec_encoder.specs.Steps.{open_type, alternative, State, run, tag_at, tags_among, chosen_on}
use Rattle.oer_codec_encoder.specs.declared.frame.Frame.{Frame}
use Rattle.oer_codec_encoder.specs.declared.frame.Frame.TheVariants.{OpenType, Alternative}
use Rattle.oer_codec_encoder.specs.Holding.{Holds, Does}
use Rattle.oer_codec_writing.specs.Writing.{Adds}
use Rattle.oer_codec_encoder.proofs.Scopes.{put_back, appended}
use Rattle.oer_codec_encoder.proofs.AdditionScopes.{begins_apart}

-- ---- tags

pub tag_there : (ts : List CodeTag) (i : ℕ) (d : CodeTag) → i < length ts → tag_at i (map tag_of ts) ≡ Some (tag_of (get_or ts i d))
tag_there [] i d h = absurd (omega arith)
tag_there (u ∷ ts) zero d h = refl
tag_there (u ∷ ts) (suc i) d h = tag_there ts i d (omega arith)

pub tag_behind : (ts : List CodeTag) (i : ℕ) → length ts ≤ i → tag_at i (map tag_of ts) ≡ None
tag_behind [] i h = refl
tag_behind (u ∷ ts) zero h = absurd (omega arith)
tag_behind (u ∷ ts) (suc i) h = tag_behind ts i (omega arith)

pub among_roots : (roots : List Tag) (e : Bool) (others : List Tag) (i : ℕ) (plus : Bool) → not plus ≡ true → tag_at i (tags_among roots e others plus) ≡ tag_at i roots
among_roots roots e others i false h = refl
among_roots roots e others i true h = cc

pub among_none : (roots : List Tag) (e : Bool) (others : List Tag) (i : ℕ) (plus : Bool) → not plus ≡ false → e ≡ false → tag_at i (tags_among roots e others plus) ≡ None
among_none roots e others i true h k = ap (λ f. tag_at i (tags_among roots f others true)) k
among_none roots e others i false h k = cc

pub among_others : (roots : List Tag) (e : Bool) (others : List Tag) (i : ℕ) (plus : Bool) → not plus ≡ false → e ≡ true → tag_at i (tags_among roots e others plus) ≡ tag_at i others
among_others roots e others i true h k = ap (λ f. tag_at i (tags_among roots f others true)) k
among_others roots e others i false h k = cc

-- ---- choices

module _ (roots : List Tag) (e : Bool) (others : List Tag) (i : ℕ) where
  -- the tag is written
  begins : (plus : Bool) (tag : Tag) (w : List ℕ) (s : State) → tag_at i (tags_among roots e others plus) ≡ Some tag →
      written (Oer.tag_form tag) 0 ≡ Some w → run (choice_begins roots e others plus i) s ≡ chosen_on plus w s
  begins plus tag w s h k = ap (λ o. option_and_then (λ t. option_and_then (λ w. chosen_on plus w s) (written (Oer.tag_form t) 0)) o) h ∙ ap (λ o. option_and_then (λ w. chosen_on plus w s) o) k

  pub does_begin_root : (fs gs : List Frame) (o p : List ℕ) (plus : Bool) (tag : Tag) → plus ≡ false →
      tag_at i (tags_among roots e others plus) ≡ Some tag → Adds (written (Oer.tag_form tag) 0) o p → gs ≡ Alternative ∷ fs → Does (choice_begins roots e others plus i) fs o gs p
  does_begin_root fs gs o p plus tag c h x y = record { after = λ s d. go s d (written (Oer.tag_form tag) 0) refl x }
    where
      go : (s : State) → Holds fs o s → (t : Option (List ℕ)) → written (Oer.tag_form tag) 0 ≡ t → Adds t o p → (u : State) × (run (choice_begins roots e others plus i) s ≡ Some u) × Holds gs p u
      go s d None q a = cc
      go s d (Some w) q a =
          let u : State = (s.0 ++ w, alternative ∷ s.1) in
          let b : o ++ w ≡ p = cc a in
          (u, begins plus tag w s h q ∙ ap (λ c. chosen_on c w s) c, put_back gs fs Alternative p u y ((s.0 ++ w, s.1), refl, subst (λ l. Holds fs l (s.0 ++ w, s.1)) b (appended fs o s w d)))

  pub does_begin_added : (fs gs : List Frame) (o p q : List ℕ) (plus : Bool) (tag : Tag) → plus ≡ true →
      tag_at i (tags_among roots e others plus) ≡ Some tag → Adds (written (Oer.tag_form tag) 0) o p → q ≡ p ++ 0 ∷ [] →
      gs ≡ OpenType (length p) ∷ fs → Does (choice_begins roots e others plus i) fs o gs q
  does_begin_added fs gs o p q plus tag c h x z y = record { after = λ s d. go s d (written (Oer.tag_form tag) 0) refl x }
    where
      go : (s : State) → Holds fs o s → (t : Option (List ℕ)) → written (Oer.tag_form tag) 0 ≡ t → Adds t o p → (u : State) × (run (choice_begins roots e others plus i) s ≡ Some u) × Holds gs q u
      go s d None k a = cc
      go s d (Some w) k a =
          let t : State = (s.0 ++ w, s.1) in
          let u : State = ([], open_type t.0 ∷ t.1) in
          let b : o ++ w ≡ p = cc a in
          let under : Holds fs p t = subst (λ l. Holds fs l t) b (appended fs o s w d) in
          (u, begins plus tag w s h k ∙ ap (λ c. chosen_on c w s) c, subst (λ l. Holds gs l u) (sym z) (put_back gs fs (OpenType (length p)) (p ++ 0 ∷ []) u y (begins_apart fs p t under)))

  pub no_begin_choice : (fs : List Frame) (o : List ℕ) (plus : Bool) → tag_at i (tags_among roots e others plus) ≡ None → (s : State) → Holds fs o s →
      run (choice_begins roots e others plus i) s ≡ None
  no_begin_choice fs o plus h s d = ap (λ o. option_and_then (λ t. option_and_then (λ w. chosen_on plus w s) (written (Oer.tag_form t) 0)) o) h

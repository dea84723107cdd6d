-- How octets begin with a choice.
use Rattle.std.proofs.Common.{◌≡◌, ℕ, Bool, true, false, List, [], ◌++◌, Some, None, refl, sym, ◌∙◌, subst}
use Rattle.asn1_laws_fronts.proofs.Tags.{tags_alike}
use Rattle.asn1_model.specs.Oer
use Rattle.asn1_model.specs.Schema.{Tag}
use Rattle.asn1_schema_errors.specs.declared.DecodeError.{DecodeError}
use Rattle.asn1_schema_errors.specs.declared.DecodeError.TheVariants.{AlreadyFailed}
use Rattle.oer_codec_laws.specs.Takes.{IsPlace, Enters}
use Rattle.oer_codec_laws.proofs.Next.{same_fronts, same_tag}
use Rattle.oer_codec_reading.specs.Fronts.{Stands, Misses}
use Rattle.oer_codec_reading.proofs.Skipping.{as_front, as_stands}
use Rattle.oer_codec_reading.specs.Alternatives.{NoTag}
use Rattle.oer_codec_decoder.specs.Refusals.{NoEntry, NoChoice}
use Rattle.oer_codec_longer_laws.proofs.Behind.{front_more}
use Rattle.oer_codec_decoder.specs.Missing.{StillTooShort, StillNoEntry, StillNoChoice}
use Rattle.oer_codec_decoder.proofs.Adding.{not_opened}
use Rattle.oer_codec_decoder.proofs.ShortStrings.{none_counted}

module _ (roots : List Tag) (e : Bool) (others : List Tag) (t : Tag) where
  pub same_side : (p q : Bool) (i j : ℕ) → IsPlace roots e others t p i → IsPlace roots e others t q j → p ≡ q
  same_side false false i j f g = refl
  same_side true true i j f g = refl
  same_side false true i j f g = let h : Some i ≡ None = sym f ∙ g.1 in cc h
  same_side true false i j f g = let h : Some j ≡ None = sym g ∙ f.1 in cc h

-- ---- alternatives
pub not_entered : (free : Oer.Freedom → Bool) (plus : Bool) (os : List ℕ) (e : DecodeError) → plus ≡ true → Misses free Oer.counted os e → NoEntry free plus os e
not_entered free true os e p m = record { none = λ i k b t. (not_opened free os e m).none i k b t; fresh = (not_opened free os e m).fresh }
not_entered free false os e p m = cc p

-- ---- the choice
module _ (free : Oer.Freedom → Bool) (roots : List Tag) (x : Bool) (others : List Tag) where
  pub no_choice : (os : List ℕ) (e : DecodeError) → NoTag free roots others os e → NoChoice free roots x others os e
  no_choice os e h = record { none = λ i plus j k b c. h.none i x c.0 plus j c.1 c.2 (as_stands free (Oer.tag_form c.0) os c.1 c.3); fresh = h.fresh }

  -- octets begin with at most one tag
  pub one_tag : (t u : Tag) (os r s : List ℕ) → Stands free (Oer.tag_form t) os r → Stands free (Oer.tag_form u) os s → (t ≡ u) × (r ≡ s)
  one_tag t u os r s h g =
      let q = same_fronts free (tags_alike free t u) os r s (as_front free (Oer.tag_form t) os r h) (as_front free (Oer.tag_form u) os s g) in
      (same_tag t u q.0, q.1)

  pub no_alternative : (t : Tag) (os mid : List ℕ) (e : DecodeError) → ¬ (e ≡ AlreadyFailed) → Stands free (Oer.tag_form t) os mid →
      ((plus : Bool) (i : ℕ) → IsPlace roots x others t plus i → ⊥) → NoChoice free roots x others os e
  no_alternative t os mid e n h none = record {
    fresh = n;
    none = λ i plus j k b c.
        let q = one_tag c.0 t os c.1 mid (as_stands free (Oer.tag_form c.0) os c.1 c.3) h in
        none plus j (subst (λ u. IsPlace roots x others u plus j) q.0 c.2);
  }

  pub no_entry : (t : Tag) (p : Bool) (n : ℕ) (os mid : List ℕ) (e : DecodeError) → Stands free (Oer.tag_form t) os mid →
      IsPlace roots x others t p n → NoEntry free p mid e → NoChoice free roots x others os e
  no_entry t p n os mid e h place entry = record {
    fresh = entry.fresh;
    none = λ i plus j k b c.
        let q = one_tag c.0 t os c.1 mid (as_stands free (Oer.tag_form c.0) os c.1 c.3) h in
        let s : plus ≡ p = same_side roots x others t plus p j n (subst (λ u. IsPlace roots x others u plus j) q.0 c.2) place in
        entry.none i k b (subst (λ m. Enters free p m k b) q.1 (subst (λ a. Enters free a c.1 k b) s c.4));
  }

  -- if octets of an alternative are missing after its tag, octets of the choice are
  pub no_choice_yet : (t : Tag) (p : Bool) (n : ℕ) (os mid : List ℕ) (m : ℕ) → Stands free (Oer.tag_form t) os mid → IsPlace roots x others t p n →
      StillNoEntry free p mid m → StillNoChoice free roots x others os m
  no_choice_yet t p n os mid m h place entry more i l plus j k b c =
      let g = front_more free more (Oer.tag_form t) [] os mid (as_front free (Oer.tag_form t) os mid h) in
      let q = one_tag c.0 t (os ++ more) c.1 (mid ++ more) (as_stands free (Oer.tag_form c.0) (os ++ more) c.1 c.3) (as_stands free (Oer.tag_form t) (os ++ more) (mid ++ more) g) in
      let s : plus ≡ p = same_side roots x others t plus p j n (subst (λ u. IsPlace roots x others u plus j) q.0 c.2) place in
      entry more i l k b (subst (λ m. Enters free p m k b) q.1 (subst (λ a. Enters free a c.1 k b) s c.4))

pub no_entry_yet : (free : Oer.Freedom → Bool) (p : Bool) (os : List ℕ) (n : ℕ) → p ≡ true → StillTooShort free None os n → StillNoEntry free p os n
no_entry_yet free true os n e short more i l k b c = none_counted free (os ++ more) (short more i l) b.0 c.0 (as_stands free (Oer.counted b.0) (os ++ more) c.0 c.1)
no_entry_yet free false os n e short more i l k b c = cc e

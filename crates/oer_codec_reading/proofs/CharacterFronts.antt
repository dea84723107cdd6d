-- Octets that begin with a restricted character string other than UTF8String.
use Rattle.std.proofs.Common.{◌≡◌, ℕ, ◌*◌, ◌/◌, ◌%◌, ◌<◌, Bool, true, false, cond, ◌&&◌, ◌⊎◌, inl, inr, Option, Some, None, List, length, ap, sym, subst, ◌∙◌, arith}
use Rattle.std.proofs.lemmas.Bool.{false≢true, and_parts, and_from}
use Rattle.asn1_model.specs.Form.{Reads}
use Rattle.asn1_model.specs.Oer.{Freedom, form, is_fixed, octets_form, string_octets}
use Rattle.asn1_model.specs.Numbers.{admits}
use Rattle.asn1_model.specs.Schema.{Size, Counts, Alphabet, StringKind, character_string}
use Rattle.asn1_model.specs.Strings.{may_hold}
use Rattle.asn1_model.specs.Value.{Value, text}
use Rattle.asn1_schema_errors.specs.declared.DecodeError.{DecodeError}
use Rattle.asn1_schema_errors.specs.declared.DecodeError.TheVariants.{AlreadyFailed, OutOfMemory}
use Rattle.asn1_values_alphabets.specs.Permitted.{permits, permits_all}
use Rattle.oer_codec_reading.specs.Fronts.{Stands, FrontOf, NoneStands, NoFront, Misses}
use Rattle.asn1_schema_constraints.specs.Terms.{one_size}
use Rattle.oer_codec_reading.specs.Sized.{sized}
use Rattle.oer_codec_reading.proofs.Fronts.{if_stands, if_front, none_misses}
use Rattle.oer_codec_reading.proofs.SizedFronts.{one_length, sized_one, sized_octets, to_sized, from_sized, too_few}
use Rattle.oer_codec_reading.specs.Characters.{width, octets_of_characters, characters_in, octet_size}
use Rattle.oer_codec_reading.proofs.Spelled.{length-characters, length-spelled, text_octets, characters-spelled, spelled-characters}

-- ---- octets of a number of characters
pub few_characters : (free : Freedom → Bool) (wide : Bool) (size : Option ℕ) (n : ℕ) (w : List ℕ) → size ≡ Some n → length w < n → NoneStands free (sized (octet_size wide size)) w
few_characters free true size n w e l = too_few free (octet_size true size) (n * 2) w (ap (octet_size true) e) (omega (arith, l))
few_characters free false size n w e l = too_few free (octet_size false size) (n * 1) w (ap (octet_size false) e) (omega (arith, l))

pub of_one_size : (wide : Bool) (size : Option ℕ) (n k : ℕ) → size ≡ Some n → k ≡ width wide → Some (n * k) ≡ octet_size wide size
of_one_size wide size n k e f = ap (λ m. Some (n * m)) f ∙ sym (ap (octet_size wide) e)

pub same_misses : (free : Freedom → Bool) (s t : Option ℕ) (w : List ℕ) (e : DecodeError) → s ≡ t → Misses free (sized s) w e → Misses free (sized t) w e
same_misses free s t w e h m = subst (λ x. Misses free (sized x) w e) h m

-- ---- a length in characters, and in octets
times : (wide : Bool) (n : ℕ) → n * width wide / width wide ≡ n
times true n = omega arith
times false n = omega arith

no_rest : (wide : Bool) (n : ℕ) → n * width wide % width wide ≡ 0
no_rest true n = omega arith
no_rest false n = omega arith

module _ (free : Freedom → Bool) (k : StringKind) (law : (cs : List ℕ) → may_hold k cs ≡ permits_all k cs) (wide : Bool) (is : permits k 256 ≡ wide) (z : Size) (a : Alphabet) (h : Counts) where
  -- octets of a fixed size, or after a length determinant, as the type has them
  from_octets : (t : Bool) (low : ℕ) (os w rest : List ℕ) → Stands free (sized (octet_size wide (cond t (Some low) None)) os) w rest → Stands free (octets_form t os) w rest
  from_octets true low os w rest f = from_sized free true (low * width wide) os w rest f
  from_octets false low os w rest f = from_sized free false (low * width wide) os w rest f

  to_octets : (t : Bool) (low : ℕ) (os w rest : List ℕ) → (t ≡ true → length os ≡ low * width wide) → Stands free (octets_form t os) w rest →
      Stands free (sized (octet_size wide (cond t (Some low) None)) os) w rest
  to_octets true low os w rest e f = to_sized free true (low * width wide) os w rest e f
  to_octets false low os w rest e f = to_sized free false (low * width wide) os w rest (λ t. absurd (false≢true t)) f

  record Spells (w rest : List ℕ) : Type 0 where
    characters : List ℕ
    admitted : admits z h (length characters) ≡ true
    permitted : permits_all k characters ≡ true
    octets : Stands free (sized (octet_size wide (one_size z)) (octets_of_characters wide characters)) w rest

  spells : (v : Value) (w rest : List ℕ) → FrontOf free (character_string k z a h) v w rest → Spells w rest
  unfolding form Reads
  spells (text cs) w rest f =
      let i = if_front free (admits z h (length cs) && may_hold k cs) (octets_form (is_fixed z) (string_octets k cs)) w rest f in
      let p = and_parts _ _ i.0 in
      let s = subst (λ os. Stands free (octets_form (is_fixed z) os) w rest) (text_octets k wide is cs) i.1 in
      record {
        characters = cs;
        admitted = p.0;
        permitted = sym (law cs) ∙ p.1;
        octets = to_octets (is_fixed z) z.counts.low (octets_of_characters wide cs) w rest (λ e. length-spelled wide cs ∙ ap (λ n. n * width wide) (one_length z h (length cs) e p.0)) s;
      }
  spells v w rest f = absurd f.2

  module _ (size : Option ℕ) (of : size ≡ one_size z) where
    -- Octets of permitted characters, in an admitted number, are a string.
    pub characters_stand : (os cs w rest : List ℕ) → cs ≡ characters_in wide os → length os % width wide ≡ 0 →
        admits z h (length os / width wide) ≡ true → permits_all k (characters_in wide os) ≡ true →
        Stands free (sized (octet_size wide size) os) w rest → FrontOf free (character_string k z a h) (text cs) w rest
    unfolding form Reads
    characters_stand os cs w rest c e m p f =
        let s = subst (λ n. Stands free (sized (octet_size wide n) os) w rest) of f in
        let o : octets_of_characters wide (characters_in wide os) ≡ os = spelled-characters wide os (sized_octets free (octet_size wide size) os w rest f) e in
        let t : string_octets k cs ≡ os = text_octets k wide is cs ∙ ap (octets_of_characters wide) c ∙ o in
        let l : admits z h (length cs) ≡ true = ap (admits z h) (ap length c ∙ length-characters wide os) ∙ m in
        let q : may_hold k cs ≡ true = law cs ∙ ap (permits_all k) c ∙ p in
        if_stands free (admits z h (length cs) && may_hold k cs) (octets_form (is_fixed z) (string_octets k cs)) w rest (and_from _ _ l q)
        (subst (λ x. Stands free (octets_form (is_fixed z) x) w rest) (sym t) (from_octets (is_fixed z) z.counts.low os w rest s))

    pub no_octets : (w : List ℕ) → NoneStands free (sized (octet_size wide size)) w → NoneStands free (form (character_string k z a h)) w
    no_octets w n v rest f =
        let s = spells v w rest f in
        n (octets_of_characters wide s.characters) rest (subst (λ m. Stands free (sized (octet_size wide m) (octets_of_characters wide s.characters)) w rest) (sym of) s.octets)

    -- Octets that are not those of admitted and permitted characters are no string.
    no_string : (os w mid : List ℕ) → Stands free (sized (octet_size wide size) os) w mid →
        ((cs : List ℕ) → admits z h (length cs) ≡ true → permits_all k cs ≡ true → os ≡ octets_of_characters wide cs → ⊥) → NoneStands free (form (character_string k z a h)) w
    no_string os w mid f n v rest g =
        let s = spells v w rest g in
        n s.characters s.admitted s.permitted (sized_one free (octet_size wide size) os (octets_of_characters wide s.characters) w mid rest f
        (subst (λ m. Stands free (sized (octet_size wide m) (octets_of_characters wide s.characters)) w rest) (sym of) s.octets)).0

    pub odd_octets : (os w mid : List ℕ) → (length os % width wide ≡ 0 → ⊥) → Stands free (sized (octet_size wide size) os) w mid → NoneStands free (form (character_string k z a h)) w
    odd_octets os w mid n f = no_string os w mid f (λ cs m p e. n (ap (λ x. x % width wide) (ap length e ∙ length-spelled wide cs) ∙ no_rest wide (length cs)))

    pub not_admitted : (os w mid : List ℕ) → admits z h (length os / width wide) ≡ false → Stands free (sized (octet_size wide size) os) w mid → NoneStands free (form (character_string k z a h)) w
    not_admitted os w mid n f = no_string os w mid f (λ cs m p e. false≢true (sym n ∙ ap (admits z h) (ap (λ x. x / width wide) (ap length e ∙ length-spelled wide cs) ∙ times wide (length cs)) ∙ m))

    not_permitted : (os w mid : List ℕ) → permits_all k (characters_in wide os) ≡ false → Stands free (sized (octet_size wide size) os) w mid → NoneStands free (form (character_string k z a h)) w
    not_permitted os w mid n f = no_string os w mid f (λ cs m p e. false≢true (sym n ∙ ap (λ x. permits_all k (characters_in wide x)) e ∙ ap (permits_all k) (characters-spelled k wide cs is p) ∙ p))

    pub not_spelled : (os w mid : List ℕ) (e : DecodeError) → ¬ (e ≡ AlreadyFailed) →
        (e ≡ OutOfMemory) ⊎ (permits_all k (characters_in wide os) ≡ false) → Stands free (sized (octet_size wide size) os) w mid → NoFront free (character_string k z a h) w e
    not_spelled os w mid e q (inl m) f = subst (NoFront free (character_string k z a h) w) (sym m) tt
    not_spelled os w mid e q (inr n) f = none_misses free (form (character_string k z a h)) w e q (not_permitted os w mid n f)

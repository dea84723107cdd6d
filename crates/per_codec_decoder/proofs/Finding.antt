-- How a requested record is found, and why none is.
use Rattle.std.proofs.Common.{◌≡◌, ℕ, ℤ, suc, ◌+◌, Bool, true, false, ◌||◌, ◌&&◌, List, ◌∷◌, length, Some, Result, Ok, Err, refl, sym, ◌∙◌, ap, subst, arith}
use Rattle.std.specs.Prelude.{OnOk, not, is_some}
use Rattle.asn1_schema_laws.specs.Levels.{level}
use Rattle.asn1_model.specs.Value.{Value, truth, nothing, number, item, bit_list, octet_list, text, arcs}
use Rattle.asn1_model.specs.Schema.{Range, Bounds, Counts, Size, Alphabet, StringKind, Schema, boolean, null, integer, enumerated, bit_string, octet_string, character_string, object_identifier}
use Rattle.asn1_model.specs.Numbers.{is_within, is_count_within, fits_128}
use Rattle.asn1_model.specs.Strings.{is_octet}
use Rattle.std.specs.List.{list_all}
use Rattle.asn1_model.specs.Normal.{is_bounded}
use Rattle.asn1_model.specs.Per
use Rattle.asn1_laws_fronts.proofs.PerNumbers.{length_of_map}
use Rattle.asn1_schema_decode.specs.Reads.{NoRecord}
use Rattle.asn1_schema_lacking_laws.specs.Carried.{AtOnce}
use Rattle.asn1_schema_decode.proofs.AtOnce.{none_at_once}
use Rattle.asn1_schema_errors.specs.declared.DecodeError.{DecodeError}
use Rattle.asn1_schema_laws.specs.Records.{Record, Question, question, flag, nil, whole, one_of, bits, octets}
use Rattle.asn1_schema_laws.specs.Records.{characters, identifier, further, presence_bit, asks_flag, asks_nil}
use Rattle.asn1_schema_laws.specs.Records.{asks_whole, asks_one_of, asks_bits, asks_octets, asks_characters}
use Rattle.asn1_schema_laws.specs.Records.{asks_identifier, asks_further, asks_presence_bit}
use Rattle.per_codec_laws.specs.Takes.{Position, Scope, components, State, Front, Found, NextMember, NextPresenceBit, Begins, Takes}
use Rattle.per_codec_laws.proofs.Fronts.{if_out}
use Rattle.per_codec_reading.specs.Fronts.{freedoms, is_aligned, Misses}
use Rattle.per_codec_held_laws.specs.Held.{Held, state_of, kept, Finds}
use Rattle.per_codec_held_laws.specs.Held.{IsReady}
use Rattle.per_codec_decoder.specs.Members.{NoFurther}
use Rattle.per_codec_decoder.specs.Preamble.{HasPreamble}
use Rattle.per_codec_reading.proofs.Fronts.{missed}

-- ---- scalars
module _ (al : Bool) (free : Per.Freedom → Bool) (a b : State) where
  abbrev pub OfType : Schema → Type 0
  OfType s = (v : Value) × Found free (Per.form al s v) a b

  pub asked_flag : (r : Record) → question r ≡ asks_flag → Takes al free a r b → OfType boolean
  asked_flag (flag v) k t = (truth v, t)
  asked_flag r k t = cc k

  pub asked_nil : (r : Record) → question r ≡ asks_nil → Takes al free a r b → OfType null
  asked_nil nil k t = (nothing, t)
  asked_nil r k t = cc k

  pub asked_whole : (z : Bounds) (h : Range) (r : Record) → question r ≡ asks_whole z h → Takes al free a r b → OfType (integer z h)
  asked_whole z h (whole y i v) k t = let e : integer y i ≡ integer z h = cc k in (number v, subst (λ s. Found free (Per.form al s (number v)) a b) e t)
  asked_whole z h r k t = cc k

  pub asked_one_of : (ds : List ℤ) (e : Bool) (us : List ℤ) (r : Record) → question r ≡ asks_one_of ds e us → Takes al free a r b → OfType (enumerated ds e us)
  asked_one_of ds e us (one_of xs d ys v) k t = let p : enumerated xs d ys ≡ enumerated ds e us = cc k in (item v, subst (λ s. Found free (Per.form al s (item v)) a b) p t)
  asked_one_of ds e us r k t = cc k

  pub asked_bits : (z : Size) (h : Counts) (r : Record) → question r ≡ asks_bits z h → Takes al free a r b → OfType (bit_string z h)
  asked_bits z h (bits y i v) k t = let e : bit_string y i ≡ bit_string z h = cc k in (bit_list v, subst (λ s. Found free (Per.form al s (bit_list v)) a b) e t)
  asked_bits z h r k t = cc k

  pub asked_octets : (z : Size) (h : Counts) (r : Record) → question r ≡ asks_octets z h → Takes al free a r b → OfType (octet_string z h)
  asked_octets z h (octets y i v) k t = let e : octet_string y i ≡ octet_string z h = cc k in (octet_list v, subst (λ s. Found free (Per.form al s (octet_list v)) a b) e t)
  asked_octets z h r k t = cc k

  pub asked_characters : (c : StringKind) (z : Size) (l : Alphabet) (h : Counts) (r : Record) → question r ≡ asks_characters c z l h → Takes al free a r b → OfType (character_string c z l h)
  asked_characters c z l h (characters d y m i v) k t =
      let e : characters d y m i v ≡ characters c z l h v = cc k in
      let u : Takes al free a (characters c z l h v) b = subst (λ s. Takes al free a s b) e t in
      (text v, u)
  asked_characters c z l h r k t = cc k

  pub asked_identifier : (r : Record) → question r ≡ asks_identifier → Takes al free a r b → OfType object_identifier
  asked_identifier (identifier v) k t = (arcs v, t)
  asked_identifier r k t = cc k

-- no value of a type is found if the bits do not begin with one
pub none_found : {failed : Held} (old now : Held) (q : Question) (s : Schema) (e x : DecodeError) → now ≡ old → x ≡ e →
    Misses (freedoms now.rules) (Per.form (is_aligned now.rules) s) now.place e →
    ((al : Bool) (free : Per.Freedom → Bool) (a b : State) (r : Record) → question r ≡ q → Takes al free a r b → OfType al free a b s) → NoRecord Finds AtOnce q old failed x
none_found old now q s e x same faults m asked =
    let n : Misses (freedoms old.rules) (Per.form (is_aligned old.rules) s) old.place e = subst (λ (h : Held). Misses (freedoms h.rules) (Per.form (is_aligned h.rules) s) h.place e) same m in
    none_at_once Finds (λ i r new k p. let t = asked (is_aligned old.rules) (freedoms old.rules) (state_of old) (state_of new) r k p.taken in
    missed (freedoms old.rules) (Per.form (is_aligned old.rules) s) old.place e n (λ y. i (faults ∙ y)) t.0 new.place t.1.0)

-- ---- what a form says of a value
module _ (free : Per.Freedom → Bool) (al : Bool) (a b : Position) where
  pub octets_within : (z : Size) (h : Counts) (v : List ℕ) → Front free (Per.form al (octet_string z h) (octet_list v)) a b → is_count_within h (length v) ≡ true
  unfolding Per.form Per.sized
  octets_within z h v f = subst (λ n. is_count_within h n ≡ true) (length_of_map _ v)
      (if_out free (is_count_within h (length (Per.octet_units v))) _ a b (if_out free (list_all is_octet v) _ a b f).1).0

  pub bits_within : (z : Size) (h : Counts) (v : List Bool) → Front free (Per.form al (bit_string z h) (bit_list v)) a b → is_count_within h (length v) ≡ true
  unfolding Per.form Per.sized
  bits_within z h v f = subst (λ n. is_count_within h n ≡ true) (length_of_map _ v) (if_out free (is_count_within h (length (Per.bit_units v))) _ a b f).0

  in_bounds : (e c : Bool) (x y : Per.BitForm) → Front free (Per.with_extension_bit e c x y) a b → (e || c) ≡ true
  unfolding Per.with_extension_bit
  in_bounds true c x y f = refl
  in_bounds false c x y f = (if_out free c x a b f).0

  pub number_within : (z : Bounds) (h : Range) (v : ℤ) → Front free (Per.form al (integer z h) (number v)) a b → (z.extensible || is_within z.range v) ≡ true
  unfolding Per.form Per.integer_form
  number_within z h v f = in_bounds z.extensible (is_within z.range v) _ _ (if_out free (is_within h v && (not (is_bounded z) || fits_128 v)) _ a b f).1

-- ---- what opens a scope
pub both_ok : {A E : Type 0} {P Q R : Type 0} (r : Result A E) → OnOk r P → OnOk r Q → (P → Q → R) → OnOk r R
both_ok (Ok x) p q f = f p q
both_ok (Err e) p q f = tt

pub opens : (old now new : Held) (s : Scope) (rest : Position) (r : Record) → now ≡ old → IsReady old →
    Takes (is_aligned now.rules) (freedoms now.rules) (state_of now) r (rest, s ∷ now.scopes) → ((most l : ℕ) → level most r (suc l) ≡ Some l) →
    old.stands ≡ kept old r new.place new.scopes → now.levels ≡ new.levels + 1 →
    new ≡ record { place = rest; scopes = s ∷ now.scopes; levels = new.levels; most = now.most; failed = now.failed; rules = now.rules; stands = now.stands } → Finds old r new
opens old now new s rest r same ready t lower u e f =
    let g : Takes (is_aligned old.rules) (freedoms old.rules) (state_of old) r (rest, s ∷ old.scopes) =
    subst (λ (h : Held). Takes (is_aligned h.rules) (freedoms h.rules) (state_of h) r (rest, s ∷ h.scopes)) same t in
    let k : (rest, s ∷ old.scopes) ≡ state_of new = ap (λ (h : Held). (rest, s ∷ h.scopes)) (sym same) ∙ sym (ap state_of f) in
    let l : old.levels ≡ suc new.levels = let i : old.levels ≡ now.levels = ap (λ (h : Held). h.levels) (sym same) in omega (arith, e, i) in
    record {
      ready = ready;
      taken = subst (Takes (is_aligned old.rules) (freedoms old.rules) (state_of old) r) k g;
      levels = ap (level old.most r) l ∙ lower old.most new.levels;
      most = ap (λ (h : Held). h.most) f ∙ ap (λ (h : Held). h.most) same;
      ready_still = ap (λ (h : Held). is_some h.failed) f ∙ ap (λ (h : Held). is_some h.failed) same ∙ ready;
      rules = ap (λ (h : Held). h.rules) f ∙ ap (λ (h : Held). h.rules) same;
      stands = ap (λ (h : Held). h.stands) f ∙ ap (λ (h : Held). h.stands) same ∙ u;
    }

-- ---- SEQUENCE
pub begins : (free : Per.Freedom → Bool) (e : Bool) (n : ℕ) (s : Scope) (a b : Position) (k : List Scope) → HasPreamble free e n s a b → Begins free e n (a, k) (b, s ∷ k)
begins free e n (components x ms) a b k h = (x, ms, h.0, h.1, h.2, refl)
begins free e n s a b k h = absurd h

-- ---- elements
asked_further : (al : Bool) (free : Per.Freedom → Bool) (a b : State) (r : Record) → question r ≡ asks_further → Takes al free a r b → (v : Bool) × NextMember al free v a.0 a.1 b
asked_further al free a b (further v) k t = (v, t)
asked_further al free a b r k t = cc k

pub no_member : {failed : Held} (old now : Held) (e x : DecodeError) → now ≡ old → x ≡ e →
    NoFurther (is_aligned now.rules) (freedoms now.rules) now.place now.scopes e → NoRecord Finds AtOnce asks_further old failed x
no_member old now e x same faults m =
    let n : NoFurther (is_aligned old.rules) (freedoms old.rules) old.place old.scopes e = subst (λ (g : Held). NoFurther (is_aligned g.rules) (freedoms g.rules) g.place g.scopes e) same m in
    none_at_once Finds (λ i r new k p. let t = asked_further (is_aligned old.rules) (freedoms old.rules) (state_of old) (state_of new) r k p.taken in
    n.none (λ y. i (faults ∙ y)) t.0 (state_of new) t.1)

-- ---- presence bits
asked_presence_bit : (al : Bool) (free : Per.Freedom → Bool) (a b : State) (r : Record) → question r ≡ asks_presence_bit → Takes al free a r b → (v : Bool) × NextPresenceBit v a.0 a.1 b
asked_presence_bit al free a b (presence_bit v) k t = (v, t)
asked_presence_bit al free a b r k t = cc k

pub no_presence_bit : {failed : Held} (old now : Held) (x : DecodeError) → now ≡ old →
    ((v : Bool) (p : Position) (b : State) → NextPresenceBit v p now.scopes b → ⊥) → NoRecord Finds AtOnce asks_presence_bit old failed x
no_presence_bit old now x same none = none_at_once Finds (λ i r new k p.
    let t = asked_presence_bit (is_aligned old.rules) (freedoms old.rules) (state_of old) (state_of new) r k p.taken in
    none t.0 old.place (state_of new) (subst (λ (h : Held). NextPresenceBit t.0 old.place h.scopes (state_of new)) (sym same) t.1))

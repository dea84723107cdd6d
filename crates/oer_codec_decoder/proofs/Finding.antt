-- How a requested record is found, and why none is.
use Rattle.std.proofs.Common.{◌≡◌, ℕ, ℤ, zero, ◌+◌, ◌<◌, ◌≤◌, ◌^◌, suc, ltb, Bool, cond, true, false, ◌||◌, List, [], ◌∷◌, length, take, Some, Result, Ok, Err, refl, sym, ◌∙◌, ap, subst, arith}
use Rattle.std.proofs.lemmas.Bool.{and_parts, le-leb, leb-true}
use Rattle.std.specs.Prelude.{OnOk, leb}
use Rattle.asn1_schema_laws.specs.Levels.{level}
use Rattle.asn1_model.specs.Numbers.{admits}
use Rattle.asn1_model.specs.Value.{Value, truth, nothing, number, bit_list, octet_list, text, arcs}
use Rattle.asn1_model.specs.Schema.{Range, Bounds, Counts, Size, Alphabet, StringKind, Schema, boolean, null, integer, bit_string, octet_string, character_string, object_identifier}
use Rattle.asn1_model.specs.Numbers.{is_within, is_count_within}
use Rattle.asn1_model.specs.Form.{Reads, only_if}
use Rattle.asn1_model.specs.Oer
use Rattle.asn1_laws_fronts.proofs.OerNumbers.{unsigned_alike}
use Rattle.oer_codec_decoder.proofs.Refused.{NoneIn, NoneInLevel}
use Rattle.asn1_schema_errors.specs.declared.DecodeError.{DecodeError}
use Rattle.asn1_schema_errors.specs.declared.DecodeError.TheVariants.{AlreadyFailed, OutOfMemory}
use Rattle.asn1_schema_laws.specs.Records.{Record, Question, question, flag, nil, whole, bits, octets, characters}
use Rattle.asn1_schema_laws.specs.Records.{identifier, list_begins, sequence_begins, asks_flag, asks_nil, asks_whole}
use Rattle.asn1_schema_laws.specs.Records.{asks_bits, asks_octets, asks_characters, asks_identifier, asks_list}
use Rattle.asn1_schema_laws.specs.Records.{asks_sequence}
use Rattle.oer_codec_reading.specs.Fronts.{freedoms, Stands, Misses, NoFront, FrontOf}
use Rattle.oer_codec_reading.proofs.Fronts.{missed, not_before}
use Rattle.oer_codec_reading.specs.Integers.{count_in}
use Rattle.oer_codec_laws.specs.Takes.{Scope, components, members, State, Front, Found, ListBegins, Begins, Takes}
use Rattle.oer_codec_laws.proofs.Next.{same_fronts}
use Rattle.oer_codec_held_laws.specs.Held.{Held, state_of, Finds, IsReady}
use Rattle.oer_codec_decoder.specs.Members.{HasMembers, NoMembers}
use Rattle.oer_codec_decoder.specs.Preamble.{HasPreamble}
use Rattle.std.specs.Option.{option_map_or}

-- a list is its own prefix of a length, if it is no longer
pub take_whole : {X : Type 0} (k : ℕ) (l : List X) → length l ≤ k → take k l ≡ l
take_whole zero [] h = refl
take_whole zero (x ∷ l) h = absurd (omega (arith, h))
take_whole (suc k) [] h = refl
take_whole (suc k) (x ∷ l) h = ap (λ t. x ∷ t) (take_whole k l (omega (arith, h)))

pub stands : {free : Oer.Freedom → Bool} {x : Oer.OctetForm} {os rest : List ℕ} → Front free x os rest → Stands free x os rest
stands f = (f.text, f.in_front, f.has_form)

-- ---- scalars
module _ (free : Oer.Freedom → Bool) (a b : State) where
  abbrev pub OfType : Schema → Type 0
  OfType s = (v : Value) × Found free (Oer.form s v) a b

  pub asked_flag : (r : Record) → question r ≡ asks_flag → Takes free a r b → OfType boolean
  asked_flag (flag v) k t = (truth v, t)
  asked_flag r k t = cc k

  pub asked_nil : (r : Record) → question r ≡ asks_nil → Takes free a r b → OfType null
  asked_nil nil k t = (nothing, t)
  asked_nil r k t = cc k

  pub asked_whole : (z : Bounds) (h : Range) (r : Record) → question r ≡ asks_whole z h → Takes free a r b → OfType (integer z h)
  asked_whole z h (whole y i v) k t = let e : integer y i ≡ integer z h = cc k in (number v, subst (λ s. Found free (Oer.form s (number v)) a b) e t)
  asked_whole z h r k t = cc k

  pub asked_bits : (z : Size) (h : Counts) (r : Record) → question r ≡ asks_bits z h → Takes free a r b → OfType (bit_string z h)
  asked_bits z h (bits y i v) k t = let e : bit_string y i ≡ bit_string z h = cc k in (bit_list v, subst (λ s. Found free (Oer.form s (bit_list v)) a b) e t)
  asked_bits z h r k t = cc k

  pub asked_octets : (z : Size) (h : Counts) (r : Record) → question r ≡ asks_octets z h → Takes free a r b → OfType (octet_string z h)
  asked_octets z h (octets y i v) k t = let e : octet_string y i ≡ octet_string z h = cc k in (octet_list v, subst (λ s. Found free (Oer.form s (octet_list v)) a b) e t)
  asked_octets z h r k t = cc k

  pub asked_characters : (c : StringKind) (z : Size) (l : Alphabet) (h : Counts) (r : Record) → question r ≡ asks_characters c z l h → Takes free a r b → OfType (character_string c z l h)
  asked_characters c z l h (characters d y m i v) k t = let e : character_string d y m i ≡ character_string c z l h = cc k in (text v, subst (λ s. Found free (Oer.form s (text v)) a b) e t)
  asked_characters c z l h r k t = cc k

  pub asked_identifier : (r : Record) → question r ≡ asks_identifier → Takes free a r b → OfType object_identifier
  asked_identifier (identifier v) k t = (arcs v, t)
  asked_identifier r k t = cc k

-- no value of a type is found if the octets do not begin with one
pub none_found : (old now : Held) (q : Question) (s : Schema) (e x : DecodeError) → now ≡ old → x ≡ e → NoFront (freedoms now.rules) s now.octets e →
    ((free : Oer.Freedom → Bool) (a b : State) (r : Record) → question r ≡ q → Takes free a r b → OfType free a b s) → NoneIn q old x
none_found old now q s e x same faults m asked =
    let n : NoFront (freedoms old.rules) s old.octets e = subst (λ (h : Held). NoFront (freedoms h.rules) s h.octets e) same m in
    record {
      none = λ i r new k p. let t = asked (freedoms old.rules) (state_of old) (state_of new) r k p.taken in
          missed (freedoms old.rules) (Oer.form s) old.octets e n (λ y. i (faults ∙ y)) t.0 new.octets (stands t.1.0);
    }

-- ---- what a form says of a value
reads_if : (free : Oer.Freedom → Bool) (c : Bool) (x : Oer.OctetForm) (w : List ℕ) → Reads free (only_if c x) 0 w → c ≡ true
unfolding Reads
reads_if free true x w r = refl
reads_if free false x w r = absurd r

if_reads : (free : Oer.Freedom → Bool) (c : Bool) (x : Oer.OctetForm) (w : List ℕ) → Reads free (only_if c x) 0 w → Reads free x 0 w
unfolding Reads
if_reads free true x w r = r
if_reads free false x w r = absurd r

pub octets_within : (free : Oer.Freedom → Bool) (z : Size) (h : Counts) (v : List ℕ) (os rest : List ℕ) → FrontOf free (octet_string z h) (octet_list v) os rest → is_count_within h (length v) ≡ true
unfolding Oer.form
octets_within free z h v os rest f = (and_parts _ _ (reads_if free (admits z h (length v)) _ f.0 f.2)).0

pub bits_within : (free : Oer.Freedom → Bool) (z : Size) (h : Counts) (v : List Bool) (os rest : List ℕ) → FrontOf free (bit_string z h) (bit_list v) os rest → is_count_within h (length v) ≡ true
unfolding Oer.form
bits_within free z h v os rest f = (and_parts _ _ (reads_if free (admits z h (length v)) _ f.0 f.2)).0

in_bounds : (free : Oer.Freedom → Bool) (z : Bool) (c : Bool) (x y : Oer.OctetForm) (w : List ℕ) → Reads free (cond z x (only_if c y)) 0 w → (z || c) ≡ true
unfolding Reads
in_bounds free true c x y w r = refl
in_bounds free false true x y w r = refl
in_bounds free false false x y w r = absurd r

pub number_within : (free : Oer.Freedom → Bool) (z : Bounds) (h : Range) (v : ℤ) (os rest : List ℕ) → FrontOf free (integer z h) (number v) os rest → (z.extensible || is_within z.range v) ≡ true
unfolding Oer.form Oer.integer_form
number_within free z h v os rest f = in_bounds free z.extensible (is_within z.range v) _ _ f.0 (if_reads free _ _ f.0 f.2)

-- ---- what opens a scope
pub both_ok : {A E : Type 0} {P Q R : Type 0} (r : Result A E) → OnOk r P → OnOk r Q → (P → Q → R) → OnOk r R
both_ok (Ok x) p q f = f p q
both_ok (Err e) p q f = tt

pub opens : (old now new : Held) (s : Scope) (rest : List ℕ) (r : Record) → now ≡ old → IsReady old →
    Takes (freedoms now.rules) (state_of now) r (rest, s ∷ now.scopes) → ((most l : ℕ) → level most r (suc l) ≡ Some l) →
    now.levels ≡ new.levels + 1 → new ≡ record {
      octets = rest;
      scopes = s ∷ now.scopes;
      levels = new.levels;
      most = now.most;
      failed =
          now.failed;
      short = now.short;
      rules = now.rules;
    } → Finds old r new
opens old now new s rest r same ready t lower e f =
    let g : Takes (freedoms old.rules) (state_of old) r (rest, s ∷ old.scopes) = subst (λ (h : Held). Takes (freedoms h.rules) (state_of h) r (rest, s ∷ h.scopes)) same t in
    let k : (rest, s ∷ old.scopes) ≡ state_of new = ap (λ (h : Held). (rest, s ∷ h.scopes)) (sym same) ∙ sym (ap state_of f) in
    let l : old.levels ≡ suc new.levels = let i : old.levels ≡ now.levels = ap (λ (h : Held). h.levels) (sym same) in omega (arith, e, i) in
    record {
      ready = ready;
      taken = subst (Takes (freedoms old.rules) (state_of old) r) k g;
      levels = ap (level old.most r) l ∙ lower old.most new.levels;
      most = ap (λ (h : Held). h.most) f ∙ ap (λ (h : Held). h.most) same;
      ready_still = ap (λ (h : Held). h.failed) f ∙ ap (λ (h : Held). h.failed) same ∙ ready;
      short = ap (λ (h : Held). h.short) f ∙ ap (λ (h : Held). h.short) same;
      rules = ap (λ (h : Held). h.rules) f ∙ ap (λ (h : Held). h.rules) same;
    }

-- ---- sequences
pub begins : (free : Oer.Freedom → Bool) (e : Bool) (n : ℕ) (s : Scope) (os rest : List ℕ) (k : List Scope) → HasPreamble e n s os rest → Begins free e n (os, k) (rest, s ∷ k)
unfolding Reads
begins free e n (components x ms) os rest k h = (x, ms, h.0, h.1, record { text = h.2.0; has_form = h.2.1; in_front = h.2.2 }, refl)
begins free e n s os rest k h = absurd h

asked_sequence : (free : Oer.Freedom → Bool) (e : Bool) (n : ℕ) (a b : State) (r : Record) → question r ≡ asks_sequence e n → Takes free a r b → Begins free e n a b
asked_sequence free e n a b (sequence_begins d m) k t =
    let p : sequence_begins d m ≡ sequence_begins e n = cc k in
    subst (λ r. Takes free a r b) p t
asked_sequence free e n a b r k t = cc k

pub no_beginning : (free : Oer.Freedom → Bool) (e : Bool) (n : ℕ) (a b : State) → Begins free e n a b → ((s : Scope) (rest : List ℕ) → HasPreamble e n s a.0 rest → ⊥) → ⊥
unfolding Reads
no_beginning free e n a b t none = none (components t.0 t.1) b.0 (t.2, t.3, (t.4.text, t.4.has_form, t.4.in_front))

pub no_sequence : (old now : Held) (e : Bool) (n : ℕ) (x : DecodeError) → now ≡ old →
    ((s : Scope) (rest : List ℕ) → HasPreamble e n s now.octets rest → ⊥) → NoneInLevel (asks_sequence e n) old.levels old x
no_sequence old now e n x same none =
    record {
      none = λ m l r new k p. no_beginning (freedoms old.rules) e n (state_of old) (state_of new)
          (asked_sequence (freedoms old.rules) e n (state_of old) (state_of new) r k p.taken) (λ s rest h. none s rest (subst (λ (g : Held). HasPreamble e n s g.octets rest) (sym same) h));
    }

-- ---- lists
pub counted : (free : Oer.Freedom → Bool) (h : Counts) (n : ℕ) (s : Scope) (os rest : List ℕ) (k : List Scope) → is_count_within h n ≡ true →
    HasMembers free h s os rest → ListBegins free h n (os, k) (rest, s ∷ k)
counted free h n (members m) os rest k e f = (m, e, f.0, record { text = f.1.0; has_form = f.1.2; in_front = f.1.1 }, refl)
counted free h n s os rest k e f = absurd f

asked_list : (free : Oer.Freedom → Bool) (z : Size) (h : Counts) (a b : State) (r : Record) → question r ≡ asks_list z h → Takes free a r b → (n : ℕ) × ListBegins free h n a b
asked_list free z h a b (list_begins y i n) k t =
    let p : list_begins y i n ≡ list_begins z h n = cc k in
    (n, subst (λ r. Takes free a r b) p t)
asked_list free z h a b r k t = cc k

pub no_list : (old now : Held) (z : Size) (h : Counts) (e x : DecodeError) → now ≡ old → x ≡ e → NoMembers (freedoms now.rules) h now.octets e → NoneInLevel (asks_list z h) old.levels old x
no_list old now z h e x same faults m =
    let n : NoMembers (freedoms old.rules) h old.octets e = subst (λ (g : Held). NoMembers (freedoms g.rules) h g.octets e) same m in
    record {
      none = λ i l r new k p.
          let t = (asked_list (freedoms old.rules) z h (state_of old) (state_of new) r k p.taken).1 in
          n.none (λ y. i (faults ∙ y)) (members t.0) new.octets (t.2, stands t.3);
    }

-- if the octets do not begin with a number of elements, none begin
pub not_counted : (free : Oer.Freedom → Bool) (h : Counts) (n : ℕ) (a b : State) (e : DecodeError) → NoMembers free h a.0 e → ¬ (e ≡ OutOfMemory) → ListBegins free h n a b → ⊥
not_counted free h n a b e m i t = m.none i (members t.0) b.0 (t.2, stands t.3)

-- the bounds of a number of elements
pub between : (h : Counts) (most n : ℕ) → h.high ≡ Some most → is_count_within h n ≡ true → (h.low ≤ n) × (n ≤ most)
between h most n top e = let p = and_parts _ _ e in (leb-true h.low n p.0, leb-true n most (subst (λ t. (option_map_or (λ x. leb n x) t true) ≡ true) top p.1))

-- the octets begin with no other number of elements
pub other_count : (free : Oer.Freedom → Bool) (h : Counts) (n : ℕ) (os rest : List ℕ) (e : DecodeError) → ¬ (e ≡ AlreadyFailed) →
    Stands free (Oer.unsigned n) os rest → (is_count_within h n ≡ true → ⊥) → NoMembers free h os e
other_count free h n os rest e q f w = record { none = λ i s more g. go s more g; fresh = q }
  where
    go : (s : Scope) (more : List ℕ) → HasMembers free h s os more → ⊥
    go (members m) more g =
        let a : Front free (Oer.unsigned n) os rest = record { text = f.0; has_form = f.2; in_front = f.1 } in
        let b : Front free (Oer.unsigned m) os more = record { text = g.1.0; has_form = g.1.2; in_front = g.1.1 } in
        let q = same_fronts free (unsigned_alike free n m) os rest more a b in
        let j : n ≡ m = q.0 in
        w (ap (is_count_within h) j ∙ g.0)
    go s more g = g

-- nor with any of at most 64 bits, if they begin with none of those
pub no_count : (free : Oer.Freedom → Bool) (h : Counts) (most : ℕ) (os : List ℕ) (e : DecodeError) → h.high ≡ Some most → most < 2 ^ 64 → Misses free count_in os e → NoMembers free h os e
no_count free h most os e top small m = record { none = λ i s rest g. go i s rest g; fresh = not_before free count_in os e m }
  where
    go : ¬ (e ≡ OutOfMemory) → (s : Scope) (rest : List ℕ) → HasMembers free h s os rest → ⊥
    go i (members n) rest g =
        let l : n ≤ most = (between h most n top g.0).1 in
        let c : ltb n (2 ^ 64) ≡ true = le-leb (suc n) (2 ^ 64) (omega (arith, l, small)) in
        missed free count_in os e m i n rest (subst (λ b. Stands free (only_if b (Oer.unsigned n)) os rest) (sym c) g.1)
    go i s rest g = g

-- Which message a decoder has found, and why the octets begin with none if it has found none.
use Rattle.std.proofs.Common.{◌≡◌, inl, inr, min, append-nil, ℕ, ◌+◌, ◌-◌, ◌<◌, ◌≤◌, ◌^◌, true, false, IsTrue, List, []}
use Rattle.std.proofs.Common.{◌++◌, length, take, drop, refl, ap, sym, ◌∙◌, subst, append_assoc, arith, length-append}
use Rattle.std.proofs.lemmas.Bool.{cases_lt}
use Rattle.std.proofs.lemmas.List.{length-take, take-append-drop, take-append-le}
use Rattle.std.proofs.Math.Seq.{take-append-add, drop-append_seam}
use Rattle.asn1_model.specs.Value.{Value, depth}
use Rattle.asn1_model.specs.Schema.{Schema}
use Rattle.asn1_model.specs.Lawful.{IsLawful}
use Rattle.asn1_model.specs.Form.{Reads}
use Rattle.asn1_model.specs.Oer
use Rattle.asn1_model.specs.Rules.{IsEncoding}
use Rattle.asn1_schema_decode.specs.Reads.{Reads as ReadsValue, Unread}
use Rattle.asn1_schema_errors.specs.declared.DecodeError.{DecodeError}
use Rattle.asn1_schema_laws.proofs.Levels.{nests}
use Rattle.asn1_schema_laws.specs.Chains.{Chain}
use Rattle.asn1_schema_laws.specs.Presents.{presents, Fits}
use Rattle.oer_codec_held_laws.specs.Held.{Held, HasFailed, Finds}
use Rattle.oer_codec_laws.specs.Takes.{State, Front}
use Rattle.oer_codec_laws.proofs.Whole.{records_read, forms_show}
use Rattle.asn1_schema_reading_laws.proofs.Fitting.{records_fit}
use Rattle.oer_codec_reading.specs.Fronts.{freedoms}
use Rattle.oer_codec_reading.specs.declared.rules.EncodingRules.{EncodingRules}
use Rattle.oer_codec_reading.specs.declared.rules.EncodingRules.TheVariants.{Oer as OerRules, Coer as CoerRules}
use Rattle.asn1_schema_decode.specs.Messages.{HasMessage, Tells, NoMessage, NeedsMore}
use Rattle.asn1_schema_lacking_laws.proofs.Nesting.{no_deeper}
use Rattle.oer_codec.specs.Messages.{rules_of}
use Rattle.oer_codec_held_laws.specs.Few.{TooFewHeld, held_with, lacks}
use Rattle.oer_codec_decoder.proofs.Finding.{take_whole}
use Rattle.oer_codec_held_laws.proofs.Carried.{few_at_once}
use Rattle.oer_codec_held_laws.proofs.Lifting.{held_at, octets_taken, levels_taken, both_found}

-- ---- the rules
any_bitmap : (r : EncodingRules) → IsTrue (freedoms r Oer.other_bitmap)
any_bitmap OerRules = refl
any_bitmap CoerRules = refl

any_order : (r : EncodingRules) → IsTrue (freedoms r Oer.other_order)
any_order OerRules = refl
any_order CoerRules = refl

encoding_of : (r : EncodingRules) (s : Schema) (v : Value) (w : List ℕ) → length w < 2 ^ 60 → Reads (freedoms r) (Oer.form s v) 0 w → IsEncoding (rules_of r) s v w
unfolding IsEncoding
encoding_of OerRules s v w h f = (h, f)
encoding_of CoerRules s v w h f = (h, f)

form_of : (r : EncodingRules) (s : Schema) (v : Value) (w : List ℕ) → IsEncoding (rules_of r) s v w → (length w < 2 ^ 60) × Reads (freedoms r) (Oer.form s v) 0 w
unfolding IsEncoding
form_of OerRules s v w e = e
form_of CoerRules s v w e = e

-- ---- the state of a decoder at the start
abbrev pub first : List ℕ → List ℕ
first input = take (2 ^ 60 - 1) input

abbrev pub begun : EncodingRules → List ℕ → Held
begun r input = record { octets = first input; scopes = []; levels = 128; most = 128; failed = false; short = 0; rules = r }

pub not_failed : (r : EncodingRules) (input : List ℕ) {old : Held} → old ≡ begun r input → HasFailed old → ⊥
not_failed r input e h = let f : true ≡ false = sym h ∙ ap (λ (o : Held). o.failed) e in cc f

-- ---- what is found
in_input : (text rest input : List ℕ) → text ++ rest ≡ first input → text ++ (rest ++ drop (2 ^ 60 - 1) input) ≡ input
in_input text rest input e = sym (append_assoc text rest (drop (2 ^ 60 - 1) input)) ∙ ap (λ l. l ++ drop (2 ^ 60 - 1) input) e ∙ take-append-drop (2 ^ 60 - 1) input

short_text : (text rest input : List ℕ) → text ++ rest ≡ first input → length text < 2 ^ 60
short_text text rest input e = let f = ap length e in omega (arith, f, length-append text rest, length-take (2 ^ 60 - 1) input)

behind : (text rest input : List ℕ) → text ++ rest ≡ first input → rest ++ drop (2 ^ 60 - 1) input ≡ drop (length (first input) - length rest) input
behind text rest input e =
    let f = ap length e in
    let n : length (first input) - length rest ≡ length text = omega (arith, f, length-append text rest) in
    sym (drop-append_seam text (rest ++ drop (2 ^ 60 - 1) input)) ∙ ap (drop (length text)) (in_input text rest input e) ∙ ap (λ k. drop k input) (sym n)

pub told : (r : EncodingRules) (schema : ℕ → Schema) (v : Value) (input : List ℕ) (new : Held) → ReadsValue Finds schema 128 v (begun r input) new →
    Tells (rules_of r) schema v input (drop (length (first input) - length new.octets) input)
told r schema v input new t =
    let s = schema 128 in
    let c = t.chain in
    let f = records_read (freedoms r) s t.raw (first input, []) (new.octets, new.scopes) (any_bitmap r) (any_order r) (octets_taken (presents s t.raw) (begun r input) new c) in
    let g = f.0 in
    let l = (nests s t.raw 128 128 new.levels t.fits (omega arith)).0 (levels_taken (presents s t.raw) (begun r input) new c) in
    record {
      raw = t.raw;
      message = record {
        message = g.text;
        in_front = ap (λ x. g.text ++ x) (sym (behind g.text new.octets input g.in_front)) ∙ in_input g.text new.octets input g.in_front;
        encoding = encoding_of r s t.raw g.text (short_text g.text new.octets input g.in_front) g.has_form;
        levels = l.0;
      };
      means = t.means;
    }

-- at most as many octets are left as there were
pub left_within : (schema : ℕ → Schema) (v : Value) (old new : Held) → ReadsValue Finds schema old.levels v old new → length new.octets ≤ length old.octets
left_within schema v old new t =
    let c = octets_taken (presents (schema old.levels) t.raw) old new t.chain in
    let f = records_read (freedoms old.rules) (schema old.levels) t.raw (old.octets, old.scopes) (new.octets, new.scopes) (any_bitmap old.rules) (any_order old.rules) c in
    let g = f.0 in
    let l = ap length g.in_front in
    omega (arith, l, length-append g.text new.octets)

pub told_from : (r : EncodingRules) (schema : ℕ → Schema) (v : Value) (input : List ℕ) (old new : Held) → old ≡ begun r input →
    ReadsValue Finds schema old.levels v old new → Tells (rules_of r) schema v input (drop (length old.octets - length new.octets) input)
told_from r schema v input old new e t =
    subst (λ (n : ℕ). Tells (rules_of r) schema v input (drop (n - length new.octets) input)) (sym (ap (λ (h : Held). length h.octets) e))
    (told r schema v input new (subst (λ (h : Held). ReadsValue Finds schema h.levels v h new) e t))

-- ---- what is not found
front_of : (text rest input : List ℕ) → length text < 2 ^ 60 → text ++ rest ≡ input → text ++ take (2 ^ 60 - 1 - length text) rest ≡ first input
front_of text rest input h e =
    let n : length text + (2 ^ 60 - 1 - length text) ≡ 2 ^ 60 - 1 = omega (arith, h) in
    sym (take-append-add text rest (2 ^ 60 - 1 - length text)) ∙ ap (λ k. take k (text ++ rest)) n ∙ ap first e

module _ (r : EncodingRules) (schema : ℕ → Schema) (input : List ℕ) (lawful : IsLawful (schema 128)) where
  -- the message with which octets begin has records that are found
  found_again : (v : Value) (rest : List ℕ) → HasMessage (rules_of r) (schema 128) v input rest → (w : Value) × (new : Held) × Fits (schema 128) w ×
      Chain Finds (presents (schema 128) w) (begun r input) new
  found_again v rest m =
      let s = schema 128 in
      let q = form_of r s v m.message m.encoding in
      let b : State = (take (2 ^ 60 - 1 - length m.message) rest, []) in
      let f : Front (freedoms r) (Oer.form s v) (first input) b.0 = record { text = m.message; has_form = q.1; in_front = front_of m.message rest input q.0 m.in_front } in
      let w = forms_show (freedoms r) s v (first input, []) b (any_bitmap r) lawful (f, refl) in
      let fits = records_fit _ _ (λ x y n. n) s w.0 (first input, []) b w.2 in
      let d : depth w.0 ≤ 128 = let x = no_deeper v w.0 w.1 in let y = m.levels in omega (arith, x, y) in
      let l = (nests s w.0 128 128 128 fits (omega arith)).1 (d, refl) in
      (w.0, held_at (begun r input) b 128, fits, both_found (presents s w.0) (begun r input) b 128 refl w.2 l)

  pub none_told : (e : DecodeError) (failed : Held) → Unread Finds TooFewHeld schema 128 (begun r input) failed e → NoMessage (rules_of r) schema input e
  none_told e failed u = record { none = λ n v rest m. let f = found_again v rest m in u.none n (begun r input) (few_at_once 0 (begun r input) failed) f.0 f.1 f.2 f.3 }

-- an input and more octets: what is looked at of both begins with what is looked at of the input, and has at most the
-- added octets after it
begun_more : (input more : List ℕ) → (f : List ℕ) × (first (input ++ more) ≡ first input ++ f) × (length f ≤ length more)
begun_more input more = elim (cases_lt (2 ^ 60 - 1) (length input)) [
  | inl i ↦ ([], take-append-le (2 ^ 60 - 1) input more (omega arith) ∙ sym (append-nil (first input)), omega arith)
  | inr i ↦
      let k = 2 ^ 60 - 1 - length input in
      let n : 2 ^ 60 - 1 ≡ length input + k = omega arith in
      let w : first input ≡ input = take_whole (2 ^ 60 - 1) input i in
      (take k more, ap (λ m. take m (input ++ more)) n ∙ take-append-add input more k ∙ ap (λ x. x ++ take k more) (sym w), omega (arith, length-take k more))
]

-- If a decoder failed, the input with a few octets appended begins with no message either.
pub more_needed : (r : EncodingRules) (schema : ℕ → Schema) (input : List ℕ) (failed : Held) (n : ℕ) (e : DecodeError) → IsLawful (schema 128) →
    n ≤ lacks failed + 1 → Unread Finds TooFewHeld schema 128 (begun r input) failed e → NeedsMore (rules_of r) schema input n e
more_needed r schema input failed n e lawful few u more h =
    let z = begun_more input more in
    let d : begun r (input ++ more) ≡ held_with z.0 (begun r input) =
    ap (λ (x : List ℕ). let h : Held = record { octets = x; scopes = []; levels = 128; most = 128; failed = false; short = 0; rules = r } in h) z.1 in
    let l = z.2 in
    let near : TooFewHeld (begun r input) failed (begun r (input ++ more)) = (z.0, d, inl (omega arith, omega arith)) in
    record { none = λ m v rest g. let f = found_again r schema (input ++ more) lawful v rest g in u.none m (begun r (input ++ more)) near f.0 f.1 f.2 f.3 }

pub more_needed_from : (r : EncodingRules) (schema : ℕ → Schema) (input : List ℕ) (old failed : Held) (n : ℕ) (e : DecodeError) →
    IsLawful (schema 128) → old ≡ begun r input → n ≡ min (lacks failed + 1) (2 ^ 64 - 1) → Unread Finds TooFewHeld schema old.levels old failed e → NeedsMore (rules_of r) schema input n e
more_needed_from r schema input old failed n e lawful q k u =
    more_needed r schema input failed n e lawful (omega (arith, k)) (subst (λ (h : Held). Unread Finds TooFewHeld schema h.levels h failed e) q u)

pub none_told_from : (r : EncodingRules) (schema : ℕ → Schema) (input : List ℕ) (old failed : Held) (e : DecodeError) → IsLawful (schema 128) →
    old ≡ begun r input → Unread Finds TooFewHeld schema old.levels old failed e → NoMessage (rules_of r) schema input e
none_told_from r schema input old failed e lawful q u = none_told r schema input lawful e failed (subst (λ (h : Held). Unread Finds TooFewHeld schema h.levels h failed e) q u)

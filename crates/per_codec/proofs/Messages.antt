-- Which message a decoder has found, and why the octets begin with none if it has found none.
use Rattle.std.proofs.Common.{◌≡◌, inl, inr, min, ℕ, ◌+◌, ◌-◌, ◌*◌, ◌/◌, ◌<◌, ◌≤◌, ◌^◌, zero, suc, Bool, true, false}
use Rattle.std.proofs.Common.{IsTrue, Some, None, List, [], ◌∷◌, ◌++◌, length, take, drop, refl, ap, sym, ◌∙◌, subst}
use Rattle.std.proofs.Common.{append_assoc, append-nil, arith, length-append}
use Rattle.std.specs.Prelude.{is_some}
use Rattle.std.proofs.lemmas.Bool.{cases_lt}
use Rattle.std.proofs.lemmas.List.{length-take, take-append-drop, take-append-le}
use Rattle.std.proofs.Math.Seq.{take-append-add, take-append_seam, drop-append_seam}
use Rattle.asn1_model.specs.Value.{Value, depth}
use Rattle.asn1_model.specs.Schema.{Schema}
use Rattle.asn1_model.specs.Lawful.{IsLawful}
use Rattle.asn1_model.specs.Form.{Reads}
use Rattle.asn1_model.specs.Numbers.{octet_bits}
use Rattle.asn1_model.specs.Per
use Rattle.asn1_model.specs.Rules.{IsEncoding}
use Rattle.asn1_laws_fronts.proofs.Units.{complete_whole}
use Rattle.asn1_schema_decode.specs.Reads.{Reads as ReadsValue, Unread}
use Rattle.asn1_schema_errors.specs.declared.DecodeError.{DecodeError}
use Rattle.asn1_schema_laws.proofs.Levels.{nests}
use Rattle.asn1_schema_decode.specs.Messages.{HasMessage, Tells, NoMessage, NeedsMore}
use Rattle.asn1_schema_lacking_laws.proofs.Nesting.{no_deeper}
use Rattle.asn1_schema_laws.specs.Chains.{Chain}
use Rattle.asn1_schema_laws.specs.Presents.{presents, Fits}
use Rattle.asn1_schema_laws.proofs.OneValue.{one_value}
use Rattle.asn1_values_bits.proofs.Binary.{octet_bits-append, octet_bits-take, length-octet_bits}
use Rattle.asn1_schema_reading_laws.proofs.Fitting.{records_fit}
use Rattle.per_codec_held_laws.specs.Held.{Held, Finds}
use Rattle.per_codec_held_laws.specs.Few.{TooFewHeld, held_with, lacks}
use Rattle.per_codec_held_laws.proofs.Carried.{few_at_once}
use Rattle.per_codec_held_laws.specs.Held.{HasFailed, IsReady}
use Rattle.per_codec_held_laws.proofs.Finds.{finds_one}
use Rattle.per_codec_laws.specs.Takes.{Position, Front, completion}
use Rattle.per_codec_laws.proofs.Opened.{padded_in, padded_out}
use Rattle.per_codec_laws.proofs.Whole.{records_read, forms_show}
use Rattle.per_codec_reading.specs.Fronts.{freedoms, is_aligned}
use Rattle.per_codec_reading.specs.Runs.{Storage}
use Rattle.per_codec_reading.specs.declared.rules.PackedRules.{PackedRules}
use Rattle.per_codec_reading.specs.declared.rules.PackedRules.TheVariants.{Uper, Aper, UperStrict, AperStrict}
use Rattle.per_codec.specs.Messages.{rules_of}
use Rattle.per_codec_held_laws.proofs.Lifting.{held_at, bits_taken, levels_taken, both_found, ready_still, rules_still}

-- ---- the rules
any_bitmap : (r : PackedRules) → IsTrue (freedoms r Per.other_bitmap)
any_bitmap Uper = refl
any_bitmap Aper = refl
any_bitmap UperStrict = refl
any_bitmap AperStrict = refl

any_order : (r : PackedRules) → IsTrue (freedoms r Per.other_order)
any_order Uper = refl
any_order Aper = refl
any_order UperStrict = refl
any_order AperStrict = refl

encoding_of : (r : PackedRules) (s : Schema) (v : Value) (w : List ℕ) → length w < 2 ^ 60 → Reads (freedoms r) (Per.message (is_aligned r) s v) 0 (octet_bits w) → IsEncoding (rules_of r) s v w
unfolding IsEncoding
encoding_of Uper s v w h f = (h, f)
encoding_of Aper s v w h f = (h, f)
encoding_of UperStrict s v w h f = (h, f)
encoding_of AperStrict s v w h f = (h, f)

form_of : (r : PackedRules) (s : Schema) (v : Value) (w : List ℕ) → IsEncoding (rules_of r) s v w → (length w < 2 ^ 60) × Reads (freedoms r) (Per.message (is_aligned r) s v) 0 (octet_bits w)
unfolding IsEncoding
form_of Uper s v w e = e
form_of Aper s v w e = e
form_of UperStrict s v w e = e
form_of AperStrict s v w e = e

-- ---- the state of a decoder at the start
abbrev pub first : List ℕ → List ℕ
first input = take (2 ^ 60 - 1) input

abbrev pub begun : PackedRules → List ℕ → Held
begun r input = record { place = (0, octet_bits (first input)); scopes = []; levels = 128; most = 128; failed = None; rules = r; stands = Some 0 ∷ [] }

-- ---- what is found
-- some of the octets that are looked at, and the other octets of the input after them
front_octets : (k : ℕ) (input : List ℕ) → k ≤ length (first input) → take k (first input) ++ drop k input ≡ input
front_octets k input h =
    let text = take k (first input) in
    let rest = drop k (first input) ++ drop (2 ^ 60 - 1) input in
    let n : length text ≡ k = omega (arith, h, length-take k (first input)) in
    let i : text ++ rest ≡ input = sym (append_assoc text (drop k (first input)) (drop (2 ^ 60 - 1) input)) ∙
    ap (λ l. l ++ drop (2 ^ 60 - 1) input) (take-append-drop k (first input)) ∙ take-append-drop (2 ^ 60 - 1) input in
    let d : drop k input ≡ rest = ap (drop k) (sym i) ∙ ap (λ j. drop j (text ++ rest)) (sym n) ∙ drop-append_seam text rest in
    ap (λ l. text ++ l) d ∙ i

-- the bits of a value and their padding are those of whole octets
record Whole (r : PackedRules) (s : Schema) (v : Value) (input : List ℕ) (after : Position) : Type 0 where
  count : ℕ
  within : count ≤ length (first input)
  taken : after.0 ≡ count * 8
  reads : Reads (freedoms r) (Per.message (is_aligned r) s v) 0 (octet_bits (take count (first input)))

whole : (r : PackedRules) (s : Schema) (v : Value) (input : List ℕ) (left after : Position) →
    Front (freedoms r) (Per.form (is_aligned r) s v) (0, octet_bits (first input)) left → Front (freedoms r) (completion left.0) left after → Whole r s v input after
unfolding Per.message Per.complete Reads
whole r s v input left after f g =
    let free = freedoms r in
    let os = first input in
    let text = f.text ++ g.text in
    let all : text ++ after.1 ≡ octet_bits os = append_assoc f.text g.text after.1 ∙ ap (λ l. f.text ++ l) g.in_front ∙ f.in_front in
    let reads : Reads free (Per.complete (Per.form (is_aligned r) s v)) 0 text = (f.text, f.has_form, padded_in free f.text g.text left.0 f.moved g.has_form) in
    let k = complete_whole free (Per.form (is_aligned r) s v) text 0 reads in
    let n : length text ≡ k.0 * 8 = let e = k.1 in omega (arith, e) in
    let m = sym (length-append text after.1) ∙ ap length all in
    let o = length-octet_bits os in
    let w : k.0 ≤ length os = omega (arith, n, m, o) in
    let bits : octet_bits (take k.0 os) ≡ text = octet_bits-take k.0 os w ∙ ap (λ (l : List Bool). take (k.0 * 8) l) (sym all) ∙
    ap (λ i. take i (text ++ after.1)) (sym n) ∙ take-append_seam text after.1 in
    record {
      count = k.0;
      within = w;
      taken = omega (arith, n, length-append f.text g.text, f.moved, g.moved);
      reads = subst (λ (l : List Bool). Reads free (Per.complete (Per.form (is_aligned r) s v)) 0 l) (sym bits) reads;
    }

abbrev pub Finished : PackedRules → Held → Position → Type 0
Finished r new after = Front (freedoms r) (completion new.place.0) new.place after

found_form : (r : PackedRules) (schema : ℕ → Schema) (v : Value) (input : List ℕ) (new : Held)
    (t : ReadsValue Finds schema 128 v (begun r input) new) → Front (freedoms r) (Per.form (is_aligned r) (schema 128) t.raw) (0, octet_bits (first input)) new.place
found_form r schema v input new t =
    let f = records_read (is_aligned r) (freedoms r) (schema 128) t.raw ((0, octet_bits (first input)), []) (new.place, new.scopes) (any_bitmap r)
    (any_order r) (bits_taken (presents (schema 128) t.raw) (begun r input) new t.chain) in
    f.0

pub told : (r : PackedRules) (schema : ℕ → Schema) (v : Value) (input : List ℕ) (new : Held) (after : Position) →
    ReadsValue Finds schema 128 v (begun r input) new → Finished r new after → Tells (rules_of r) schema v input (drop (after.0 / 8) input)
told r schema v input new after t g =
    let s = schema 128 in
    let w = whole r s t.raw input new.place after (found_form r schema v input new t) g in
    let l = (nests s t.raw 128 128 new.levels t.fits (omega arith)).0 (levels_taken (presents s t.raw) (begun r input) new t.chain) in
    let k = w.taken in
    let c : after.0 / 8 ≡ w.count = omega (arith, k) in
    let i = w.within in
    let n : length (take w.count (first input)) < 2 ^ 60 = omega (arith, i, length-take (2 ^ 60 - 1) input, length-take w.count (first input)) in
    subst (λ m. Tells (rules_of r) schema v input (drop m input)) (sym c) (record {
      raw = t.raw;
      message = record {
        message = take w.count (first input);
        in_front = front_octets w.count input w.within;
        encoding = encoding_of r s t.raw (take w.count (first input)) n w.reads;
        levels = l.0;
      };
      means = t.means;
    })

-- the same for a new decoder
pub told_from : (r : PackedRules) (schema : ℕ → Schema) (v : Value) (input : List ℕ) (old new : Held) (after : Position) → old ≡ begun r input → ReadsValue Finds schema old.levels v old new
    → Front (freedoms new.rules) (completion new.place.0) new.place after → Tells (rules_of r) schema v input (drop (after.0 / 8) input)
told_from r schema v input old new after e t g =
    let u : ReadsValue Finds schema 128 v (begun r input) new = subst (λ (h : Held). ReadsValue Finds schema h.levels v h new) e t in
    let q : new.rules ≡ r = rules_still (presents (schema 128) u.raw) (begun r input) new u.chain in
    told r schema v input new after u (subst (λ (x : PackedRules). Front (freedoms x) (completion new.place.0) new.place after) q g)

-- the octets that were taken are in the input
pub left_within : (r : PackedRules) (schema : ℕ → Schema) (v : Value) (input : List ℕ) (old new : Held) (after : Position) → old ≡ begun r input → ReadsValue Finds schema old.levels v old new
    → Front (freedoms new.rules) (completion new.place.0) new.place after → after.0 / 8 ≤ length input
left_within r schema v input old new after e t g =
    let u : ReadsValue Finds schema 128 v (begun r input) new = subst (λ (h : Held). ReadsValue Finds schema h.levels v h new) e t in
    let q : new.rules ≡ r = rules_still (presents (schema 128) u.raw) (begun r input) new u.chain in
    let f : Finished r new after = subst (λ (x : PackedRules). Front (freedoms x) (completion new.place.0) new.place after) q g in
    let w = whole r (schema 128) u.raw input new.place after (found_form r schema v input new u) f in
    let k = w.taken in
    let i = w.within in
    omega (arith, k, i, length-take (2 ^ 60 - 1) input)

-- ---- what is not found
front_of : (text rest input : List ℕ) → length text < 2 ^ 60 → text ++ rest ≡ input → text ++ take (2 ^ 60 - 1 - length text) rest ≡ first input
front_of text rest input h e =
    let n : length text + (2 ^ 60 - 1 - length text) ≡ 2 ^ 60 - 1 = omega (arith, h) in
    sym (take-append-add text rest (2 ^ 60 - 1 - length text)) ∙ ap (λ k. take k (text ++ rest)) n ∙ ap first e

module _ (r : PackedRules) (schema : ℕ → Schema) (input : List ℕ) (lawful : IsLawful (schema 128)) where
  -- the message with which octets begin has records that are found, followed by its padding
  record Again : Type 0 where
    value : Value
    left : Position
    after : Position
    stands : List Storage
    fits : Fits (schema 128) value
    chain : Chain Finds (presents (schema 128) value) (begun r input) (held_at (begun r input) (left, []) 128 stands)
    padded : Front (freedoms r) (completion left.0) left after

  found_again : (v : Value) (rest : List ℕ) → HasMessage (rules_of r) (schema 128) v input rest → Again
  unfolding Per.message Per.complete Reads
  found_again v rest m =
      let s = schema 128 in
      let al = is_aligned r in
      let free = freedoms r in
      let q = form_of r s v m.message m.encoding in
      let bits = q.1.0 in
      let z = padded_out free bits (octet_bits m.message) q.1.2 in
      let others = octet_bits (take (2 ^ 60 - 1 - length m.message) rest) in
      let left : Position = (length bits, z.0 ++ others) in
      let after : Position = (length bits + length z.0, others) in
      let all : bits ++ (z.0 ++ others) ≡ octet_bits (first input) = sym (append_assoc bits z.0 others) ∙ ap (λ l. l ++ others) z.1 ∙
      sym (octet_bits-append m.message (take (2 ^ 60 - 1 - length m.message) rest)) ∙ ap octet_bits (front_of m.message rest input q.0 m.in_front) in
      let f : Front free (Per.form al s v) (0, octet_bits (first input)) (length bits, z.0 ++ others) = record { text = bits; has_form = q.1.1; in_front = all; moved = omega arith } in
      let g : Front free (completion (length bits)) (length bits, z.0 ++ others) (length bits + length z.0, others) = record { text = z.0; has_form = z.2; in_front = refl; moved = refl } in
      let w = forms_show al free s v ((0, octet_bits (first input)), []) ((length bits, z.0 ++ others), []) (any_bitmap r) lawful (f, refl) in
      let fits = records_fit _ _ (λ x y n. n) s w.0 ((0, octet_bits (first input)), []) ((length bits, z.0 ++ others), []) w.2 in
      let d : depth w.0 ≤ 128 = let x = no_deeper v w.0 w.1 in let y = m.levels in omega (arith, x, y) in
      let l = (nests s w.0 128 128 128 fits (omega arith)).1 (d, refl) in
      let chain = both_found (presents s w.0) (begun r input) ((length bits, z.0 ++ others), []) 128 refl w.2 l in
      record {
        value = w.0;
        left = (length bits, z.0 ++ others);
        after = (length bits + length z.0, others);
        stands = chain.0;
        fits = fits;
        chain = chain.1;
        padded = g;
      }

  pub none_told : {failed : Held} (e : DecodeError) → Unread Finds TooFewHeld schema 128 (begun r input) failed e → NoMessage (rules_of r) schema input e
  none_told {failed} e u = record {
    none = λ n v rest m. let f = found_again v rest m in
        u.none n (begun r input) (few_at_once 0 (begun r input) failed) f.value (held_at (begun r input) (f.left, []) 128 f.stands) f.fits f.chain;
  }

  pub none_finished : (e : DecodeError) (x : Value) (new : Held) → ReadsValue Finds schema 128 x (begun r input) new →
      ((b : Position) → Front (freedoms r) (completion new.place.0) new.place b → ⊥) → NoMessage (rules_of r) schema input e
  none_finished e x new t none = record {
    none = λ n v rest m.
        let f = found_again v rest m in
        let k = one_value finds_one (schema 128) t.raw f.value (begun r input) new (held_at (begun r input) (f.left, []) 128 f.stands) t.fits f.fits t.chain f.chain in
        none f.after (subst (λ (h : Held). Front (freedoms r) (completion h.place.0) h.place f.after) (sym k.1) f.padded);
  }

pub none_told_from : {failed : Held} (r : PackedRules) (schema : ℕ → Schema) (input : List ℕ) (old : Held) (e : DecodeError) → IsLawful (schema 128) →
    old ≡ begun r input → Unread Finds TooFewHeld schema old.levels old failed e → NoMessage (rules_of r) schema input e
none_told_from {failed} r schema input old e lawful q u = none_told r schema input lawful e (subst (λ (h : Held). Unread Finds TooFewHeld schema h.levels h failed e) q u)

pub none_finished_from : (r : PackedRules) (schema : ℕ → Schema) (input : List ℕ) (x : Value) (old new : Held) (e : DecodeError) →
    IsLawful (schema 128) → old ≡ begun r input → ReadsValue Finds schema old.levels x old new →
    (IsReady new → (b : Position) → Front (freedoms new.rules) (completion new.place.0) new.place b → ⊥) → NoMessage (rules_of r) schema input e
none_finished_from r schema input x old new e lawful q t none =
    let u : ReadsValue Finds schema 128 x (begun r input) new = subst (λ (h : Held). ReadsValue Finds schema h.levels x h new) q t in
    let k : new.rules ≡ r = rules_still (presents (schema 128) u.raw) (begun r input) new u.chain in
    let i : IsReady new = ready_still (presents (schema 128) u.raw) (begun r input) new refl u.chain in
    none_finished r schema input lawful e x new u (λ b f. none i b (subst (λ (y : PackedRules). Front (freedoms y) (completion new.place.0) new.place b) (sym k) f))

-- ---- what has not failed
pub not_failed : (r : PackedRules) (schema : ℕ → Schema) (input : List ℕ) (x : Value) (old new : Held) → old ≡ begun r input → ReadsValue Finds schema old.levels x old new → HasFailed new → ⊥
not_failed r schema input x old new q t h =
    let u : ReadsValue Finds schema 128 x (begun r input) new = subst (λ (h : Held). ReadsValue Finds schema h.levels x h new) q t in
    let i : IsReady new = ready_still (presents (schema 128) u.raw) (begun r input) new refl u.chain in
    let e : true ≡ false = sym h ∙ i in
    cc

pub begun_ready : (r : PackedRules) (input : List ℕ) (old : Held) → old ≡ begun r input → HasFailed old → ⊥
begun_ready r input old q h = let e : true ≡ false = sym h ∙ ap (λ (x : Held). is_some x.failed) q in cc

-- ---- what is needed
take_whole : (n : ℕ) (xs : List ℕ) → length xs ≤ n → take n xs ≡ xs
take_whole n xs h =
    let k : n ≡ length xs + (n - length xs) = omega (arith, h) in
    let e : take (length xs + (n - length xs)) (xs ++ []) ≡ xs ++ take (n - length xs) [] = take-append-add xs [] (n - length xs) in
    ap (λ m. take m xs) k ∙ ap (take (length xs + (n - length xs))) (sym (append-nil xs)) ∙ e ∙ ap (λ l. xs ++ l) (take_none (n - length xs)) ∙ append-nil xs
  where
    take_none : (m : ℕ) → take {A = ℕ} m [] ≡ []
    take_none zero = refl
    take_none (suc m) = refl

-- an input and more octets: what is looked at of both begins with what is looked at of the input, and has at most the
-- added octets after it
begun_more : (input more : List ℕ) → (f : List ℕ) × (first (input ++ more) ≡ first input ++ f) × (length f ≤ length more)
begun_more input more = elim (cases_lt (2 ^ 60 - 1) (length input)) [
  | inl i ↦ ([], take-append-le (2 ^ 60 - 1) input more (omega arith) ∙ sym (append-nil (first input)), omega arith)
  | inr i ↦
      let k = 2 ^ 60 - 1 - length input in
      let n : 2 ^ 60 - 1 ≡ length input + k = omega arith in
      let w : first input ≡ input = take_whole (2 ^ 60 - 1) input i in
      (take k more, ap (λ m. take m (input ++ more)) n ∙ take-append-add input more k ∙ ap (λ x. x ++ take k more) (sym w), omega (arith, length-take k more))
]

-- If a decoder failed, the input with a few octets appended begins with no message either.
more_needed : (r : PackedRules) (schema : ℕ → Schema) (input : List ℕ) (failed : Held) (n : ℕ) (e : DecodeError) → IsLawful (schema 128) →
    n ≤ lacks failed / 8 + 1 → Unread Finds TooFewHeld schema 128 (begun r input) failed e → NeedsMore (rules_of r) schema input n e
more_needed r schema input failed n e lawful few u more h =
    let z = begun_more input more in
    let w = octet_bits z.0 in
    let b : octet_bits (first (input ++ more)) ≡ octet_bits (first input) ++ w = ap octet_bits z.1 ∙ octet_bits-append (first input) z.0 in
    let d : begun r (input ++ more) ≡ held_with w (begun r input) =
    ap (λ (x : List Bool). let h : Held = record { place = (0, x); scopes = []; levels = 128; most = 128; failed = None; rules = r; stands = Some 0 ∷ [] } in h) b in
    let l = z.2 in
    let m = length-octet_bits z.0 in
    let near : TooFewHeld (begun r input) failed (begun r (input ++ more)) = (w, d, inl (omega arith, omega (arith, l, m, few, h))) in
    record {
      none = λ i v rest g. let f = found_again r schema (input ++ more) lawful v rest g in
          u.none i (begun r (input ++ more)) near f.value (held_at (begun r (input ++ more)) (f.left, []) 128 f.stands) f.fits f.chain;
    }

pub more_needed_from : (r : PackedRules) (schema : ℕ → Schema) (input : List ℕ) (old failed : Held) (n : ℕ) (e : DecodeError) →
    IsLawful (schema 128) → old ≡ begun r input → n ≡ min (lacks failed) (2 ^ 64 - 1) / 8 + 1 → Unread Finds TooFewHeld schema old.levels old failed e → NeedsMore (rules_of r) schema input n e
more_needed_from r schema input old failed n e lawful q k u =
    more_needed r schema input failed n e lawful (omega (arith, k)) (subst (λ (h : Held). Unread Finds TooFewHeld schema h.levels h failed e) q u)

-- if the octets begin with no message, they begin with none with no octets appended
pub none_with_fewer : (r : PackedRules) (schema : ℕ → Schema) (input : List ℕ) (e : DecodeError) → NoMessage (rules_of r) schema input e → NeedsMore (rules_of r) schema input 1 e
none_with_fewer r schema input e none [] h = subst (λ l. NoMessage (rules_of r) schema l e) (sym (append-nil input)) none
none_with_fewer r schema input e none (x ∷ more) h = absurd (omega (arith, h))

-- Open types, alternatives and additions that end, in the octets and the frames of an encoder.
use Rattle.std.proofs.Common.{◌≡◌, ℕ, ◌+◌, ◌-◌, ◌<◌, not, Bool, true, false, cond, List, [], ◌∷◌, ◌++◌, length, get_or}
use Rattle.std.proofs.Common.{set, take, drop, replicate, Option, Some, None, option_map, option_and_then, Result, Ok}
use Rattle.std.proofs.Common.{Err, MatchResult, refl, ap, subst, sym, ◌∙◌, arith, append_assoc, length-append}
use Rattle.std.proofs.Common.{length-set}
use Rattle.std.proofs.lemmas.List.{append-nil, set-append_left, set-append_right, get_or-append_right, get_or_append_left}
use Rattle.asn1_model.specs.Form.{written, exactly, both}
use Rattle.asn1_model.specs.Numbers.{binary, octet_bits, packed, missing}
use Rattle.asn1_model.specs.Oer
use Rattle.asn1_values_bits.specs.Octets.{padded}
use Rattle.asn1_values_bits.proofs.Binary.{length-octet_bits}
use Rattle.asn1_values_bits.proofs.Change.{kept_changed}
use Rattle.asn1_schema_errors.specs.declared.EncodeError.{EncodeError}
use Rattle.asn1_schema_errors.specs.declared.EncodeError.TheVariants.{OutOfMemory}
use Rattle.asn1_schema_laws.specs.Records.{ends}
use Rattle.asn1_schema_reading_laws.specs.PresenceBits.{is_any_set}
use Rattle.oer_codec_encoder.specs.Steps.{State, run, adds_text, with_added}
use Rattle.oer_codec_encoder.proofs.Still.{counted_bits_still}
use Rattle.oer_codec_encoder.specs.declared.frame.Additions.{Additions}
use Rattle.oer_codec_encoder.specs.declared.frame.Frame.{Frame}
use Rattle.oer_codec_encoder.specs.declared.frame.Frame.TheVariants.{Components, Added, OpenType, Alternative}
use Rattle.oer_codec_encoder.specs.declared.frame.Preamble.{Preamble}
use Rattle.oer_codec_encoder.specs.declared.frames.SmallFrame.{SmallFrame}
use Rattle.oer_codec_encoder.specs.declared.frames.SmallFrame.TheVariants.{OpenType as SmallOpenType}
use Rattle.oer_codec_encoder.specs.Frames.{frame_of}
use Rattle.oer_codec_encoder.specs.Holding.{HasBits, IsExtended, Holds, AreSound, Does, Cannot}
use Rattle.oer_codec_writing.specs.Writing.{Adds, bits_heading}
use Rattle.oer_codec_writing.proofs.BitTexts.{headed_bits}
use Rattle.oer_codec_encoder.proofs.AdditionScopes.{with_due}
use Rattle.oer_codec_encoder.proofs.Scopes.{on_top, appended, does_end_components, behind_room, before_room, room_within, closed_text, set_small, get_or_any, root_first, root_taken}

-- ---- open types and alternatives

pub does_end_open : (fs rest : List Frame) (o p : List ℕ) (start : ℕ) → fs ≡ OpenType start ∷ rest → Adds (written (Oer.counted (drop (start + 1) o)) 0) (take start o) p → Does ends fs o rest p
does_end_open fs rest o p start a x = record { after = λ s h. go s (on_top fs rest (OpenType start) o s a h) }
  where
    go : (s : State) → Holds (OpenType start ∷ rest) o s → (u : State) × (run ends s ≡ Some u) × Holds rest p u
    go s h = closes (written (Oer.counted h.inner) 0) refl (subst (λ l. Adds (written (Oer.counted l) 0) h.front p) (behind_room start o s h)
        (subst (λ l. Adds (written (Oer.counted (drop (start + 1) o)) 0) l p) (before_room start o s h) x))
      where
        closes : (t : Option (List ℕ)) → written (Oer.counted h.inner) 0 ≡ t → Adds t h.front p → (u : State) × (run ends s ≡ Some u) × Holds rest p u
        closes None e y = cc
        closes (Some w) e y =
            let u : State = (h.outer.0 ++ w, h.outer.1) in
            let q : h.front ++ w ≡ p = cc y in
            (u, ap (run ends) h.is ∙ ap (λ t. adds_text t h.outer) e, subst (λ l. Holds rest l u) q (appended rest h.front h.outer w h.under))

pub open_within : (fs rest : List Frame) (o : List ℕ) (start : ℕ) → AreSound fs o → fs ≡ OpenType start ∷ rest → start < length o
open_within fs rest o start s a = room_within start o s.state (on_top fs rest (OpenType start) o s.state a s.holds)

-- ---- a frame ends, whatever encloses it

-- an open type
open_ends : (start : ℕ) (o p : List ℕ) (r : Result (Unit {0}) EncodeError) →
    MatchResult r (λ _. Adds (written (Oer.counted (drop (start + 1) o)) 0) (take start o) p) (λ e. e ≡ OutOfMemory) →
    MatchResult r (λ _. (k : List Frame) → Does ends (OpenType start ∷ k) o k p) (λ e. (k : List Frame) → Cannot ends (OpenType start ∷ k) o e)
open_ends start o p (Ok u) m = λ k. does_end_open (OpenType start ∷ k) k o p start refl m
open_ends start o p (Err e) m = λ k. subst (λ x. Cannot ends (OpenType start ∷ k) o x) (sym m) tt

pub open_frame_within : (f : Frame) (start : ℕ) (o : List ℕ) → ((k : List Frame) × AreSound (f ∷ k) o) → f ≡ OpenType start → start < length o
open_frame_within f start o h e = open_within (f ∷ h.0) h.0 o start h.1 (ap (λ g. g ∷ h.0) e)

pub open_frame_ends : (f : Frame) (start : ℕ) (o p : List ℕ) (r : Result (Unit {0}) EncodeError) → f ≡ OpenType start →
    MatchResult r (λ _. Adds (written (Oer.counted (drop (start + 1) o)) 0) (take start o) p) (λ e. e ≡ OutOfMemory) →
    MatchResult r (λ _. (k : List Frame) → Does ends (f ∷ k) o k p) (λ e. (k : List Frame) → Cannot ends (f ∷ k) o e)
open_frame_ends f start o p r e m = subst (λ g. MatchResult r (λ _. (k : List Frame) → Does ends (g ∷ k) o k p) (λ x. (k : List Frame) → Cannot ends (g ∷ k) o x)) (sym e) (open_ends start o p r m)

pub small_within : (f : SmallFrame) (start : ℕ) (o : List ℕ) → ((k : List Frame) × AreSound (frame_of f ∷ k) o) → f ≡ SmallOpenType start → start < length o
small_within f start o h e = open_frame_within (frame_of f) start o h (ap frame_of e)

pub small_ends : (f : SmallFrame) (start : ℕ) (o p : List ℕ) (r : Result (Unit {0}) EncodeError) → f ≡ SmallOpenType start →
    MatchResult r (λ _. Adds (written (Oer.counted (drop (start + 1) o)) 0) (take start o) p) (λ e. e ≡ OutOfMemory) →
    MatchResult r (λ _. (k : List Frame) → Does ends (frame_of f ∷ k) o k p) (λ e. (k : List Frame) → Cannot ends (frame_of f ∷ k) o e)
small_ends f start o p r e m = open_frame_ends (frame_of f) start o p r (ap frame_of e) m

pub does_end_alternative : (fs rest : List Frame) (o : List ℕ) → fs ≡ Alternative ∷ rest → Does ends fs o rest o
does_end_alternative fs rest o a = record { after = λ s h. go s (on_top fs rest Alternative o s a h) }
  where
    go : (s : State) → Holds (Alternative ∷ rest) o s → (t : State) × (run ends s ≡ Some t) × Holds rest o t
    go s h = (h.0, ap (run ends) h.1, h.2)

-- a sequence without additions
pub components_end : (f : Frame) (c : Preamble) (o : List ℕ) → f ≡ Components c → c.extensible ≡ false → c.due ≡ 0 → (k : List Frame) → Does ends (f ∷ k) o k o
components_end f c o e x n k = does_end_components (f ∷ k) k c o (ap (λ g. g ∷ k) e) x n

-- ---- the form of a sequence by the octets of its additions

plain_text : (ms : List Bool) (os : List ℕ) → written (both (Oer.preamble (false ∷ ms)) (exactly os)) 0 ≡ Some (packed (padded (false ∷ ms)) ++ os)
unfolding written
plain_text ms os = refl

none_added : (ms : List Bool) (root : List ℕ) (bs : List Bool) (all : List ℕ) → is_any_set bs ≡ false → with_added ms root bs all ≡ Some (packed (padded (false ∷ ms)) ++ root)
none_added ms root bs all h =
    ap (λ t. cond t (written (both (Oer.preamble (true ∷ ms)) (both (exactly root) (both (Oer.counted_bits bs) (exactly all)))) 0)
    (written (both (Oer.preamble (false ∷ ms)) (exactly root)) 0)) h ∙ plain_text ms root

bitmap_text : (bs : List Bool) → written (Oer.bit_string_form false bs) 0 ≡ written (Oer.counted_bits bs) 0
unfolding written Oer.bit_string_form
bitmap_text bs = refl

after_root : (ms bs : List Bool) (os c all : List ℕ) → ((p : ℕ) → written (Oer.counted_bits bs) p ≡ Some c) →
    written (both (Oer.preamble (true ∷ ms)) (both (exactly os) (both (Oer.counted_bits bs) (exactly all)))) 0 ≡ Some (packed (padded (true ∷ ms)) ++ (os ++ (c ++ all)))
unfolding written
after_root ms bs os c all h =
    let front : List ℕ = packed (padded (true ∷ ms)) in
    let p : ℕ = 0 + length front + length os in
    ap (λ o. option_map (λ b. front ++ b) (option_map (λ b. os ++ b) (option_and_then (λ a. option_map (λ b. a ++ b) (Some all)) o))) (h p)

some_added : (ms : List Bool) (root c : List ℕ) (bs : List Bool) (all : List ℕ) → is_any_set bs ≡ true →
    written (Oer.bit_string_form false bs) 0 ≡ Some c → with_added ms root bs all ≡ Some (packed (padded (true ∷ ms)) ++ (root ++ (c ++ all)))
some_added ms root c bs all h k =
    ap (λ t. cond t (written (both (Oer.preamble (true ∷ ms)) (both (exactly root) (both (Oer.counted_bits bs) (exactly all)))) 0)
    (written (both (Oer.preamble (false ∷ ms)) (exactly root)) 0)) h ∙ after_root ms bs root c all (λ p. (counted_bits_still bs).at p ∙ sym (bitmap_text bs) ∙ k)

-- ---- the extension bit is set

module _ (given start : ℕ) (o : List ℕ) (h : HasBits true 0 given start o) where
  abbrev root_bits : List Bool
  root_bits = false ∷ (h.presence_bits ++ [])

  some_preamble : 0 < length h.bitmap
  some_preamble = omega (arith, ap length h.bits, length-octet_bits h.bitmap, length-append root_bits (replicate (missing (length root_bits)) false))

  starts_within : start < length o
  starts_within = omega (arith, some_preamble, ap length h.text, length-append h.front (h.bitmap ++ h.inner), length-append h.bitmap h.inner, h.starts)

  first_octet : (x : ℕ) → get_or o start x ≡ get_or h.bitmap 0 x
  first_octet x =
      let k : start - start ≡ 0 = omega arith in
      ap (λ l. get_or l start x) h.text ∙ get_or-append_right h.front (h.bitmap ++ h.inner) start start x h.starts (omega arith)
      ∙ ap (λ j. get_or (h.bitmap ++ h.inner) j x) k ∙ get_or_append_left h.bitmap h.inner x 0 some_preamble

  unextended_text : packed (padded (false ∷ h.presence_bits)) ≡ h.bitmap
  unextended_text = closed_text h.bitmap (false ∷ h.presence_bits) (h.bits ∙ ap (λ l. padded (false ∷ l)) (append-nil h.presence_bits)) h.small

  module _ (x : ℕ) (bit : binary 8 x ≡ set (binary 8 (get_or o start 0)) 0 true) (small : x < 256) where
    changed_bits : octet_bits (set h.bitmap 0 x) ≡ padded (true ∷ h.presence_bits)
    changed_bits =
        kept_changed h.bitmap root_bits (length root_bits) 0 (get_or o start 0) x true h.bits refl (omega arith) (get_or_any o start starts_within ∙ first_octet (get_or o start 0)) bit
        ∙ ap (λ l. padded (true ∷ l)) (append-nil h.presence_bits)

    extended_text : packed (padded (true ∷ h.presence_bits)) ≡ set h.bitmap 0 x
    extended_text = closed_text (set h.bitmap 0 x) (true ∷ h.presence_bits) changed_bits (set_small h.bitmap 0 x small some_preamble h.small)

    extended_whole : set o start x ≡ h.front ++ (packed (padded (true ∷ h.presence_bits)) ++ h.inner)
    extended_whole =
        let k : start - start ≡ 0 = omega arith in
        ap (λ l. set l start x) h.text ∙ set-append_right h.front (h.bitmap ++ h.inner) start start x h.starts (omega arith)
        ∙ ap (λ j. h.front ++ set (h.bitmap ++ h.inner) j x) k ∙ ap (λ l. h.front ++ l) (set-append_left h.bitmap h.inner 0 x some_preamble)
        ∙ ap (λ l. h.front ++ (l ++ h.inner)) (sym extended_text)

-- ---- additions end

pub is_not_so : (b : Bool) → not b ≡ true → b ≡ false
is_not_so true h = cc
is_not_so false h = refl

module _ (a : Additions) (k : List Frame) (o p : List ℕ) (n : a.due ≡ 0) where
  none_due : (s : State) → Holds (Added a ∷ k) o s → IsExtended (λ q t. Holds k q t) (with_due 0 a) o s
  none_due s h = subst (λ j. IsExtended (λ q t. Holds k q t) (with_due j a) o s) n h

  closes : (s : State) → (h : IsExtended (λ q t. Holds k q t) (with_due 0 a) o s) → (w : List ℕ) →
      with_added h.preamble.presence_bits h.preamble.inner h.has.presence_bits h.has.inner ≡ Some w → h.preamble.front ++ w ≡ p → (t : State) × (run ends s ≡ Some t) × Holds k p t
  closes s h w e q =
      let u : State = (h.outer.0 ++ w, h.outer.1) in
      (u, ap (run ends) h.is ∙ ap (λ t. adds_text t h.outer) e, subst (λ l. Holds k l u) q (appended k h.preamble.front h.outer w h.under))

  pub does_end_root : a.any ≡ false → p ≡ take a.root_end o → Does ends (Added a ∷ k) o k p
  does_end_root none x = record { after = λ s h. go s (none_due s h) }
    where
      go : (s : State) → IsExtended (λ q t. Holds k q t) (with_due 0 a) o s → (t : State) × (run ends s ≡ Some t) × Holds k p t
      go s h =
          let j = h.preamble in
          let first = unextended_text a.optional a.start h.root j in
          closes s h (packed (padded (false ∷ j.presence_bits)) ++ j.inner) (none_added j.presence_bits j.inner h.has.presence_bits h.has.inner (sym h.any ∙ none))
          (ap (λ l. j.front ++ (l ++ j.inner)) first ∙ sym j.text ∙ sym (x ∙ root_taken (with_due 0 a) o s h))

  pub does_end_added : a.any ≡ true → p ≡ set o a.start (get_or p a.start 0) → binary 8 (get_or p a.start 0)
      ≡ set (binary 8 (get_or o a.start 0)) 0 true → ((i d : ℕ) → i < length p → get_or p i d < 256) → Does ends (Added a ∷ k) o k p
  does_end_added some changed bit fits = record { after = λ s h. go s (none_due s h) }
    where
      go : (s : State) → IsExtended (λ q t. Holds k q t) (with_due 0 a) o s → (t : State) × (run ends s ≡ Some t) × Holds k p t
      go s h =
          let i = h.has in
          let j = h.preamble in
          let y : ℕ = get_or p a.start 0 in
          let bs : List ℕ = packed (padded i.presence_bits) in
          let tail : List ℕ = h.heading ++ (i.bitmap ++ i.inner) in
          let whole = root_first (with_due 0 a) o s h in
          let within : a.start < length h.root = starts_within a.optional a.start h.root j in
          let long : a.start < length p = omega (arith, within, ap length changed, length-set o a.start y, ap length whole, length-append h.root tail) in
          let octet : get_or o a.start 0 ≡ get_or h.root a.start 0 = ap (λ l. get_or l a.start 0) whole ∙ get_or_append_left h.root tail 0 a.start within in
          let root = extended_whole a.optional a.start h.root j y (bit ∙ ap (λ x. set (binary 8 x) 0 true) octet) (fits a.start 0 long) in
          let map : i.bitmap ≡ bs = sym (closed_text i.bitmap i.presence_bits (i.bits ∙ ap padded (append-nil i.presence_bits)) i.small) in
          let count : length i.presence_bits ≡ a.given + 0 = i.told ∙ (omega arith) in
          let headed = headed_bits i.presence_bits h.heading (ap (λ m. written (bits_heading m) 0) count ∙ h.heads) in
          let first : List ℕ = packed (padded (true ∷ j.presence_bits)) in
          let added : List ℕ = (h.heading ++ bs) ++ i.inner in
          let behind : tail ≡ added = ap (λ l. h.heading ++ (l ++ i.inner)) map ∙ sym (append_assoc h.heading bs i.inner) in
          let text : p ≡ j.front ++ (first ++ (j.inner ++ added)) =
          changed ∙ ap (λ l. set l a.start y) whole ∙ set-append_left h.root tail a.start y within ∙ ap (λ l. l ++ tail) root
          ∙ append_assoc j.front (first ++ j.inner) tail ∙ ap (λ l. j.front ++ l) (append_assoc first j.inner tail) ∙ ap (λ l. j.front ++ (first ++ (j.inner ++ l))) behind in
          closes s h (first ++ (j.inner ++ added)) (some_added j.presence_bits j.inner (h.heading ++ bs) i.presence_bits i.inner (sym h.any ∙ some) headed) (sym text)

-- the position of the preamble
pub added_within : (fs rest : List Frame) (a : Additions) (o : List ℕ) (s : State) → fs ≡ Added a ∷ rest → Holds fs o s → a.start < length o
added_within fs rest a o s b h =
    let k = on_top fs rest (Added a) o s b h in
    let l = starts_within a.optional a.start k.root k.preamble in
    omega (arith, l, ap length (root_first a o s k), length-append k.root (k.heading ++ (k.has.bitmap ++ k.has.inner)))

pub added_frame_within : (f : Frame) (a : Additions) (o : List ℕ) → ((k : List Frame) × AreSound (f ∷ k) o) → f ≡ Added a → a.start < length o
added_frame_within f a o h e = added_within (f ∷ h.0) h.0 a o h.1.state (ap (λ g. g ∷ h.0) e) h.1.holds

pub added_frame_ends : (f : Frame) (a : Additions) (o p : List ℕ) (r : Result (Unit {0}) EncodeError) → f ≡ Added a →
    MatchResult r (λ _. (k : List Frame) → Does ends (Added a ∷ k) o k p) (λ e. (k : List Frame) → Cannot ends (Added a ∷ k) o e) →
    MatchResult r (λ _. (k : List Frame) → Does ends (f ∷ k) o k p) (λ e. (k : List Frame) → Cannot ends (f ∷ k) o e)
added_frame_ends f a o p r e m = subst (λ g. MatchResult r (λ _. (k : List Frame) → Does ends (g ∷ k) o k p) (λ x. (k : List Frame) → Cannot ends (g ∷ k) o x)) (sym e) m

-- what has ended is closed
pub ends_and_leaves : (fs gs : List Frame) (f : Frame) (k : List Frame) (o p : List ℕ) → fs ≡ f ∷ k → gs ≡ k → ((k : List Frame) → Does ends (f ∷ k) o k p) → Does ends fs o gs p
ends_and_leaves fs gs f k o p e x h = subst (λ l. Does ends l o gs p) (sym e) (subst (λ l. Does ends (f ∷ k) o l p) (sym x) (h k))

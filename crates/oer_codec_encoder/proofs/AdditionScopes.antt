-- Additions that begin, continue and end, in the octets and the frames of an encoder.
use Rattle.std.proofs.Common.{◌≡◌, ℕ, not, suc, ◌+◌, ◌-◌, ◌*◌, ◌/◌, ◌%◌, ◌^◌, ◌<◌, ◌||◌, Bool, true, false, List, []}
use Rattle.std.proofs.Common.{◌∷◌, ◌++◌, length, take, drop, get_or, set, replicate, Option, Some, None, refl, ap}
use Rattle.std.proofs.Common.{subst, sym, ◌∙◌, arith, length-append, length-set}
use Rattle.std.proofs.lemmas.List.{get_or_append_left}
use Rattle.asn1_model.specs.Form.{written}
use Rattle.asn1_model.specs.Numbers.{binary, missing}
use Rattle.asn1_model.specs.Oer
use Rattle.asn1_schema_laws.specs.Records.{additions_begin, addition, addition_ends}
use Rattle.asn1_schema_reading_laws.specs.PresenceBits.{is_any_set}
use Rattle.oer_codec_encoder.specs.Steps.{Scope, added, open_type, State, run, adds_text}
use Rattle.oer_codec_encoder.specs.declared.frame.Additions.{Additions}
use Rattle.oer_codec_encoder.specs.declared.frame.Frame.{Frame}
use Rattle.oer_codec_encoder.specs.declared.frame.Preamble.{Preamble}
use Rattle.oer_codec_encoder.specs.Frames.{with_next}
use Rattle.oer_codec_encoder.specs.declared.frame.Frame.TheVariants.{Components, Added, OpenType}
use Rattle.oer_codec_encoder.specs.Holding.{HasBits, IsOpen, IsExtended, Holds, AreSound, Does}
use Rattle.oer_codec_writing.specs.Writing.{Adds, bits_heading}
use Rattle.oer_codec_encoder.proofs.Scopes.{on_top, put_back, appended, behind_room, before_room, behind_root, all_due, with_absent, with_present, within_octets}

pub is_so : (b : Bool) → not b ≡ false → b ≡ true
is_so true h = refl
is_so false h = cc

-- ---- whether one is present

or_none : (b : Bool) → (b || false) ≡ b
or_none true = refl
or_none false = refl

any_more : (bs : List Bool) (b : Bool) → is_any_set (bs ++ b ∷ []) ≡ (is_any_set bs || b)
any_more [] b = or_none b
any_more (true ∷ bs) b = refl
any_more (false ∷ bs) b = any_more bs b

-- ---- after the root

abbrev begun : ℕ → Preamble → ℕ → ℕ → Additions
begun n c bitmap root_end = record {
  due = n;
  given = 0;
  any = false;
  bitmap = bitmap;
  optional = c.given;
  start = c.start;
  root_end = root_end;
}

module _ (fs rest : List Frame) (c : Preamble) (o : List ℕ) (a : fs ≡ Components c ∷ rest) (e : c.extensible ≡ true) (d : c.due ≡ 0) where
  rooted : (s : State) → Holds fs o s → IsOpen (λ q t. Holds rest q t) true 0 c.given c.start o s
  rooted s h = subst (λ b. IsOpen (λ q t. Holds rest q t) b 0 c.given c.start o s) e
      (subst (λ k. IsOpen (λ q t. Holds rest q t) c.extensible k c.given c.start o s) d (on_top fs rest (Components c) o s a h))

  pub does_additions : (gs : List Frame) (n k bitmap root_end : ℕ) (p q : List ℕ) → n < 2 ^ 64 → Adds (written (bits_heading n) 0) o p →
      k * 8 ≡ (n + 0) + missing (n + 0) → bitmap ≡ length p → root_end ≡ length o → q ≡ p ++ replicate k 0 → gs ≡ Added (begun n c bitmap root_end) ∷ rest → Does (additions_begin n) fs o gs q
  does_additions gs n k bitmap root_end p q fits x whole at end y z = record { after = λ s h. go s (rooted s h) (written (bits_heading n) 0) refl x }
    where
      go : (s : State) → IsOpen (λ q t. Holds rest q t) true 0 c.given c.start o s → (t : Option (List ℕ)) → written (bits_heading n) 0 ≡ t →
          Adds t o p → (u : State) × (run (additions_begin n) s ≡ Some u) × Holds gs q u
      go s h None m b = cc
      go s h (Some w) m b =
          let i = h.has in
          let u : State = ([], added n i.presence_bits i.inner [] h.outer.0 ∷ h.outer.1) in
          let heading : o ++ w ≡ p = cc b in
          let all : 0 + n ≡ n = omega arith in
          let extended : Holds (Added (begun n c bitmap root_end) ∷ rest) (p ++ replicate k 0) u = record {
            has = all_due p false n k bitmap fits whole at;
            root = o;
            heading = w;
            text = sym heading;
            ends = sym end;
            heads = ap (λ j. written (bits_heading j) 0) all ∙ m;
            preamble = i;
            outer = h.outer;
            under = h.under;
            any = refl;
            is = refl;
          } in
          (u, ap (run (additions_begin n)) h.is, subst (λ l. Holds gs l u) (sym y) (put_back gs rest (Added (begun n c bitmap root_end)) (p ++ replicate k 0) u z extended))

-- ---- an addition

abbrev pub with_due : ℕ → Additions → Additions
with_due k a = record {
  due = k;
  given = a.given;
  any = a.any;
  bitmap = a.bitmap;
  optional = a.optional;
  start = a.start;
  root_end = a.root_end;
}

-- what holds for additions holds for those after the next one, with its bit
behind : (rest : List Frame) (a : Additions) (here : Bool) (o p : List ℕ) (s : State) →
    (h : IsExtended (λ q t. Holds rest q t) (with_due (suc (a.due - 1)) a) o s) → (i : HasBits false (a.due - 1) (a.given + 1) a.bitmap p) →
    i.front ≡ h.has.front → i.inner ≡ h.has.inner → i.presence_bits ≡ h.has.presence_bits ++ here ∷ [] →
    Holds (Added (with_next here a) ∷ rest) p (behind_root (a.due - 1) h.has.inner h.preamble.presence_bits h.preamble.inner (h.has.presence_bits ++ here ∷ []) h.outer)
behind rest a here o p s h i front inner bits =
    let count : a.given + 1 + (a.due - 1) ≡ a.given + suc (a.due - 1) = omega arith in
    record {
      has = i;
      root = h.root;
      heading = h.heading;
      text = front ∙ h.text;
      ends = h.ends;
      heads = ap (λ n. written (bits_heading n) 0) count ∙ h.heads;
      preamble = h.preamble;
      outer = h.outer;
      under = h.under;
      any = ap (λ x. x || here) h.any ∙ sym (any_more h.has.presence_bits here) ∙ ap is_any_set (sym bits);
      is = ap (λ l. behind_root (a.due - 1) l h.preamble.presence_bits h.preamble.inner (h.has.presence_bits ++ here ∷ []) h.outer) (sym inner)
          ∙ ap (λ bs. behind_root (a.due - 1) i.inner h.preamble.presence_bits h.preamble.inner bs h.outer) (sym bits);
    }

-- an open type begins after what is there
pub begins_apart : (fs : List Frame) (o : List ℕ) (s : State) → Holds fs o s → Holds (OpenType (length o) ∷ fs) (o ++ 0 ∷ []) ([], open_type s.0 ∷ s.1)
begins_apart fs o s h = record { front = o; room = 0; inner = []; outer = s; text = refl; starts = refl; under = h; is = refl }

-- the bits of additions can be counted
pub additions_fit : (fs rest : List Frame) (a : Additions) (o : List ℕ) → AreSound fs o → fs ≡ Added a ∷ rest → a.given + a.due < 2 ^ 64
additions_fit fs rest a o s e = (on_top fs rest (Added a) o s.state e s.holds).has.counts

module _ (fs rest : List Frame) (a : Additions) (o : List ℕ) (e : fs ≡ Added a ∷ rest) (n : 0 < a.due) where
  one : a.due ≡ suc (a.due - 1)
  one = omega arith

  next_due : (s : State) → Holds fs o s → IsExtended (λ q t. Holds rest q t) (with_due (suc (a.due - 1)) a) o s
  next_due s h = subst (λ k. IsExtended (λ q t. Holds rest q t) (with_due k a) o s) one (on_top fs rest (Added a) o s e h)

  place : a.given ≡ a.given + 0
  place = omega arith

  abbrev then_state : (s : State) → IsExtended (λ q t. Holds rest q t) (with_due (suc (a.due - 1)) a) o s → Bool → State
  then_state s h b = behind_root (a.due - 1) h.has.inner h.preamble.presence_bits h.preamble.inner (h.has.presence_bits ++ b ∷ []) h.outer

  pub does_no_addition : (gs : List Frame) → gs ≡ Added (with_next false a) ∷ rest → Does (addition false) fs o gs o
  does_no_addition gs x = record { after = λ s h. go s (next_due s h) }
    where
      go : (s : State) → IsExtended (λ q t. Holds rest q t) (with_due (suc (a.due - 1)) a) o s → (t : State) × (run (addition false) s ≡ Some t) × Holds gs o t
      go s h = (
        then_state s h false,
        ap (run (addition false)) h.is,
        put_back gs rest (Added (with_next false a)) o (then_state s h false) x
            (behind rest a false o o s h (with_absent false (a.due - 1) a.given a.bitmap o h.has) refl refl refl),
      )

  -- where the next bit is
  pub bit_within : AreSound fs o → a.bitmap + a.given / 8 < length o
  bit_within s = within_octets false (a.due - 1) a.given a.bitmap o (next_due s.state s.holds).has a.given place

  pub does_addition : (mid gs : List Frame) (p q : List ℕ) → mid ≡ Added (with_next true a) ∷ rest →
      p ≡ set o (a.bitmap + a.given / 8) (get_or p (a.bitmap + a.given / 8) 0) → binary 8 (get_or p (a.bitmap + a.given / 8) 0)
      ≡ set (binary 8 (get_or o (a.bitmap + a.given / 8) 0)) (a.given % 8) true → ((j d : ℕ) → j < length q → get_or q j d < 256) → q ≡ p ++ 0 ∷ [] →
      gs ≡ OpenType (length p) ∷ mid → Does (addition true) fs o gs q
  does_addition mid gs p q x others bit small v y = record { after = λ s h. go s (next_due s h) }
    where
      go : (s : State) → IsExtended (λ q t. Holds rest q t) (with_due (suc (a.due - 1)) a) o s → (t : State) × (run (addition true) s ≡ Some t) × Holds gs q t
      go s h =
          let at : ℕ = a.bitmap + a.given / 8 in
          let l : at < length o = within_octets false (a.due - 1) a.given a.bitmap o h.has a.given place in
          let m : at < length p = omega (arith, l, ap length others, length-set o at (get_or p at 0)) in
          let same : get_or q at 0 ≡ get_or p at 0 = ap (λ k. get_or k at 0) v ∙ get_or_append_left p (0 ∷ []) 0 at m in
          let octet : get_or p at 0 < 256 = omega (arith, same, small at 0 (omega (arith, m, ap length v, length-append p (0 ∷ [])))) in
          let below : State = then_state s h true in
          let t : State = ([], open_type below.0 ∷ below.1) in
          let under : Holds mid p below = put_back mid rest (Added (with_next true a)) p below x
          (behind rest a true o p s h (with_present false (a.due - 1) a.given a.bitmap o h.has p a.given place others bit octet) refl refl refl) in
          (t, ap (run (addition true)) h.is, subst (λ l. Holds gs l t) (sym v) (put_back gs mid (OpenType (length p)) (p ++ 0 ∷ []) t y (begins_apart mid p below under)))

-- ---- its end

pub does_addition_end : (fs rest : List Frame) (o p : List ℕ) (start : ℕ) → fs ≡ OpenType start ∷ rest → (a : Additions) (k : List Frame) →
    rest ≡ Added a ∷ k → Adds (written (Oer.counted (drop (start + 1) o)) 0) (take start o) p → Does addition_ends fs o rest p
does_addition_end fs rest o p start e a k q x = record { after = λ s h. go s (on_top fs rest (OpenType start) o s e h) }
  where
    go : (s : State) → Holds (OpenType start ∷ rest) o s → (t : State) × (run addition_ends s ≡ Some t) × Holds rest p t
    go s h = ends (written (Oer.counted h.inner) 0) refl (subst (λ l. Adds (written (Oer.counted l) 0) h.front p) (behind_room start o s h)
        (subst (λ l. Adds (written (Oer.counted (drop (start + 1) o)) 0) l p) (before_room start o s h) x))
      where
        under : Holds (Added a ∷ k) h.front h.outer
        under = subst (λ l. Holds l h.front h.outer) q h.under

        scope : Scope
        scope = added a.due under.preamble.presence_bits under.preamble.inner under.has.presence_bits under.outer.0

        known : s ≡ (h.inner, open_type under.has.inner ∷ (scope ∷ under.outer.1))
        known = h.is ∙ ap (λ (b : State). let l : State = (h.inner, open_type b.0 ∷ b.1) in l) under.is

        outer : h.outer ≡ (under.has.inner, scope ∷ under.outer.1)
        outer = under.is

        ends : (c : Option (List ℕ)) → written (Oer.counted h.inner) 0 ≡ c → Adds c h.front p → (t : State) × (run addition_ends s ≡ Some t) × Holds rest p t
        ends None d y = cc
        ends (Some w) d y =
            let full : h.front ++ w ≡ p = cc y in
            let t : State = (h.outer.0 ++ w, h.outer.1) in (
              t,
              ap (run addition_ends) known ∙ ap (λ b. adds_text b (under.has.inner, scope ∷ under.outer.1)) d ∙ ap (λ (b : State). let l : State = (b.0 ++ w, b.1) in Some l) (sym outer),
              subst (λ l. Holds rest l t) full (appended rest h.front h.outer w h.under),
            )

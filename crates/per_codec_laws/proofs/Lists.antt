-- Lists and bags, as a reader finds them: elements after a count, or in fragments, each after its length determinant.
use Rattle.std.proofs.Common.{◌≡◌, ◌⊎◌, inl, inr, ◌≤◌, ◌<◌, ℕ, zero, suc, ◌+◌, ◌-◌, ◌*◌, not, ltb, leb, ◌&&◌, Bool}
use Rattle.std.proofs.Common.{true, false, cond, IsTrue, List, [], ◌∷◌, ◌++◌, length, take, drop, replicate, Option}
use Rattle.std.proofs.Common.{Some, None, refl, ap, sym, ◌∙◌, subst, arith}
use Rattle.std.proofs.lemmas.Bool.{and_parts, and_from, leb-true, le-leb}
use Rattle.asn1_model.specs.Value.{Value, members as in_list, bag, Values, no_more, member, each, values_of, same}
use Rattle.asn1_model.specs.Schema.{Counts, Size, Schema, sequence_of, set_of}
use Rattle.asn1_model.specs.Numbers.{binary, is_count_within}
use Rattle.asn1_model.specs.Form.{exactly, both, only_if, joined, given, written, arranged, stands_before}
use Rattle.asn1_model.specs.Per
use Rattle.asn1_schema_laws.specs.Records.{Record, further, ends}
use Rattle.asn1_model.specs.Lawful.{member_count}
use Rattle.asn1_schema_laws.specs.Presents.{presents, member_records}
use Rattle.asn1_schema_laws.specs.Chains.{Chain}
use Rattle.asn1_schema_laws.proofs.Chains.{chain_split, chain_append}
use Rattle.per_codec_laws.specs.Sizes.{extension_bit, told_highest}
use Rattle.per_codec_laws.specs.Takes.{Position, Tally, State, Scope, members, Front, Found, InPlace, Admits, with_fragment, NextDeterminant, Headed, Counted, ListBegins, MemberDue}
use Rattle.asn1_schema_reading_laws.proofs.Alike.{LikeMembers, no_members, like_members, list_same, in_place, bag_like, Arranged, Ordered, reordered}
use Rattle.per_codec_laws.proofs.Next.{state_same}
use Rattle.per_codec_laws.proofs.Largest.{largest_behind, in_all, behind_four, four_before, first_are_largest, largest_are_first}
use Rattle.per_codec_laws.proofs.Fronts.{Finds, Shows, Step, nothing_front, of_nothing, of_refused, split, join}
use Rattle.per_codec_laws.proofs.Fronts.{varied_in, varied_out, given_in, given_out, if_in, if_out, short_bound, none}
use Rattle.per_codec_laws.proofs.Fronts.{from_state, from_scopes}

-- ---- counts
drop_long : {X : Type 0} (n : ℕ) (us : List X) → n ≤ length us → n + length (drop n us) ≡ length us
drop_long zero us h = omega arith
drop_long (suc n) [] h = absurd (omega arith)
drop_long (suc n) (x ∷ us) h = let e = drop_long n us (omega arith) in omega arith

each_long : {X : Type 0} (f : Value → X) (vs : Values) → length (each f vs) ≡ member_count vs
each_long f no_more = refl
each_long f (member v vs) = ap suc (each_long f vs)

-- a length determinant is read only if some of its elements are due
abbrev Ready : ℕ → Option Tally → Type 0
Ready zero (Some t) = ⊥
Ready n hs = Unit {0}

module _ (free : Per.Freedom → Bool) (al : Bool) where
  -- ---- what is due of a list
  -- these fragments come in an order that the reader accepts, after one of m times 16384
  abbrev InOrder : ℕ → List ℕ → Type 0
  InOrder m ms = (largest_behind m ms ≡ true) ⊎ IsTrue (free Per.other_fragments)

  abbrev MayFollow : Tally → Type 0
  MayFollow t = (t.last ≡ 4) ⊎ IsTrue (free Per.other_fragments)

  abbrev Settled : Tally → List ℕ → ℕ → Type 0
  Settled t ms n = Admits free t.size t.held t.outside (t.counted + n) × InOrder t.last ms

  abbrev Rest : ℕ → Option Tally → List Per.BitForm → Position → Position → Type 0
  Rest d None us a b = (length us ≡ d) × Front free (joined us) a b
  Rest d (Some t) us a b = (ms : List ℕ) × (d ≤ length us) × Settled t ms (length (drop d us)) × Front free (both (joined (take d us)) (Per.fragments al ms (drop d us))) a b

  -- ---- length determinants
  behind_none : (x : Per.BitForm) (a b : Position) → Front free x a b → Front free (both (exactly []) x) a b
  behind_none x a b f = join free (exactly []) x a a b (nothing_front free a) f

  of_none : (x : Per.BitForm) (a b : Position) → Front free (both (exactly []) x) a b → Front free x a b
  of_none x a b f = let q = split free (exactly []) x a b f in subst (λ p. Front free x p b) (of_nothing free a q.0 q.1) q.2

  settled_more : (t : Tally) (m n all : ℕ) (ms : List ℕ) → m * 16384 + n ≡ all → (leb 1 m && leb m 4) ≡ true → MayFollow t → Settled (with_fragment m t) ms n → Settled t (m ∷ ms) all
  settled_more t m n all ms e r f s =
      let c : t.counted + m * 16384 + n ≡ t.counted + all = omega arith in
      (subst (λ i. Admits free t.size t.held t.outside i) c s.0, ordered f s.1)
    where
      ordered : MayFollow t → InOrder m ms → InOrder t.last (m ∷ ms)
      ordered (inl x) (inl y) = inl (behind_four t.last m ms x r y)
      ordered (inr x) o = inr x
      ordered f (inr y) = inr y

  settled_less : (t : Tally) (m n all : ℕ) (ms : List ℕ) → m * 16384 + n ≡ all → Settled t (m ∷ ms) all → MayFollow t × Settled (with_fragment m t) ms n
  settled_less t m n all ms e s =
      let c : t.counted + all ≡ t.counted + m * 16384 + n = omega arith in
      let o = ordered s.1 in
      (o.0, (subst (λ i. Admits free t.size t.held t.outside i) c s.0, o.1))
    where
      ordered : InOrder t.last (m ∷ ms) → MayFollow t × InOrder m ms
      ordered (inl x) = let p = four_before t.last m ms x in (inl p.0, inl p.1)
      ordered (inr x) = (inr x, inr x)

  fragment_in : (t : Tally) (us : List Per.BitForm) (m : ℕ) (a mid b : Position) → (leb 1 m && leb m 4) ≡ true → MayFollow t →
      Front free (Per.at_octet al (exactly (true ∷ true ∷ binary 6 m))) a mid → Rest (m * 16384) (Some (with_fragment m t)) us mid b → Rest zero (Some t) us a b
  unfolding Per.fragments
  fragment_in t us m a mid b e h f r =
      let c : (leb 1 m && leb m 4 && leb (m * 16384) (length us)) ≡ true = and_from _ _ e (le-leb _ _ r.1) in (
        m ∷ r.0,
        omega arith,
        settled_more t m (length (drop (m * 16384) us)) (length us) r.0 (drop_long (m * 16384) us r.1) e h r.2,
        behind_none _ a b
            (if_in free (leb 1 m && leb m 4 && leb (m * 16384) (length us)) _ a b c (join free _ _ a mid b f r.3)),
      )

  last_in : (t : Tally) (us : List Per.BitForm) (a mid b : Position) → Admits free t.size t.held t.outside (t.counted + length us) →
      Front free (Per.short_length al (length us)) a mid → Front free (joined us) mid b → Rest zero (Some t) us a b
  unfolding Per.fragments
  last_in t us a mid b c f g = ([], omega arith, (c, inl refl), behind_none _ a b (join free _ _ a mid b f g))

  determinant_in : (t : Tally) (us : List Per.BitForm) (a mid b : Position) (due : ℕ) (hs : Option Tally) → NextDeterminant al free t a mid due hs → Rest due hs us mid b → Rest zero (Some t) us a b
  determinant_in t us a mid b due hs (inl x) r = fragment_in t us x.0 a mid b x.1 x.2 x.3 (subst (λ o. Rest (x.0 * 16384) o us mid b) x.5 (subst (λ n. Rest n hs us mid b) x.4 r))
  determinant_in t us a mid b due hs (inr x) r =
      let s : Rest due None us mid b = subst (λ o. Rest due o us mid b) x.2 r in
      let e : due ≡ length us = sym s.0 in
      last_in t us a mid b (subst (λ n. Admits free t.size t.held t.outside (t.counted + n)) e x.0) (subst (λ n. Front free (Per.short_length al n) a mid) e x.1) s.1

  abbrev Next : Tally → List Per.BitForm → Position → Position → Type 0
  Next t us a b = (due : ℕ) × (hs : Option Tally) × (mid : Position) × NextDeterminant al free t a mid due hs × Ready due hs × Rest due hs us mid b

  many_ready : (n : ℕ) (t : Tally) → 1 ≤ n → Ready n (Some t)
  many_ready zero t h = absurd (omega arith)
  many_ready (suc n) t h = tt

  none_ready : (n : ℕ) → Ready n None
  none_ready zero = tt
  none_ready (suc n) = tt

  determinant_out : (t : Tally) (us : List Per.BitForm) (a b : Position) → Rest zero (Some t) us a b → Next t us a b
  unfolding Per.fragments
  determinant_out t us a b r = by_sizes r.0 r.2 (of_none _ a b r.3)
    where
      by_sizes : (ms : List ℕ) → Settled t ms (length us) → Front free (Per.fragments al ms us) a b → Next t us a b
      by_sizes [] s f =
          let q = split free (Per.short_length al (length us)) (joined us) a b f in
          (length us, None, q.0, inr (s.0, q.1, refl), none_ready (length us), (refl, q.2))
      by_sizes (m ∷ ms) s f =
          let i = if_out free (leb 1 m && leb m 4 && leb (m * 16384) (length us)) _ a b f in
          let c = and_parts (leb 1 m && leb m 4) (leb (m * 16384) (length us)) i.0 in
          let q = split free _ _ a b i.1 in
          let l : m * 16384 ≤ length us = leb-true _ _ c.1 in
          let o : 1 ≤ m = leb-true _ _ ((and_parts (leb 1 m) (leb m 4) c.0).0) in
          let r = settled_less t m (length (drop (m * 16384) us)) (length us) ms (drop_long (m * 16384) us l) s in
          (m * 16384, Some (with_fragment m t), q.0, inl (m, c.0, r.0, q.1, refl, refl), many_ready (m * 16384) (with_fragment m t) (omega arith), (ms, l, r.1, q.2))

  -- ---- one more element
  more_in : (x : Per.BitForm) (us : List Per.BitForm) (d : ℕ) (hs : Option Tally) (a mid b : Position) → Front free x a mid → Rest d hs us mid b → Rest (suc d) hs (x ∷ us) a b
  more_in x us d None a mid b f r = (ap suc r.0, join free x (joined us) a mid b f r.1)
  more_in x us d (Some t) a mid b f r =
      let q = split free _ _ mid b r.3 in
      (r.0, omega (arith, r.1), r.2, join free _ _ a q.0 b (join free x (joined (take d us)) a mid q.0 f q.1) q.2)

  more_out : (x : Per.BitForm) (us : List Per.BitForm) (d : ℕ) (hs : Option Tally) (a b : Position) → Rest (suc d) hs (x ∷ us) a b → (mid : Position) × Front free x a mid × Rest d hs us mid b
  more_out x us d None a b r = let q = split free x (joined us) a b r.1 in let e = r.0 in (q.0, q.1, (omega arith, q.2))
  more_out x us d (Some t) a b r =
      let q = split free (both x (joined (take d us))) _ a b r.3 in
      let p = split free x (joined (take d us)) a q.0 q.1 in
      let l = r.1 in
      (p.0, p.1, (r.0, omega arith, r.2, join free _ _ p.0 q.0 b p.2 q.2))

  -- ---- elements
  module _ (s : Schema) where
    abbrev forms : Values → List Per.BitForm
    forms vs = each (λ v. Per.form al s v) vs

    abbrev calls : Values → List Record
    calls vs = member_records (λ v. presents s v) vs

    abbrev is_more : Values → Bool
    is_more no_more = false
    is_more (member v vs) = true

    -- the records after whether a further element comes
    abbrev tail : Values → List Record
    tail no_more = ends ∷ []
    tail (member v vs) = presents s v ++ calls vs

    -- records that take what is due of a list
    abbrev In : List Record → Values → ℕ → Option Tally → Type 0
    In rs vs d hs = (a : Position) (k : List Scope) (b : State) → Chain (Step free al) rs (a, members d hs ∷ k) b → Rest d hs (forms vs) a b.0 × (b.1 ≡ k)

    abbrev LaterIn : Values → Type 0
    LaterIn no_more = Unit {0}
    LaterIn (member v vs) = (d : ℕ) (hs : Option Tally) → In (calls vs) vs d hs

    due_in : Finds al free s → (vs : Values) → LaterIn vs → (d : ℕ) (hs : Option Tally) (a : Position) (k : List Scope) (m b : State) →
        MemberDue (is_more vs) d hs a k m → Chain (Step free al) (tail vs) m b → Rest d hs (forms vs) a b.0 × (b.1 ≡ k)
    due_in h no_more l zero None a k m b t c =
        let r = from_state free al (ends ∷ []) m b a (members zero None ∷ k) t.1 c in
        let e : b ≡ (a, k) = r.2 ∙ r.1 in
        ((refl, subst (λ p. Front free (exactly []) a p) (sym (ap (λ (s : State). s.0) e)) (nothing_front free a)), ap (λ (s : State). s.1) e)
    due_in h no_more l zero (Some g) a k m b t c = absurd t
    due_in h no_more l (suc d) hs a k m b t c = let e = t.0 in cc
    due_in h (member v vs) l zero None a k m b t c = let e = t.0 in cc
    due_in h (member v vs) l zero (Some g) a k m b t c = absurd t
    due_in h (member v vs) l (suc d) hs a k m b t c =
        let here : State = (a, members d hs ∷ k) in
        let q = chain_split (Step free al) (presents s v) (calls vs) here b (from_state free al (tail (member v vs)) m b a (members d hs ∷ k) t.1 c) in
        let f = h v here q.0 q.1 in
        let r = l d hs q.0.0 k b (from_scopes free al (calls vs) q.0 b (members d hs ∷ k) f.1 q.2) in
        (more_in (Per.form al s v) (forms vs) d hs a q.0.0 b.0 f.0 r.0, r.1)

    from_in : Finds al free s → (vs : Values) → LaterIn vs → (d : ℕ) (hs : Option Tally) → In (further (is_more vs) ∷ tail vs) vs d hs
    from_in h vs l zero None a k b c = due_in h vs l zero None a k c.0 b c.1 c.2
    from_in h vs l (suc d) hs a k b c = due_in h vs l (suc d) hs a k c.0 b c.1 c.2
    from_in h vs l zero (Some t) a k b c =
        let n = c.1 in
        let r = due_in h vs l n.0 n.1 n.2 k c.0 b n.4 c.2 in
        (determinant_in t (forms vs) a n.2 b.0 n.0 n.1 n.3 r.0, r.1)

    goes_in : Finds al free s → (vs : Values) (d : ℕ) (hs : Option Tally) → In (calls vs) vs d hs
    goes_in h no_more d hs = from_in h no_more tt d hs
    goes_in h (member v vs) d hs = from_in h (member v vs) (λ d hs. goes_in h vs d hs) d hs

    members_in : Finds al free s → (vs : Values) (d : ℕ) (hs : Option Tally) (m b : State) (k : List Scope) → m.1 ≡ members d hs ∷ k →
        Chain (Step free al) (calls vs) m b → Rest d hs (forms vs) m.0 b.0 × (b.1 ≡ k)
    members_in h vs d hs m b k e c = goes_in h vs d hs m.0 k b (from_scopes free al (calls vs) m b (members d hs ∷ k) e c)

    -- this number of elements, which are like these
    abbrev Likes : Values → Values → Type 0
    Likes vs ws = LikeMembers s vs ws × (member_count ws ≡ member_count vs)

    -- and back, for elements that are like these
    abbrev Out : Values → ℕ → Option Tally → Position → List Scope → State → Type 0
    Out vs d hs a k b = (ws : Values) × Likes vs ws × Chain (Step free al) (calls ws) (a, members d hs ∷ k) b

    abbrev LaterOut : Values → Type 0
    LaterOut no_more = Unit {0}
    LaterOut (member v vs) = (d : ℕ) (hs : Option Tally) (a : Position) (k : List Scope) (b : State) → Rest d hs (forms vs) a b.0 → b.1 ≡ k → Out vs d hs a k b

    abbrev DueOut : Values → ℕ → Option Tally → Position → List Scope → State → Type 0
    DueOut vs d hs a k b = (ws : Values) × Likes vs ws × (m : State) × MemberDue (is_more ws) d hs a k m × Chain (Step free al) (tail ws) m b

    due_out : Shows al free s → (vs : Values) → LaterOut vs → (d : ℕ) (hs : Option Tally) → Ready d hs → (a : Position) (k : List Scope) (b : State) →
        Rest d hs (forms vs) a b.0 → b.1 ≡ k → DueOut vs d hs a k b
    due_out h no_more l zero None y a k b r e = (no_more, ((no_members, λ q. refl), refl), (a, members zero None ∷ k), (refl, refl), (b, state_same b (a, k) (of_nothing free a b.0 r.1) e, refl))
    due_out h no_more l zero (Some g) y a k b r e = absurd y
    due_out h no_more l (suc d) None y a k b r e = let n = r.0 in absurd (omega arith)
    due_out h no_more l (suc d) (Some g) y a k b r e = let n = r.1 in absurd (omega arith)
    due_out h (member v vs) l zero None y a k b r e = let n = r.0 in absurd (omega arith)
    due_out h (member v vs) l zero (Some g) y a k b r e = absurd y
    due_out h (member v vs) l (suc d) hs y a k b r e =
        let q = more_out (Per.form al s v) (forms vs) d hs a b.0 r in
        let here : State = (a, members d hs ∷ k) in
        let there : State = (q.0, members d hs ∷ k) in
        let w = h v here there (q.1, refl) in
        let o = l d hs q.0 k b q.2 e in
        (member w.0 o.0, (like_members s v w.0 vs o.0 w.1 o.1.0, ap suc o.1.1), here, (refl, refl), chain_append (Step free al) (presents s w.0) (calls o.0) here there b w.2 o.2)

    called : (ws : Values) (m b : State) → Chain (Step free al) (further (is_more ws) ∷ tail ws) m b → Chain (Step free al) (calls ws) m b
    called no_more m b c = c
    called (member w ws) m b c = c

    from_out : Shows al free s → (vs : Values) → LaterOut vs → (d : ℕ) (hs : Option Tally) (a : Position) (k : List Scope) (b : State) → Rest d hs (forms vs) a b.0 → b.1 ≡ k → Out vs d hs a k b
    from_out h vs l zero None a k b r e =
        let q = due_out h vs l zero None tt a k b r e in
        (q.0, q.1, called q.0 (a, members zero None ∷ k) b (q.2, q.3, q.4))
    from_out h vs l (suc d) hs a k b r e =
        let q = due_out h vs l (suc d) hs (ready hs) a k b r e in
        (q.0, q.1, called q.0 (a, members (suc d) hs ∷ k) b (q.2, q.3, q.4))
      where
        ready : (hs : Option Tally) → Ready (suc d) hs
        ready None = tt
        ready (Some g) = tt
    from_out h vs l zero (Some t) a k b r e =
        let n = determinant_out t (forms vs) a b.0 r in
        let q = due_out h vs l n.0 n.1 n.4 n.2 k b n.5 e in
        (q.0, q.1, called q.0 (a, members zero (Some t) ∷ k) b (q.2, (n.0, n.1, n.2, n.3, q.3), q.4))

    goes_out : Shows al free s → (vs : Values) (d : ℕ) (hs : Option Tally) (a : Position) (k : List Scope) (b : State) → Rest d hs (forms vs) a b.0 → b.1 ≡ k → Out vs d hs a k b
    goes_out h no_more d hs a k b r e = from_out h no_more tt d hs a k b r e
    goes_out h (member v vs) d hs a k b r e = from_out h (member v vs) (λ d hs. goes_out h vs d hs) d hs a k b r e

  -- ---- what precedes elements
  abbrev Start : Size → Counts → Bool → Tally
  Start z h out = record { size = z; held = h; outside = out; counted = 0; last = 4 }

  -- what the length determinants say of all elements
  all_long : (ms : List ℕ) (us : List Per.BitForm) (a b : Position) → Front free (Per.fragments al ms us) a b → (n : ℕ) × (n < 16384) × (length us ≡ in_all ms n)
  unfolding Per.fragments
  all_long [] us a b f = let q = split free (Per.short_length al (length us)) (joined us) a b f in (length us, short_bound free al (length us) a q.0 q.1, refl)
  all_long (m ∷ ms) us a b f =
      let i = if_out free (leb 1 m && leb m 4 && leb (m * 16384) (length us)) _ a b f in
      let l : m * 16384 ≤ length us = leb-true _ _ ((and_parts (leb 1 m && leb m 4) (leb (m * 16384) (length us)) i.0).1) in
      let q = split free _ _ a b i.1 in
      let p = split free (joined (take (m * 16384) us)) _ q.0 b q.2 in
      let r = all_long ms (drop (m * 16384) us) p.0 b p.2 in
      (r.0, r.1, sym (drop_long (m * 16384) us l) ∙ ap (λ i. m * 16384 + i) r.2)

  start_in : (z : Size) (h : Counts) (out : Bool) (us : List Per.BitForm) (a b : Position) → Rest zero (Some (Start z h out)) us a b →
      Admits free z h out (length us) × Front free (Per.counted al us) a b
  unfolding Per.counted
  start_in z h out us a b r =
      let f = of_none _ a b r.3 in
      let e : 0 + length us ≡ length us = omega arith in
      (subst (λ n. Admits free z h out n) e r.2.0, varied_in free {c = Per.other_fragments} (λ ms. Per.fragments al ms us) r.0 (first r.2.1 (all_long r.0 us a b f)) a b f)
    where
      first : {ms : List ℕ} → InOrder 4 ms → (n : ℕ) × (n < 16384) × (length us ≡ in_all ms n) → (ms ≡ Per.largest_first (length us)) ⊎ IsTrue (free Per.other_fragments)
      first {ms = ms} (inl o) n = inl (largest_are_first ms n.0 n.1 o ∙ ap (λ i. Per.largest_first i) (sym n.2))
      first (inr o) n = inr o

  start_out : (z : Size) (h : Counts) (out : Bool) (us : List Per.BitForm) (a b : Position) → Admits free z h out (length us) →
      Front free (Per.counted al us) a b → Rest zero (Some (Start z h out)) us a b
  unfolding Per.counted
  start_out z h out us a b c f =
      let q = varied_out free {c = Per.other_fragments} (λ ms. Per.fragments al ms us) a b f in
      let e : length us ≡ 0 + length us = omega arith in
      (q.0, omega arith, (subst (λ n. Admits free z h out n) e c, largest q.1), behind_none _ a b q.2)
    where
      largest : {ms : List ℕ} → (ms ≡ Per.largest_first (length us)) ⊎ IsTrue (free Per.other_fragments) → InOrder 4 ms
      largest (inl e) = inl (subst (λ l. largest_behind 4 l ≡ true) (sym e) (first_are_largest (length us)))
      largest (inr e) = inr e

  never_padded : (x : Per.BitForm) → Per.at_octet (al && false) x ≡ x
  unfolding Per.at_octet
  never_padded x = by_variant al
    where
      by_variant : (t : Bool) → Per.at_octet (t && false) x ≡ x
      by_variant true = refl
      by_variant false = refl

  -- what is read of a list after the extension bit of its size
  abbrev counts_form : Size → Bool → Option ℕ → List Per.BitForm → Per.BitForm
  counts_form z out high us = cond out (Per.counted al us) (Per.sized_root al z.counts high (λ c. false) us)

  abbrev Opened : Size → Counts → Bool → Option ℕ → List Per.BitForm → Position → List Scope → Position → Type 0
  Opened z h out high us a k b = (m : State) × (d : ℕ) × (hs : Option Tally) × Counted al free z h out (told_highest out high) a k m × (m.1 ≡ members d hs ∷ k) × Rest d hs us m.0 b

  abbrev Onward : List Per.BitForm → State → List Scope → Position → Type 0
  Onward us m k b = (d : ℕ) (hs : Option Tally) → m.1 ≡ members d hs ∷ k → Rest d hs us m.0 b

  abbrev Read : Size → Counts → Bool → Option ℕ → List Per.BitForm → Position → Position → Type 0
  Read z h out high us a b = Admits free z h out (length us) × Front free (counts_form z out high us) a b

  headed_in : (z : Size) (h : Counts) (out : Bool) (us : List Per.BitForm) (a : Position) (k : List Scope) (m : State) (b : Position) →
      Headed al free z h out a k m → Onward us m k b → Admits free z h out (length us) × Front free (Per.counted al us) a b
  headed_in z h out us a k m b f g = start_in z h out us a b (determinant_in (Start z h out) us a m.0 b f.0 f.1 f.2 (g f.0 f.1 f.3))

  headed_out : (z : Size) (h : Counts) (out : Bool) (us : List Per.BitForm) (a : Position) (k : List Scope) (b : Position) →
      Admits free z h out (length us) → Front free (Per.counted al us) a b → (m : State) × (d : ℕ) × (hs : Option Tally) × Headed al free z h out a k m × (m.1 ≡ members d hs ∷ k) × Rest d hs us m.0 b
  headed_out z h out us a k b c f =
      let n = determinant_out (Start z h out) us a b (start_out z h out us a b c f) in
      ((n.2, members n.0 n.1 ∷ k), n.0, n.1, (n.0, n.1, n.3, refl), refl, n.5)

  abbrev by_number : Size → ℕ → List Per.BitForm → Per.BitForm
  by_number z high us = both (Per.constrained al (high - z.counts.low) (length us - z.counts.low)) (Per.at_octet (al && false) (joined us))

  bounds_in : (z : Size) (h : Counts) (t : Bool) (high : ℕ) (us : List Per.BitForm) (a : Position) (k : List Scope) (m : State) (b : Position) →
      Counted al free z h false (cond t (Some high) None) a k m → Onward us m k b → Admits free z h false (length us) × Front free (cond t (by_number z high us) (Per.counted al us)) a b
  bounds_in z h true high us a k m b f g =
      let r = g f.0 None f.3 in
      let e : f.0 ≡ length us = sym r.0 in
      let x = never_padded (joined us) in (
        subst (λ n. Admits free z h false n) e f.1,
        join free (Per.constrained al (high - z.counts.low) (length us - z.counts.low))
            (Per.at_octet (al && false) (joined us)) a m.0 b
            (subst (λ n. Front free (Per.constrained al (high - z.counts.low) (n - z.counts.low)) a m.0) e f.2) (subst (λ y. Front free y m.0 b) (sym x) r.1),
      )
  bounds_in z h false high us a k m b f g = headed_in z h false us a k m b f g

  bounds_out : (z : Size) (h : Counts) (t : Bool) (high : ℕ) (us : List Per.BitForm) (a : Position) (k : List Scope) (b : Position) →
      Admits free z h false (length us) → Front free (cond t (by_number z high us) (Per.counted al us)) a b → (m : State) × (d : ℕ) ×
      (hs : Option Tally) × Counted al free z h false (cond t (Some high) None) a k m × (m.1 ≡ members d hs ∷ k) × Rest d hs us m.0 b
  bounds_out z h true high us a k b c f =
      let q = split free (Per.constrained al (high - z.counts.low) (length us - z.counts.low)) (Per.at_octet (al && false) (joined us)) a b f in
      let x = never_padded (joined us) in
      ((q.0, members (length us) None ∷ k), length us, None, (length us, c, q.1, refl), refl, (refl, subst (λ y. Front free y q.0 b) x q.2))
  bounds_out z h false high us a k b c f = headed_out z h false us a k b c f

  counted_in : (z : Size) (h : Counts) (out : Bool) (high : Option ℕ) (us : List Per.BitForm) (a : Position) (k : List Scope) (m : State)
      (b : Position) → Counted al free z h out (told_highest out high) a k m → Onward us m k b → Read z h out high us a b
  unfolding Per.sized_root
  counted_in z h true high us a k m b f g = headed_in z h true us a k m b f g
  counted_in z h false None us a k m b f g = headed_in z h false us a k m b f g
  counted_in z h false (Some high) us a k m b f g = bounds_in z h (ltb high 65536) high us a k m b f g

  counted_out : (z : Size) (h : Counts) (out : Bool) (high : Option ℕ) (us : List Per.BitForm) (a : Position) (k : List Scope) (b : Position) → Read z h out high us a b → Opened z h out high us a k b
  unfolding Per.sized_root
  counted_out z h true high us a k b r = headed_out z h true us a k b r.0 r.1
  counted_out z h false None us a k b r = headed_out z h false us a k b r.0 r.1
  counted_out z h false (Some high) us a k b r = bounds_out z h (ltb high 65536) high us a k b r.0 r.1

  -- ---- the extension bit of a size
  bit_in : (e t : Bool) (x y : Per.BitForm) (out : Bool) (a mid b : Position) → Front free (extension_bit e out) a mid → InPlace free out t →
      Front free (cond out y x) mid b → Front free (Per.with_extension_bit e t x y) a b
  unfolding Per.with_extension_bit
  bit_in false t x y true a mid b m i f = absurd (of_refused free a mid m)
  bit_in false t x y false a mid b m i f = if_in free t x a b i (subst (λ p. Front free x p b) (of_nothing free a mid m) f)
  bit_in true t x y true a mid b m i f = varied_in free {c = Per.root_told_outside}
      (λ o. cond o (both (exactly (true ∷ [])) y) (only_if t (both (exactly (false ∷ [])) x))) true (outside i) a b (join free (exactly (true ∷ [])) y a mid b m f)
    where
      outside : (t ≡ false) ⊎ IsTrue (free Per.root_told_outside) → (true ≡ not t) ⊎ IsTrue (free Per.root_told_outside)
      outside (inl e) = inl (sym (ap not e))
      outside (inr e) = inr e
  bit_in true t x y false a mid b m i f = varied_in free {c = Per.root_told_outside}
      (λ o. cond o (both (exactly (true ∷ [])) y) (only_if t (both (exactly (false ∷ [])) x))) false (inl (sym (ap not i))) a b
      (if_in free t (both (exactly (false ∷ [])) x) a b i (join free (exactly (false ∷ [])) x a mid b m f))

  abbrev Placed : Bool → Bool → Per.BitForm → Per.BitForm → Position → Position → Type 0
  Placed e t x y a b = (out : Bool) × (mid : Position) × Front free (extension_bit e out) a mid × InPlace free out t × Front free (cond out y x) mid b

  bit_out : (e t : Bool) (x y : Per.BitForm) (a b : Position) → Front free (Per.with_extension_bit e t x y) a b → Placed e t x y a b
  unfolding Per.with_extension_bit
  bit_out false t x y a b f = let q = if_out free t x a b f in (false, a, nothing_front free a, q.0, q.1)
  bit_out true t x y a b f = let q = varied_out free {c = Per.root_told_outside} (λ o. cond o (both (exactly (true ∷ [])) y) (only_if t (both (exactly (false ∷ [])) x))) a b f in go q.0 q.1 q.2
    where
      inside : (b : Bool) → true ≡ not b → b ≡ false
      inside true e = cc
      inside false e = refl

      outside : (true ≡ not t) ⊎ IsTrue (free Per.root_told_outside) → (t ≡ false) ⊎ IsTrue (free Per.root_told_outside)
      outside (inl e) = inl (inside t e)
      outside (inr e) = inr e

      go : (o : Bool) → (o ≡ not t) ⊎ IsTrue (free Per.root_told_outside) → Front free (cond o (both (exactly (true ∷ [])) y) (only_if t (both (exactly (false ∷ [])) x))) a b → Placed true t x y a b
      go true i f = let q = split free (exactly (true ∷ [])) y a b f in (true, q.0, q.1, outside i, q.2)
      go false i f =
          let p = if_out free t (both (exactly (false ∷ [])) x) a b f in
          let q = split free (exactly (false ∷ [])) x a b p.1 in
          (false, q.0, q.1, p.0, q.2)

  -- ---- SEQUENCE OF
  sized_in : (z : Size) (h : Counts) (us : List Per.BitForm) (n : ℕ) (a m : State) (b : Position) → ListBegins al free z h n a m → Onward us m a.1 b →
      Front free (Per.sized al z h (λ c. false) us) a.0 b
  unfolding Per.sized
  sized_in z h us n a m b t g =
      let r = counted_in z h t.1 z.counts.high us t.2 a.1 m b t.4 g in
      if_in free (is_count_within h (length us)) _ a.0 b r.0.0 (bit_in z.extensible (is_count_within z.counts (length us))
      (Per.sized_root al z.counts z.counts.high (λ c. false) us) (Per.counted al us) t.1 a.0 t.2 b t.3 r.0.1 r.1)

  sized_out : (z : Size) (h : Counts) (us : List Per.BitForm) (n : ℕ) → length us ≡ n → (a : State) (b : Position) →
      Front free (Per.sized al z h (λ c. false) us) a.0 b → (m : State) × (d : ℕ) × (hs : Option Tally) × ListBegins al free z h n a m × (m.1 ≡ members d hs ∷ a.1) × Rest d hs us m.0 b
  unfolding Per.sized
  sized_out z h us n l a b f =
      let p = if_out free (is_count_within h (length us)) _ a.0 b f in
      let q = bit_out z.extensible (is_count_within z.counts (length us)) (Per.sized_root al z.counts z.counts.high (λ c. false) us) (Per.counted al us) a.0 b p.1 in
      let r = counted_out z h q.0 z.counts.high us q.1 a.1 b ((p.0, q.3), q.4) in
      (r.0, r.1, r.2, (subst (λ i. is_count_within h i ≡ true) l p.0, q.0, q.1, q.2, r.3), r.4, r.5)

  scopes_held : (z : Size) (h : Counts) (n : ℕ) (a m : State) → ListBegins al free z h n a m → (d : ℕ) × (hs : Option Tally) × (m.1 ≡ members d hs ∷ a.1)
  scopes_held z h n a m t = held t.1 (told_highest t.1 z.counts.high) t.2 t.4
    where
      held : (o : Bool) (told : Option ℕ) (p : Position) → Counted al free z h o told p a.1 m → (d : ℕ) × (hs : Option Tally) × (m.1 ≡ members d hs ∷ a.1)
      held o None p f = (f.0, f.1, f.3)
      held o (Some high) p f = (f.0, None, f.3)

  list_in : (z : Size) (h : Counts) (s : Schema) → Finds al free s → (vs : Values) (a m b : State) → ListBegins al free z h (member_count vs) a m →
      Chain (Step free al) (member_records (λ v. presents s v) vs) m b → Found free (Per.sized al z h (λ c. false) (each (λ v. Per.form al s v) vs)) a b
  list_in z h s finds vs a m b t c =
      let g : Onward (each (λ v. Per.form al s v) vs) m a.1 b.0 = λ d hs e. (members_in s finds vs d hs m b a.1 e c).0 in
      let o = scopes_held z h (member_count vs) a m t in
      (sized_in z h (each (λ v. Per.form al s v) vs) (member_count vs) a m b.0 t g, (members_in s finds vs o.0 o.1 m b a.1 o.2 c).1)

  -- a list of elements that are like these
  abbrev ListOut : Size → Counts → Schema → Values → State → State → Type 0
  ListOut z h s vs a b = (ws : Values) × (m : State) × LikeMembers s vs ws × ListBegins al free z h (member_count ws) a m × Chain (Step free al) (member_records (λ v. presents s v) ws) m b

  list_out : (z : Size) (h : Counts) (s : Schema) → Shows al free s → (vs : Values) (a b : State) →
      Found free (Per.sized al z h (λ c. false) (each (λ v. Per.form al s v) vs)) a b → ListOut z h s vs a b
  list_out z h s shows vs a b f =
      let r = sized_out z h (each (λ v. Per.form al s v) vs) (member_count vs) (each_long (λ v. Per.form al s v) vs) a b.0 f.0 in
      let m : State = r.0 in
      let o = goes_out s shows vs r.1 r.2 m.0 a.1 b r.5 f.1 in
      let c = subst (λ x. Chain (Step free al) (member_records (λ v. presents s v) o.0) x b) (state_same (m.0, members r.1 r.2 ∷ a.1) m refl (sym r.4)) o.2 in
      (o.0, m, o.1.0, subst (λ n. ListBegins al free z h n a m) (sym o.1.1) r.3, c)

  pub list_finds : (z : Size) (h : Counts) (s : Schema) → Finds al free s → Finds al free (sequence_of z h s)
  unfolding presents Per.form
  list_finds z h s finds (in_list vs) a b c = list_in z h s finds vs a c.0 b c.1 c.2
  list_finds z h s finds v a b c = (none free al a b).0 c

  pub list_shows : (z : Size) (h : Counts) (s : Schema) → Shows al free s → Shows al free (sequence_of z h s)
  unfolding presents Per.form
  list_shows z h s shows (in_list vs) a b f = let r = list_out z h s shows vs a b f in (in_list r.0, (list_same vs r.0 r.2.0, λ e. ap in_list (r.2.1 e)), (r.1, r.3, r.4))
  list_shows z h s shows v a b f = absurd (of_refused free a.0 b.0 f.0)

  -- ---- SET OF
  pub bag_finds : IsTrue (free Per.other_order) → (z : Size) (h : Counts) (s : Schema) → Finds al free s → Finds al free (set_of z h s)
  unfolding presents Per.form Per.in_any_order
  bag_finds order z h s finds (bag vs) a b c =
      let xs : List Per.BitForm = each (λ v. Per.form al s v) vs in
      let f = list_in z h s finds vs a c.0 b c.1 c.2 in (
        varied_in free {c = Per.other_order} (λ o. given (Ordered (λ x. written (Per.complete x) 0) (stands_before Per.bit_less) xs o)
            (Per.sized al z h (λ c. false))) (Some (replicate (length xs) 0)) (inr order) a.0 b.0
            (given_in free (arranged (replicate (length xs) 0) xs) (Per.sized al z h (λ c. false)) xs (in_place xs) a.0 b.0 f.0),
        f.1,
      )
  bag_finds order z h s finds v a b c = (none free al a b).0 c

  ordered_out : (z : Size) (h : Counts) (s : Schema) → Shows al free s → (vs : Values) (ys : List Per.BitForm) (a b : State) →
      Arranged (λ v. Per.form al s v) vs ys → Found free (Per.sized al z h (λ c. false) ys) a b → (ws : Values) × (m : State) ×
      (same (bag vs) (bag ws) ≡ true) × ListBegins al free z h (member_count ws) a m × Chain (Step free al) (member_records (λ v. presents s v) ws) m b
  ordered_out z h s shows vs ys a b r f =
      let t = list_out z h s shows (values_of r.1) a b (subst (λ l. Found free (Per.sized al z h (λ c. false) l) a b) (sym r.3) f) in
      (t.0, t.1, bag_like vs t.0 r.0 r.1 r.2 t.2.0, t.3, t.4)

  pub bag_shows : (z : Size) (h : Counts) (s : Schema) → Shows al free s → Shows al free (set_of z h s)
  unfolding presents Per.form Per.in_any_order
  bag_shows z h s shows (bag vs) a b f =
      let xs : List Per.BitForm = each (λ v. Per.form al s v) vs in
      let t = varied_out free {c = Per.other_order} (λ o. given (Ordered (λ x. written (Per.complete x) 0) (stands_before Per.bit_less) xs o) (Per.sized al z h (λ c. false))) a.0 b.0 f.0 in
      let q = given_out free (Ordered (λ x. written (Per.complete x) 0) (stands_before Per.bit_less) xs t.0) (Per.sized al z h (λ c. false)) a.0 b.0 t.2 in
      let r = ordered_out z h s shows vs q.0 a b (reordered (λ v. Per.form al s v) (λ x. written (Per.complete x) 0) (stands_before Per.bit_less) vs t.0 q.0 q.1) (q.2, f.1) in
      (bag r.0, (r.2, λ d. cc d), (r.1, r.3, r.4))
  bag_shows z h s shows v a b f = absurd (of_refused free a.0 b.0 f.0)

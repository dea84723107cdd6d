-- How scopes are opened and left, and why none is.
use Rattle.std.proofs.Common.{◌≡◌, ℕ, zero, suc, ◌+◌, ◌-◌, ◌/◌, ◌<◌, ◌≤◌, ltb, cond, Bool, true, false, List, [], ◌∷◌}
use Rattle.std.proofs.Common.{length, drop, Some, None, Result, Ok, Err, IfErr, refl, sym, ◌∙◌, ap, subst, arith}
use Rattle.std.specs.Prelude.{OnOk}
use Rattle.std.proofs.lemmas.Bool.{ltb-true, lt-ltb}
use Rattle.asn1_schema_laws.specs.Levels.{level}
use Rattle.asn1_model.specs.Schema.{Counts, Size, Tag}
use Rattle.asn1_model.specs.Numbers.{octet_bits, is_count_within}
use Rattle.asn1_model.specs.Per
use Rattle.asn1_schema_decode.specs.Reads.{NoRecord, NoLevel}
use Rattle.asn1_schema_lacking_laws.specs.Carried.{AtOnce}
use Rattle.asn1_schema_decode.proofs.AtOnce.{none_at_once, no_level_at_once}
use Rattle.asn1_schema_errors.specs.declared.DecodeError.{DecodeError}
use Rattle.asn1_schema_errors.specs.declared.DecodeError.TheVariants.{OutOfMemory}
use Rattle.asn1_schema_laws.specs.Records.{Record, Question, question, list_begins, bag_begins, sequence_begins}
use Rattle.asn1_schema_laws.specs.Records.{set_begins, group_begins, additions_begin, addition, addition_ends}
use Rattle.asn1_schema_laws.specs.Records.{choice_begins, ends}
use Rattle.asn1_schema_laws.specs.Records.{asks_list, asks_bag, asks_sequence, asks_set, asks_group, asks_additions, asks_addition, asks_addition_end, asks_choice, asks_end}
use Rattle.asn1_schema_reading_laws.specs.PresenceBits.{first_bits}
use Rattle.per_codec_laws.specs.Takes.{Position, Scope, State, components, added, open_type, members, alternative}
use Rattle.per_codec_laws.specs.Takes.{Front, ListBegins, Begins, AdditionsBegin, NextAddition, AdditionEnds, Opens}
use Rattle.per_codec_laws.specs.Takes.{Closes, Skips, Chooses, Ends, Takes}
use Rattle.per_codec_reading.specs.Fronts.{freedoms, is_aligned, Leads, Misses}
use Rattle.per_codec_held_laws.specs.Held.{Held, state_of, kept, innermost, opened_in, stands_within, stands_outside, Finds}
use Rattle.per_codec_decoder.specs.Held.{stands_behind, Moves, Enters, EntersMembers, EntersComponents, NotMembers, NotComponents, HasOpened, NoOpening, HasPassed}
use Rattle.per_codec_held_laws.specs.Held.{IsReady}
use Rattle.per_codec_reading_values.specs.Bitmaps.{HasBitmap, NoBitmap}
use Rattle.per_codec_decoder.specs.Scopes.{NoAdditions, NextBitmapBit, NoAdditionDue, Leaves, LeavesBehind, NoEnd, LeavesAddition, NoAdditionEnd}
use Rattle.per_codec_reading.specs.Closed.{IsClosed}
use Rattle.per_codec_decoder.specs.Endings.{Passes, NotPassed}
use Rattle.per_codec_decoder.specs.declared.frames.Ending.{Ending}
use Rattle.per_codec_decoder.specs.declared.frames.Ending.TheVariants.{Nothing, Unknown, OpenType as Padded}
use Rattle.asn1_schema_tags.specs.declared.chosen.Chosen.{Chosen}
use Rattle.per_codec_laws.proofs.Next.{place_same, state_same, same_fronts}
use Rattle.asn1_laws_fronts.proofs.PerNumbers.{constrained_alike}
use Rattle.asn1_laws_fronts.proofs.Units.{small_alike}
use Rattle.per_codec_laws.proofs.Fronts.{split, if_out}
use Rattle.per_codec_reading.specs.Runs.{Storage, storage_inside}
use Rattle.per_codec_laws.specs.Sizes.{extension_bit}
use Rattle.per_codec_laws.proofs.Next.{same_extension_bit}
use Rattle.per_codec_reading_values.specs.Indices.{index_form, added_form, root_form}
use Rattle.per_codec_reading_values.proofs.IndexFronts.{root_told, added_told, root_is, added_is}
use Rattle.per_codec_reading_values.specs.Fields.{octets_form}
use Rattle.per_codec_reading_values.specs.Stretches.{Stretched}
use Rattle.per_codec_reading_values.proofs.FieldFronts.{octets_of, octets_read, units_by_length}
use Rattle.per_codec_reading.proofs.Fronts.{missed}
use Rattle.per_codec_decoder.proofs.Finding.{begins}
use Rattle.per_codec_decoder.proofs.Settling.{steps, moves_there}

-- a scope inside all others
pub entered : (old new : Held) (s : Scope) (r : Record) → Enters old s new →
    Takes (is_aligned old.rules) (freedoms old.rules) (state_of old) r (new.place, s ∷ old.scopes) → ((most l : ℕ) → level most r (suc l) ≡ Some l) →
    old.stands ≡ kept old r new.place (s ∷ old.scopes) → Finds old r new
entered old new s r e t v u = steps old old new new.place (s ∷ old.scopes) new.levels r old.stands refl e.0 t (ap (λ l. level old.most r l) e.1 ∙ v old.most new.levels) u e.2

pub on_ok : {A : Type 0} {P Q : Type 0} (r : Result A DecodeError) → OnOk r P → (P → Q) → OnOk r Q
on_ok (Ok x) p f = f p
on_ok (Err e) p f = tt

pub on_err : {A : Type 0} {P Q : DecodeError → Type 0} (r : Result A DecodeError) → IfErr r P → ((e : DecodeError) → P e → Q e) → IfErr r Q
on_err (Ok x) p f = tt
on_err (Err e) p f = f e p

-- ---- SEQUENCE OF and SET OF
pub list_entered : (old new : Held) (z : Size) (h : Counts) (n : ℕ) → is_count_within h n ≡ true → EntersMembers old z h new → Finds old (list_begins z h n) new
list_entered old new z h n w g = entered old new (members g.0 g.1) (list_begins z h n) g.2 (w, g.3.0, g.3.1, g.3.2, g.3.3 old.scopes) (λ most l. refl) refl

pub bag_entered : (old new : Held) (z : Size) (h : Counts) (n : ℕ) → is_count_within h n ≡ true → EntersMembers old z h new → Finds old (bag_begins z h n) new
bag_entered old new z h n w g = entered old new (members g.0 g.1) (bag_begins z h n) g.2 (w, g.3.0, g.3.1, g.3.2, g.3.3 old.scopes) (λ most l. refl) refl

asked_list : (al : Bool) (free : Per.Freedom → Bool) (z : Size) (h : Counts) (a b : State) (r : Record) → question r ≡ asks_list z h → Takes al free a r b → (n : ℕ) × ListBegins al free z h n a b
asked_list al free z h a b (list_begins y i n) k t = let p : list_begins y i n ≡ list_begins z h n = cc k in (n, subst (λ r. Takes al free a r b) p t)
asked_list al free z h a b r k t = cc k

asked_bag : (al : Bool) (free : Per.Freedom → Bool) (z : Size) (h : Counts) (a b : State) (r : Record) → question r ≡ asks_bag z h → Takes al free a r b → (n : ℕ) × ListBegins al free z h n a b
asked_bag al free z h a b (bag_begins y i n) k t = let p : bag_begins y i n ≡ bag_begins z h n = cc k in (n, subst (λ r. Takes al free a r b) p t)
asked_bag al free z h a b r k t = cc k

pub no_list : {failed : Held} (old : Held) (z y : Size) (h : Counts) (x : DecodeError) → y ≡ z → NotMembers old y h x → NoLevel Finds AtOnce (asks_list z h) old.levels old failed x
no_list old z y h x e m = no_level_at_once Finds (λ i l r new k p.
    let t = asked_list (is_aligned old.rules) (freedoms old.rules) z h (state_of old) (state_of new) r k p.taken in
    (subst (λ s. NotMembers old s h x) e m p.ready l).none i t.0 old.scopes (state_of new) t.1)

pub no_bag : {failed : Held} (old : Held) (z y : Size) (h : Counts) (x : DecodeError) → y ≡ z → NotMembers old y h x → NoLevel Finds AtOnce (asks_bag z h) old.levels old failed x
no_bag old z y h x e m = no_level_at_once Finds (λ i l r new k p.
    let t = asked_bag (is_aligned old.rules) (freedoms old.rules) z h (state_of old) (state_of new) r k p.taken in
    (subst (λ s. NotMembers old s h x) e m p.ready l).none i t.0 old.scopes (state_of new) t.1)

-- ---- SEQUENCE, SET and groups
pub components_entered : (old new : Held) (e : Bool) (n : ℕ) (r : Record) →
    ((a b : State) → Begins (freedoms old.rules) e n a b → Takes (is_aligned old.rules) (freedoms old.rules) a r b) →
    ((most l : ℕ) → level most r (suc l) ≡ Some l) → ((p : Position) (k : List Scope) → old.stands ≡ kept old r p k) → EntersComponents old e n new → Finds old r new
components_entered old new e n r t v u g = entered old new g.0 r g.1
    (t (state_of old) (new.place, g.0 ∷ old.scopes) (begins (freedoms old.rules) e n g.0 old.place new.place old.scopes g.2)) v (u new.place (g.0 ∷ old.scopes))

asked_sequence : (al : Bool) (free : Per.Freedom → Bool) (e : Bool) (n : ℕ) (a b : State) (r : Record) → question r ≡ asks_sequence e n → Takes al free a r b → Begins free e n a b
asked_sequence al free e n a b (sequence_begins d m) k t = let p : sequence_begins d m ≡ sequence_begins e n = cc k in subst (λ r. Takes al free a r b) p t
asked_sequence al free e n a b r k t = cc k

asked_set : (al : Bool) (free : Per.Freedom → Bool) (e : Bool) (n : ℕ) (a b : State) (r : Record) → question r ≡ asks_set e n → Takes al free a r b → Begins free e n a b
asked_set al free e n a b (set_begins d m) k t = let p : set_begins d m ≡ set_begins e n = cc k in subst (λ r. Takes al free a r b) p t
asked_set al free e n a b r k t = cc k

asked_group : (al : Bool) (free : Per.Freedom → Bool) (n : ℕ) (a b : State) (r : Record) → question r ≡ asks_group n → Takes al free a r b → Begins free false n a b
asked_group al free n a b (group_begins m) k t = let p : group_begins m ≡ group_begins n = cc k in subst (λ r. Takes al free a r b) p t
asked_group al free n a b r k t = cc k

no_components : {failed : Held} (q : Question) (old : Held) (e : Bool) (n : ℕ) (x : DecodeError) →
    ((al : Bool) (free : Per.Freedom → Bool) (a b : State) (r : Record) → question r ≡ q → Takes al free a r b → Begins free e n a b) →
    NotComponents old e n x → NoLevel Finds AtOnce q old.levels old failed x
no_components q old e n x asked m = no_level_at_once Finds (λ i l r new k p.
    let t = asked (is_aligned old.rules) (freedoms old.rules) (state_of old) (state_of new) r k p.taken in
    m p.ready l i (components t.0 t.1) new.place (t.2, t.3, t.4))

pub no_sequence : {failed : Held} (old : Held) (e : Bool) (n : ℕ) (x : DecodeError) → NotComponents old e n x → NoLevel Finds AtOnce (asks_sequence e n) old.levels old failed x
no_sequence old e n x m = no_components (asks_sequence e n) old e n x (λ al free a b r. asked_sequence al free e n a b r) m

pub no_set : {failed : Held} (old : Held) (e : Bool) (n : ℕ) (x : DecodeError) → NotComponents old e n x → NoLevel Finds AtOnce (asks_set e n) old.levels old failed x
no_set old e n x m = no_components (asks_set e n) old e n x (λ al free a b r. asked_set al free e n a b r) m

pub no_group : {failed : Held} (old : Held) (n : ℕ) (x : DecodeError) → NotComponents old false n x → NoLevel Finds AtOnce (asks_group n) old.levels old failed x
no_group old n x m = no_components (asks_group n) old false n x (λ al free a b r. asked_group al free n a b r) m

-- ---- additions
abbrev at : Position → List Bool → List Bool → List Scope → State
at p ms us l = (p, added ms us ∷ l)

none_left : (n : ℕ) → drop {A = Bool} n [] ≡ []
none_left zero = refl
none_left (suc n) = refl

drops : (n : ℕ) (bs : List Bool) (a b : Position) (k : List Scope) → bs ≡ [] → b ≡ a → at b (first_bits n bs) (drop n bs) k ≡ at a (first_bits n []) [] k
drops n bs a b k p q = ap (λ (l : List Bool). at b (first_bits n l) (drop n l) k) p ∙ ap (λ (l : List Bool). at b (first_bits n []) l k) (none_left n)
    ∙ ap (λ (x : Position). at x (first_bits n []) [] k) q

additions_are : (al : Bool) (free : Per.Freedom → Bool) (n : ℕ) (m : Bool) (bs : List Bool) (a b : Position) (s k : List Scope) →
    s ≡ components (Some m) [] ∷ k → HasBitmap free al m bs a b → AdditionsBegin al free n a s (at b (first_bits n bs) (drop n bs) k)
additions_are al free n false bs a b s k e h =
    let f : AdditionsBegin al free n a (components (Some false) [] ∷ k) (at b (first_bits n bs) (drop n bs) k) = drops n bs a b k h.0 h.1 in
    subst (λ (l : List Scope). AdditionsBegin al free n a l (at b (first_bits n bs) (drop n bs) k)) (sym e) f
additions_are al free n true bs a b s k e h =
    let f : AdditionsBegin al free n a (components (Some true) [] ∷ k) (at b (first_bits n bs) (drop n bs) k) = (bs, h.0, h.1, refl) in
    subst (λ (l : List Scope). AdditionsBegin al free n a l (at b (first_bits n bs) (drop n bs) k)) (sym e) f

pub additions_begun : (old now new : Held) (n : ℕ) (m : Bool) (bs : List Bool) (k : List Scope) (b : Position) → now ≡ old → IsReady old →
    now.scopes ≡ components (Some m) [] ∷ k → HasBitmap (freedoms now.rules) (is_aligned now.rules) m bs now.place b →
    new ≡ record {
      place = b;
      scopes = added (first_bits n bs) (drop n bs) ∷ k;
      levels = now.levels;
      most = now.most;
      failed = now.failed;
      rules =
          now.rules;
      stands = now.stands;
    } → Finds old (additions_begin n) new
additions_begun old now new n m bs k b same ready e h f = steps old now new b (added (first_bits n bs) (drop n bs) ∷ k) now.levels (additions_begin n)
    now.stands same ready (additions_are (is_aligned now.rules) (freedoms now.rules) n m bs now.place b now.scopes k e h) refl refl f

asked_additions : (al : Bool) (free : Per.Freedom → Bool) (n : ℕ) (a b : State) (r : Record) → question r ≡ asks_additions n → Takes al free a r b → AdditionsBegin al free n a.0 a.1 b
asked_additions al free n a b (additions_begin m) k t = let p : additions_begin m ≡ additions_begin n = cc k in subst (λ r. Takes al free a r b) p t
asked_additions al free n a b r k t = cc k

pub none_come : {failed : Held} (old now : Held) (n : ℕ) (x : DecodeError) → now ≡ old → NoAdditions now.scopes → NoRecord Finds AtOnce (asks_additions n) old failed x
none_come old now n x same none = none_at_once Finds (λ i r new k p.
    let t = asked_additions (is_aligned old.rules) (freedoms old.rules) n (state_of old) (state_of new) r k p.taken in
    none (is_aligned old.rules) (freedoms old.rules) n old.place (state_of new)
    (subst (λ (h : Held). AdditionsBegin (is_aligned old.rules) (freedoms old.rules) n old.place h.scopes (state_of new)) (sym same) t))

bitmap_in : (al : Bool) (free : Per.Freedom → Bool) (n : ℕ) (m : Bool) (a : Position) (k : List Scope) (b : State) →
    AdditionsBegin al free n a (components (Some m) [] ∷ k) b → (bs : List Bool) × HasBitmap free al m bs a b.0
bitmap_in al free n false a k b t = ([], (refl, ap (λ (s : State). s.0) t))
bitmap_in al free n true a k b t = (t.0, (t.1, t.2))

pub no_bitmap : {failed : Held} (old now : Held) (n : ℕ) (m : Bool) (k : List Scope) (e x : DecodeError) → now ≡ old → x ≡ e →
    now.scopes ≡ components (Some m) [] ∷ k → NoBitmap (freedoms now.rules) (is_aligned now.rules) m now.place e → NoRecord Finds AtOnce (asks_additions n) old failed x
no_bitmap {failed} old now n m k e x same faults h none =
    let here : NoRecord Finds AtOnce (asks_additions n) now failed x = none_at_once Finds (λ i r new q p.
    let t = asked_additions (is_aligned now.rules) (freedoms now.rules) n (state_of now) (state_of new) r q p.taken in
    let u = subst (λ (l : List Scope). AdditionsBegin (is_aligned now.rules) (freedoms now.rules) n now.place l (state_of new)) h t in
    let b = bitmap_in (is_aligned now.rules) (freedoms now.rules) n m now.place k (state_of new) u in
    none (λ y. i (faults ∙ y)) b.0 new.place b.1) in
    subst (λ (g : Held). NoRecord Finds AtOnce (asks_additions n) g failed x) same here

asked_addition : (al : Bool) (free : Per.Freedom → Bool) (a b : State) (r : Record) → question r ≡ asks_addition → Takes al free a r b → (v : Bool) × NextAddition al free v a.0 a.1 b
asked_addition al free a b (addition v) k t = (v, t)
asked_addition al free a b r k t = cc k

pub no_addition_due : {failed : Held} (old now : Held) (x : DecodeError) → now ≡ old → NoAdditionDue now.scopes → NoRecord Finds AtOnce asks_addition old failed x
no_addition_due old now x same none = none_at_once Finds (λ i r new k p.
    let t = asked_addition (is_aligned old.rules) (freedoms old.rules) (state_of old) (state_of new) r k p.taken in
    none (is_aligned old.rules) (freedoms old.rules) t.0 old.place (state_of new)
    (subst (λ (h : Held). NextAddition (is_aligned old.rules) (freedoms old.rules) t.0 old.place h.scopes (state_of new)) (sym same) t.1))

-- one that is absent
pub addition_absent : (old now new : Held) (v : Bool) (k : List Scope) → now ≡ old → IsReady old → v ≡ false → NextBitmapBit v now.scopes k →
    new ≡ record { place = now.place; scopes = k; levels = now.levels; most = now.most; failed = now.failed; rules = now.rules; stands = now.stands } → Finds old (addition v) new
addition_absent old now new true k same ready e g f = cc
addition_absent old now new false k same ready e g f =
    let t : NextAddition (is_aligned now.rules) (freedoms now.rules) false now.place (added (false ∷ g.0) g.1 ∷ g.2) (now.place, k) = (refl, ap (λ (l : List Scope). (now.place, l)) g.4) in
    steps old now new now.place k now.levels (addition false) now.stands same ready
    (subst (λ (l : List Scope). NextAddition (is_aligned now.rules) (freedoms now.rules) false now.place l (now.place, k)) (sym g.3) t) refl refl f

-- one that is present
pub addition_there : (old now mid new : Held) (v : Bool) (k : List Scope) → now ≡ old → IsReady old → v ≡ true → NextBitmapBit v now.scopes k →
    mid ≡ record { place = now.place; scopes = k; levels = now.levels; most = now.most; failed = now.failed; rules = now.rules; stands = now.stands } → HasOpened mid new → Finds old (addition v) new
addition_there old now mid new false k same ready e g z f = cc
addition_there old now mid new true k same ready e g z f =
    let own : Held = record { place = now.place; scopes = k; levels = now.levels; most = now.most; failed = now.failed; rules = now.rules; stands = now.stands } in
    let w : HasOpened own new = subst (λ (h : Held). HasOpened h new) z f in
    let o : Opens (is_aligned now.rules) (freedoms now.rules) now.place (added g.0 g.1 ∷ g.2) (state_of new) =
    subst (λ (l : List Scope). Opens (is_aligned now.rules) (freedoms now.rules) now.place l (state_of new)) g.4 w.0 in
    steps old now new new.place new.scopes now.levels (addition true) (stands_within true now.stands new.place new.scopes) same ready
    (subst (λ (l : List Scope). NextAddition (is_aligned now.rules) (freedoms now.rules) true now.place l (state_of new)) (sym g.3) (refl, o)) refl refl w.1

flagged : (al : Bool) (free : Per.Freedom → Bool) (u : Bool) (a : Position) (ms us : List Bool) (k : List Scope) (b : State) →
    NextAddition al free u a (added (true ∷ ms) us ∷ k) b → Opens al free a (added ms us ∷ k) b
flagged al free u a ms us k b t = t.1

pub no_addition_opens : {failed : Held} (old now mid : Held) (v : Bool) (k : List Scope) (e x : DecodeError) → now ≡ old → x ≡ e → v ≡ true →
    NextBitmapBit v now.scopes k → mid ≡ record {
      place = now.place;
      scopes = k;
      levels = now.levels;
      most = now.most;
      failed = now.failed;
      rules =
          now.rules;
      stands = now.stands;
    } → NoOpening mid e → NoRecord Finds AtOnce asks_addition old failed x
no_addition_opens old now mid false k e x same faults t g z none = cc
no_addition_opens {failed} old now mid true k e x same faults t g z none =
    let own : Held = record { place = now.place; scopes = k; levels = now.levels; most = now.most; failed = now.failed; rules = now.rules; stands = now.stands } in
    let w : NoOpening own e = subst (λ (h : Held). NoOpening h e) z none in
    let here : NoRecord Finds AtOnce asks_addition now failed x = none_at_once Finds (λ i r new q p.
    let s = asked_addition (is_aligned now.rules) (freedoms now.rules) (state_of now) (state_of new) r q p.taken in
    let u = subst (λ (l : List Scope). NextAddition (is_aligned now.rules) (freedoms now.rules) s.0 now.place l (state_of new)) g.3 s.1 in
    w (λ y. i (faults ∙ y)) (added g.0 g.1 ∷ g.2) (state_of new) (flagged (is_aligned now.rules) (freedoms now.rules) s.0 now.place g.0 g.1 g.2 (state_of new) u)) in
    subst (λ (h : Held). NoRecord Finds AtOnce asks_addition h failed x) same here

asked_addition_end : (al : Bool) (free : Per.Freedom → Bool) (a b : State) (r : Record) → question r ≡ asks_addition_end → Takes al free a r b → AdditionEnds free a.0 a.1 b
asked_addition_end al free a b addition_ends k t = t
asked_addition_end al free a b r k t = cc k

pub no_addition_ends : {failed : Held} (old now : Held) (x : DecodeError) → now ≡ old → NoAdditionEnd now.scopes → NoRecord Finds AtOnce asks_addition_end old failed x
no_addition_ends old now x same none = none_at_once Finds (λ i r new k p.
    let t = asked_addition_end (is_aligned old.rules) (freedoms old.rules) (state_of old) (state_of new) r k p.taken in
    none (freedoms old.rules) old.place (state_of new) (subst (λ (h : Held). AdditionEnds (freedoms old.rules) old.place h.scopes (state_of new)) (sym same) t))

-- the innermost scope is left
abbrev pub left : Held → List Scope → List Storage → Held
left now k l = record { place = now.place; scopes = k; levels = now.levels; most = now.most; failed = now.failed; rules = now.rules; stands = l }

passed_to : (now mid new : Held) (w : Ending) (k : List Scope) (l : List Storage) → mid ≡ left now k l → HasPassed w mid new →
    new ≡ record { place = new.place; scopes = k; levels = now.levels; most = now.most; failed = now.failed; rules = now.rules; stands = stands_behind w l }
passed_to now mid new w k l z f = f ∙
    ap (λ (q : Held). let t : Held = record { place = new.place; scopes = q.scopes; levels = q.levels; most = q.most; failed = q.failed; rules = q.rules; stands = stands_behind w q.stands } in t) z

abbrev PassesAt : Held → Ending → Held → Type 0
PassesAt mid w new = Passes (is_aligned mid.rules) (freedoms mid.rules) w mid.place new.place

abbrev NotPassedAt : Held → Ending → DecodeError → Type 0
NotPassedAt mid w e = NotPassed (is_aligned mid.rules) (freedoms mid.rules) w mid.place e

pub addition_ended : (old now mid new : Held) (behind : Stretched) (k : List Scope) (s : Storage) (l l' : List Storage) → now ≡ old → IsReady old →
    LeavesAddition behind.place now.scopes k → now.stands ≡ s ∷ l → l ≡ behind.storage ∷ l' → mid ≡ left now k (s ∷ l') →
    HasPassed (Padded behind) mid new → Passes (is_aligned mid.rules) (freedoms mid.rules) (Padded behind) mid.place new.place → Finds old addition_ends new
addition_ended old now mid new behind k s l l' same ready g v w z f c =
    let d : PassesAt (left now k (s ∷ l')) (Padded behind) new = subst (λ (h : Held). PassesAt h (Padded behind) new) z c in
    let t : Closes (freedoms now.rules) now.place behind.place k (new.place, k) =
    subst (λ (p : Position). Closes (freedoms now.rules) now.place behind.place k (p, k)) (sym d.1) (d.0 behind.place k) in
    let i : now.scopes ≡ open_type behind.place ∷ added g.1.0 g.1.1 ∷ g.1.2 = g.0 ∙ ap (λ (l : List Scope). open_type behind.place ∷ l) g.1.3 in
    let u : Closes (freedoms now.rules) now.place behind.place (added g.1.0 g.1.1 ∷ g.1.2) (new.place, k) =
    subst (λ (l : List Scope). Closes (freedoms now.rules) now.place behind.place l (new.place, k)) g.1.3 t in
    steps old now new new.place k now.levels addition_ends (behind.storage ∷ l') same ready
    (subst (λ (l : List Scope). AdditionEnds (freedoms now.rules) now.place l (new.place, k)) (sym i) u) refl (sym w ∙ ap (drop 1) (sym v)) (passed_to now mid new (Padded behind) k (s ∷ l') z f)

pub addition_open : {failed : Held} (old now mid : Held) (behind : Stretched) (k : List Scope) (l : List Storage) (e x : DecodeError) → now ≡ old →
    LeavesAddition behind.place now.scopes k → mid ≡ left now k l →
    NotPassed (is_aligned mid.rules) (freedoms mid.rules) (Padded behind) mid.place e → NoRecord Finds AtOnce asks_addition_end old failed x
addition_open {failed} old now mid behind k l e x same g z c =
    let d : NotPassedAt (left now k l) (Padded behind) e = subst (λ (h : Held). NotPassedAt h (Padded behind) e) z c in
    let s : now.scopes ≡ open_type behind.place ∷ added g.1.0 g.1.1 ∷ g.1.2 = g.0 ∙ ap (λ (l : List Scope). open_type behind.place ∷ l) g.1.3 in
    let here : NoRecord Finds AtOnce asks_addition_end now failed x = none_at_once Finds (λ i r new q p.
    let t = asked_addition_end (is_aligned now.rules) (freedoms now.rules) (state_of now) (state_of new) r q p.taken in
    let u = subst (λ (l : List Scope). AdditionEnds (freedoms now.rules) now.place l (state_of new)) s t in
    d behind.place (added g.1.0 g.1.1 ∷ g.1.2) (state_of new) u) in
    subst (λ (h : Held). NoRecord Finds AtOnce asks_addition_end h failed x) same here

-- ---- the end
asked_end : (al : Bool) (free : Per.Freedom → Bool) (a b : State) (r : Record) → question r ≡ asks_end → Takes al free a r b → (r ≡ ends) × Ends al free a.0 a.1 b
asked_end al free a b ends k t = (refl, t)
asked_end al free a b r k t = cc k

end_in : (al : Bool) (free : Per.Freedom → Bool) (w : Ending) (s k : List Scope) (a b : Position) → Leaves w s k → Passes al free w a b → Ends al free a s (b, k)
end_in al free Nothing s k a b l p = subst (λ (q : Position). Ends al free a s (q, k)) (sym p) (l al free a)
end_in al free (Unknown r) s k a b l p = subst (λ (t : List Scope). Ends al free a t (b, k)) (sym l) (p, refl)
end_in al free (Padded q) s k a b l p =
    let d : Closes free a q.place k (b, k) = subst (λ (x : Position). Closes free a q.place k (x, k)) (sym p.1) (p.0 q.place k) in
    subst (λ (t : List Scope). Ends al free a t (b, k)) (sym l) d

end_out : (al : Bool) (free : Per.Freedom → Bool) (w : Ending) (s k : List Scope) (a : Position) (e : DecodeError) → Leaves w s k →
    NotPassed al free w a e → ¬ (e ≡ OutOfMemory) → (b : State) → Ends al free a s b → ⊥
end_out al free Nothing s k a e l n m b t = n
end_out al free (Unknown r) s k a e l n m b t = let u = subst (λ (x : List Scope). Ends al free a x b) l t in n m b.0 u.0
end_out al free (Padded q) s k a e l n m b t = let u : Closes free a q.place k b = subst (λ (x : List Scope). Ends al free a x b) l t in n q.place k b u

-- a scope with nothing to skip at its end is no open type
no_type_left : (p : Position) (s k : List Scope) → Leaves Nothing (open_type p ∷ s) k → ⊥
no_type_left p s k l =
    let a : Position = (suc p.0, []) in
    let c : Closes (λ f. true) a p s (a, k) = l true (λ f. true) a in
    let b : State = (a, k) in
    let d : State = (p, s) in
    let e : b ≡ d = c.6 in
    let n : suc p.0 ≡ p.0 = ap (λ (x : State). x.0.0) e in
    omega (arith, n)

kept_behind : (w : Ending) (s k : List Scope) (o : Storage) (l l' : List Storage) → Leaves w s k → LeavesBehind w l l' → stands_behind w (o ∷ l') ≡ stands_outside s (o ∷ l)
kept_behind Nothing (open_type p ∷ s) k o l l' g h = absurd (no_type_left p s k g)
kept_behind Nothing s k o l l' g h = ap (λ t. o ∷ t) (sym h)
kept_behind (Unknown r) s k o l l' g h = ap (λ t. o ∷ t) (sym h) ∙ ap (λ t. stands_outside t (o ∷ l)) (sym g)
kept_behind (Padded p) s k o l l' g h = sym h ∙ ap (λ t. stands_outside t (o ∷ l)) (sym g)

pub ended : (old now mid new : Held) (w : Ending) (k : List Scope) (b : Position) (o : Storage) (l l' : List Storage) → now ≡ old → IsReady old →
    now.levels < now.most → Leaves w now.scopes k → now.stands ≡ o ∷ l → LeavesBehind w l l' → mid ≡ left now k (o ∷ l') →
    Passes (is_aligned mid.rules) (freedoms mid.rules) w mid.place b →
    new ≡ record { place = b; scopes = k; levels = now.levels + 1; most = now.most; failed = now.failed; rules = now.rules; stands = stands_behind w (o ∷ l') } → Finds old ends new
ended old now mid new w k b o l l' same ready m g v h z p f =
    let q : Passes (is_aligned now.rules) (freedoms now.rules) w now.place b = subst (λ (h : Held). Passes (is_aligned h.rules) (freedoms h.rules) w h.place b) z p in
    let u : level now.most ends now.levels ≡ Some (now.levels + 1) = ap (λ c. cond c (Some (suc now.levels)) None) (lt-ltb now.levels now.most m) ∙ ap (λ (n : ℕ). Some n) (omega arith) in
    steps old now new b k (now.levels + 1) ends (stands_behind w (o ∷ l')) same ready
    (end_in (is_aligned now.rules) (freedoms now.rules) w now.scopes k now.place b g q) u (kept_behind w now.scopes k o l l' g h ∙ ap (stands_outside now.scopes) (sym v)) f

pub no_end : {failed : Held} (old now : Held) (x : DecodeError) → now ≡ old → NoEnd now.scopes → NoRecord Finds AtOnce asks_end old failed x
no_end old now x same none = none_at_once Finds (λ i r new k p.
    let t = asked_end (is_aligned old.rules) (freedoms old.rules) (state_of old) (state_of new) r k p.taken in
    none (is_aligned old.rules) (freedoms old.rules) old.place (state_of new) (subst (λ (h : Held). Ends (is_aligned old.rules) (freedoms old.rules) old.place h.scopes (state_of new)) (sym same) t.1))

outside_none : (l most n : ℕ) (t : Bool) → ltb l most ≡ t → most ≤ l → cond t (Some (suc l)) None ≡ Some n → ⊥
outside_none l most n true e h v = let i = ltb-true l most e in omega (arith, i, h)
outside_none l most n false e h v = cc

pub no_level_outside : {failed : Held} (old now : Held) (x : DecodeError) → now ≡ old → now.most ≤ now.levels → NoRecord Finds AtOnce asks_end old failed x
no_level_outside {failed} old now x same l =
    let here : NoRecord Finds AtOnce asks_end now failed x = none_at_once Finds (λ i r new k p.
    let t = asked_end (is_aligned now.rules) (freedoms now.rules) (state_of now) (state_of new) r k p.taken in
    let v : level now.most ends now.levels ≡ Some new.levels = subst (λ (y : Record). level now.most y now.levels ≡ Some new.levels) t.0 p.levels in
    outside_none now.levels now.most new.levels (ltb now.levels now.most) refl l v) in
    subst (λ (h : Held). NoRecord Finds AtOnce asks_end h failed x) same here

pub not_ended : {failed : Held} (old now mid : Held) (w : Ending) (k : List Scope) (l : List Storage) (e x : DecodeError) → now ≡ old → x ≡ e →
    Leaves w now.scopes k → mid ≡ left now k l → NotPassed (is_aligned mid.rules) (freedoms mid.rules) w mid.place e → NoRecord Finds AtOnce asks_end old failed x
not_ended {failed} old now mid w k l e x same faults g z c =
    let d : NotPassed (is_aligned now.rules) (freedoms now.rules) w now.place e = subst (λ (h : Held). NotPassed (is_aligned h.rules) (freedoms h.rules) w h.place e) z c in
    let here : NoRecord Finds AtOnce asks_end now failed x = none_at_once Finds (λ i r new q p.
    let t = asked_end (is_aligned now.rules) (freedoms now.rules) (state_of now) (state_of new) r q p.taken in
    end_out (is_aligned now.rules) (freedoms now.rules) w now.scopes k now.place e g d (λ y. i (faults ∙ y)) (state_of new) t.1) in
    subst (λ (h : Held). NoRecord Finds AtOnce asks_end h failed x) same here

-- ---- what is left at the end of a scope
pub passed_on : (old now new : Held) (w : Ending) (m : List Storage) → now ≡ old → m ≡ stands_behind w now.stands →
    new ≡ record { place = new.place; scopes = now.scopes; levels = now.levels; most = now.most; failed = now.failed; rules = now.rules; stands = m }
    → Passes (is_aligned now.rules) (freedoms now.rules) w now.place new.place → HasPassed w old new × Passes (is_aligned old.rules) (freedoms old.rules) w old.place new.place
passed_on old now new w m same e f p =
    let g : HasPassed w now new = f ∙
    ap (λ (b : List Storage). let h : Held = record { place = new.place; scopes = now.scopes; levels = now.levels; most = now.most; failed = now.failed; rules = now.rules; stands = b } in h) e in
    subst (λ (h : Held). HasPassed w h new × Passes (is_aligned h.rules) (freedoms h.rules) w h.place new.place) same (g, p)

pub not_passed_on : (old now : Held) (w : Ending) (e : DecodeError) → now ≡ old →
    NotPassed (is_aligned now.rules) (freedoms now.rules) w now.place e → NotPassed (is_aligned old.rules) (freedoms old.rules) w old.place e
not_passed_on old now w e same n = subst (λ (h : Held). NotPassed (is_aligned h.rules) (freedoms h.rules) w h.place e) same n

skips_led : (al : Bool) (free : Per.Freedom → Bool) (us : List Bool) (a b : Position) → Skips al free us a b → (w : List Bool) × Leads w a b
skips_led al free us a b s = (s.2.text, (s.2.in_front, s.2.moved))

pub passed_unknown : (al : Bool) (free : Per.Freedom → Bool) (w : Ending) (r : Stretched) (here there place new : Position) (n : ℕ) → w ≡ Unknown r →
    here ≡ place → n ≡ there.0 → Skips al free r.place.1 here there → ((u : List Bool) (b : Position) → b.0 ≡ n → Leads u place b → new ≡ b) → Passes al free w place new
passed_unknown al free w r here there place new n t e p s m =
    let q = subst (λ (x : Position). Skips al free r.place.1 x there) e s in
    let l = skips_led al free r.place.1 place there q in
    let f : new ≡ there = m l.0 there (sym p) l.1 in
    subst (λ (x : Ending). Passes al free x place new) (sym t) (subst (λ (x : Position). Skips al free r.place.1 place x) (sym f) q)

pub not_passed_unknown : (al : Bool) (free : Per.Freedom → Bool) (w : Ending) (r : Stretched) (here place : Position) (e : DecodeError) →
    w ≡ Unknown r → here ≡ place → (¬ (e ≡ OutOfMemory) → (b : Position) → Skips al free r.place.1 here b → ⊥) → NotPassed al free w place e
not_passed_unknown al free w r here place e t q n = subst (λ (x : Ending). NotPassed al free x place e) (sym t) (λ m b s. n m b (subst (λ (x : Position). Skips al free r.place.1 x b) (sym q) s))

pub passed_open : (al : Bool) (free : Per.Freedom → Bool) (w : Ending) (p : Stretched) (here place new : Position) → w ≡ Padded p → here ≡ place →
    IsClosed free here → new ≡ p.place → Passes al free w place new
passed_open al free w p here place new t q c f = subst (λ (x : Ending). Passes al free x place new) (sym t) (subst (λ (x : Position). IsClosed free x) q c, f)

pub not_passed_open : (al : Bool) (free : Per.Freedom → Bool) (w : Ending) (p : Stretched) (here place : Position) (e : DecodeError) → w ≡ Padded p →
    here ≡ place → ((rest : Position) (k : List Scope) (b : State) → Closes free here rest k b → ⊥) → NotPassed al free w place e
not_passed_open al free w p here place e t q n = subst (λ (x : Ending). NotPassed al free x place e) (sym t) (λ rest k b s. n rest k b (subst (λ (x : Position). Closes free x rest k b) (sym q) s))

-- ---- open types
pub not_opened : (old now : Held) (e x : DecodeError) → now ≡ old → x ≡ e → Misses (freedoms now.rules) (octets_form (is_aligned now.rules)) now.place e → NoOpening old x
not_opened old now e x same faults m =
    let here : NoOpening now x = λ i k b o.
    let f = units_by_length (freedoms now.rules) (is_aligned now.rules) o.0 now.place o.1 o.2 in
    let g = octets_read (freedoms now.rules) (is_aligned now.rules) (length o.0, octet_bits o.0) now.place o.1 f in
    missed (freedoms now.rules) (octets_form (is_aligned now.rules)) now.place e m (λ y. i (faults ∙ y)) (octet_bits o.0) o.1 g
    in
    subst (λ (h : Held). NoOpening h x) same here

pub opened : (old now new : Held) (inside behind there : Position) (k : List Scope) (s : Storage) (l : List Storage) → now ≡ old → inside.0 ≡ 0 →
    Front (freedoms now.rules) (octets_form (is_aligned now.rules) inside.1) now.place there → behind ≡ there → k ≡ open_type behind ∷ now.scopes →
    s ≡ storage_inside (innermost now.stands) (length inside.1) there.0 → l ≡ now.stands → new
    ≡ record { place = inside; scopes = k; levels = now.levels; most = now.most; failed = now.failed; rules = now.rules; stands = s ∷ l } → HasOpened old new
opened old now new inside behind there k s l same z f q u w v d =
    let e : new ≡ record {
      place = inside;
      scopes = k;
      levels = now.levels;
      most = now.most;
      failed = now.failed;
      rules = now.rules;
      stands =
          s ∷ now.stands;
    } = d ∙ ap (λ (x : List Storage). let h : Held =
    record { place = inside; scopes = k; levels = now.levels; most = now.most; failed = now.failed; rules = now.rules; stands = s ∷ x } in h) v in
    let o = octets_of (freedoms now.rules) (is_aligned now.rules) (length inside.1 / 8, inside.1) now.place there f in
    let own : inside ≡ (0, octet_bits o.0) = place_same inside (0, octet_bits o.0) z (sym o.1) in
    let t : k ≡ open_type there ∷ now.scopes = u ∙ ap (λ (p : Position). open_type p ∷ now.scopes) q in
    let st : state_of new ≡ ((0, octet_bits o.0), open_type there ∷ now.scopes) = ap state_of e ∙ state_same (inside, k) ((0, octet_bits o.0), open_type there ∷ now.scopes) own t in
    let p : new.place ≡ inside = ap (λ (h : Held). h.place) e in
    let c : new.scopes ≡ k = ap (λ (h : Held). h.scopes) e in
    let i : s ≡ opened_in (innermost now.stands) new.place new.scopes = w ∙
    ap (λ (l : List Scope). opened_in (innermost now.stands) inside l) (sym t ∙ sym c) ∙ ap (λ (x : Position). opened_in (innermost now.stands) x new.scopes) (sym p) in
    let r : new ≡ record {
      place = new.place;
      scopes = new.scopes;
      levels = now.levels;
      most = now.most;
      failed = now.failed;
      rules =
          now.rules;
      stands = opened_in (innermost now.stands) new.place new.scopes ∷ now.stands;
    } =
    e ∙ ap (λ (x : Position). let h : Held = record { place = x; scopes = k; levels = now.levels; most = now.most; failed = now.failed; rules = now.rules; stands = s ∷ now.stands } in h) (sym p)
    ∙ ap (λ (l : List Scope). let h : Held = record {
      place = new.place;
      scopes = l;
      levels = now.levels;
      most = now.most;
      failed =
          now.failed;
      rules = now.rules;
      stands = s ∷ now.stands;
    } in h) (sym c)
    ∙ ap (λ (x : Storage). let h : Held = record {
      place = new.place;
      scopes = new.scopes;
      levels = now.levels;
      most = now.most;
      failed =
          now.failed;
      rules = now.rules;
      stands = x ∷ now.stands;
    } in h) i in
    let here : HasOpened now new = ((o.0, there, o.2, st), r) in
    subst (λ (h : Held). HasOpened h new) same here

-- ---- choices
pub root_chosen : (al : Bool) (free : Per.Freedom → Bool) (n : ℕ) (e : Bool) (others : ℕ) (c : Chosen) (a b : Position) (k : List Scope) →
    c.added ≡ false → Front free (index_form al n e others c) a b → Chooses al free n e others c.added c.place (a, k) (b, alternative ∷ k)
root_chosen al free n e others c a b k t f = go c.added c.place t f
  where
    go : (v : Bool) (i : ℕ) → v ≡ false → Front free (index_form al n e others (record { added = v; place = i })) a b → Chooses al free n e others v i (a, k) (b, alternative ∷ k)
    go true i h g = cc
    go false i h g = let r = root_told free al n e others i a b g in (lt-ltb i n r.0, r.1, refl)

pub added_chosen : (al : Bool) (free : Per.Freedom → Bool) (n : ℕ) (e : Bool) (others : ℕ) (c : Chosen) (a m : Position) (k : List Scope)
    (b : State) → c.added ≡ true → Front free (index_form al n e others c) a m → Opens al free m k b → Chooses al free n e others c.added c.place (a, k) b
added_chosen al free n e others c a m k b t f o = go c.added c.place t f
  where
    go : (v : Bool) (i : ℕ) → v ≡ true → Front free (index_form al n e others (record { added = v; place = i })) a m → Chooses al free n e others v i (a, k) b
    go false i h g = cc
    go true i h g = let r = added_told free al n e others i a m g in (r.0, lt-ltb i others r.1, m, r.2, o)

chosen_front : (al : Bool) (free : Per.Freedom → Bool) (n : ℕ) (e : Bool) (others : ℕ) (v : Bool) (i : ℕ) (a b : State) →
    Chooses al free n e others v i a b → (m : Position) × Front free (index_form al n e others (record { added = v; place = i })) a.0 m × (v ≡ true → Opens al free m a.1 b)
chosen_front al free n e others false i a b t = (b.0, root_is free al n e others i a.0 b.0 (ltb-true i n t.0) t.1, λ h. cc)
chosen_front al free n false others true i a b t = let h = t.0 in cc
chosen_front al free n true others true i a b t = (t.2, added_is free al n others i a.0 t.2 (ltb-true i others t.1) t.3, λ h. t.4)

-- a choice with a root alternative
pub root_begun : (old now new : Held) (roots others : List Tag) (e : Bool) (c : Chosen) (there : Position) → now ≡ old → IsReady old →
    c.added ≡ false → Front (freedoms now.rules) (index_form (is_aligned now.rules) (length roots) e (length others) c) now.place there →
    now.levels ≡ suc new.levels → new ≡ record {
      place = there;
      scopes = alternative ∷ now.scopes;
      levels = new.levels;
      most = now.most;
      failed =
          now.failed;
      rules = now.rules;
      stands = now.stands;
    } → Finds old (choice_begins roots e others c.added c.place) new
root_begun old now new roots others e c there same ready t f l g =
    steps old now new there (alternative ∷ now.scopes) new.levels (choice_begins roots e others c.added c.place) now.stands same ready
    (root_chosen (is_aligned now.rules) (freedoms now.rules) (length roots) e (length others) c now.place there now.scopes t f)
    (ap (λ n. level now.most (choice_begins roots e others c.added c.place) n) l) (ap (λ b. stands_within b now.stands there (alternative ∷ now.scopes)) (sym t)) g

-- or with an added one
pub added_begun : (old now mid new : Held) (roots others : List Tag) (e : Bool) (c : Chosen) (there : Position) → now ≡ old → IsReady old →
    c.added ≡ true → Front (freedoms now.rules) (index_form (is_aligned now.rules) (length roots) e (length others) c) now.place there →
    Opens (is_aligned now.rules) (freedoms now.rules) there now.scopes (state_of mid) → now.levels ≡ suc new.levels →
    new ≡ record {
      place = mid.place;
      scopes = mid.scopes;
      levels = new.levels;
      most = now.most;
      failed = now.failed;
      rules = now.rules;
      stands =
          stands_within true now.stands mid.place mid.scopes;
    } → Finds old (choice_begins roots e others c.added c.place) new
added_begun old now mid new roots others e c there same ready t f o l g =
    steps old now new mid.place mid.scopes new.levels (choice_begins roots e others c.added c.place)
    (stands_within true now.stands mid.place mid.scopes) same ready
    (added_chosen (is_aligned now.rules) (freedoms now.rules) (length roots) e (length others) c now.place there now.scopes (state_of mid) t f o)
    (ap (λ n. level now.most (choice_begins roots e others c.added c.place) n) l) (ap (λ b. stands_within b now.stands mid.place mid.scopes) (sym t)) g

-- with one level more
abbrev pub further_out : Held → Held
further_out h = record { place = h.place; scopes = h.scopes; levels = h.levels + 1; most = h.most; failed = h.failed; rules = h.rules; stands = h.stands }

-- bits begin with at most one choice index
behind_one : (free : Per.Freedom → Bool) (al : Bool) (n m : ℕ) (v w : Bool) (i j : ℕ) (p b c : Position) → v ≡ w →
    Front free (cond v (added_form al m i) (root_form al n i)) p b → Front free (cond w (added_form al m j) (root_form al n j)) p c → b ≡ c
behind_one free al n m true false i j p b c e f g = cc
behind_one free al n m false true i j p b c e f g = cc
behind_one free al n m true true i j p b c e f g =
    (same_fronts free (small_alike free al i j) p b c (if_out free (ltb i m) (Per.normally_small al i) p b f).1 (if_out free (ltb j m) (Per.normally_small al j) p c g).1).1
behind_one free al n m false false i j p b c e f g =
    (same_fronts free (constrained_alike free al (n - 1) i j) p b c (if_out free (ltb i n) (Per.constrained al (n - 1) i) p b f).1 (if_out free (ltb j n) (Per.constrained al (n - 1) j) p c g).1).1

place_one : (free : Per.Freedom → Bool) (al : Bool) (n : ℕ) (e : Bool) (m : ℕ) (c d : Chosen) (a b b' : Position) →
    Front free (index_form al n e m c) a b → Front free (index_form al n e m d) a b' → (c.added ≡ d.added) × (b ≡ b')
place_one free al n e m c d a b b' f g =
    let s = split free (extension_bit e c.added) (cond c.added (added_form al m c.place) (root_form al n c.place)) a b f in
    let u = split free (extension_bit e d.added) (cond d.added (added_form al m d.place) (root_form al n d.place)) a b' g in
    let q = same_extension_bit free e c.added d.added a s.0 u.0 s.1 u.1 in
    let h = subst (λ (p : Position). Front free (cond d.added (added_form al m d.place) (root_form al n d.place)) p b') (sym q.1) u.2 in
    (q.0, behind_one free al n m c.added d.added c.place d.place s.0 b b' q.0 s.2 h)

asked_choice : (al : Bool) (free : Per.Freedom → Bool) (xs : List Tag) (e : Bool) (ys : List Tag) (a b : State) (r : Record) →
    question r ≡ asks_choice xs e ys → Takes al free a r b → (v : Bool) × (i : ℕ) × Chooses al free (length xs) e (length ys) v i a b
asked_choice al free xs e ys a b (choice_begins us d ws v i) k t =
    let p : choice_begins us d ws v i ≡ choice_begins xs e ys v i = cc k in
    let u : Takes al free a (choice_begins xs e ys v i) b = subst (λ r. Takes al free a r b) p t in
    (v, i, u)
asked_choice al free xs e ys a b r k t = cc k

pub no_place : {failed : Held} (old now : Held) (xs : List Tag) (e : Bool) (ys : List Tag) (n m : ℕ) (here : Position) (x : DecodeError) → now ≡ old →
    n ≡ length xs → m ≡ length ys → here ≡ now.place → Misses (freedoms now.rules) (index_form (is_aligned now.rules) n e m) here x → NoLevel Finds AtOnce (asks_choice xs e ys) old.levels old failed x
no_place {failed} old now xs e ys n m here x same p q h none =
    let f = freedoms now.rules in
    let al = is_aligned now.rules in
    let lost : NoLevel Finds AtOnce (asks_choice xs e ys) now.levels now failed x = no_level_at_once Finds (λ i l r new k g.
    let t = asked_choice al f xs e ys (state_of now) (state_of new) r k g.taken in
    let c = chosen_front al f (length xs) e (length ys) t.0 t.1 (state_of now) (state_of new) t.2 in
    let d : Chosen = record { added = t.0; place = t.1 } in
    let u : Front f (index_form al n e m d) now.place c.0 = subst (λ j. Front f (index_form al j e m d) now.place c.0) (sym p)
    (subst (λ j. Front f (index_form al (length xs) e j d) now.place c.0) (sym q) c.1) in
    missed f (index_form al n e m) here x none i d c.0 (subst (λ (y : Position). Front f (index_form al n e m d) y c.0) (sym h) u)) in
    subst (λ (g : Held). NoLevel Finds AtOnce (asks_choice xs e ys) g.levels g failed x) same lost

pub no_chosen_type : {failed : Held} (old now mid : Held) (xs : List Tag) (e : Bool) (ys : List Tag) (n m : ℕ) (c : Chosen) (here there : Position)
    (x : DecodeError) → now ≡ old → n ≡ length xs → m ≡ length ys → here ≡ now.place → c.added ≡ true →
    Front (freedoms now.rules) (index_form (is_aligned now.rules) n e m c) here there →
    mid ≡ record {
      place = there;
      scopes = now.scopes;
      levels = now.levels;
      most = now.most;
      failed = now.failed;
      rules = now.rules;
      stands =
          now.stands;
    } → NoOpening mid x → NoLevel Finds AtOnce (asks_choice xs e ys) old.levels old failed x
no_chosen_type {failed} old now mid xs e ys n m c here there x same p q h t fr z none =
    let f = freedoms now.rules in
    let al = is_aligned now.rules in
    let own : Held = record { place = there; scopes = now.scopes; levels = now.levels; most = now.most; failed = now.failed; rules = now.rules; stands = now.stands } in
    let w : NoOpening own x = subst (λ (g : Held). NoOpening g x) z none in
    let a : Front f (index_form al (length xs) e (length ys) c) now.place there =
    subst (λ (y : Position). Front f (index_form al (length xs) e (length ys) c) y there) h
    (subst (λ j. Front f (index_form al j e (length ys) c) here there) p (subst (λ j. Front f (index_form al n e j c) here there) q fr)) in
    let lost : NoLevel Finds AtOnce (asks_choice xs e ys) now.levels now failed x = no_level_at_once Finds (λ i l r new k g.
    let s = asked_choice al f xs e ys (state_of now) (state_of new) r k g.taken in
    let d : Chosen = record { added = s.0; place = s.1 } in
    let u = chosen_front al f (length xs) e (length ys) s.0 s.1 (state_of now) (state_of new) s.2 in
    let o = place_one f al (length xs) e (length ys) c d now.place there u.0 a u.1 in
    w i now.scopes (state_of new) (subst (λ (y : Position). Opens al f y now.scopes (state_of new)) (sym o.1) (u.2 (sym o.0 ∙ t)))) in
    subst (λ (g : Held). NoLevel Finds AtOnce (asks_choice xs e ys) g.levels g failed x) same lost

counted_place : (free : Per.Freedom → Bool) (al : Bool) (xs : List Tag) (e : Bool) (ys : List Tag) (n m : ℕ) (c : Chosen)
    (here place there : Position) → n ≡ length xs → m ≡ length ys → here ≡ place → Front free (index_form al n e m c) here there → Front free (index_form al (length xs) e (length ys) c) place there
counted_place free al xs e ys n m c here place there p q h f =
    subst (λ (y : Position). Front free (index_form al (length xs) e (length ys) c) y there) h
    (subst (λ j. Front free (index_form al j e (length ys) c) here there) p (subst (λ j. Front free (index_form al n e j c) here there) q f))

pub type_begun : (old now settled mid new : Held) (xs : List Tag) (e : Bool) (ys : List Tag) (n m : ℕ) (c : Chosen) (here there : Position) (k : ℕ) →
    now ≡ old → IsReady old → n ≡ length xs → m ≡ length ys → here ≡ now.place → k ≡ there.0 → c.added ≡ true →
    Front (freedoms now.rules) (index_form (is_aligned now.rules) n e m c) here there → Moves now k settled → HasOpened settled mid →
    mid.levels ≡ new.levels + 1 → new ≡ record {
      place = mid.place;
      scopes = mid.scopes;
      levels = new.levels;
      most = mid.most;
      failed =
          mid.failed;
      rules = mid.rules;
      stands = mid.stands;
    } → Finds old (choice_begins xs e ys c.added c.place) new
type_begun old now settled mid new xs e ys n m c here there k same ready p q h r t f v o l g =
    let s = moves_there now settled (freedoms now.rules) (index_form (is_aligned now.rules) n e m c) here there k h r f v in
    let w : Opens (is_aligned now.rules) (freedoms now.rules) there now.scopes (state_of mid) =
    subst (λ (x : Held). Opens (is_aligned x.rules) (freedoms x.rules) x.place x.scopes (state_of mid)) s o.0 in
    let z : mid ≡ record {
      place = mid.place;
      scopes = mid.scopes;
      levels = now.levels;
      most = now.most;
      failed = now.failed;
      rules =
          now.rules;
      stands = stands_within true now.stands mid.place mid.scopes;
    } = o.1 ∙
    ap (λ (x : Held). let y : Held = record {
      place = mid.place;
      scopes = mid.scopes;
      levels = x.levels;
      most = x.most;
      failed = x.failed;
      rules =
          x.rules;
      stands = stands_within true x.stands mid.place mid.scopes;
    } in y) s in
    let i : mid.levels ≡ now.levels = ap (λ (x : Held). x.levels) z in
    let j : new ≡ record {
      place = mid.place;
      scopes = mid.scopes;
      levels = new.levels;
      most = now.most;
      failed = now.failed;
      rules =
          now.rules;
      stands = stands_within true now.stands mid.place mid.scopes;
    } = g ∙
    ap (λ (x : Held). let y : Held = record { place = mid.place; scopes = mid.scopes; levels = new.levels; most = x.most; failed = x.failed; rules = x.rules; stands = x.stands } in y) z in
    added_begun old now mid new xs ys e c there same ready t (counted_place (freedoms now.rules) (is_aligned now.rules) xs e ys n m c here now.place there p q h f) w (omega (arith, i, l)) j

pub alternative_begun : (old now settled new : Held) (xs : List Tag) (e : Bool) (ys : List Tag) (n m : ℕ) (c : Chosen) (here there : Position)
    (k : ℕ) → now ≡ old → IsReady old → n ≡ length xs → m ≡ length ys → here ≡ now.place → k ≡ there.0 → c.added ≡ false →
    Front (freedoms now.rules) (index_form (is_aligned now.rules) n e m c) here there → Moves now k settled → settled.levels ≡ new.levels + 1 →
    new ≡ record {
      place = settled.place;
      scopes = alternative ∷ settled.scopes;
      levels = new.levels;
      most = settled.most;
      failed =
          settled.failed;
      rules = settled.rules;
      stands = settled.stands;
    } → Finds old (choice_begins xs e ys c.added c.place) new
alternative_begun old now settled new xs e ys n m c here there k same ready p q h r t f v l g =
    let s = moves_there now settled (freedoms now.rules) (index_form (is_aligned now.rules) n e m c) here there k h r f v in
    let i : settled.levels ≡ now.levels = ap (λ (x : Held). x.levels) s in
    let j : new ≡ record {
      place = there;
      scopes = alternative ∷ now.scopes;
      levels = new.levels;
      most = now.most;
      failed = now.failed;
      rules =
          now.rules;
      stands = now.stands;
    } = g ∙
    ap (λ (x : Held). let y : Held = record {
      place = x.place;
      scopes = alternative ∷ x.scopes;
      levels = new.levels;
      most = x.most;
      failed =
          x.failed;
      rules = x.rules;
      stands = x.stands;
    } in y) s in
    root_begun old now new xs ys e c there same ready t (counted_place (freedoms now.rules) (is_aligned now.rules) xs e ys n m c here now.place there p q h f) (omega (arith, i, l)) j

pub place_within : (free : Per.Freedom → Bool) (al : Bool) (xs : List Tag) (e : Bool) (ys : List Tag) (n m : ℕ) (c : Chosen) (a b : Position) →
    n ≡ length xs → m ≡ length ys → Front free (index_form al n e m c) a b → c.place < length (cond c.added ys xs)
place_within free al xs e ys n m c a b p q f = go c.added c.place f
  where
    go : (v : Bool) (i : ℕ) → Front free (index_form al n e m (record { added = v; place = i })) a b → i < length (cond v ys xs)
    go false i g = let l = (root_told free al n e m i a b g).0 in omega (arith, l, p)
    go true i g = let l = (added_told free al n e m i a b g).1 in omega (arith, l, q)

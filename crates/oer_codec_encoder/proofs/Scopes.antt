-- Sequences and lists that begin, continue and end, in the octets and the frames of an encoder.
use Rattle.std.proofs.Common.{◌≡◌, ℕ, zero, suc, ◌+◌, ◌-◌, ◌*◌, ◌/◌, ◌%◌, ◌^◌, ◌<◌, Bool, true, false, cond, ltb, List}
use Rattle.std.proofs.Common.{[], ◌∷◌, ◌++◌, length, get_or, set, take, drop, replicate, Option, Some, None, option_map}
use Rattle.std.proofs.Common.{refl, ap, subst, sym, ◌∙◌, arith, append_assoc, length-append, length-set, inl, inr}
use mir.Val.{bool_byte}
use Rattle.std.proofs.lemmas.Bool.{cases_eq, ltb-true, ltb-false}
use Rattle.std.proofs.lemmas.List.{append-nil, get_or-set_same, get_or-set_other, set-append_left, set-append_right}
use Rattle.std.proofs.lemmas.List.{get_or-append_right, get_or_append_left, take_at, drop_at, length-replicate}
use Rattle.std.proofs.lemmas.List.{replicate-append-replicate}
use Rattle.asn1_model.specs.Numbers.{binary, octet_bits, missing, packed, is_count_within}
use Rattle.asn1_values_bits.specs.Octets.{padded}
use Rattle.asn1_values_bits.proofs.Binary.{octet_bits-append, length-octet_bits}
use Rattle.asn1_values_bits.proofs.Change.{kept_changed}
use Rattle.asn1_values_bits.proofs.Packed.{packed-octet_bits}
use Rattle.asn1_schema_laws.specs.Records.{Record, sequence_begins, presence_bit, ends, further, list_begins}
use Rattle.asn1_model.specs.Form.{written, exactly, only_if}
use Rattle.asn1_model.specs.Oer
use Rattle.asn1_model.specs.Schema.{Size, Counts}
use Rattle.oer_codec_encoder.specs.Steps.{Scope, components, added, open_type, members, bag_members, alternative, State, run, adds_text}
use Rattle.oer_codec_encoder.specs.declared.frame.Additions.{Additions}
use Rattle.oer_codec_encoder.specs.declared.frame.Frame.{Frame}
use Rattle.oer_codec_encoder.specs.declared.frame.Frame.TheVariants.{Components, Added, OpenType, Members, Bag, Alternative}
use Rattle.oer_codec_encoder.specs.declared.frame.Preamble.{Preamble}
use Rattle.oer_codec_encoder.specs.Frames.{told}
use Rattle.asn1_schema_reading_laws.specs.PresenceBits.{preamble}
use Rattle.oer_codec_encoder.specs.Holding.{given_bits, octets_filled, shown, HasBits, IsOpen, IsExtended, IsApart, Holds, AreSound, Does}
use Rattle.oer_codec_writing.specs.Writing.{Adds}

-- ---- what is shown is what they represent

presence_bits_behind : (e : Bool) (ms rest : List Bool) (given : ℕ) → length ms ≡ given → take given (drop (length (preamble e [])) (preamble e ms ++ rest)) ≡ ms
presence_bits_behind true ms rest given h = take_at ms rest given h
presence_bits_behind false ms rest given h = take_at ms rest given h

preamble_behind : (e : Bool) (ms rest more : List Bool) → preamble e (ms ++ rest) ++ more ≡ preamble e ms ++ (rest ++ more)
preamble_behind true ms rest more = ap (λ l. false ∷ l) (append_assoc ms rest more)
preamble_behind false ms rest more = append_assoc ms rest more

same_open : (e : Bool) (due : ℕ) (i j : List ℕ) (m n : List Bool) (t u : State) → i ≡ j → m ≡ n → t ≡ u → (let l : State = (i, components e due m t.0 ∷ t.1) in l) ≡ (j, components e due n u.0 ∷ u.1)
same_open e due i j m n t u a b c =
    ap (λ x. let l : State = (x, components e due m t.0 ∷ t.1) in l) a
    ∙ (ap (λ x. let l : State = (j, components e due x t.0 ∷ t.1) in l) b ∙ ap (λ (x : State). let l : State = (j, components e due n x.0 ∷ x.1) in l) c)

length-preamble : (e : Bool) (ms : List Bool) → length (preamble e ms) ≡ length ms + cond e 1 0
length-preamble true ms = omega arith
length-preamble false ms = omega arith

octets_whole : (k n : ℕ) → k * 8 ≡ n + missing n → k ≡ (n + 7) / 8
octets_whole k n h = omega arith

length-bitmap : (e : Bool) (due given start : ℕ) (o : List ℕ) → (h : HasBits e due given start o) → length h.bitmap ≡ octets_filled e (given + due)
length-bitmap e due given start o h =
    let zeros : List Bool = replicate due false in
    let bs : List Bool = preamble e (h.presence_bits ++ zeros) in
    let unused : List Bool = replicate (missing (length bs)) false in
    let n : length bs ≡ given + due + cond e 1 0 = omega (arith, length-preamble e (h.presence_bits ++ zeros), length-append h.presence_bits zeros, length-replicate due false, h.told) in
    let k : length h.bitmap * 8 ≡ length bs + missing (length bs) = sym (length-octet_bits h.bitmap) ∙ ap length h.bits ∙ length-append bs unused ∙
    ap (λ j. length bs + j) (length-replicate (missing (length bs)) false) in
    octets_whole (length h.bitmap) (length bs) k ∙ ap (λ j. (j + 7) / 8) n

-- the octets before presence bits, those after them, and the bits that were given
pub parts : (e : Bool) (due given start n : ℕ) (o : List ℕ) → n ≡ given + due → (h : HasBits e due given start o) → (take start o ≡ h.front) ×
    (drop (start + octets_filled e n) o ≡ h.inner) × (given_bits e given start o ≡ h.presence_bits)
parts e due given start n o m h =
    let front : take start o ≡ h.front = ap (take start) h.text ∙ take_at h.front (h.bitmap ++ h.inner) start h.starts in
    let behind : drop start o ≡ h.bitmap ++ h.inner = ap (drop start) h.text ∙ drop_at h.front (h.bitmap ++ h.inner) start h.starts in
    let whole : o ≡ (h.front ++ h.bitmap) ++ h.inner = h.text ∙ sym (append_assoc h.front h.bitmap h.inner) in
    let long : length (h.front ++ h.bitmap) ≡ start + octets_filled e n = length-append h.front h.bitmap ∙ ap (λ k. k + length h.bitmap) h.starts ∙
    ap (λ k. start + k) (length-bitmap e due given start o h ∙ ap (octets_filled e) (sym m)) in
    let inner : drop (start + octets_filled e n) o ≡ h.inner = ap (drop (start + octets_filled e n)) whole ∙ drop_at (h.front ++ h.bitmap) h.inner (start + octets_filled e n) long in
    let zeros : List Bool = replicate due false in
    let unused : List Bool = replicate (missing (length (preamble e (h.presence_bits ++ zeros)))) false in
    let all : octet_bits (drop start o) ≡ preamble e h.presence_bits ++ ((zeros ++ unused) ++ octet_bits h.inner) =
    ap octet_bits behind ∙ octet_bits-append h.bitmap h.inner ∙ ap (λ l. l ++ octet_bits h.inner) (h.bits ∙ preamble_behind e h.presence_bits zeros unused)
    ∙ append_assoc (preamble e h.presence_bits) (zeros ++ unused) (octet_bits h.inner) in
    let presence_bits = ap (λ l. take given (drop (length (preamble e [])) l)) all ∙ presence_bits_behind e h.presence_bits ((zeros ++ unused) ++ octet_bits h.inner) given h.told in
    (front, inner, presence_bits)

-- the octets up to the end of a root, and those after it
pub root_first : {below : List ℕ → State → Type 0} (a : Additions) (o : List ℕ) (s : State) → (h : IsExtended below a o s) → o ≡ h.root ++ (h.heading ++ (h.has.bitmap ++ h.has.inner))
root_first a o s h =
    let behind : List ℕ = h.has.bitmap ++ h.has.inner in
    h.has.text ∙ ap (λ l. l ++ behind) h.text ∙ append_assoc h.root h.heading behind

pub root_taken : {below : List ℕ → State → Type 0} (a : Additions) (o : List ℕ) (s : State) → (h : IsExtended below a o s) → take a.root_end o ≡ h.root
root_taken a o s h = ap (take a.root_end) (root_first a o s h) ∙ take_at h.root (h.heading ++ (h.has.bitmap ++ h.has.inner)) a.root_end h.ends

-- a state after a root
abbrev pub behind_root : ℕ → List ℕ → List Bool → List ℕ → List Bool → State → State
behind_root due os ms root bs t = (os, added due ms root bs t.0 ∷ t.1)

same_behind : (due : ℕ) (i j : List ℕ) (ms ns : List Bool) (r q : List ℕ) (bs cs : List Bool) (t u : State) → i ≡ j → ms ≡ ns → r ≡ q → bs ≡ cs →
    t ≡ u → behind_root due i ms r bs t ≡ behind_root due j ns q cs u
same_behind due i j ms ns r q bs cs t u a b c d e =
    ap (λ x. behind_root due x ms r bs t) a ∙ ap (λ x. behind_root due j x r bs t) b ∙ ap (λ x. behind_root due j ns x bs t) c
    ∙ ap (λ x. behind_root due j ns q x t) d ∙ ap (λ x. behind_root due j ns q cs x) e

-- the octets before an open type, and those of the open type
parts_apart : {below : List ℕ → State → Type 0} (start : ℕ) (o : List ℕ) (s : State) → (h : IsApart below start o s) → (take start o ≡ h.front) × (drop (start + 1) o ≡ h.inner)
parts_apart start o s h =
    let whole : o ≡ (h.front ++ h.room ∷ []) ++ h.inner = h.text ∙ sym (append_assoc h.front (h.room ∷ []) h.inner) in
    let n : length (h.front ++ h.room ∷ []) ≡ start + 1 = omega (arith, length-append h.front (h.room ∷ []), h.starts) in
    (ap (take start) h.text ∙ take_at h.front (h.room ∷ h.inner) start h.starts, ap (drop (start + 1)) whole ∙ drop_at (h.front ++ h.room ∷ []) h.inner (start + 1) n)

pub behind_room : {below : List ℕ → State → Type 0} (start : ℕ) (o : List ℕ) (s : State) → (h : IsApart below start o s) → drop (start + 1) o ≡ h.inner
behind_room start o s h = (parts_apart start o s h).1

pub before_room : {below : List ℕ → State → Type 0} (start : ℕ) (o : List ℕ) (s : State) → (h : IsApart below start o s) → take start o ≡ h.front
before_room start o s h = (parts_apart start o s h).0

-- there is room
pub room_within : {below : List ℕ → State → Type 0} (start : ℕ) (o : List ℕ) (s : State) → IsApart below start o s → start < length o
room_within start o s h = omega (arith, ap length h.text, length-append h.front (h.room ∷ h.inner), h.starts)

same_apart : (i j : List ℕ) (t u : State) → i ≡ j → t ≡ u → (let l : State = (i, open_type t.0 ∷ t.1) in l) ≡ (j, open_type u.0 ∷ u.1)
same_apart i j t u a b = ap (λ x. let l : State = (x, open_type t.0 ∷ t.1) in l) a ∙ ap (λ (x : State). let l : State = (j, open_type x.0 ∷ x.1) in l) b

pub shown_is : (fs : List Frame) (o : List ℕ) (s : State) → Holds fs o s → shown fs o ≡ s
shown_is [] o s h = sym h
shown_is (Components c ∷ fs) o s h =
    let x = parts c.extensible c.due c.given c.start (c.given + c.due) o refl h.has in
    same_open c.extensible c.due _ h.has.inner _ h.has.presence_bits _ h.outer x.1 x.2 (ap (shown fs) x.0 ∙ shown_is fs h.has.front h.outer h.under) ∙ sym h.is
shown_is (Added a ∷ fs) o s h =
    let i = h.has in
    let x = parts false a.due a.given a.bitmap (a.given + a.due) o refl i in
    let y = parts true 0 a.optional a.start a.optional h.root (omega arith) h.preamble in
    let below : shown fs (take a.start h.root) ≡ h.outer = ap (shown fs) y.0 ∙ shown_is fs h.preamble.front h.outer h.under in
    ap (λ r. behind_root a.due (drop (a.bitmap + octets_filled false (a.given + a.due)) o) (given_bits true a.optional a.start r)
    (drop (a.start + octets_filled true a.optional) r) (given_bits false a.given a.bitmap o) (shown fs (take a.start r))) (root_taken a o s h)
    ∙ same_behind a.due _ i.inner _ h.preamble.presence_bits _ h.preamble.inner _ i.presence_bits _ h.outer x.1 y.2 y.1 x.2 below ∙ sym h.is
shown_is (OpenType start ∷ fs) o s h =
    let x = parts_apart start o s h in
    same_apart _ h.inner _ h.outer x.1 (ap (shown fs) x.0 ∙ shown_is fs h.front h.outer h.under) ∙ sym h.is
shown_is (Bag b ∷ fs) o s h = ap (λ (t : State). let l : State = (o, bag_members b.value.due b.value.members t.0 ∷ t.1) in l) (shown_is fs b.value.outer.items h.0 h.2) ∙ sym h.1
shown_is (Alternative ∷ fs) o s h = ap (λ (t : State). let l : State = (t.0, alternative ∷ t.1) in l) (shown_is fs o h.0 h.2) ∙ sym h.1
shown_is (Members due ∷ fs) o s h = ap (λ (t : State). let l : State = (t.0, members due ∷ t.1) in l) (shown_is fs o h.0 h.2) ∙ sym h.1

-- ---- octets that are appended

-- presence bits with more octets after them
abbrev more_behind : (e : Bool) (due given start : ℕ) (o w : List ℕ) → HasBits e due given start o → HasBits e due given start (o ++ w)
more_behind e due given start o w h = record {
  front = h.front;
  bitmap = h.bitmap;
  inner = h.inner ++ w;
  presence_bits = h.presence_bits;
  text = ap (λ l. l ++ w) h.text ∙ (append_assoc h.front (h.bitmap ++ h.inner) w ∙ ap (λ l. h.front ++ l) (append_assoc h.bitmap h.inner w));
  starts = h.starts;
  told = h.told;
  counts = h.counts;
  bits = h.bits;
  small = h.small;
}

pub appended : (fs : List Frame) (o : List ℕ) (s : State) (w : List ℕ) → Holds fs o s → Holds fs (o ++ w) (s.0 ++ w, s.1)
appended [] o s w h = ap (λ (t : State). let l : State = (t.0 ++ w, t.1) in l) h
appended (Components c ∷ fs) o s w h = record {
  has = more_behind c.extensible c.due c.given c.start o w h.has;
  outer = h.outer;
  under = h.under;
  is = ap (λ (t : State). let l : State = (t.0 ++ w, t.1) in l) h.is;
}
appended (Added a ∷ fs) o s w h = record {
  has = more_behind false a.due a.given a.bitmap o w h.has;
  root = h.root;
  heading = h.heading;
  text = h.text;
  ends = h.ends;
  heads = h.heads;
  preamble = h.preamble;
  outer = h.outer;
  under = h.under;
  any = h.any;
  is = ap (λ (t : State). let l : State = (t.0 ++ w, t.1) in l) h.is;
}
appended (OpenType start ∷ fs) o s w h = record {
  front = h.front;
  room = h.room;
  inner = h.inner ++ w;
  outer = h.outer;
  text = ap (λ l. l ++ w) h.text ∙ append_assoc h.front (h.room ∷ h.inner) w;
  starts = h.starts;
  under = h.under;
  is = ap (λ (t : State). let l : State = (t.0 ++ w, t.1) in l) h.is;
}
appended (Bag b ∷ fs) o s w h = (h.0, ap (λ (t : State). let l : State = (t.0 ++ w, t.1) in l) h.1, h.2)
appended (Alternative ∷ fs) o s w h = ((h.0.0 ++ w, h.0.1), ap (λ (t : State). let l : State = (t.0 ++ w, t.1) in l) h.1, appended fs o h.0 w h.2)
appended (Members due ∷ fs) o s w h = ((h.0.0 ++ w, h.0.1), ap (λ (t : State). let l : State = (t.0 ++ w, t.1) in l) h.1, appended fs o h.0 w h.2)

-- ---- the innermost frame

pub on_top : (fs rest : List Frame) (f : Frame) (o : List ℕ) (s : State) → fs ≡ f ∷ rest → Holds fs o s → Holds (f ∷ rest) o s
on_top fs rest f o s a h = subst (λ l. Holds l o s) a h

pub put_back : (gs rest : List Frame) (g : Frame) (o : List ℕ) (s : State) → gs ≡ g ∷ rest → Holds (g ∷ rest) o s → Holds gs o s
put_back gs rest g o s a h = subst (λ l. Holds l o s) (sym a) h

-- ---- a sequence begins

pub zero_bits : (k : ℕ) → octet_bits (replicate k 0) ≡ replicate (k * 8) false
zero_bits zero = refl
zero_bits (suc k) =
    let n : 8 + k * 8 ≡ suc k * 8 = omega arith in
    ap (λ l. binary 8 0 ++ l) (zero_bits k) ∙ replicate-append-replicate 8 (k * 8) false ∙ ap (λ m. replicate m false) n

pub zeros_small : (n k : ℕ) → k < length {A = ℕ} (replicate n 0) → get_or {A = ℕ} (replicate n 0) k 0 < 256
zeros_small zero k h = absurd (omega arith)
zeros_small (suc n) zero h = omega arith
zeros_small (suc n) (suc k) h = zeros_small n k (omega arith)

pub unused_zeros : (e : Bool) (n k : ℕ) → k * 8 ≡ (n + cond e 1 0) + missing (n + cond e 1 0) → replicate (k * 8) false ≡ padded (preamble e (replicate n false))
unused_zeros e n k h = go e refl h
  where
    zeros : (m : ℕ) → k * 8 ≡ m + missing m → replicate (k * 8) false ≡ replicate m false ++ replicate (missing (length (replicate m false))) false
    zeros m h = ap (λ j. replicate j false) h ∙ sym (ap (λ j. replicate m false ++ replicate (missing j) false) (length-replicate m false) ∙ replicate-append-replicate m (missing m) false)

    go : (b : Bool) → e ≡ b → k * 8 ≡ (n + cond b 1 0) + missing (n + cond b 1 0) → replicate (k * 8) false ≡ padded (preamble b (replicate n false))
    go true d h = zeros (suc n) (let q : n + 1 ≡ suc n = omega arith in subst (λ j. k * 8 ≡ j + missing j) q h)
    go false d h = zeros n (let q : n + 0 ≡ n = omega arith in subst (λ j. k * 8 ≡ j + missing j) q h)

-- presence bits that are all due
abbrev pub all_due : (o : List ℕ) (e : Bool) (n k start : ℕ) → n < 2 ^ 64 → k * 8 ≡ (n + cond e 1 0) + missing (n + cond e 1 0) → start ≡ length o → HasBits e n 0 start (o ++ replicate k 0)
all_due o e n k start m d a = record {
  front = o;
  bitmap = replicate k 0;
  inner = [];
  presence_bits = [];
  text = ap (λ l. o ++ l) (sym (append-nil (replicate k 0)));
  starts = sym a;
  told = refl;
  counts = omega arith;
  bits = zero_bits k ∙ unused_zeros e n k d;
  small = zeros_small k;
}

abbrev fresh : Bool → ℕ → ℕ → Preamble
fresh e n start = record { extensible = e; due = n; given = 0; start = start }

opened : (fs : List Frame) (o : List ℕ) (s : State) (e : Bool) (n k start : ℕ) → Holds fs o s → n < 2 ^ 64 →
    k * 8 ≡ (n + cond e 1 0) + missing (n + cond e 1 0) → start ≡ length o → Holds (Components (fresh e n start) ∷ fs) (o ++ replicate k 0) ([], components e n [] s.0 ∷ s.1)
opened fs o s e n k start h m d a = record { has = all_due o e n k start m d a; outer = s; under = h; is = refl }

pub does_begin : (fs gs : List Frame) (o p : List ℕ) (e : Bool) (n k start : ℕ) → n < 2 ^ 64 → k * 8 ≡ (n + cond e 1 0) + missing (n + cond e 1 0) →
    start ≡ length o → p ≡ o ++ replicate k 0 → gs ≡ Components (fresh e n start) ∷ fs → Does (sequence_begins e n) fs o gs p
does_begin fs gs o p e n k start m d a x y =
    record { after = λ s h. (opens s, refl, put_back gs fs _ p (opens s) y (subst (λ l. Holds (Components (fresh e n start) ∷ fs) l (opens s)) (sym x) (opened fs o s e n k start h m d a))) }
  where
    opens : State → State
    opens s = ([], components e n [] s.0 ∷ s.1)

-- ---- a presence bit

set_seam : {X : Type 0} (xs ys : List X) (x y : X) → set (xs ++ x ∷ ys) (length xs) y ≡ xs ++ y ∷ ys
set_seam [] ys x y = refl
set_seam (z ∷ xs) ys x y = ap (λ l. z ∷ l) (set_seam xs ys x y)

-- the next bit set, among those that are due
raised_bits : (e : Bool) (ms : List Bool) (d i : ℕ) → i ≡ length ms + cond e 1 0 → set (preamble e (ms ++ replicate (suc d) false)) i true ≡ preamble e ((ms ++ true ∷ []) ++ replicate d false)
raised_bits true ms d i h =
    let n : i ≡ suc (length ms) = omega arith in
    ap (λ k. set (false ∷ (ms ++ replicate (suc d) false)) k true) n ∙ ap (λ l. false ∷ l) (set_seam ms (replicate d false) false true ∙ sym (append_assoc ms (true ∷ []) (replicate d false)))
raised_bits false ms d i h =
    let n : i ≡ length ms = omega arith in
    ap (λ k. set (ms ++ replicate (suc d) false) k true) n ∙ (set_seam ms (replicate d false) false true ∙ sym (append_assoc ms (true ∷ []) (replicate d false)))

pub lowered_bits : (e : Bool) (ms : List Bool) (d : ℕ) → preamble e (ms ++ replicate (suc d) false) ≡ preamble e ((ms ++ false ∷ []) ++ replicate d false)
lowered_bits e ms d = ap (preamble e) (sym (append_assoc ms (false ∷ []) (replicate d false)))

pub one_longer : (ms : List Bool) (b : Bool) (given : ℕ) → length ms ≡ given → length (ms ++ b ∷ []) ≡ given + 1
one_longer ms b given h = omega (arith, length-append ms (b ∷ []), h)

pub get_or_any : (xs : List ℕ) (i : ℕ) → i < length xs → get_or xs i 0 ≡ get_or xs i (get_or xs i 0)
get_or_any [] i h = absurd (omega arith)
get_or_any (x ∷ xs) zero h = refl
get_or_any (x ∷ xs) (suc i) h = get_or_any xs i (omega arith)

pub set_small : (os : List ℕ) (q x : ℕ) → x < 256 → q < length os → ((k : ℕ) → k < length os → get_or os k 0 < 256) → (k : ℕ) → k < length (set os q x) → get_or (set os q x) k 0 < 256
set_small os q x h l s k m = elim (cases_eq k q) [
  | inl e ↦ let a : get_or (set os q x) k 0 ≡ x = ap (λ j. get_or (set os q x) j 0) e ∙ get_or-set_same os q x 0 l in omega (arith, a)
  | inr ne ↦ let a = get_or-set_other os q k x 0 ne in let b = s k (omega (arith, length-set os q x)) in omega (arith, a, b)
]

module _ (e : Bool) (d given start : ℕ) (o : List ℕ) (h : HasBits e (suc d) given start o) where
  abbrev pub with_absent : HasBits e d (given + 1) start o
  with_absent = record {
    front = h.front;
    bitmap = h.bitmap;
    inner = h.inner;
    presence_bits = h.presence_bits ++ false ∷ [];
    text = h.text;
    starts = h.starts;
    told = one_longer h.presence_bits false given h.told;
    counts = omega (arith, h.counts);
    bits = h.bits ∙ ap padded (lowered_bits e h.presence_bits d);
    small = h.small;
  }

  abbrev due_bits : List Bool
  due_bits = preamble e (h.presence_bits ++ replicate (suc d) false)

  within_bits : (i : ℕ) → i ≡ given + cond e 1 0 → i < length due_bits
  within_bits i n = omega (arith, length-preamble e (h.presence_bits ++ replicate (suc d) false), length-append h.presence_bits (replicate (suc d) false), length-replicate (suc d) false, h.told)

  pub within_bitmap : (i : ℕ) → i ≡ given + cond e 1 0 → i / 8 < length h.bitmap
  within_bitmap i n = omega (arith, within_bits i n, ap length h.bits, length-octet_bits h.bitmap, length-append due_bits (replicate (missing (length due_bits)) false))

  pub within_octets : (i : ℕ) → i ≡ given + cond e 1 0 → start + i / 8 < length o
  within_octets i n = omega (arith, within_bitmap i n, ap length h.text, length-append h.front (h.bitmap ++ h.inner), length-append h.bitmap h.inner, h.starts)

  octet_at : (i x : ℕ) → i ≡ given + cond e 1 0 → get_or o (start + i / 8) x ≡ get_or h.bitmap (i / 8) x
  octet_at i x n =
      let k : start + i / 8 - start ≡ i / 8 = omega arith in
      ap (λ l. get_or l (start + i / 8) x) h.text ∙ get_or-append_right h.front (h.bitmap ++ h.inner) start (start + i / 8) x h.starts (omega arith)
      ∙ ap (λ j. get_or (h.bitmap ++ h.inner) j x) k ∙ get_or_append_left h.bitmap h.inner x (i / 8) (within_bitmap i n)

  pub raised_text : (p : List ℕ) (i x : ℕ) → i ≡ given + cond e 1 0 → p ≡ set o (start + i / 8) x → p ≡ h.front ++ (set h.bitmap (i / 8) x ++ h.inner)
  raised_text p i x n changed =
      let k : start + i / 8 - start ≡ i / 8 = omega arith in
      changed ∙ ap (λ l. set l (start + i / 8) x) h.text ∙ set-append_right h.front (h.bitmap ++ h.inner) start (start + i / 8) x h.starts (omega arith)
      ∙ ap (λ j. h.front ++ set (h.bitmap ++ h.inner) j x) k ∙ ap (λ l. h.front ++ l) (set-append_left h.bitmap h.inner (i / 8) x (within_bitmap i n))

  pub raised_map : (i x : ℕ) → i ≡ given + cond e 1 0 → binary 8 x ≡ set (binary 8 (get_or o (start + i / 8) 0)) (i % 8) true →
      octet_bits (set h.bitmap (i / 8) x) ≡ padded (preamble e ((h.presence_bits ++ true ∷ []) ++ replicate d false))
  raised_map i x n bit =
      let y : ℕ = get_or o (start + i / 8) 0 in
      let place : i ≡ length h.presence_bits + cond e 1 0 = omega (arith, h.told) in
      let raised = raised_bits e h.presence_bits d i place in
      let long : length due_bits ≡ length (preamble e ((h.presence_bits ++ true ∷ []) ++ replicate d false)) = sym (length-set due_bits i true) ∙ ap length raised in
      kept_changed h.bitmap due_bits (length due_bits) i y x true h.bits refl (within_bits i n) (get_or_any o (start + i / 8) (within_octets i n) ∙
      octet_at i y n) bit ∙ ap (λ l. l ++ replicate (missing (length due_bits)) false) raised
      ∙ ap (λ m. preamble e ((h.presence_bits ++ true ∷ []) ++ replicate d false) ++ replicate (missing m) false) long

  abbrev pub with_present : (p : List ℕ) (i : ℕ) → i ≡ given + cond e 1 0 → p ≡ set o (start + i / 8) (get_or p (start + i / 8) 0) →
      binary 8 (get_or p (start + i / 8) 0) ≡ set (binary 8 (get_or o (start + i / 8) 0)) (i % 8) true → get_or p (start + i / 8) 0 < 256 → HasBits e d (given + 1) start p
  with_present p i n changed bit small = record {
    front = h.front;
    bitmap = set h.bitmap (i / 8) (get_or p (start + i / 8) 0);
    inner = h.inner;
    presence_bits = h.presence_bits ++ true ∷ [];
    text = raised_text p i (get_or p (start + i / 8) 0) n changed;
    starts = h.starts;
    told = one_longer h.presence_bits true given h.told;
    counts = omega (arith, h.counts);
    bits = raised_map i (get_or p (start + i / 8) 0) n bit;
    small = set_small h.bitmap (i / 8) (get_or p (start + i / 8) 0) small (within_bitmap i n) h.small;
  }

-- the presence bits of the innermost sequence can be counted
pub presence_bits_fit : (fs rest : List Frame) (c : Preamble) (o : List ℕ) → AreSound fs o → fs ≡ Components c ∷ rest → c.given + c.due < 2 ^ 64
presence_bits_fit fs rest c o s a = (on_top fs rest (Components c) o s.state a s.holds).has.counts

module _ (fs rest : List Frame) (c : Preamble) (o : List ℕ) (a : fs ≡ Components c ∷ rest) (n : 0 < c.due) where
  one : c.due ≡ suc (c.due - 1)
  one = omega arith

  next_due : (s : State) → Holds fs o s → IsOpen (λ q t. Holds rest q t) c.extensible (suc (c.due - 1)) c.given c.start o s
  next_due s h = subst (λ k. IsOpen (λ q t. Holds rest q t) c.extensible k c.given c.start o s) one (on_top fs rest (Components c) o s a h)

  abbrev then_state : (s : State) → IsOpen (λ q t. Holds rest q t) c.extensible (suc (c.due - 1)) c.given c.start o s → Bool → State
  then_state s h b = (h.has.inner, components c.extensible (c.due - 1) (h.has.presence_bits ++ b ∷ []) h.outer.0 ∷ h.outer.1)

  pub does_presence_bit_absent : (gs : List Frame) → gs ≡ Components (told c) ∷ rest → Does (presence_bit false) fs o gs o
  does_presence_bit_absent gs b = record { after = λ s h. go s (next_due s h) }
    where
      go : (s : State) → IsOpen (λ q t. Holds rest q t) c.extensible (suc (c.due - 1)) c.given c.start o s → (t : State) × (run (presence_bit false) s ≡ Some t) × Holds gs o t
      go s h = (
        then_state s h false,
        ap (run (presence_bit false)) h.is,
        put_back gs rest (Components (told c)) o (then_state s h false) b
            (record { has = with_absent c.extensible (c.due - 1) c.given c.start o h.has; outer = h.outer; under = h.under; is = refl }),
      )

  pub does_presence_bit_present : (gs : List Frame) (p : List ℕ) (i : ℕ) → gs ≡ Components (told c) ∷ rest → i ≡ c.given + cond c.extensible 1 0 →
      p ≡ set o (c.start + i / 8) (get_or p (c.start + i / 8) 0) → binary 8 (get_or p (c.start + i / 8) 0)
      ≡ set (binary 8 (get_or o (c.start + i / 8) 0)) (i % 8) true → ((j d : ℕ) → j < length p → get_or p j d < 256) → Does (presence_bit true) fs o gs p
  does_presence_bit_present gs p i b place others bit small = record { after = λ s h. go s (next_due s h) }
    where
      go : (s : State) → IsOpen (λ q t. Holds rest q t) c.extensible (suc (c.due - 1)) c.given c.start o s → (t : State) × (run (presence_bit true) s ≡ Some t) × Holds gs p t
      go s h =
          let at : ℕ = c.start + i / 8 in
          let l = within_octets c.extensible (c.due - 1) c.given c.start o h.has i place in
          let octet : get_or p at 0 < 256 = small at 0 (omega (arith, l, ap length others, length-set o at (get_or p at 0))) in (
            then_state s h true,
            ap (run (presence_bit true)) h.is,
            put_back gs rest (Components (told c)) p (then_state s h true) b
                (record { has = with_present c.extensible (c.due - 1) c.given c.start o h.has p i place others bit octet; outer = h.outer; under = h.under; is = refl }),
          )

  pub presence_bit_within : (i : ℕ) → AreSound fs o → i ≡ c.given + cond c.extensible 1 0 → c.start + i / 8 < length o
  presence_bit_within i s place = within_octets c.extensible (c.due - 1) c.given c.start o (next_due s.state s.holds).has i place

-- ---- lists, and ends

pub does_further : (fs rest gs : List Frame) (due : ℕ) (o : List ℕ) → fs ≡ Members due ∷ rest → 0 < due → gs ≡ Members (due - 1) ∷ rest → Does (further true) fs o gs o
does_further fs rest gs due o a n c = record { after = λ s h. go s (subst (λ k. Holds (Members k ∷ rest) o s) one (on_top fs rest (Members due) o s a h)) }
  where
    one : due ≡ suc (due - 1)
    one = omega arith

    go : (s : State) → Holds (Members (suc (due - 1)) ∷ rest) o s → (t : State) × (run (further true) s ≡ Some t) × Holds gs o t
    go s h = ((h.0.0, members (due - 1) ∷ h.0.1), ap (run (further true)) h.1, put_back gs rest _ o _ c (h.0, refl, h.2))

pub does_no_further : (fs rest gs : List Frame) (due : ℕ) (o : List ℕ) → fs ≡ Members due ∷ rest → due ≡ 0 → gs ≡ Members 0 ∷ rest → Does (further false) fs o gs o
does_no_further fs rest gs due o a n c = record { after = λ s h. go s (subst (λ k. Holds (Members k ∷ rest) o s) n (on_top fs rest (Members due) o s a h)) }
  where
    go : (s : State) → Holds (Members 0 ∷ rest) o s → (t : State) × (run (further false) s ≡ Some t) × Holds gs o t
    go s h = ((h.0.0, members 0 ∷ h.0.1), ap (run (further false)) h.1, put_back gs rest _ o _ c (h.0, refl, h.2))

pub closed_text : (p : List ℕ) (bs : List Bool) → octet_bits p ≡ padded bs → ((k : ℕ) → k < length p → get_or p k 0 < 256) → packed (padded bs) ≡ p
closed_text p bs e h = ap packed (sym e) ∙ packed-octet_bits p h

sequence_text : (ms : List Bool) (os : List ℕ) → written (Oer.sequence_form false ms (exactly os) []) 0 ≡ Some (packed (padded ms) ++ os)
unfolding written Oer.sequence_form
sequence_text ms os = refl

pub does_end_components : (fs rest : List Frame) (c : Preamble) (o : List ℕ) → fs ≡ Components c ∷ rest → c.extensible ≡ false → c.due ≡ 0 → Does ends fs o rest o
does_end_components fs rest c o a f n =
    record {
      after = λ s h. go s (subst (λ x. IsOpen (λ q t. Holds rest q t) x 0 c.given c.start o s) f
          (subst (λ k. IsOpen (λ q t. Holds rest q t) c.extensible k c.given c.start o s) n (on_top fs rest (Components c) o s a h)));
    }
  where
    go : (s : State) → IsOpen (λ q t. Holds rest q t) false 0 c.given c.start o s → (t : State) × (run ends s ≡ Some t) × Holds rest o t
    go s h =
        let i = h.has in
        let w : List ℕ = packed (padded i.presence_bits) ++ i.inner in
        let z : State = (h.outer.0 ++ w, h.outer.1) in
        let bits : octet_bits i.bitmap ≡ padded i.presence_bits = i.bits ∙ ap padded (append-nil i.presence_bits) in
        let back : o ≡ i.front ++ w = i.text ∙ ap (λ l. i.front ++ (l ++ i.inner)) (sym (closed_text i.bitmap i.presence_bits bits i.small)) in
        (z, ap (run ends) h.is ∙ ap (λ x. adds_text x h.outer) (sequence_text i.presence_bits i.inner), subst (λ l. Holds rest l z) (sym back) (appended rest i.front h.outer w h.under))

pub does_end_members : (fs rest : List Frame) (due : ℕ) (o : List ℕ) → fs ≡ Members due ∷ rest → due ≡ 0 → Does ends fs o rest o
does_end_members fs rest due o a n = record { after = λ s h. go s (subst (λ k. Holds (Members k ∷ rest) o s) n (on_top fs rest (Members due) o s a h)) }
  where
    go : (s : State) → Holds (Members 0 ∷ rest) o s → (t : State) × (run ends s ≡ Some t) × Holds rest o t
    go s h = (h.0, ap (run ends) h.1, h.2)

pub does_begin_members : (fs gs : List Frame) (o p : List ℕ) (z : Size) (h : Counts) (n : ℕ) →
    Adds (written (only_if (is_count_within h n) (Oer.unsigned n)) 0) o p → gs ≡ Members n ∷ fs → Does (list_begins z h n) fs o gs p
does_begin_members fs gs o p z h n x y = record { after = λ s d. go s d (written (only_if (is_count_within h n) (Oer.unsigned n)) 0) refl x }
  where
    go : (s : State) → Holds fs o s → (t : Option (List ℕ)) → written (only_if (is_count_within h n) (Oer.unsigned n)) 0 ≡ t → Adds t o p →
        (u : State) × (run (list_begins z h n) s ≡ Some u) × Holds gs p u
    go s d None e a = cc
    go s d (Some w) e a =
        let u : State = (s.0 ++ w, members n ∷ s.1) in
        let b : o ++ w ≡ p = cc a in (
          u,
          ap (option_map (λ l. let v : State = (s.0 ++ l, members n ∷ s.1) in v)) e,
          put_back gs fs (Members n) p u y
              ((s.0 ++ w, s.1), refl, subst (λ l. Holds fs l (s.0 ++ w, s.1)) b (appended fs o s w d)),
        )

pub raised_at : (os : List ℕ) (i y x r : ℕ) → i < length os → y ≡ get_or os i y → binary 8 x ≡ set (binary 8 y) r true → binary 8 (get_or (set os i x) i 0) ≡ set (binary 8 (get_or os i 0)) r true
raised_at os i y x r h a b =
    ap (binary 8) (get_or-set_same os i x 0 h) ∙ b ∙ ap (λ z. set (binary 8 z) r true) (a ∙ same os i y h)
  where
    same : (os : List ℕ) (i y : ℕ) → i < length os → get_or os i y ≡ get_or os i 0
    same [] i y h = absurd (omega arith)
    same (o ∷ os) zero y h = refl
    same (o ∷ os) (suc i) y h = same os i y (omega arith)

byte_of : (b : Bool) → bool_byte b ≡ cond b 1 0
byte_of true = refl
byte_of false = refl

pub with_extension_byte : (given n : ℕ) (e : Bool) → n ≡ bool_byte e → given + n ≡ given + cond e 1 0
with_extension_byte given n e h = ap (λ k. given + k) (h ∙ byte_of e)

pub does_whether_further : (fs rest gs : List Frame) (due next : ℕ) (o : List ℕ) (b : Bool) → fs ≡ Members due ∷ rest → b ≡ ltb 0 due →
    next ≡ due - cond b 1 0 → gs ≡ Members next ∷ rest → Does (further b) fs o gs o
does_whether_further fs rest gs due next o true a n d e = does_further fs rest gs due o a (ltb-true _ _ (sym n)) (e ∙ ap (λ (j : ℕ). Members j ∷ rest) d)
does_whether_further fs rest gs due next o false a n d e =
    let z : due ≡ 0 = let l = ltb-false _ _ (sym n) in omega arith in
    let y : next ≡ 0 = omega arith in
    does_no_further fs rest gs due o a z (e ∙ ap (λ (j : ℕ). Members j ∷ rest) y)

pub no_begin_members : (z : Size) (h : Counts) (n : ℕ) → written (only_if (is_count_within h n) (Oer.unsigned n)) 0 ≡ None → (s : State) → run (list_begins z h n) s ≡ None
no_begin_members z h n e s = ap (option_map (λ w. let v : State = (s.0 ++ w, members n ∷ s.1) in v)) e

pub nothing_open : (fs : List Frame) (o : List ℕ) (s : State) → Holds fs o s → s.1 ≡ [] → o ≡ s.0
nothing_open [] o s h e = sym (ap (λ (t : State). t.0) h)
nothing_open (Components c ∷ fs) o s h n = let p = ap (λ (t : State). t.1) h.is in cc
nothing_open (Added a ∷ fs) o s h n = let p = ap (λ (t : State). t.1) h.is in cc
nothing_open (OpenType start ∷ fs) o s h n = let p = ap (λ (t : State). t.1) h.is in cc
nothing_open (Bag b ∷ fs) o s h n = let p = ap (λ (t : State). t.1) h.1 in cc
nothing_open (Alternative ∷ fs) o s h n = let p = ap (λ (t : State). t.1) h.1 in cc
nothing_open (Members due ∷ fs) o s h n = let p = ap (λ (t : State). t.1) h.1 in cc

-- ---- sequences, sets and groups begin in the same way

pub does_same : (r q : Record) (fs gs : List Frame) (o p : List ℕ) → ((s : State) → run q s ≡ run r s) → Does r fs o gs p → Does q fs o gs p
does_same r q fs gs o p e d = record { after = λ s h. let t = d.after s h in (t.0, e s ∙ t.1, t.2) }

-- ---- the innermost frame

pub none_on_top : (r : Record) (fs rest : List Frame) (f : Frame) (o : List ℕ) → fs ≡ f ∷ rest → ((s : State) → Holds (f ∷ rest) o s → run r s ≡ None) → (s : State) → Holds fs o s → run r s ≡ None
none_on_top r fs rest f o e h s k = h s (on_top fs rest f o s e k)

pub scope_on_top : (r : Record) (s : State) (os : List ℕ) (c : Scope) (k : List Scope) → s ≡ (os, c ∷ k) → run r (os, c ∷ k) ≡ None → run r s ≡ None
scope_on_top r s os c k e h = ap (run r) e ∙ h

-- The octets before everything that is open stay, whatever a record does.
use Rattle.std.proofs.Common.{◌≡◌, ℕ, zero, suc, ◌+◌, ◌≤◌, Bool, true, false, ◌-◌, List, [], ◌∷◌, ◌++◌, length, set}
use Rattle.std.proofs.Common.{take, drop, Box, Global, Option, Some, None, option_map, option_and_then, refl, ap, subst}
use Rattle.std.proofs.Common.{sym, ◌∙◌, arith, length-append}
use Rattle.std.proofs.lemmas.List.{set-append_right, take-append-drop, take-append-le}
use Rattle.asn1_model.specs.Form.{written}
use Rattle.asn1_model.specs.Oer
use Rattle.asn1_model.specs.Versions.{Begins}
use Rattle.asn1_values_identifiers.proofs.Begins.{begins_same, begins_through}
use Rattle.asn1_schema_laws.specs.Records.{Record, flag, nil, whole, one_of, bits, octets, characters, identifier}
use Rattle.asn1_schema_laws.specs.Records.{list_begins, bag_begins, further, sequence_begins, set_begins, group_begins}
use Rattle.asn1_schema_laws.specs.Records.{presence_bit, is_default, is_empty, additions_begin, addition, addition_ends}
use Rattle.asn1_schema_laws.specs.Records.{choice_begins, ends, mismatch}
use Rattle.oer_codec_encoder.specs.EarlierOctets.{outermost, first_of, ground, Keeps, Stands}
use Rattle.oer_codec_encoder.specs.Holding.{shown, Holds, Does}
use Rattle.oer_codec_encoder.specs.Steps.{Scope, components, added, open_type, members, bag_members, alternative, State}
use Rattle.oer_codec_encoder.specs.Steps.{run, adds_text, presence_told, goes_on, ended, extended, adds, added_one}
use Rattle.oer_codec_encoder.specs.Steps.{chosen_on, tag_at, tags_among}
use Rattle.oer_codec_encoder.specs.declared.frame.Additions.{Additions}
use Rattle.oer_codec_encoder.specs.declared.frame.Bag.{Bag as BagFrame}
use Rattle.oer_codec_encoder.specs.declared.frame.Frame.{Frame}
use Rattle.oer_codec_encoder.specs.declared.frame.Frame.TheVariants.{Components, Added, OpenType, Members, Bag, Alternative}
use Rattle.oer_codec_encoder.proofs.Scopes.{before_room, root_first, shown_is}

-- ---- lists that begin with others

pub rebased : (a b p : List ℕ) → a ≡ b → Begins b p → Begins a p
rebased a b p e h = subst (λ l. Begins l p) (sym e) h

begins_longer : (n : ℕ) (x y : List ℕ) → Begins x y → n ≤ length x → n ≤ length y
begins_longer n x y h l = omega (arith, l, length-append x h.0, ap length h.1)

first_taken : (n : ℕ) (x y : List ℕ) → n ≤ length x → Begins x y → take n y ≡ take n x
first_taken n x y l h = ap (take n) (sym h.1) ∙ take-append-le n x h.0 l

-- ---- a step keeps the octets before

pub outermost_on : (a b : List ℕ) (k : List Scope) → Begins a b → Begins (outermost a k) (outermost b k)
outermost_on a b [] h = h
outermost_on a b (components e n ms front ∷ k) h = begins_same _ _ refl
outermost_on a b (added n ms root bs front ∷ k) h = begins_same _ _ refl
outermost_on a b (open_type front ∷ k) h = begins_same _ _ refl
outermost_on a b (members n ∷ k) h = outermost_on a b k h
outermost_on a b (bag_members n ws front ∷ k) h = begins_same _ _ refl
outermost_on a b (alternative ∷ k) h = outermost_on a b k h

-- what a step leads to begins with this
abbrev Leads : List ℕ → Option State → Type 0
Leads x o = (t : State) → o ≡ Some t → Begins x (first_of t)

leads_none : (x : List ℕ) → Leads x None
leads_none x t e = cc

leads_to : (x : List ℕ) (u : State) → Begins x (first_of u) → Leads x (Some u)
leads_to x u h t e = let q : u ≡ t = cc e in subst (λ (v : State). Begins x (first_of v)) q h

leads_text : (o : Option (List ℕ)) (s : State) → Leads (first_of s) (adds_text o s)
leads_text None s = leads_none _
leads_text (Some w) s = leads_to _ (s.0 ++ w, s.1) (outermost_on s.0 (s.0 ++ w) s.1 (w, refl))

leads_list : (o : Option (List ℕ)) (s : State) (n : ℕ) → Leads (first_of s) (option_map (λ w. let t : State = (s.0 ++ w, members n ∷ s.1) in t) o)
leads_list None s n = leads_none _
leads_list (Some w) s n = leads_to _ (s.0 ++ w, members n ∷ s.1) (outermost_on s.0 (s.0 ++ w) s.1 (w, refl))

leads_bag : (o : Option (List ℕ)) (s : State) (n : ℕ) → Leads (first_of s) (option_map (λ w. let t : State = ([], bag_members n None (s.0 ++ w) ∷ s.1) in t) o)
leads_bag None s n = leads_none _
leads_bag (Some w) s n = leads_to _ ([], bag_members n None (s.0 ++ w) ∷ s.1) (outermost_on s.0 (s.0 ++ w) s.1 (w, refl))

leads_then : {A : Type 0} (x : List ℕ) (o : Option A) (f : A → Option State) → ((a : A) → Leads x (f a)) → Leads x (option_and_then f o)
leads_then x None f h = leads_none x
leads_then x (Some a) f h = h a

leads_chosen : (plus : Bool) (w : List ℕ) (s : State) → Leads (first_of s) (chosen_on plus w s)
leads_chosen false w s = leads_to _ (s.0 ++ w, alternative ∷ s.1) (outermost_on s.0 (s.0 ++ w) s.1 (w, refl))
leads_chosen true w s = leads_to _ ([], open_type (s.0 ++ w) ∷ s.1) (outermost_on s.0 (s.0 ++ w) s.1 (w, refl))

leads_further : (b : Bool) (os : List ℕ) (k : List Scope) → Leads (outermost os k) (goes_on b os k)
leads_further b os [] = leads_none _
leads_further b os (components e n ms front ∷ k) = leads_none _
leads_further b os (added n ms root bs front ∷ k) = leads_none _
leads_further b os (open_type front ∷ k) = leads_none _
leads_further true os (members zero ∷ k) = leads_none _
leads_further false os (members zero ∷ k) = leads_to _ _ (begins_same _ _ refl)
leads_further true os (members (suc n) ∷ k) = leads_to _ _ (begins_same _ _ refl)
leads_further false os (members (suc n) ∷ k) = leads_none _
leads_further true os (bag_members zero ws front ∷ k) = leads_none _
leads_further false os (bag_members zero ws front ∷ k) = leads_to _ _ (begins_same _ _ refl)
leads_further true os (bag_members (suc n) ws front ∷ k) = leads_to _ _ (begins_same _ _ refl)
leads_further false os (bag_members (suc n) ws front ∷ k) = leads_none _
leads_further b os (alternative ∷ k) = leads_none _

leads_told : (b : Bool) (os : List ℕ) (k : List Scope) → Leads (outermost os k) (presence_told b os k)
leads_told b os [] = leads_none _
leads_told b os (components e zero ms front ∷ k) = leads_none _
leads_told b os (components e (suc n) ms front ∷ k) = leads_to _ _ (begins_same _ _ refl)
leads_told b os (added n ms root bs front ∷ k) = leads_none _
leads_told b os (open_type front ∷ k) = leads_none _
leads_told b os (members n ∷ k) = leads_none _
leads_told b os (bag_members n ws front ∷ k) = leads_none _
leads_told b os (alternative ∷ k) = leads_none _

leads_extended : (n : ℕ) (os : List ℕ) (k : List Scope) → Leads (outermost os k) (extended n os k)
leads_extended n os [] = leads_none _
leads_extended n os (components true zero ms front ∷ k) = leads_to _ _ (begins_same _ _ refl)
leads_extended n os (components true (suc due) ms front ∷ k) = leads_none _
leads_extended n os (components false zero ms front ∷ k) = leads_none _
leads_extended n os (components false (suc due) ms front ∷ k) = leads_none _
leads_extended n os (added due ms root bs front ∷ k) = leads_none _
leads_extended n os (open_type front ∷ k) = leads_none _
leads_extended n os (members due ∷ k) = leads_none _
leads_extended n os (bag_members due ws front ∷ k) = leads_none _
leads_extended n os (alternative ∷ k) = leads_none _

leads_addition : (b : Bool) (os : List ℕ) (k : List Scope) → Leads (outermost os k) (adds b os k)
leads_addition b os [] = leads_none _
leads_addition b os (components e n ms front ∷ k) = leads_none _
leads_addition b os (added zero ms root bs front ∷ k) = leads_none _
leads_addition false os (added (suc n) ms root bs front ∷ k) = leads_to _ _ (begins_same _ _ refl)
leads_addition true os (added (suc n) ms root bs front ∷ k) = leads_to _ _ (begins_same _ _ refl)
leads_addition b os (open_type front ∷ k) = leads_none _
leads_addition b os (members n ∷ k) = leads_none _
leads_addition b os (bag_members n ws front ∷ k) = leads_none _
leads_addition b os (alternative ∷ k) = leads_none _

leads_added : (os : List ℕ) (k : List Scope) → Leads (outermost os k) (added_one os k)
leads_added os [] = leads_none _
leads_added os (components e n ms front ∷ k) = leads_none _
leads_added os (added n ms root bs front ∷ k) = leads_none _
leads_added os (open_type front ∷ []) = leads_none _
leads_added os (open_type front ∷ (components e n ms before ∷ k)) = leads_none _
leads_added os (open_type front ∷ (added n ms root bs before ∷ k)) = leads_text _ (front, added n ms root bs before ∷ k)
leads_added os (open_type front ∷ (open_type before ∷ k)) = leads_none _
leads_added os (open_type front ∷ (members n ∷ k)) = leads_none _
leads_added os (open_type front ∷ (bag_members n ws before ∷ k)) = leads_none _
leads_added os (open_type front ∷ (alternative ∷ k)) = leads_none _
leads_added os (members n ∷ k) = leads_none _
leads_added os (bag_members n ws front ∷ k) = leads_none _
leads_added os (alternative ∷ k) = leads_none _

leads_ended : (os : List ℕ) (k : List Scope) → Leads (outermost os k) (ended os k)
leads_ended os [] = leads_none _
leads_ended os (components false zero ms front ∷ k) = leads_text _ (front, k)
leads_ended os (components false (suc n) ms front ∷ k) = leads_none _
leads_ended os (components true zero ms front ∷ k) = leads_none _
leads_ended os (components true (suc n) ms front ∷ k) = leads_none _
leads_ended os (added zero ms root bs front ∷ k) = leads_text _ (front, k)
leads_ended os (added (suc n) ms root bs front ∷ k) = leads_none _
leads_ended os (open_type front ∷ k) = leads_text _ (front, k)
leads_ended os (members zero ∷ k) = leads_to _ _ (begins_same _ _ refl)
leads_ended os (members (suc n) ∷ k) = leads_none _
leads_ended os (bag_members zero ws front ∷ k) = leads_text _ (front, k)
leads_ended os (bag_members (suc n) ws front ∷ k) = leads_none _
leads_ended os (alternative ∷ k) = leads_to _ _ (begins_same _ _ refl)

pub run_leads : (r : Record) (s : State) → Leads (first_of s) (run r s)
run_leads (flag b) s = leads_text _ s
run_leads nil s = leads_text (Some []) s
run_leads (whole b h v) s = leads_text _ s
run_leads (one_of roots e others v) s = leads_text _ s
run_leads (bits z h bs) s = leads_text _ s
run_leads (octets z h os) s = leads_text _ s
run_leads (characters k z a h cs) s = leads_text _ s
run_leads (identifier ns) s = leads_text _ s
run_leads (list_begins z h n) s = leads_list _ s n
run_leads (bag_begins z h n) s = leads_bag _ s n
run_leads (further b) s = leads_further b s.0 s.1
run_leads (sequence_begins e n) s = leads_to _ _ (begins_same _ _ refl)
run_leads (set_begins e n) s = leads_to _ _ (begins_same _ _ refl)
run_leads (group_begins n) s = leads_to _ _ (begins_same _ _ refl)
run_leads (presence_bit b) s = leads_told b s.0 s.1
run_leads is_default s = leads_none _
run_leads is_empty s = leads_none _
run_leads (additions_begin n) s = leads_extended n s.0 s.1
run_leads (addition b) s = leads_addition b s.0 s.1
run_leads addition_ends s = leads_added s.0 s.1
run_leads (choice_begins roots e others plus i) s =
    leads_then (first_of s) (tag_at i (tags_among roots e others plus)) (λ t. option_and_then (λ w. chosen_on plus w s) (written (Oer.tag_form t) 0))
    (λ t. leads_then (first_of s) (written (Oer.tag_form t) 0) (λ w. chosen_on plus w s) (λ w. leads_chosen plus w s))
run_leads ends s = leads_ended s.0 s.1
run_leads mismatch s = leads_none _

-- ---- the octets and the frames

pub ground_on : (fs : List Frame) (o p : List ℕ) → Begins o p → Begins (ground fs o) (ground fs p)
ground_on [] o p h = h
ground_on (Components c ∷ fs) o p h = ground_on fs o p h
ground_on (Added a ∷ fs) o p h = ground_on fs o p h
ground_on (OpenType start ∷ fs) o p h = ground_on fs o p h
ground_on (Members due ∷ fs) o p h = ground_on fs o p h
ground_on (Bag b ∷ fs) o p h = begins_same _ _ refl
ground_on (Alternative ∷ fs) o p h = ground_on fs o p h

pub ground_as : (fs gs : List Frame) (o : List ℕ) → fs ≡ gs → ground fs o ≡ ground gs o
ground_as fs gs o e = ap (λ l. ground l o) e

-- the octets before everything that is open are a prefix of those that are kept for it
pub in_front : (fs : List Frame) (o : List ℕ) (s : State) → Holds fs o s → Begins (first_of s) (ground fs o)
in_front [] o s h = begins_same _ _ (sym (ap first_of h))
in_front (Components c ∷ fs) o s h =
    rebased _ _ _ (ap first_of h.is) (begins_through _ _ _ (in_front fs h.has.front h.outer h.under) (ground_on fs h.has.front o (_, sym h.has.text)))
in_front (Added a ∷ fs) o s h =
    let root : Begins h.preamble.front h.root = (_, sym h.preamble.text) in
    rebased _ _ _ (ap first_of h.is) (begins_through _ _ _ (in_front fs h.preamble.front h.outer h.under) (ground_on fs h.preamble.front o (begins_through _ _ _ root (_, sym (root_first a o s h)))))
in_front (OpenType start ∷ fs) o s h =
    rebased _ _ _ (ap first_of h.is) (begins_through _ _ _ (in_front fs h.front h.outer h.under) (ground_on fs h.front o (_, sym h.text)))
in_front (Members due ∷ fs) o s h = rebased _ _ _ (ap first_of h.1) (in_front fs o h.0 h.2)
in_front (Bag b ∷ fs) o s h = rebased _ _ _ (ap first_of h.1) (in_front fs b.value.outer.items h.0 h.2)
in_front (Alternative ∷ fs) o s h = rebased _ _ _ (ap first_of h.1) (in_front fs o h.0 h.2)

-- ---- what a refused record leaves

pub keeps_ground : (fs gs : List Frame) (o p : List ℕ) → Begins (ground fs o) (ground gs p) → Keeps fs o gs p
keeps_ground fs gs o p b = record { keeps = λ s h. begins_through _ _ _ (in_front fs o s h) b }

-- nothing has changed
pub keeps_same : (fs gs : List Frame) (o p : List ℕ) → gs ≡ fs → p ≡ o → Keeps fs o gs p
keeps_same fs gs o p e f = keeps_ground fs gs o p (begins_same _ _ (ap (λ l. ground l p) e ∙ ap (ground fs) f))

-- a list or a bag that continues
pub keeps_members : (fs rest gs : List Frame) (due next : ℕ) (o : List ℕ) → fs ≡ Members due ∷ rest → gs ≡ Members next ∷ rest → Keeps fs o gs o
keeps_members fs rest gs due next o e f = keeps_ground fs gs o o (begins_same _ _ (ap (λ l. ground l o) f ∙ sym (ap (λ l. ground l o) e)))

pub keeps_bag : (fs rest gs : List Frame) (b c : Box BagFrame Global) (o p : List ℕ) → fs ≡ Bag b ∷ rest → gs ≡ Bag c ∷ rest → Begins b.value.outer.items c.value.outer.items → Keeps fs o gs p
keeps_bag fs rest gs b c o p e f h =
    keeps_ground fs gs o p (subst (λ l. Begins (ground l o) (ground gs p)) (sym e)
    (subst (λ l. Begins (ground (Bag b ∷ rest) o) (ground l p)) (sym f) (ground_on rest b.value.outer.items c.value.outer.items h)))

-- the presence bit of an addition is set
pub keeps_raised : (fs k gs : List Frame) (a : Additions) (o p q : List ℕ) (i y : ℕ) → fs ≡ Added a ∷ k → ground gs q ≡ ground k q → p ≡ set o (a.bitmap + i) y → Begins p q → Keeps fs o gs q
keeps_raised fs k gs a o p q i y e same changed b = record { keeps = λ s h. go s (subst (λ l. Holds l o s) e h) }
  where
    go : (s : State) → Holds (Added a ∷ k) o s → Begins (first_of s) (ground gs q)
    go s h =
        let rest : List ℕ = h.has.bitmap ++ h.has.inner in
        let raised : p ≡ h.has.front ++ set rest (a.bitmap + i - a.bitmap) y = changed ∙ ap (λ l. set l (a.bitmap + i) y) h.has.text ∙
        set-append_right h.has.front rest a.bitmap (a.bitmap + i) y h.has.starts (omega arith) in
        let root : Begins h.preamble.front h.root = (_, sym h.preamble.text) in
        let heading : Begins h.root h.has.front = (_, sym h.text) in
        let front : Begins h.preamble.front q = begins_through _ _ _ root (begins_through _ _ _ heading (begins_through _ _ _ (_, sym raised) b)) in
        rebased _ _ _ (ap first_of h.is)
        (subst (λ l. Begins (first_of h.outer) l) (sym same) (begins_through _ _ _ (in_front k h.preamble.front h.outer h.under) (ground_on k h.preamble.front q front)))

pub begins_added : (o p w : List ℕ) → p ≡ o ++ w → Begins o p
begins_added o p w e = (w, sym e)

pub begins_taken : (n : ℕ) (o : List ℕ) → Begins (take n o) o
begins_taken n o = (drop n o, take-append-drop n o)

-- octets are appended, and the same frames are open
pub keeps_behind : (fs gs : List Frame) (o p : List ℕ) → gs ≡ fs → Begins o p → Keeps fs o gs p
keeps_behind fs gs o p e b = keeps_ground fs gs o p (subst (λ l. Begins (ground fs o) (ground l p)) (sym e) (ground_on fs o p b))

-- an open type that ends: the octets before it are left
pub keeps_room : (fs k gs : List Frame) (o p : List ℕ) (start : ℕ) → fs ≡ OpenType start ∷ k → ground gs p ≡ ground k p → Begins (take start o) p → Keeps fs o gs p
keeps_room fs k gs o p start e same b = record { keeps = λ s h. go s (subst (λ l. Holds l o s) e h) }
  where
    go : (s : State) → Holds (OpenType start ∷ k) o s → Begins (first_of s) (ground gs p)
    go s h =
        let front : Begins h.front p = subst (λ l. Begins l p) (before_room start o s h) b in
        rebased _ _ _ (ap first_of h.is) (subst (λ l. Begins (first_of h.outer) l) (sym same) (begins_through _ _ _ (in_front k h.front h.outer h.under) (ground_on k h.front p front)))

-- ---- the octets before an encoder's own

module _ (fs gs : List Frame) (o p : List ℕ) {n : ℕ} (h : Stands fs o n) where
  same_taken : Begins (first_of (shown fs o)) (ground gs p) → take n (ground gs p) ≡ take n (ground fs o)
  same_taken b = first_taken n _ _ h.behind b ∙ sym (first_taken n _ _ h.behind (in_front fs o (shown fs o) h.holds))

  -- after a record that was refused
  pub front_kept : Keeps fs o gs p → take n (ground gs p) ≡ take n (ground fs o)
  front_kept k = same_taken (k.keeps (shown fs o) h.holds)

  -- after one that is written
  leads_on : (r : Record) → (d : Does r fs o gs p) → Begins (first_of (shown fs o)) (first_of (d.after (shown fs o) h.holds).0)
  leads_on r d = let t = d.after (shown fs o) h.holds in run_leads r (shown fs o) t.0 t.1

  pub front_behind : (r : Record) → Does r fs o gs p → take n (ground gs p) ≡ take n (ground fs o)
  front_behind r d = let t = d.after (shown fs o) h.holds in same_taken (begins_through _ _ _ (leads_on r d) (in_front gs p t.0 t.2))

  pub stands_behind : (r : Record) → Does r fs o gs p → Stands gs p n
  stands_behind r d =
      let t = d.after (shown fs o) h.holds in
      let e = shown_is gs p t.0 t.2 in
      record {
        holds = subst (λ x. Holds gs p x) (sym e) t.2;
        behind = subst (λ (x : State). n ≤ length (first_of x)) (sym e) (begins_longer n _ _ (leads_on r d) h.behind);
      }

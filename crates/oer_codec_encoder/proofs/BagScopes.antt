-- Bags that begin, continue and end, in the octets and the frames of an encoder.
use Rattle.std.proofs.Common.{◌≡◌, ℕ, suc, ◌+◌, ◌-◌, ◌<◌, Bool, true, false, cond, ltb, List, [], ◌∷◌, ◌++◌, length}
use Rattle.std.proofs.Common.{map, Option, Some, None, option_map, Vec, Box, Global, Result, Ok, Err, MatchResult, refl}
use Rattle.std.proofs.Common.{ap, subst, sym, ◌∙◌, arith}
use Rattle.std.proofs.lemmas.List.{append-nil}
use Rattle.asn1_model.specs.Form.{written, exactly, only_if, given, joined, stands_before, ascending, with_keys, put_in_place}
use Rattle.asn1_model.specs.Numbers.{is_count_within}
use Rattle.asn1_model.specs.Oer
use Rattle.asn1_model.specs.Schema.{Size, Counts}
use Rattle.asn1_schema_order.specs.declared.encodings.Entry.{Entry}
use Rattle.asn1_schema_order.specs.Entries.{octets_of, ArePlaced, AreInOrder}
use Rattle.asn1_schema_laws.specs.Records.{bag_begins, further, ends}
use Rattle.oer_codec_encoder.specs.Steps.{bag_members, with_open, State, run, adds_text}
use Rattle.oer_codec_encoder.specs.declared.frame.Bag.{Bag as BagFrame}
use Rattle.oer_codec_encoder.specs.declared.frame.Frame.{Frame}
use Rattle.oer_codec_encoder.specs.declared.frame.Frame.TheVariants.{Bag}
use Rattle.asn1_schema_errors.specs.declared.EncodeError.{EncodeError}
use Rattle.oer_codec_encoder.specs.Frames.{NoEnd}
use Rattle.oer_codec_encoder.specs.Holding.{NextOfBag, BagEnds, IsInBag, Holds, Does, Cannot}
use Rattle.oer_codec_encoder.specs.Joined.{texts_joined}
use Rattle.oer_codec_writing.specs.Writing.{Adds}
use Rattle.oer_codec_encoder.proofs.Refusals.{cannot}
use Rattle.oer_codec_encoder.proofs.Scopes.{on_top, put_back, appended}

-- ---- a bag begins

abbrev pub begun : ℕ → Vec ℕ Global → BagFrame
begun n outer = record { due = n; outer = outer; members = None }

pub does_begin_bag : (fs gs : List Frame) (o p q : List ℕ) (z : Size) (h : Counts) (n : ℕ) (outer : Vec ℕ Global) (boxed : Box BagFrame Global) →
    Adds (written (only_if (is_count_within h n) (Oer.unsigned n)) 0) o p → outer.items ≡ p → q ≡ [] → boxed.value ≡ begun n outer → gs ≡ Bag boxed ∷ fs → Does (bag_begins z h n) fs o gs q
does_begin_bag fs gs o p q z h n outer boxed x r v held y = record { after = λ s d. go s d (written (only_if (is_count_within h n) (Oer.unsigned n)) 0) refl x }
  where
    go : (s : State) → Holds fs o s → (t : Option (List ℕ)) → written (only_if (is_count_within h n) (Oer.unsigned n)) 0 ≡ t → Adds t o p →
        (u : State) × (run (bag_begins z h n) s ≡ Some u) × Holds gs q u
    go s d None e a = cc
    go s d (Some w) e a =
        let u : State = ([], bag_members n None (s.0 ++ w) ∷ s.1) in
        let b : o ++ w ≡ outer.items = (let same : o ++ w ≡ p = cc a in same) ∙ sym r in
        let inside : IsInBag (λ l t. Holds fs l t) (begun n outer) [] u = ((s.0 ++ w, s.1), refl, subst (λ l. Holds fs l (s.0 ++ w, s.1)) b (appended fs o s w d)) in (
          u,
          ap (option_map (λ l. let v : State = ([], bag_members n None (s.0 ++ l) ∷ s.1) in v)) e,
          subst (λ l. Holds gs l u) (sym v) (put_back gs fs (Bag boxed) [] u y (subst (λ (f : BagFrame). IsInBag (λ l t. Holds fs l t) f [] u) (sym held) inside)),
        )

pub no_begin_bag : (z : Size) (h : Counts) (n : ℕ) → written (only_if (is_count_within h n) (Oer.unsigned n)) 0 ≡ None → (s : State) → run (bag_begins z h n) s ≡ None
no_begin_bag z h n e s = ap (option_map (λ w. let v : State = ([], bag_members n None (s.0 ++ w) ∷ s.1) in v)) e

-- ---- it continues

abbrev with_due : ℕ → BagFrame → BagFrame
with_due k b = record { due = k; outer = b.outer; members = b.members }

module _ (fs rest gs : List Frame) (boxed next : Box BagFrame Global) (o p : List ℕ) (a : fs ≡ Bag boxed ∷ rest) (y : gs ≡ Bag next ∷ rest) where
  of_due : (k : ℕ) → boxed.value.due ≡ k → (s : State) → Holds fs o s → IsInBag (λ l t. Holds rest l t) (with_due k boxed.value) o s
  of_due k n s h = subst (λ j. IsInBag (λ l t. Holds rest l t) (with_due j boxed.value) o s) n (on_top fs rest (Bag boxed) o s a h)

  pub does_next : (more : Bool) → NextOfBag more boxed.value o next.value p → Does (further more) fs o gs p
  does_next false n = record { after = λ s h. go s (of_due 0 n.0 s h) }
    where
      same : with_due 0 boxed.value ≡ next.value
      same = ap (λ (k : ℕ). with_due k boxed.value) (sym n.0) ∙ sym n.1

      go : (s : State) → IsInBag (λ l t. Holds rest l t) (with_due 0 boxed.value) o s → (t : State) × (run (further false) s ≡ Some t) × Holds gs p t
      go s h =
          let t : State = (o, bag_members 0 boxed.value.members h.0.0 ∷ h.0.1) in
          let inside : IsInBag (λ l t. Holds rest l t) (with_due 0 boxed.value) o t = (h.0, refl, h.2) in
          (t, ap (run (further false)) h.1, put_back gs rest (Bag next) p t y (subst (λ l. Holds (Bag next ∷ rest) l t) (sym n.2) (subst (λ k. IsInBag (λ l t. Holds rest l t) k o t) same inside)))
  does_next true n = record { after = λ s h. go s (of_due (suc (boxed.value.due - 1)) one s h) }
    where
      one : boxed.value.due ≡ suc (boxed.value.due - 1)
      one = let l = n.0 in omega arith

      go : (s : State) → IsInBag (λ l t. Holds rest l t) (with_due (suc (boxed.value.due - 1)) boxed.value) o s → (t : State) × (run (further true) s ≡ Some t) × Holds gs p t
      go s h =
          let b = boxed.value in
          let c = next.value in
          let t : State = ([], bag_members (b.due - 1) (Some (with_open b.members o)) h.0.0 ∷ h.0.1) in
          let counted : t ≡ ([], bag_members c.due (Some (with_open b.members o)) h.0.0 ∷ h.0.1) =
          ap (λ k. let l : State = ([], bag_members k (Some (with_open b.members o)) h.0.0 ∷ h.0.1) in l) (sym n.1) in
          let told : t ≡ ([], bag_members c.due c.members h.0.0 ∷ h.0.1) = counted ∙ ap (λ ws. let l : State = ([], bag_members c.due ws h.0.0 ∷ h.0.1) in l) (sym n.3) in
          (t, ap (run (further true)) h.1, subst (λ l. Holds gs l t) (sym n.4) (put_back gs rest (Bag next) [] t y (h.0, told, subst (λ v. Holds rest v.items h.0) (sym n.2) h.2)))

-- ---- it ends

placed_octets : (i : ℕ) (ws : List (List ℕ)) (es : List Entry) → ArePlaced i ws es → map octets_of es ≡ ws
placed_octets i [] [] p = refl
placed_octets i [] (e ∷ es) p = absurd p
placed_octets i (w ∷ ws) [] p = absurd p
placed_octets i (w ∷ ws) (e ∷ es) p = ap (λ l. l ∷ map octets_of es) p.0 ∙ ap (λ l. w ∷ l) (placed_octets (suc i) ws es p.2)

abbrev form_of : Entry → Oer.OctetForm
form_of e = exactly (octets_of e)

forms_of : (es : List Entry) → map form_of es ≡ map (λ w. exactly w) (map octets_of es)
forms_of [] = refl
forms_of (e ∷ es) = ap (λ l. form_of e ∷ l) (forms_of es)

abbrev before : List ℕ → List ℕ → Bool
before = stands_before ltb

abbrev own : List ℕ × Entry → List ℕ × Oer.OctetForm
own e = (e.0, form_of e.1)

put_formed : (e : List ℕ × Entry) (es : List (List ℕ × Entry)) → put_in_place before (own e) (map own es) ≡ map own (put_in_place before e es)
put_formed e [] = refl
put_formed e (f ∷ fs) = go (before f.0 e.0) (put_formed e fs)
  where
    go : (b : Bool) → put_in_place before (own e) (map own fs) ≡ map own (put_in_place before e fs) →
        cond b (own f ∷ put_in_place before (own e) (map own fs)) (own e ∷ own f ∷ map own fs) ≡ map own (cond b (f ∷ put_in_place before e fs) (e ∷ f ∷ fs))
    go true h = ap (λ l. own f ∷ l) h
    go false h = refl

formed_keys : (es : List Entry) → with_keys (λ x. written x 0) before (map form_of es) ≡ option_map (map own) (with_keys (λ e. Some (octets_of e)) before es)
unfolding written
formed_keys [] = refl
formed_keys (e ∷ es) = ap (option_map (λ l. put_in_place before (octets_of e, form_of e) l)) (formed_keys es) ∙ go (with_keys (λ f. Some (octets_of f)) before es)
  where
    go : (o : Option (List (List ℕ × Entry))) → option_map (λ l. put_in_place before (octets_of e, form_of e) l) (option_map (map own) o)
        ≡ option_map (map own) (option_map (λ l. put_in_place before (octets_of e, e) l) o)
    go None = refl
    go (Some l) = ap Some (put_formed (octets_of e, e) l)

seconds : (es : List (List ℕ × Entry)) → map (λ e. e.1) (map own es) ≡ map form_of (map (λ e. e.1) es)
seconds [] = refl
seconds (e ∷ es) = ap (λ l. form_of e.1 ∷ l) (seconds es)

formed : (es fs : List Entry) → ascending (λ e. Some (octets_of e)) before es ≡ Some fs → ascending (λ x. written x 0) before (map form_of es) ≡ Some (map form_of fs)
formed es fs h = ap (option_map (map (λ e. e.1))) (formed_keys es) ∙ go (with_keys (λ e. Some (octets_of e)) before es) h
  where
    go : (o : Option (List (List ℕ × Entry))) → option_map (map (λ e. e.1)) o ≡ Some fs → option_map (map (λ e. e.1)) (option_map (map own) o) ≡ Some (map form_of fs)
    go None e = cc
    go (Some l) e = let same : map (λ e. e.1) l ≡ fs = cc e in ap Some (seconds l ∙ ap (map form_of) same)

joined_text : (es : List Entry) (p : ℕ) → written (joined (map form_of es)) p ≡ Some (texts_joined (map octets_of es))
unfolding written
joined_text [] p = refl
joined_text (e ∷ es) p = ap (option_map (λ b. octets_of e ++ b)) (joined_text es (p + length (octets_of e)))

ordered_text : (es fs : List Entry) → ascending (λ e. Some (octets_of e)) before es ≡ Some fs → written (Oer.in_any_order (map form_of es) (λ xs. joined xs)) 0 ≡ Some (texts_joined (map octets_of fs))
unfolding written Oer.in_any_order
ordered_text es fs h = ap (λ o. written (given o (λ xs. joined xs)) 0) (formed es fs h) ∙ joined_text fs 0

-- the octets of elements in their order
abbrev pub bag_text : List (List ℕ) → Option (List ℕ)
bag_text ws = written (Oer.in_any_order (map (λ w. exactly w) ws) (λ xs. joined xs)) 0

pub adds_ordered : (ws : List (List ℕ)) (es : List Entry) (old new : List ℕ) → AreInOrder ws es → new ≡ old ++ texts_joined (map octets_of es) → Adds (bag_text ws) old new
adds_ordered ws es old new h e = ap (option_map (λ w. old ++ w)) (ap (λ l. written (Oer.in_any_order l (λ xs. joined xs)) 0) forms ∙ ordered_text h.all es h.ascend) ∙ ap Some (sym e)
  where
    forms : map (λ w. exactly w) ws ≡ map form_of h.all
    forms = ap (map (λ w. exactly w)) (sym (placed_octets 0 ws h.all h.placed)) ∙ sym (forms_of h.all)

-- a single element
pub adds_one : (ws : List (List ℕ)) (w old new : List ℕ) → ws ≡ [] → new ≡ old ++ w → Adds (bag_text (ws ++ w ∷ [])) old new
unfolding written Oer.in_any_order
adds_one [] w old new n e = ap (λ l. Some (old ++ l)) (append-nil w) ∙ ap Some (sym e)
adds_one (v ∷ vs) w old new n e = cc

-- no elements
adds_none : (old : List ℕ) → Adds (bag_text []) old old
unfolding written Oer.in_any_order
adds_none old = ap Some (append-nil old)

does_end_bag : (boxed : Box BagFrame Global) (k : List Frame) (o p : List ℕ) → BagEnds boxed.value o p → Does ends (Bag boxed ∷ k) o k p
does_end_bag boxed k o p n = record { after = λ s h. go s (subst (λ i. IsInBag (λ l t. Holds k l t) (with_due i boxed.value) o s) n.0 h) (bag_text (with_open boxed.value.members o)) refl n.1 }
  where
    go : (s : State) → IsInBag (λ l t. Holds k l t) (with_due 0 boxed.value) o s → (t : Option (List ℕ)) →
        bag_text (with_open boxed.value.members o) ≡ t → Adds t boxed.value.outer.items p → (u : State) × (run ends s ≡ Some u) × Holds k p u
    go s h None e y = cc
    go s h (Some w) e y =
        let u : State = (h.0.0 ++ w, h.0.1) in
        let q : boxed.value.outer.items ++ w ≡ p = cc y in
        (u, ap (run ends) h.1 ∙ ap (λ t. adds_text t h.0) e, subst (λ l. Holds k l u) q (appended k boxed.value.outer.items h.0 w h.2))

no_end_of_bag : (boxed : Box BagFrame Global) (k : List Frame) (o : List ℕ) → 0 < boxed.value.due → (s : State) → Holds (Bag boxed ∷ k) o s → run ends s ≡ None
no_end_of_bag boxed k o n s h = ap (run ends) (subst (λ j. IsInBag (λ l t. Holds k l t) (with_due j boxed.value) o s) one h).1
  where
    one : boxed.value.due ≡ suc (boxed.value.due - 1)
    one = omega arith

-- whatever encloses it
pub bag_ends : (f : Frame) (boxed : Box BagFrame Global) (o p : List ℕ) (r : Result (Unit {0}) EncodeError) → f ≡ Bag boxed →
    MatchResult r (λ _. BagEnds boxed.value o p) (NoEnd boxed.value.due) → MatchResult r (λ _. (k : List Frame) → Does ends (f ∷ k) o k p) (λ e. (k : List Frame) → Cannot ends (f ∷ k) o e)
bag_ends f boxed o p (Ok u) x m = λ k. subst (λ g. Does ends (g ∷ k) o k p) (sym x) (does_end_bag boxed k o p m)
bag_ends f boxed o p (Err e) x m = λ k. subst (λ g. Cannot ends (g ∷ k) o e) (sym x) (cannot ends (Bag boxed ∷ k) o e m.0 (λ n. no_end_of_bag boxed k o (m.1 n)))

-- an element is open
pub ends_with_open : (b : BagFrame) (o p q w : List ℕ) (ms : List (List ℕ)) → b.due ≡ 0 → b.members ≡ Some ms → w ≡ o → q ≡ b.outer.items → Adds (bag_text (ms ++ w ∷ [])) q p → BagEnds b o p
ends_with_open b o p q w ms n e f g x =
    (n, subst (λ l. Adds (bag_text l) b.outer.items p) (ap (λ l. ms ++ l ∷ []) f ∙ ap (λ m. with_open m o) (sym e)) (subst (λ l. Adds (bag_text (ms ++ w ∷ [])) l p) g x))

-- no elements were due
pub ends_without : (b : BagFrame) (o p : List ℕ) → b.due ≡ 0 → b.members ≡ None → p ≡ b.outer.items → BagEnds b o p
ends_without b o p n e g =
    (n, subst (λ l. Adds (bag_text l) b.outer.items p) (ap (λ m. with_open m o) (sym e)) (subst (λ l. Adds (bag_text []) b.outer.items l) (sym g) (adds_none b.outer.items)))

-- A normal form is its own normal form, and has nothing left to leave out.
use Rattle.std.specs.Prelude.{List, cond}
use Rattle.std.proofs.Common.{◌≡◌, ℕ, zero, suc, Bool, true, false, not, ◌&&◌, ◌||◌, refl, ap, sym, ◌∙◌, subst}
use Rattle.asn1_model.specs.Value.{Value, members, bag, fields, chosen, Values, no_more, member, Parts, end, absent, present, map_members}
use Rattle.asn1_model.specs.Schema.{Tag, Presence, Schema, sequence_of, set_of, sequence, set, group, choice, Components, no_component, component, Alternatives, no_alternative, alternative}
use Rattle.asn1_model.specs.Normal.{normal, normal_parts, normal_alternative, is_empty_group, is_at_default, is_group_left_out, is_default_by}
use Rattle.asn1_model.specs.Value.{are_all}
use Rattle.asn1_model.specs.Tidy.{is_normal, are_normal, is_normal_alternative}

map_again : (f : Value → Value) → ((v : Value) → f (f v) ≡ f v) → (vs : Values) → map_members f (map_members f vs) ≡ map_members f vs
map_again f h no_more = refl
map_again f h (member v vs) = let a = h v in let b = map_again f h vs in cc

-- whether a part is left out
abbrev left_out : Presence → Schema → Value → Bool
left_out o s w = is_default_by (λ d. normal s d) o w || is_empty_group s w

-- what is kept once is kept again
kept_again : (ts : List Tag) (o : Presence) (s : Schema) (cs : Components) (w : Value) (qs : Parts) (b : Bool) → left_out o s w
    ≡ b → normal s w ≡ w → normal_parts cs qs ≡ qs → normal_parts (component ts o s cs) (cond b (absent qs) (present w qs)) ≡ cond b (absent qs) (present w qs)
unfolding normal_parts
kept_again ts o s cs w qs true e h k = ap absent k
kept_again ts o s cs w qs false e h k =
    ap (λ x. (cond (left_out o s x) (absent (normal_parts cs qs)) (present x (normal_parts cs qs)))) h
    ∙ ap (λ l. (cond (left_out o s w) (absent l) (present w l))) k ∙ ap (λ b. (cond b (absent qs) (present w qs))) e

mutual
  unfolding normal normal_parts normal_alternative

  pub normal_again : (s : Schema) (v : Value) → normal s (normal s v) ≡ normal s v
  normal_again (sequence_of z h s) (members vs) = ap members (map_again (λ v. normal s v) (λ v. normal_again s v) vs)
  normal_again (set_of z h s) (bag vs) = ap bag (map_again (λ v. normal s v) (λ v. normal_again s v) vs)
  normal_again (sequence cs e adds) (fields ps qs) = let a = parts_again cs ps in let b = parts_again adds qs in cc
  normal_again (set cs e adds) (fields ps qs) = let a = parts_again cs ps in let b = parts_again adds qs in cc
  normal_again (group cs) (fields ps qs) = ap (λ ps. fields ps qs) (parts_again cs ps)
  normal_again (choice roots e adds) (chosen false i v) = ap (chosen false i) (alternative_again roots i v)
  normal_again (choice roots e adds) (chosen true i v) = ap (chosen true i) (alternative_again adds i v)
  normal_again s v = refl

  parts_again : (cs : Components) (ps : Parts) → normal_parts cs (normal_parts cs ps) ≡ normal_parts cs ps
  parts_again (component t o s cs) (present v ps) = kept_again t o s cs (normal s v) (normal_parts cs ps) (left_out o s (normal s v)) refl (normal_again s v) (parts_again cs ps)
  parts_again (component t o s cs) (absent ps) = ap absent (parts_again cs ps)
  parts_again (component t o s cs) end = refl
  parts_again no_component ps = refl

  alternative_again : (others : Alternatives) (i : ℕ) (v : Value) → normal_alternative others i (normal_alternative others i v) ≡ normal_alternative others i v
  alternative_again (alternative t s others) zero v = normal_again s v
  alternative_again (alternative t s others) (suc i) v = alternative_again others i v
  alternative_again no_alternative i v = refl

-- ---- and nothing is left to leave out
all_normal : (f : Value → Value) (test : Value → Bool) → ((v : Value) → test (f v) ≡ true) → (vs : Values) → are_all test (map_members f vs) ≡ true
all_normal f test h no_more = refl
all_normal f test h (member v vs) = ap (λ b. b && are_all test (map_members f vs)) (h v) ∙ all_normal f test h vs

not_either : (a b : Bool) → (a || b) ≡ false → (a ≡ false) × (b ≡ false)
not_either true b e = cc
not_either false b e = (refl, e)

four : (a b c d : Bool) → a ≡ false → b ≡ false → c ≡ true → d ≡ true → (not a && not b && c && d) ≡ true
four a b c d h i j k = rw (h, i, j, k) refl

kept_normal : (ts : List Tag) (o : Presence) (s : Schema) (cs : Components) (w : Value) (qs : Parts) (b : Bool) → left_out o s w
    ≡ b → normal s w ≡ w → is_normal s w ≡ true → are_normal cs qs ≡ true → are_normal (component ts o s cs) (cond b (absent qs) (present w qs)) ≡ true
unfolding are_normal
kept_normal ts o s cs w qs true e h i k = k
kept_normal ts o s cs w qs false e h i k =
    let n = not_either (is_default_by (λ d. normal s d) o w) (is_empty_group s w) e in
    four (is_at_default o s w) (is_group_left_out s w) (is_normal s w) (are_normal cs qs) (ap (λ x. is_default_by (λ d. normal s d) o x) h ∙ n.0) (ap (λ x. is_empty_group s x) h ∙ n.1) i k

both_true : (a b : Bool) → a ≡ true → b ≡ true → (a && b) ≡ true
both_true a b h k = rw (h, k) refl

mutual
  unfolding normal normal_parts normal_alternative is_normal are_normal is_normal_alternative

  pub normal_normal : (s : Schema) (v : Value) → is_normal s (normal s v) ≡ true
  normal_normal (sequence_of z h s) (members vs) = all_normal (λ v. normal s v) (λ v. is_normal s v) (λ v. normal_normal s v) vs
  normal_normal (sequence_of z h s) v = refl
  normal_normal (set_of z h s) (bag vs) = all_normal (λ v. normal s v) (λ v. is_normal s v) (λ v. normal_normal s v) vs
  normal_normal (set_of z h s) v = refl
  normal_normal (sequence cs e adds) (fields ps qs) = both_true _ _ (parts_normal cs ps) (parts_normal adds qs)
  normal_normal (sequence cs e adds) v = refl
  normal_normal (set cs e adds) (fields ps qs) = both_true _ _ (parts_normal cs ps) (parts_normal adds qs)
  normal_normal (set cs e adds) v = refl
  normal_normal (group cs) (fields ps qs) = parts_normal cs ps
  normal_normal (group cs) v = refl
  normal_normal (choice roots e adds) (chosen false i v) = alternative_normal roots i v
  normal_normal (choice roots e adds) (chosen true i v) = alternative_normal adds i v
  normal_normal (choice roots e adds) v = refl
  normal_normal s v = refl

  parts_normal : (cs : Components) (ps : Parts) → are_normal cs (normal_parts cs ps) ≡ true
  parts_normal (component t o s cs) (present v ps) = kept_normal t o s cs (normal s v) (normal_parts cs ps) (left_out o s (normal s v)) refl (normal_again s v) (normal_normal s v) (parts_normal cs ps)
  parts_normal (component t o s cs) (absent ps) = parts_normal cs ps
  parts_normal (component t o s cs) end = refl
  parts_normal no_component ps = refl

  alternative_normal : (others : Alternatives) (i : ℕ) (v : Value) → is_normal_alternative others i (normal_alternative others i v) ≡ true
  alternative_normal (alternative t s others) zero v = normal_normal s v
  alternative_normal (alternative t s others) (suc i) v = alternative_normal others i v
  alternative_normal no_alternative i v = refl

-- a value that is its own normal form passes the test, and one that is not does not
pub tells_normal : (s : Schema) (v : Value) → normal s v ≡ v → is_normal s v ≡ true
tells_normal s v e = subst (λ w. is_normal s w ≡ true) e (normal_normal s v)

pub not_normal : (s : Schema) (v : Value) → is_normal s v ≡ false → ¬ (normal s v ≡ v)
not_normal s v f e = let q : false ≡ true = sym f ∙ tells_normal s v e in cc

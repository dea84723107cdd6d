-- Unfoldings of recursive types agree.
use Rattle.std.proofs.Common.{◌≡◌, ℕ, zero, suc, ◌≤◌, true, refl, inl, inr, arith}
use Rattle.std.proofs.lemmas.Bool.{and_from}
use Rattle.asn1_model.specs.Schema.{Schema, null, sequence_of, set_of, sequence, set, group, choice, Components, no_component, component, Alternatives, no_alternative, alternative}
use Rattle.asn1_laws_values.specs.Unfolding.{is_constructed, AgreesTo, AgreesEach, AgreesAlternatives, AreRecursive}
use Rattle.asn1_laws_values.specs.Unfolding.{unfolded, nest_step, default_step, TreeName, tree, branches, tree_step}
use Rattle.asn1_laws_values.specs.Unfolding.{MutualName, first, second, holder, mutual_step}

unfolded_nests : {K : Type 0} (step : K → (K → Schema) → Schema) (i : ℕ) (k : K) → AreRecursive step → is_constructed (unfolded step i k) ≡ true
unfolded_nests step zero k h = refl
unfolded_nests step (suc i) k h = h.nests k (λ l. unfolded step i l)

pub unfoldings_agree : {K : Type 0} (step : K → (K → Schema) → Schema) (n i j : ℕ) → AreRecursive step → n ≤ i → n ≤ j → (k : K) → AgreesTo n (unfolded step i k) (unfolded step j k)
unfolding AgreesTo
unfoldings_agree step zero i j h a b k = inl (and_from _ _ (unfolded_nests step i k h) (unfolded_nests step j k h))
unfoldings_agree step (suc n) zero j h a b k = absurd (omega arith)
unfoldings_agree step (suc n) (suc i) zero h a b k = absurd (omega arith)
unfoldings_agree step (suc n) (suc i) (suc j) h a b k = h.keeps n (λ l. unfolded step i l) (λ l. unfolded step j l) (λ l. unfoldings_agree step n i j h (omega arith) (omega arith) l) k

-- ---- types that agree for one level more agree
mutual
  unfolding AgreesTo AgreesEach AgreesAlternatives

  fewer : (n : ℕ) (s s' : Schema) → AgreesTo (suc n) s s' → AgreesTo n s s'
  fewer zero (sequence_of z c s) (sequence_of z' c' s') h = inl refl
  fewer zero (set_of z c s) (set_of z' c' s') h = inl refl
  fewer zero (sequence cs e adds) (sequence cs' e' adds') h = inl refl
  fewer zero (set cs e adds) (set cs' e' adds') h = inl refl
  fewer zero (group cs) (group cs') h = inl refl
  fewer zero (choice roots e adds) (choice roots' e' adds') h = inl refl
  fewer zero s s' h = inr h
  fewer (suc n) (sequence_of z c s) (sequence_of z' c' s') h = (h.0, h.1, fewer n s s' h.2)
  fewer (suc n) (set_of z c s) (set_of z' c' s') h = (h.0, h.1, fewer n s s' h.2)
  fewer (suc n) (sequence cs e adds) (sequence cs' e' adds') h = (fewer_each n cs cs' h.0, h.1, fewer_each n adds adds' h.2)
  fewer (suc n) (set cs e adds) (set cs' e' adds') h = (fewer_each n cs cs' h.0, h.1, fewer_each n adds adds' h.2)
  fewer (suc n) (group cs) (group cs') h = fewer_each n cs cs' h
  fewer (suc n) (choice roots e adds) (choice roots' e' adds') h = (fewer_alternatives n roots roots' h.0, h.1, fewer_alternatives n adds adds' h.2)
  fewer (suc n) s s' h = h

  fewer_each : (n : ℕ) (cs cs' : Components) → AgreesEach (suc n) cs cs' → AgreesEach n cs cs'
  fewer_each n no_component no_component h = tt
  fewer_each n no_component (component t' o' s' cs') h = absurd h
  fewer_each n (component t o s cs) no_component h = absurd h
  fewer_each n (component t o s cs) (component t' o' s' cs') h = (h.0, h.1, fewer n s s' h.2, fewer_each n cs cs' h.3)

  fewer_alternatives : (n : ℕ) (os os' : Alternatives) → AgreesAlternatives (suc n) os os' → AgreesAlternatives n os os'
  fewer_alternatives n no_alternative no_alternative h = tt
  fewer_alternatives n no_alternative (alternative t' s' os') h = absurd h
  fewer_alternatives n (alternative t s os) no_alternative h = absurd h
  fewer_alternatives n (alternative t s os) (alternative t' s' os') h = (h.0, fewer n s s' h.1, fewer_alternatives n os os' h.2)

-- ---- a type agrees with itself
mutual
  unfolding AgreesTo AgreesEach AgreesAlternatives

  pub agrees_with_itself : (n : ℕ) (s : Schema) → AgreesTo n s s
  agrees_with_itself zero s = inr refl
  agrees_with_itself (suc n) (sequence_of z c s) = (refl, refl, agrees_with_itself n s)
  agrees_with_itself (suc n) (set_of z c s) = (refl, refl, agrees_with_itself n s)
  agrees_with_itself (suc n) (sequence cs e adds) = (each_agrees_with_itself n cs, refl, each_agrees_with_itself n adds)
  agrees_with_itself (suc n) (set cs e adds) = (each_agrees_with_itself n cs, refl, each_agrees_with_itself n adds)
  agrees_with_itself (suc n) (group cs) = each_agrees_with_itself n cs
  agrees_with_itself (suc n) (choice roots e adds) = (alternatives_agree_with_themselves n roots, refl, alternatives_agree_with_themselves n adds)
  agrees_with_itself (suc n) s = refl

  each_agrees_with_itself : (n : ℕ) (cs : Components) → AgreesEach n cs cs
  each_agrees_with_itself n no_component = tt
  each_agrees_with_itself n (component t o s cs) = (refl, refl, agrees_with_itself n s, each_agrees_with_itself n cs)

  alternatives_agree_with_themselves : (n : ℕ) (os : Alternatives) → AgreesAlternatives n os os
  alternatives_agree_with_themselves n no_alternative = tt
  alternatives_agree_with_themselves n (alternative t s os) = (refl, agrees_with_itself n s, alternatives_agree_with_themselves n os)

null_agrees : (n : ℕ) → AgreesTo n null null
unfolding AgreesTo
null_agrees zero = inr refl
null_agrees (suc n) = refl

nest_keeps : (n : ℕ) (f g : Unit {0} → Schema) → ((k : Unit {0}) → AgreesTo n (f k) (g k)) → (k : Unit {0}) → AgreesTo (suc n) (nest_step k f) (nest_step k g)
unfolding AgreesTo AgreesAlternatives
nest_keeps n f g h k = ((refl, null_agrees n, (refl, h tt, tt)), refl, tt)

default_keeps : (n : ℕ) (f g : Unit {0} → Schema) → ((k : Unit {0}) → AgreesTo n (f k) (g k)) → (k : Unit {0}) → AgreesTo (suc n) (default_step k f) (default_step k g)
unfolding AgreesTo AgreesEach
default_keeps zero f g h k = ((refl, refl, h tt, (refl, refl, inl refl, tt)), refl, tt)
default_keeps (suc n) f g h k = ((refl, refl, h tt, (refl, refl, (refl, refl, fewer n (f tt) (g tt) (h tt)), tt)), refl, tt)

tree_nests : (k : TreeName) (f : TreeName → Schema) → is_constructed (tree_step k f) ≡ true
tree_nests tree f = refl
tree_nests branches f = refl

tree_keeps : (n : ℕ) (f g : TreeName → Schema) → ((k : TreeName) → AgreesTo n (f k) (g k)) → (k : TreeName) → AgreesTo (suc n) (tree_step k f) (tree_step k g)
unfolding AgreesTo AgreesEach
tree_keeps n f g h tree = ((refl, refl, h branches, tt), refl, tt)
tree_keeps n f g h branches = (refl, refl, h tree)

mutual_nests : (k : MutualName) (f : MutualName → Schema) → is_constructed (mutual_step k f) ≡ true
mutual_nests first f = refl
mutual_nests second f = refl
mutual_nests holder f = refl

mutual_keeps : (n : ℕ) (f g : MutualName → Schema) → ((k : MutualName) → AgreesTo n (f k) (g k)) → (k : MutualName) → AgreesTo (suc n) (mutual_step k f) (mutual_step k g)
unfolding AgreesTo AgreesEach AgreesAlternatives
mutual_keeps n f g h first = ((refl, refl, h second, tt), refl, tt)
mutual_keeps n f g h second = ((refl, null_agrees n, (refl, h first, tt)), refl, tt)
mutual_keeps n f g h holder = ((refl, refl, h first, tt), refl, tt)

pub recursive_rows : AreRecursive nest_step × AreRecursive default_step × AreRecursive tree_step × AreRecursive mutual_step
recursive_rows = (
  record { nests = λ k f. refl; keeps = nest_keeps },
  record { nests = λ k f. refl; keeps = default_keeps },
  record { nests = tree_nests; keeps = tree_keeps },
  record { nests = mutual_nests; keeps = mutual_keeps },
)

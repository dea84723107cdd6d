-- What a command line requests, from the result of a parse.
use Rattle.std.proofs.Common.{◌≡◌, ◌∙◌, ◌⊎◌, ◌<◌, ◌≤◌, inl, inr, arith, subst, ℕ, Bool, not, true, false, List, [], ◌∷◌}
use Rattle.std.proofs.Common.{Option, Some, None, option_map, option_and_then, refl, sym, ap, ap₂, codes, if◌then◌else◌}
use Rattle.std.proofs.Common.{◌++◌, ◌+◌, zero, suc, length, slice_index_or, add-one, append_assoc, drop}
use Rattle.std.specs.Borrow.{Bor}
use Rattle.clap.specs.Walk.{texts}
use Rattle.std.proofs.lemmas.List.{append-nil}
use Rattle.std.specs.Prelude.{Ok, Err, Result}
use Rattle.std.specs.Str.Parse.{ParsesUnsigned, digits_value, without_leading_plus}
use Rattle.clap.specs.Words.{App, Text, Kinds, first_of, first_value, rows_of, HasKind, HasMatchesOf, IsAmong, fault_of, is_simple, is_simple_and_free, kind_of, subcommand_of, subcommand_rows_of}
use Rattle.clap.specs.declared.error.Error.{Error}
use Rattle.clap.specs.declared.error.kind.ErrorKind.TheVariants.{OutOfMemory}
use Rattle.clap.specs.declared.error.kind.ErrorKind.{ErrorKind}
use Rattle.clap.specs.declared.parser.matches.ArgMatches.{ArgMatches}
use Rattle.clap.specs.declared.parser.matches.Found.{Found}
use Rattle.clap.specs.Words.{app_of, one_text}
use Rattle.clap.specs.Simple.{has_plain_fields}
use Rattle.clap.specs.Matches.{ReadsOne}
use Rattle.clap.specs.Values.{Accepts}
use Rattle.clap.specs.ValueTests.{is_unsigned_in}
use Rattle.clap.specs.declared.builder.value_parser.ValueParser.TheVariants as vp
use Rattle.clap.proofs.ValueTestLemmas.{Accepts-accepts, accepts-Accepts}
use Rattle.clap.specs.declared.builder.command.Command.{Command}
use Rattle.clap.specs.declared.builder.command.Command.TheViews.{out-Command}
use Rattle.clap.proofs.WalkLemmas.{both, first_value-rows, one_text-rows, raw_values-rows}
use Rattle.clap.specs.Matches.{matched_of, raw_values}
use Rattle.clap.proofs.OnLiterals.{clap_on_literals}
use Rattle.asn1_relay_command.specs.Orders.{limit_by_text, limit_in_rows, once_in_rows, asked_by, task_in_command}
use Rattle.asn1_relay_command.specs.Orders.{program_app, stream_in_rows, translation_by_names, translation_in_rows}
use Rattle.asn1_relay_command.specs.Orders.{unless_fault, Task, once, stream, route_by_names, route_in_rows}
use Rattle.asn1_relay_command.specs.Orders.{hop_by_name, hops_by_names, hops_in_rows}
use Rattle.asn1_relay_core.specs.declared.hop.Hop.{Hop}
use Rattle.asn1_relay_command.specs.declared.order.Translation.{Translation}

simple : is_simple program_app ≡ true
unfolding clap_on_literals
simple = refl

simple_and_free : is_simple_and_free program_app ≡ true
unfolding clap_on_literals
simple_and_free = refl

refused_by : (k : ErrorKind) (faults : Kinds) (task : Option Task) → IsAmong k faults → unless_fault faults task ≡ None
refused_by k [] task among = absurd among
refused_by k (fault ∷ faults) task among = refl

nothing_asked : (faults : Kinds) → unless_fault faults None ≡ None
nothing_asked [] = refl
nothing_asked (fault ∷ faults) = refl

-- an error other than out of memory shows that the words request nothing
pub bad_words : (a : App) (words : List Text) (e : Error) → a ≡ program_app → (is_simple_and_free a ≡ true → HasKind (fault_of a words) e) → (asked_by words ≡ None) ⊎ (kind_of e ≡ OutOfMemory)
unfolding asked_by
bad_words a words e same kinds =
    elim (kinds (ap is_simple_and_free same ∙ simple_and_free)) [
      | inl memory ↦ inr memory
      | inr among ↦ inl (ap (λ (b : App). unless_fault (fault_of b words) (task_in_command (subcommand_of program_app words))) (sym same) ∙ refused_by _ (fault_of a words) _ among)
    ]

-- matches determine what the words request
pub words_ask : (a : App) (words : List Text) (m : ArgMatches) (task : Option Task) → a ≡ program_app → HasMatchesOf a words m →
    (is_simple_and_free a ≡ true → fault_of a words ≡ []) → task ≡ task_in_command (subcommand_rows_of m) → asked_by words ≡ task
unfolding asked_by
words_ask a words m task same matches kinds asked =
    let faultless : fault_of program_app words ≡ [] = ap (λ (b : App). fault_of b words) (sym same) ∙ kinds (ap is_simple_and_free same ∙ simple_and_free) in
    let entered : subcommand_rows_of m ≡ subcommand_of program_app words = (matches (ap is_simple same ∙ simple)).1 ∙ ap (λ (b : App). subcommand_of b words) same in
    ap₂ unless_fault faultless (ap task_in_command (sym entered)) ∙ sym asked

-- what the options request, by the rows of what was found
pub translation_rows : (f : Found) → translation_by_names (first_value f (codes "from")) (first_value f (codes "to")) (first_value f (codes "type")) ≡ translation_in_rows (rows_of f)
translation_rows f =
    let asked : Option Text → Option Text → Option Text → Option Translation = translation_by_names in
    ap (λ t. asked t (first_value f (codes "to")) (first_value f (codes "type"))) (first_value-rows f (codes "from"))
    ∙ ap (λ t. asked (first_of (codes "from") (rows_of f)) t (first_value f (codes "type"))) (first_value-rows f (codes "to"))
    ∙ ap (λ t. asked (first_of (codes "from") (rows_of f)) (first_of (codes "to") (rows_of f)) t) (first_value-rows f (codes "type"))

pub limit_rows : (f : Found) → option_and_then limit_by_text (one_text f (codes "limit")) ≡ limit_in_rows (rows_of f)
limit_rows f = ap (option_and_then limit_by_text) (one_text-rows f (codes "limit"))

pub once_rows : (f : Found) (t : Option Translation) → t ≡ translation_by_names (first_value f (codes "from")) (first_value f (codes "to"))
    (first_value f (codes "type")) → option_map once t ≡ once_in_rows (rows_of f)
once_rows f t e = ap (option_map once) (e ∙ translation_rows f)

with_limit : Option Translation → Option ℕ → Option Task
with_limit t n = option_and_then (λ x. option_map (stream x) n) t

pub stream_rows : (f : Found) (t : Option Translation) (n : Option ℕ) → t ≡ translation_by_names (first_value f (codes "from")) (first_value f (codes "to")) (first_value f (codes "type"))
    → n ≡ option_and_then limit_by_text (one_text f (codes "limit")) → option_and_then (λ x. option_map (stream x) n) t ≡ stream_in_rows (rows_of f)
unfolding with_limit
stream_rows f t n e k = ap₂ with_limit (e ∙ translation_rows f) (k ∙ limit_rows f)

pub hops_rows : (f : Found) (names : Option (List Text)) → names ≡ option_map raw_values (matched_of f (codes "hop")) → option_and_then hops_by_names names ≡ hops_in_rows (rows_of f)
hops_rows f names e = ap (option_and_then hops_by_names) (e ∙ raw_values-rows f (codes "hop"))

pub route_rows : (f : Found) (hops : Option (List Hop)) → hops ≡ hops_in_rows (rows_of f)
    → route_by_names (first_value f (codes "from")) (first_value f (codes "pair")) hops ≡ route_in_rows (rows_of f)
route_rows f hops e =
    ap (λ t. route_by_names t (first_value f (codes "pair")) hops) (first_value-rows f (codes "from"))
    ∙ ap (λ t. route_by_names (first_of (codes "from") (rows_of f)) t hops) (first_value-rows f (codes "pair"))
    ∙ ap (route_by_names (first_of (codes "from") (rows_of f)) (first_of (codes "pair") (rows_of f))) e

-- ---- hops

-- the hops of the names so far, and of those that are left
pub followed_by : List Hop → Option (List Hop) → Option (List Hop)
followed_by done left = option_map (λ hs. done ++ hs) left

pub hops_start : (names : List Text) (done : List Hop) → done ≡ [] → hops_by_names names ≡ followed_by done (hops_by_names names)
unfolding followed_by
hops_start names done e = go (hops_by_names names) ∙ ap (λ l. option_map (λ hs. l ++ hs) (hops_by_names names)) (sym e)
  where
    go : (o : Option (List Hop)) → o ≡ option_map (λ hs. [] ++ hs) o
    go None = refl
    go (Some hs) = refl

one_then : List Hop → Option Hop → Option (List Hop) → Option (List Hop)
one_then done h left = followed_by done (option_and_then (λ x. option_map (λ hs. x ∷ hs) left) h)

then_more : (done : List Hop) (h : Hop) (left : Option (List Hop)) → one_then done (Some h) left ≡ followed_by (done ++ h ∷ []) left
unfolding one_then followed_by
then_more done h None = refl
then_more done h (Some hs) = ap some_hops (sym (append_assoc done (h ∷ []) hs))
  where
    some_hops : List Hop → Option (List Hop)
    some_hops l = Some l

texts_left : (names : List (Bor Text)) (i : ℕ) (d : Bor Text) → i < length names → drop i (texts names) ≡ (slice_index_or names i d).now ∷ drop (suc i) (texts names)
texts_left [] i d h = absurd (omega (arith, h))
texts_left (name ∷ names) zero d h = refl
texts_left (name ∷ names) (suc i) d h = texts_left names i d (omega (arith, h))

texts_end : (names : List (Bor Text)) (i : ℕ) → length names ≤ i → drop i (texts names) ≡ []
texts_end [] zero h = refl
texts_end [] (suc i) h = refl
texts_end (name ∷ names) zero h = absurd (omega (arith, h))
texts_end (name ∷ names) (suc i) h = texts_end names i (omega (arith, h))

module _ (names : List (Bor Text)) (i : ℕ) (done : List Hop) (whole : hops_by_names (texts names) ≡ followed_by done (hops_by_names (drop i (texts names)))) where
  module _ (d : Bor Text) (within : i < length names) where
    met : hops_by_names (texts names) ≡ one_then done (hop_by_name (slice_index_or names i d).now) (hops_by_names (drop (suc i) (texts names)))
    unfolding one_then
    met = whole ∙ ap (λ l. followed_by done (hops_by_names l)) (texts_left names i d within)

    met_as : (o : Option Hop) → o ≡ hop_by_name (slice_index_or names i d).now → hops_by_names (texts names) ≡ one_then done o (hops_by_names (drop (suc i) (texts names)))
    met_as o e = met ∙ ap (λ x. one_then done x (hops_by_names (drop (suc i) (texts names)))) (sym e)

    pub one_more_hop : (h : Hop) (longer : List Hop) → Some h ≡ hop_by_name (slice_index_or names i d).now → longer ≡ done ++ h ∷ []
        → hops_by_names (texts names) ≡ followed_by longer (hops_by_names (drop (i + 1) (texts names)))
    one_more_hop h longer e l =
        met_as (Some h) e ∙ then_more done h (hops_by_names (drop (suc i) (texts names)))
        ∙ ap₂ (λ x k. followed_by x (hops_by_names (drop k (texts names)))) (sym l) (sym (add-one i))

    pub no_hop : None ≡ hop_by_name (slice_index_or names i d).now → None ≡ hops_by_names (texts names)
    unfolding one_then followed_by
    no_hop e = sym (met_as None e)

  pub all_hops : length names ≤ i → Some done ≡ hops_by_names (texts names)
  unfolding followed_by
  all_hops h = sym (whole ∙ ap (λ l. followed_by done (hops_by_names l)) (texts_end names i h) ∙ ap some_hops (append-nil done))
    where
      some_hops : List Hop → Option (List Hop)
      some_hops l = Some l

-- a command like these has no option that holds for others
pub local_of : (c : Command) (a : App) → app_of c ≡ a → a.top.is_plain ≡ true → (out-Command c).has_globals ≡ false
local_of c a e p =
    let plain : has_plain_fields (out-Command c) ≡ true = ap (λ (x : App). x.top.is_plain) e ∙ p in
    none (out-Command c).has_globals (both _ _ (both _ _ (both _ _ plain).1).1).0
  where
    none : (b : Bool) → not b ≡ true → b ≡ false
    none true h = cc
    none false h = refl

-- ---- the limit

limit_when : Text → Bool → Option ℕ
limit_when t b = if b then Some (digits_value 10 (without_leading_plus t)) else None

module _ {E : Type 0} (G : Text → Result ℕ E → Type 0) (reads : (u : Text) (x : Result ℕ E) → G u x → ParsesUnsigned 32 10 u x) where
  no_limit : (t : Text) (b : Bool) → is_unsigned_in 1 4294967295 t ≡ b → ReadsOne G t None → None ≡ limit_when t b
  unfolding limit_when
  no_limit t false e h = refl
  no_limit t true e h =
      let a = accepts-Accepts false (vp.Unsigned 1 4294967295) t e in
      let most = a.3 in
      absurd (reads t (Err h.0) h.1 (a.0, omega arith))

  zero_limit : (t : Text) (n : ℕ) (b : Bool) → n < 1 → is_unsigned_in 1 4294967295 t ≡ b → ReadsOne G t (Some n) → None ≡ limit_when t b
  unfolding limit_when
  zero_limit t n false z e h = refl
  zero_limit t n true z e h =
      let a = accepts-Accepts false (vp.Unsigned 1 4294967295) t e in
      let least = a.2 in
      let is = (reads t (Ok n) h).1 in
      absurd (omega arith)

  some_limit : (t : Text) (n : ℕ) → 1 ≤ n → ReadsOne G t (Some n) → Some n ≡ limit_when t (is_unsigned_in 1 4294967295 t)
  unfolding limit_when
  some_limit t n z h =
      let p = reads t (Ok n) h in
      let numeral = p.0.0 in
      let small = p.0.1 in
      let is : n ≡ digits_value 10 (without_leading_plus t) = p.1 in
      let within : Accepts false (vp.Unsigned 1 4294967295) t = (numeral, omega arith, omega arith, omega arith) in
      let all = Accepts-accepts false (vp.Unsigned 1 4294967295) t within in
      let some : ℕ → Option ℕ = λ i. Some i in
      ap some is ∙ ap (limit_when t) (sym all)

  module _ (o : Option Text) (r : Option ℕ) (none : o ≡ None → r ≡ None) (value : (t : Text) → o ≡ Some t → ReadsOne G t r) where
    pub limit_missing : r ≡ None → None ≡ option_and_then limit_by_text o
    unfolding limit_when
    limit_missing e = go o refl
      where
        go : (p : Option Text) → o ≡ p → None ≡ option_and_then limit_by_text p
        go None i = refl
        go (Some t) i = no_limit t (is_unsigned_in 1 4294967295 t) refl (subst (ReadsOne G t) e (value t i))

    pub limit_too_small : (n : ℕ) → n < 1 → r ≡ Some n → None ≡ option_and_then limit_by_text o
    unfolding limit_when
    limit_too_small n z e = go o refl
      where
        go : (p : Option Text) → o ≡ p → None ≡ option_and_then limit_by_text p
        go None i = refl
        go (Some t) i = zero_limit t n (is_unsigned_in 1 4294967295 t) z refl (subst (ReadsOne G t) e (value t i))

    pub limit_given : (n : ℕ) → 1 ≤ n → r ≡ Some n → Some n ≡ option_and_then limit_by_text o
    unfolding limit_when
    limit_given n z e = go o refl
      where
        go : (p : Option Text) → o ≡ p → Some n ≡ option_and_then limit_by_text p
        go None i = let bad = none i in cc
        go (Some t) i = some_limit t n z (subst (ReadsOne G t) e (value t i))

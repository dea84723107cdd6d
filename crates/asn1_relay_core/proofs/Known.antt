-- What is known of readers and writers after some calls.
use Rattle.std.proofs.Common.{◌≡◌, ℕ, ◌+◌, ◌-◌, ◌<◌, ◌≤◌, List, [], length, take, drop, Option, Some, None, sym, ap, ◌∙◌, subst, arith, length-drop}
use Rattle.std.proofs.Math.Seq.{take-add, take-length}
use Rattle.std.proofs.lemmas.List.{append-nil, take-append-drop}
use Rattle.std.specs.Io.KnownBytes.{Appends, Consumes, IsAtEnd, Keeps}
use Rattle.std.proofs.KnownBytes.{Appends-trans, Consumes-trans}
use Rattle.asn1_relay_core.specs.Ends.{BeginsToAppend, Gives}

pub kept_read : (a b : Option (List ℕ)) → Keeps a b → Consumes a b []
kept_read None b h = tt
kept_read (Some x) None h = absurd h
kept_read (Some x) (Some y) h = sym h

pub kept_added : (a b : Option (List ℕ)) → Keeps a b → Appends a b []
kept_added None b h = tt
kept_added (Some x) None h = absurd h
kept_added (Some x) (Some y) h = h ∙ sym (append-nil x)

-- a call that reads, after calls that read nothing
pub gives_then : (a b c : Option (List ℕ)) (room : List ℕ) (n : ℕ) → Keeps a b → n ≤ length room → Consumes b c (take n room) → (n ≡ 0 → 0 < length room → IsAtEnd c) → Gives a c room n
gives_then a b c room n h bound read end = record { bound = bound; octets = Consumes-trans a b c [] (take n room) (kept_read a b h) read; end = end }

-- octets from a position to the end are those after that position
behind : (os : List ℕ) (n : ℕ) → take (length os - n) (drop n os) ≡ drop n os
behind os n = ap (λ k. take k (drop n os)) (sym (length-drop n os)) ∙ take-length (drop n os)

-- of no octets, all are written from the start
pub none_left : (os : List ℕ) (n : ℕ) → os ≡ [] → n ≤ length os → n ≡ length os
none_left os n e h = let k : length os ≡ 0 = ap length e in omega arith

-- the first n octets, and then some after them
pub more_written : (a b d : Option (List ℕ)) (os : List ℕ) (n m k : ℕ) → k ≡ n + m → Appends a b (take n os) → Appends b d (take m (take (length os - n) (drop n os))) → Appends a d (take k os)
more_written a b d os n m k e h j =
    let more : Appends b d (take m (drop n os)) = subst (λ x. Appends b d (take m x)) (behind os n) j in
    subst (λ i. Appends a d (take i os)) (sym e) (subst (Appends a d) (sym (take-add n m os)) (Appends-trans a b d (take n os) (take m (drop n os)) h more))

pub still_within : (os : List ℕ) (n m k : ℕ) → k ≡ n + m → n ≤ length os → m ≤ length (take (length os - n) (drop n os)) → k ≤ length os
still_within os n m k e h j = let l : m ≤ length (drop n os) = subst (λ x. m ≤ length x) (behind os n) j in omega (arith, length-drop n os)

-- the first octets are a prefix
pub begins_with : (a b : Option (List ℕ)) (os : List ℕ) (n : ℕ) → Appends a b (take n os) → BeginsToAppend a b os
begins_with a b os n h = (take n os, drop n os, take-append-drop n os, h)

-- also if a write then accepts none
pub begins_before : (a b c : Option (List ℕ)) (os room : List ℕ) (n z : ℕ) → z ≡ 0 → Appends a b (take n os) → Appends b c (take z room) → BeginsToAppend a c os
begins_before a b c os room n z e h k =
    let none : Appends b c [] = subst (λ i. Appends b c (take i room)) e k in
    begins_with a c os n (subst (Appends a c) (append-nil (take n os)) (Appends-trans a b c (take n os) [] h none))

use Rattle.std.proofs.Common.{◌≡◌, ◌∙◌, ◌+◌, ℕ, Bool, None, ap, sym, subst}
use Rattle.asn1_model.specs.Schema.{Counts, Size}
use Rattle.asn1_schema_constraints.specs.Bounds.{members_of}
use Rattle.asn1_schema_constraints.specs.Terms.{size_of}
use Rattle.asn1_schema_errors.specs.declared.DecodeError.TheVariants.{NotValidCanonicalEncoding, SizeConstraintNotSatisfied}
use Rattle.per_codec_laws.specs.Takes.{Tally, Front, NextDeterminant}
use Rattle.per_codec_reading.specs.Fronts.{freedoms, is_aligned}
use Rattle.per_codec_reading.specs.Lengths.{length_form}
use Rattle.per_codec_reading.specs.Units.{count_of}
use Rattle.per_codec_decoder.specs.Members.{NoDeterminant}
use Rattle.per_codec_decoder.proofs.Counting.{not_behind, last_determinant, other_last, not_accepted}
use Rattle.per_codec_decoder.proofs.members.Tally.behind.Goals as goal

abbrev told : Size → Counts → Bool → ℕ → ℕ → Tally
told z h out counted last = record { size = z; held = h; outside = out; counted = counted; last = last }

pub returns-then-not-may_follow-clause-only : goal.returns-then-not-may_follow-clause-only
returns-then-not-may_follow-clause-only c =
    let free = freedoms c.args.rules in
    let al = is_aligned c.args.rules in
    let s = c.self.inside in
    let t = told (size_of s.sizes) (members_of s.held) s.is_outside s.counted s.last in
    λ a b front.
    let none = not_behind free al t c.args.length a b NotValidCanonicalEncoding (sym c.if-not-may_follow.ensures) front in
    subst (λ (u : Tally). NoDeterminant al free u a NotValidCanonicalEncoding) c.self.view_is none

pub returns-then-not-is_admitted-clause-only : goal.returns-then-not-is_admitted-clause-only
returns-then-not-is_admitted-clause-only c =
    let free = freedoms c.args.rules in
    let al = is_aligned c.args.rules in
    let s = c.self.inside in
    let t = told (size_of s.sizes) (members_of s.held) s.is_outside s.counted s.last in
    let e : c.in-Some.counted ≡ s.counted + c.in-Short.field-0 = c.in-Some.ensures.1 ∙ ap (λ n. s.counted + n) (c.count-due.ensures.count ∙ ap (λ l. count_of l) c.in-Short.is) in
    λ a b front.
    let short = subst (λ l. Front free (length_form al l) a b) c.in-Short.is front in
    let none = other_last free al t a b c.in-Short.field-0 c.in-Some.counted SizeConstraintNotSatisfied e (sym c.if-not-is_admitted.ensures.members) short in
    subst (λ (u : Tally). NoDeterminant al free u a SizeConstraintNotSatisfied) c.self.view_is none

pub returns-then-not-is_accepted_outside-clause-only : goal.returns-then-not-is_accepted_outside-clause-only
returns-then-not-is_accepted_outside-clause-only c =
    let free = freedoms c.args.rules in
    let al = is_aligned c.args.rules in
    let s = c.self.inside in
    let t = told (size_of s.sizes) (members_of s.held) s.is_outside s.counted s.last in
    let e : c.in-Some.counted ≡ s.counted + c.in-Short.field-0 = c.in-Some.ensures.1 ∙ ap (λ n. s.counted + n) (c.count-due.ensures.count ∙ ap (λ l. count_of l) c.in-Short.is) in
    λ a b front.
    let short = subst (λ l. Front free (length_form al l) a b) c.in-Short.is front in
    let none = not_accepted free al t a b c.in-Short.field-0 c.in-Some.counted NotValidCanonicalEncoding e (sym c.if-not-is_accepted_outside.ensures) short in
    subst (λ (u : Tally). NoDeterminant al free u a NotValidCanonicalEncoding) c.self.view_is none

pub returns-else-not-is_accepted_outside-clause-ok : goal.returns-else-not-is_accepted_outside-clause-ok
returns-else-not-is_accepted_outside-clause-ok c =
    let free = freedoms c.args.rules in
    let al = is_aligned c.args.rules in
    let s = c.self.inside in
    let t = told (size_of s.sizes) (members_of s.held) s.is_outside s.counted s.last in
    let due : c.count-due.result ≡ c.in-Short.field-0 = c.count-due.ensures.count ∙ ap (λ l. count_of l) c.in-Short.is in
    let e : c.in-Some.counted ≡ s.counted + c.in-Short.field-0 = c.in-Some.ensures.1 ∙ ap (λ n. s.counted + n) due in
    λ a b front.
    let short = subst (λ l. Front free (length_form al l) a b) c.in-Short.is front in
    let there = sym c.if-not-is_admitted.ensures.members in
    let last = last_determinant free al t a b c.in-Short.field-0 c.in-Some.counted e there (sym c.if-not-is_accepted_outside.ensures) short in
    subst (λ (u : Tally). NextDeterminant al free u a b c.count-due.result None) c.self.view_is (subst (λ n. NextDeterminant al free t a b n None) (sym due) last)

use Rattle.std.proofs.Common.{◌∙◌, ◌∷◌, sym, subst, arith}
use Rattle.asn1_schema_laws.proofs.Joined.{raised}
use Rattle.per_codec_laws.specs.Takes.{NextDeterminant, NextMember, members}
use Rattle.per_codec_reading.specs.Fronts.{freedoms, is_aligned}
use Rattle.per_codec_decoder.specs.Members.{Due, NoFurther, tally_in}
use Rattle.per_codec_decoder.proofs.Counting.{headed, held_tally, no_determinant, no_further}
use Rattle.per_codec_decoder.proofs.members.DueMembers.next.Goals as goal

pub returns-in_err-length-in-Some-clause-only : goal.returns-in_err-length-in-Some-clause-only
returns-in_err-length-in-Some-clause-only c = raised _ _ _ c.from_residual.ensures.1 (λ k.
    subst (λ (d : Due). NoFurther (is_aligned c.args.rules) (freedoms c.args.rules) c.args.cursor.now (members d.due d.tally ∷ k)
    c.in_err-length-in-Some.field-0.0) c.self.view_is (no_further (freedoms c.args.rules) (is_aligned c.args.rules) c.into_inner-tally.result
    c.self.inside.due (tally_in c.self.inside.tally) c.args.cursor.now k _ (let f = c.if-self-gt0.false in omega (arith, f))
    (held_tally c.self.inside.tally c.in-Some.boxed c.into_inner-tally.result (sym c.take.ensures.value ∙ c.in-Some.is) c.into_inner-tally.ensures)
    (no_determinant (freedoms c.args.rules) (is_aligned c.args.rules) c.into_inner-tally.result c.args.cursor.now _ c.in_err-length-in-Some.ensures.only)))

pub returns-in_err-self-inside-in-Some-clause-only : goal.returns-in_err-self-inside-in-Some-clause-only
returns-in_err-self-inside-in-Some-clause-only c = raised _ _ _ c.from_residual-in_err-self-inside-in-Some.ensures.1
    (λ k. subst (λ (d : Due). NoFurther (is_aligned c.args.rules) (freedoms c.args.rules) c.args.cursor.now (members d.due d.tally ∷ k)
    c.in_err-self-inside-in-Some.field-0.0) c.self.view_is (no_further (freedoms c.args.rules) (is_aligned c.args.rules) c.into_inner-tally.result
    c.self.inside.due (tally_in c.self.inside.tally) c.args.cursor.now k _ (let f = c.if-self-gt0.false in omega (arith, f))
    (held_tally c.self.inside.tally c.in-Some.boxed c.into_inner-tally.result (sym c.take.ensures.value ∙ c.in-Some.is) c.into_inner-tally.ensures)
    (c.in_err-self-inside-in-Some.ensures.only c.args.cursor.now c.read_length.new.cursor c.in_ok-length-in-Some.ensures.ok)))

pub returns-in_ok-self-inside-in-Some-clause-ok : goal.returns-in_ok-self-inside-in-Some-clause-ok
returns-in_ok-self-inside-in-Some-clause-ok c = λ k.
    let f = freedoms c.args.rules in
    let al = is_aligned c.args.rules in
    let a = c.args.cursor.now in
    let mid = c.read_length.new.cursor in
    let now = c.take_member.new.self in
    let due = c.branch.inside in
    let behind = subst (λ (d : Due). NextDeterminant al f c.into_inner-tally.result a mid d.due d.tally) (sym c.branch.view_is)
    (c.in_ok-self-inside-in-Some.ensures.ok a mid c.in_ok-length-in-Some.ensures.ok) in
    subst (λ (d : Due). NextMember al f c.take_member.result a (members d.due d.tally ∷ k) (mid, members now.due now.tally ∷ k)) c.self.view_is
    (headed f al c.into_inner-tally.result c.take_member.result c.self.inside.due (tally_in c.self.inside.tally) a mid k
    (mid, members now.due now.tally ∷ k) due.due (tally_in due.tally) (let g = c.if-self-gt0.false in omega (arith, g))
    (held_tally c.self.inside.tally c.in-Some.boxed c.into_inner-tally.result (sym c.take.ensures.value ∙ c.in-Some.is) c.into_inner-tally.ensures) behind (c.take_member.ensures mid k))

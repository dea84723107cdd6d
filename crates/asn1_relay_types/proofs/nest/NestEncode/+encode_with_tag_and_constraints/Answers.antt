use Rattle.std.proofs.Common.{rules}
use Rattle.std.proofs.Common.{ap, false}
use Rattle.asn1_schema.proofs.Author.{cannot_begun, cannot_begun_end, cannot_begun_here, failed_before_value}
use Rattle.asn1_schema.proofs.Author.{null_value, passed, raised, writes_begun}
use Rattle.asn1_relay_types.specs.Nest.{nest_table, nest_schema, nest_is, nest_meaning, nest_valued}
use Rattle.asn1_relay_types.proofs.nest.NestEncode.+encode_with_tag_and_constraints.Goals as goal

pub returns-in_err-begin_alternative-in-Leaf-clause-only : goal.returns-in_err-begin_alternative-in-Leaf-clause-only
returns-in_err-begin_alternative-in-Leaf-clause-only g t c =
    raised _ _ _ c.from_residual.ensures.1 (cannot_begun_here _ (nest_table nest_schema) nest_is (record { added = false; place = 0 })
    (ap nest_meaning c.in-Leaf.is) (rw c.root.ensures at c.in_err-begin_alternative-in-Leaf.ensures.only))

pub returns-in_err-encode_with_tag-in-Leaf-clause-only : goal.returns-in_err-encode_with_tag-in-Leaf-clause-only
returns-in_err-encode_with_tag-in-Leaf-clause-only g t c = let one = g.met.E.Encoder.one_after in
    raised _ _ _ c.from_residual-in_err-encode_with_tag-in-Leaf.ensures.1
    (cannot_begun _ (nest_table nest_schema) nest_is (record { added = false; place = 0 }) (ap nest_meaning c.in-Leaf.is) one
    (rw c.root.ensures at c.in_ok-begin_alternative-in-Leaf.ensures.ok) c.in_err-encode_with_tag-in-Leaf.ensures.only)

pub returns-in_err-end-in-Leaf-clause-only : goal.returns-in_err-end-in-Leaf-clause-only
returns-in_err-end-in-Leaf-clause-only g t c = let one = g.met.E.Encoder.one_after in
    raised _ _ _ c.from_residual-in_err-end-in-Leaf.ensures.1 (cannot_begun_end _ (nest_table nest_schema) nest_is
    (record { added = false; place = 0 }) (ap nest_meaning c.in-Leaf.is) one (rw c.root.ensures at c.in_ok-begin_alternative-in-Leaf.ensures.ok)
    c.in_ok-encode_with_tag-in-Leaf.ensures.ok c.in_err-end-in-Leaf.ensures.only)

pub returns-in_err-begin_alternative-in-More-clause-only : goal.returns-in_err-begin_alternative-in-More-clause-only
returns-in_err-begin_alternative-in-More-clause-only g t c =
    raised _ _ _ c.from_residual-in_err-begin_alternative-in-More.ensures.1
    (cannot_begun_here _ (nest_table nest_schema) nest_is (record { added = false; place = 1 }) (ap nest_meaning c.in-More.is)
    (rw c.root-in-More.ensures at c.in_err-begin_alternative-in-More.ensures.only))

pub returns-in_err-encode_with_tag-in-More-clause-only : goal.returns-in_err-encode_with_tag-in-More-clause-only
returns-in_err-encode_with_tag-in-More-clause-only g t c = let one = g.met.E.Encoder.one_after in
    raised _ _ _ c.from_residual-in_err-encode_with_tag-in-More.ensures.1
    (cannot_begun _ (nest_table nest_schema) nest_is (record { added = false; place = 1 }) (ap nest_meaning c.in-More.is) one
    (rw c.root-in-More.ensures at c.in_ok-begin_alternative-in-More.ensures.ok) c.in_err-encode_with_tag-in-More.ensures.only)

pub returns-in_err-end-in-More-clause-only : goal.returns-in_err-end-in-More-clause-only
returns-in_err-end-in-More-clause-only g t c = let one = g.met.E.Encoder.one_after in
    raised _ _ _ c.from_residual-in_err-end-in-More.ensures.1 (cannot_begun_end _ (nest_table nest_schema) nest_is
    (record { added = false; place = 1 }) (ap nest_meaning c.in-More.is) one
    (rw c.root-in-More.ensures at c.in_ok-begin_alternative-in-More.ensures.ok) c.in_ok-encode_with_tag-in-More.ensures.ok c.in_err-end-in-More.ensures.only)

pub returns-in_ok-end-in-Leaf-clause-ok : goal.returns-in_ok-end-in-Leaf-clause-ok
returns-in_ok-end-in-Leaf-clause-ok g t c = writes_begun _ (nest_table nest_schema) nest_is (record { added = false; place = 0 })
    (ap nest_meaning c.in-Leaf.is) (rw c.root.ensures at c.in_ok-begin_alternative-in-Leaf.ensures.ok) c.in_ok-encode_with_tag-in-Leaf.ensures.ok c.in_ok-end-in-Leaf.ensures.ok

pub returns-in_ok-end-in-More-clause-ok : goal.returns-in_ok-end-in-More-clause-ok
returns-in_ok-end-in-More-clause-ok g t c = writes_begun _ (nest_table nest_schema) nest_is (record { added = false; place = 1 })
    (ap nest_meaning c.in-More.is) (rw c.root-in-More.ensures at c.in_ok-begin_alternative-in-More.ensures.ok) c.in_ok-encode_with_tag-in-More.ensures.ok c.in_ok-end-in-More.ensures.ok

pub returns-in_err-end-in-Leaf-clause-call : goal.returns-in_err-end-in-Leaf-clause-call
returns-in_err-end-in-Leaf-clause-call g t c =
    record {
      failed = search rules;
      front = search rules;
      already = search rules;
      after = let law = g.met.E.Encoder.goes_on in
          passed c.from_residual-in_err-end-in-Leaf.ensures.1
          (λ e. absurd (law _ _ _ c.in_ok-begin_alternative-in-Leaf.ensures.ok
          (failed_before_value law null_value c.in_ok-encode_with_tag-in-Leaf.ensures.ok (c.in_err-end-in-Leaf.ensures.call.after e))));
    }

pub returns-in_err-end-in-More-clause-call : goal.returns-in_err-end-in-More-clause-call
returns-in_err-end-in-More-clause-call g t c =
    record {
      failed = search rules;
      front = search rules;
      already = search rules;
      after = let law = g.met.E.Encoder.goes_on in
          passed c.from_residual-in_err-end-in-More.ensures.1
          (λ e. absurd (law _ _ _ c.in_ok-begin_alternative-in-More.ensures.ok
          (failed_before_value law (nest_valued _) c.in_ok-encode_with_tag-in-More.ensures.ok (c.in_err-end-in-More.ensures.call.after e))));
    }

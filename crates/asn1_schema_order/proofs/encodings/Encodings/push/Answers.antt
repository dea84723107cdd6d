use Rattle.std.proofs.Common.{◌≡◌, [], ◌∷◌, ◌++◌, length, ap, ◌∙◌, arith}
use Rattle.std.proofs.lemmas.Result.{err_from_is_err_and}
use Rattle.asn1_schema_order.proofs.Spans.{within_kept, cut_kept, within_added, cut_added}
use Rattle.asn1_schema_order.proofs.encodings.Encodings.push.Goals as goal

pub invariant_of-self-in_err-push : goal.invariant_of-self-in_err-push
invariant_of-self-in_err-push c = within_kept c.self.inside.octets.items c.args.octets.now c.extend_from_slice.new.self.items
    c.self.inside.spans.items c.push.new.self.items c.self.invariant c.in_ok-extend_from_slice.ensures.items c.in_err-push.ensures.items

pub returns-in_err-push-clause-err : goal.returns-in_err-push-clause-err
returns-in_err-push-clause-err c =
    let exit = err_from_is_err_and c.from_residual-in_err-push.result c.from_residual-in_err-push.ensures.1 in
    rw exit.1 (cut_kept c.self.inside.octets.items c.args.octets.now c.extend_from_slice.new.self.items c.self.inside.spans.items
    c.push.new.self.items c.self.invariant c.in_ok-extend_from_slice.ensures.items c.in_err-push.ensures.items ∙ c.self.view_is)

pub invariant_of-self-2 : goal.invariant_of-self-2
invariant_of-self-2 c =
    let begins : c.len-from.result ≡ length c.self.inside.octets.items = omega (arith, c.len-from.ensures, c.self.inside.octets.ok.0) in
    let ends : c.len-to.result ≡ length c.extend_from_slice.new.self.items = omega (arith, c.len-to.ensures, c.extend_from_slice.new.self.ok.0) in
    within_added c.self.inside.octets.items c.args.octets.now c.extend_from_slice.new.self.items c.self.inside.spans.items
    c.push.new.self.items (record { from = c.len-from.result; to = c.len-to.result }) c.self.invariant c.in_ok-extend_from_slice.ensures.items c.in_ok-push.ensures.items begins ends

pub returns-clause-ok : goal.returns-clause-ok
returns-clause-ok c =
    let begins : c.len-from.result ≡ length c.self.inside.octets.items = omega (arith, c.len-from.ensures, c.self.inside.octets.ok.0) in
    let ends : c.len-to.result ≡ length c.extend_from_slice.new.self.items = omega (arith, c.len-to.ensures, c.extend_from_slice.new.self.ok.0) in
    cut_added c.self.inside.octets.items c.args.octets.now c.extend_from_slice.new.self.items c.self.inside.spans.items
    c.push.new.self.items (record { from = c.len-from.result; to = c.len-to.result })
    c.self.invariant c.in_ok-extend_from_slice.ensures.items c.in_ok-push.ensures.items begins ends ∙ ap (λ l. l ++ c.args.octets.now ∷ []) c.self.view_is

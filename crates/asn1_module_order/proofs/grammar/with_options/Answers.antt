use Rattle.std.proofs.Common.{◌≡◌, ◌∙◌, ap, ap₂}
use Rattle.std.proofs.lemmas.Result.{IfOk-weaker}
use Rattle.clap.specs.Words.{app_of, with_rule}
use Rattle.asn1_module_order.proofs.grammar.with_options.Goals as goal

pub returns : goal.returns
returns c =
    let first : app_of c.in_ok-arg.field-0 ≡ _ = c.in_ok-arg.ensures.shape c.optional.ensures.local ∙ ap (with_rule (app_of c.args.command)) c.optional.ensures.rule in
    let second : app_of c.in_ok-arg-2.field-0 ≡ _ = c.in_ok-arg-2.ensures.shape c.optional-2.ensures.local ∙ ap₂ with_rule first c.optional-2.ensures.rule in
    let third : app_of c.in_ok-arg-3.field-0 ≡ _ = c.in_ok-arg-3.ensures.shape c.optional-3.ensures.local ∙ ap₂ with_rule second c.optional-3.ensures.rule in
    IfOk-weaker c.arg-4.result _ _ (λ g h. h.shape c.flag.ensures.local ∙ ap₂ with_rule third c.flag.ensures.rule) c.arg-4.ensures

use Rattle.std.proofs.Common.{◌≡◌, ◌∙◌, ap, ap₂}
use Rattle.std.proofs.lemmas.Result.{IfOk-weaker}
use Rattle.clap.specs.Words.{app_of, new_app, with_rule}
use Rattle.clap.specs.Simple.{app_of_fields}
use Rattle.asn1_relay_command.proofs.order.translating.Goals as goal

pub returns : goal.returns
returns c =
    let begun : app_of c.about.result ≡ new_app c.args.name.now = ap app_of_fields c.about.ensures ∙ c.new.ensures.app in
    let first : app_of c.in_ok-arg.field-0 ≡ _ = c.in_ok-arg.ensures.shape c.option.ensures.local ∙ ap₂ with_rule begun c.option.ensures.rule in
    let second : app_of c.in_ok-arg-2.field-0 ≡ _ = c.in_ok-arg-2.ensures.shape c.option-2.ensures.local ∙ ap₂ with_rule first c.option-2.ensures.rule in
    IfOk-weaker c.arg-3.result _ _ (λ g h. h.shape c.option-3.ensures.local ∙ ap₂ with_rule second c.option-3.ensures.rule) c.arg-3.ensures

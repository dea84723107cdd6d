use Rattle.std.proofs.Common.{◌≡◌, ◌∙◌, ap, ap₂}
use Rattle.std.proofs.lemmas.Result.{IfOk-weaker}
use Rattle.clap.specs.Words.{App, app_of, new_app, with_rule}
use Rattle.clap.specs.Simple.{app_of_fields}
use Rattle.asn1_module_order.specs.Orders.{module_rules, type_rules, with_rules}
use Rattle.asn1_module_order.proofs.grammar.translating.Goals as goal

pub returns : goal.returns
returns c =
    let begun : app_of c.about-command.result ≡ new_app c.args.name.now = ap app_of_fields c.about-command.ensures ∙ c.new.ensures.app in
    let typed : app_of c.in_ok-with_type.field-0 ≡ _ = c.in_ok-with_type.ensures
    ∙ ap (λ (a : App). with_rules a type_rules) (c.in_ok-with_modules.ensures ∙ ap (λ (a : App). with_rules a module_rules) begun) in
    let first : app_of c.in_ok-arg.field-0 ≡ _ = c.in_ok-arg.ensures.shape c.option.ensures.local ∙ ap₂ with_rule typed c.option.ensures.rule in
    let second : app_of c.in_ok-arg-2.field-0 ≡ _ = c.in_ok-arg-2.ensures.shape c.output_option.ensures.local ∙ ap₂ with_rule first c.output_option.ensures.rule in
    IfOk-weaker c.arg-3.result _ _ (λ g h. h.shape c.flag.ensures.local ∙ ap₂ with_rule second c.flag.ensures.rule) c.arg-3.ensures

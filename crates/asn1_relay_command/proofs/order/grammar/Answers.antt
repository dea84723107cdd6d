use Rattle.std.proofs.Common.{◌≡◌, ◌∙◌, true, ap, ap₂, codes, refl}
use Rattle.std.proofs.lemmas.Result.{IfOk-weaker}
use Rattle.clap.specs.Words.{App, app_of, new_app, with_rule, with_subcommand}
use Rattle.clap.specs.Simple.{app_of_fields}
use Rattle.asn1_relay_command.specs.Orders.{name_app, once_app, route_app, stream_app}
use Rattle.asn1_relay_command.proofs.OrderLemmas.{local_of}
use Rattle.asn1_relay_command.proofs.order.grammar.Goals as goal

requiring : App → App
requiring a = record { top = record a.top { subcommand_required = true }; subs = a.subs }

pub returns : goal.returns
unfolding requiring
returns c =
    let once : app_of c.in_ok-once.once ≡ once_app = c.in_ok-once.ensures in
    let stream : app_of c.in_ok-stream.stream ≡ stream_app = c.in_ok-stream.ensures.shape c.limit_option.ensures.local ∙ ap₂ with_rule c.in_ok-translating.ensures c.limit_option.ensures.rule in
    let begun : app_of c.about.result ≡ new_app (codes "asn1_relay") = ap app_of_fields c.about.ensures ∙ c.new.ensures.app in
    let helped : app_of c.after_help.result ≡ new_app (codes "asn1_relay") = ap app_of_fields c.after_help.ensures ∙ begun in
    let named : app_of c.subcommand_required.result ≡ name_app = ap app_of_fields c.subcommand_required.ensures ∙ ap requiring helped in
    let first : app_of c.in_ok-subcommand.field-0 ≡ with_subcommand name_app once_app.top =
    c.in_ok-subcommand.ensures.shape (local_of c.in_ok-once.once once_app once refl) ∙ ap₂ with_subcommand named (ap (λ (a : App). a.top) once) in
    let second : app_of c.in_ok-subcommand-2.field-0 ≡ with_subcommand (with_subcommand name_app once_app.top) stream_app.top =
    c.in_ok-subcommand-2.ensures.shape (local_of c.in_ok-stream.stream stream_app stream refl) ∙ ap₂ with_subcommand first (ap (λ (a : App). a.top) stream) in
    let route : app_of c.in_ok-route.route ≡ route_app = c.in_ok-route.ensures in
    IfOk-weaker c.subcommand-3.result _ _ (λ g h. h.shape (local_of c.in_ok-route.route route_app route refl) ∙ ap₂ with_subcommand second (ap (λ (a : App). a.top) route)) c.subcommand-3.ensures

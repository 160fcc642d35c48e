use Rattle.std.proofs.Common.{rules, ◌≡◌, ◌∙◌, ap, ap₂, codes, true, false}
use Rattle.std.proofs.lemmas.Result.{IfOk-weaker}
use Rattle.clap.specs.Walk.{rule_of}
use Rattle.clap.specs.Simple.{Shape, app_of, app_of_fields, new_rule, on_top, with_rule}
use Rattle.dex_words.specs.Positionals.{bare_line, name_rule}
use Rattle.dex_words.proofs.positionals.line.Goals as goal

pub returns : goal.returns
returns c =
    let name_is : rule_of c.required-name.result ≡ name_rule = search rules in
    let first_is : rule_of c.new-first.result ≡ new_rule (codes "first") = search rules in
    let second_is : rule_of c.new-second.result ≡ new_rule (codes "second") = search rules in
    let bare_is : app_of c.disable_help_flag.result ≡ bare_line =
    ap app_of_fields c.disable_help_flag.ensures
    ∙ ap (on_top (λ (s : Shape). record s { disable_help_flag = true }))
    (ap app_of_fields c.no_binary_name.ensures ∙ ap (on_top (λ (s : Shape). record s { no_binary_name = true })) c.new-2.ensures.app) in
    let one_is : app_of c.in_ok-arg.field-0 ≡ with_rule bare_line name_rule = c.in_ok-arg.ensures.shape (search rules) ∙ ap₂ with_rule bare_is name_is in
    let two_is : app_of c.in_ok-arg-2.field-0 ≡ with_rule (with_rule bare_line name_rule) (new_rule (codes "first")) =
    c.in_ok-arg-2.ensures.shape (search rules) ∙ ap₂ with_rule one_is first_is in
    let second_local : c.new-second.result.global ≡ false = search rules in
    IfOk-weaker c.arg-3.result _ _ (λ command added. added.shape second_local ∙ ap₂ with_rule two_is second_is) c.arg-3.ensures

use Rattle.std.proofs.Common.{rules, ◌∙◌, ◌≡◌, ap₂, codes}
use Rattle.clap.specs.Words.{rule_of, with_rule}
use Rattle.pj_words.specs.Words.{address_rule, option_rule}
use Rattle.pj_words.proofs.words.required_words.Goals as goal

pub returns : goal.returns
returns c =
    let address_is : rule_of c.required-address.result ≡ address_rule = search rules in
    let sessions_is : rule_of c.required-sessions.result ≡ option_rule (codes "sessions") = search rules in
    let workers_is : rule_of c.required-workers.result ≡ option_rule (codes "workers") = search rules in
    c.in_ok-serve.ensures.shape (search rules)
    ∙ ap₂ with_rule (c.in_ok-arg-2.ensures.shape (search rules) ∙ ap₂ with_rule (c.in_ok-arg.ensures.shape (search rules) ∙ ap₂ with_rule c.new-4.ensures.app address_is) sessions_is) workers_is

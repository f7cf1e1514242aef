use Rattle.std.proofs.Common.{◌∙◌, map, string_bytes}
use Rattle.clap.specs.Words.{app_of, found_of, rows_of}
use Rattle.pj_words.proofs.WordLemmas.{asked_at_ok, asked_at_err}
use Rattle.pj_words.proofs.words.request_in.Goals as goal

pub returns-in-Ok-clause-work : goal.returns-in-Ok-clause-work
returns-in-Ok-clause-work c =
    c.requested.ensures.work
    ∙ asked_at_ok (app_of c.in_ok-command.field-0) (map string_bytes c.args.words.now) (rows_of (found_of c.in-Ok.matches)) c.in_ok-command.ensures c.in-Ok.ensures.kinds
    (λ simple. (c.in-Ok.ensures.matches simple).0)

pub returns-clause-work : goal.returns-clause-work
returns-clause-work c =
    asked_at_err (app_of c.in_ok-command.field-0) (map string_bytes c.args.words.now) c.in-Err.error c.in_ok-command.ensures c.in-Err.ensures.kinds
    (λ memory. c.in_default.not-OutOfMemory (c.kind.ensures ∙ memory))

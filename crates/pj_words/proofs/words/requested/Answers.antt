use Rattle.std.proofs.Common.{◌∙◌, ap, ap₂, refl, Some, None, option_map}
use Rattle.clap.specs.Words.{found_of}
use Rattle.pj_words.specs.Words.{bounded, number_of, work_of}
use Rattle.pj_words.proofs.WordLemmas.{values_found}
use Rattle.pj_words.proofs.words.requested.Goals as goal

pub returns-in_err-address-clause-work : goal.returns-in_err-address-clause-work
returns-in_err-address-clause-work c =
    ap (option_map work_of) c.from_residual.ensures ∙ values_found (found_of c.args.matches.now) None _ _ _ _ c.in_err-address.ensures refl refl refl refl

pub returns-in_err-sessions-clause-work : goal.returns-in_err-sessions-clause-work
returns-in_err-sessions-clause-work c =
    ap (option_map work_of) c.from_residual-in_err-sessions.ensures
    ∙ values_found (found_of c.args.matches.now) (Some c.in_ok-address.address.now) None _ _ _ c.in_ok-address.ensures c.in_err-sessions.ensures refl refl refl

pub returns-in_err-workers-clause-work : goal.returns-in_err-workers-clause-work
returns-in_err-workers-clause-work c =
    ap (option_map work_of) c.from_residual-in_err-workers.ensures
    ∙ values_found (found_of c.args.matches.now) (Some c.in_ok-address.address.now) (Some c.in_ok-sessions.sessions.now) None _ _ c.in_ok-address.ensures c.in_ok-sessions.ensures c.in_err-workers.ensures refl refl

pub returns-clause-work : goal.returns-clause-work
returns-clause-work c =
    let address = c.in_ok-address.address.now in
    let sessions = c.in_ok-sessions.sessions.now in
    let workers = c.in_ok-workers.workers.now in
    let idle = option_map (λ w. w.now) c.get_str-4.result in
    let mode = option_map (λ w. w.now) c.get_str-5.result in
    c.bounded.ensures.work
    ∙ (ap₂ (λ s w. bounded address s w c.idle_of-idle.result c.file_mode_of-mode.result) c.number_of.ensures c.number_of-2.ensures
    ∙ (ap₂ (bounded address (number_of sessions) (number_of workers)) c.idle_of-idle.ensures c.file_mode_of-mode.ensures
    ∙ values_found (found_of c.args.matches.now) (Some address) (Some sessions) (Some workers) idle mode
    c.in_ok-address.ensures c.in_ok-sessions.ensures c.in_ok-workers.ensures c.get_str-4.ensures c.get_str-5.ensures))

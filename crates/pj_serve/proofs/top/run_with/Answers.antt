use Rattle.std.proofs.Common.{◌∙◌, ap, refl, Some}
use Rattle.std.proofs.lemmas.List.{take_rest}
use Rattle.pj_serve.specs.Tasks.{view_of}
use Rattle.pj_serve.proofs.TaskLemmas.{ran_scripts, refused_words}
use Rattle.pj_serve.proofs.top.run_with.Goals as goal

pub returns-in-Err : goal.returns-in-Err
returns-in-Err g c =
    refused_words _ _ _ _ _ _ c.in-Err.status c.in-Err.ensures.refused c.idle.ensures.status
    (record { input = c.idle.ensures.input; out = c.idle.ensures.out; idle = c.idle.ensures.idle }) refl

pub returns-in-Ok-Run : goal.returns-in-Ok-Run
returns-in-Ok-Run g c =
    ran_scripts _ _ _ _ _ _ _ (c.in-Ok-Run.ensures.task ∙ ap (λ t. Some (view_of t)) c.in-Ok-Run.field-0-is)
    (take_rest c.args.words.now 1) c.run_scripts.ensures.run c.run_scripts.ensures.office

use Rattle.std.proofs.Common.{List}
use Rattle.pj_machine.specs.declared.command.Command.{Command}
use Rattle.pj_machine.specs.declared.command.Command.TheVariants as command
use Rattle.pj_machine.specs.declared.journal.Entry.{Entry}
use Rattle.pj_machine.specs.declared.limits.Limits.{Limits}
use Rattle.pj_machine.specs.Answer.{AnswersIn, IsAnswer}
use Rattle.pj_machine.specs.Outcome.{Outcome}
use Rattle.pj_machine.specs.Replay.{IsReplay}
use Rattle.pj_machine.specs.State.{State}
use Rattle.pj_machine.proofs.OneAnswer.{answer_one}
use Rattle.pj_machine.proofs.SoundSteps.{legal_replay, legal_sound}
use Rattle.pj_answers.specs.Laws.{HasOneAnswer}
use Rattle.pj_answers.proofs.Table.{outcome_there, inverse_outcome}
use Rattle.pj_answers.proofs.laws.one_answer.Goals as goal

-- an outcome after the journal is the one answer
just_one : (limits : Limits) (journal : List Entry) (c : Command) (s : State) → IsReplay journal s → (o : Outcome) → AnswersIn limits s journal c o →
    HasOneAnswer limits journal c
just_one limits journal c s replayed o answers =
    let answer : IsAnswer limits journal c o.reply o.entered = record { state = s; replayed = replayed; answers = answers } in
    (o.reply, o.entered, answer, λ other also is. answer_one limits journal c other o.reply also o.entered is answer)

pub returns-clause-each : goal.returns-clause-each
returns-clause-each c = λ limits journal x legal call.
    let s = legal_replay limits journal legal in
    let o = outcome_there limits s.0 journal (legal_sound limits journal s.0 legal s.1) x call in
    just_one limits journal x s.0 s.1 o.0 o.1

pub returns-clause-inverse : goal.returns-clause-inverse
returns-clause-inverse c = λ limits journal s name legal replayed not_itself.
    let o = inverse_outcome limits s journal name not_itself in
    just_one limits journal (command.Inverse name) s replayed o.0 o.1

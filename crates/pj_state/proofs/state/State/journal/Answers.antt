use Rattle.std.proofs.Common.{◌≡◌, ap}
use Rattle.pj_machine.specs.declared.command.Command.TheVariants as command
use Rattle.pj_machine.specs.JournalText.{journal_text}
use Rattle.pj_machine.specs.Outcome.{gives}
use Rattle.pj_state.proofs.Replying.{gives_at}
use Rattle.pj_state.proofs.state.State.journal.Goals as goal

pub returns : goal.returns
returns c =
    gives_at c.args.self.now c.len.result (λ s. Unit {0}) (record { at = c.len.ensures.len; legal = c.len.ensures.legal; state = λ s r. tt }) command.Journal
    c.journal_body.result (λ b. b ≡ journal_text c.args.self.now.journal) (rw c.entries.ensures at c.journal_body.ensures) (λ s p b q. ap gives q) c.given.result c.given.ensures

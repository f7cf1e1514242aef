use Rattle.std.proofs.Common.{sym, subst}
use Rattle.pj_change.specs.Printing.{IsPrintAnswer}
use Rattle.pj_state.proofs.replies.print_reply_in_threads.Goals as goal

pub returns : goal.returns
returns g c = λ k name limit at.
    let answered = subst (λ live. IsPrintAnswer c.args.channel.now live c.print.result) (sym limit) c.print.ensures in
    c.printed.ensures k c.args.channel.now name at answered

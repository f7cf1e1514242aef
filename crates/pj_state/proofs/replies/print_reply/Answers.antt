use Rattle.std.proofs.Common.{sym, subst}
use Rattle.pj_change.specs.Printing.{IsPrintAnswer}
use Rattle.pj_state.proofs.replies.print_reply.Goals as goal

pub returns : goal.returns
returns c = λ k name limit at.
    let answered = subst (λ live. IsPrintAnswer c.args.channel.now live c.print_serially.result) (sym limit) c.print_serially.ensures in
    c.printed.ensures k c.args.channel.now name at answered

use Rattle.std.proofs.Common.{sym, ◌∙◌, arith}
use Rattle.pj_name.proofs.Heads.{heads_decide}
use Rattle.pj_name.proofs.order.NameOrd.cmp.Goals as goal

pub returns-then-here-there : goal.returns-then-here-there
returns-then-here-there c =
    let a = c.args.self.now in
    let b = c.args.other.now in
    let whole = a.whole in
    let other_whole = b.whole in
    let decided = heads_decide 8 0 a.bytes b.bytes (omega (arith, whole)) (omega (arith, other_whole)) a.small b.small (λ e. c.if-here-there.true (c.head-here.ensures ∙ e ∙ sym c.head-there.ensures)) in
    c.cmp.ensures ∙ rw (c.head-here.ensures, c.head-there.ensures) (sym decided)

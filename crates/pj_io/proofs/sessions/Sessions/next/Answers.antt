use Rattle.std.proofs.Common.{◌≡◌, ◌∙◌, ◌<◌, length, ap, sym, arith}
use Rattle.pj_io.specs.SessionCounts.{session_count}
use Rattle.pj_io.proofs.Shared.{next_session}
use Rattle.pj_io.proofs.sessions.Sessions.next.Goals as goal

pub overflow_sub-self : goal.overflow_sub-self
overflow_sub-self c =
    let count : c.self.inside.left ≡ length c.args.self.now = sym (session_count _ _) ∙ ap length c.self.view_is in
    omega arith

pub returns : goal.returns
returns c =
    let count : c.self.inside.left ≡ length c.args.self.now = sym (session_count _ _) ∙ ap length c.self.view_is in
    let some : 0 < c.self.inside.left = omega arith in
    sym c.self.view_is ∙ rw c.unwrap_or.ensures (next_session _ _ _ _ _ some c.pop_front.ensures.items c.pop_front.ensures.rest c.new.ensures.items)

use Rattle.std.proofs.Common.{refl, inl}
use Rattle.pj_machine.specs.declared.reply.Reply.TheVariants.{No}
use Rattle.pj_machine.specs.declared.reply.Refusal.TheVariants as refusal
use Rattle.pj_state.proofs.Replying.{inverse_gives, inverse_reads}
use Rattle.pj_state.proofs.replies.inverse_reply.Goals as goal

pub returns-in-Ok : goal.returns-in-Ok
returns-in-Ok c = λ k name at.
    inverse_gives k c.args.place name c.args.stored.now at c.in-Ok.change c.in-Ok.ensures.none c.in-Ok.ensures.inverse c.spelled.result c.spelled.ensures c.given.result c.given.ensures

pub returns-in-Err-Hunk : goal.returns-in-Err-Hunk
returns-in-Err-Hunk c = λ k name at.
    let first = (rw c.in-Err-Hunk.field-0-is at c.in-Err-Hunk.ensures.hunk) c.in-Err-Hunk.hunk refl in
    let said = rw c.in-Err-Hunk.field-0-is at c.refused_at.ensures in
    inverse_reads k c.args.place name c.args.stored.now at (No (refusal.Inverse c.in-Err-Hunk.hunk)) (inl (c.in-Err-Hunk.hunk, first, refl)) c.refused_at.result said

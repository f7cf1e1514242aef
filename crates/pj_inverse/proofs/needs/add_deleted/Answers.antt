use Rattle.std.proofs.Common.{ap, ◌∙◌, sym}
use Rattle.std.specs.Prelude.{Some}
use Rattle.pj_change.proofs.NeedNumbers.{delete_owner}
use Rattle.pj_change.proofs.Members.{same_member}
use Rattle.pj_inverse.proofs.InverseNeeds.{deleted_change, deletes_of_none, needs_same, needs_more}
use Rattle.pj_inverse.proofs.needs.add_deleted.Goals as goal

pub numbered-requires : goal.numbered-requires
numbered-requires c =
    (delete_owner c.args.record.now c.in-Delete.owner c.in-Delete.start c.in-Delete.end c.in-Delete.by
    (same_member c.args.record.now.change.hunks c.in-Delete.is c.requires)).upto

pub returns-in_ok-insert : goal.returns-in_ok-insert
returns-in_ok-insert c = λ before are.
    needs_more c.args.record.now before c.args.hunk.now c.args.needs.now.keys c.insert.new.self.keys c.numbered.result
    (ap (deleted_change c.args.record.now) c.in-Delete.is ∙ ap Some (sym c.numbered.ensures)) c.in_ok-insert.ensures.keys c.in_ok-insert.ensures.ordered are

pub returns-in_default : goal.returns-in_default
returns-in_default c = λ before are. needs_same c.args.record.now before c.args.hunk.now c.args.needs.now.keys (deletes_of_none c.args.record.now c.args.hunk.now c.in_default.not-Delete) are

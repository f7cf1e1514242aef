use Rattle.std.proofs.Common.{subst, sym}
use Rattle.pj_name.specs.declared.name.Name.{Name}
use Rattle.pj_change.specs.Inverse.{IsInverseNeed}
use Rattle.pj_change.specs.Inverse.IsInverseNeed.{deleted}
use Rattle.pj_change.proofs.NeedNumbers.{delete_owner}
use Rattle.pj_change.proofs.Members.{same_member}
use Rattle.pj_inverse.proofs.hunks.undoing.Goals as goal

pub numbered-requires : goal.numbered-requires
numbered-requires c =
    (delete_owner c.args.record.now c.in-Delete.owner c.in-Delete.start c.in-Delete.end c.in-Delete.by
    (same_member c.args.record.now.change.hunks c.in-Delete.is c.requires.hunk)).upto

pub number_of-number-requires-clause-there : goal.number_of-number-requires-clause-there
number_of-number-requires-clause-there c =
    c.requires.needs.all c.numbered.result (subst (λ (n : Name). IsInverseNeed c.args.record.now c.args.record.now.change.hunks n) (sym c.numbered.ensures)
    (deleted (same_member c.args.record.now.change.hunks c.in-Delete.is c.requires.hunk)))

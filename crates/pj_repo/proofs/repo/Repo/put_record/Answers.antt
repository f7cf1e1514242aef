use Rattle.std.proofs.Common.{◌∙◌, ap}
use Rattle.pj_repo.specs.RepoView.{RepoView}
use Rattle.pj_repo.proofs.Answering.{committed}
use Rattle.pj_repo.proofs.repo.Repo.put_record.Goals as goal

pub returns : goal.returns
returns g c =
    let w = c.commit.ensures.lent in
    committed _ _ _ w.lent w.left ((c.self.invariant w.lent).0 w.work.0 ∙ ap (λ (v : RepoView). v.limits) c.self.view_is) c.commit.ensures.number c.commit.ensures.calls w.begins w.sees w.gains
    c.calls-calls.ensures.between _ _ w.work.1.0

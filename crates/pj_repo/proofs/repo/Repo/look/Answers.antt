use Rattle.std.proofs.Common.{◌∙◌, ap}
use Rattle.pj_repo.proofs.repo.Repo.look.Goals as goal

pub returns : goal.returns
returns g c =
    let l = c.look.ensures.lent in
    record {
      state = l.state;
      limits_are = (c.self.invariant l.state).0 l.work.0 ∙ ap (λ r. r.limits) c.self.view_is;
      read = l.work.1;
      number = c.look.ensures.number;
      calls = c.look.ensures.calls;
      begins = l.begins;
      sees = l.sees;
      own_stays = c.look.ensures.own;
      fresh = c.look.ensures.fresh;
    }

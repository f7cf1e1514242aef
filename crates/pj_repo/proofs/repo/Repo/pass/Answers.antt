use Rattle.std.proofs.Common.{◌∙◌, ap, sym}
use Rattle.pj_repo.specs.Views.{machine_entry, machine_journal}
use Rattle.pj_repo.proofs.Journals.{own_view, prefix_map}
use Rattle.pj_repo.proofs.repo.Repo.pass.Goals as goal

pub returns-clause-fresh : goal.returns-clause-fresh
returns-clause-fresh g c = record {
  calls = ap (λ p. p.calls) c.pass.ensures.new;
  own = own_view c.pass.result ∙ ap machine_journal c.pass.ensures.new_own;
}

pub returns-clause-from_own : goal.returns-clause-from_own
returns-clause-from_own g c = own_view c.pass.new.from ∙ ap machine_journal c.pass.ensures.from_own ∙ sym (own_view c.args.from.now)

pub returns-clause-from_sees : goal.returns-clause-from_sees
returns-clause-from_sees g c = prefix_map machine_entry _ _ c.pass.ensures.from_sees

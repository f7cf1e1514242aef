use Rattle.std.proofs.Common.{List, ℕ, length, sym, ◌∙◌, ap}
use Rattle.pj_gen.specs.Requests.{AreScripts}
use Rattle.pj_load.proofs.Parting.{made_one}
use Rattle.pj_load.proofs.Played.{as_many_scripts}
use Rattle.pj_load.proofs.run.large_run.Goals as goal

pub hold-requires-clause-count : goal.hold-requires-clause-count
hold-requires-clause-count g c κs within =
    let are : AreScripts c.args.number c.args.changes c.args.sessions c.in_ok-scripts.scripts =
    made_one (AreScripts c.args.number c.args.changes c.args.sessions) c.scripts.result c.in_ok-scripts.scripts c.scripts.ensures (sym c.ok.ensures.value ∙ c.in_ok-scripts.was) in
    ap (λ (l : List (List ℕ)). length l) are.sessions_are ∙ as_many_scripts c.args.number c.args.changes c.args.sessions c.args.sessions

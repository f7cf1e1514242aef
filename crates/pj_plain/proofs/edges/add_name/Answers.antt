use Rattle.std.proofs.Common.{subst}
use Rattle.std.proofs.lemmas.Result.{on_ok_weaker}
use Rattle.pj_change.specs.declared.point.Point.{Point}
use Rattle.pj_change.specs.declared.point.Place.TheVariants.{At}
use Rattle.pj_change.specs.RealEdges.{IsFolder}
use Rattle.pj_change.specs.Gathers.{Gathers}
use Rattle.pj_change.specs.Shared.{records}
use Rattle.pj_change.proofs.GatheredEdges.{name_added}
use Rattle.pj_plain.proofs.edges.add_name.Goals as goal

pub returns : goal.returns
returns c =
    let S = records c.args.changes.now in
    let r = c.args.r.now in
    let name = c.args.name in
    let old = c.args.edges.now.items in
    let middle = c.add_folder.new.edges.items in
    let new = c.add_folder-2.new.edges.items in
    let into = subst (λ (p : Point). Gathers (IsFolder S r name c.args.parent (At p)) old middle) c.own_point.ensures c.in_ok-add_folder.ensures in
    on_ok_weaker c.add_folder-2.result
    (λ out. name_added S r name c.args.parent c.args.child old middle new into (subst (λ (p : Point). Gathers (IsFolder S r name (At p) c.args.child) middle new) c.own_point.ensures out))
    c.add_folder-2.ensures

use Rattle.std.proofs.Common.{◌++◌, ◌∷◌, [], List, sym, subst}
use Rattle.pj_name.specs.declared.name.Name.{Name}
use Rattle.pj_channel.specs.Ways.{IsWay}
use Rattle.pj_channel.proofs.Uprooting.{fewer_behind, way_more}
use Rattle.pj_channel.proofs.uproot.climb.Goals as goal

pub loop-holder-init : goal.loop-holder-init
loop-holder-init c = λ name w. w

pub loop-holder-smaller : goal.loop-holder-smaller
loop-holder-smaller c =
    fewer_behind c.args.tables.now c.list-list.ensures.lawful c.loop-holder.top c.in-Some.holder
    (c.in-Some.ensures.set c.args.tables.now c.deps-deps.ensures).one

pub loop-holder-preserved : goal.loop-holder-preserved
loop-holder-preserved c =
    λ name w.
    let h = (c.in-Some.ensures.set c.args.tables.now c.deps-deps.ensures).one in
    subst (λ (l : List Name). IsWay c.args.tables.now name (l ++ c.in-Some.holder ∷ [])) (sym c.in_ok-push.ensures.items)
    (way_more c.args.tables.now name c.loop-holder.way.items c.loop-holder.top c.in-Some.holder h (c.loop-holder.invariant name w))

pub returns-clause-way : goal.returns-clause-way
returns-clause-way c = λ name w. c.loop-holder.invariant name w

pub returns-clause-free : goal.returns-clause-free
returns-clause-free c = λ holder h. c.in_default.ensures.set c.args.tables.now c.deps-deps.ensures holder h

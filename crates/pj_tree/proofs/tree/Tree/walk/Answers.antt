use Rattle.std.proofs.Common.{refl, ◌∙◌}
use Rattle.std.proofs.lemmas.Result.{IfOk-weaker}
use Rattle.pj_tree.specs.Pairings.{ArePairings}
use Rattle.pj_tree.specs.Namespace.{namespace}
use Rattle.pj_tree.proofs.Wholes.{kinds_of}
use Rattle.pj_tree.proofs.GuideOf.{plan_of}
use Rattle.pj_tree.proofs.SetWalks.{walk-there}
use Rattle.pj_tree.proofs.tree.Tree.walk.Goals as goal

pub named-requires-clause-kinds : goal.named-requires-clause-kinds
named-requires-clause-kinds g c =
    let are : ArePairings (g.V.Lives.status c.args.lives.now) c.args.self.now.rows c.in_ok-pairings.pairings.items =
    rw (c.deref.ensures.value, c.in_ok-rows.ensures.same) at c.in_ok-pairings.ensures in
    rw (c.deref-2.ensures.value, c.in_ok-inodes.ensures.same, c.deref-3.ensures.value) (kinds_of c.args.self.now c.requires (g.V.Lives.status c.args.lives.now) c.in_ok-pairings.pairings.items are)

pub steps-requires-clause-sound : goal.steps-requires-clause-sound
steps-requires-clause-sound g c =
    let are : ArePairings (g.V.Lives.status c.args.lives.now) c.args.self.now.rows c.in_ok-pairings.pairings.items =
    rw (c.deref.ensures.value, c.in_ok-rows.ensures.same) at c.in_ok-pairings.ensures in
    record {
      pairings = rw c.deref-4.ensures.value are.sorted;
      inodes = rw c.deref-5.ensures.value c.in_ok-inodes.ensures.sorted;
      kinds = rw (c.deref-5.ensures.value, c.in_ok-inodes.ensures.same, c.deref-4.ensures.value)
          (kinds_of c.args.self.now c.requires (g.V.Lives.status c.args.lives.now) c.in_ok-pairings.pairings.items are);
    }

pub returns-clause-walk : goal.returns-clause-walk
returns-clause-walk g c =
    let are : ArePairings (g.V.Lives.status c.args.lives.now) c.args.self.now.rows c.in_ok-pairings.pairings.items =
    rw (c.deref.ensures.value, c.in_ok-rows.ensures.same) at c.in_ok-pairings.ensures in
    let N = namespace c.args.self.now (g.V.Lives.status c.args.lives.now) (g.V.Lives.live c.args.lives.now) in
    IfOk-weaker c.steps.result _ _ (λ w h. h N (plan_of N c.in_ok-pairings.pairings.items are _ c.deref-4.ensures.value (c.deref-5.ensures.value ∙ c.in_ok-inodes.ensures.same)) refl) c.steps.ensures

pub returns-clause-of_set : goal.returns-clause-of_set
returns-clause-of_set g c =
    let are : ArePairings (g.V.Lives.status c.args.lives.now) c.args.self.now.rows c.in_ok-pairings.pairings.items =
    rw (c.deref.ensures.value, c.in_ok-rows.ensures.same) at c.in_ok-pairings.ensures in
    let N = namespace c.args.self.now (g.V.Lives.status c.args.lives.now) (g.V.Lives.live c.args.lives.now) in
    IfOk-weaker c.steps.result _ _
    (λ w h S of. walk-there S N of _ (h N (plan_of N c.in_ok-pairings.pairings.items are _ c.deref-4.ensures.value (c.deref-5.ensures.value ∙ c.in_ok-inodes.ensures.same)) refl)) c.steps.ensures

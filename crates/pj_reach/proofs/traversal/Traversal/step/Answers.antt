use Rattle.std.proofs.Common.{◌≡◌, ◌+◌, ◌∷◌, ◌++◌, [], None, length, get_or, set, ◌∙◌, arith}
use Rattle.std.proofs.lemmas.List.{length_push}
use Rattle.pj_reach.specs.Links.{target}
use Rattle.pj_reach.specs.Traversals.{IsTraversal, HasTrees}
use Rattle.pj_reach.proofs.Traversing.{state, Follows, reopened, trees_reopened, read_next, read_follows, read_seen, finish_traversal, finish_trees, pass_trees, back_traversal, onward_traversal, onward_trees, follow_falls}
use Rattle.pj_reach.proofs.traversal.Traversal.step.Goals as goal

pub returns-in_ok-push-in-None-clause-traversal : goal.returns-in_ok-push-in-None-clause-traversal
returns-in_ok-push-in-None-clause-traversal c =
    let traversal : IsTraversal (length c.args.links.now.last.items) c.args.edges.now (state c.self.inside.seen.items c.self.inside.tree_of.items c.self.inside.next.items (c.self.inside.path.items ++ c.args.vertex ∷ []) c.self.inside.finished.items) = reopened (length c.args.links.now.last.items) c.args.edges.now c.args.vertex (state c.self.inside.seen.items c.self.inside.tree_of.items c.self.inside.next.items c.self.inside.path.items c.self.inside.finished.items) c.args.self.now c.self.view_is c.requires.traversal in
    let no_more : get_or c.self.inside.next.items c.args.vertex None ≡ None = read_next (length c.args.links.now.last.items) c.args.edges.now c.self.inside.seen.items c.self.inside.tree_of.items c.self.inside.next.items c.self.inside.path.items c.self.inside.finished.items c.args.vertex traversal c.index.result.now c.index.ensures ∙ c.in-None.is in
    rw c.in_ok-push-in-None.ensures.items (finish_traversal (length c.args.links.now.last.items) c.args.edges.now c.self.inside.seen.items c.self.inside.tree_of.items c.self.inside.next.items c.self.inside.path.items c.self.inside.finished.items c.args.vertex c.requires.graph traversal no_more)

pub returns-in_ok-push-in-None-clause-trees : goal.returns-in_ok-push-in-None-clause-trees
returns-in_ok-push-in-None-clause-trees c = λ roots tried was.
    let traversal : IsTraversal (length c.args.links.now.last.items) c.args.edges.now (state c.self.inside.seen.items c.self.inside.tree_of.items c.self.inside.next.items (c.self.inside.path.items ++ c.args.vertex ∷ []) c.self.inside.finished.items) = reopened (length c.args.links.now.last.items) c.args.edges.now c.args.vertex (state c.self.inside.seen.items c.self.inside.tree_of.items c.self.inside.next.items c.self.inside.path.items c.self.inside.finished.items) c.args.self.now c.self.view_is c.requires.traversal in
    let no_more : get_or c.self.inside.next.items c.args.vertex None ≡ None = read_next (length c.args.links.now.last.items) c.args.edges.now c.self.inside.seen.items c.self.inside.tree_of.items c.self.inside.next.items c.self.inside.path.items c.self.inside.finished.items c.args.vertex traversal c.index.result.now c.index.ensures ∙ c.in-None.is in
    let trees : HasTrees (length c.args.links.now.last.items) c.args.edges.now roots tried (c.args.tree + 1) (state c.self.inside.seen.items c.self.inside.tree_of.items c.self.inside.next.items (c.self.inside.path.items ++ c.args.vertex ∷ []) c.self.inside.finished.items) = trees_reopened (length c.args.links.now.last.items) c.args.edges.now roots tried (c.args.tree + 1) c.args.vertex (state c.self.inside.seen.items c.self.inside.tree_of.items c.self.inside.next.items c.self.inside.path.items c.self.inside.finished.items) c.args.self.now c.self.view_is was in
    rw c.in_ok-push-in-None.ensures.items (finish_trees (length c.args.links.now.last.items) c.args.edges.now c.self.inside.seen.items c.self.inside.tree_of.items c.self.inside.next.items c.self.inside.path.items c.self.inside.finished.items c.args.vertex roots tried (c.args.tree + 1) c.requires.graph traversal no_more trees)

pub returns-else-not-index-clause-traversal : goal.returns-else-not-index-clause-traversal
returns-else-not-index-clause-traversal c =
    let traversal : IsTraversal (length c.args.links.now.last.items) c.args.edges.now (state c.self.inside.seen.items c.self.inside.tree_of.items c.self.inside.next.items (c.self.inside.path.items ++ c.args.vertex ∷ []) c.self.inside.finished.items) = reopened (length c.args.links.now.last.items) c.args.edges.now c.args.vertex (state c.self.inside.seen.items c.self.inside.tree_of.items c.self.inside.next.items c.self.inside.path.items c.self.inside.finished.items) c.args.self.now c.self.view_is c.requires.traversal in
    let fol : Follows (length c.args.links.now.last.items) c.args.edges.now c.self.inside.next.items c.args.vertex c.in-Some.edge c.index-in-Some.result.now = read_follows (length c.args.links.now.last.items) c.args.edges.now c.self.inside.seen.items c.self.inside.tree_of.items c.self.inside.next.items c.self.inside.path.items c.self.inside.finished.items c.args.vertex traversal c.args.links.now.last.items c.args.links.now.earlier.items c.in-Some.edge c.index.result.now c.index-in-Some.result.now c.requires.graph c.requires.linked c.index.ensures c.in-Some.is c.index-in-Some.ensures in
    let was_read = read_seen (length c.args.links.now.last.items) c.args.edges.now c.self.inside.seen.items c.self.inside.tree_of.items c.self.inside.next.items c.self.inside.path.items c.self.inside.finished.items c.args.vertex traversal (target c.args.edges.now c.in-Some.edge) c.index-in-Some-2.result.now fol.to_in c.index-in-Some-2.ensures in
    rw c.in_ok-push-in-Some.ensures.items (back_traversal (length c.args.links.now.last.items) c.args.edges.now c.self.inside.seen.items c.self.inside.tree_of.items c.self.inside.next.items c.self.inside.path.items c.self.inside.finished.items c.args.vertex c.in-Some.edge c.args.tree c.index-in-Some.result.now traversal fol (was_read ∙ c.if-not-index.false))

pub returns-else-not-index-clause-trees : goal.returns-else-not-index-clause-trees
returns-else-not-index-clause-trees c = λ roots tried was.
    let trees : HasTrees (length c.args.links.now.last.items) c.args.edges.now roots tried (c.args.tree + 1) (state c.self.inside.seen.items c.self.inside.tree_of.items c.self.inside.next.items (c.self.inside.path.items ++ c.args.vertex ∷ []) c.self.inside.finished.items) = trees_reopened (length c.args.links.now.last.items) c.args.edges.now roots tried (c.args.tree + 1) c.args.vertex (state c.self.inside.seen.items c.self.inside.tree_of.items c.self.inside.next.items c.self.inside.path.items c.self.inside.finished.items) c.args.self.now c.self.view_is was in
    rw c.in_ok-push-in-Some.ensures.items (pass_trees (length c.args.links.now.last.items) c.args.edges.now roots tried (c.args.tree + 1) c.self.inside.seen.items c.self.inside.tree_of.items c.self.inside.next.items (set c.self.inside.next.items c.args.vertex c.index-in-Some.result.now) (c.self.inside.path.items ++ c.args.vertex ∷ []) c.self.inside.finished.items trees)

pub returns-else-not-index-clause-falls : goal.returns-else-not-index-clause-falls
returns-else-not-index-clause-falls c =
    let traversal : IsTraversal (length c.args.links.now.last.items) c.args.edges.now (state c.self.inside.seen.items c.self.inside.tree_of.items c.self.inside.next.items (c.self.inside.path.items ++ c.args.vertex ∷ []) c.self.inside.finished.items) = reopened (length c.args.links.now.last.items) c.args.edges.now c.args.vertex (state c.self.inside.seen.items c.self.inside.tree_of.items c.self.inside.next.items c.self.inside.path.items c.self.inside.finished.items) c.args.self.now c.self.view_is c.requires.traversal in
    let fol : Follows (length c.args.links.now.last.items) c.args.edges.now c.self.inside.next.items c.args.vertex c.in-Some.edge c.index-in-Some.result.now = read_follows (length c.args.links.now.last.items) c.args.edges.now c.self.inside.seen.items c.self.inside.tree_of.items c.self.inside.next.items c.self.inside.path.items c.self.inside.finished.items c.args.vertex traversal c.args.links.now.last.items c.args.links.now.earlier.items c.in-Some.edge c.index.result.now c.index-in-Some.result.now c.requires.graph c.requires.linked c.index.ensures c.in-Some.is c.index-in-Some.ensures in
    let falls = follow_falls (length c.args.links.now.last.items) c.args.edges.now c.self.inside.next.items c.args.vertex c.in-Some.edge c.index-in-Some.result.now traversal.placed.next_len fol in
    rw (← c.self.view_is, c.in_ok-push-in-Some.ensures.items) (omega (arith, falls))

pub returns-in_ok-enter-in-Some-clause-traversal : goal.returns-in_ok-enter-in-Some-clause-traversal
returns-in_ok-enter-in-Some-clause-traversal c =
    let traversal : IsTraversal (length c.args.links.now.last.items) c.args.edges.now (state c.self.inside.seen.items c.self.inside.tree_of.items c.self.inside.next.items (c.self.inside.path.items ++ c.args.vertex ∷ []) c.self.inside.finished.items) = reopened (length c.args.links.now.last.items) c.args.edges.now c.args.vertex (state c.self.inside.seen.items c.self.inside.tree_of.items c.self.inside.next.items c.self.inside.path.items c.self.inside.finished.items) c.args.self.now c.self.view_is c.requires.traversal in
    let fol : Follows (length c.args.links.now.last.items) c.args.edges.now c.self.inside.next.items c.args.vertex c.in-Some.edge c.index-in-Some.result.now = read_follows (length c.args.links.now.last.items) c.args.edges.now c.self.inside.seen.items c.self.inside.tree_of.items c.self.inside.next.items c.self.inside.path.items c.self.inside.finished.items c.args.vertex traversal c.args.links.now.last.items c.args.links.now.earlier.items c.in-Some.edge c.index.result.now c.index-in-Some.result.now c.requires.graph c.requires.linked c.index.ensures c.in-Some.is c.index-in-Some.ensures in
    let was_read = read_seen (length c.args.links.now.last.items) c.args.edges.now c.self.inside.seen.items c.self.inside.tree_of.items c.self.inside.next.items c.self.inside.path.items c.self.inside.finished.items c.args.vertex traversal (target c.args.edges.now c.in-Some.edge) c.index-in-Some-2.result.now fol.to_in c.index-in-Some-2.ensures in
    rw (c.in_ok-enter-in-Some.ensures, c.in_ok-push-in-Some.ensures.items) (onward_traversal (length c.args.links.now.last.items) c.args.edges.now c.self.inside.seen.items c.self.inside.tree_of.items c.self.inside.next.items c.self.inside.path.items c.self.inside.finished.items c.args.vertex c.in-Some.edge c.args.tree c.index-in-Some.result.now traversal fol (was_read ∙ c.if-not-index.true))

pub returns-in_ok-enter-in-Some-clause-trees : goal.returns-in_ok-enter-in-Some-clause-trees
returns-in_ok-enter-in-Some-clause-trees c = λ roots tried was.
    let traversal : IsTraversal (length c.args.links.now.last.items) c.args.edges.now (state c.self.inside.seen.items c.self.inside.tree_of.items c.self.inside.next.items (c.self.inside.path.items ++ c.args.vertex ∷ []) c.self.inside.finished.items) = reopened (length c.args.links.now.last.items) c.args.edges.now c.args.vertex (state c.self.inside.seen.items c.self.inside.tree_of.items c.self.inside.next.items c.self.inside.path.items c.self.inside.finished.items) c.args.self.now c.self.view_is c.requires.traversal in
    let fol : Follows (length c.args.links.now.last.items) c.args.edges.now c.self.inside.next.items c.args.vertex c.in-Some.edge c.index-in-Some.result.now = read_follows (length c.args.links.now.last.items) c.args.edges.now c.self.inside.seen.items c.self.inside.tree_of.items c.self.inside.next.items c.self.inside.path.items c.self.inside.finished.items c.args.vertex traversal c.args.links.now.last.items c.args.links.now.earlier.items c.in-Some.edge c.index.result.now c.index-in-Some.result.now c.requires.graph c.requires.linked c.index.ensures c.in-Some.is c.index-in-Some.ensures in
    let was_read = read_seen (length c.args.links.now.last.items) c.args.edges.now c.self.inside.seen.items c.self.inside.tree_of.items c.self.inside.next.items c.self.inside.path.items c.self.inside.finished.items c.args.vertex traversal (target c.args.edges.now c.in-Some.edge) c.index-in-Some-2.result.now fol.to_in c.index-in-Some-2.ensures in
    let trees : HasTrees (length c.args.links.now.last.items) c.args.edges.now roots tried (c.args.tree + 1) (state c.self.inside.seen.items c.self.inside.tree_of.items c.self.inside.next.items (c.self.inside.path.items ++ c.args.vertex ∷ []) c.self.inside.finished.items) = trees_reopened (length c.args.links.now.last.items) c.args.edges.now roots tried (c.args.tree + 1) c.args.vertex (state c.self.inside.seen.items c.self.inside.tree_of.items c.self.inside.next.items c.self.inside.path.items c.self.inside.finished.items) c.args.self.now c.self.view_is was in
    rw (c.in_ok-enter-in-Some.ensures, c.in_ok-push-in-Some.ensures.items) (onward_trees (length c.args.links.now.last.items) c.args.edges.now c.self.inside.seen.items c.self.inside.tree_of.items c.self.inside.next.items c.self.inside.path.items c.self.inside.finished.items c.args.vertex c.in-Some.edge c.args.tree c.index-in-Some.result.now traversal fol (was_read ∙ c.if-not-index.true) roots tried trees)

pub returns-in_ok-enter-in-Some-clause-falls : goal.returns-in_ok-enter-in-Some-clause-falls
returns-in_ok-enter-in-Some-clause-falls c =
    let traversal : IsTraversal (length c.args.links.now.last.items) c.args.edges.now (state c.self.inside.seen.items c.self.inside.tree_of.items c.self.inside.next.items (c.self.inside.path.items ++ c.args.vertex ∷ []) c.self.inside.finished.items) = reopened (length c.args.links.now.last.items) c.args.edges.now c.args.vertex (state c.self.inside.seen.items c.self.inside.tree_of.items c.self.inside.next.items c.self.inside.path.items c.self.inside.finished.items) c.args.self.now c.self.view_is c.requires.traversal in
    let fol : Follows (length c.args.links.now.last.items) c.args.edges.now c.self.inside.next.items c.args.vertex c.in-Some.edge c.index-in-Some.result.now = read_follows (length c.args.links.now.last.items) c.args.edges.now c.self.inside.seen.items c.self.inside.tree_of.items c.self.inside.next.items c.self.inside.path.items c.self.inside.finished.items c.args.vertex traversal c.args.links.now.last.items c.args.links.now.earlier.items c.in-Some.edge c.index.result.now c.index-in-Some.result.now c.requires.graph c.requires.linked c.index.ensures c.in-Some.is c.index-in-Some.ensures in
    let falls = follow_falls (length c.args.links.now.last.items) c.args.edges.now c.self.inside.next.items c.args.vertex c.in-Some.edge c.index-in-Some.result.now traversal.placed.next_len fol in
    rw (c.in_ok-enter-in-Some.ensures, ← c.self.view_is, c.in_ok-push-in-Some.ensures.items) (let more = length_push (c.self.inside.path.items ++ c.args.vertex ∷ []) (target c.args.edges.now c.in-Some.edge) in omega (arith, falls, more))

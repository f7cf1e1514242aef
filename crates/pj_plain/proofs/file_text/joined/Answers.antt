use Rattle.std.proofs.Common.{◌≡◌, ℕ, Bool, List, map, sym, ◌∙◌, subst}
use Rattle.std.specs.Prelude.{Contains, ◌↔◌}
use Rattle.std.proofs.lemmas.Result.{IfOk-weaker}
use Rattle.pj_reach.specs.Across.{AreJoined}
use Rattle.pj_reach.specs.Reach.{AreEdgesBelow}
use Rattle.pj_print.proofs.JoinedTexts.{pairs_below}
use Rattle.pj_plain.specs.Links.{AreLinked, AreLinks}
use Rattle.pj_change.specs.Shared.{records}
use Rattle.pj_plain.proofs.Joins.{is_dead, joins_told}
use Rattle.pj_plain.proofs.file_text.joined.Goals as goal

pub across-requires-clause-graph : goal.across-requires-clause-graph
across-requires-clause-graph c =
    let vs = c.args.set.now.vertices.now in
    let links = c.deref.result.now in
    let linked : AreLinks vs c.args.edges.now links = subst (AreLinks vs c.args.edges.now) (sym c.deref.ensures.value) c.in_ok-links.ensures in
    subst (λ n. AreEdgesBelow n links) (sym c.in-Ok.ensures.1) (pairs_below (AreLinked c.args.edges.now) vs links linked)

pub returns-clause-joins : goal.returns-clause-joins
returns-clause-joins c =
    let vs = c.args.set.now.vertices.now in
    let links = c.deref.result.now in
    let flags = c.deref-2.result.now in
    let linked : AreLinks vs c.args.edges.now links = subst (AreLinks vs c.args.edges.now) (sym c.deref.ensures.value) c.in_ok-links.ensures in
    let flagged : flags ≡ map is_dead vs = c.deref-2.ensures.value ∙ c.in_ok-dead.ensures in
    IfOk-weaker c.across.result _ _
    (λ pairs told. joins_told (records c.args.set.now.changes.now) vs c.args.edges.now links c.requires.vertices c.requires.edges linked pairs.items
    (subst (λ (fs : List Bool). (a b : ℕ) → Contains pairs.items (a, b) ↔ AreJoined links fs a b) flagged told)) c.across.ensures

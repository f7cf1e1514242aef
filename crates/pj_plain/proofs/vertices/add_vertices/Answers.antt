use Rattle.std.proofs.Common.{◌≡◌, ap, ◌∙◌, length, arith}
use Rattle.pj_change.specs.Positions.{place}
use Rattle.pj_change.specs.Shared.{records}
use Rattle.pj_change.proofs.GatheredVertices.{below_same, below_more, below_all}
use Rattle.pj_plain.proofs.vertices.add_vertices.Goals.{in-Some+in_ok-push, in_default}
use Rattle.pj_plain.proofs.vertices.add_vertices.Goals as goal

pub loop-start-preserved : goal.loop-start-preserved
loop-start-preserved c =
    let S = records c.args.changes.now in
    let owner = c.args.owner.now in
    let old = c.args.vertices.now.items in
    let middle = c.loop-start.vertices.items in
    elim c.match-vertex_at.branch [
      | in-Some+in_ok-push w ↦ (
          let found = w.in-Some.ensures in
          rw w.vertices-is (below_more S owner c.loop-start.start w.in-Some.vertex old middle w.push.new.self.items found.0 found.1 w.in_ok-push.ensures.items c.loop-start.invariant))
      | in_default w ↦ rw w.vertices-is (below_same S owner c.loop-start.start old middle w.in_default.ensures c.loop-start.invariant)
    ]

pub returns : goal.returns
returns c =
    let hunks = c.args.owner.now.change.hunks in
    let all : c.loop-start.start ≡ c.place-position_count.result = omega arith in
    let e : c.loop-start.start ≡ place hunks (length hunks) = all ∙ c.place-position_count.ensures ∙ ap (λ hs. place hunks (length hs)) c.items.ensures in
    below_all (records c.args.changes.now) c.args.owner.now c.loop-start.start c.args.vertices.now.items c.loop-start.vertices.items e c.loop-start.invariant

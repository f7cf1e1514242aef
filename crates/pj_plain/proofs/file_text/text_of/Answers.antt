use Rattle.std.proofs.Common.{◌≡◌, ◌≤◌, ℕ, [], Bool, length, filter, sym, ◌∙◌, ap, subst, arith}
use Rattle.std.specs.Prelude.{Option}
use Rattle.std.proofs.lemmas.Result.{IfOk-weaker}
use Rattle.pj_change.specs.declared.graph.Vertex.{Vertex}
use Rattle.pj_change.specs.AcrossDead.{IsAcross}
use Rattle.pj_change.specs.Before.{Leads, IsDeadText}
use Rattle.pj_change.specs.FileText.{IsLiveList}
use Rattle.pj_change.specs.Gathers.{Gathers, IsOfOne}
use Rattle.pj_change.proofs.LawfulLists.{set_of}
use Rattle.pj_reach.specs.Reach.{AreEdgesBelow}
use Rattle.pj_print.specs.JoinedPairs.{ArePairsOf, ArePieces}
use Rattle.pj_print.specs.Pieces.{piece_at}
use Rattle.pj_print.proofs.JoinedTexts.{pairs_below}
use Rattle.pj_print.proofs.Joinings.{across_tells}
use Rattle.pj_plain.specs.Links.{ArePlaces, IsPlaced, JoinsAcross}
use Rattle.pj_plain.specs.LiveText.{is_live_in}
use Rattle.pj_change.specs.Shared.{records}
use Rattle.pj_plain.proofs.FileTexts.{pieces_told, edges_joined}
use Rattle.pj_plain.proofs.LiveTexts.{live_listed}
use Rattle.pj_plain.proofs.Places.{count_low}
use Rattle.pj_plain.proofs.file_text.text_of.Goals as goal

pub placed_pairs-requires : goal.placed_pairs-requires
placed_pairs-requires c =
    let vs = c.args.set.now.vertices.now in
    let pairs = c.args.pairs.now in
    let size : length c.deref.result.now ≡ length vs = ap (length {A = Option ℕ}) c.deref.ensures.value ∙ c.in_ok-places.ensures.size in
    subst (λ n. AreEdgesBelow n pairs) (sym size) (pairs_below (JoinsAcross (records c.args.set.now.changes.now)) vs pairs c.requires.joins)

pub joined_text-requires-clause-small : goal.joined_text-requires-clause-small
joined_text-requires-clause-small c =
    let vs = c.args.set.now.vertices.now in
    let test : Vertex → Bool = is_live_in (records c.args.set.now.changes.now) c.args.inode in
    let low : length (filter test vs) ≤ length vs = count_low test vs in
    let size : length c.deref-3.result.now ≡ length (filter test vs) = ap (length {A = Vertex}) (c.deref-3.ensures.value ∙ c.in_ok-live.ensures) in
    omega (arith, low, size, c.requires.small)

pub joined_text-requires-clause-pairs : goal.joined_text-requires-clause-pairs
joined_text-requires-clause-pairs c =
    let S = records c.args.set.now.changes.now in
    let inode = c.args.inode in
    let vs = c.args.set.now.vertices.now in
    let pairs = c.args.pairs.now in
    let places = c.deref.result.now in
    let edges = c.deref-4.result.now in
    let test : Vertex → Bool = is_live_in S inode in
    let same : c.deref-3.result.now ≡ filter test vs = c.deref-3.ensures.value ∙ c.in_ok-live.ensures in
    let placed : ArePlaces test vs places = subst (ArePlaces test vs) (sym c.deref.ensures.value) c.in_ok-places.ensures in
    let are : Gathers (IsOfOne (IsPlaced places) pairs) [] edges = subst (Gathers (IsOfOne (IsPlaced places) pairs) []) (sym c.deref-4.ensures.value) c.in_ok-edges.ensures in
    subst (λ live. ArePairsOf (IsAcross (Leads S) (IsDeadText S)) live edges) (sym same) (edges_joined S inode vs c.requires.vertices pairs c.requires.joins places placed edges are)

pub returns : goal.returns
returns c =
    let S = records c.args.set.now.changes.now in
    let inode = c.args.inode in
    let vs = c.args.set.now.vertices.now in
    let test : Vertex → Bool = is_live_in S inode in
    let same : c.deref-3.result.now ≡ filter test vs = c.deref-3.ensures.value ∙ c.in_ok-live.ensures in
    let written : c.deref-2.result.now ≡ filter test vs = c.deref-2.ensures.value ∙ c.in_ok-live.ensures in
    let live_are : IsLiveList S inode c.deref-3.result.now = subst (IsLiveList S inode) (sym same) (live_listed S vs c.requires.vertices inode) in
    let pieces : ArePieces S c.deref-3.result.now (piece_at S c.deref-2.result.now) =
    subst (λ live. ArePieces S live (piece_at S c.deref-2.result.now)) (sym same) (subst (λ live. ArePieces S (filter test vs) (piece_at S live)) (sym written) (pieces_told S inode vs c.requires.vertices)) in
    IfOk-weaker c.joined_text.result _ _ (λ text h. h S inode live_are (across_tells S (set_of S c.requires.lawful) inode) pieces) c.joined_text.ensures

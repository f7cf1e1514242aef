use Rattle.std.proofs.Common.{◌≡◌, ◌∙◌, [], length, refl, sym, subst, arith}
use Rattle.std.specs.Prelude.{Some, slice_get}
use Rattle.std.proofs.lemmas.Option.{slice_get_read}
use Rattle.pj_change.proofs.Gathering.{numbers_more, numbers_all}
use Rattle.pj_change.proofs.ListNumbers.{numbered_member}
use Rattle.pj_edges.specs.Rows.{Rows}
use Rattle.pj_edges.specs.OwnRows.{AreRowsOf}
use Rattle.pj_output.specs.Pairs.{IsPairFrom}
use Rattle.pj_output.proofs.JoinedLive.{pairs_told, from_added}
use Rattle.pj_output.proofs.pairs.pairs_of.Goals as goal

pub add_pairs-requires-clause-text : goal.add_pairs-requires-clause-text
add_pairs-requires-clause-text c =
    let live = c.args.live.now in
    let u = c.index-live-from.result in
    c.requires.text u (numbered_member live c.loop-from.from u (slice_get_read live (length live) c.loop-from.from u refl c.loop-from-test.true c.index-live-from.is))

pub add_pairs-requires-clause-edges : goal.add_pairs-requires-clause-edges
add_pairs-requires-clause-edges c =
    subst (λ (rows : Rows). AreRowsOf c.args.tables.now rows) (sym (c.loop-from.invariant.same ∙ c.walk_out-walk.ensures)) c.edges.ensures

pub loop-from-preserved : goal.loop-from-preserved
loop-from-preserved c =
    let S = c.args.tables.now in
    let rows = c.args.pseudo.now in
    let live = c.args.live.now in
    let from = c.loop-from.from in
    let u = c.index-live-from.result in
    let there : slice_get live from ≡ Some u = slice_get_read live (length live) from u refl c.loop-from-test.true c.index-live-from.is in
    record {
      same = c.add_pairs.ensures.same ∙ c.loop-from.invariant.same;
      pairs = numbers_more (IsPairFrom S rows live) from [] c.loop-from.pairs.items c.add_pairs.new.pairs.items c.loop-from.invariant.pairs
          (from_added S rows live from u there c.loop-from.pairs.items c.add_pairs.new.pairs.items c.in_ok-add_pairs.ensures.pairs);
    }

pub returns : goal.returns
returns c =
    let live = c.args.live.now in
    let all : length live ≡ c.loop-from.from = omega arith in
    pairs_told c.args.tables.now c.list-list.ensures.lawful c.args.pseudo.now c.requires.rows live c.requires.text c.loop-from.pairs.items
    (numbers_all (IsPairFrom c.args.tables.now c.args.pseudo.now live) c.loop-from.from (length live) all [] c.loop-from.pairs.items c.loop-from.invariant.pairs)

use Rattle.std.proofs.Common.{◌∙◌, refl, sym, ap, subst}
use Rattle.std.specs.Prelude.{filter_map}
use Rattle.pj_rows.specs.Keys.{keys_in}
use Rattle.pj_contest.specs.Marks.{base_cmp, base_row}
use Rattle.pj_contest.specs.Given.{bases}
use Rattle.pj_contest.specs.Rivals.{AreRivals, NameOnly, is_name_rival}
use Rattle.pj_contest.proofs.MarkOrder.{base_low, base_high, base_total, base_tied}
use Rattle.pj_contest.proofs.Named.{apart_pairs}
use Rattle.pj_contest.proofs.RivalRows.{names_only, name_rows}
use Rattle.pj_contest.proofs.rivals.name_rivals.Goals as goal

pub count_strangers-requires-clause-named : goal.count_strangers-requires-clause-named
count_strangers-requires-clause-named g c =
    let S = g.P.Peers.records c.args.peers.now in
    let keys = c.deref.ensures.value ∙ c.in_ok-rows.ensures.same in
    subst (NameOnly S) (sym (c.deref-2.ensures.value ∙ c.in_ok-names.ensures ∙ ap (filter_map (λ m. m.by)) keys))
    (names_only base_cmp base_total base_tied (λ m. m.by) base_row (λ at n. refl) bases S c.args.bases.now c.in_ok-rows.ensures.rising c.requires.rows (base_low c.key_of-at.result) (base_high c.key_of-at.result))

pub returns : goal.returns
returns g c =
    let S = g.P.Peers.records c.args.peers.now in
    let r = c.args.change.now in
    let keys = c.deref.ensures.value ∙ c.in_ok-rows.ensures.same ∙ ap (λ k. keys_in base_cmp (base_low k) (base_high k) c.args.bases.now) c.key_of-at.ensures in
    c.in_ok-count.ensures (is_name_rival r c.args.child)
    (subst (λ names. AreRivals S r names (is_name_rival r c.args.child)) (sym (c.deref-2.ensures.value ∙ c.in_ok-names.ensures ∙ ap (filter_map (λ m. m.by)) keys))
    (name_rows S (apart_pairs S (g.met.P.Peers.distinct c.args.peers.now)) c.args.bases.now c.in_ok-rows.ensures.rising
    c.requires.rows r c.args.child))

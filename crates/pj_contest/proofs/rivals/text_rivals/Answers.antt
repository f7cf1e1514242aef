use Rattle.std.proofs.Common.{◌∙◌, refl, sym, ap, subst}
use Rattle.std.specs.Prelude.{filter_map}
use Rattle.pj_contest.specs.Marks.{up_cmp, up_row}
use Rattle.pj_contest.specs.Given.{up_points}
use Rattle.pj_contest.specs.Rivals.{AreRivals, NameOnly, is_text_rival}
use Rattle.pj_contest.proofs.MarkOrder.{up_bound, up_total, up_tied}
use Rattle.pj_contest.proofs.Named.{apart_pairs}
use Rattle.pj_contest.proofs.RivalRows.{names_only, text_rows}
use Rattle.pj_contest.proofs.rivals.text_rivals.Goals as goal

pub count_strangers-requires-clause-named : goal.count_strangers-requires-clause-named
count_strangers-requires-clause-named g c =
    let S = g.P.Peers.records c.args.peers.now in
    let keys = c.deref.ensures.value ∙ c.in_ok-rows.ensures.same in
    subst (NameOnly S) (sym (c.deref-2.ensures.value ∙ c.in_ok-names.ensures ∙ ap (filter_map (λ m. m.by)) keys))
    (names_only up_cmp up_total up_tied (λ m. m.by) up_row (λ at n. refl) up_points S c.args.ups.now c.in_ok-rows.ensures.rising c.requires.rows
    (up_bound (record { change = c.args.name; offset = c.args.start })) (up_bound (record { change = c.args.name; offset = c.args.end })))

pub returns : goal.returns
returns g c =
    let S = g.P.Peers.records c.args.peers.now in
    let r = c.args.change.now in
    let keys = c.deref.ensures.value ∙ c.in_ok-rows.ensures.same in
    c.in_ok-count.ensures (is_text_rival r c.args.name c.args.start c.args.end)
    (subst (λ names. AreRivals S r names (is_text_rival r c.args.name c.args.start c.args.end)) (sym (c.deref-2.ensures.value ∙ c.in_ok-names.ensures ∙ ap (filter_map (λ m. m.by)) keys))
    (text_rows S (apart_pairs S (g.met.P.Peers.distinct c.args.peers.now)) c.args.ups.now c.in_ok-rows.ensures.rising
    c.requires.rows r c.args.name c.args.start c.args.end))

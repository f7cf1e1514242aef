use Rattle.std.proofs.Common.{◌∙◌, length, ap, subst, arith}
use Rattle.std.specs.Prelude.{Contains, ◌≢◌, filter}
use Rattle.std.proofs.lemmas.List.Kept.{IsStrictlySortedBy-filter}
use Rattle.pj_name.specs.Name.{name_cmp}
use Rattle.pj_change.proofs.EqualNames.{name_tied}
use Rattle.pj_change.proofs.Listings.{related_pairs}
use Rattle.pj_change.proofs.PickedMembers.{passed, kept}
use Rattle.pj_contest.specs.Rivals.{is_stranger_of}
use Rattle.pj_contest.proofs.NamedCounts.{names_count}
use Rattle.pj_contest.proofs.RivalRows.{rival_names, names_of_rivals}
use Rattle.pj_contest.proofs.strangers.count_strangers.Goals as goal

pub distinct-requires : goal.distinct-requires
distinct-requires g c = name_tied

pub strangers-requires-clause-held : goal.strangers-requires-clause-held
strangers-requires-clause-held g c = λ n m.
    c.requires.named n ((c.in_ok-each.ensures.same n).0 (subst (λ ks. Contains ks n) c.deref.ensures.value m))

pub returns : goal.returns
returns g c = λ p are.
    let S = g.P.Peers.records c.args.peers.now in
    let r = c.args.change.now in
    let names = c.args.names.now in
    let is = is_stranger_of S r in
    let each = c.in_ok-each.each.items in
    let rivals = c.in_ok-rivals.ensures ∙ ap (filter is) c.deref.ensures.value in
    let count = names_count S (related_pairs (λ r s. r.name ≢ s.name) S (g.met.P.Peers.distinct c.args.peers.now)) p (filter is each) (IsStrictlySortedBy-filter name_cmp is each c.in_ok-each.ensures.sorted)
    (λ n. (
      λ m. (let k = passed is each n m in rival_names S r names p are n ((c.in_ok-each.ensures.same n).0 k.member, k.passes)),
      λ h. (let k = names_of_rivals S r names p are n h in kept is each n ((c.in_ok-each.ensures.same n).1 k.0) k.1),
    )) in
    let len = c.len.ensures in
    let same = ap length rivals in
    omega arith

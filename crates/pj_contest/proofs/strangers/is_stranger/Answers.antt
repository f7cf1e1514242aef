use Rattle.std.proofs.Common.{◌≡◌, true, false, not, ⊎_elim, sym, ap, ◌∙◌}
use Rattle.std.specs.Prelude.{IsTrue}
use Rattle.pj_name.specs.Name.{same_name}
use Rattle.pj_change.specs.Parts.{knows}
use Rattle.pj_change.proofs.EqualNames.{same_name_is, is_same_name}
use Rattle.pj_contest.specs.Sought.{KnowNoMore}
use Rattle.pj_contest.proofs.Named.{apart_pairs}
use Rattle.pj_contest.proofs.Strange.{own_none, listed_none, held_other, other_is, unlisted}
use Rattle.pj_contest.proofs.strangers.is_stranger.Goals.{then-eq-via-then-eq, then-eq-via-else-eq+then-knows}
use Rattle.pj_contest.proofs.strangers.is_stranger.Goals as goal

pub returns-then-eq-clause-stranger : goal.returns-then-eq-clause-stranger
returns-then-eq-clause-stranger g c =
    let S = c.args.owners.now in
    let i = c.args.change.now in
    elim c.then-eq.branch [
      | then-eq-via-then-eq w ↦ sym (own_none S i c.requires.fresh c.args.name (same_name_is c.args.name i.name (sym c.eq.ensures ∙ w.if-eq.true)))
      | then-eq-via-else-eq+then-knows w ↦ sym (listed_none S i c.args.name (sym w.knows.ensures ∙ w.if-knows.true))
    ]

pub returns-then-not-know_more-clause-stranger : goal.returns-then-not-know_more-clause-stranger
returns-then-not-know_more-clause-stranger g c =
    let S = c.args.owners.now in
    let i = c.args.change.now in
    let n = c.args.name in
    let no : same_name n i.name ≡ false = sym c.eq.ensures ∙ c.if-eq.false in
    let other : n ≡ i.name → ⊥ = λ e. (let t : same_name n i.name ≡ true = is_same_name n i.name e in cc) in
    let unknown : knows i n ≡ false = sym c.knows.ensures ∙ c.if-knows.false in
    let less : KnowNoMore S = ⊎_elim (λ (t : IsTrue c.args.know_more). absurd (let f : c.args.know_more ≡ false = c.if-not-know_more.true in cc)) (λ (l : KnowNoMore S). l) c.requires.know_more in
    let d = held_other S i n c.requires.held other in
    sym (other_is S i (apart_pairs S c.requires.distinct) n d.0 d.1 d.2 other unknown ∙ ap not (unlisted S i c.requires.free less d.0 d.1))

pub returns-in-Some-clause-stranger : goal.returns-in-Some-clause-stranger
returns-in-Some-clause-stranger g c =
    let S = c.args.owners.now in
    let i = c.args.change.now in
    let n = c.args.name in
    let no : same_name n i.name ≡ false = sym c.eq.ensures ∙ c.if-eq.false in
    let other : n ≡ i.name → ⊥ = λ e. (let t : same_name n i.name ≡ true = is_same_name n i.name e in cc) in
    let unknown : knows i n ≡ false = sym c.knows.ensures ∙ c.if-knows.false in
    ap not c.knows-in-Some.ensures ∙ sym (other_is S i (apart_pairs S c.requires.distinct) n c.in-Some.i.now c.in-Some.ensures.found.0 c.in-Some.ensures.found.1 other unknown)

use Rattle.std.proofs.Common.{◌∙◌, List, sym, ap, subst}
use Rattle.std.specs.Prelude.{Some, count_by}
use Rattle.pj_change.specs.declared.change.Record.{Record}
use Rattle.pj_change.specs.Lawful.{is_held}
use Rattle.pj_change.specs.Contested.{opposes}
use Rattle.pj_change.proofs.Counting.{count_alike}
use Rattle.pj_contest.specs.Contests.{IsFree}
use Rattle.pj_contest.specs.Rivals.{is_rival_of, is_text_rival, is_name_rival}
use Rattle.pj_contest.proofs.Named.{apart_pairs}
use Rattle.pj_contest.proofs.Counting.{count_none}
use Rattle.pj_contest.proofs.RivalRows.{rival_is, rival_none, opposes_text, opposes_name, opposes_none}
use Rattle.pj_contest.proofs.rivals.rivals.Goals as goal

pub text_rivals-requires-clause-free : goal.text_rivals-requires-clause-free
text_rivals-requires-clause-free g c = subst (λ (l : List Record). IsFree l c.args.change.now) (sym c.peers-peers.ensures) c.requires.free

pub name_rivals-requires-clause-free : goal.name_rivals-requires-clause-free
name_rivals-requires-clause-free g c = subst (λ (l : List Record). IsFree l c.args.change.now) (sym c.peers-peers.ensures) c.requires.free

pub returns-in-None-clause-count : goal.returns-in-None-clause-count
returns-in-None-clause-count g c =
    let S = c.args.owners.now in
    sym (count_none (is_rival_of S c.args.change.now c.args.owner c.args.start c.args.end) S
    (rival_none S c.args.change.now c.args.owner c.args.start c.args.end (ap (is_held S) (sym c.name_of-name.ensures) ∙ c.in-None.ensures.found)))

pub returns-in-None-deleted_at-clause-count : goal.returns-in-None-deleted_at-clause-count
returns-in-None-deleted_at-clause-count g c =
    let S = c.args.owners.now in
    let r = c.args.change.now in
    let o = c.in-Some.o.now in
    sym (count_none (is_rival_of S r c.args.owner c.args.start c.args.end) S
    (λ i. rival_is S (apart_pairs S c.in-Some.ensures.distinct) r c.args.owner c.args.start c.args.end o c.in-Some.ensures.found.0 (c.in-Some.ensures.found.1 ∙ c.name_of-name.ensures) i
    ∙ ap (opposes i r o.name c.args.start c.args.end) (sym c.deleted_at.ensures ∙ c.in-None-deleted_at.is) ∙ opposes_none i r o.name c.args.start c.args.end))

pub returns-in_ok-texts-in-Some-Text-clause-count : goal.returns-in_ok-texts-in-Some-Text-clause-count
returns-in_ok-texts-in-Some-Text-clause-count g c =
    let S = c.args.owners.now in
    let r = c.args.change.now in
    let o = c.in-Some.o.now in
    let are = is_text_rival r c.name_of-name.result c.args.start c.args.end in
    c.in_ok-texts-in-Some-Text.ensures ∙ ap (count_by are) c.peers-peers.ensures ∙ sym (count_alike (is_rival_of S r c.args.owner c.args.start c.args.end) are S
    (λ i m. rival_is S (apart_pairs S c.in-Some.ensures.distinct) r c.args.owner c.args.start c.args.end o c.in-Some.ensures.found.0 (c.in-Some.ensures.found.1 ∙ c.name_of-name.ensures) i
    ∙ ap (opposes i r o.name c.args.start c.args.end) (sym c.deleted_at.ensures ∙ c.in-Some-Text.is ∙ ap Some c.in-Some-Text.field-0-is) ∙ opposes_text i r o.name c.args.start c.args.end
    ∙ ap (λ n. is_text_rival r n c.args.start c.args.end i) c.in-Some.ensures.found.1))

pub returns-in_ok-names-in-Some-NameOf-clause-count : goal.returns-in_ok-names-in-Some-NameOf-clause-count
returns-in_ok-names-in-Some-NameOf-clause-count g c =
    let S = c.args.owners.now in
    let r = c.args.change.now in
    let o = c.in-Some.o.now in
    let are = is_name_rival r c.in-Some-NameOf.child in
    c.in_ok-names-in-Some-NameOf.ensures ∙ ap (count_by are) c.peers-peers.ensures ∙ sym (count_alike (is_rival_of S r c.args.owner c.args.start c.args.end) are S
    (λ i m. rival_is S (apart_pairs S c.in-Some.ensures.distinct) r c.args.owner c.args.start c.args.end o c.in-Some.ensures.found.0 (c.in-Some.ensures.found.1 ∙ c.name_of-name.ensures) i
    ∙ ap (opposes i r o.name c.args.start c.args.end) (sym c.deleted_at.ensures ∙ c.in-Some-NameOf.is ∙ ap Some c.in-Some-NameOf.field-0-is) ∙ opposes_name i r o.name c.args.start c.args.end c.in-Some-NameOf.child))

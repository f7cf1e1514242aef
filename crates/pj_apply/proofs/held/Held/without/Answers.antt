use Rattle.std.proofs.Common.{◌≡◌, ◌∙◌, sym, ap, subst, true, List, length, Option, Some, None}
use Rattle.pj_name.specs.declared.name.Name.{Name}
use Rattle.pj_change.specs.declared.change.Record.{Record}
use Rattle.pj_change.specs.Lawful.{is_held}
use Rattle.pj_change.specs.Unrecord.{without}
use Rattle.pj_apply.specs.Links.{link_of, listed, moved_end, shown_link, IsKept}
use Rattle.pj_apply.proofs.Kept.{link_there, kept_listed, listed_is, taken_out}
use Rattle.pj_apply.proofs.held.Held.without.Given as given
use Rattle.pj_apply.proofs.held.Held.without.Goals as goal

pub returns-in_default-clause-same : goal.returns-in_default-clause-same
returns-in_default-clause-same g c = absurd (link_there c.args.self c.args.name c.requires c.in_default.ensures)

kept : (g : given.Over) (c : goal.After-moved_end-2 g) →
    IsKept (without (listed c.self.inside.links (length c.self.inside.links) c.self.inside.first) c.args.name) c.in_ok-links-3.links c.moved_end.result c.moved_end-2.result
kept g c =
    let old = c.self.inside in
    let list = listed old.links (length old.links) old.first in
    let name = c.args.name in
    let l = shown_link c.in-Some.link.now in
    let there : is_held list name ≡ true = subst (λ (k : List Record). is_held k name ≡ true) (sym c.self.view_is) c.requires in
    let linked : link_of None list None name ≡ Some l = subst (λ (k : List Record). link_of None k None name ≡ Some l) (sym c.self.view_is) c.in-Some.ensures in
    let done = taken_out old.links c.in_ok-links.links c.in_ok-links-2.links c.in_ok-links-3.links old.first old.last l list name c.self.invariant there linked
    c.in_ok-links.ensures.same c.in_ok-links-2.ensures.set c.in_ok-links-3.ensures.set in
    subst (λ (e : Option Name). IsKept (without list name) c.in_ok-links-3.links c.moved_end.result e) (sym c.moved_end-2.ensures)
    (subst (λ (e : Option Name). IsKept (without list name) c.in_ok-links-3.links e (moved_end l.after l.before old.last)) (sym c.moved_end.ensures) done)

pub invariant_of-result : goal.invariant_of-result
invariant_of-result g c = kept_listed _ _ _ _ (kept g c)

pub returns-clause-same : goal.returns-clause-same
returns-clause-same g c = listed_is _ _ _ _ (kept g c) ∙ ap (λ (k : List Record). without k c.args.name) c.self.view_is

use Rattle.std.proofs.Common.{◌≡◌, ◌∙◌, sym, ap, subst, false, List, [], ◌∷◌, ◌++◌, length, Option, Some, None}
use Rattle.std.specs.Ptr.{null_ptr}
use Rattle.std.specs.Arc.{arc_value}
use Rattle.std.specs.declared.alloc.Global.{Global}
use Rattle.std.specs.declared.sync.Arc.{Arc}
use Rattle.pj_name.specs.declared.name.Name.{Name}
use Rattle.pj_change.specs.declared.change.Record.{Record}
use Rattle.pj_change.specs.Lawful.{is_held}
use Rattle.pj_pmap.specs.Pairs.{with_pair}
use Rattle.pj_apply.specs.Links.{key, key_cmp, link, listed, IsKept}
use Rattle.pj_apply.proofs.Kept.{kept_more, kept_listed, listed_is}
use Rattle.pj_apply.proofs.held.Held.with.Given as given
use Rattle.pj_apply.proofs.held.Held.with.Goals as goal

kept : (g : given.Over) (c : goal.After-moved_end g) →
    IsKept (listed c.self.inside.links (length c.self.inside.links) c.self.inside.first ++ c.deref.result.now ∷ []) c.in_ok-links-2.links c.moved_end.result (Some c.deref.result.now.name)
kept g c =
    let old = c.self.inside in
    let list = listed old.links (length old.links) old.first in
    let r = c.deref.result.now in
    let shared : Record → Arc Record Global = λ x. record { ptr = null_ptr; value = x } in
    let more : c.in_ok-links.links ≡ with_pair key_cmp (key r.name) (link r old.last None) old.links =
    c.in_ok-links.ensures.same
    ∙ ap (λ (a : Arc Record Global). with_pair key_cmp (key r.name) (record { change = a; before = old.last; after = None }) old.links)
    (c.in_ok-share.ensures ∙ ap shared (sym c.deref.ensures)) in
    let fresh : is_held list r.name ≡ false =
    subst (λ (x : Record). is_held list x.name ≡ false) (sym c.deref.ensures)
    (subst (λ (l : List Record). is_held l (arc_value c.args.change.now).name ≡ false) (sym c.self.view_is) c.requires) in
    subst (λ (f : Option Name). IsKept (list ++ r ∷ []) c.in_ok-links-2.links f (Some r.name)) (sym c.moved_end.ensures)
    (kept_more list r old.links c.in_ok-links.links c.in_ok-links-2.links old.first old.last c.self.invariant fresh more c.in_ok-links-2.ensures.set)

pub invariant_of-result : goal.invariant_of-result
invariant_of-result g c = kept_listed _ _ _ _ (kept g c)

pub returns-clause-same : goal.returns-clause-same
returns-clause-same g c =
    listed_is _ _ _ _ (kept g c)
    ∙ ap (λ (l : List Record). l ++ c.deref.result.now ∷ []) c.self.view_is
    ∙ ap (λ (x : Record). c.args.self ++ x ∷ []) c.deref.ensures

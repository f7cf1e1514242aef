use Rattle.std.proofs.Common.{◌≡◌, ◌∙◌, sym, ap, subst, Option, Some}
use Rattle.std.specs.Prelude.{IfOk}
use Rattle.pj_name.specs.declared.name.Name.{Name}
use Rattle.std.proofs.lemmas.Result.{IfOk-weaker}
use Rattle.std.specs.declared.alloc.Global.{Global}
use Rattle.std.specs.declared.sync.Arc.{Arc}
use Rattle.pj_change.specs.declared.change.Record.{Record}
use Rattle.pj_pmap.specs.Pairs.{with_pair, IsRising}
use Rattle.pj_apply.specs.Links.{key, key_cmp, set_before, shown_link, IsSet}
use Rattle.pj_apply.proofs.Kept.{set_there, if_ok_both}
use Rattle.pj_apply.proofs.held.with_before.Goals as goal

pub returns-clause-set : goal.returns-clause-set
returns-clause-set g c =
    let links = c.args.links in
    let name = c.in-Some.name in
    let found = shown_link c.in-Some-get.link.now in
    let set = set_before c.args.before in
    subst (λ (at : Option Name). IfOk c.into_with.result (IsSet at set links)) (sym c.in-Some.is)
    (if_ok_both c.into_with.result (λ new. new ≡ with_pair key_cmp (key name) (set found) links) (IsRising key_cmp) (IsSet (Some name) set links)
    (λ new is rising. set_there name set links c.requires found new c.in-Some-get.ensures is rising)
    (IfOk-weaker c.into_with.result _ _
    (λ new is. is ∙ ap (λ (a : Arc Record Global). with_pair key_cmp (key name) (record { change = a; before = c.args.before; after = c.in-Some-get.link.now.after }) links) c.in_ok-share.ensures)
    c.into_with.ensures.same)
    c.into_with.ensures.rising)

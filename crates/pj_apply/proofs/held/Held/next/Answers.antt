use Rattle.std.proofs.Common.{◌∙◌, sym}
use Rattle.std.specs.Arc.{arc_value}
use Rattle.std.specs.Borrow.{Bor}
use Rattle.std.specs.declared.alloc.Global.{Global}
use Rattle.std.specs.declared.sync.Arc.{Arc}
use Rattle.pj_change.specs.declared.change.Record.{Record}
use Rattle.pj_apply.proofs.Kept.{next_step}
use Rattle.pj_apply.proofs.held.Held.next.Goals as goal

pub returns : goal.returns
returns c =
    next_step (λ (r : Bor (Arc Record Global)). arc_value r.now) c.get.result c.args.self.now c.args.after c.in_ok-name.name c.next_name.ensures.distinct
    (sym c.next_name.ensures.name ∙ c.in_ok-name.was) c.get.ensures

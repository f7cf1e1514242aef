use Rattle.std.proofs.Common.{Bool, ◌∙◌, rules, tests}
use Rattle.std.specs.Prelude.{◌&&◌}
use Rattle.std.specs.declared.alloc.Global.{Global}
use Rattle.std.specs.declared.sync.Arc.{Arc}
use Rattle.std.specs.Arc.{arc_value}
use Rattle.std.proofs.lemmas.Iterator.{YieldsList-from_slice}
use Rattle.std.proofs.lemmas.Iterator.Search.{any_from_yields_List}
use Rattle.pj_change.specs.declared.change.Record.{Record}
use Rattle.pj_name.specs.Name.{same_name}
use Rattle.pj_change.specs.Positions.{numbered}
use Rattle.pj_change.specs.Contested.{is_range_contested}
use Rattle.pj_change.specs.Shared.{records}
use Rattle.pj_change.proofs.SharedRecords.{any-records}
use Rattle.pj_plain.proofs.contested.is_deletion_contested.Goals as goal

pub returns : goal.returns
returns c =
    let test : Record → Bool = λ o. same_name o.name (numbered c.args.d.now c.args.owner) && is_range_contested (records c.args.changes.now) c.args.d.now o c.args.start c.args.end in
    let h = any_from_yields_List (λ (a : Arc Record Global). test (arc_value a)) _ _ c.any.result c.any.ensures.ran (YieldsList-from_slice c.args.changes.now cc) (λ x b q k. search (rules, tests)) in
    h ∙ any-records test c.args.changes.now

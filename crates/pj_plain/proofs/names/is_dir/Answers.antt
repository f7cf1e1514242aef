use Rattle.std.proofs.Common.{Bool, ◌∙◌, rules, tests}
use Rattle.std.specs.Prelude.{◌&&◌}
use Rattle.std.specs.declared.alloc.Global.{Global}
use Rattle.std.specs.declared.sync.Arc.{Arc}
use Rattle.std.specs.Arc.{arc_value}
use Rattle.std.proofs.lemmas.Iterator.{YieldsList-from_slice}
use Rattle.std.proofs.lemmas.Iterator.Search.{any_from_yields_List}
use Rattle.pj_name.specs.Name.{same_name}
use Rattle.pj_change.specs.declared.change.Record.{Record}
use Rattle.pj_change.specs.Context.{is_dir_inode}
use Rattle.pj_change.specs.Positions.{kind_at}
use Rattle.pj_change.proofs.SharedRecords.{any-records}
use Rattle.pj_plain.proofs.names.is_dir.Goals as goal

pub returns : goal.returns
returns c =
    let test : Record → Bool = λ r. same_name r.name c.args.p.change && is_dir_inode (kind_at r.change.hunks c.args.p.offset) in
    let h = any_from_yields_List (λ (a : Arc Record Global). test (arc_value a)) _ _ c.any.result c.any.ensures.ran (YieldsList-from_slice c.args.changes.now cc) (λ x b q k. search (rules, tests)) in
    h ∙ any-records test c.args.changes.now

use Rattle.std.proofs.Common.{Bool, ◌∙◌, rules, tests}
use Rattle.std.proofs.Math.Bool.{and_comm}
use Rattle.std.specs.Prelude.{◌&&◌}
use Rattle.std.specs.List.{list_any}
use Rattle.std.specs.declared.alloc.Global.{Global}
use Rattle.std.specs.declared.sync.Arc.{Arc}
use Rattle.std.specs.Arc.{arc_value}
use Rattle.std.proofs.lemmas.Iterator.{YieldsList-from_slice}
use Rattle.std.proofs.lemmas.Iterator.Search.{any_from_yields_List}
use Rattle.pj_change.specs.declared.change.Record.{Record}
use Rattle.pj_change.specs.Covers.{covers}
use Rattle.pj_change.specs.Versions.{survives}
use Rattle.pj_change.specs.Contested.{is_hunk_contested}
use Rattle.pj_change.proofs.Members.{any_each}
use Rattle.pj_change.specs.Shared.{records}
use Rattle.pj_change.proofs.SharedRecords.{any-records}
use Rattle.pj_plain.proofs.contested.is_contested.Goals as goal

pub returns : goal.returns
returns c =
    let S = records c.args.changes.now in
    let contested : Record → Bool = λ d. list_any (λ h. covers d h c.args.p && is_hunk_contested S d h) d.change.hunks in
    let test : Record → Bool = λ d. contested d && survives S d.name c.args.p in
    let h = any_from_yields_List (λ (a : Arc Record Global). test (arc_value a)) _ _ c.any.result c.any.ensures.ran (YieldsList-from_slice c.args.changes.now cc) (λ x b q k. search (rules, tests)) in
    h ∙ any-records test c.args.changes.now ∙ any_each test _ S (λ d. and_comm (contested d) (survives S d.name c.args.p))

use Rattle.std.proofs.Common.{List, sym, subst}
use Rattle.pj_change.specs.declared.change.Record.{Record}
use Rattle.pj_view.specs.Parts.{AreParts}
use Rattle.pj_tables.proofs.tables.Tables.view.Goals as goal

pub of-requires : goal.of-requires
of-requires c =
    subst (λ (l : List Record). AreParts l c.outline.result.now c.versions.result.now c.contests.result.now) (sym c.list-list.ensures.same) (record {
      lawful = c.list-list.ensures.lawful;
      outline_is = c.outline.ensures;
      versions_are = c.versions.ensures;
      contests_are = c.contests.ensures;
    })

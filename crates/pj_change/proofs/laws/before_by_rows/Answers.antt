use Rattle.std.specs.Prelude.{◌≡◌, false, IsTrue}
use Rattle.pj_change.proofs.PathsAcross.{paths_across, true_or_false}
use Rattle.pj_change.proofs.BeforeRows.{before_across_in_file, across_text_rows, before_rows_in_file}
use Rattle.pj_change.proofs.laws.before_by_rows.Goals as goal

pub returns-clause-paths : goal.returns-clause-paths
returns-clause-paths c = λ step dead u v.
    paths_across (λ x y. IsTrue (step x y)) (λ x. IsTrue (dead x)) (λ x. dead x ≡ false) (λ x y s. true_or_false (dead y)) u v

pub returns-clause-across : goal.returns-clause-across
returns-clause-across c = before_across_in_file

pub returns-clause-row : goal.returns-clause-row
returns-clause-row c = across_text_rows

pub returns-clause-rows : goal.returns-clause-rows
returns-clause-rows c = before_rows_in_file

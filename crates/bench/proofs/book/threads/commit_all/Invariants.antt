use Rattle.std.proofs.Common.{◌≡◌, ◌+◌, ◌++◌, take}
use Rattle.pj_book.specs.Token.{own}
use Rattle.bench.specs.LabelsOf.{labels_of}
use Rattle.bench.proofs.book.threads.commit_all.Given as goal

abbrev pub invariant-loop-label : goal.invariant-loop-label
invariant-loop-label g l = record {
  number : l.pass.number ≡ l.initial.pass.number;
  calls : l.pass.calls ≡ l.initial.pass.calls + l.label-index;
  labels : labels_of (own l.pass) ≡ labels_of (own l.initial.pass) ++ take l.label-index l.labels;
}

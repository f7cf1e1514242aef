use Rattle.std.proofs.Common.{◌≡◌, ◌++◌, take}
use Rattle.std.specs.List.{flat_map}
use Rattle.pj_change.specs.Text.{hunk_text}
use Rattle.pj_gen.specs.Changes.{file_hunks}
use Rattle.pj_gen.proofs.zero.put_files.Given as goal

abbrev pub invariant-loop-file : goal.invariant-loop-file
invariant-loop-file l = l.out.items ≡ l.fn.out.items ++ flat_map (λ j. flat_map hunk_text (file_hunks j)) (take l.file-index l.files)

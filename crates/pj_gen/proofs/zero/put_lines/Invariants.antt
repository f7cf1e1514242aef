use Rattle.std.proofs.Common.{◌≡◌, ◌∷◌, [], ◌++◌, take, codes}
use Rattle.std.specs.List.{flat_map}
use Rattle.pj_change.specs.Text.{line}
use Rattle.pj_gen.specs.Changes.{file_name, line_name}
use Rattle.pj_gen.proofs.zero.put_lines.Given as goal

abbrev pub invariant-loop-k : goal.invariant-loop-k
invariant-loop-k l = l.out.items ≡ l.fn.out.items ++ flat_map (λ k. line (file_name l.file ∷ line_name k ∷ codes "." ∷ [])) (take l.k-index l.lines)

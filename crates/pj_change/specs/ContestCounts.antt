-- How many changes of a set S contest a `delete` hunk, and the pairs of a hunk and a change that contests it.
use Rattle.std.specs.Prelude.{ℕ, ◌+◌, Bool, false, ◌&&◌, List, count_by, sum_by}
use Rattle.std.specs.List.{list_any}
use Rattle.pj_name.specs.Name.{same_name}
use Rattle.pj_change.specs.declared.hunk.Hunk.{Hunk}
use Rattle.pj_change.specs.declared.hunk.Hunk.TheVariants.{Delete}
use Rattle.pj_change.specs.declared.change.Record.{Record}
use Rattle.pj_change.specs.Positions.{numbered}
use Rattle.pj_change.specs.Contested.{deleted_at, opposes}

-- i contests the hunk of d, whose owner is a change of S; none but a `delete` is contested
abbrev pub is_contested_by : List Record → Record → Hunk → Record → Bool
is_contested_by S d (Delete owner start end by) i = list_any (λ o. same_name o.name (numbered d owner) && opposes i d o.name start end (deleted_at o start)) S
is_contested_by S d h i = false

-- how many changes of S contest the hunk of d
abbrev pub contests_of : List Record → Record → Hunk → ℕ
contests_of S d h = count_by (is_contested_by S d h) S

-- how many pairs of a hunk and a change that contests it are in S
abbrev pub contest_pairs : List Record → ℕ
contest_pairs S = sum_by (λ d. sum_by (contests_of S d) d.change.hunks) S

-- how many are of a hunk of r and a change of S, or of a hunk of S and r
abbrev pub pairs_with : List Record → Record → ℕ
pairs_with S r = sum_by (contests_of S r) r.change.hunks + sum_by (λ d. count_by (λ h. is_contested_by S d h r) d.change.hunks) S

-- What an opening gives.
use Rattle.std.specs.Prelude.{⊤, Result, Ok, Err}
use Rattle.pj_journal.specs.Log.{LogOver}
use Rattle.pj_journal.specs.declared.refusal.OpenRefusal.{OpenRefusal}
use Rattle.pj_journal.specs.declared.refusal.OpenRefusal.TheVariants.{Foreign, Store}

-- the disk that comes back, in the log or in the refusal
abbrev pub disk_after : {K : Type 0} → Result (LogOver K) (OpenRefusal K) → K
disk_after (Ok log) = log.disk
disk_after (Err (Foreign disk)) = disk
disk_after (Err (Store disk)) = disk

-- the file is refused for its header
abbrev pub OnForeign : {T K : Type 0} → Result T (OpenRefusal K) → Type 0 → Type 0
OnForeign (Ok log) P = ⊤
OnForeign (Err (Foreign disk)) P = P
OnForeign (Err (Store disk)) P = ⊤

-- the disk failed
abbrev pub OnStore : {T K : Type 0} → Result T (OpenRefusal K) → Type 0 → Type 0
OnStore (Ok log) P = ⊤
OnStore (Err (Foreign disk)) P = ⊤
OnStore (Err (Store disk)) P = P

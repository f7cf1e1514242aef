-- What sessions did, in one journal.
use Rattle.std.specs.Prelude.{◌≡◌, ℕ, ◌+◌, ◌<◌, ◌≤◌, List, length, All, slice_index_or}
use Rattle.pj_machine.specs.declared.journal.Entry.{Entry}
use Rattle.pj_machine.specs.declared.limits.Limits.{Limits}
use Rattle.pj_machine.specs.Call.{PassView}
use Rattle.pj_machine.specs.Legal.{IsLegal}
use Rattle.pj_session.specs.declared.end.End.{End}
use Rattle.pj_session.specs.declared.end.Ended.{Ended}
use Rattle.pj_session.specs.Served.{Served}
use Rattle.pj_serve.specs.declared.finish.Kept.{Kept}
use Rattle.pj_serve.specs.declared.opening.Opened.{Opened}
use Rattle.pj_io.specs.Meanings.{Streams}

-- one session, in the journal that its pass has seen
pub record Spoken {S D : Type 0} (streams : Streams S D) (limits : Limits) (before after : PassView) (source source' : S) (sink sink' : D) (end : End) : Type 0 where
  pub number : after.number ≡ before.number
  pub served : Served streams limits after.journal after.number source source' sink sink' end

-- session i, counted from 0, has pass i + 1
pub record IsSessionOf {S D : Type 0} (streams : Streams S D) (limits : Limits) (journal : List Entry) (i : ℕ) (opened : Opened S D) (kept : Kept S D) (ended : Ended) : Type 0 where
  pub kept_pass : kept.pass ≡ i + 1
  pub ended_pass : ended.pass ≡ i + 1
  pub served : Served streams limits journal (i + 1) opened.source kept.source opened.sink kept.sink ended.end

-- The journal is legal and of these sessions alone. There is one session for each pair that was opened, in their order, and each
-- spoke in this journal.
pub record AreSessions {S D : Type 0} (streams : Streams S D) (limits : Limits) (journal : List Entry) (opened : List (Opened S D)) (kept : List (Kept S D)) (ends : List Ended) : Type 0 where
  pub legal : IsLegal limits journal
  pub of_sessions : All (λ e. (0 < e.pass) × (e.pass ≤ length opened)) journal
  pub as_many_kept : length kept ≡ length opened
  pub as_many_ends : length ends ≡ length opened
  pub each : (i : ℕ) (o : Opened S D) (k : Kept S D) (e : Ended) → i < length opened →
      IsSessionOf streams limits journal i (slice_index_or opened i o) (slice_index_or kept i k) (slice_index_or ends i e)

use Rattle.pj_change.specs.AcrossDead.{IsAcross}
use Rattle.pj_change.specs.Before.{Leads, IsDeadText}
use Rattle.pj_change.specs.Shared.{records}
use Rattle.pj_plain.proofs.file_text.text_of.Given as goal

-- a path across dead text joins
abbrev pub ghosts-joined_text : goal.ghosts-joined_text
ghosts-joined_text a = record { joins = IsAcross (Leads (records a.texts.now.changes.now)) (IsDeadText (records a.texts.now.changes.now)) }

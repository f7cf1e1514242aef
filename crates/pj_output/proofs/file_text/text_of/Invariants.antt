use Rattle.pj_change.specs.PseudoRows.{HasEdgeOrRow}
use Rattle.pj_output.proofs.file_text.text_of.Given as goal

-- an edge or a pseudo row joins
abbrev pub ghosts-joined_text : goal.ghosts-joined_text
ghosts-joined_text a = record { joins = HasEdgeOrRow a.texts.now.tables.now }

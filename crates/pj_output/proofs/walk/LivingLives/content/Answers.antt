use Rattle.std.proofs.Common.{List, length, ◌∙◌, ap}
use Rattle.std.specs.Prelude.{nat_lt}
use Rattle.pj_output.specs.declared.live_text.LiveVertex.{LiveVertex}
use Rattle.pj_output.specs.LiveText.{is_of}
use Rattle.pj_output.proofs.LiveTexts.{some_kept}
use Rattle.pj_output.proofs.walk.LivingLives.content.Goals as goal

pub returns : goal.returns
returns c = ap (λ (l : List LiveVertex). nat_lt 0 (length l)) c.text_in.ensures ∙ some_kept (is_of c.args.inode) c.args.self.now.entries.now

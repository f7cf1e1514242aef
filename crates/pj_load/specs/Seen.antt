-- What is seen of replies.
use Rattle.std.specs.Prelude.{ℕ, List, [], ◌∷◌, Option, Some, None}
use Rattle.pj_name.specs.Name.{name_of}
use Rattle.pj_machine.specs.declared.reply.Numbered.{Numbered}
use Rattle.pj_machine.specs.declared.reply.Numbered.TheVariants.{At, NoMemory}
use Rattle.pj_machine.specs.declared.reply.Reply.{Reply}
use Rattle.pj_machine.specs.declared.reply.Reply.TheVariants.{Body, No}
use Rattle.pj_machine.specs.declared.reply.Refusal.TheVariants as refusal
use Rattle.pj_gen.specs.declared.telling.Found.{Found}
use Rattle.pj_gen.specs.declared.telling.Found.TheVariants.{Digest, Wide}
use Rattle.pj_load.specs.declared.seeing.Printed.{Printed}

-- what stands for the print that is replied
abbrev pub found : Reply → Option Found
found (Body bytes) = Some (Digest (name_of bytes))
found (No (refusal.Wide inode)) = Some (Wide inode)
found reply = None

-- the print that was replied at this place, if one was
abbrev pub printed_at : ℕ → Option Found → List Printed
printed_at place (Some found) = record { place = place; found = found } ∷ []
printed_at place None = []

-- the print that was replied, if one was
abbrev pub printed : Numbered → List Printed
printed (At place reply) = printed_at place (found reply)
printed NoMemory = []

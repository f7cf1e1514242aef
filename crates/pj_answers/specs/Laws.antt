-- What there is for each lawful list of changes, and that commands have answers. Each is the contract of a function in the module `laws`.
use Rattle.std.specs.Prelude.{◌≡◌, ℕ, List, Option, Some, Contains}
use Rattle.pj_name.specs.declared.name.Name.{Name}
use Rattle.pj_change.specs.declared.change.Record.{Record}
use Rattle.pj_change.specs.declared.graph.Graph.{Graph}
use Rattle.pj_change.specs.declared.point.Point.{Point}
use Rattle.pj_change.specs.declared.print.Step.{Step}
use Rattle.pj_change.specs.FileText.{IsFileText}
use Rattle.pj_change.specs.FirstWide.{IsFirstWide}
use Rattle.pj_change.specs.Graph.{IsGraph}
use Rattle.pj_change.specs.Lawful.{IsLawful, record_of}
use Rattle.pj_change.specs.Print.{IsPrint}
use Rattle.pj_change.specs.Walk.{IsWalk}
use Rattle.pj_machine.specs.declared.command.Command.{Command}
use Rattle.pj_machine.specs.declared.command.Command.TheVariants as command
use Rattle.pj_machine.specs.declared.command.Write.{Write}
use Rattle.pj_machine.specs.declared.journal.Entry.{Entry}
use Rattle.pj_machine.specs.declared.limits.Limits.{Limits}
use Rattle.pj_machine.specs.declared.reply.Reply.{Reply}
use Rattle.pj_machine.specs.Answer.{IsAnswer}
use Rattle.pj_machine.specs.Legal.{IsLegal}
use Rattle.pj_machine.specs.Replay.{IsReplay}
use Rattle.pj_machine.specs.State.{State}

-- a lawful list has a graph
abbrev pub HasGraph : Type 0
HasGraph = (list : List Record) → IsLawful list → (g : Graph) × IsGraph list g

-- a walk
abbrev pub HasWalk : Type 0
HasWalk = (list : List Record) → IsLawful list → (walk : List Step) × IsWalk list walk

-- a text of each file
abbrev pub HasFileText : Type 0
HasFileText = (list : List Record) → IsLawful list → (inode : Point) → (text : List ℕ) × IsFileText list inode text

-- a print
abbrev pub HasPrint : Type 0
HasPrint = (list : List Record) → IsLawful list → (bytes : List ℕ) × IsPrint list bytes

-- and, for each limit, a first wide file or none
abbrev pub HasFirstWide : Type 0
HasFirstWide = (list : List Record) → IsLawful list → (limit : ℕ) → (found : Option Point) × IsFirstWide list limit found

-- ---- answers

-- after the journal the command has just one answer
abbrev pub HasOneAnswer : Limits → List Entry → Command → Type 0
HasOneAnswer limits journal command =
    (reply : Reply) × (entered : Option Write) × IsAnswer limits journal command reply entered
    × ((other : Reply) (also : Option Write) → IsAnswer limits journal command other also → (other ≡ reply) × (also ≡ entered))

-- a command that is a call, but for `inverse`
abbrev pub IsPlainCall : Command → Type 0
IsPlainCall (command.Inverse name) = ⊥
IsPlainCall command.Quit = ⊥
IsPlainCall c = Unit {0}

-- after a legal journal such a command has just one
abbrev pub EachHasOneAnswer : Type 0
EachHasOneAnswer = (limits : Limits) (journal : List Entry) (c : Command) → IsLegal limits journal → IsPlainCall c → HasOneAnswer limits journal c

-- the store has no change of this name that lists its own name among its needs
abbrev pub NeedsNotItself : State → Name → Type 0
NeedsNotItself s name = (r : Record) → record_of s.store name ≡ Some r → Contains r.change.needs r.name → ⊥

-- so has `inverse` of such a change, or of one that the store lacks
abbrev pub InverseHasOneAnswer : Type 0
InverseHasOneAnswer =
    (limits : Limits) (journal : List Entry) (s : State) (name : Name) → IsLegal limits journal → IsReplay journal s → NeedsNotItself s name
    → HasOneAnswer limits journal (command.Inverse name)

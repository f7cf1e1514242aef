-- What became of strings that a pass was to answer as requests.
use Rattle.std.specs.Prelude.{◌≡◌, ◌≢◌, ◌⊎◌, ℕ, Bool, true, false, List, map, All, Result, Option, MatchOption, MatchResult}
use Rattle.pj_machine.specs.declared.command.Command.{Command}
use Rattle.pj_machine.specs.declared.limits.Limits.{Limits}
use Rattle.pj_machine.specs.declared.reply.Numbered.{Numbered}
use Rattle.pj_machine.specs.declared.reply.Numbered.TheVariants.{NoMemory}
use Rattle.pj_machine.specs.Answered.{Answered}
use Rattle.pj_machine.specs.Call.{PassView}
use Rattle.pj_machine.specs.Told.{is_entered}
use Rattle.pj_session.specs.Calls.{Calls}
use Rattle.pj_wire.specs.Requests.{spelling, IsCall}

-- ---- one string

-- it spells no request that has a reply
abbrev pub SpellsNoCall : List ℕ → Type 0
SpellsNoCall string = (x : Command) → IsCall x → string ≢ spelling x

-- the command that was found is the one that the string spells
abbrev pub IsCallOf : List ℕ → Option Command → Type 0
IsCallOf string found = MatchOption found (SpellsNoCall string) (λ x. IsCall x × (string ≡ spelling x))

-- it is a request, which was answered so
pub record AnsweredAs (limits : Limits) (old new : PassView) (string : List ℕ) (Says : Numbered → Type 0) : Type 0 where
  pub command : Command
  pub call : IsCall command
  pub spelled : string ≡ spelling command
  pub reply : Numbered
  pub answered : Answered limits old new command reply
  pub says : Says reply

-- it is a request, which was accepted
abbrev pub Accepts : Limits → PassView → PassView → List ℕ → Type 0
Accepts limits old new string = AnsweredAs limits old new string (λ r. is_entered r ≡ true)

-- it is no request; or it is one, and was refused, or entered nothing
abbrev pub Declines : Limits → PassView → PassView → List ℕ → Type 0
Declines limits old new string =
    ((new ≡ old) × SpellsNoCall string) ⊎ AnsweredAs limits old new string (λ r. (is_entered r ≡ false) × (r ≢ NoMemory))

-- there was no memory to answer it
abbrev pub Lacks : Limits → PassView → PassView → List ℕ → Type 0
Lacks limits old new string = (new ≡ old) ⊎ AnsweredAs limits old new string (λ r. r ≡ NoMemory)

-- whether it was accepted
abbrev pub IsAnswered : Limits → PassView → PassView → List ℕ → Bool → Type 0
IsAnswered limits old new string true = Accepts limits old new string
IsAnswered limits old new string false = Declines limits old new string

-- that, or want of memory
abbrev pub AnswersNext : {E : Type 0} → Limits → PassView → PassView → List ℕ → Result Bool E → Type 0
AnswersNext limits old new string result =
    MatchResult result (λ accepted. IsAnswered limits old new string accepted) (λ _. Lacks limits old new string)

-- ---- all strings

-- they are requests, and each was accepted, one after the other
pub record AcceptedAll (limits : Limits) (old : PassView) (strings : List (List ℕ)) (new : PassView) : Type 0 where
  pub commands : List Command
  pub spelled : map spelling commands ≡ strings
  pub each : All IsCall commands
  pub replies : List Numbered
  pub calls : Calls limits old commands replies new
  pub entered : All (λ r. is_entered r ≡ true) replies

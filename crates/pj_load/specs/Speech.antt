-- What a session over a script does.
use Rattle.std.specs.Prelude.{ℕ, true, List, []}
use Rattle.pj_machine.specs.declared.command.Command.{Command}
use Rattle.pj_machine.specs.declared.limits.Limits.{Limits}
use Rattle.pj_machine.specs.declared.reply.Numbered.{Numbered}
use Rattle.pj_machine.specs.Call.{PassView}
use Rattle.pj_session.specs.declared.end.End.{End}
use Rattle.pj_session.specs.declared.end.End.TheVariants.{Done, Memory}
use Rattle.pj_session.specs.Calls.{Chain}
use Rattle.pj_session.specs.Spoke.{Spoke}
use Rattle.pj_wire.specs.Requests.{HasRequests}

-- it is done, and this was done, or memory was wanted
abbrev pub EndsWith : Type 0 → End → Type 0
EndsWith Did Done = Did
EndsWith Did Memory = Unit {0}
EndsWith Did other = ⊥

-- these are all requests of the script, up to the one to quit at its end
abbrev pub IsScriptOf : List ℕ → List Command → Type 0
IsScriptOf script xs = HasRequests script xs true []

-- The session of a pass over a script of requests, by the journal that the pass has seen in the end: each was replied to, and
-- this was seen of the replies.
abbrev pub Speech : {T : Type 0} → (T → Command → Numbered → T → Type 0) → Limits → T → T → PassView → List ℕ → End → Type 0
Speech Sees limits before after pass script end =
    (xs : List Command) → IsScriptOf script xs
    → EndsWith ((rs : List Numbered) × Spoke limits pass.journal pass.number xs rs × Chain Sees before xs rs after) end

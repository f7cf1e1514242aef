-- Bytes that no request begins with, and that begin no request.
use Rattle.std.proofs.Common.{◌≢◌, ℕ, List, [], ◌∷◌, ◌++◌, sym, ◌∙◌, arith, append-nil}
use Rattle.pj_machine.specs.declared.command.Command.{Command}
use Rattle.pj_machine.specs.declared.command.Command.TheVariants as command
use Rattle.pj_wire.specs.Requests.{spelling, IsRequest, HasNone, IsPart, IsStrange}
use Rattle.pj_wire.specs.Lines.{NoneMade, IsNoLine}

-- no `put`, and no request that is a line
pub no_request : (bytes : List ℕ) → NoneMade command.Put bytes → IsNoLine bytes → HasNone bytes
no_request bytes put line (command.Put text) rest allowed e = put text rest allowed e
no_request bytes put line (command.Get change) rest allowed e = line.change.0 change rest allowed e
no_request bytes put line (command.Inverse change) rest allowed e = line.change.1 change rest allowed e
no_request bytes put line (command.Print name) rest allowed e = line.channel.0 name rest allowed e
no_request bytes put line (command.Graph name) rest allowed e = line.channel.1 name rest allowed e
no_request bytes put line (command.Log name) rest allowed e = line.channel.2 name rest allowed e
no_request bytes put line (command.New name) rest allowed e = line.channel.3 name rest allowed e
no_request bytes put line (command.Drop name) rest allowed e = line.channel.4 name rest allowed e
no_request bytes put line (command.Pull to from) rest allowed e = line.channels.0 (to, from) rest allowed e
no_request bytes put line (command.Fork from to) rest allowed e = line.channels.1 (from, to) rest allowed e
no_request bytes put line (command.Apply name change) rest allowed e = line.channel_change.0 (name, change) rest allowed e
no_request bytes put line (command.Unrecord name change) rest allowed e = line.channel_change.1 (name, change) rest allowed e
no_request bytes put line (command.Uproot name change) rest allowed e = line.channel_change.2 (name, change) rest allowed e
no_request bytes put line command.Channels rest allowed e = line.bare.0 tt rest allowed e
no_request bytes put line command.Journal rest allowed e = line.bare.1 tt rest allowed e
no_request bytes put line command.Quit rest allowed e = line.bare.2 tt rest allowed e

-- and they are not less than one
pub strange : (bytes : List ℕ) → HasNone bytes → (IsPart bytes → ⊥) → IsStrange bytes
strange bytes none whole = record { has_none = none; begins_none = begins }
  where
    begins : (x : Command) (more : List ℕ) → IsRequest x → bytes ++ more ≢ spelling x
    begins x [] allowed e = none x [] allowed (sym (append-nil bytes) ∙ e ∙ sym (append-nil (spelling x)))
    begins x (b ∷ more) allowed e = whole (record { value = x; allowed = allowed; missing = b ∷ more; whole = e; some = omega arith })

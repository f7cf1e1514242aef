-- Laws of requests and of replies.
use Rattle.std.specs.Prelude.{◌≡◌, Bool, false, ℕ, List, [], ◌∷◌, ◌++◌, length, All, if◌then◌else◌}
use Rattle.pj_machine.specs.declared.command.Command.{Command}
use Rattle.pj_machine.specs.declared.command.Command.TheVariants.{Quit}
use Rattle.pj_machine.specs.declared.reply.Numbered.{Numbered}
use Rattle.pj_wire.specs.Requests.{spelling, IsRequest, IsCall, IsPart, HasNone, IsStrange, HasRequests}
use Rattle.pj_wire.specs.Replies.{reply_bytes, written, IsReply}
use Rattle.pj_wire.specs.Runs.{Event, Ran, fed, given}

-- no request is a proper front of another; a request is spelled by one command, and a command by one request
abbrev pub PrefixFree : Type 0
PrefixFree = (x y : Command) (a b : List ℕ) → IsRequest x → IsRequest y → spelling x ++ a ≡ spelling y ++ b → (x ≡ y) × (a ≡ b)

-- bytes have at most one list of requests
abbrev pub AtMostOneReading : Type 0
AtMostOneReading =
    (bytes : List ℕ) (xs ys : List Command) (quit other : Bool) (rest left : List ℕ) →
    HasRequests bytes xs quit rest → HasRequests bytes ys other left → (xs ≡ ys) × (quit ≡ other) × (rest ≡ left)

-- it does not depend on how the bytes are cut in two
abbrev pub CutAnywhere : Type 0
CutAnywhere =
    (front back rest left : List ℕ) (xs ys : List Command) (quit : Bool) →
    HasRequests front xs false rest → HasRequests (rest ++ back) ys quit left → HasRequests (front ++ back) (xs ++ ys) quit left

-- bytes that no request begins with, and that begin no request, stay so as they go on
abbrev pub StrangeStays : Type 0
StrangeStays = (bytes more : List ℕ) → IsStrange bytes → IsStrange (bytes ++ more)

-- a proper front of a request begins with no request
abbrev pub PartHasNone : Type 0
PartHasNone = (bytes : List ℕ) → IsPart bytes → HasNone bytes

-- whatever the pieces, a new decoder that has given all there is, or the request to quit last, has given the requests of all bytes that it was fed
abbrev pub GivesAllRequests : Type 0
GivesAllRequests =
    (events : List Event) (left : List ℕ) (xs : List Command) (quit : Bool) →
    Ran [] events left → given events ≡ xs ++ (if quit then Quit ∷ [] else []) → All IsCall xs → (quit ≡ false → HasNone left) →
    HasRequests (fed events) xs quit left

-- no reply is a proper front of another, and bytes are those of one reply at most
abbrev pub RepliesArePrefixFree : Type 0
RepliesArePrefixFree = (r q : Numbered) (a b : List ℕ) → IsReply r → IsReply q → reply_bytes r ++ a ≡ reply_bytes q ++ b → (r ≡ q) × (a ≡ b)

-- bytes are those of one list of replies at most
abbrev pub RepliesAreReadBack : Type 0
RepliesAreReadBack = (rs qs : List Numbered) → All IsReply rs → All IsReply qs → written rs ≡ written qs → rs ≡ qs

-- bytes begin with at most one list of so many replies, and then the same is left over
abbrev pub SoManyAreReadBack : Type 0
SoManyAreReadBack =
    (rs qs : List Numbered) (a b : List ℕ) → All IsReply rs → All IsReply qs → length rs ≡ length qs →
    written rs ++ a ≡ written qs ++ b → (rs ≡ qs) × (a ≡ b)

-- Laws of exchanges.
use Rattle.std.specs.Prelude.{◌≡◌, ◌<◌, ℕ, Contains, List, [], ◌∷◌, ◌++◌, length, filter, All}
use Rattle.pj_change.specs.declared.change.Record.{Record}
use Rattle.pj_change.specs.Lawful.{IsLawful}
use Rattle.pj_change.specs.Sets.{HaveSameMembers}
use Rattle.pj_change.specs.Union.{union}
use Rattle.pj_change.specs.ChannelLaws.{HaveOneGraph, HaveOnePrint}
use Rattle.pj_machine.specs.declared.channel_name.ChannelName.{ChannelName}
use Rattle.pj_machine.specs.declared.command.Command.{Command}
use Rattle.pj_machine.specs.declared.journal.Entry.{Entry}
use Rattle.pj_machine.specs.declared.limits.Limits.{Limits}
use Rattle.pj_machine.specs.declared.reply.Numbered.{Numbered}
use Rattle.pj_exchange.specs.declared.end.SyncEnd.{SyncEnd}
use Rattle.pj_exchange.specs.Events.{Event, asked, told, sent, got}
use Rattle.pj_exchange.specs.Phases.{Phase, Asking, Over, Runs, OnlyAdds}
use Rattle.pj_exchange.specs.Sides.{IsSide, AreUnited, HasListAt, first_place, last_place}
use Rattle.pj_exchange.specs.Honest.{HasNoLimit, HaveOneTextTogether, IsFault, IsHonest, IsWhole, TellsOfHonest}
use Rattle.pj_exchange.specs.Ends.{Course, EndsBy, IsCourse, IsExact, IsNo, IsOddLast, IsOfPhase, all_of, given_of, is_application, taken_of}
use Rattle.pj_machine.specs.Call.{entries_of}
use Rattle.pj_machine.specs.Legal.{IsLegal, command_of}
use Rattle.pj_replies.specs.Reads.{IsPartOf, IsStrangeTo, IsTooLong}
use Rattle.pj_session.specs.Spoke.{Spoke}
use Rattle.pj_wire.specs.Replies.{IsReply, written}

-- an exchange that comes to its end leaves the union on both sides
abbrev pub ExchangeUnites : Type 0
ExchangeUnites =
    (c : ChannelName) (run : List Event) (limits others : Limits) (here there : List Entry) (pass other : ℕ) →
    Runs c Asking run Over → IsSide limits here pass c (asked run) (told run) → IsSide others there other c (sent run) (got run) →
    AreUnited c here (first_place (told run)) (last_place (told run)) there (first_place (got run)) (last_place (got run))

-- and so one graph and one print, where a name that both have has one text
abbrev pub UnitedAgree : Type 0
UnitedAgree =
    (c : ChannelName) (limits others : Limits) (here : List Entry) (from to : ℕ) (there : List Entry) (low high : ℕ)
    (u : AreUnited c here from to there low high) →
    IsLegal limits here → IsLegal others there → HaveOneTextTogether here there →
    HaveSameMembers (union u.mine u.theirs) (union u.theirs u.mine) × HaveOneGraph (union u.mine u.theirs) (union u.theirs u.mine)
    × HaveOnePrint (union u.mine u.theirs) (union u.theirs u.mine)

-- what a side says is never odd, and what it gives fits, where both sides have one text for each name
abbrev pub SidesAreNeverOdd : Type 0
SidesAreNeverOdd =
    (c : ChannelName) (s : Course) (limits others : Limits) (here there : List Entry) (pass other : ℕ) →
    Runs c Asking s.run s.phase → IsSide limits here pass c (asked (all_of s)) (told (all_of s)) →
    IsSide others there other c (sent (all_of s)) (got (all_of s)) →
    HaveOneTextTogether here there → IsOddLast c s → ⊥

-- what is asked here: `log`, then `new` where the channel is not there, and then only what adds to it; and so there, but for `new`
abbrev pub OnlyGrows : Type 0
OnlyGrows =
    (c : ChannelName) (s : Course) → Runs c Asking s.run s.phase → IsOfPhase c s.phase s.last →
    OnlyAdds c (asked (all_of s)) × OnlyAdds c (sent (all_of s))

-- then the list that a side has at its last place begins with that at its first, and both are lawful
abbrev pub SideGrows : Type 0
SideGrows =
    (limits : Limits) (journal : List Entry) (pass : ℕ) (c : ChannelName) (xs : List Command) (rs : List Numbered) →
    IsSide limits journal pass c xs rs → OnlyAdds c xs → (list : List Record) → HasListAt journal (first_place rs) c list →
    IsLawful list × ((more : List Record) × HasListAt journal (last_place rs) c (list ++ more) × IsLawful (list ++ more))

-- where the bytes that come begin with the replies to all that was sent, the reply that is due stands there: it is neither
-- strange nor too long, and not cut where nothing is left
abbrev pub DueIsThere : Type 0
DueIsThere =
    (c : ChannelName) (limits : Limits) (journal : List Entry) (pass : ℕ) (xs : List Command) (x : Command) (rs qs : List Numbered) (rest left more : List ℕ) →
    OnlyAdds c (xs ++ x ∷ []) → IsLegal limits journal → Spoke limits journal pass (xs ++ x ∷ []) qs → length rs ≡ length xs → All IsReply rs →
    written rs ++ (rest ++ left) ≡ written qs ++ more →
    (IsStrangeTo x rest → ⊥) × (IsTooLong x rest → ⊥) × (IsPartOf x rest → left ≡ [] → ⊥)

-- the causes of ends exclude each other, but for faults of the outside and memory, which may run out anywhere
abbrev pub AtMostOneEnd : Type 0
AtMostOneEnd =
    (c : ChannelName) (limit : ℕ) (s : Course) (left : List ℕ) (end other : SyncEnd) →
    IsExact end → IsExact other → EndsBy c limit s (left ≡ []) end → EndsBy c limit s (left ≡ []) other → end ≡ other

-- with an honest server an exchange ends neither as strange nor as cut, nor at a refusal here but that of a limit, and a whole
-- one has united both
abbrev pub HonestEnds : Type 0
HonestEnds =
    (c : ChannelName) (limit : ℕ) (s : Course) (limits : Limits) (here : List Entry) (pass : ℕ) (left : List ℕ) (end : SyncEnd) →
    IsCourse c s → IsSide limits here pass c (asked (all_of s)) (told (all_of s)) →
    (h : IsHonest c here (sent (all_of s) ++ s.pending) (s.taken ++ left)) → EndsBy c limit s (left ≡ []) end →
    TellsOfHonest c here (told (all_of s)) h.journal h.replies end

-- so where besides no reply is a refusal, no limit is reached, here or of the bytes, and the outside did not fail, the exchange
-- is whole or memory ran out
abbrev pub HonestIsWhole : Type 0
HonestIsWhole =
    (c : ChannelName) (limit : ℕ) (s : Course) (limits : Limits) (here : List Entry) (pass : ℕ) (left : List ℕ) (end : SyncEnd) →
    IsCourse c s → IsSide limits here pass c (asked (all_of s)) (told (all_of s)) →
    IsHonest c here (sent (all_of s) ++ s.pending) (s.taken ++ left) → EndsBy c limit s (left ≡ []) end →
    ((r : Numbered) → Contains (got (all_of s)) r → IsNo r → ⊥) → HasNoLimit (told (all_of s)) → length s.taken < limit → (IsFault end → ⊥) →
    IsWhole end

-- what an exchange tells that it took are the entries of the pass that apply, and what it gave the requests that do
abbrev pub CountsApplications : Type 0
CountsApplications =
    (c : ChannelName) (run : List Event) (phase : Phase) (limits : Limits) (journal : List Entry) (pass : ℕ) →
    Runs c Asking run phase → Spoke limits journal pass (asked run) (told run) →
    (taken_of run ≡ length (filter (λ e. is_application (command_of e.write)) (entries_of pass journal)))
    × (given_of run ≡ length (filter is_application (sent run)))

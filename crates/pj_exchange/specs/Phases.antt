-- The order in which an exchange goes on.
use Rattle.std.specs.Prelude.{◌≡◌, ◌≢◌, ◌⊎◌, ℕ, ◌≤◌, Bool, not, List, [], ◌∷◌, length, filter, All, AllPairs}
use Rattle.std.specs.List.{list_any}
use Rattle.pj_name.specs.declared.name.Name.{Name}
use Rattle.pj_name.specs.Name.{name_of, same_name}
use Rattle.pj_machine.specs.declared.channel_name.ChannelName.{ChannelName}
use Rattle.pj_machine.specs.declared.command.Command.{Command}
use Rattle.pj_machine.specs.declared.command.Command.TheVariants as command
use Rattle.pj_machine.specs.declared.reply.Refusal.TheVariants as refusal
use Rattle.pj_machine.specs.declared.reply.Reply.{Reply}
use Rattle.pj_machine.specs.declared.reply.Reply.TheVariants.{Done, Named, Already, AlreadyNamed, Body, No}
use Rattle.pj_machine.specs.declared.reply.Numbered.{Numbered}
use Rattle.pj_machine.specs.declared.reply.Numbered.TheVariants.{At}
use Rattle.pj_machine.specs.Listings.{log_text}
use Rattle.pj_exchange.specs.Events.{Event, Here, There}

-- what is to be done next
pub data Phase : Type 0 where
  -- the own log is asked for; where the channel is not there, it is made
  Asking : Phase
  Making : Phase
  -- the other log is asked for; these are the own changes
  Listing : List Name → Phase
  -- the text of this change is got, stored here and applied here; the others follow, and then those to be given
  Getting : Name → List Name → List Name → Phase
  Storing : Name → List ℕ → List Name → List Name → Phase
  Applying : Name → List Name → List Name → Phase
  -- the text of this change is looked up here, stored there and applied there; the others follow
  Giving : Name → List Name → Phase
  Sending : Name → List ℕ → List Name → Phase
  Offering : Name → List Name → Phase
  -- nothing but to quit
  Over : Phase

-- the reply at some place
abbrev pub Says : Reply → Numbered → Type 0
Says reply r = (place : ℕ) × (r ≡ At place reply)

-- the text is stored, now or before
abbrev pub SaysStored : List ℕ → Numbered → Type 0
SaysStored text r = Says (Named (name_of text)) r ⊎ Says (AlreadyNamed (name_of text)) r

-- the change is in the channel, now or before
abbrev pub SaysApplied : Numbered → Type 0
SaysApplied r = Says Done r ⊎ Says Already r

-- the name is among these
abbrev pub is_listed : List Name → Name → Bool
is_listed names name = list_any (λ n. same_name n name) names

-- what the first list lacks of the second, in the order of the second
abbrev pub lacked : List Name → List Name → List Name
lacked mine theirs = filter (λ n. not (is_listed mine n)) theirs

-- the first of those to be given
abbrev pub to_give : List Name → Phase
to_give [] = Over
to_give (n ∷ ns) = Giving n ns

-- the first of those to be got
abbrev pub to_get : List Name → List Name → Phase
to_get [] offer = to_give offer
to_get (n ∷ ns) offer = Getting n ns offer

-- from a phase this happens, and then comes this phase
abbrev pub Goes : ChannelName → Phase → Event → Phase → Type 0
Goes c Asking (Here x r) next =
    (x ≡ command.Log c)
    × (((mine : List Name) × Says (Body (log_text mine)) r × (next ≡ Listing mine)) ⊎ (Says (No refusal.Channel) r × (next ≡ Making)))
Goes c Making (Here x r) next = (x ≡ command.New c) × Says Done r × (next ≡ Listing [])
Goes c (Listing mine) (There x r) next =
    (x ≡ command.Log c)
    × ((theirs : List Name) × Says (Body (log_text theirs)) r × AllPairs (λ m n. m ≢ n) theirs × (next ≡ to_get (lacked mine theirs) (lacked theirs mine)))
Goes c (Getting n ns offer) (There x r) next =
    (x ≡ command.Get n)
    × ((text : List ℕ) × Says (Body text) r × (length text ≤ 16777216) × (name_of text ≡ n) × (next ≡ Storing n text ns offer))
Goes c (Storing n text ns offer) (Here x r) next = (x ≡ command.Put text) × SaysStored text r × (next ≡ Applying n ns offer)
Goes c (Applying n ns offer) (Here x r) next = (x ≡ command.Apply c n) × SaysApplied r × (next ≡ to_get ns offer)
Goes c (Giving n ns) (Here x r) next = (x ≡ command.Get n) × ((text : List ℕ) × Says (Body text) r × (next ≡ Sending n text ns))
Goes c (Sending n text ns) (There x r) next = (x ≡ command.Put text) × SaysStored text r × (next ≡ Offering n ns)
Goes c (Offering n ns) (There x r) next = (x ≡ command.Apply c n) × SaysApplied r × (next ≡ to_give ns)
Goes c phase event next = ⊥

-- all that happens, one after the other
abbrev pub Runs : ChannelName → Phase → List Event → Phase → Type 0
Runs c phase [] last = last ≡ phase
Runs c phase (event ∷ events) last = (next : Phase) × Goes c phase event next × Runs c next events last

-- the request that the phase sends
abbrev pub Requests : ChannelName → Phase → Command → Type 0
Requests c (Listing mine) x = x ≡ command.Log c
Requests c (Getting n ns offer) x = x ≡ command.Get n
Requests c (Sending n text ns) x = x ≡ command.Put text
Requests c (Offering n ns) x = x ≡ command.Apply c n
Requests c phase x = ⊥

-- the command that the phase asks here
abbrev pub Asks : ChannelName → Phase → Command → Type 0
Asks c Asking x = x ≡ command.Log c
Asks c Making x = x ≡ command.New c
Asks c (Storing n text ns offer) x = x ≡ command.Put text
Asks c (Applying n ns offer) x = x ≡ command.Apply c n
Asks c (Giving n ns) x = x ≡ command.Get n
Asks c phase x = ⊥

-- the command reads a change, stores one, or applies one to the channel
abbrev pub Adds : ChannelName → Command → Type 0
Adds c (command.Get change) = Unit {0}
Adds c (command.Put text) = Unit {0}
Adds c (command.Apply name change) = name ≡ c
Adds c x = ⊥

-- none; or the log of the channel, perhaps its making, and then only what adds to it
abbrev pub OnlyAdds : ChannelName → List Command → Type 0
OnlyAdds c xs =
    (xs ≡ [])
    ⊎ ((rest : List Command) × All (Adds c) rest × ((xs ≡ command.Log c ∷ rest) ⊎ (xs ≡ command.Log c ∷ command.New c ∷ rest)))

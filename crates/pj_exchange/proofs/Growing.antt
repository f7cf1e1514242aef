-- The list of a side only grows.
use Rattle.std.proofs.Common.{◌≡◌, ℕ, ◌+◌, ◌≤◌, List, [], ◌∷◌, ◌++◌, All, length, take, drop, refl, sym, ◌∙◌, ap, subst, inl, inr, arith, append_assoc, append-nil, length-append}
use Rattle.std.specs.Prelude.{Option, Some, None, MatchOption}
use Rattle.std.specs.List.{AllByRecursion}
use Rattle.std.proofs.lemmas.List.{take-append-drop, length-take-le}
use Rattle.std.proofs.lemmas.List.Elements.{All-head, All-tail}
use Rattle.std.proofs.lemmas.Option.{same_Some}
use Rattle.pj_name.specs.declared.name.Name.{Name}
use Rattle.pj_change.specs.declared.change.Record.{Record}
use Rattle.pj_change.specs.Lawful.{IsLawful}
use Rattle.pj_machine.specs.declared.channel_name.ChannelName.{ChannelName}
use Rattle.pj_machine.specs.declared.command.Command.{Command}
use Rattle.pj_machine.specs.declared.command.Command.TheVariants as command
use Rattle.pj_machine.specs.declared.command.Write.{Write}
use Rattle.pj_machine.specs.declared.command.Write.TheVariants as write
use Rattle.pj_machine.specs.declared.journal.Entry.{Entry}
use Rattle.pj_machine.specs.declared.limits.Limits.{Limits}
use Rattle.pj_machine.specs.declared.reply.Numbered.{Numbered}
use Rattle.pj_machine.specs.declared.reply.Numbered.TheVariants.{At, NoMemory}
use Rattle.pj_machine.specs.declared.reply.Reply.{Reply}
use Rattle.pj_machine.specs.declared.reply.Reply.TheVariants.{Done}
use Rattle.pj_machine.specs.Answer.{IsAnswer, AnswersIn}
use Rattle.pj_machine.specs.Call.{IsResult, entry}
use Rattle.pj_machine.specs.Laws.{reply_of}
use Rattle.pj_machine.specs.Legal.{IsLegal, command_of}
use Rattle.pj_machine.specs.State.{State, list_of}
use Rattle.pj_machine.specs.Step.{Steps}
use Rattle.pj_machine.proofs.Entered.{entered}
use Rattle.pj_machine.proofs.SoundStates.{list_lawful, none_lawful}
use Rattle.pj_machine.proofs.SoundSteps.{legal_replay, legal_sound}
use Rattle.pj_session.specs.Calls.{Chain}
use Rattle.pj_session.specs.Spoke.{AreResults}
use Rattle.pj_exchange.specs.Laws.{SideGrows}
use Rattle.pj_exchange.specs.Phases.{Adds, OnlyAdds}
use Rattle.pj_exchange.specs.Sides.{HasListAt, IsQuiet, first_place, last_place_from}
use Rattle.pj_exchange.proofs.Beginning.{list_at}
use Rattle.pj_exchange.proofs.Opening.{IsListOrNone}
use Rattle.pj_exchange.proofs.OwnEntries.{From, Below, from_next, own_from, own_below}
use Rattle.pj_exchange.proofs.Replies.{made, applied_now}
use Rattle.pj_exchange.proofs.SideSteps.{Links, Reached, Stepped, goes_on, legal_prefix}
use Rattle.pj_exchange.proofs.Steps.{Keeps}

-- ---- what may be asked

-- the command is one of an exchange over the channel
abbrev pub MayBeAsked : ChannelName → Command → Type 0
MayBeAsked c (command.Log name) = name ≡ c
MayBeAsked c (command.New name) = name ≡ c
MayBeAsked c (command.Get change) = Unit {0}
MayBeAsked c (command.Put text) = Unit {0}
MayBeAsked c (command.Apply name change) = name ≡ c
MayBeAsked c x = ⊥

-- what adds to the channel is one
adds_asked : (c : ChannelName) (x : Command) → Adds c x → MayBeAsked c x
adds_asked c (command.Get change) adds = tt
adds_asked c (command.Put text) adds = tt
adds_asked c (command.Apply name change) adds = adds
adds_asked c x adds = absurd adds

-- and so are all of a list of such
pub all_asked : (c : ChannelName) (xs : List Command) → OnlyAdds c xs → AllByRecursion (MayBeAsked c) xs
all_asked c xs (inl none) = subst (λ l. AllByRecursion (MayBeAsked c) l) (sym none) tt
all_asked c xs (inr o) =
    let rest = go o.0 o.1 in
    elim o.2 [
      | inl is ↦ subst (λ l. AllByRecursion (MayBeAsked c) l) (sym is) (refl, rest)
      | inr is ↦ subst (λ l. AllByRecursion (MayBeAsked c) l) (sym is) (refl, (refl, rest))
    ]
  where
    go : (ys : List Command) → All (Adds c) ys → AllByRecursion (MayBeAsked c) ys
    go [] all = tt
    go (y ∷ ys) all = (adds_asked c y (All-head (Adds c) y ys all), go ys (All-tail (Adds c) y ys all))

-- ---- one reply

-- the second list begins with the first
abbrev GrowsTo : Option (List Record) → Option (List Record) → Type 0
GrowsTo old new = (list : List Record) → IsListOrNone old list → (more : List Record) × IsListOrNone new (list ++ more)

-- a list that stays does
same_grows : (old new : Option (List Record)) → new ≡ old → GrowsTo old new
same_grows old new same list is = ([], subst (λ o. IsListOrNone o (list ++ [])) (sym same) (subst (λ l. IsListOrNone old l) (sym (append-nil list)) is))

module _ (limits : Limits) (c : ChannelName) (store : List Record) where
  module _ (old new : Option (List Record)) where
    -- a write that was entered for such a command
    write_grows : (w : Write) (s : State) → list_of s c ≡ old → (t : State) → Steps s w t → list_of t c ≡ new → MayBeAsked c (command_of w) →
        ((name : ChannelName) → w ≡ write.New name → name ≡ c → (old ≡ None) × (new ≡ Some [])) →
        ((name : ChannelName) (change : Name) → w ≡ write.Apply name change → name ≡ c →
        (list : List Record) × (r : Record) × (old ≡ Some list) × (new ≡ Some (list ++ r ∷ []))) → GrowsTo old new
    write_grows (write.Put r) s is t steps then may makes applies = same_grows old new (sym then ∙ ap (λ (x : State). list_of x c) steps ∙ is)
    write_grows (write.New name) s is t steps then may makes applies = λ list old_is.
        let m = makes name refl may in
        elim old_is [
          | inl some ↦ absurd (let k : None ≡ Some list = sym m.0 ∙ some in cc k)
          | inr none ↦ ([], inl (m.1 ∙ ap Some (sym (append-nil list ∙ none.1))))
        ]
    write_grows (write.Apply name change) s is t steps then may makes applies = λ list old_is.
        let a = applies name change refl may in
        elim old_is [
          | inl some ↦ (let same = same_Some a.0 list (sym a.2 ∙ some) in (a.1 ∷ [], inl (a.3 ∙ ap (λ l. Some (l ++ a.1 ∷ [])) same)))
          | inr none ↦ absurd (let k : Some a.0 ≡ None = sym a.2 ∙ none.0 in cc k)
        ]
    write_grows (write.Fork from to) s is t steps then may makes applies = absurd may
    write_grows (write.Drop name) s is t steps then may makes applies = absurd may
    write_grows (write.Unrecord name change) s is t steps then may makes applies = absurd may
    write_grows (write.Uproot name change) s is t steps then may makes applies = absurd may
    write_grows (write.Pull into from) s is t steps then may makes applies = absurd may

    -- a reply to such a command
    link_grows : (x : Command) (r : Numbered) → Links limits c store old x r new → MayBeAsked c x → GrowsTo old new
    link_grows x NoMemory link may = same_grows old new link
    link_grows x (At place reply) l may = go l.entered refl l.then
      where
        answer : (w : Write) → l.entered ≡ Some w → IsAnswer limits l.journal x reply (Some w)
        answer w e = record {
          state = l.state;
          replayed = l.replayed;
          answers = subst (λ o. AnswersIn limits l.state l.journal x (record { reply = reply; entered = o })) e l.answers;
        }

        -- the reply with its command, where both are known
        known : (y : Command) (told : Reply) → x ≡ y → reply ≡ told → Stepped limits c store old y told new
        known y told is same = subst (λ q. Stepped limits c store old y q new) same (subst (λ z. Stepped limits c store old z reply new) is l)

        go : (entered' : Option Write) → l.entered ≡ entered' →
            MatchOption entered' (new ≡ old) (λ w. (t : State) × Steps l.state w t × (list_of t c ≡ new) × Keeps t.store store) → GrowsTo old new
        go None e then = same_grows old new then
        go (Some w) e then =
            let is = entered limits l.journal x reply w (answer w e) in
            write_grows w l.state l.old_is then.0 then.1 then.2 (subst (λ y. MayBeAsked c y) (sym is.0) may)
            (λ name same named.
            made limits c store old new (known (command.New c) Done
            (sym is.0 ∙ ap command_of same ∙ ap command.New named) (is.1 ∙ ap (λ v. reply_of v) same)))
            (λ name change same named.
            let a = applied_now limits c store old new change (known (command.Apply c change) Done
            (sym is.0 ∙ ap command_of same ∙ ap (λ n. command.Apply n change) named) (is.1 ∙ ap (λ v. reply_of v) same)) in
            (a.list, a.it, a.old_is, a.new_is))

  -- all replies to such commands
  chain_grows : (xs : List Command) (rs : List Numbered) (old new : Option (List Record)) → Chain (λ o x r n. Links limits c store o x r n) old xs rs new →
      AllByRecursion (MayBeAsked c) xs → GrowsTo old new
  chain_grows [] [] old new chain all = same_grows old new chain
  chain_grows [] (r ∷ rs) old new chain all = absurd chain
  chain_grows (x ∷ xs) [] old new chain all = absurd chain
  chain_grows (x ∷ xs) (r ∷ rs) old new chain all = λ list is.
      let one = link_grows old chain.0 x r chain.1 all.0 list is in
      let rest = chain_grows xs rs chain.0 new chain.2 all.1 (list ++ one.0) one.1 in
      (one.0 ++ rest.0, subst (λ l. IsListOrNone new l) (append_assoc list one.0 rest.0) rest.1)

-- ---- all replies

module _ (limits : Limits) (journal : List Entry) (p : ℕ) (c : ChannelName) (legal : IsLegal limits journal) where
  -- no place is behind the journal
  pub within : (call place : ℕ) (x : Command) (reply : Reply) → IsResult limits journal p call x (At place reply) → place ≤ length journal
  within call place x reply (inl w) =
      let at = w.at in
      let size : length journal ≡ length w.before + length (entry p call w.write ∷ w.after) =
      ap (λ (l : List Entry). length l) w.stands ∙ length-append w.before (entry p call w.write ∷ w.after) in
      omega arith
  within call place x reply (inr s) =
      let at = s.at in
      let size : length journal ≡ length s.before + length s.after = ap (λ (l : List Entry). length l) s.stands ∙ length-append s.before s.after in
      omega arith

  -- the list at a place is lawful
  lawful_at : (place : ℕ) (list : List Record) → HasListAt journal place c list → IsLawful list
  lawful_at place list at =
      let stands : journal ≡ take place journal ++ drop place journal = sym (take-append-drop place journal) in
      let sound = legal_sound limits (take place journal) at.0 (legal_prefix limits journal (take place journal) (drop place journal) legal stands) at.1 in
      elim at.2 [ inl e ↦ list_lawful at.0 c list sound e | inr e ↦ subst (λ l. IsLawful l) (sym e.1) none_lawful ]

  -- the list that is reached where it stands
  reach : (place : ℕ) (list : List Record) → place ≤ length journal → (at : HasListAt journal place c list) → Reached journal c place (list_of at.0 c)
  reach place list le at = record {
    before = take place journal;
    rest = drop place journal;
    is = sym (take-append-drop place journal);
    size = length-take-le place journal le;
    state = at.0;
    replayed = at.1;
    list_is = refl;
  }

  -- from the first reply with a place to the last
  grows_from : (call : ℕ) (xs : List Command) (rs : List Numbered) → AreResults limits journal p call 0 xs rs → From limits journal p 0 call →
      Below limits journal p (call + length xs) → IsQuiet c p (first_place rs) (last_place_from 0 rs) journal → AllByRecursion (MayBeAsked c) xs →
      (list : List Record) → HasListAt journal (first_place rs) c list → (more : List Record) × HasListAt journal (last_place_from 0 rs) c (list ++ more)
  grows_from call [] [] m from below quiet all list at = ([], subst (λ l. HasListAt journal 0 c l) (sym (append-nil list)) at)
  grows_from call [] (r ∷ rs) m from below quiet all list at = absurd m
  grows_from call (x ∷ xs) [] m from below quiet all list at = absurd m
  grows_from call (x ∷ xs) (NoMemory ∷ rs) m from below quiet all list at =
      grows_from (call + 1) xs rs m.2 (from_next limits journal p call 0 x NoMemory m.0 m.1 from)
      (λ k d lt own. let b = below k d lt own in omega arith) quiet all.1 list at
  grows_from call (x ∷ xs) (At place reply ∷ rs) m from below quiet all list at =
      let whole = legal_replay limits journal legal in
      let r = reach place list (within call place x reply m.0) at in
      let went = goes_on limits journal p c legal whole.0 whole.1 place (last_place_from place rs) quiet (call + 1) place xs rs m.2
      (from_next limits journal p call 0 x (At place reply) m.0 m.1 from) (λ k d lt own. let b = below k d lt own in omega arith) (omega arith) (omega arith)
      (list_of at.0 c) r in
      let grown = chain_grows limits c whole.0.store xs rs (list_of at.0 c) went.new went.chain all.1 list at.2 in
      (grown.0, list_at journal c (last_place_from place rs) went.new (list ++ grown.0) went.reached grown.1)

-- the law
pub side_grows : SideGrows
side_grows limits journal pass c xs rs side adds list at =
    let grown = grows_from limits journal pass c side.legal 1 xs rs side.spoke.results (own_from limits journal pass xs rs side.spoke 0)
    (own_below limits journal pass xs rs side.spoke) side.quiet (all_asked c xs adds) list at in
    (lawful_at limits journal pass c side.legal _ list at, (grown.0, grown.1, lawful_at limits journal pass c side.legal _ (list ++ grown.0) grown.1))

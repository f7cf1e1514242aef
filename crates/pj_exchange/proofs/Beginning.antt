-- How the replies to a side begin, and the lists that it had first and last.
use Rattle.std.proofs.Common.{◌≡◌, ℕ, List, [], ◌∷◌, ◌++◌, map, take, sym, ◌∙◌, ap, subst, inl, inr, refl}
use Rattle.std.specs.Prelude.{Option, Some, None, MatchOption}
use Rattle.std.proofs.Math.Seq.{take-append_seam}
use Rattle.pj_change.specs.declared.change.Record.{Record}
use Rattle.pj_machine.specs.declared.channel_name.ChannelName.{ChannelName}
use Rattle.pj_machine.specs.declared.command.Command.{Command}
use Rattle.pj_machine.specs.declared.command.Command.TheVariants as command
use Rattle.pj_machine.specs.declared.journal.Entry.{Entry}
use Rattle.pj_machine.specs.declared.limits.Limits.{Limits}
use Rattle.pj_machine.specs.declared.reply.Numbered.{Numbered}
use Rattle.pj_machine.specs.declared.reply.Numbered.TheVariants.{At}
use Rattle.pj_machine.specs.declared.reply.Reply.{Reply}
use Rattle.pj_machine.specs.declared.reply.Reply.TheVariants.{Body, No}
use Rattle.pj_machine.specs.declared.reply.Refusal.TheVariants as refusal
use Rattle.pj_machine.specs.Call.{IsResult, WasSeen}
use Rattle.pj_machine.specs.Listings.{log_text}
use Rattle.pj_machine.specs.Outcome.{Outcome, enters, gives, refuses}
use Rattle.pj_machine.specs.Replay.{IsReplay}
use Rattle.pj_machine.specs.State.{State, list_of, opening}
use Rattle.pj_session.specs.Calls.{Chain}
use Rattle.pj_exchange.specs.Events.{Event, Here, There, asked, told, sent, got}
use Rattle.pj_exchange.specs.Phases.{Phase, Asking, Making, Listing, Getting, Storing, Applying, Giving, Sending, Offering, Over, Runs}
use Rattle.pj_exchange.specs.Sides.{IsSide, HasListAt, first_place, last_place}
use Rattle.pj_exchange.proofs.Opening.{IsListOrNone}
use Rattle.pj_exchange.proofs.SideSteps.{Holds, Links, Reached, began}

-- ---- the first command is to read the log

-- there is no command, or the first is `log` and its reply has a place
abbrev pub StartsWithLog : ChannelName → List Command → List Numbered → Type 0
StartsWithLog c [] [] = Unit {0}
StartsWithLog c (x ∷ xs) (r ∷ rs) = (x ≡ command.Log c) × ((place : ℕ) × (reply : Reply) × (r ≡ At place reply))
StartsWithLog c xs rs = ⊥

-- so the commands here begin
pub own_starts : (c : ChannelName) (run more : List Event) (last : Phase) → Runs c Asking run last →
    (last ≡ Asking → StartsWithLog c (asked more) (told more)) → StartsWithLog c (asked (run ++ more)) (told (run ++ more))
own_starts c [] more last runs then = then runs
own_starts c (There x r ∷ run) more last runs then = absurd runs.1
own_starts c (Here x r ∷ run) more last runs then = elim runs.1.1 [
  | inl g ↦ (runs.1.0, (g.1.0, Body (log_text g.0), g.1.1))
  | inr g ↦ (runs.1.0, (g.0.0, No refusal.Channel, g.0.1))
]

-- nothing was sent yet
abbrev pub IsEarly : Phase → Type 0
IsEarly Asking = Unit {0}
IsEarly Making = Unit {0}
IsEarly (Listing names) = Unit {0}
IsEarly phase = ⊥

-- so the requests that were sent begin
pub sent_starts : (c : ChannelName) (phase : Phase) (run more : List Event) (last : Phase) → IsEarly phase → Runs c phase run last →
    (IsEarly last → StartsWithLog c (sent more) (got more)) → StartsWithLog c (sent (run ++ more)) (got (run ++ more))
sent_starts c phase [] more last early runs then = then (subst IsEarly (sym runs) early)
sent_starts c Asking (There x r ∷ run) more last early runs then = absurd runs.1
sent_starts c Making (There x r ∷ run) more last early runs then = absurd runs.1
sent_starts c (Listing names) (There x r ∷ run) more last early runs then =
    let g = runs.1 in
    (g.0, (g.1.1.0, Body (log_text g.1.0), g.1.1.1))
sent_starts c Asking (Here x r ∷ run) more last early runs then =
    let next : IsEarly runs.0 = elim runs.1.1 [ inl g ↦ subst IsEarly (sym g.2) tt | inr g ↦ subst IsEarly (sym g.1) tt ] in
    sent_starts c runs.0 run more last next runs.2 then
sent_starts c Making (Here x r ∷ run) more last early runs then =
    sent_starts c runs.0 run more last (subst IsEarly (sym runs.1.2) tt) runs.2 then
sent_starts c (Listing names) (Here x r ∷ run) more last early runs then = absurd runs.1
sent_starts c (Getting n ns offer) run more last early runs then = absurd early
sent_starts c (Storing n text ns offer) run more last early runs then = absurd early
sent_starts c (Applying n ns offer) run more last early runs then = absurd early
sent_starts c (Giving n ns) run more last early runs then = absurd early
sent_starts c (Sending n text ns) run more last early runs then = absurd early
sent_starts c (Offering n ns) run more last early runs then = absurd early
sent_starts c Over run more last early runs then = absurd early

-- ---- the first list and the last

-- `log` enters nothing
log_seen : (limits : Limits) (journal : List Entry) (p call : ℕ) (c : ChannelName) (place : ℕ) (reply : Reply) →
    IsResult limits journal p call (command.Log c) (At place reply) →
    WasSeen limits journal p call place (command.Log c) reply
log_seen limits journal p call c place reply (inr s) = s
log_seen limits journal p call c place reply (inl w) = absurd (go (list_of w.answer.state c) w.answer.answers)
  where
    go : (found : Option (List Record)) →
        MatchOption found (enters reply w.write ≡ refuses refusal.Channel) (λ list. enters reply w.write ≡ gives (log_text (map (λ r. r.name) list))) → ⊥
    go None e = (let k : Some w.write ≡ None = ap (λ (p : Outcome). p.entered) e in cc k)
    go (Some list) e = (let k : Some w.write ≡ None = ap (λ (p : Outcome). p.entered) e in cc k)

-- what the replies to a side say of its list, from the place of the first to that of the last
pub record SideRuns (limits : Limits) (journal : List Entry) (c : ChannelName) (store : List Record) (xs : List Command) (rs : List Numbered) : Type 0 where
  pub old : Option (List Record)
  pub new : Option (List Record)
  pub chain : Chain (λ o x r n. Links limits c store o x r n) old xs rs new
  pub first : Reached journal c (first_place rs) old
  pub last : Reached journal c (last_place rs) new
  pub states : Chain (λ a x r b. Holds limits a x r b) first.state xs rs last.state

-- the replies to a side that begin with `log` say so
pub side_runs : (limits : Limits) (journal : List Entry) (p : ℕ) (c : ChannelName) (xs : List Command) (rs : List Numbered) →
    IsSide limits journal p c xs rs → StartsWithLog c xs rs →
    (whole : State) → IsReplay journal whole → SideRuns limits journal c whole.store xs rs
side_runs limits journal p c [] [] side starts whole all =
    let first : Reached journal c 0 (list_of opening c) =
    record { before = []; rest = journal; is = refl; size = refl; state = opening; replayed = refl; list_is = refl } in
    record { old = list_of opening c; new = list_of opening c; chain = refl; first = first; last = first; states = refl }
side_runs limits journal p c [] (r ∷ rs) side starts whole all = absurd starts
side_runs limits journal p c (x ∷ xs) [] side starts whole all = absurd starts
side_runs limits journal p c (x ∷ xs) (r ∷ rs) side starts whole all =
    let there = subst (λ q. IsSide limits journal p c (command.Log c ∷ xs) (q ∷ rs)) starts.1.2
    (subst (λ y. IsSide limits journal p c (y ∷ xs) (r ∷ rs)) starts.0 side) in
    let runs = go starts.1.0 starts.1.1 there in
    subst (λ y. SideRuns limits journal c whole.store (y ∷ xs) (r ∷ rs)) (sym starts.0)
    (subst (λ q. SideRuns limits journal c whole.store (command.Log c ∷ xs) (q ∷ rs)) (sym starts.1.2) runs)
  where
    go : (place : ℕ) (reply : Reply) → IsSide limits journal p c (command.Log c ∷ xs) (At place reply ∷ rs) →
        SideRuns limits journal c whole.store (command.Log c ∷ xs) (At place reply ∷ rs)
    go place reply s =
        let seen = log_seen limits journal p 1 c place reply s.spoke.results.0 in
        let b = began limits journal p c s.legal whole all place (command.Log c) reply xs rs s.spoke s.quiet seen in
        record { old = b.old; new = b.went.new; chain = b.went.chain; first = b.at; last = b.went.reached; states = b.went.states }

-- a list that was reached, as one that the channel has at a place
pub list_at : (journal : List Entry) (c : ChannelName) (place : ℕ) (o : Option (List Record)) (list : List Record) → Reached journal c place o →
    IsListOrNone o list → HasListAt journal place c list
list_at journal c place o list r is =
    let same : take place journal ≡ r.before =
    (λ i. take (sym r.size i) (r.is i)) ∙ take-append_seam r.before r.rest in
    (r.state, subst (λ l. IsReplay l r.state) (sym same) r.replayed, subst (λ z. IsListOrNone z list) (sym r.list_is) is)

-- The own store has what the next phase asks for.
use Rattle.std.proofs.Common.{◌≡◌, not, List, [], ◌∷◌, ◌++◌, refl, sym, ◌∙◌, ap, subst, inl, inr}
use Rattle.std.specs.Prelude.{Contains, Option, Some, None, MatchOption}
use Rattle.pj_name.specs.declared.name.Name.{Name}
use Rattle.pj_name.specs.Name.{name_of}
use Rattle.pj_change.specs.declared.change.Record.{Record}
use Rattle.pj_change.specs.Lawful.{record_of}
use Rattle.pj_change.proofs.Members.{later_member, no_member}
use Rattle.pj_change.proofs.PickedMembers.{image, passed}
use Rattle.pj_machine.specs.declared.channel_name.ChannelName.{ChannelName}
use Rattle.pj_machine.specs.declared.command.Command.{Command}
use Rattle.pj_machine.specs.declared.command.Command.TheVariants as command
use Rattle.pj_machine.specs.declared.command.Write.{Write}
use Rattle.pj_machine.specs.declared.limits.Limits.{Limits}
use Rattle.pj_machine.specs.declared.reply.Numbered.{Numbered}
use Rattle.pj_machine.specs.declared.reply.Numbered.TheVariants.{At, NoMemory}
use Rattle.pj_machine.specs.declared.reply.Reply.{Reply}
use Rattle.pj_machine.specs.declared.reply.Reply.TheVariants.{Body}
use Rattle.pj_machine.specs.Listings.{log_text}
use Rattle.pj_machine.specs.State.{State, list_of}
use Rattle.pj_machine.specs.Step.{Steps}
use Rattle.pj_machine.proofs.SoundStates.{AreStored}
use Rattle.pj_session.specs.Calls.{Chain}
use Rattle.pj_exchange.specs.Events.{Event, Here, There, asked, told}
use Rattle.pj_exchange.specs.Phases.{Phase, Asking, Making, Listing, Getting, Storing, Applying, Giving, Sending, Offering, Over, Goes, Runs, is_listed, to_get, to_give}
use Rattle.pj_exchange.proofs.LogNames.{one_log}
use Rattle.pj_exchange.proofs.Replies.{names_of, logged}
use Rattle.pj_exchange.proofs.SideSteps.{Held, Holds, Links, Stepped}
use Rattle.pj_exchange.proofs.Stages.{is_put}
use Rattle.pj_exchange.proofs.Steps.{Keeps, step_keeps}

-- ---- one reply, as one of the list and of the store behind it

-- what a write left
record Left (c : ChannelName) (s b : State) (entered : Option Write) : Type 0 where
  keeps : Keeps s.store b.store
  then : MatchOption entered (list_of b c ≡ list_of s c) (λ w. (t : State) × Steps s w t × (list_of t c ≡ list_of b c) × Keeps t.store b.store)

-- is what it left of the list and of the store
left_so : (c : ChannelName) (s b : State) (entered : Option Write) → MatchOption entered (b ≡ s) (λ w. Steps s w b) → Left c s b entered
left_so c s b None same = record {
  keeps = λ name r there. ap (λ (x : State). record_of x.store name) same ∙ there;
  then = ap
      (λ (x : State). list_of x c) same;
}
left_so c s b (Some w) steps = record { keeps = step_keeps s b w steps; then = (b, steps, refl, λ name r there. there) }

module _ (limits : Limits) (c : ChannelName) (a b : State) where
  -- the reply as one of the list
  as_stepped : (x : Command) (reply : Reply) (h : Held limits a x reply b) → Stepped limits c b.store (list_of h.state c) x reply (list_of b c)
  as_stepped x reply h =
      let left = left_so c h.state b h.entered h.then in
      record {
        journal = h.journal;
        state = h.state;
        replayed = h.replayed;
        sound = h.sound;
        entered = h.entered;
        answers = h.answers;
        old_is = refl;
        keeps = left.keeps;
        then = left.then;
      }

  -- the same for a reply with its place
  as_linked : (x : Command) (r : Numbered) → Holds limits a x r b → (old : Option (List Record)) × Links limits c b.store old x r (list_of b c)
  as_linked x (At place reply) h = (list_of h.state c, as_stepped x reply h)
  as_linked x NoMemory h = (list_of b c, refl)

  -- the store keeps what it has
  held_keeps : (x : Command) (r : Numbered) → Holds limits a x r b → Keeps a.store b.store
  held_keeps x (At place reply) h name r there = (left_so c h.state b h.entered h.then).keeps name r (h.keeps name r there)
  held_keeps x NoMemory same name r there = ap (λ (x : State). record_of x.store name) same ∙ there

-- ---- what is ready

-- the store has a change of each of these names
abbrev pub HasAll : List Record → List Name → Type 0
HasAll store names = (n : Name) → Contains names n → (r : Record) × (record_of store n ≡ Some r)

-- what the phase asks for is there, and what is to be given
abbrev pub IsReady : Phase → List Record → Type 0
IsReady (Listing names) store = HasAll store names
IsReady (Getting n ns offer) store = HasAll store offer
IsReady (Storing n text ns offer) store = HasAll store offer × (name_of text ≡ n)
IsReady (Applying n ns offer) store = HasAll store offer × ((r : Record) × (record_of store n ≡ Some r))
IsReady (Giving n ns) store = HasAll store (n ∷ ns)
IsReady (Sending n text ns) store = HasAll store ns
IsReady (Offering n ns) store = HasAll store ns
IsReady phase store = Unit {0}

-- what is to be given next is there
give_ready : (store : List Record) (names : List Name) → HasAll store names → IsReady (to_give names) store
give_ready store [] has = tt
give_ready store (n ∷ ns) has = has

-- and behind what is to be got
get_ready : (store : List Record) (names offer : List Name) → HasAll store offer → IsReady (to_get names offer) store
get_ready store [] offer has = give_ready store offer has
get_ready store (n ∷ ns) offer has = has

-- names stay in a store that keeps what it has
all_kept : (store later : List Record) (names : List Name) → Keeps store later → HasAll store names → HasAll later names
all_kept store later names keeps has n m = (let r = has n m in (r.0, keeps n r.0 r.1))

-- the names of stored changes are there
names_there : (store list : List Record) → AreStored store list → HasAll store (names_of list)
names_there store list stored n m =
    let i = image (λ (r : Record). r.name) list n m in
    (i.it, subst (λ k. record_of store k ≡ Some i.it) i.is (stored i.it i.member))

module _ (limits : Limits) (c : ChannelName) (a b : State) (x : Command) (r : Numbered) (next : Phase) (held : Holds limits a x r b) where
  -- the store keeps what it has
  keeps : Keeps a.store b.store
  keeps = held_keeps limits c a b x r held

  -- what is answered here leaves the next phase ready
  here_ready : (phase : Phase) → Goes c phase (Here x r) next → IsReady phase a.store → IsReady next b.store
  here_ready Asking goes ready = elim goes.1 [
    | inl g ↦
        let h = subst (λ q. Holds limits a (command.Log c) q b) g.1.1 (subst (λ y. Holds limits a y r b) goes.0 held) in
        let l = logged limits c b.store (list_of h.state c) (list_of b c) (log_text g.0) (as_stepped limits c a b (command.Log c) (Body (log_text g.0)) h) in
        let names = one_log g.0 (names_of l.list) l.body_is in
        subst (λ p. IsReady p b.store) (sym g.2) (subst (λ ns. HasAll b.store ns) (sym names) (names_there b.store l.list l.stored))
    | inr g ↦ subst (λ p. IsReady p b.store) (sym g.1) tt
  ]
  here_ready Making goes ready = subst (λ p. IsReady p b.store) (sym goes.2) (λ n m. absurd (no_member n m))
  here_ready (Listing names) goes ready = absurd goes
  here_ready (Getting n ns offer) goes ready = absurd goes
  here_ready (Storing n text ns offer) goes ready =
      let l = as_linked limits c a b x r held in
      let put = (is_put limits c b.store l.0 (list_of b c) x r l.1 text goes.0 goes.1).stored in
      let named : put.it.name ≡ n = put.it.named ∙ ap name_of put.text_is ∙ ready.1 in
      subst (λ p. IsReady p b.store) (sym goes.2)
      (all_kept a.store b.store offer keeps ready.0, (put.it, subst (λ k. record_of b.store k ≡ Some put.it) named put.there))
  here_ready (Applying n ns offer) goes ready =
      subst (λ p. IsReady p b.store) (sym goes.2) (get_ready b.store ns offer (all_kept a.store b.store offer keeps ready.0))
  here_ready (Giving n ns) goes ready =
      subst (λ p. IsReady p b.store) (sym goes.1.2) (λ m in_ns. all_kept a.store b.store (n ∷ ns) keeps ready m (later_member n ns m in_ns))
  here_ready (Sending n text ns) goes ready = absurd goes
  here_ready (Offering n ns) goes ready = absurd goes
  here_ready Over goes ready = absurd goes

-- and so does what is replied there
there_ready : (c : ChannelName) (store : List Record) (x : Command) (r : Numbered) (next : Phase) (phase : Phase) → Goes c phase (There x r) next →
    IsReady phase store → IsReady next store
there_ready c store x r next Asking goes ready = absurd goes
there_ready c store x r next Making goes ready = absurd goes
there_ready c store x r next (Listing names) goes ready =
    subst (λ p. IsReady p store) (sym goes.1.3) (get_ready store _ _ (λ n m. ready n (passed (λ k. not (is_listed goes.1.0 k)) names n m).member))
there_ready c store x r next (Getting n ns offer) goes ready = subst (λ p. IsReady p store) (sym goes.1.4) (ready, goes.1.3)
there_ready c store x r next (Storing n text ns offer) goes ready = absurd goes
there_ready c store x r next (Applying n ns offer) goes ready = absurd goes
there_ready c store x r next (Giving n ns) goes ready = absurd goes
there_ready c store x r next (Sending n text ns) goes ready = subst (λ p. IsReady p store) (sym goes.2) ready
there_ready c store x r next (Offering n ns) goes ready = subst (λ p. IsReady p store) (sym goes.2) (give_ready store ns ready)
there_ready c store x r next Over goes ready = absurd goes

-- what stands at the last phase, and how the own side goes on
pub record Readies (limits : Limits) (phase : Phase) (last : State) (more : List Event) : Type 0 where
  pub at : State
  pub ready : IsReady phase at.store
  pub rest : Chain (λ a x r b. Holds limits a x r b) at (asked more) (told more) last

-- the events of a run leave the last phase ready
pub run_ready : (limits : Limits) (c : ChannelName) (phase : Phase) (run more : List Event) (last : Phase) (a b : State) → Runs c phase run last →
    Chain (λ a x r b. Holds limits a x r b) a (asked (run ++ more)) (told (run ++ more)) b → IsReady phase a.store → Readies limits last b more
run_ready limits c phase [] more last a b runs chain ready = record { at = a; ready = subst (λ p. IsReady p a.store) (sym runs) ready; rest = chain }
run_ready limits c phase (Here x r ∷ run) more last a b runs chain ready =
    run_ready limits c runs.0 run more last chain.0 b runs.2 chain.2 (here_ready limits c a chain.0 x r runs.0 chain.1 phase runs.1 ready)
run_ready limits c phase (There x r ∷ run) more last a b runs chain ready =
    run_ready limits c runs.0 run more last a b runs.2 chain (there_ready c a.store x r runs.0 phase runs.1 ready)

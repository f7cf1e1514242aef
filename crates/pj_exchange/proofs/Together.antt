-- Both sides of an exchange, up to a last event.
use Rattle.std.proofs.Common.{◌≡◌, ℕ, List, ◌++◌, refl}
use Rattle.std.specs.Prelude.{Option}
use Rattle.pj_change.specs.declared.change.Record.{Record}
use Rattle.pj_machine.specs.declared.channel_name.ChannelName.{ChannelName}
use Rattle.pj_machine.specs.declared.journal.Entry.{Entry}
use Rattle.pj_machine.specs.declared.limits.Limits.{Limits}
use Rattle.pj_machine.specs.State.{State}
use Rattle.pj_machine.proofs.SoundSteps.{legal_replay}
use Rattle.pj_session.specs.Calls.{Chain}
use Rattle.pj_exchange.specs.Events.{Event, asked, told, sent, got}
use Rattle.pj_exchange.specs.Phases.{Phase, Asking, Runs}
use Rattle.pj_exchange.specs.Sides.{IsSide}
use Rattle.pj_exchange.proofs.Beginning.{own_starts, sent_starts, side_runs, IsEarly, StartsWithLog}
use Rattle.pj_exchange.proofs.Opening.{Arrives, arrives}
use Rattle.pj_exchange.proofs.SideSteps.{Holds}

module _ (c : ChannelName) (limits others : Limits) (run more : List Event) (phase : Phase) (runs : Runs c Asking run phase) where
  -- both sides up to a last event
  pub record Both (own other : List Record) : Type 0 where
    pub first_here : Option (List Record)
    pub first_there : Option (List Record)
    pub last_here : Option (List Record)
    pub last_there : Option (List Record)
    pub arrived : Arrives limits others c own other first_here first_there phase last_here last_there more
    pub first_state : State
    pub last_state : State
    pub states : Chain (λ a x r b. Holds limits a x r b) first_state (asked (run ++ more)) (told (run ++ more)) last_state

  -- both sides come so far
  pub both : (here there : List Entry) (pass other : ℕ) → (own : IsSide limits here pass c (asked (run ++ more)) (told (run ++ more))) →
      (peer : IsSide others there other c (sent (run ++ more)) (got (run ++ more))) →
      (phase ≡ Asking → StartsWithLog c (asked more) (told more)) → (IsEarly phase → StartsWithLog c (sent more) (got more)) →
      Both (legal_replay limits here own.legal).0.store (legal_replay others there peer.legal).0.store
  both here there pass other own peer late starts =
      let whole = legal_replay limits here own.legal in
      let end = legal_replay others there peer.legal in
      let mine = side_runs limits here pass c (asked (run ++ more)) (told (run ++ more)) own (own_starts c run more phase runs late) whole.0 whole.1 in
      let theirs = side_runs others there other c (sent (run ++ more)) (got (run ++ more)) peer
      (sent_starts c Asking run more phase tt runs starts) end.0 end.1 in
      record {
        first_here = mine.old;
        first_there = theirs.old;
        last_here = mine.new;
        last_there = theirs.new;
        first_state = mine.first.state;
        last_state = mine.last.state;
        states = mine.states;
        arrived = arrives limits others c whole.0.store end.0.store mine.old theirs.old Asking run more phase
            mine.old theirs.old mine.new theirs.new runs mine.chain theirs.chain (refl, refl);
      }

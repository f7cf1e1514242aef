-- What one session did, in one journal.
use Rattle.std.specs.Prelude.{◌≡◌, ◌≤◌, ℕ, true, List, [], ◌++◌}
use Rattle.pj_io.specs.Told.{Where}
use Rattle.pj_io.specs.Causes.{Rose}
use Rattle.pj_io.specs.Meanings.{Streams}
use Rattle.pj_machine.specs.declared.journal.Entry.{Entry}
use Rattle.pj_machine.specs.declared.limits.Limits.{Limits}
use Rattle.pj_session.specs.declared.end.End.{End}
use Rattle.pj_session.specs.declared.end.End.TheVariants.{ReadFault, WriteFault, StoreFault}
use Rattle.pj_session.specs.Session.{IsSession}
use Rattle.pj_session.specs.Spoke.{Spoke}
use Rattle.pj_session.specs.Turn.{Wrote}

-- One session, from its source and its sink before it to those after it. The bytes taken from the source spell its requests,
-- the replies in this journal are those written to the sink, and the end has its cause: that of a fault of the store is `Fault`.
pub record ServedBy (Fault : Type 0) {S D : Type 0} (streams : Streams S D) (limits : Limits) (journal : List Entry) (pass : ℕ)
    (source source' : S) (sink sink' : D) (end : End) : Type 0 where
  pub session : IsSession limits.session
      (λ taken. Where (streams.sources.tells source) (streams.sources.left source ≡ taken ++ streams.sources.left source'))
      (Where (streams.sources.tells source) (streams.sources.left source' ≡ []))
      (λ xs rs. Spoke limits journal pass xs rs
      × Where (streams.sinks.tells sink) (Wrote end (streams.sinks.written sink) (streams.sinks.written sink') rs))
      end
  pub store_cause : end ≡ StoreFault → Fault
  pub read_cause : end ≡ ReadFault → Rose (streams.sources.faults source) (streams.sources.faults source')
  pub write_cause : end ≡ WriteFault → Rose (streams.sinks.faults sink) (streams.sinks.faults sink')
  pub source_shut : Where (streams.sources.tells source) (streams.sources.was_shut source' ≡ true)
  pub sink_shut : Where (streams.sinks.tells sink) (streams.sinks.was_shut sink' ≡ true)
  pub source_told : streams.sources.tells source' ≡ streams.sources.tells source
  pub sink_told : streams.sinks.tells sink' ≡ streams.sinks.tells sink
  pub label : Where (streams.sinks.tells sink) (streams.sinks.label sink' ≡ streams.sinks.label sink)
  pub source_count : streams.sources.faults source ≤ streams.sources.faults source'
  pub sink_count : streams.sinks.faults sink ≤ streams.sinks.faults sink'

-- one session that no store keeps
abbrev pub Served : {S D : Type 0} → Streams S D → Limits → List Entry → ℕ → S → S → D → D → End → Type 0
Served = ServedBy ⊥

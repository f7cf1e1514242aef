-- What `keep` does, from what its parts did, and that it ends well where no store fails.
use Rattle.std.proofs.Common.{◌≡◌, ◌≢◌, ◌∙◌, ℕ, ◌<◌, List, [], Option, Some, None, IsTrue, refl, sym, ap, subst, inl, inr, arith}
use Rattle.pj_io.specs.Causes.{Rose}
use Rattle.pj_io.specs.Meanings.{Offices, Streams}
use Rattle.pj_journal.specs.Stored.{Stores}
use Rattle.pj_keep.specs.declared.stop.Stop.TheVariants as stop
use Rattle.pj_keep.specs.Disks.{Disks}
use Rattle.pj_kept.specs.declared.life.Ending.{Ending}
use Rattle.pj_kept.specs.declared.life.Ending.TheVariants.{Spoke, Stopped}
use Rattle.pj_kept.specs.declared.life.Life.{Life}
use Rattle.pj_kept.specs.Life.{HasEnded}
use Rattle.pj_machine.specs.declared.limits.Limits.{Limits}
use Rattle.pj_serve.specs.declared.opening.Opened.{Opened}
use Rattle.pj_serve.specs.declared.status.Status.{Status}
use Rattle.pj_serve.specs.declared.status.Status.TheVariants.{Done, Malformed, Words, ReadFault, WriteFault, Memory, Session, Journal, Store}
use Rattle.pj_serve.specs.Opening.{IsInputAndOutput, IsUnpaired, LacksPair}
use Rattle.pj_serve.specs.Status.{exit_status}
use Rattle.pj_session.specs.declared.end.End.TheVariants as ends
use Rattle.pj_stored.specs.Restored.{IsRestorable, requests_of}
use Rattle.pj_top.specs.declared.finish.KeptFinish.{KeptFinish}
use Rattle.pj_top.specs.Keeps.{WithStores, SameOffice, ends_of, kept_status, LacksStore, LacksStreams, HasKeptOver, DoesKeep}

-- an office at one time
pub same_office : {O : Type 0} (offices : Offices O) (office : O) → SameOffice offices office office
same_office offices office = record { telling = refl; contents = λ told. refl; read_faults = refl; write_faults = refl }

module _ {O S D : Type 0} (offices : Offices O) (streams : Streams S D) (old mid new : O) (same : SameOffice offices old mid) where
  -- the streams are as the office had them before the store was opened
  pub streams_before : (opened : Opened S D) → IsInputAndOutput offices streams mid opened → IsInputAndOutput offices streams old opened
  streams_before opened is = record {
    source = record { told = λ h. is.source.told (same.telling ∙ h); not_shut = is.source.not_shut; no_fault = is.source.no_fault };
    bytes_are = λ h. is.bytes_are (same.telling ∙ h) ∙ ap (λ c. c.input) (same.contents h);
    sink = is.sink;
    label_is = is.label_is;
  }

  -- nor has an input that was opened changed
  source_before : (source : Option S) → IsUnpaired offices streams mid new (offices.contents mid).input source →
      IsUnpaired offices streams old new (offices.contents old).input source
  source_before None lacks = lacks
  source_before (Some s) is = record {
    new = record { told = λ h. is.new.told (same.telling ∙ h); not_shut = is.new.not_shut; no_fault = is.new.no_fault };
    bytes_are = λ h. is.bytes_are (same.telling ∙ h) ∙ ap (λ c. c.input) (same.contents h);
  }

  -- and so is what was lacking
  pub pair_before : (source : Option S) (ended : Status) → LacksPair offices streams mid new (offices.contents mid).input source ended →
      LacksPair offices streams old new (offices.contents old).input source ended
  pair_before source ReadFault l =
      (l.0, subst (λ n. Rose n (offices.read_faults new)) same.read_faults l.1, l.2 ∙ same.write_faults)
  pair_before source WriteFault l =
      (source_before source l.0, subst (λ n. Rose n (offices.write_faults new)) same.write_faults l.1)
  pair_before source Memory l = l
  pair_before source Done l = absurd l
  pair_before source Malformed l = absurd l
  pair_before source Words l = absurd l
  pair_before source Session l = absurd l
  pair_before source Journal l = absurd l
  pair_before source Store l = absurd l

-- a status of a call that lacks a stream
module _ {O S D : Type 0} (offices : Offices O) (streams : Streams S D) (old new : O) (bytes : List ℕ) (source : Option S) where
  -- it does not say that the store is foreign
  pair_known : (ended : Status) → LacksPair offices streams old new bytes source ended → exit_status ended ≢ exit_status Journal
  pair_known ReadFault l e = omega (arith, e)
  pair_known WriteFault l e = omega (arith, e)
  pair_known Memory l e = omega (arith, e)
  pair_known Done l e = absurd l
  pair_known Malformed l e = absurd l
  pair_known Words l e = absurd l
  pair_known Session l e = absurd l
  pair_known Journal l e = absurd l
  pair_known Store l e = absurd l

  -- nor that it failed
  pair_sound : (ended : Status) → LacksPair offices streams old new bytes source ended → exit_status ended ≢ exit_status Store
  pair_sound ReadFault l e = omega (arith, e)
  pair_sound WriteFault l e = omega (arith, e)
  pair_sound Memory l e = omega (arith, e)
  pair_sound Done l e = absurd l
  pair_sound Malformed l e = absurd l
  pair_sound Words l e = absurd l
  pair_sound Session l e = absurd l
  pair_sound Journal l e = absurd l
  pair_sound Store l e = absurd l

-- a count that rose is not 0
risen : (before now : ℕ) → Rose before now → 0 < now
risen before now rose = grind (arith, rose)

module _ {K S D : Type 0} (disks : Disks K) (streams : Streams S D) (limits : Limits) (given : K) (source : S) (sink : D) (life : Life K S D) where
  -- the session ran only over a restorable store
  life_restored : IsTrue (disks.tells given) → (ending : Ending) → HasEnded disks streams limits given source sink life ending →
      ends_of ending ≢ [] → (strings : List (List ℕ)) × Stores (disks.seen given) strings × IsRestorable limits strings
  life_restored told (Spoke end) has some = (requests_of has.first, has.stored told, (has.first, has.restores))
  life_restored told (Stopped why) has some = absurd (some refl)

  -- a store that is told as foreign is not restorable
  life_foreign : IsTrue (disks.tells given) → (ending : Ending) → HasEnded disks streams limits given source sink life ending →
      exit_status (kept_status ending) ≡ exit_status Journal → (strings : List (List ℕ)) → Stores (disks.seen given) strings → IsRestorable limits strings → ⊥
  life_foreign told (Stopped stop.Foreign) has e = has.0.cause told
  life_foreign told (Stopped stop.Store) has e = absurd (omega (arith, e))
  life_foreign told (Stopped stop.Memory) has e = absurd (omega (arith, e))
  life_foreign told (Spoke ends.Done) has e = absurd (omega (arith, e))
  life_foreign told (Spoke ends.ReadFault) has e = absurd (omega (arith, e))
  life_foreign told (Spoke ends.WriteFault) has e = absurd (omega (arith, e))
  life_foreign told (Spoke ends.StoreFault) has e = absurd (omega (arith, e))
  life_foreign told (Spoke ends.Memory) has e = absurd (omega (arith, e))
  life_foreign told (Spoke ends.Bad) has e = absurd (omega (arith, e))
  life_foreign told (Spoke ends.Cut) has e = absurd (omega (arith, e))
  life_foreign told (Spoke ends.Spent) has e = absurd (omega (arith, e))

  -- a store that is told as failed has failed
  life_fault : (ending : Ending) → HasEnded disks streams limits given source sink life ending →
      exit_status (kept_status ending) ≡ exit_status Store → 0 < disks.faults life.store
  life_fault (Stopped stop.Store) has e = risen _ _ has.0.cause
  life_fault (Spoke ends.StoreFault) has e = risen _ _ (has.session.store_cause refl)
  life_fault (Stopped stop.Foreign) has e = absurd (omega (arith, e))
  life_fault (Stopped stop.Memory) has e = absurd (omega (arith, e))
  life_fault (Spoke ends.Done) has e = absurd (omega (arith, e))
  life_fault (Spoke ends.ReadFault) has e = absurd (omega (arith, e))
  life_fault (Spoke ends.WriteFault) has e = absurd (omega (arith, e))
  life_fault (Spoke ends.Memory) has e = absurd (omega (arith, e))
  life_fault (Spoke ends.Bad) has e = absurd (omega (arith, e))
  life_fault (Spoke ends.Cut) has e = absurd (omega (arith, e))
  life_fault (Spoke ends.Spent) has e = absurd (omega (arith, e))

module _ {B S D V K : Type 0} (given : WithStores B S D V K) (limits : Limits) (old new : B) (path : List ℕ) (result : KeptFinish S D V K) where
  -- the store was not opened
  pub lacks_store : LacksStore given limits old new path result → DoesKeep given limits old new path result
  lacks_store l = record {
    outcome = inr (inr l);
    restored = λ told some. absurd (some l.holds.idle.ends);
    foreign = λ told e. elim l.cause [
      | inl fault ↦ absurd (seven (sym (l.status ∙ ap exit_status fault.0) ∙ e))
      | inr memory ↦ absurd (five (sym (l.status ∙ ap exit_status memory) ∙ e))
    ];
    store_fault = λ e. elim l.cause [
      | inl fault ↦ inl fault.1
      | inr memory ↦ absurd (eight (sym (l.status ∙ ap exit_status memory) ∙ e))
    ];
  }
    where
      seven : exit_status Store ≡ exit_status Journal → ⊥
      seven e = omega (arith, e)

      five : exit_status Memory ≡ exit_status Journal → ⊥
      five e = omega (arith, e)

      eight : exit_status Memory ≡ exit_status Store → ⊥
      eight e = omega (arith, e)

  -- the store was opened, and then not both streams
  pub lacks_streams : LacksStreams given limits old new path result → DoesKeep given limits old new path result
  lacks_streams l = record {
    outcome = inr (inl l);
    restored = λ told some. absurd (some l.stopped.none.ends);
    foreign = λ told e. absurd (pair_known given.outside.offices given.outside.streams old new (given.outside.offices.contents old).input
        result.finish.input l.stopped.ended l.stopped.lacks.1 (sym l.stopped.status ∙ e));
    store_fault = λ e. absurd (pair_sound given.outside.offices given.outside.streams old new (given.outside.offices.contents old).input
        result.finish.input l.stopped.ended l.stopped.lacks.1 (sym l.stopped.status ∙ e));
  }

  -- a repository lived
  pub kept_over : HasKeptOver given limits old new path result → DoesKeep given limits old new path result
  kept_over h =
      let streams = given.outside.streams in
      let bytes = h.is_store.bytes in record {
        outcome = inl h;
        restored = λ told some.
            let is = life_restored given.disks streams limits h.opened h.streams.source h.streams.sink h.life (h.is_store.told told) h.life.ending h.lived
            (λ none. some (h.finish.ends ∙ none)) in
            (is.0, subst (λ b. Stores b is.0) (bytes told) is.1, is.2);
        foreign = λ told e strings stored.
            life_foreign given.disks streams limits h.opened h.streams.source h.streams.sink h.life (h.is_store.told told) h.life.ending h.lived
            (sym h.finish.status ∙ e) strings (subst (λ b. Stores b strings) (sym (bytes told)) stored);
        store_fault = λ e.
            inr (
              h.life.store,
              h.finish.store,
              life_fault given.disks streams limits h.opened h.streams.source h.streams.sink h.life h.life.ending h.lived (sym h.finish.status ∙ e),
            );
      }

-- Bytes are taken piece by piece, until they are what a reply is, or are not.
use Rattle.std.proofs.Common.{◌≡◌, ◌⊎◌, ℕ, ◌+◌, ◌<◌, Bool, IsTrue, List, [], ◌++◌, length, Result, Ok, Err, refl, sym, ◌∙◌, ap, subst, arith, append_assoc, append-nil, length-append}
use Rattle.pj_machine.specs.declared.command.Command.{Command}
use Rattle.pj_machine.specs.declared.reply.Numbered.{Numbered}
use Rattle.pj_replies.specs.declared.due.Due.{Due}
use Rattle.pj_replies.specs.declared.decoder.Reading.{Reading}
use Rattle.pj_replies.specs.declared.decoder.Reading.TheVariants.{Whole, More, Strange as Odd}
use Rattle.pj_replies.specs.Reads.{IsDue, Reads, IsStrangeTo, IsTooLong}
use Rattle.pj_exchange.specs.Ends.{IsLess}
use Rattle.pj_sync.specs.declared.link.Link.{Link}
use Rattle.pj_sync.specs.declared.stop.Stop.{Stop}
use Rattle.pj_sync.specs.declared.stop.Stop.TheVariants.{Strange, Cut, Spent, ReadFault, Memory}
use Rattle.pj_sync.specs.Received.{Taken, Received}

-- the reading of what waits, for whatever request the reply is due
abbrev pub ReadsAs : Due → List ℕ → List ℕ → Reading → Type 0
ReadsAs due old new reading = (x : Command) → IsDue x due → Reads x old new reading

-- a reading that is this one
pub read_as : (due : Due) (old new : List ℕ) (found this : Reading) → found ≡ this → ReadsAs due old new found → ReadsAs due old new this
read_as due old new found this same reads = subst (λ (r : Reading). ReadsAs due old new r) same reads

-- what was taken, where it is told that the source tells by an equal word
pub told_so : (a b : Bool) (old new : Link) (left left' : List ℕ) (r : Result (Unit {0}) Stop) → a ≡ b →
    Taken (IsTrue a) old new left left' r → Taken (IsTrue b) old new left left' r
told_so a b old new left left' r same t = subst (λ (w : Bool). Taken (IsTrue w) old new left left' r) same t

-- so many bytes were taken, and none was read
pub record SoFar (due : Due) (Tells : Type 0) (old now : Link) (left left' : List ℕ) : Type 0 where
  pub taken : List ℕ
  pub took : Tells → left ≡ taken ++ left'
  pub counted : length taken + now.room ≡ old.room
  pub waits : (x : Command) → IsDue x due → now.replies ≡ old.replies ++ taken

-- none so far
pub none_yet : (due : Due) (Tells : Type 0) (old : Link) (left : List ℕ) → SoFar due Tells old old left left
none_yet due Tells old left =
    record { taken = []; took = λ h. refl; counted = omega arith; waits = λ x is. sym (append-nil old.replies) }

-- as much may be taken, where these bytes wait
abbrev pub looked : Link → List ℕ → Link
looked now waiting = record { replies = waiting; room = now.room }

module _ (due : Due) (Tells : Type 0) (old now : Link) (left middle : List ℕ) (so : SoFar due Tells old now left middle) (waiting : List ℕ) where
  -- memory ran out
  pub ran_out : Received due Tells old (looked now waiting) left middle (Err Memory)
  ran_out = record { taken = so.taken; took = so.took; counted = so.counted; finds = λ x is. tt }

  -- the reply is there
  pub whole : (r : Numbered) → ReadsAs due now.replies waiting (Whole r) → Received due Tells old (looked now waiting) left middle (Ok r)
  whole r reads = record {
    taken = so.taken;
    took = so.took;
    counted = so.counted;
    finds = λ x is. ((reads x is).0, sym (so.waits x is) ∙ (reads x is).1);
  }

  -- what is there is no reply
  pub odd : ReadsAs due now.replies waiting Odd → Received due Tells old (looked now waiting) left middle (Err Strange)
  odd reads = record {
    taken = so.taken;
    took = so.took;
    counted = so.counted;
    finds = λ x is. (
      (reads x is).0 ∙ so.waits x is,
      subst (λ (b : List ℕ). IsStrangeTo x b ⊎ IsTooLong x b) (so.waits x is) (reads x is).1,
    );
  }

  -- what is there is less than a reply
  module _ (reads : ReadsAs due now.replies waiting More) where
    -- and nothing more may be taken
    pub full : now.room ≡ 0 → Received due Tells old (looked now waiting) left middle (Err Spent)
    full none = record {
      taken = so.taken;
      took = so.took;
      counted = so.counted;
      finds = λ x is. (
        (reads x is).0 ∙ so.waits x is,
        subst (λ (b : List ℕ). IsLess b x) (so.waits x is) ((reads x is).1, (reads x is).2),
        none,
      );
    }

    -- or more was taken
    module _ (new : Link) (left' : List ℕ) where
      -- of what was left at first
      took_both : (taken : List ℕ) → (Tells → middle ≡ taken ++ left') → Tells → left ≡ (so.taken ++ taken) ++ left'
      took_both taken took h = so.took h ∙ ap (λ b. so.taken ++ b) (took h) ∙ sym (append_assoc so.taken taken left')

      -- of what might be taken at first
      counted_both : (taken : List ℕ) → length taken + new.room ≡ now.room → length (so.taken ++ taken) + new.room ≡ old.room
      counted_both taken more = (let first = so.counted in omega (arith, length-append so.taken taken))

      -- and waits behind the others
      pub goes_on : (u : Unit {0}) → Taken Tells (looked now waiting) new middle left' (Ok u) → SoFar due Tells old new left left'
      goes_on u t = record {
        taken = so.taken ++ t.taken;
        took = took_both t.taken t.took;
        counted = counted_both t.taken t.counted;
        waits = λ x is.
            t.feeds.0 ∙ ap (λ b. b ++ t.taken) ((reads x is).0 ∙ so.waits x is) ∙ append_assoc old.replies so.taken t.taken;
      }

      -- or none was, and the bytes are as before
      kept : (x : Command) → IsDue x due → (taken : List ℕ) → taken ≡ [] → now.replies ≡ old.replies ++ (so.taken ++ taken)
      kept x is taken none =
          so.waits x is ∙ ap (λ b. old.replies ++ b) (sym (append-nil so.taken) ∙ ap (λ b. so.taken ++ b) (sym none))

      -- so they are less than a reply still
      less : (x : Command) → IsDue x due → (taken : List ℕ) → taken ≡ [] → IsLess (old.replies ++ (so.taken ++ taken)) x
      less x is taken none = subst (λ (b : List ℕ). IsLess b x) (kept x is taken none) ((reads x is).1, (reads x is).2)

      -- and no reply comes
      pub stops : 0 < now.room → (stop : Stop) → Taken Tells (looked now waiting) new middle left' (Err stop) →
          Received due Tells old new left left' (Err stop)
      stops some Cut t = record {
        taken = so.taken ++ t.taken;
        took = took_both t.taken t.took;
        counted = counted_both t.taken t.counted;
        finds = λ x is. (
          t.feeds.0 ∙ (reads x is).0 ∙ kept x is t.taken t.feeds.1,
          less x is t.taken t.feeds.1,
          (let none : length t.taken ≡ 0 = ap (λ (b : List ℕ). length b) t.feeds.1 in let counted = t.counted in omega arith),
          t.feeds.2,
        );
      }
      stops some ReadFault t = record {
        taken = so.taken ++ t.taken;
        took = took_both t.taken t.took;
        counted = counted_both t.taken t.counted;
        finds = λ x is. (t.feeds.0 ∙ (reads x is).0 ∙ kept x is t.taken t.feeds.1, less x is t.taken t.feeds.1);
      }
      stops some Memory t = record {
        taken = so.taken ++ t.taken;
        took = took_both t.taken t.took;
        counted = counted_both t.taken t.counted;
        finds = λ x is. tt;
      }
      stops some Strange t = absurd t.feeds
      stops some Spent t = absurd t.feeds

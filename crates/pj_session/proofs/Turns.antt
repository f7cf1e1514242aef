-- The requests that wait are answered one by one.
use Rattle.std.proofs.Common.{◌≡◌, ℕ, List, [], ◌∷◌, ◌++◌, All, Option, Some, refl, sym, ◌∙◌, ap, subst, arith, append_assoc, append-nil}
use Rattle.std.proofs.lemmas.List.{length_push}
use Rattle.std.proofs.lemmas.List.Elements.{All-nil, All-push}
use Rattle.pj_io.specs.Sink.{AppendsFront}
use Rattle.pj_machine.specs.declared.command.Command.{Command}
use Rattle.pj_machine.specs.declared.command.Command.TheVariants.{Quit}
use Rattle.pj_machine.specs.declared.limits.Limits.{Limits}
use Rattle.pj_machine.specs.declared.reply.Numbered.{Numbered}
use Rattle.pj_machine.specs.Answered.{Answered}
use Rattle.pj_machine.specs.Call.{PassView}
use Rattle.pj_wire.specs.Requests.{spelling, spellings, IsCall}
use Rattle.pj_wire.specs.Replies.{reply_bytes, written, IsReply}
use Rattle.pj_session.specs.declared.end.End.{End}
use Rattle.pj_session.specs.declared.end.End.TheVariants.{Done, WriteFault, Memory, StoreFault}
use Rattle.pj_session.specs.Calls.{Calls, Chain}
use Rattle.pj_session.specs.Turn.{Turn, WroteSoFar}
use Rattle.pj_session.proofs.Bytes.{spellings_push, written_push}
use Rattle.pj_session.proofs.Chains.{chain_push}

module _ (limits : Limits) {S : Type 0} (Does : S → Command → Numbered → S → Type 0) (before : PassView) (start : S) (bytes : List ℕ) (T : Type 0) (old : List ℕ) where
  -- the requests that were answered so far
  pub record Underway (after : PassView) (now : S) (left new : List ℕ) : Type 0 where
    pub requests : List Command
    pub replies : List Numbered
    pub calls : Calls limits before requests replies after
    pub steps : Chain Does start requests replies now
    pub each : All IsCall requests
    pub small : All IsReply replies
    pub whole : bytes ≡ spellings requests ++ left
    pub wrote : T → new ≡ old ++ written replies

  abbrev pub Turned : PassView → S → List ℕ → List ℕ → Option End → Type 0
  Turned after now left new ended = Turn bytes left (λ xs rs. Calls limits before xs rs after × Chain Does start xs rs now × (T → WroteSoFar ended old new rs)) ended

  pub none_yet : bytes ≡ bytes → Underway before start bytes old
  none_yet e = record { requests = []; replies = []; calls = refl; steps = refl; each = All-nil IsCall; small = All-nil IsReply; whole = refl; wrote = λ h. sym (append-nil old) }

  whole_push : (xs : List Command) (x : Command) (left rest : List ℕ) → bytes ≡ spellings xs ++ left → left ≡ spelling x ++ rest → bytes ≡ spellings (xs ++ x ∷ []) ++ rest
  whole_push xs x left rest e f = e ∙ ap (λ t. spellings xs ++ t) f ∙ sym (append_assoc (spellings xs) (spelling x) rest) ∙ ap (λ t. t ++ rest) (sym (spellings_push xs x))

  pub ends_memory : (after : PassView) (now : S) (left rest new : List ℕ) → Underway after now left new → Turned after now rest new (Some Memory)
  ends_memory after now left rest new u = record { requests = u.requests; replies = u.replies; each = u.each; small = u.small; stops = (left, u.whole); did = (u.calls, u.steps, u.wrote) }

  pub ends_done : (after : PassView) (now : S) (left rest new : List ℕ) → Underway after now left new → left ≡ spelling Quit ++ rest → Turned after now rest new (Some Done)
  ends_done after now left rest new u e = record { requests = u.requests; replies = u.replies; each = u.each; small = u.small; stops = u.whole ∙ ap (λ t. spellings u.requests ++ t) e; did = (u.calls, u.steps, u.wrote) }

  -- a command more was answered
  module _ (middle after : PassView) (between now : S) (left rest middle_bytes : List ℕ) (x : Command) (r : Numbered) (u : Underway middle between left middle_bytes)
      (call : IsCall x) (front : left ≡ spelling x ++ rest) (answered : Answered limits middle after x r) (does : Does between x r now) (is_small : IsReply r) where
    calls_now : Calls limits before (u.requests ++ x ∷ []) (u.replies ++ r ∷ []) after
    calls_now = chain_push (λ a y q b. Answered limits a b y q) before middle after u.requests u.replies x r u.calls answered

    steps_now : Chain Does start (u.requests ++ x ∷ []) (u.replies ++ r ∷ []) now
    steps_now = chain_push Does start between now u.requests u.replies x r u.steps does

    each_now : All IsCall (u.requests ++ x ∷ [])
    each_now = All-push IsCall u.requests x u.each call

    small_now : All IsReply (u.replies ++ r ∷ [])
    small_now = All-push IsReply u.replies r u.small is_small

    -- its reply was written
    pub one_more : (new : List ℕ) → (T → new ≡ middle_bytes ++ reply_bytes r) → Underway after now rest new
    one_more new w = record {
      requests = u.requests ++ x ∷ [];
      replies = u.replies ++ r ∷ [];
      calls = calls_now;
      steps = steps_now;
      each = each_now;
      small = small_now;
      whole = whole_push u.requests x left rest u.whole front;
      wrote = λ h. w h ∙ ap (λ t. t ++ reply_bytes r) (u.wrote h) ∙ append_assoc old (written u.replies) (reply_bytes r) ∙ ap (λ t. old ++ t) (sym (written_push u.replies r));
    }

    -- or a front of it
    pub ends_fault : (new : List ℕ) → (T → AppendsFront middle_bytes new (reply_bytes r)) → Turned after now rest new (Some WriteFault)
    ends_fault new w = record {
      requests = u.requests ++ x ∷ [];
      replies = u.replies ++ r ∷ [];
      each = each_now;
      small = small_now;
      stops = (whole_push u.requests x left rest u.whole front, omega (arith, length_push u.requests x));
      did = (calls_now, steps_now, λ h. record { whole = u.replies; last = r; all = refl; front = subst (λ t. AppendsFront t new (reply_bytes r)) (u.wrote h) (w h) });
    }

    -- or nothing of it
    pub ends_store : Turned after now rest middle_bytes (Some StoreFault)
    ends_store = record {
      requests = u.requests ++ x ∷ [];
      replies = u.replies ++ r ∷ [];
      each = each_now;
      small = small_now;
      stops = (whole_push u.requests x left rest u.whole front, omega (arith, length_push u.requests x));
      did = (calls_now, steps_now, λ h. record { whole = u.replies; last = r; all = refl; bytes = u.wrote h });
    }

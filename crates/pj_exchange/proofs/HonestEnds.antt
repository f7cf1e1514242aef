-- How an exchange with an honest server ends.
use Rattle.std.proofs.Common.{◌≡◌, ℕ, List, [], ◌∷◌, ◌++◌, length, refl, sym, ◌∙◌, ap, subst, inl, inr, arith, append_assoc, append-nil}
use Rattle.std.specs.List.{AllByRecursion}
use Rattle.std.proofs.lemmas.List.Elements.{All-from_recursion}
use Rattle.std.specs.Prelude.{Contains}
use Rattle.pj_change.proofs.Members.{first_member, later_member}
use Rattle.pj_machine.specs.declared.channel_name.ChannelName.{ChannelName}
use Rattle.pj_machine.specs.declared.command.Command.{Command}
use Rattle.pj_machine.specs.declared.journal.Entry.{Entry}
use Rattle.pj_machine.specs.declared.limits.Limits.{Limits}
use Rattle.pj_machine.specs.declared.reply.Numbered.{Numbered}
use Rattle.pj_machine.specs.declared.reply.Numbered.TheVariants.{At, NoMemory}
use Rattle.pj_machine.specs.declared.reply.Reply.TheVariants.{No}
use Rattle.pj_replies.specs.Reads.{IsPartOf, IsStrangeTo, IsTooLong}
use Rattle.pj_replies.proofs.Rooms.{room_reply}
use Rattle.pj_wire.specs.Replies.{IsReply, written}
use Rattle.pj_wire.proofs.OneReply.{so_many_read_back}
use Rattle.pj_exchange.specs.declared.end.SyncEnd.{SyncEnd}
use Rattle.pj_exchange.specs.declared.end.SyncEnd.TheVariants.{Done, Remote, Strange, Local, Cut, Spent, ReadFault, WriteFault, StoreFault, Memory}
use Rattle.pj_exchange.specs.Ends.{AreReplies, Course, EndsBy, IsCourse, IsDueIn, IsOddLast, all_of}
use Rattle.pj_exchange.specs.Events.{Event, Here, There, asked, told, sent, got}
use Rattle.pj_exchange.specs.Honest.{IsFault, IsHonest, IsWhole, TellsOfHonest}
use Rattle.pj_exchange.specs.Laws.{HonestEnds, HonestIsWhole}
use Rattle.pj_exchange.specs.Phases.{Asking, OnlyAdds, Over, Requests, Runs}
use Rattle.pj_exchange.specs.Sides.{AreUnited, IsSide, first_place, last_place}
use Rattle.pj_exchange.proofs.Due.{all_fit, due_is_there}
use Rattle.pj_exchange.proofs.Growing.{all_asked}
use Rattle.pj_exchange.proofs.LimitOnly.{local_is_limit}
use Rattle.pj_exchange.proofs.NeverOdd.{never_odd}
use Rattle.pj_exchange.proofs.OnlyGrows.{only_grows}
use Rattle.pj_exchange.proofs.Unites.{exchange_unites}

-- replies that may come can be read back
readable : (xs : List Command) (rs : List Numbered) → AreReplies xs rs → AllByRecursion IsReply rs × (length rs ≡ length xs)
readable [] [] all = (tt, refl)
readable [] (r ∷ rs) all = absurd all
readable (x ∷ xs) [] all = absurd all
readable (x ∷ xs) (r ∷ rs) all =
    let rest = readable xs rs all.1 in
    ((room_reply r all.0.room, rest.0), (let size = rest.1 in omega arith))

-- one more request was sent
sent_push : (run : List Event) (x : Command) (r : Numbered) → sent (run ++ There x r ∷ []) ≡ sent run ++ x ∷ []
sent_push [] x r = refl
sent_push (Here y q ∷ run) x r = sent_push run x r
sent_push (There y q ∷ run) x r = ap (λ l. y ∷ l) (sent_push run x r)

module _ (c : ChannelName) (s : Course) (limits : Limits) (here : List Entry) (pass : ℕ) (left : List ℕ) (goes : IsCourse c s)
    (own : IsSide limits here pass c (asked (all_of s)) (told (all_of s))) (h : IsHonest c here (sent (all_of s) ++ s.pending) (s.taken ++ left)) where
  -- the bytes that come, as the replies that were read and as those of the other server
  whole : written (got (all_of s)) ++ (s.rest ++ left) ≡ written h.replies ++ h.bytes_are.0
  whole = sym (append_assoc (written (got (all_of s))) s.rest left) ∙ ap (λ t. t ++ left) (sym goes.read) ∙ sym h.bytes_are.1

  -- what was read can be read back
  read_all : AllByRecursion IsReply (got (all_of s)) × (length (got (all_of s)) ≡ length (sent (all_of s)))
  read_all = readable (sent (all_of s)) (got (all_of s)) goes.replies

  -- where no reply is due, the replies of the other server are those that were read
  told_all : s.pending ≡ [] → h.replies ≡ got (all_of s)
  told_all none =
      let side = subst (λ l. IsSide h.limits h.journal h.pass c l h.replies) (ap (λ l. sent (all_of s) ++ l) none ∙ append-nil (sent (all_of s))) h.side in
      let fit = all_fit h.limits h.journal h.pass c side.legal 1 0 (sent (all_of s)) h.replies side.spoke.results
      (all_asked c (sent (all_of s)) (only_grows c s goes.runs goes.of_phase).1) in
      sym (so_many_read_back (got (all_of s)) h.replies (s.rest ++ left) h.bytes_are.0 (All-from_recursion IsReply (got (all_of s)) read_all.0)
      (All-from_recursion IsReply h.replies fit.0) (read_all.1 ∙ sym fit.1) whole).0

  -- so the other server is a side of them
  peer : s.pending ≡ [] → IsSide h.limits h.journal h.pass c (sent (all_of s)) (got (all_of s))
  peer none =
      subst (λ rs. IsSide h.limits h.journal h.pass c (sent (all_of s)) rs) (told_all none)
      (subst (λ l. IsSide h.limits h.journal h.pass c l h.replies) (ap (λ l. sent (all_of s) ++ l) none ∙ append-nil (sent (all_of s))) h.side)

  -- where the last event is odd, no reply is due
  odd_waits : IsOddLast c s → s.pending ≡ []
  odd_waits odd = elim goes.waits [
    | inl none ↦ none
    | inr w ↦ elim odd [
      | inl l ↦ absurd (let k : There l.request l.reply ∷ [] ≡ [] = sym l.is ∙ w.0 in cc k)
      | inr u ↦ absurd (let k : Here u.1.command _ ∷ [] ≡ [] = sym u.1.is ∙ w.0 in cc k)
    ]
  ]

  -- a reply that is due stands in the bytes
  due_stands : {Of : Command → Type 0} → (d : IsDueIn c s Of) →
      (IsStrangeTo d.request s.rest → ⊥) × (IsTooLong d.request s.rest → ⊥) × (IsPartOf d.request s.rest → left ≡ [] → ⊥)
  due_stands d =
      let further : Course = record {
        run = s.run;
        phase = s.phase;
        last = There d.request NoMemory ∷ [];
        pending = [];
        taken = s.taken;
        rest = s.rest;
      } in
      let before : sent (all_of s) ≡ sent s.run = ap (λ l. sent (s.run ++ l)) d.none ∙ ap sent (append-nil s.run) in
      let adds : OnlyAdds c (sent (all_of s) ++ d.request ∷ []) =
      subst (λ l. OnlyAdds c l) (sent_push s.run d.request NoMemory ∙ ap (λ l. l ++ d.request ∷ []) (sym before)) (only_grows c further goes.runs d.sends).1 in
      let side = subst (λ l. IsSide h.limits h.journal h.pass c (sent (all_of s) ++ l) h.replies) d.is h.side in
      due_is_there c h.limits h.journal h.pass (sent (all_of s)) d.request
      (got (all_of s)) h.replies s.rest left h.bytes_are.0 adds side.legal side.spoke read_all.1
      (All-from_recursion IsReply (got (all_of s)) read_all.0) whole

  -- each end
  tells : (limit : ℕ) (end : SyncEnd) → EndsBy c limit s (left ≡ []) end → TellsOfHonest c here (told (all_of s)) h.journal h.replies end
  tells limit (Done took gave) ends =
      let none : s.pending ≡ [] = elim goes.waits [
        | inl none ↦ none
        | inr w ↦ absurd (subst (λ p. Requests c p w.1.0) ends.0 w.1.2)
      ] in
      let same : all_of s ≡ s.run = ap (λ l. s.run ++ l) ends.1 ∙ append-nil s.run in
      let runs : Runs c Asking (all_of s) Over = subst (λ l. Runs c Asking l Over) (sym same) (subst (λ p. Runs c Asking s.run p) ends.0 goes.runs) in
      subst (λ rs. AreUnited c here (first_place (told (all_of s))) (last_place (told (all_of s))) h.journal (first_place rs) (last_place rs))
      (sym (told_all none))
      (exchange_unites c (all_of s) limits h.limits here h.journal pass h.pass runs own (peer none))
  tells limit (Strange request) ends = elim ends [
    | inl d ↦ (let stands = due_stands d.1 in elim d.1.of [ inl strange ↦ stands.0 strange | inr long ↦ stands.1 long ])
    | inr o ↦ never_odd c s limits h.limits here h.journal pass h.pass goes.runs own (peer (odd_waits o.1)) h.one_text o.1
  ]
  tells limit Cut ends = (due_stands ends.0).2 ends.0.of.0 ends.2
  tells limit (Remote request) ends = tt
  tells limit (Local why) ends =
      let l = ends.0 in
      let none : s.pending ≡ [] = elim goes.waits [
        | inl none ↦ none
        | inr w ↦ absurd (let k : Here l.command _ ∷ [] ≡ [] = sym l.is ∙ w.0 in cc k)
      ] in
      local_is_limit c s limits h.limits here h.journal pass h.pass goes.runs own (peer none) h.one_text why l ends.1
  tells limit Spent ends = tt
  tells limit ReadFault ends = tt
  tells limit WriteFault ends = tt
  tells limit StoreFault ends = tt
  tells limit Memory ends = tt

-- the law
pub honest_ends : HonestEnds
honest_ends c limit s limits here pass left end goes own h ends = tells c s limits here pass left goes own h limit end ends

-- ---- where nothing else stops it

-- what was replied last is one of the replies
got_last : (run : List Event) (x : Command) (r : Numbered) → Contains (got (run ++ There x r ∷ [])) r
got_last [] x r = first_member r []
got_last (Here y q ∷ run) x r = got_last run x r
got_last (There y q ∷ run) x r = later_member q (got (run ++ There x r ∷ [])) r (got_last run x r)

-- and what was answered last one of the answers
told_last : (run : List Event) (x : Command) (r : Numbered) → Contains (told (run ++ Here x r ∷ [])) r
told_last [] x r = first_member r []
told_last (Here y q ∷ run) x r = later_member q (told (run ++ Here x r ∷ [])) r (told_last run x r)
told_last (There y q ∷ run) x r = told_last run x r

-- the law
pub honest_is_whole : HonestIsWhole
honest_is_whole c limit s limits here pass left end goes own h ends no_refusal no_limit few sound =
    go end ends (honest_ends c limit s limits here pass left end goes own h ends) sound
  where
    go : (e : SyncEnd) → EndsBy c limit s (left ≡ []) e → TellsOfHonest c here (told (all_of s)) h.journal h.replies e → (IsFault e → ⊥) → IsWhole e
    go (Done took gave) by said fine = tt
    go (Remote request) by said fine =
        let l = by.1 in
        no_refusal l.reply (subst (λ e. Contains (got (s.run ++ e)) l.reply) (sym l.is) (got_last s.run l.request l.reply)) l.of
    go (Strange request) by said fine = said
    go (Local why) by said fine =
        let l = by.0 in
        no_limit l.place why said (subst (λ e. Contains (told (s.run ++ e)) (At l.place (No why))) (sym l.is) (told_last s.run l.command (At l.place (No why))))
    go Cut by said fine = said
    go Spent by said fine = absurd (let at = by.1 in omega arith)
    go ReadFault by said fine = fine tt
    go WriteFault by said fine = fine tt
    go StoreFault by said fine = fine tt
    go Memory by said fine = tt

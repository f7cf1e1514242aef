-- The reply that is due stands in the bytes of an honest side.
use Rattle.std.proofs.Common.{◌≡◌, ℕ, ◌+◌, ◌^◌, ◌<◌, ◌≤◌, List, [], ◌∷◌, ◌++◌, length, get_or, decimal, refl, sym, ◌∙◌, ap, subst, inl, inr, arith, append_assoc, append-nil}
use Rattle.std.specs.Prelude.{codes, Option, Some, None}
use Rattle.std.specs.List.{AllByRecursion, AllPass, join_with_byte}
use Rattle.std.proofs.lemmas.Fmt.{decimal_injective}
use Rattle.std.proofs.lemmas.List.Elements.{All-from_recursion}
use Rattle.pj_name.specs.declared.name.Name.{Name}
use Rattle.pj_change.specs.Text.{line}
use Rattle.pj_machine.specs.declared.channel_name.ChannelName.{ChannelName}
use Rattle.pj_machine.specs.declared.command.Command.{Command}
use Rattle.pj_machine.specs.declared.command.Command.TheVariants as command
use Rattle.pj_machine.specs.declared.journal.Entry.{Entry}
use Rattle.pj_machine.specs.declared.limits.Limits.{Limits}
use Rattle.pj_machine.specs.declared.reply.Numbered.{Numbered}
use Rattle.pj_machine.specs.declared.reply.Numbered.TheVariants.{At, NoMemory}
use Rattle.pj_machine.specs.declared.reply.Refusal.TheVariants as refusal
use Rattle.pj_machine.specs.declared.reply.Reply.{Reply}
use Rattle.pj_machine.specs.declared.reply.Reply.TheVariants.{Body, No}
use Rattle.pj_machine.specs.declared.command.Write.{Write}
use Rattle.pj_machine.specs.Answer.{IsAnswer}
use Rattle.pj_machine.specs.Call.{IsResult, entry}
use Rattle.pj_machine.specs.Legal.{IsLegal}
use Rattle.pj_replies.specs.MayCome.{HasRoom, IsReplyTo, MayCome}
use Rattle.pj_replies.specs.Reads.{IsTooLong}
use Rattle.pj_replies.proofs.Coming.{answers_may_come}
use Rattle.pj_replies.proofs.Rooms.{room_reply, part_has_none}
use Rattle.pj_scan.specs.Scan.{is_word_byte}
use Rattle.pj_session.specs.Spoke.{AreResults, place_after}
use Rattle.pj_wire.specs.Replies.{IsReply, reply_bytes, written}
use Rattle.pj_wire.proofs.Fronts.{either_begins}
use Rattle.pj_wire.proofs.OneLine.{one_line}
use Rattle.pj_wire.proofs.OneReply.{so_many_read_back}
use Rattle.pj_wire.proofs.Words.{number_inside, passes}
use Rattle.pj_exchange.specs.Laws.{DueIsThere}
use Rattle.pj_exchange.proofs.Growing.{MayBeAsked, all_asked, within}
use Rattle.pj_exchange.proofs.Numbers.{got_short, has_room}
use Rattle.pj_exchange.proofs.SideSteps.{legal_prefix}

-- ---- one reply

-- a reply may come to its command, and its numbers fit; and the text that a `get` is replied is no longer than any
record IsFit (x : Command) (r : Numbered) : Type 0 where
  reply : IsReplyTo x r
  short : (change : Name) (place : ℕ) (text : List ℕ) → x ≡ command.Get change → r ≡ At place (Body text) → length text ≤ 16777216

module _ (limits : Limits) (journal : List Entry) (p : ℕ) (c : ChannelName) (legal : IsLegal limits journal) where
  -- the answer to a `get`
  as_got : (before : List Entry) (entered : Option Write) (x : Command) (reply : Reply) (change : Name) (text : List ℕ) {place : ℕ} (at : ℕ) →
      x ≡ command.Get change →
      At place reply ≡ At at (Body text) → IsAnswer limits before x reply entered → IsAnswer limits before (command.Get change) (Body text) entered
  as_got before entered x reply change text at is same a =
      let k : reply ≡ Body text = cc in
      subst (λ r. IsAnswer limits before (command.Get change) r entered) k (subst (λ y. IsAnswer limits before y reply entered) is a)

  -- so is each reply of a side
  fits : (call : ℕ) (x : Command) (r : Numbered) → IsResult limits journal p call x r → MayBeAsked c x → IsFit x r
  fits call x NoMemory result asked = record {
    reply = record { told = tt; room = tt };
    short = λ change place text is same. absurd (cc same);
  }
  fits call x (At place reply) result asked =
      let low = within limits journal p c legal call place x reply result in
      let few = legal.few in
      let most = limits.few_entries in
      let small : place < 2 ^ 64 = omega arith in
      elim result [
        | inl w ↦
            let before = legal_prefix limits journal w.before (entry p call w.write ∷ w.after) legal w.stands in
            record {
              reply = record {
                told = answers_may_come limits w.before x reply (Some w.write) w.answer;
                room = has_room limits w.before before c place small (Some w.write) x reply asked w.answer;
              };
              short = λ change at text is same.
                  got_short limits w.before before c place small (Some w.write) change text
                  (as_got w.before (Some w.write) x reply change text at is same w.answer);
            }
        | inr s ↦
            let before = legal_prefix limits journal s.before s.after legal s.stands in
            record {
              reply = record {
                told = answers_may_come limits s.before x reply None s.answer;
                room = has_room limits s.before before c place small None x reply asked s.answer;
              };
              short = λ change at text is same.
                  got_short limits s.before before c place small None change text
                  (as_got s.before None x reply change text at is same s.answer);
            }
      ]

  -- ---- all replies

  -- as many as commands, and with numbers that can be read back
  pub all_fit : (call low : ℕ) (xs : List Command) (rs : List Numbered) → AreResults limits journal p call low xs rs → AllByRecursion (MayBeAsked c) xs →
      AllByRecursion IsReply rs × (length rs ≡ length xs)
  all_fit call low [] [] m all = (tt, refl)
  all_fit call low [] (r ∷ rs) m all = absurd m
  all_fit call low (x ∷ xs) [] m all = absurd m
  all_fit call low (x ∷ xs) (r ∷ rs) m all =
      let rest = all_fit (call + 1) (place_after low r) xs rs m.2 all.1 in
      ((room_reply r (fits call x r m.0 all.0).reply.room, rest.0), (let size = rest.1 in omega arith))

  -- the replies to all but the last command, and that to the last
  record Split (xs : List Command) (x : Command) (rs : List Numbered) : Type 0 where
    first : List Numbered
    last : Numbered
    is : rs ≡ first ++ last ∷ []
    size : length first ≡ length xs
    replies : AllByRecursion IsReply first
    fit : IsFit x last

  -- which a side has
  split : (call low : ℕ) (xs : List Command) (x : Command) (rs : List Numbered) → AreResults limits journal p call low (xs ++ x ∷ []) rs →
      AllByRecursion (MayBeAsked c) (xs ++ x ∷ []) → Split xs x rs
  split call low [] x [] m all = absurd m
  split call low [] x (r ∷ []) m all =
      record { first = []; last = r; is = refl; size = refl; replies = tt; fit = fits call x r m.0 all.0 }
  split call low [] x (r ∷ q ∷ rs) m all = absurd m.2
  split call low (y ∷ xs) x [] m all = absurd m
  split call low (y ∷ xs) x (r ∷ rs) m all =
      let rest = split (call + 1) (place_after low r) xs x rs m.2 all.1 in
      let one = fits call y r m.0 all.0 in
      record {
        first = r ∷ rest.first;
        last = rest.last;
        is = ap (λ l. r ∷ l) rest.is;
        size = (let size = rest.size in omega arith);
        replies = (room_reply r one.reply.room, rest.replies);
        fit = rest.fit;
      }

-- the bytes of one more reply
written_push : (rs : List Numbered) (r : Numbered) → written (rs ++ r ∷ []) ≡ written rs ++ reply_bytes r
written_push [] r = append-nil (reply_bytes r)
written_push (q ∷ rs) r = ap (λ t. reply_bytes q ++ t) (written_push rs r) ∙ sym (append_assoc (reply_bytes q) (written rs) (reply_bytes r))

-- ---- a line that says too much

-- two lines `ok` at one place of bytes say the same number
one_number : (place count place' count' : ℕ) (a b : List ℕ) → (place < 2 ^ 64) × (count < 2 ^ 64) → (place' < 2 ^ 64) × (count' < 2 ^ 64) →
    line (codes "ok" ∷ decimal place ∷ decimal count ∷ []) ++ a ≡ line (codes "ok" ∷ decimal place' ∷ decimal count' ∷ []) ++ b → count ≡ count'
one_number place count place' count' a b few few' e =
    let ok : AllPass is_word_byte (codes "ok") = passes (codes "ok") refl in
    let first : List ℕ = join_with_byte 32 (codes "ok" ∷ decimal place ∷ decimal count ∷ []) in
    let second : List ℕ = join_with_byte 32 (codes "ok" ∷ decimal place' ∷ decimal count' ∷ []) in
    let same = one_line (codes "ok") (codes "ok") (decimal place ∷ decimal count ∷ []) (decimal place' ∷ decimal count' ∷ []) a b
    (ok, (number_inside place few.0, (number_inside count few.1, tt))) (ok, (number_inside place' few'.0, (number_inside count' few'.1, tt)))
    (sym (append_assoc first (10 ∷ []) a) ∙ e ∙ append_assoc second (10 ∷ []) b) in
    decimal_injective count count' few.1 few'.1 (ap (λ ws. get_or ws 2 []) same.0)

-- bytes that begin with another word are not those of such a line
other_word : {s t : List ℕ} → 111 ∷ s ≡ 110 ∷ t → ⊥
other_word {s} {t} e = (let k : ◌≡◌ {A = ℕ} 111 110 = ap (λ (l : List ℕ). get_or l 0 0) e in absurd (omega arith))

-- what is replied to a `get` does not say too much
not_long : (x : Command) (r : Numbered) → IsFit x r → (rest left more : List ℕ) → rest ++ left ≡ reply_bytes r ++ more → IsTooLong x rest → ⊥
not_long x r fit rest left more e long = go r fit (sym (append_assoc (line (codes "ok" ∷ decimal long.place ∷ decimal long.count ∷ [])) long.rest left) ∙ ap
    (λ t. t ++ left) (sym long.whole) ∙ e)
  where
    go : (r : Numbered) → IsFit x r → line (codes "ok" ∷ decimal long.place ∷ decimal long.count ∷ []) ++ (long.rest ++ left) ≡ reply_bytes r ++ more → ⊥
    go NoMemory fit e = other_word e
    go (At place reply) fit e = elim (subst (λ y. MayCome y reply) long.asked fit.reply.told) [
      | inl t ↦
          let said = subst (λ q. (HasRoom (At place q)) × (line (codes "ok" ∷ decimal long.place ∷ decimal long.count ∷ []) ++
          (long.rest ++ left) ≡ reply_bytes (At place q) ++ more)) t.1 (fit.reply.room, e) in
          let short = fit.short long.change place t.0 long.asked (ap (At place) t.1) in
          let same = one_number long.place long.count place (length t.0) (long.rest ++ left) ((t.0 ++ 10 ∷ []) ++ more) long.few said.0
          (said.1 ∙ append_assoc (line (codes "ok" ∷ decimal place ∷ decimal (length t.0) ∷ [])) (t.0 ++ 10 ∷ []) more) in
          let many = long.many in
          omega arith
      | inr t ↦
          let is : reply ≡ No refusal.Change = t.2 ∙ ap No t.1 in
          let said : line (codes "ok" ∷ decimal long.place ∷ decimal long.count ∷ []) ++ (long.rest ++ left) ≡ reply_bytes
          (At place (No refusal.Change)) ++ more =
          e ∙ ap (λ q. reply_bytes (At place q) ++ more) is in
          absurd (other_word said)
    ]

-- the law
pub due_is_there : DueIsThere
due_is_there c limits journal pass xs x rs qs rest left more adds legal spoke size replies e =
    let s = split limits journal pass c legal 1 0 xs x qs spoke.results (all_asked c (xs ++ x ∷ []) adds) in
    let whole : written rs ++ (rest ++ left) ≡ written s.first ++ (reply_bytes s.last ++ more) =
    e ∙ ap (λ l. written l ++ more) s.is ∙ ap (λ t. t ++ more) (written_push s.first s.last) ∙ append_assoc (written s.first) (reply_bytes s.last) more in
    let same : rest ++ left ≡ reply_bytes s.last ++ more =
    (so_many_read_back rs s.first (rest ++ left) (reply_bytes s.last ++ more) replies (All-from_recursion IsReply s.first s.replies)
    (size ∙ sym s.size) whole).1 in (
      λ strange. elim (either_begins rest left (reply_bytes s.last) more same) [
        | inl h ↦ strange.begins_none s.last h.0 s.fit.reply h.1
        | inr h ↦ strange.has_none s.last h.0 s.fit.reply h.1
      ],
      not_long x s.last s.fit rest left more same,
      λ part none. part_has_none x rest s.last more part s.fit.reply (sym (append-nil rest) ∙ ap (λ t. rest ++ t) (sym none) ∙ same),
    )

-- Replies by what is due, and replies by the command.
use Rattle.std.proofs.Common.{◌≡◌, ℕ, ◌<◌, ◌^◌, Some, List, ◌++◌, get_or, refl, sym, ◌∙◌, ap, subst, inl, inr, arith}
use Rattle.std.specs.Prelude.{◌⊎◌}
use Rattle.pj_machine.specs.declared.command.Command.{Command}
use Rattle.pj_machine.specs.declared.command.Command.TheVariants as command
use Rattle.pj_machine.specs.declared.reply.Refusal.{Refusal}
use Rattle.pj_machine.specs.declared.reply.Reply.{Reply}
use Rattle.pj_machine.specs.declared.reply.Reply.TheVariants as reply
use Rattle.pj_machine.specs.declared.reply.Numbered.{Numbered}
use Rattle.pj_machine.specs.declared.reply.Numbered.TheVariants.{At, NoMemory}
use Rattle.pj_wire.specs.Replies.{reply_bytes}
use Rattle.pj_replies.specs.declared.due.Due.{Due}
use Rattle.pj_replies.specs.declared.due.Due.TheVariants as due
use Rattle.pj_replies.specs.MayCome.{MayRefuse, MayTell, MayCome, HasRoom, IsReplyTo}
use Rattle.pj_replies.specs.Reads.{IsDue, IsTooLong}
use Rattle.pj_replies.specs.Lines.{IsDueTold, IsRefusal, IsLine, like}
use Rattle.pj_replies.specs.Bodies.{IsBodied, IsLong, most_of}

-- ---- reasons

-- the reasons that are allowed for what is due are reasons of the command
reason_to : (x : Command) (d : Due) (why : Refusal) → IsDue x d → MayRefuse (like d) why → MayRefuse x why
reason_to (command.Log name) due.Log why is h = h
reason_to (command.Get change) due.Get why is h = h
reason_to (command.Put text) (due.Put name) why is h = h
reason_to (command.Apply name change) due.Apply why is h = h
reason_to x d why is h = absurd is

-- and the other way round
reason_from : (x : Command) (d : Due) (why : Refusal) → IsDue x d → MayRefuse x why → MayRefuse (like d) why
reason_from (command.Log name) due.Log why is h = h
reason_from (command.Get change) due.Get why is h = h
reason_from (command.Put text) (due.Put name) why is h = h
reason_from (command.Apply name change) due.Apply why is h = h
reason_from x d why is h = absurd is

-- ---- from what is due to the command

-- what may be told where this is due may come to the command
told_to : (x : Command) (d : Due) (place : ℕ) (r : Reply) → IsDue x d → place < 2 ^ 64 → IsDueTold d r → IsReplyTo x (At place r)
told_to (command.Log name) due.Log place r is small h = absurd h
told_to (command.Get change) due.Get place r is small h = absurd h
told_to (command.Put text) (due.Put name) place r is small (inl e) =
    subst (λ (q : Reply). IsReplyTo (command.Put text) (At place q)) (sym (e ∙ ap reply.Named is)) (record { told = inl (inl refl); room = small })
told_to (command.Put text) (due.Put name) place r is small (inr (inl e)) =
    subst (λ (q : Reply). IsReplyTo (command.Put text) (At place q)) (sym (e ∙ ap reply.AlreadyNamed is)) (record { told = inl (inr (inl refl)); room = small })
told_to (command.Put text) (due.Put name) place r is small (inr (inr e)) = absurd e
told_to (command.Apply name change) due.Apply place r is small (inl e) =
    subst (λ (q : Reply). IsReplyTo (command.Apply name change) (At place q)) (sym e) (record { told = inl (inl refl); room = small })
told_to (command.Apply name change) due.Apply place r is small (inr (inl e)) =
    subst (λ (q : Reply). IsReplyTo (command.Apply name change) (At place q)) (sym e) (record { told = inl (inr (inl refl)); room = small })
told_to (command.Apply name change) due.Apply place r is small (inr (inr e)) = absurd e
told_to x d place r is small h = absurd is

-- and so may a refusal
refused_to : (x : Command) (d : Due) (r : Numbered) → IsDue x d → IsRefusal d r → IsReplyTo x r
refused_to x d (At place (reply.No why)) is h = record { told = inr (why, reason_to x d why is h.1.0, refl); room = (h.0, h.1.1) }
refused_to x d (At place reply.Done) is h = absurd h
refused_to x d (At place reply.Already) is h = absurd h
refused_to x d (At place (reply.Named n)) is h = absurd h
refused_to x d (At place (reply.AlreadyNamed n)) is h = absurd h
refused_to x d (At place (reply.Body b)) is h = absurd h
refused_to x d NoMemory is h = absurd h

-- a reply of one line may come
pub line_to : (x : Command) (d : Due) (r : Numbered) → IsDue x d → IsLine d r → IsReplyTo x r
line_to x d (At place r) is (inl h) = told_to x d place r is h.0 h.1
line_to x d NoMemory is (inl h) = absurd h
line_to x d r is (inr (inl h)) = refused_to x d r is h
line_to x d r is (inr (inr e)) = subst (λ (q : Numbered). IsReplyTo x q) (sym e) (record { told = tt; room = tt })

-- and so may one with a body, where there is one
pub body_to : (x : Command) (d : Due) (m : ℕ) (r : Numbered) → IsDue x d → most_of d ≡ Some m → IsBodied r → IsReplyTo x r
body_to (command.Log name) due.Log m r is some b = subst (λ (q : Numbered). IsReplyTo (command.Log name) q) (sym b.4) (record { told = inl (b.1, refl); room = (b.2, b.3) })
body_to (command.Get change) due.Get m r is some b = subst (λ (q : Numbered). IsReplyTo (command.Get change) q) (sym b.4) (record { told = inl (b.1, refl); room = (b.2, b.3) })
body_to (command.Put text) (due.Put name) m r is none b = absurd (cc none)
body_to (command.Apply name change) due.Apply m r is none b = absurd (cc none)
body_to x d m r is some b = absurd is

-- ---- and back

-- the reply is of one line, or has a body
abbrev pub IsEither : Due → Numbered → Type 0
IsEither d r = IsLine d r ⊎ (IsBodied r × ((m : ℕ) × (most_of d ≡ Some m)))

-- what a command may be told is a line or a body where this is due
told_from : (x : Command) (d : Due) (place : ℕ) (r : Reply) → IsDue x d → HasRoom (At place r) → MayTell x r → IsEither d (At place r)
told_from (command.Log name) due.Log place r is room b =
    subst (λ (q : Reply). HasRoom (At place q) → IsEither due.Log (At place q)) (sym b.1) (λ both. inr ((place, b.0, both.0, both.1, refl), (18446744073709551615, refl))) room
told_from (command.Get change) due.Get place r is room b =
    subst (λ (q : Reply). HasRoom (At place q) → IsEither due.Get (At place q)) (sym b.1) (λ both. inr ((place, b.0, both.0, both.1, refl), (16777216, refl))) room
told_from (command.Put text) (due.Put name) place r is room (inl e) =
    subst (λ (q : Reply). HasRoom (At place q) → IsEither (due.Put name) (At place q)) (sym e) (λ small. inl (inl (small, inl (ap reply.Named (sym is))))) room
told_from (command.Put text) (due.Put name) place r is room (inr (inl e)) =
    subst (λ (q : Reply). HasRoom (At place q) → IsEither (due.Put name) (At place q)) (sym e) (λ small. inl (inl (small, inr (inl (ap reply.AlreadyNamed (sym is)))))) room
told_from (command.Put text) (due.Put name) place r is room (inr (inr e)) = absurd e
told_from (command.Apply name change) due.Apply place r is room (inl e) =
    subst (λ (q : Reply). HasRoom (At place q) → IsEither due.Apply (At place q)) (sym e) (λ small. inl (inl (small, inl refl))) room
told_from (command.Apply name change) due.Apply place r is room (inr (inl e)) =
    subst (λ (q : Reply). HasRoom (At place q) → IsEither due.Apply (At place q)) (sym e) (λ small. inl (inl (small, inr (inl refl)))) room
told_from (command.Apply name change) due.Apply place r is room (inr (inr e)) = absurd e
told_from x d place r is room h = absurd is

-- a reply that may come is of one line, or has a body where there is one
pub reply_is : (x : Command) (d : Due) (r : Numbered) → IsDue x d → IsReplyTo x r → IsEither d r
reply_is x d NoMemory is h = inl (inr (inr refl))
reply_is x d (At place r) is h = from h.told h.room
  where
    from : MayCome x r → HasRoom (At place r) → IsEither d (At place r)
    from (inl tells) room = told_from x d place r is room tells
    from (inr refuses) room =
        subst (λ (q : Reply). HasRoom (At place q) → IsEither d (At place q)) (sym refuses.2) (λ both. inl (inr (inl (both.0, (reason_from x d refuses.0 is refuses.1, both.1))))) room

-- ---- texts that are too long

-- then the line says more than there may be
pub long_from : (x : Command) (d : Due) (old : List ℕ) → IsDue x d → IsTooLong x old → (m : ℕ) × (most_of d ≡ Some m) × IsLong m old
long_from (command.Get change) due.Get old is t = (16777216, refl, ((t.place, t.count), t.rest, t.few, t.many, t.whole))
long_from (command.Log name) due.Log old is t = let e = t.asked in absurd (cc e)
long_from (command.Put text) (due.Put name) old is t = let e = t.asked in absurd (cc e)
long_from (command.Apply name change) due.Apply old is t = let e = t.asked in absurd (cc e)
long_from x d old is t = absurd is

-- equal options have equal members
some_one : (a b : ℕ) → Some a ≡ Some b → a ≡ b
some_one a b e = cc

-- a text that is too long for the command is longer than the most that is due
pub long_is : (x : Command) (d : Due) (m : ℕ) (old : List ℕ) → IsDue x d → most_of d ≡ Some m → IsTooLong x old → IsLong m old
long_is x d m old is some t =
    let l = long_from x d old is t in
    subst (λ (k : ℕ). IsLong k old) (some_one l.0 m (sym l.1 ∙ some)) l.2

-- and the other way round
pub long_to : (x : Command) (d : Due) (m : ℕ) (old : List ℕ) → IsDue x d → most_of d ≡ Some m → IsLong m old → IsTooLong x old
long_to (command.Get change) due.Get m old is some l =
    let same : 16777216 ≡ m = some_one 16777216 m some in
    let more = l.3 in
    record { change = change; asked = refl; place = l.0.0; count = l.0.1; rest = l.1; whole = l.4; few = l.2; many = omega (arith, same, more) }
long_to (command.Log name) due.Log m old is some l =
    let same : 18446744073709551615 ≡ m = some_one 18446744073709551615 m some in
    let more = l.3 in
    let few = l.2.1 in
    absurd (omega (arith, same, more, few))
long_to (command.Put text) (due.Put name) m old is none l = absurd (cc none)
long_to (command.Apply name change) due.Apply m old is none l = absurd (cc none)
long_to x d m old is some l = absurd is

-- a refusal of a text begins with another byte than its line
no_text : (r : Numbered) (b : List ℕ) → IsLine due.Get r → 111 ≡ get_or (reply_bytes r ++ b) 0 0 → ⊥
no_text (At place q) b (inl h) e = absurd h.1
no_text NoMemory b (inl h) e = absurd h
no_text (At place (reply.No why)) b (inr h) e = absurd (omega (arith, e))
no_text (At place reply.Done) b (inr h) e = elim h [ inl f ↦ absurd f | inr f ↦ absurd (cc f) ]
no_text (At place reply.Already) b (inr h) e = elim h [ inl f ↦ absurd f | inr f ↦ absurd (cc f) ]
no_text (At place (reply.Named n)) b (inr h) e = elim h [ inl f ↦ absurd f | inr f ↦ absurd (cc f) ]
no_text (At place (reply.AlreadyNamed n)) b (inr h) e = elim h [ inl f ↦ absurd f | inr f ↦ absurd (cc f) ]
no_text (At place (reply.Body t)) b (inr h) e = elim h [ inl f ↦ absurd f | inr f ↦ absurd (cc f) ]
no_text NoMemory b (inr h) e = absurd (omega (arith, e))

-- bytes that begin with a reply of one line are no text that is too long
pub line_no_text : (x : Command) (d : Due) (r : Numbered) (old a b : List ℕ) → IsDue x d → IsLine d r → old ++ a ≡ reply_bytes r ++ b → IsTooLong x old → ⊥
line_no_text (command.Log name) due.Log r old a b is h e t = let e = t.asked in absurd (cc e)
line_no_text (command.Put text) (due.Put name) r old a b is h e t = let e = t.asked in absurd (cc e)
line_no_text (command.Apply name change) due.Apply r old a b is h e t = let e = t.asked in absurd (cc e)
line_no_text (command.Get change) due.Get r old a b is h e t =
    no_text r b h (ap (λ (s : List ℕ). get_or (s ++ a) 0 0) (sym t.whole) ∙ ap (λ (s : List ℕ). get_or s 0 0) e)
line_no_text x d r old a b is h e t = absurd is

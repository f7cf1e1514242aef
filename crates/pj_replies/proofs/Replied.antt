-- Replies as a place and what stands behind it.
use Rattle.std.proofs.Common.{◌≡◌, ℕ, ◌≤◌, List, [], ◌∷◌, ◌++◌, codes, decimal, refl, sym, ◌∙◌, ap, subst, inl, inr, arith, append-nil, append_assoc}
use Rattle.std.specs.Prelude.{◌⊎◌}
use Rattle.std.proofs.lemmas.List.{append_cancel_left}
use Rattle.pj_name.specs.declared.name.Name.{Name}
use Rattle.pj_name.specs.Name.{hex}
use Rattle.pj_machine.specs.declared.reply.Refusal.{Refusal}
use Rattle.pj_machine.specs.declared.reply.Refusal.TheVariants as refusal
use Rattle.pj_machine.specs.declared.reply.Reply.{Reply}
use Rattle.pj_machine.specs.declared.reply.Reply.TheVariants as reply
use Rattle.pj_machine.specs.declared.reply.Numbered.{Numbered}
use Rattle.pj_machine.specs.declared.reply.Numbered.TheVariants.{At, NoMemory}
use Rattle.pj_wire.specs.Replies.{reason, reply_bytes}
use Rattle.pj_replies.specs.declared.due.Due.{Due}
use Rattle.pj_replies.specs.declared.due.Due.TheVariants as due
use Rattle.pj_replies.specs.Lines.{IsDueReason, IsDueTold, IsTold, IsDone, IsAlready, IsRefusal, IsLine, AreShort, reason_line, stored_bytes, body_line}
use Rattle.pj_replies.proofs.Digits.{one_number}
use Rattle.pj_replies.specs.declared.found.Found.{Found}
use Rattle.pj_replies.specs.Finds.{Finds, first_of}
use Rattle.pj_replies.proofs.Finding.{AreSame, IsSequence, allowed_as, one_of}

-- a number of 64 bits
abbrev pub IsWide : ℕ → Type 0
IsWide n = n ≤ 18446744073709551615

-- the first word and the place, with the space behind it
abbrev pub ok_place : ℕ → List ℕ
ok_place place = codes "ok " ++ (decimal place ++ 32 ∷ [])

-- the same of a refusal
abbrev pub no_place : ℕ → List ℕ
no_place place = codes "no " ++ (decimal place ++ 32 ∷ [])

-- they show where they end
pub one_place : (word : List ℕ) (v w : ℕ) (a b : List ℕ) → IsWide v → IsWide w → (word ++ (decimal v ++ 32 ∷ [])) ++ a ≡ (word ++ (decimal w ++ 32 ∷ [])) ++ b → (v ≡ w) × (a ≡ b)
one_place word v w a b p q e =
    one_number 18446744073709551615 32 (omega arith) (inl refl) v w a b p q
    (append_cancel_left word ((decimal v ++ 32 ∷ []) ++ a) ((decimal w ++ 32 ∷ []) ++ b) (sym (append_assoc word (decimal v ++ 32 ∷ []) a) ∙ e ∙ append_assoc word (decimal w ++ 32 ∷ []) b))

-- a word behind the place ends the line
two_words : (a b : List ℕ) → (a ++ 32 ∷ []) ++ (b ++ 10 ∷ []) ≡ (a ++ 32 ∷ b) ++ 10 ∷ []
two_words a b = append_assoc a (32 ∷ []) (b ++ 10 ∷ []) ∙ sym (append_assoc a (32 ∷ b) (10 ∷ []))

-- behind the first word
behind_word : (word a b : List ℕ) → (word ++ (a ++ 32 ∷ [])) ++ (b ++ 10 ∷ []) ≡ word ++ ((a ++ 32 ∷ b) ++ 10 ∷ [])
behind_word word a b = append_assoc word (a ++ 32 ∷ []) (b ++ 10 ∷ []) ∙ ap (λ t. word ++ t) (two_words a b)

-- ---- refusals

-- a place and a reason are a refusal
refusal_bytes : (place : ℕ) (why : Refusal) → no_place place ++ reason_line why ≡ reply_bytes (At place (reply.No why))
refusal_bytes place why = behind_word (codes "no ") (decimal place) (reason why) ∙ sym (append-nil (codes "no " ++ ((decimal place ++ 32 ∷ reason why) ++ 10 ∷ [])))

-- some reason is allowed, whatever is due
some_reason : (d : Due) → (why : Refusal) × IsDueReason d why
some_reason due.Log = (refusal.Channel, (refl, tt))
some_reason due.Get = (refusal.Change, (refl, tt))
some_reason (due.Put name) = (refusal.Malformed, (inl refl, tt))
some_reason due.Apply = (refusal.Channel, (inl (inl refl), tt))

-- a refusal is a place, and a reason behind it
pub refusals : (d : Due) → IsSequence no_place IsWide reason_line (IsDueReason d) reply_bytes (IsRefusal d) (λ place why. At place (reply.No why))
refusals d = record {
  one = one_place (codes "no ");
  some = (some_reason d).0;
  allowed = (some_reason d).1;
  made = λ place why wide ok. ((omega (arith, wide), ok), refusal_bytes place why);
  from = back;
}
  where
    back : (u : Numbered) → IsRefusal d u → (k : ℕ) × (w : Refusal) × IsWide k × IsDueReason d w × (no_place k ++ reason_line w ≡ reply_bytes u)
    back (At place (reply.No why)) h = let small = h.0 in (place, why, omega (arith, small), h.1, refusal_bytes place why)
    back (At place reply.Done) h = absurd h
    back (At place reply.Already) h = absurd h
    back (At place (reply.Named n)) h = absurd h
    back (At place (reply.AlreadyNamed n)) h = absurd h
    back (At place (reply.Body b)) h = absurd h
    back NoMemory h = absurd h

-- ---- stored texts

-- a place and a name are the reply to a text that was stored
named_bytes : (place : ℕ) (name : Name) → ok_place place ++ stored_bytes (reply.Named name) ≡ reply_bytes (At place (reply.Named name))
named_bytes place name = behind_word (codes "ok ") (decimal place) (hex name.bytes) ∙ sym (append-nil (codes "ok " ++ ((decimal place ++ 32 ∷ hex name.bytes) ++ 10 ∷ [])))

-- and behind `already` the reply to one that was stored before
already_named_bytes : (place : ℕ) (name : Name) → ok_place place ++ stored_bytes (reply.AlreadyNamed name) ≡ reply_bytes (At place (reply.AlreadyNamed name))
already_named_bytes place name =
    behind_word (codes "ok ") (decimal place) (codes "already " ++ hex name.bytes) ∙ sym (append-nil (codes "ok " ++ ((decimal place ++ 32 ∷ (codes "already " ++ hex name.bytes)) ++ 10 ∷ [])))

-- so with either
stored_reply : (name : Name) (place : ℕ) (r : Reply) → IsDueTold (due.Put name) r → ok_place place ++ stored_bytes r ≡ reply_bytes (At place r)
stored_reply name place r (inl e) = subst (λ (q : Reply). ok_place place ++ stored_bytes q ≡ reply_bytes (At place q)) (sym e) (named_bytes place name)
stored_reply name place r (inr (inl e)) = subst (λ (q : Reply). ok_place place ++ stored_bytes q ≡ reply_bytes (At place q)) (sym e) (already_named_bytes place name)
stored_reply name place r (inr (inr e)) = absurd e

-- the reply to a put is a place, and what was stored behind it
pub stores : (name : Name) → IsSequence ok_place IsWide stored_bytes (IsDueTold (due.Put name)) reply_bytes (IsTold (due.Put name)) (λ place r. At place r)
stores name = record {
  one = one_place (codes "ok ");
  some = reply.Named name;
  allowed = inl refl;
  made = λ place r wide ok. ((omega (arith, wide), ok), stored_reply name place r ok);
  from = back;
}
  where
    back : (u : Numbered) → IsTold (due.Put name) u → (k : ℕ) × (w : Reply) × IsWide k × IsDueTold (due.Put name) w × (ok_place k ++ stored_bytes w ≡ reply_bytes u)
    back (At place r) h = let small = h.0 in (place, r, omega (arith, small), h.1, stored_reply name place r h.1)
    back NoMemory h = absurd h

-- now or before
pub stored_found : (name : Name) (line bytes : List ℕ) → line ≡ hex name.bytes ++ 10 ∷ [] → (a b : Found Reply) → Finds (λ (_ : Reply). line) (λ v. v ≡ reply.Named name) bytes a
    → Finds (λ (_ : Reply). codes "already " ++ line) (λ v. v ≡ reply.AlreadyNamed name) bytes b → Finds stored_bytes (IsDueTold (due.Put name)) bytes (first_of a b)
stored_found name line bytes is a b p q =
    allowed_as stored_bytes stored_bytes Either (IsDueTold (due.Put name)) bytes (first_of a b) (λ v h. (there v h, refl)) (λ v h. (back v h, refl))
    (one_of stored_bytes IsNow IsBefore bytes a b
    (allowed_as (λ (_ : Reply). line) stored_bytes IsNow IsNow bytes a (λ v e. (e, now v e)) (λ v e. (e, now v e)) p)
    (allowed_as (λ (_ : Reply). codes "already " ++ line) stored_bytes IsBefore IsBefore bytes b (λ v e. (e, before v e)) (λ v e. (e, before v e)) q))
  where
    IsNow : Reply → Type 0
    IsNow v = v ≡ reply.Named name

    IsBefore : Reply → Type 0
    IsBefore v = v ≡ reply.AlreadyNamed name

    Either : Reply → Type 0
    Either v = (v ≡ reply.Named name) ⊎ (v ≡ reply.AlreadyNamed name)

    now : (v : Reply) → v ≡ reply.Named name → line ≡ stored_bytes v
    now v e = is ∙ ap stored_bytes (sym e)

    before : (v : Reply) → v ≡ reply.AlreadyNamed name → codes "already " ++ line ≡ stored_bytes v
    before v e = ap (λ t. codes "already " ++ t) is ∙ ap stored_bytes (sym e)

    there : (v : Reply) → (v ≡ reply.Named name) ⊎ (v ≡ reply.AlreadyNamed name) → IsDueTold (due.Put name) v
    there v (inl e) = inl e
    there v (inr e) = inr (inl e)

    back : (v : Reply) → IsDueTold (due.Put name) v → (v ≡ reply.Named name) ⊎ (v ≡ reply.AlreadyNamed name)
    back v (inl e) = inl e
    back v (inr (inl e)) = inr e
    back v (inr (inr e)) = absurd e

-- ---- applied changes

-- a place alone is the reply to a change that was applied
done_bytes : (place : ℕ) → codes "ok " ++ (decimal place ++ 10 ∷ []) ≡ reply_bytes (At place reply.Done)
done_bytes place = sym (append-nil (codes "ok " ++ (decimal place ++ 10 ∷ [])))

-- a place and `already` are the reply to one that was applied before
already_bytes : (place : ℕ) → ok_place place ++ codes "already\n" ≡ reply_bytes (At place reply.Already)
already_bytes place = behind_word (codes "ok ") (decimal place) (codes "already") ∙ sym (append-nil (codes "ok " ++ ((decimal place ++ 32 ∷ codes "already") ++ 10 ∷ [])))

-- the lines of a place alone are those replies
pub done_are : AreSame (λ place. codes "ok " ++ (decimal place ++ 10 ∷ [])) IsWide reply_bytes IsDone (λ place. At place reply.Done)
done_are = record {
  there = λ place wide. ((place, omega (arith, wide), refl), done_bytes place);
  back = λ r is. let small = is.1 in (is.0, omega (arith, small), done_bytes is.0 ∙ ap reply_bytes (sym is.2));
}

-- and those with `already` are a place, and that word behind it
pub alreadies : IsSequence ok_place IsWide (λ (_ : Unit {0}). codes "already\n") (λ v. v ≡ tt) reply_bytes IsAlready (λ place _. At place reply.Already)
alreadies = record {
  one = one_place (codes "ok ");
  some = tt;
  allowed = refl;
  made = λ place _ wide ok. ((place, omega (arith, wide), refl), already_bytes place);
  from = λ r is. let small = is.1 in (is.0, tt, omega (arith, small), refl, already_bytes is.0 ∙ ap reply_bytes (sym is.2));
}

-- now or before
pub applied_found : (bytes : List ℕ) (a b : Found Numbered) → Finds reply_bytes IsDone bytes a → Finds reply_bytes IsAlready bytes b → Finds reply_bytes (IsTold due.Apply) bytes (first_of a b)
applied_found bytes a b p q =
    allowed_as reply_bytes reply_bytes (λ v. IsDone v ⊎ IsAlready v) (IsTold due.Apply) bytes (first_of a b) (λ v h. (there v h, refl)) (λ v h. (back v h, refl)) (one_of reply_bytes IsDone IsAlready bytes a b p q)
  where
    there : (v : Numbered) → IsDone v ⊎ IsAlready v → IsTold due.Apply v
    there v (inl h) = subst (λ (r : Numbered). IsTold due.Apply r) (sym h.2) (h.1, inl refl)
    there v (inr h) = subst (λ (r : Numbered). IsTold due.Apply r) (sym h.2) (h.1, inr (inl refl))

    back : (v : Numbered) → IsTold due.Apply v → IsDone v ⊎ IsAlready v
    back (At place r) h = elim h.1 [ inl e ↦ inl (place, h.0, ap (λ q. At place q) e) | inr (inl e) ↦ inr (place, h.0, ap (λ q. At place q) e) | inr (inr e) ↦ absurd e ]
    back NoMemory h = absurd h

-- ---- a reply of one line

-- what was told, a refusal, or that memory ran out: the first that is found
pub line_found : (d : Due) (bytes : List ℕ) (a b c : Found Numbered) → Finds reply_bytes (IsTold d) bytes a → Finds reply_bytes (IsRefusal d) bytes b
    → Finds (λ (_ : Numbered). codes "no memory\n") (λ v. v ≡ NoMemory) bytes c → Finds reply_bytes (IsLine d) bytes (first_of (first_of a b) c)
line_found d bytes a b c p q r =
    allowed_as reply_bytes reply_bytes (λ v. (IsTold d v ⊎ IsRefusal d v) ⊎ (v ≡ NoMemory)) (IsLine d) bytes (first_of (first_of a b) c) (λ v h. (there v h, refl)) (λ v h. (back v h, refl))
    (one_of reply_bytes (λ v. IsTold d v ⊎ IsRefusal d v) (λ v. v ≡ NoMemory) bytes (first_of a b) c (one_of reply_bytes (IsTold d) (IsRefusal d) bytes a b p q)
    (allowed_as (λ (_ : Numbered). codes "no memory\n") reply_bytes (λ v. v ≡ NoMemory) (λ v. v ≡ NoMemory) bytes c (λ v e. (e, ap reply_bytes (sym e))) (λ v e. (e, ap reply_bytes (sym e))) r))
  where
    there : (v : Numbered) → (IsTold d v ⊎ IsRefusal d v) ⊎ (v ≡ NoMemory) → IsLine d v
    there v (inl (inl h)) = inl h
    there v (inl (inr h)) = inr (inl h)
    there v (inr e) = inr (inr e)

    back : (v : Numbered) → IsLine d v → (IsTold d v ⊎ IsRefusal d v) ⊎ (v ≡ NoMemory)
    back v (inl h) = inl (inl h)
    back v (inr (inl h)) = inl (inr h)
    back v (inr (inr e)) = inr e

-- ---- the line of a body

-- a place and a length are the line of a body
pub length_bytes : (p : ℕ × ℕ) → ok_place p.0 ++ ([] ++ (decimal p.1 ++ 10 ∷ [])) ≡ body_line p
length_bytes p = behind_word (codes "ok ") (decimal p.0) (decimal p.1)

-- that line is a place, and a length behind it
pub lengths : IsSequence ok_place IsWide (λ n. [] ++ (decimal n ++ 10 ∷ [])) IsWide body_line AreShort (λ place length. (place, length))
lengths = record {
  one = one_place (codes "ok ");
  some = 0;
  allowed = omega arith;
  made = λ place size wide ok. ((omega (arith, wide), omega (arith, ok)), length_bytes (place, size));
  from = λ p short. let a = short.0 in let b = short.1 in (p.0, p.1, omega (arith, a), omega (arith, b), length_bytes p);
}

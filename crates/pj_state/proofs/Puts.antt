-- What `put` runs into: the store has the text, or another under its name, or none.
use Rattle.std.proofs.Common.{◌≡◌, ℕ, refl, sym, ◌∙◌, ap, subst, inl, inr}
use Rattle.std.specs.Prelude.{◌≢◌, Option, Some, None, IsSome, Contains}
use Rattle.pj_name.specs.Name.{same_name}
use Rattle.pj_name.proofs.Names.{same_name-decides}
use Rattle.pj_change.specs.declared.change.Record.{Record}
use Rattle.pj_change.specs.Lawful.{record_of}
use Rattle.pj_machine.specs.declared.limits.Limits.{Limits}
use Rattle.pj_machine.specs.declared.command.Write.TheVariants as write
use Rattle.pj_machine.specs.declared.reply.Reply.{Reply}
use Rattle.pj_machine.specs.declared.reply.Reply.TheVariants.{Named, AlreadyNamed}
use Rattle.pj_machine.specs.declared.reply.Refusal.TheVariants as refusal
use Rattle.pj_machine.specs.Answer.{HasText, HasOtherText, IsStoreFull, Puts, Writes}
use Rattle.pj_machine.specs.Outcome.{Outcome, says, refuses}
use Rattle.pj_machine.specs.Sound.{IsSound}
use Rattle.pj_machine.specs.State.{State}
use Rattle.pj_state.specs.Replies.{IsReplyToStored}
use Rattle.pj_machine.proofs.Found.{found_by, is_found}
use Rattle.pj_machine.proofs.OneRecord.{record_of_text}
use Rattle.pj_machine.proofs.SoundStates.{record_named}

module _ (limits : Limits) (s : State) (sound : IsSound s) (entries : ℕ) (r : Record) where
  abbrev puts : Outcome → Type 0
  puts o = Puts limits s entries r.text o

  -- a member of the name is found
  held : (q : Record) → Contains s.store q → q.name ≡ r.name → record_of s.store r.name ≡ None → ⊥
  held q m e none = no_some (record_of s.store r.name) (is_found (λ x. same_name x.name r.name) s.store q m ((same_name-decides q.name r.name).1 e)) none
    where
      no_some : (o : Option Record) → IsSome o → o ≡ None → ⊥
      no_some None i n = absurd (cc)
      no_some (Some x) i n = absurd (cc)

  named : (q : Record) → q.text ≡ r.text → q.name ≡ r.name
  named q e = ap (λ (x : Record). x.name) (record_of_text q r e)

  -- ---- there is none of the name

  module _ (none : record_of s.store r.name ≡ None) where
    no_text : HasText s r.text → ⊥
    no_text h = held h.stored h.member (named h.stored h.same) none

    no_other : HasOtherText s r → ⊥
    no_other h = held h.stored h.member h.named none

    pub put_full : IsStoreFull limits s r.text → puts (refuses refusal.FullStore)
    put_full full = inr (r, refl, inr (no_text, inr (no_other, inl (full, refl))))

    pub put_writes : (IsStoreFull limits s r.text → ⊥) → (o : Outcome) → Writes limits entries (Named r.name) (write.Put r) o → puts o
    put_writes room o w = inr (r, refl, inr (no_text, inr (no_other, inr (room, w))))

  -- ---- there is one

  module _ (q : Record) (found : record_of s.store r.name ≡ Some q) where
    member : Contains s.store q
    member = (found_by (λ x. same_name x.name r.name) s.store q found).member

    name_is : q.name ≡ r.name
    name_is = record_named s.store r.name q found

    pub put_again : q.text ≡ r.text → puts (says (AlreadyNamed r.name))
    put_again e = inr (r, refl, inl (record { stored = q; member = member; same = e }, refl))

    pub put_clash : q.text ≢ r.text → puts (refuses refusal.Clash)
    put_clash other =
        inr (
          r,
          refl,
          inr (
            (λ (h : HasText s r.text). other (sound.one_text q h.stored member h.member (name_is ∙ sym (named h.stored h.same)) ∙ h.same)),
            inl (record { stored = q; member = member; named = name_is; other = other }, refl),
          ),
        )

    pub put_stored : (reply : Reply) → IsReplyToStored q r reply → puts (says reply)
    put_stored reply h = elim h [ inl a ↦ subst (λ x. puts (says x)) (sym a.1) (put_again a.0) | inr b ↦ subst (λ x. puts (says x)) (sym b.1) (put_clash b.0) ]

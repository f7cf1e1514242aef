-- Reasons at the beginning of bytes.
use Rattle.std.proofs.Common.{◌≡◌, ℕ, ◌<◌, ◌≤◌, ◌^◌, List, [], ◌∷◌, ◌++◌, codes, decimal, refl, sym, ◌∙◌, ap, subst, inl, inr, arith}
use Rattle.std.specs.Prelude.{◌⊎◌}
use Rattle.pj_name.specs.declared.name.Name.{Name}
use Rattle.pj_name.specs.Name.{hex, no_name}
use Rattle.pj_machine.specs.declared.reply.Refusal.{Refusal}
use Rattle.pj_machine.specs.declared.reply.Refusal.TheVariants as refusal
use Rattle.pj_replies.specs.declared.due.Due.{Due}
use Rattle.pj_replies.specs.declared.due.Due.TheVariants as due
use Rattle.pj_replies.specs.declared.found.Found.{Found}
use Rattle.pj_replies.specs.MayCome.{HasShort}
use Rattle.pj_replies.specs.Finds.{Finds, first_of}
use Rattle.pj_replies.specs.Lines.{IsDueReason, reason_line}
use Rattle.pj_replies.proofs.Finding.{AreSame, allowed_as, one_of}

-- a need
abbrev pub IsNeed : Refusal → Type 0
IsNeed why = (name : Name) × (why ≡ refusal.Needs name)

-- a context
abbrev pub IsContext : Refusal → Type 0
IsContext why = (hunk : ℕ) × (why ≡ refusal.Context hunk) × (hunk < 2 ^ 32)

-- the lines of a name behind `needs` are those of the needs
pub needs_are : AreSame (λ (name : Name). codes "needs " ++ (hex name.bytes ++ 10 ∷ [])) (λ _. Unit {0}) reason_line IsNeed refusal.Needs
needs_are = record { there = λ name ok. ((name, refl), refl); back = λ why is. (is.0, tt, ap reason_line (sym is.1)) }

-- the lines of a number behind `context` are those of the contexts
pub contexts_are : AreSame (λ n. codes "context " ++ (decimal n ++ 10 ∷ [])) (λ n. n ≤ 4294967295) reason_line IsContext refusal.Context
contexts_are = record {
  there = λ n few. ((n, refl, omega (arith, few)), refl);
  back = λ why is. let small = is.2 in (is.0, omega (arith, small), ap reason_line (sym is.1));
}

-- this reason alone
abbrev pub Is : Refusal → Refusal → Type 0
Is why other = other ≡ why

-- bytes that spell a reason and the newline behind it
pub as_reason : (why : Refusal) (text bytes : List ℕ) (r : Found Refusal) → text ≡ reason_line why → Finds (λ (_ : Refusal). text) (λ v. v ≡ why) bytes r → Finds reason_line (Is why) bytes r
as_reason why text bytes r is =
    allowed_as (λ (_ : Refusal). text) reason_line (Is why) (Is why) bytes r (λ v e. (e, is ∙ ap reason_line (sym e))) (λ v e. (e, is ∙ ap reason_line (sym e)))

-- it is allowed, and no other
pub only : (d : Due) (why : Refusal) (bytes : List ℕ) (r : Found Refusal) → IsDueReason d why → ((other : Refusal) → IsDueReason d other → other ≡ why) → Finds reason_line (Is why) bytes r → Finds reason_line (IsDueReason d) bytes r
only d why bytes r ok none = allowed_as reason_line reason_line (Is why) (IsDueReason d) bytes r (λ v e. (subst (λ w. IsDueReason d w) (sym e) ok, refl)) (λ v h. (none v h, refl))

-- what holds of a reason holds of one that is equal
allowed_at : (d : Due) (why other : Refusal) → IsDueReason d why → other ≡ why → IsDueReason d other
allowed_at d why other ok e = subst (λ w. IsDueReason d w) (sym e) ok

-- the reasons of a text that is not stored
abbrev IsOfText : Refusal → Type 0
IsOfText v = ((Is refusal.Malformed v ⊎ Is refusal.Clash v) ⊎ Is refusal.FullStore v) ⊎ Is refusal.FullJournal v

-- each of them is allowed where a name is due
text_there : (v : Refusal) → IsOfText v → IsDueReason (due.Put no_name) v
text_there v (inl (inl (inl e))) = allowed_at (due.Put no_name) refusal.Malformed v (inl refl, tt) e
text_there v (inl (inl (inr e))) = allowed_at (due.Put no_name) refusal.Clash v (inr (inl refl), tt) e
text_there v (inl (inr e)) = allowed_at (due.Put no_name) refusal.FullStore v (inr (inr (inl refl)), tt) e
text_there v (inr e) = allowed_at (due.Put no_name) refusal.FullJournal v (inr (inr (inr (inl refl))), tt) e

-- and no other is
text_back : (v : Refusal) → IsDueReason (due.Put no_name) v → IsOfText v
text_back v h = elim h.0 [
  | inl e ↦ inl (inl (inl e))
  | inr (inl e) ↦ inl (inl (inr e))
  | inr (inr (inl e)) ↦ inl (inr e)
  | inr (inr (inr (inl e))) ↦ inr e
  | inr (inr (inr (inr e))) ↦ absurd e
]

-- the reasons of a change that is not applied
abbrev IsOfChange : Refusal → Type 0
IsOfChange v = (((Is refusal.Channel v ⊎ Is refusal.Change v) ⊎ Is refusal.FullJournal v) ⊎ IsNeed v) ⊎ IsContext v

-- each of them is allowed where an application is due
change_there : (v : Refusal) → IsOfChange v → IsDueReason due.Apply v
change_there v (inl (inl (inl (inl e)))) = allowed_at due.Apply refusal.Channel v (inl (inl refl), tt) e
change_there v (inl (inl (inl (inr e)))) = allowed_at due.Apply refusal.Change v (inl (inr (inl refl)), tt) e
change_there v (inl (inl (inr e))) = allowed_at due.Apply refusal.FullJournal v (inl (inr (inr (inl refl))), tt) e
change_there v (inl (inr need)) = allowed_at due.Apply (refusal.Needs need.0) v (inr (inl (need.0, refl)), tt) need.1
change_there v (inr context) = allowed_at due.Apply (refusal.Context context.0) v (inr (inr (context.0, refl)), context.2) context.1

-- and no other is
change_back : (v : Refusal) → IsDueReason due.Apply v → IsOfChange v
change_back v h = elim h.0 [
  | inl (inl e) ↦ inl (inl (inl (inl e)))
  | inl (inr (inl e)) ↦ inl (inl (inl (inr e)))
  | inl (inr (inr (inl e))) ↦ inl (inl (inr e))
  | inl (inr (inr (inr e))) ↦ absurd e
  | inr (inl need) ↦ inl (inr need)
  | inr (inr context) ↦ inr (context.0, context.1, subst HasShort context.1 h.1)
]

module _ (bytes : List ℕ) where
  -- one of those for which a text is not stored
  pub text_reason : (a b c e : Found Refusal) → Finds reason_line (Is refusal.Malformed) bytes a → Finds reason_line (Is refusal.Clash) bytes b → Finds reason_line (Is refusal.FullStore) bytes c
      → Finds reason_line (Is refusal.FullJournal) bytes e → Finds reason_line (IsDueReason (due.Put no_name)) bytes (first_of (first_of (first_of a b) c) e)
  text_reason a b c e p q r s =
      allowed_as reason_line reason_line IsOfText (IsDueReason (due.Put no_name)) bytes (first_of (first_of (first_of a b) c) e) (λ v h. (text_there v h, refl)) (λ v h. (text_back v h, refl))
      (one_of reason_line _ _ bytes (first_of (first_of a b) c) e (one_of reason_line _ _ bytes (first_of a b) c (one_of reason_line _ _ bytes a b p q) r) s)

  -- one of those for which a change is not applied
  pub change_reason : (a b c e f : Found Refusal) → Finds reason_line (Is refusal.Channel) bytes a → Finds reason_line (Is refusal.Change) bytes b → Finds reason_line (Is refusal.FullJournal) bytes c
      → Finds reason_line IsNeed bytes e → Finds reason_line IsContext bytes f → Finds reason_line (IsDueReason due.Apply) bytes (first_of (first_of (first_of (first_of a b) c) e) f)
  change_reason a b c e f p q r s t =
      allowed_as reason_line reason_line IsOfChange (IsDueReason due.Apply) bytes (first_of (first_of (first_of (first_of a b) c) e) f) (λ v h. (change_there v h, refl)) (λ v h. (change_back v h, refl))
      (one_of reason_line _ _ bytes (first_of (first_of (first_of a b) c) e) f
      (one_of reason_line _ _ bytes (first_of (first_of a b) c) e (one_of reason_line _ _ bytes (first_of a b) c (one_of reason_line _ _ bytes a b p q) r) s) t)

-- What an operation leaves, from what the channel answers.
use Rattle.std.proofs.Common.{◌≡◌, List, [], ◌∷◌, ◌++◌, refl, inl, inr, false, Ok, Err, Result}
use Rattle.std.specs.Prelude.{Contains}
use Rattle.pj_name.specs.declared.name.Name.{Name}
use Rattle.pj_change.specs.declared.change.Record.{Record}
use Rattle.pj_change.specs.declared.refusals.Applied.{Applied}
use Rattle.pj_change.specs.declared.refusals.Applied.TheVariants.{New}
use Rattle.pj_change.specs.declared.refusals.ApplyRefusal.{ApplyRefusal}
use Rattle.pj_change.specs.declared.refusals.ApplyRefusal.TheVariants as apply
use Rattle.pj_change.specs.declared.refusals.UnrecordRefusal.{UnrecordRefusal}
use Rattle.pj_change.specs.declared.refusals.UnrecordRefusal.TheVariants as unrecord
use Rattle.pj_change.specs.Lawful.{is_held, Follows}
use Rattle.pj_change.specs.Uproot.{IsUprooted, Reaches, itself, by_need, IsWithout}
use Rattle.pj_change.proofs.Members.{first_member, later_member}
use Rattle.pj_change.proofs.LawfulLists.{not_record}
use Rattle.pj_change.specs.Apply.{IsApplyAnswer}
use Rattle.pj_change.specs.Unrecord.{MayLeave, without, IsUnrecordAnswer}
use Rattle.pj_change.specs.Runs.{Becomes}

module _ (list : List Record) (c : Record) (result : Result (Applied (List Record)) ApplyRefusal) (a : IsApplyAnswer list c result) where
  pub applied : (after : List Record) → result ≡ Ok (New after) → Becomes (Follows list c) list (list ++ c ∷ []) after
  applied after e = inl ((a.new after).only e)

  pub not_applied : (kept : List Record) → kept ≡ list → (result ≡ Err apply.Memory → ⊥) → ((after : List Record) → result ≡ Ok (New after) → ⊥) → Becomes (Follows list c) list (list ++ c ∷ []) kept
  not_applied kept e memory new = inr ((λ f. elim ((a.new (list ++ c ∷ [])).always (f, refl)) [ inl k ↦ new (list ++ c ∷ []) k | inr k ↦ memory k ]), e)

module _ (list : List Record) (name : Name) (result : Result (List Record) UnrecordRefusal) (a : IsUnrecordAnswer list name result) where
  pub unrecorded : (after : List Record) → result ≡ Ok after → Becomes (MayLeave list name) list (without list name) after
  unrecorded after e = inl ((a.out after).only e)

  pub not_unrecorded : (kept : List Record) → kept ≡ list → (result ≡ Err unrecord.Memory → ⊥) → ((after : List Record) → result ≡ Ok after → ⊥) → Becomes (MayLeave list name) list (without list name) kept
  not_unrecorded kept e memory out = inr ((λ m. elim ((a.out (without list name)).always (m, refl)) [ inl k ↦ out (without list name) k | inr k ↦ memory k ]), e)

-- ---- an uproot of what is not there

all_stay : (Q : Record → Type 0) (list : List Record) → ((r : Record) → Contains list r → Q r → ⊥) → IsWithout Q list list
all_stay Q [] f = refl
all_stay Q (r ∷ list) f = inr (f r (first_member r list), list, refl, all_stay Q list (λ s m. f s (later_member r list s m)))

module _ (list : List Record) (name : Name) (absent : is_held list name ≡ false) where
  none_reaches : (r : Record) → Reaches list name r → Contains list r → ⊥
  none_reaches r (itself e) m = not_record list name absent r (record { member = m; named = e })
  none_reaches r (by_need {s = s} m n q) k = none_reaches s q m

  pub none_uprooted : IsUprooted list name list
  none_uprooted = all_stay (Reaches list name) list (λ r m q. none_reaches r q m)

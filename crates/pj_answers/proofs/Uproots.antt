-- An uproot of a lawful list has an answer.
use Rattle.std.proofs.Common.{◌≡◌, List, [], ◌∷◌, map, refl, sym, ◌∙◌, subst, inl, inr, Bool, true, false}
use Rattle.std.specs.Prelude.{Contains, ◌⊎◌, IsTrue, Result, Ok, Err}
use Rattle.std.proofs.lemmas.Bool.{both_ways}
use Rattle.pj_name.specs.declared.name.Name.{Name}
use Rattle.pj_change.specs.declared.change.Record.{Record}
use Rattle.pj_change.specs.declared.refusals.UprootRefusal.{UprootRefusal}
use Rattle.pj_change.specs.declared.refusals.UprootRefusal.TheVariants.{Absent, Memory}
use Rattle.pj_change.specs.AcrossDead.{IsPath, one, more}
use Rattle.pj_change.specs.Lawful.{IsLawful, is_held}
use Rattle.pj_change.specs.Uproot.{Reaches, itself, by_need, IsWithout}
use Rattle.pj_change.specs.Uprooting.{IsUprootAnswer}
use Rattle.pj_change.proofs.Causes.{excluded}
use Rattle.pj_change.proofs.Decided.{Known, known_as, known_three, known_one, known_some, known_name, known_test}
use Rattle.pj_change.proofs.LawfulLists.{held, held_member, one_record}
use Rattle.pj_change.proofs.Members.{first_member, later_member, same_member}
use Rattle.pj_change.proofs.PickedMembers.{mapped}
use Rattle.pj_change.proofs.UnrecordAnswers.{uproot_is_out}
use Rattle.pj_answers.proofs.Paths.{known_path}

-- whether a name is among some
pub known_among : (names : List Name) (n : Name) → Known (Contains names n)
known_among names n = known_as (λ h. same_member names h.2 h.1) (λ m. (n, m, refl)) (known_some (λ m. m ≡ n) names (λ m. known_name m n))

module _ (list : List Record) (lawful : IsLawful list) where
  -- a change of the one name needs one of the other
  abbrev Needs : Name → Name → Type 0
  Needs m n = (r : Record) × Contains list r × ((r.name ≡ m) × Contains r.change.needs n × IsTrue (is_held list n))

  -- whether there is such a change
  known_needs : (m n : Name) → Known (Needs m n)
  known_needs m n = known_some _ list (λ r. known_three (known_name r.name m) (known_among r.change.needs n) (known_test (is_held list n) true))

  -- the names of the list
  names : List Name
  names = map (λ (r : Record). r.name) list

  -- what is needed is one of them
  needed_there : (m n : Name) → Needs m n → Contains names n
  unfolding names
  needed_there m n h = (let s = held list n h.2.2 in let k = s.1 in same_member names k.named (mapped (λ (r : Record). r.name) list s.0 k.member))

  -- a path of needs reaches
  path_reaches : (name m : Name) → IsPath Needs m name → (r : Record) → Contains list r → r.name ≡ m → Reaches list name r
  path_reaches name m (one l) r in_list e =
      let same : l.0 ≡ r = one_record list lawful l.0 r l.1 in_list (l.2.0 ∙ sym e) in
      let s = held list name l.2.2 in
      let k = s.1 in
      let needs : Contains r.change.needs name = subst (λ (x : Record). Contains x.change.needs name) same l.2.1 in
      by_need k.member (same_member r.change.needs (sym k.named) needs) (itself k.named)
  path_reaches name m (more {v = n} l p) r in_list e =
      let same : l.0 ≡ r = one_record list lawful l.0 r l.1 in_list (l.2.0 ∙ sym e) in
      let s = held list n l.2.2 in
      let k = s.1 in
      let needs : Contains r.change.needs n = subst (λ (x : Record). Contains x.change.needs n) same l.2.1 in
      by_need k.member (same_member r.change.needs (sym k.named) needs) (path_reaches name n p s.0 k.member k.named)

  -- and what reaches has such a path
  reaches_path : (name : Name) (r : Record) → Contains list r → Reaches list name r → (r.name ≡ name) ⊎ IsPath Needs r.name name
  reaches_path name r in_list (itself e) = inl e
  reaches_path name r in_list (by_need {s = s} there needs h) =
      let l : Needs r.name s.name = (r, in_list, (refl, needs, held_member list s.name s (record { member = there; named = refl }))) in
      elim (reaches_path name s there h) [ inl e ↦ inr (one (subst (Needs r.name) e l)) | inr p ↦ inr (more l p) ]

  -- whether a change reaches one is decided
  known_reaches : (name : Name) (r : Record) → Contains list r → Known (Reaches list name r)
  known_reaches name r m = known_as there (λ h. reaches_path name r m h)
      (known_one (known_name r.name name) (known_path Needs names needed_there known_needs r.name name))
    where
      there : (r.name ≡ name) ⊎ IsPath Needs r.name name → Reaches list name r
      there (inl e) = itself e
      there (inr p) = path_reaches name r.name p r m refl

-- what is left without the members of which something known holds
without_there : (Q : Record → Type 0) (list : List Record) → ((r : Record) → Contains list r → Known (Q r)) → (rest : List Record) × IsWithout Q list rest
without_there Q [] known = ([], refl)
without_there Q (r ∷ list) known = by (known r (first_member r list)) (without_there Q list (λ s m. known s (later_member r list s m)))
  where
    by : Known (Q r) → (rest : List Record) × IsWithout Q list rest → (rest : List Record) × IsWithout Q (r ∷ list) rest
    by (inl q) h = (h.0, inl (q, h.1))
    by (inr n) h = (r ∷ h.0, inr (n, h.0, refl, h.1))

-- the answer where the change is not there
uproot_absent : (list : List Record) (name : Name) → is_held list name ≡ false → IsUprootAnswer list name (Err Absent)
uproot_absent list name e = record {
  absent = record { only = λ h. e; always = λ h. inl refl };
  out = λ after. excluded _ _ _ (λ h. cc) (λ k. both_ways (is_held list name) e k.0);
}

-- an uproot has an answer that is not out of memory
pub uproot_answered : (list : List Record) → IsLawful list → (name : Name) → (result : Result (List Record) UprootRefusal)
    × IsUprootAnswer list name result × (result ≡ Err Memory → ⊥)
uproot_answered list lawful name = by (is_held list name) refl
  where
    by : (b : Bool) → is_held list name ≡ b → (result : Result (List Record) UprootRefusal) × IsUprootAnswer list name result × (result ≡ Err Memory → ⊥)
    by false e = (Err Absent, uproot_absent list name e, λ h. cc)
    by true e =
        let left = without_there (Reaches list name) list (known_reaches list lawful name) in
        (Ok left.0, uproot_is_out list name left.0 e left.1, λ h. cc)

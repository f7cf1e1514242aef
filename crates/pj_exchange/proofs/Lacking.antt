-- What one list lacks of another, as changes and as names.
use Rattle.std.proofs.Common.{◌≡◌, ◌≢◌, ◌<◌, Bool, true, false, not, List, [], ◌∷◌, ◌++◌, length, filter, refl, sym, ◌∙◌, ap, subst, inl, inr, arith, length-append}
use Rattle.std.specs.Prelude.{Contains, AllPairs, ◌||◌}
use Rattle.std.proofs.Math.Seq.{get_or-append_seam}
use Rattle.std.proofs.lemmas.List.{get_or_append_left}
use Rattle.std.proofs.lemmas.List.Kept.{AllPairs-filter}
use Rattle.pj_name.specs.declared.name.Name.{Name}
use Rattle.pj_name.specs.Name.{same_name}
use Rattle.pj_change.specs.declared.change.Record.{Record}
use Rattle.pj_change.specs.Lawful.{is_held}
use Rattle.pj_change.specs.Sets.{HaveDistinctNames}
use Rattle.pj_change.proofs.LawfulLists.{append_cases, held_member, not_held}
use Rattle.pj_change.proofs.Members.{middle_member, moved}
use Rattle.pj_change.proofs.PickedMembers.{passed}
use Rattle.pj_exchange.specs.Phases.{is_listed, lacked}
use Rattle.pj_exchange.proofs.Replies.{names_of}

-- the changes of the second list that the first lacks
abbrev pub lacking : List Record → List Record → List Record
lacking a b = filter (λ r. not (is_held a r.name)) b

-- a list holds a change where its names have the name
listed_held : (list : List Record) (n : Name) → is_listed (names_of list) n ≡ is_held list n
listed_held [] n = refl
listed_held (r ∷ list) n = ap (λ x. same_name r.name n || x) (listed_held list n)

-- so the names that are lacked are those of the changes
pub lacked_names : (a b : List Record) → lacked (names_of a) (names_of b) ≡ names_of (lacking a b)
lacked_names a [] = refl
lacked_names a (r ∷ b) = go (is_held a r.name) refl (lacked_names a b)
  where
    go : (x : Bool) → is_held a r.name ≡ x → lacked (names_of a) (names_of b) ≡ names_of (lacking a b) →
        lacked (names_of a) (names_of (r ∷ b)) ≡ names_of (lacking a (r ∷ b))
    go true h rest = rw (listed_held a r.name ∙ h) (rw h rest)
    go false h rest = rw (listed_held a r.name ∙ h) (rw h (ap (λ l. r.name ∷ l) rest))

-- a change that is still lacking is held neither by the list nor by those that came before it
pub still_lacking : (a b : List Record) → HaveDistinctNames b → (done : List Record) (r : Record) (rest : List Record) → lacking a b ≡ done ++ r ∷ rest →
    is_held (a ++ done) r.name ≡ false
still_lacking a b distinct done r rest is = not_held (a ++ done) r.name (λ q h. elim (append_cases a done q h.member) [
  | inl k ↦ not_there (held_member a r.name q (record { member = k; named = h.named }))
  | inr k ↦ apart k h.named
])
  where
    not_there : is_held a r.name ≡ true → ⊥
    not_there held =
        let lacks = (passed (λ c. not (is_held a c.name)) b r (moved r (sym is) (middle_member done rest r))).passes in
        let k : false ≡ true = sym (ap not held) ∙ lacks in cc k

    all : AllPairs (λ r s. r.name ≢ s.name) (done ++ r ∷ rest)
    all = subst (λ l. AllPairs (λ r s. r.name ≢ s.name) l) is (AllPairs-filter (λ (r s : Record). r.name ≢ s.name) (λ c. not (is_held a c.name)) b distinct)

    apart : {q : Record} → Contains done q → q.name ≡ r.name → ⊥
    apart {q} m named =
        let short : length done < length (done ++ r ∷ rest) = omega (arith, length-append done (r ∷ rest)) in
        all m.0 (length done) q m.1 short
        (ap (λ (x : Record). x.name) (get_or_append_left done (r ∷ rest) q m.0 m.1 ∙ m.2) ∙ named
        ∙ sym (ap (λ (x : Record). x.name) (get_or-append_seam done r rest q)))

-- To ask of the records of a name is to ask of the one that has it.
use Rattle.std.proofs.Common.{◌≡◌, Bool, true, false, ◌&&◌, ◌⊎◌, inl, inr, List, [], ◌∷◌, refl, sym, ap, ◌∙◌, subst, arith}
use Rattle.std.proofs.lemmas.Bool.{and_parts, and_from}
use Rattle.std.specs.Prelude.{Contains, AllPairs, ◌≢◌, Option, Some, None, IfSome, IsSome, MatchOption, Any, ◌↔◌}
use Rattle.std.specs.Borrow.{Bor}
use Rattle.std.specs.List.{list_any}
use Rattle.std.specs.Cmp.{both_ways}
use Rattle.pj_name.specs.declared.name.Name.{Name}
use Rattle.pj_name.specs.Name.{same_name}
use Rattle.pj_change.specs.declared.change.Record.{Record}
use Rattle.pj_change.specs.Lawful.{is_held}
use Rattle.pj_change.proofs.EqualNames.{same_name_is, is_same_name}
use Rattle.pj_change.proofs.Members.{uncons, any_member, passes, none_passes}
use Rattle.pj_change.proofs.LawfulLists.{not_record, not_held}
use Rattle.pj_change.proofs.Listings.{IsRelated, related_pairs}

-- records of one name are one
abbrev pub AreApart : List Record → Type 0
AreApart S = (r s : Record) → Contains S r → Contains S s → r.name ≡ s.name → r ≡ s

pub apart_related : (S : List Record) → IsRelated (λ r s. r.name ≢ s.name) S → AreApart S
apart_related [] h r s (i, l, is) n e = absurd (omega arith)
apart_related (x ∷ xs) h r s m n e = by (apart_related xs h.1) (uncons x xs r m) (uncons x xs s n)
  where
    by : AreApart xs → (x ≡ r) ⊎ Contains xs r → (x ≡ s) ⊎ Contains xs s → r ≡ s
    by rest (inl a) (inl b) = sym a ∙ b
    by rest (inl a) (inr b) = absurd (h.0 s b (ap (λ y. y.name) a ∙ e))
    by rest (inr a) (inl b) = absurd (h.0 r a (ap (λ y. y.name) b ∙ sym e))
    by rest (inr a) (inr b) = rest r s a b e

pub apart_pairs : (S : List Record) → AllPairs (λ r s. r.name ≢ s.name) S → AreApart S
apart_pairs S h = apart_related S (related_pairs (λ r s. r.name ≢ s.name) S h)

pub any_named : (S : List Record) (n : Name) (p : Record → Bool) → AreApart S → (r : Record) → Contains S r → r.name ≡ n → list_any (λ d. same_name d.name n && p d) S ≡ p r
any_named S n p apart r m e = both_ways _ _ there back
  where
    there : list_any (λ d. same_name d.name n && p d) S ≡ true → p r ≡ true
    there h =
        let f = passes (λ d. same_name d.name n && p d) S h in
        let b = and_parts (same_name f.it.name n) (p f.it) f.is in
        let s : f.it ≡ r = apart f.it r f.member m (same_name_is f.it.name n b.0 ∙ sym e) in
        subst (λ d. p d ≡ true) s b.1

    back : p r ≡ true → list_any (λ d. same_name d.name n && p d) S ≡ true
    back h = any_member (λ d. same_name d.name n && p d) S r m (and_from _ _ (is_same_name r.name n e) h)

pub none_named : (S : List Record) (n : Name) (p : Record → Bool) → is_held S n ≡ false → list_any (λ d. same_name d.name n && p d) S ≡ false
none_named S n p h = none_passes (λ d. same_name d.name n && p d) S (λ d m. by d m (same_name d.name n) refl)
  where
    by : (d : Record) → Contains S d → (b : Bool) → same_name d.name n ≡ b → (same_name d.name n && p d) ≡ false
    by d m true f = absurd (not_record S n h d (record { member = m; named = same_name_is d.name n f }))
    by d m false f = rw f refl

pub peer_is : (S : List Record) (n : Name) (o : Option (Bor Record)) → IfSome o (λ r. Contains S r.now) → IfSome o (λ r. r.now.name ≡ n) → IsSome o ↔ Any (λ r. r.name ≡ n) S →
    MatchOption o (is_held S n ≡ false) (λ r. Contains S r.now × (r.now.name ≡ n))
peer_is S n None f g h = not_held S n (λ r is. let t : false ≡ true = h.1 (is.member.0, r, is.member.1, is.member.2, is.named) in cc)
peer_is S n (Some r) f g h = (f, g)

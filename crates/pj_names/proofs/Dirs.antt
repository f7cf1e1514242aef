-- What the record of a name tells of a list: which inodes are directories, and the rows of names in two lists that agree on it.
use Rattle.std.proofs.Common.{◌≡◌, ◌∙◌, sym, ap, subst, refl, ℕ, Bool, true, false, ◌&&◌, List, [], ◌∷◌, ◌++◌, inl, inr}
use Rattle.std.specs.Prelude.{Contains, ◌⊎◌, Option, Some, None, option_and_then}
use Rattle.std.specs.List.{list_any}
use Rattle.std.proofs.lemmas.Bool.{and_from}
use Rattle.pj_name.specs.declared.name.Name.{Name}
use Rattle.pj_name.specs.Name.{same_name}
use Rattle.pj_change.specs.declared.point.Point.{Point}
use Rattle.pj_change.specs.declared.point.Place.{Place}
use Rattle.pj_change.specs.declared.point.Place.TheVariants as placed
use Rattle.pj_change.specs.declared.hunk.Hunk.{Hunk}
use Rattle.pj_change.specs.declared.change.Record.{Record}
use Rattle.pj_change.specs.Positions.{kind_at}
use Rattle.pj_change.specs.Context.{is_dir_inode}
use Rattle.pj_change.specs.Children.{Naming, naming_of}
use Rattle.pj_change.specs.Lawful.{is_held, IsLawful}
use Rattle.pj_change.specs.Sets.{HaveSameMembers}
use Rattle.pj_change.proofs.Members.{uncons, no_member, any_member, none_passes, any_same}
use Rattle.pj_change.proofs.LawfulLists.{append_cases, not_record, one_record}
use Rattle.pj_change.proofs.EqualNames.{same_name_is, is_same_name}
use Rattle.pj_names.specs.Changes.{HaveOneEach}
use Rattle.pj_tree.specs.TreeOf.{is_dir, row_to, row_of, hunk_row}

-- ---- one of each name

-- a list with a change of another name
pub one_each : (S : List Record) (r : Record) → HaveOneEach S → is_held S r.name ≡ false → HaveOneEach (S ++ r ∷ [])
one_each S r one fresh a b m n e = by (cases a m) (cases b n)
  where
    cases : (w : Record) → Contains (S ++ r ∷ []) w → Contains S w ⊎ (r ≡ w)
    cases w k = elim (append_cases S (r ∷ []) w k) [
      | inl l ↦ inl l
      | inr l ↦ elim (uncons r [] w l) [ inl s ↦ inr s | inr none ↦ absurd (no_member w none) ]
    ]

    by : Contains S a ⊎ (r ≡ a) → Contains S b ⊎ (r ≡ b) → a ≡ b
    by (inl k) (inl l) = one a b k l e
    by (inl k) (inr s) = absurd (not_record S r.name fresh a (record { member = k; named = e ∙ sym (ap (λ (w : Record). w.name) s) }))
    by (inr s) (inl l) = absurd (not_record S r.name fresh b (record { member = l; named = sym e ∙ sym (ap (λ (w : Record). w.name) s) }))
    by (inr s) (inr t) = sym s ∙ t

-- the others of a lawful list
pub others_one : (others list : List Record) → IsLawful list → HaveSameMembers others list → HaveOneEach others
others_one others list lawful same a b m n e = one_record list lawful a b (same.there a m) (same.there b n) e

-- ---- a test of the record of a name

module _ (test : Record → Bool) (S : List Record) (n : Name) where
  -- the record of the name tells
  pub told_by : HaveOneEach S → (o : Record) → Contains S o → o.name ≡ n → list_any (λ r. same_name r.name n && test r) S ≡ test o
  told_by one o m named = by (test o) refl
    where
      by : (b : Bool) → test o ≡ b → list_any (λ r. same_name r.name n && test r) S ≡ b
      by true e = any_member (λ r. same_name r.name n && test r) S o m (and_from _ _ (is_same_name o.name n named) e)
      by false e = none_passes (λ r. same_name r.name n && test r) S (λ s k. other s k (same_name s.name n) refl)
        where
          other : (s : Record) → Contains S s → (b : Bool) → same_name s.name n ≡ b → (same_name s.name n && test s) ≡ false
          other s k true t =
              let same : o ≡ s = one o s m k (named ∙ sym (same_name_is s.name n t)) in
              let none : test s ≡ false = subst (λ (w : Record). test w ≡ false) same e in
              rw t none
          other s k false t = rw t refl

  -- where no record has the name, none passes
  pub told_by_none : ((s : Record) → Contains S s → s.name ≡ n → ⊥) → list_any (λ r. same_name r.name n && test r) S ≡ false
  told_by_none none = none_passes (λ r. same_name r.name n && test r) S (λ s k. other s k (same_name s.name n) refl)
    where
      other : (s : Record) → Contains S s → (b : Bool) → same_name s.name n ≡ b → (same_name s.name n && test s) ≡ false
      other s k true t = absurd (none s k (same_name_is s.name n t))
      other s k false t = rw t refl

-- ---- directories

-- the change that has the point tells
pub dir_by : (S : List Record) → HaveOneEach S → (o : Record) → Contains S o → (p : Point) → o.name ≡ p.change → is_dir S p ≡ is_dir_inode (kind_at o.change.hunks p.offset)
dir_by S one o m p named = told_by (λ r. is_dir_inode (kind_at r.change.hunks p.offset)) S p.change one o m named

-- where no change has the point, none is there
pub dir_of_none : (S : List Record) (p : Point) → ((s : Record) → Contains S s → s.name ≡ p.change → ⊥) → is_dir S p ≡ false
dir_of_none S p none = told_by_none (λ r. is_dir_inode (kind_at r.change.hunks p.offset)) S p.change none

-- as where neither the list nor the change has it
pub none_told : (S : List Record) (r : Record) (p : Point) → ((s : Record) → Contains S s → s.name ≡ p.change → ⊥) → same_name p.change r.name ≡ false → is_dir (S ++ r ∷ []) p ≡ false
none_told S r p none other = dir_of_none (S ++ r ∷ []) p (λ s m e. elim (append_cases S (r ∷ []) s m) [
  | inl k ↦ none s k e
  | inr k ↦ elim (uncons r [] s k) [
    | inl same ↦ (let t : same_name p.change r.name ≡ true = is_same_name p.change r.name (sym e ∙ sym (ap (λ (w : Record). w.name) same)) in cc)
    | inr n ↦ no_member s n
  ]
])

-- lists with the same members have the same directories
pub dir_same : (S T : List Record) → HaveSameMembers S T → (p : Point) → is_dir S p ≡ is_dir T p
dir_same S T same p = any_same _ _ S T same.there same.back (λ r. refl)

-- ---- the rows of names

row_to_alike : (S T : List Record) (n : Naming) (child : Place) → ((p : Point) → child ≡ placed.At p → is_dir S p ≡ is_dir T p) → row_to S n child ≡ row_to T n child
row_to_alike S T n placed.Root h = refl
row_to_alike S T n (placed.At p) h = λ i. Some (record { parent = n.parent; name = n.bytes; child = p; at = n.at; dir = h p refl i; exec = n.exec })

-- a hunk has the same row where its child is a directory alike
pub row_alike : (S T : List Record) (r : Record) (first : ℕ) (h : Hunk) →
    ((n : Naming) → naming_of r first h ≡ Some n → (p : Point) → n.child ≡ placed.At p → is_dir S p ≡ is_dir T p) → hunk_row S r first h ≡ hunk_row T r first h
row_alike S T r first h alike = by (naming_of r first h) refl
  where
    by : (o : Option Naming) → naming_of r first h ≡ o → hunk_row S r first h ≡ hunk_row T r first h
    by None e = ap (option_and_then (row_of S)) e ∙ sym (ap (option_and_then (row_of T)) e)
    by (Some n) e = ap (option_and_then (row_of S)) e ∙ row_to_alike S T n n.child (alike n e) ∙ sym (ap (option_and_then (row_of T)) e)

-- A change has at most one inverse, and one first hunk without an inverse.
use Rattle.std.proofs.Common.{◌≡◌, ℕ, suc, zero, ◌+◌, List, [], ◌∷◌, refl, sym, ◌∙◌, ap, subst, inl, inr, Some}
use Rattle.std.specs.Prelude.{Contains, length, slice_get}
use Rattle.std.specs.List.{AllByRecursion}
use Rattle.std.specs.declared.cmp.Ordering.TheVariants.{Less}
use Rattle.std.proofs.lemmas.Bool.{cases_order}
use Rattle.std.proofs.lemmas.Option.{slice_get_within, get_or_from_slice_get}
use Rattle.std.specs.List.Sorted.{IsStrictlySortedBy}
use Rattle.pj_name.specs.declared.name.Name.{Name}
use Rattle.pj_name.specs.Name.{name_cmp}
use Rattle.pj_name.proofs.Names.{name_cmp-total}
use Rattle.pj_change.specs.declared.hunk.Hunk.{Hunk}
use Rattle.pj_change.specs.declared.hunk.Hunk.TheVariants.{File, Dir, NameOf, Insert, Order, Delete, Revive}
use Rattle.pj_change.specs.declared.change.Change.{Change}
use Rattle.pj_change.specs.declared.change.Record.{Record}
use Rattle.pj_change.specs.Inverse.{IsInverseNeed, IsNumberOf, DeletesOwn, Undoes, UndoEach, IsInverse, IsFirstWithoutInverse}
use Rattle.pj_change.specs.Positions.{numbered}
use Rattle.pj_change.specs.Rules.{position_count}
use Rattle.pj_change.proofs.ChangeLemmas.{change_ext}
use Rattle.pj_change.proofs.Listings.{one_list, not_both}
use Rattle.pj_change.proofs.Members.{each}

-- ---- numbers of needs

slice_member : {X : Type 0} (xs : List X) (i : ℕ) (x : X) → slice_get xs i ≡ Some x → Contains xs x
slice_member xs i x e = (i, slice_get_within xs i x e, get_or_from_slice_get xs i x x e)

not_itself : (m n : Name) (needs : List Name) → AllByRecursion (λ o. name_cmp m o ≡ Less) needs → Some m ≡ Some n → Contains needs n → ⊥
not_itself m n needs all e member =
    let same : m ≡ n = cc in
    let below : name_cmp m n ≡ Less = each (λ o. name_cmp m o ≡ Less) needs all n member in
    let itself : name_cmp n n ≡ Less = subst (λ (o : Name). name_cmp o n ≡ Less) same below in
    not_both name_cmp name_cmp-total n n itself itself

-- a name stands once in a rising list
at_once : (needs : List Name) → IsStrictlySortedBy name_cmp needs → (i j : ℕ) (n : Name) → slice_get needs i ≡ Some n → slice_get needs j ≡ Some n → i ≡ j
unfolding IsStrictlySortedBy
at_once [] s i j n e f = absurd (cc)
at_once (m ∷ needs) s zero zero n e f = refl
at_once (m ∷ needs) s zero (suc j) n e f = absurd (not_itself m n needs s.0 e (slice_member needs j n f))
at_once (m ∷ needs) s (suc i) zero n e f = absurd (not_itself m n needs s.0 f (slice_member needs i n e))
at_once (m ∷ needs) s (suc i) (suc j) n e f = ap (λ k. suc k) (at_once needs s.1 i j n e f)

number_one : (needs : List Name) → IsStrictlySortedBy name_cmp needs → (n : Name) (k l : ℕ) → IsNumberOf needs n k → IsNumberOf needs n l → k ≡ l
number_one needs s n k l a b = a.1 ∙ ap (λ i. suc i) (at_once needs s a.0 b.0 n a.2 b.2) ∙ sym b.1

-- ---- hunks

module _ (c : Record) (needs : List Name) (sorted : IsStrictlySortedBy name_cmp needs) where
  deletes_one : (start end : ℕ) (g h : Hunk) → DeletesOwn c needs start end g → DeletesOwn c needs start end h → g ≡ h
  deletes_one start end g h a b = a.2 ∙ ap (λ k. Delete k start end (k ∷ [])) (number_one needs sorted c.name a.0 b.0 a.1 b.1) ∙ sym b.2

  undoes_one : (first : ℕ) (h g g' : Hunk) → Undoes c needs first h g → Undoes c needs first h g' → g ≡ g'
  undoes_one first (File parent name exec) g g' a b = deletes_one first (first + 1) g g' a b
  undoes_one first (Dir parent name) g g' a b = deletes_one first (first + 1) g g' a b
  undoes_one first (NameOf parent child name exec) g g' a b = deletes_one first (first + 1) g g' a b
  undoes_one first (Insert file ups downs bytes) g g' a b = deletes_one first (first + length bytes) g g' a b
  undoes_one first (Order file source target) g g' a b = absurd a
  undoes_one first (Revive owner start end by) g g' a b = absurd a
  undoes_one first (Delete owner start end by) g g' a b =
      let k = number_one needs sorted (numbered c owner) a.1 b.1 a.3 b.3 in
      let l = number_one needs sorted c.name a.2 b.2 a.4 b.4 in
      a.5 ∙ (λ i. Revive (k i) start end (l i ∷ [])) ∙ sym b.5

  undo_each_one : (first : ℕ) (hs gs gs' : List Hunk) → UndoEach c needs first hs gs → UndoEach c needs first hs gs' → gs ≡ gs'
  undo_each_one first [] gs gs' a b = a ∙ sym b
  undo_each_one first (h ∷ hs) [] gs' a b = absurd a
  undo_each_one first (h ∷ hs) (g ∷ gs) [] a b = absurd b
  undo_each_one first (h ∷ hs) (g ∷ gs) (g' ∷ gs') a b =
      let e = undoes_one first h g g' a.0 b.0 in
      let f = undo_each_one (first + position_count h) hs gs gs' a.1 b.1 in
      λ i. e i ∷ f i

-- ---- inverses

pub inverse_one : (c : Record) (v w : Change) → IsInverse c v → IsInverse c w → v ≡ w
inverse_one c v w a b =
    let needs : v.needs ≡ w.needs =
    one_list name_cmp name_cmp-total (IsInverseNeed c c.change.hunks) (IsInverseNeed c c.change.hunks) (λ n h. h) (λ n h. h) v.needs w.needs a.needs b.needs in
    let there : UndoEach c v.needs 0 c.change.hunks w.hunks = subst (λ ns. UndoEach c ns 0 c.change.hunks w.hunks) (sym needs) b.hunks in
    let hunks = undo_each_one c v.needs a.needs.sorted 0 c.change.hunks v.hunks w.hunks a.hunks there in
    let version = a.version ∙ sym b.version in
    let message = a.message ∙ sym b.message in
    let author = a.author ∙ sym b.author in
    let time = a.time ∙ sym b.time in
    let knows = a.knows ∙ sym b.knows in
    change_ext v w (λ i. record { version = version i; message = message i; author = author i; time = time i; needs = needs i; knows = knows i; hunks = hunks i })

-- ---- hunks without an inverse

pub first_one : (c : Record) (k l : ℕ) → IsFirstWithoutInverse c k → IsFirstWithoutInverse c l → k ≡ l
first_one c k l a b = elim (cases_order k l) [
  | inl e ↦ e
  | inr d ↦ elim d [ inl below ↦ absurd (a.without (b.before k below)) | inr above ↦ absurd (b.without (a.before l above)) ]
]

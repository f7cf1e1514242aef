-- The hunks of an inverse: each deletes what the change made, or revives what it deleted; and each hunk of the change is undone.
use Rattle.std.proofs.Common.{◌≡◌, ℕ, suc, zero, ◌+◌, List, [], ◌∷◌, take, refl, sym, ◌∙◌, ap, subst, inl, inr, arith}
use Rattle.std.specs.Prelude.{Contains, ◌⊎◌, Some, slice_get, sum_by, length}
use Rattle.std.proofs.lemmas.Option.{slice_get_read, get_or_from_slice_get, same_Some}
use Rattle.std.proofs.lemmas.List.Sums.{sum_by-cons}
use Rattle.pj_name.specs.declared.name.Name.{Name}
use Rattle.pj_change.specs.declared.hunk.Hunk.{Hunk}
use Rattle.pj_change.specs.declared.hunk.Hunk.TheVariants.{File, Dir, NameOf, Insert, Order, Delete, Revive}
use Rattle.pj_change.specs.declared.change.Record.{Record}
use Rattle.pj_change.specs.Positions.{numbered, place}
use Rattle.pj_change.specs.Rules.{position_count}
use Rattle.pj_change.specs.Inverse.{IsNumberOf, DeletesOwn, Undoes, UndoEach, IsInverse}
use Rattle.pj_change.proofs.Members.{uncons, no_member, first_member, later_member, same_member, moved}

-- a hunk of v that deletes positions of c by c
pub record IsOwnDeletion (c v : Record) (g : Hunk) : Type 0 where
  pub number : ℕ
  pub start : ℕ
  pub end : ℕ
  pub is : g ≡ Delete number start end (number ∷ [])
  pub named : numbered v number ≡ c.name

-- a hunk of v that revives what c deletes, by c
pub record IsRevival (c v : Record) (g : Hunk) : Type 0 where
  pub owner : ℕ
  pub start : ℕ
  pub end : ℕ
  pub number : ℕ
  pub itself : ℕ
  pub is : g ≡ Revive number start end (itself ∷ [])
  pub deletes_it : Contains c.change.hunks (Delete owner start end (owner ∷ []))
  pub named : numbered v number ≡ numbered c owner
  pub by : numbered v itself ≡ c.name

-- what the number of a need means
pub number_means : (v : Record) (n : Name) (k : ℕ) → IsNumberOf v.change.needs n k → numbered v k ≡ n
number_means v n k a = ap (numbered v) a.1 ∙ get_or_from_slice_get v.change.needs a.0 n v.name a.2

own : (c v : Record) (start end : ℕ) (g : Hunk) → DeletesOwn c v.change.needs start end g → IsOwnDeletion c v g
own c v start end g u = record { number = u.0; start = start; end = end; is = u.2; named = number_means v c.name u.0 u.1 }

one_hunk : (c v : Record) (first : ℕ) (h g : Hunk) → Contains c.change.hunks h → Undoes c v.change.needs first h g → IsOwnDeletion c v g ⊎ IsRevival c v g
one_hunk c v first (File parent name exec) g m u = inl (own c v first (first + 1) g u)
one_hunk c v first (Dir parent name) g m u = inl (own c v first (first + 1) g u)
one_hunk c v first (NameOf parent child name exec) g m u = inl (own c v first (first + 1) g u)
one_hunk c v first (Insert file ups downs bytes) g m u = inl (own c v first (first + length bytes) g u)
one_hunk c v first (Order file source target) g m u = absurd u
one_hunk c v first (Revive owner start end by) g m u = absurd u
one_hunk c v first (Delete owner start end by) g m u = inr (record {
  owner = owner;
  start = start;
  end = end;
  number = u.1;
  itself = u.2;
  is = u.5;
  deletes_it = same_member c.change.hunks (ap (λ b. Delete owner start end b) u.0) m;
  named = number_means v (numbered c owner) u.1 u.3;
  by = number_means v c.name u.2 u.4;
})

each_hunk : (c v : Record) (first : ℕ) (hs gs : List Hunk) → ((h : Hunk) → Contains hs h → Contains c.change.hunks h) → UndoEach c v.change.needs first hs gs →
    (g : Hunk) → Contains gs g → IsOwnDeletion c v g ⊎ IsRevival c v g
each_hunk c v first [] gs sub u g m = absurd (no_member g (moved g u m))
each_hunk c v first (h ∷ hs) [] sub u g m = absurd u
each_hunk c v first (h ∷ hs) (f ∷ gs) sub u g m = elim (uncons f gs g m) [
  | inl e ↦ subst (λ x. IsOwnDeletion c v x ⊎ IsRevival c v x) e (one_hunk c v first h f (sub h (first_member h hs)) u.0)
  | inr n ↦ each_hunk c v (first + position_count h) hs gs (λ k q. sub k (later_member h hs k q)) u.1 g n
]

-- each hunk of the inverse is of one of the two kinds
pub inverse_hunk : (c v : Record) → IsInverse c v.change → (g : Hunk) → Contains v.change.hunks g → IsOwnDeletion c v g ⊎ IsRevival c v g
inverse_hunk c v inverse g m = each_hunk c v 0 c.change.hunks v.change.hunks (λ h n. n) inverse.hunks g m

-- ---- the other way

-- the hunk of v that undoes a hunk of c
pub record IsUndone (c v : Record) (first : ℕ) (h : Hunk) (gs : List Hunk) : Type 0 where
  pub hunk : Hunk
  pub member : Contains gs hunk
  pub undoes : Undoes c v.change.needs first h hunk

undone_in : (c v : Record) (first : ℕ) (hs gs : List Hunk) → UndoEach c v.change.needs first hs gs → (i : ℕ) (h : Hunk) → slice_get hs i ≡ Some h →
    IsUndone c v (first + sum_by position_count (take i hs)) h gs
undone_in c v first [] gs u i h e = absurd (cc)
undone_in c v first (k ∷ hs) [] u i h e = absurd u
undone_in c v first (k ∷ hs) (f ∷ gs) u zero h e =
    (let same : k ≡ h = same_Some k h e in
    record { hunk = f; member = first_member f gs; undoes = subst (λ x. Undoes c v.change.needs (first + 0) x f) same (subst (λ n. Undoes c v.change.needs n k f) (omega arith) u.0) })
undone_in c v first (k ∷ hs) (f ∷ gs) u (suc i) h e =
    (let r = undone_in c v (first + position_count k) hs gs u.1 i h e in
    record {
      hunk = r.hunk;
      member = later_member f gs r.hunk r.member;
      undoes = subst (λ n. Undoes c v.change.needs n h r.hunk) (omega (arith, sum_by-cons position_count k (take i hs))) r.undoes;
    })

-- each hunk of c is undone
pub undone_at : (c v : Record) → IsInverse c v.change → (i : ℕ) (h : Hunk) → slice_get c.change.hunks i ≡ Some h → IsUndone c v (place c.change.hunks i) h v.change.hunks
undone_at c v inverse i h e =
    (let r = undone_in c v 0 c.change.hunks v.change.hunks inverse.hunks i h e in
    record { hunk = r.hunk; member = r.member; undoes = subst (λ n. Undoes c v.change.needs n h r.hunk) (omega arith) r.undoes })

pub undone_member : (c v : Record) → IsInverse c v.change → (h : Hunk) → Contains c.change.hunks h → (first : ℕ) × IsUndone c v first h v.change.hunks
undone_member c v inverse h m = (place c.change.hunks m.0, undone_at c v inverse m.0 h (slice_get_read c.change.hunks _ m.0 h refl m.1 (sym m.2)))

-- so c revives nothing
pub none_revived : (c v : Record) → IsInverse c v.change → (owner start end : ℕ) (by : List ℕ) → Contains c.change.hunks (Revive owner start end by) → ⊥
none_revived c v inverse owner start end by m = (let u = undone_member c v inverse (Revive owner start end by) m in u.1.undoes)

-- what c deletes, v revives by c
pub record IsRevived (c v : Record) (owner start end : ℕ) : Type 0 where
  pub number : ℕ
  pub itself : ℕ
  pub member : Contains v.change.hunks (Revive number start end (itself ∷ []))
  pub named : numbered v number ≡ numbered c owner
  pub by : numbered v itself ≡ c.name

pub revived : (c v : Record) → IsInverse c v.change → (owner start end : ℕ) (by : List ℕ) → Contains c.change.hunks (Delete owner start end by) → IsRevived c v owner start end
revived c v inverse owner start end by m =
    (let u = undone_member c v inverse (Delete owner start end by) m in
    let a = u.1.undoes in
    record {
      number = a.1;
      itself = a.2;
      member = same_member v.change.hunks a.5 u.1.member;
      named = number_means v (numbered c owner) a.1 a.3;
      by = number_means v c.name a.2 a.4;
    })

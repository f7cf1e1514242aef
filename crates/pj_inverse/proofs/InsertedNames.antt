-- A name at its place in a list of names: what the list then has.
use Rattle.std.proofs.Common.{◌≡◌, List, [], ◌∷◌, refl, sym, inl, inr}
use Rattle.std.specs.Prelude.{Contains, ◌⊎◌}
use Rattle.std.specs.declared.cmp.Ordering.{Ordering}
use Rattle.std.specs.declared.cmp.Ordering.TheVariants.{Less, Equal, Greater}
use Rattle.std.specs.Ordering.{match_ordering}
use Rattle.std.specs.BTreeSet.{insert_key}
use Rattle.pj_name.specs.declared.name.Name.{Name}
use Rattle.pj_name.specs.Name.{name_cmp}
use Rattle.pj_change.proofs.Members.{uncons, no_member, first_member, later_member, same_member}
use Rattle.pj_change.proofs.EqualNames.{name_tied}

module _ (k : Name) where
  -- the name is there
  pub inserted : (xs : List Name) → Contains (insert_key name_cmp xs k) k
  inserted [] = first_member k []
  inserted (x ∷ xs) = by (inserted xs) (name_cmp k x) refl
    where
      by : Contains (insert_key name_cmp xs k) k → (o : Ordering) → name_cmp k x ≡ o →
          Contains (match_ordering o (k ∷ x ∷ xs) (x ∷ xs) (x ∷ insert_key name_cmp xs k)) k
      by m Less e = first_member k (x ∷ xs)
      by m Equal e = same_member (x ∷ xs) (sym (name_tied k x e)) (first_member x xs)
      by m Greater e = later_member x (insert_key name_cmp xs k) k m

  later_kept : (x y : Name) (xs : List Name) → (Contains xs y → Contains (insert_key name_cmp xs k) y) → (x ≡ y) ⊎ Contains xs y → Contains (x ∷ insert_key name_cmp xs k) y
  later_kept x y xs f (inl e) = same_member (x ∷ insert_key name_cmp xs k) e (first_member x (insert_key name_cmp xs k))
  later_kept x y xs f (inr n) = later_member x (insert_key name_cmp xs k) y (f n)

  -- so is each that was
  pub kept : (xs : List Name) (y : Name) → Contains xs y → Contains (insert_key name_cmp xs k) y
  kept [] y m = absurd (no_member y m)
  kept (x ∷ xs) y m = by (later_kept x y xs (kept xs y) (uncons x xs y m)) (name_cmp k x)
    where
      by : Contains (x ∷ insert_key name_cmp xs k) y → (o : Ordering) → Contains (match_ordering o (k ∷ x ∷ xs) (x ∷ xs) (x ∷ insert_key name_cmp xs k)) y
      by n Less = later_member k (x ∷ xs) y m
      by n Equal = m
      by n Greater = n

  later_old : (x y : Name) (xs : List Name) → (Contains (insert_key name_cmp xs k) y → (k ≡ y) ⊎ Contains xs y) → (x ≡ y) ⊎ Contains (insert_key name_cmp xs k) y →
      (k ≡ y) ⊎ Contains (x ∷ xs) y
  later_old x y xs f (inl e) = inr (same_member (x ∷ xs) e (first_member x xs))
  later_old x y xs f (inr n) = elim (f n) [ inl e ↦ inl e | inr q ↦ inr (later_member x xs y q) ]

  -- and no other
  pub none_else : (xs : List Name) (y : Name) → Contains (insert_key name_cmp xs k) y → (k ≡ y) ⊎ Contains xs y
  none_else [] y m = uncons k [] y m
  none_else (x ∷ xs) y m = by (λ n. later_old x y xs (none_else xs y) (uncons x (insert_key name_cmp xs k) y n)) (name_cmp k x) m
    where
      by : (Contains (x ∷ insert_key name_cmp xs k) y → (k ≡ y) ⊎ Contains (x ∷ xs) y) → (o : Ordering) →
          Contains (match_ordering o (k ∷ x ∷ xs) (x ∷ xs) (x ∷ insert_key name_cmp xs k)) y → (k ≡ y) ⊎ Contains (x ∷ xs) y
      by f Less n = uncons k (x ∷ xs) y n
      by f Equal n = inr n
      by f Greater n = f n

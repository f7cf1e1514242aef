-- The needs of an inverse, hunk by hunk.
use Rattle.std.proofs.Common.{◌≡◌, ℕ, List, [], ◌∷◌, ◌++◌, refl, sym, ◌∙◌, ap, subst, inl, inr}
use Rattle.std.specs.Prelude.{Contains, ◌⊎◌, Option, Some, None}
use Rattle.std.specs.BTreeSet.{insert_key}
use Rattle.std.specs.List.Sorted.{IsStrictlySortedBy}
use Rattle.pj_name.specs.declared.name.Name.{Name}
use Rattle.pj_name.specs.Name.{name_cmp}
use Rattle.pj_change.specs.declared.hunk.Hunk.{Hunk}
use Rattle.pj_change.specs.declared.hunk.Hunk.TheVariants.{File, Dir, NameOf, Insert, Order, Delete, Revive}
use Rattle.pj_change.specs.declared.change.Record.{Record}
use Rattle.pj_change.specs.Positions.{numbered}
use Rattle.pj_change.specs.Inverse.{IsInverseNeed, AreInverseNeeds}
use Rattle.pj_change.specs.Inverse.IsInverseNeed.{itself, deleted}
use Rattle.pj_change.proofs.Members.{uncons, no_member, first_member, same_member, middle_member, before_member}
use Rattle.pj_change.proofs.LawfulLists.{append_cases}
use Rattle.pj_inverse.proofs.InsertedNames.{inserted, kept, none_else}

-- ---- what a hunk deletes

-- the change whose text or name a hunk deletes
abbrev pub deleted_change : Record → Hunk → Option Name
deleted_change c (Delete owner start end by) = Some (numbered c owner)
deleted_change c h = None

-- a `delete` that is this hunk deletes of this change
deletes_of : (c : Record) (h : Hunk) (owner start end : ℕ) (by : List ℕ) → h ≡ Delete owner start end by → deleted_change c h ≡ Some (numbered c owner)
deletes_of c h owner start end by e = ap (deleted_change c) e

-- any other hunk deletes of none
pub deletes_of_none : (c : Record) (h : Hunk) → ((owner start end : ℕ) (by : List ℕ) → h ≡ Delete owner start end by → ⊥) → deleted_change c h ≡ None
deletes_of_none c (Delete owner start end by) other = absurd (other owner start end by refl)
deletes_of_none c h other = refl

-- what a hunk deletes of is a need
need_of : (c : Record) (hs : List Hunk) (h : Hunk) (n : Name) → deleted_change c h ≡ Some n → IsInverseNeed c (hs ++ h ∷ []) n
need_of c hs (Delete owner start end by) n e = subst (λ (m : Name). IsInverseNeed c (hs ++ Delete owner start end by ∷ []) m) (let s : numbered c owner ≡ n = cc in s) (deleted (middle_member hs [] (Delete owner start end by)))
need_of c hs (File parent name exec) n e = cc
need_of c hs (Dir parent name) n e = cc
need_of c hs (NameOf parent child name exec) n e = cc
need_of c hs (Insert file ups downs bytes) n e = cc
need_of c hs (Order file source target) n e = cc
need_of c hs (Revive owner start end by) n e = cc

-- ---- one hunk more

-- a need stays one
pub still : (c : Record) (hs : List Hunk) (h : Hunk) (n : Name) → IsInverseNeed c hs n → IsInverseNeed c (hs ++ h ∷ []) n
still c hs h n itself = itself
still c hs h n (deleted {owner} {start} {end} {by} m) = deleted (before_member hs [] h (Delete owner start end by) m)

-- a need of one hunk more was one, or is what the hunk deletes of
pub from_one_more : (c : Record) (hs : List Hunk) (h : Hunk) (n : Name) → IsInverseNeed c (hs ++ h ∷ []) n → IsInverseNeed c hs n ⊎ (deleted_change c h ≡ Some n)
from_one_more c hs h n itself = inl itself
from_one_more c hs h n (deleted {owner} {start} {end} {by} m) = elim (append_cases hs (h ∷ []) (Delete owner start end by) m) [
  | inl k ↦ inl (deleted k)
  | inr k ↦ elim (uncons h [] (Delete owner start end by) k) [
    | inl e ↦ inr (deletes_of c h owner start end by e)
    | inr q ↦ absurd (no_member (Delete owner start end by) q)
  ]
]

-- ---- the lists of needs

alone_sorted : (n : Name) → IsStrictlySortedBy name_cmp (n ∷ [])
unfolding IsStrictlySortedBy
alone_sorted n = (tt, tt)

-- with no hunk the change alone
pub needs_start : (c : Record) → AreInverseNeeds c [] (c.name ∷ [])
needs_start c = record {
  sorted = alone_sorted c.name;
  only = λ n m. elim (uncons c.name [] n m) [ inl e ↦ subst (λ (k : Name). IsInverseNeed c [] k) e itself | inr k ↦ absurd (no_member n k) ];
  all = λ n p. only_itself n p;
}
  where
    only_itself : (n : Name) → IsInverseNeed c [] n → Contains (c.name ∷ []) n
    only_itself n itself = first_member c.name []
    only_itself n (deleted {owner} {start} {end} {by} m) = absurd (no_member (Delete owner start end by) m)

-- a hunk that deletes of no change
pub needs_same : (c : Record) (hs : List Hunk) (h : Hunk) (ks : List Name) → deleted_change c h ≡ None → AreInverseNeeds c hs ks → AreInverseNeeds c (hs ++ h ∷ []) ks
needs_same c hs h ks none a = record {
  sorted = a.sorted;
  only = λ n m. still c hs h n (a.only n m);
  all = λ n p. elim (from_one_more c hs h n p) [ inl q ↦ a.all n q | inr e ↦ (let f : None ≡ Some n = sym none ∙ e in absurd (cc)) ];
}

-- a hunk that does
pub needs_more : (c : Record) (hs : List Hunk) (h : Hunk) (ks new : List Name) (k : Name) → deleted_change c h ≡ Some k → new ≡ insert_key name_cmp ks k → IsStrictlySortedBy name_cmp new →
    AreInverseNeeds c hs ks → AreInverseNeeds c (hs ++ h ∷ []) new
needs_more c hs h ks new k some is sorted a = record {
  sorted = sorted;
  only = λ n m. elim (none_else k ks n (subst (λ l. Contains l n) is m)) [
    | inl e ↦ need_of c hs h n (some ∙ ap Some e)
    | inr q ↦ still c hs h n (a.only n q)
  ];
  all = λ n p. subst (λ l. Contains l n) (sym is) (elim (from_one_more c hs h n p) [
    | inl q ↦ kept k ks n (a.all n q)
    | inr e ↦ (let s : k ≡ n = cc in same_member (insert_key name_cmp ks k) s (inserted k ks))
  ]);
}

-- The laws of the order of names, and the number by which most names are compared.
use Rattle.std.specs.Prelude.{◌≡◌, ℕ, ◌+◌, ◌*◌, List, [], ◌∷◌, take}
use Rattle.std.specs.Cmp.{IsTotalOrder, IsPartialOrder, on_total, po, unsigned_ties}
use Rattle.std.specs.Cmp.Lexicographic.{lists_ties}
use Rattle.std.specs.Ordering.{as_partial_cmp, eq_by_cmp, nat_cmp}
use Rattle.std.proofs.lemmas.Cmp.{nat_list_cmp_total}
use Rattle.pj_name.specs.declared.name.Name.{Name}
use Rattle.pj_name.specs.Name.{name_cmp, same_name}

-- the order of names is total
pub name_cmp-total : IsTotalOrder name_cmp
name_cmp-total = on_total (λ n. n.bytes) nat_list_cmp_total

-- names are one where neither is before the other
pub same_names_tie : (a b : Name) → same_name a b ≡ eq_by_cmp name_cmp a b
same_names_tie a b = lists_ties nat_cmp unsigned_ties a.bytes b.bytes

-- the same order, as one that may have no answer
pub name_partial_order : IsPartialOrder same_name (as_partial_cmp name_cmp)
name_partial_order = po name_cmp-total same_names_tie

-- the number that bytes spell behind n, the first byte the greatest
abbrev pub spelt : ℕ → List ℕ → ℕ
spelt n [] = n
spelt n (b ∷ bs) = spelt (n * 256 + b) bs

-- the first eight bytes of a name, as a number
abbrev pub head_of : Name → ℕ
head_of name = spelt 0 (take 8 name.bytes)

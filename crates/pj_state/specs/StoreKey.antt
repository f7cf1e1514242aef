-- The laws of a name as a key of the store.
use Rattle.std.specs.Prelude.{◌≡◌, [], ◌∷◌, take, IsTrue}
use Rattle.std.specs.Cmp.{IsEquivalence, IsPartialEquivalence, partial_equiv_from_equiv}
use Rattle.std.specs.Cmp.Lexicographic.{on_texts_equal, bytes_decides}
use Rattle.std.proofs.Common.{ap}
use Rattle.pj_name.specs.declared.name.Name.{Name}
use Rattle.pj_name.specs.Name.{same_name}

-- sameness of names is an equivalence
pub same_name_equivalence : IsEquivalence same_name
same_name_equivalence = on_texts_equal (λ (n : Name). n.bytes)

-- and a partial one
pub same_name_partial_equivalence : IsPartialEquivalence same_name
same_name_partial_equivalence = partial_equiv_from_equiv same_name_equivalence

-- names that are one have the same first eight bytes
pub same_names_begin_alike : (a b : Name) → IsTrue (same_name a b) → take 8 a.bytes ∷ [] ≡ take 8 b.bytes ∷ []
same_names_begin_alike a b one = ap (λ bytes. take 8 bytes ∷ []) ((bytes_decides a.bytes b.bytes).0 one)

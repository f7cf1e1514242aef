-- Lists of records with distinct names: lawful lists are, and sums over them do not depend on their order.
use Rattle.std.proofs.Common.{◌≡◌, ℕ, suc, ◌<◌, Bool, List, ◌∷◌, ◌++◌, length, take, drop, get_or, sym, ◌∙◌, ap, cond, sum_by, count_by, drop-cons, arith}
use Rattle.std.specs.Prelude.{◌≢◌, Contains}
use Rattle.std.proofs.lemmas.List.{take-append-drop, get_or-take, length-take-le, get_or_default}
use Rattle.pj_change.specs.declared.change.Record.{Record}
use Rattle.pj_change.specs.Sets.{HaveSameMembers, HaveDistinctNames}
use Rattle.pj_change.specs.Lawful.{IsLawful}
use Rattle.pj_change.proofs.LawfulLists.{not_record}
use Rattle.pj_change.proofs.Listings.{IsRelated, related_pairs}
use Rattle.pj_change.proofs.Counting.{sum_same}

-- the names of a lawful list are distinct
pub lawful_distinct : (list : List Record) → IsLawful list → HaveDistinctNames list
lawful_distinct list lawful i j d less low e =
    let whole : list ≡ take j list ++ get_or list j d ∷ drop (suc j) list =
    sym (take-append-drop j list) ∙ ap (λ l. take j list ++ l) (drop-cons list j d low) in
    let before : i < length (take j list) = omega (arith, length-take-le j list (omega arith)) in
    let member : Contains (take j list) (get_or list i d) = (i, before, get_or-take j list i (get_or list i d) less ∙ get_or_default list i (get_or list i d) d (omega arith)) in
    not_record (take j list) (get_or list j d).name (lawful (take j list) (get_or list j d) (drop (suc j) list) whole).fresh (get_or list i d) (record { member = member; named = e })

-- such a list has no record twice
distinct_records : (S : List Record) → HaveDistinctNames S → IsRelated (λ r s. r ≢ s) S
distinct_records S distinct = related_pairs (λ r s. r ≢ s) S (λ i j d l h e. distinct i j d l h (ap (λ (r : Record). r.name) e))

module _ (S T : List Record) (same : HaveSameMembers S T) (left : HaveDistinctNames S) (right : HaveDistinctNames T) where
  -- two such lists with the same members have one sum
  pub set_sum : (f : Record → ℕ) → sum_by f S ≡ sum_by f T
  set_sum f = sum_same f S T (distinct_records S left) (distinct_records T right) same.there same.back

  -- and one count
  pub set_count : (p : Record → Bool) → count_by p S ≡ count_by p T
  set_count p = set_sum (λ r. cond (p r) 1 0)

-- The laws of runs.
use Rattle.std.proofs.Common.{◌≡◌, List, [], ◌∷◌, ◌++◌, refl, sym, ◌∙◌, ap, subst, inl, inr, map, append_assoc, append-nil, false}
use Rattle.std.specs.Prelude.{Contains}
use Rattle.std.specs.Arc.{arc_value}
use Rattle.std.specs.declared.alloc.Global.{Global}
use Rattle.std.specs.declared.sync.Arc.{Arc}
use Rattle.std.proofs.lemmas.List.{map-append}
use Rattle.std.proofs.lemmas.Bool.{both_ways}
use Rattle.pj_change.specs.declared.change.Record.{Record}
use Rattle.pj_change.specs.ChannelLaws.{HaveOneGraph, HaveOnePrint}
use Rattle.pj_change.specs.Lawful.{is_held, Follows, IsLawful}
use Rattle.pj_change.specs.Sets.{HaveSameMembers, HaveOneText}
use Rattle.pj_change.specs.Uproot.{Reaches}
use Rattle.pj_change.proofs.EqualRecords.{have_one_record, one_text_within, lawful_one_text}
use Rattle.pj_change.proofs.LawfulLists.{append_cases, first_part, second_part}
use Rattle.pj_change.proofs.Members.{first_member, later_member}
use Rattle.pj_change.proofs.OneGraph.{one_graph}
use Rattle.pj_change.proofs.Without.{union_lawful, uprooted_lawful, without_one}
use Rattle.pj_change.specs.declared.operation.Operation.{Operation}
use Rattle.pj_change.specs.declared.operation.Operation.TheVariants.{Apply, Pull, Unrecord, Uproot}
use Rattle.pj_change.specs.Runs.{Becomes, Leaves, IsRun, PullLawful, brought_by, brought}
use Rattle.pj_change.specs.Shared.{records}
use Rattle.pj_change.specs.Unrecord.{MayLeave, without}
use Rattle.pj_change.proofs.AgreeingPrints.{one_print}
use Rattle.pj_change.proofs.LawfulChanges.{lawful_push, unrecorded_lawful, applied_may_leave, without_last, without_middle}
use Rattle.pj_change.proofs.RunLemmas.{run_push, leaves_within}

-- ---- one list is left

becomes_one : {cause : Type 0} {old new a b : List Record} → Becomes cause old new a → Becomes cause old new b → a ≡ b
becomes_one p q = elim p [
  | inl h ↦ elim q [ inl k ↦ h.1 ∙ sym k.1 | inr k ↦ absurd (k.0 h.0) ]
  | inr h ↦ elim q [ inl k ↦ absurd (h.0 k.0) | inr k ↦ h.1 ∙ sym k.1 ]
]

leaves_one : (list : List Record) (operation : Operation (List Record)) (a b : List Record) → Leaves list operation a → Leaves list operation b → a ≡ b
leaves_one list (Apply change) a b p q = becomes_one p q
leaves_one list (Pull other) a b p q = p ∙ sym q
leaves_one list (Unrecord name) a b p q = becomes_one p q
leaves_one list (Uproot name) a b p q = without_one (Reaches list name) list a b p q

pub run_one : (list : List Record) (operations : List (Operation (List Record))) (a b : List Record) → IsRun list operations a → IsRun list operations b → a ≡ b
run_one list [] a b p q = p ∙ sym q
run_one list (o ∷ operations) a b p q =
    let same : p.0 ≡ q.0 = leaves_one list o p.0 q.0 p.1 q.1 in
    run_one q.0 operations a b (subst (λ (l : List Record). IsRun l operations a) same p.2) q.2

-- ---- it is lawful

leaves_lawful : (list : List Record) (operation : Operation (List Record)) (after : List Record) →
    IsLawful list → PullLawful (operation ∷ []) → HaveOneText (list ++ brought_by operation) → Leaves list operation after → IsLawful after
leaves_lawful list (Apply change) after lawful pulled unique l = elim l [
  | inl k ↦ subst IsLawful (sym k.1) (lawful_push list (arc_value change) lawful k.0)
  | inr k ↦ subst IsLawful (sym k.1) lawful
]
leaves_lawful list (Pull other) after lawful pulled unique l =
    subst IsLawful (sym l) (union_lawful list other (have_one_record (list ++ other) unique) lawful (pulled other (first_member (Pull other) [])))
leaves_lawful list (Unrecord name) after lawful pulled unique l = elim l [
  | inl k ↦ subst IsLawful (sym k.1) (unrecorded_lawful list name lawful k.0)
  | inr k ↦ subst IsLawful (sym k.1) lawful
]
leaves_lawful list (Uproot name) after lawful pulled unique l = uprooted_lawful list name after lawful l

pub run_lawful : (list : List Record) (operations : List (Operation (List Record))) (after : List Record) →
    IsLawful list → PullLawful operations → HaveOneText (list ++ brought operations) → IsRun list operations after → IsLawful after
run_lawful list [] after lawful pulled unique run = subst IsLawful (sym run) lawful
run_lawful list (o ∷ operations) after lawful pulled unique run =
    run_lawful run.0 operations after
    (leaves_lawful list o run.0 lawful (λ other m. pulled other (first_part (o ∷ []) operations (Pull other) m)) (one_text_within _ _ unique front) run.1)
    (λ other m. pulled other (later_member o operations (Pull other) m)) (one_text_within _ _ unique next) run.2
  where
    front : (r : Record) → Contains (list ++ brought_by o) r → Contains (list ++ (brought_by o ++ brought operations)) r
    front r m = elim (append_cases list (brought_by o) r m) [
      | inl k ↦ first_part list (brought_by o ++ brought operations) r k
      | inr k ↦ second_part list (brought_by o ++ brought operations) r (first_part (brought_by o) (brought operations) r k)
    ]

    next : (r : Record) → Contains (run.0 ++ brought operations) r → Contains (list ++ (brought_by o ++ brought operations)) r
    next r m = elim (append_cases run.0 (brought operations) r m) [
      | inl k ↦ front r (leaves_within list o run.0 run.1 r k)
      | inr k ↦ second_part list (brought_by o ++ brought operations) r (second_part (brought_by o) (brought operations) r k)
    ]

-- ---- lists as runs

list_from : (front : List Record) (changes : List (Arc Record Global)) → IsLawful (front ++ records changes) → IsRun front (map Apply changes) (front ++ records changes)
list_from front [] lawful = append-nil front
list_from front (a ∷ changes) lawful =
    let next = front ++ arc_value a ∷ [] in
    let whole : next ++ records changes ≡ front ++ arc_value a ∷ records changes = append_assoc front (arc_value a ∷ []) (records changes) in (
      next,
      inl (lawful front (arc_value a) (records changes) refl, refl),
      subst (IsRun next (map Apply changes)) whole (list_from next changes (subst IsLawful (sym whole) lawful)),
    )

pub list_run : (changes : List (Arc Record Global)) → IsLawful (records changes) → IsRun [] (map Apply changes) (records changes)
list_run changes lawful = list_from [] changes lawful

-- runs of two lawful orders of a set leave lists with its members
left_same : (a b : List (Arc Record Global)) (S T : List Record) →
    IsLawful (records a) → IsLawful (records b) → HaveSameMembers (records a) (records b) → IsRun [] (map Apply a) S → IsRun [] (map Apply b) T → HaveSameMembers S T
left_same a b S T p q same s t =
    let left : S ≡ records a = run_one [] (map Apply a) S (records a) s (list_run a p) in
    let right : T ≡ records b = run_one [] (map Apply b) T (records b) t (list_run b q) in
    subst (λ (l : List Record). HaveSameMembers l T) (sym left) (subst (HaveSameMembers (records a)) (sym right) same)

pub orders_agree : (a b : List (Arc Record Global)) (S T : List Record) →
    IsLawful (records a) → IsLawful (records b) → HaveSameMembers (records a) (records b) → IsRun [] (map Apply a) S → IsRun [] (map Apply b) T →
    HaveOneGraph S T × HaveOnePrint S T
orders_agree a b S T p q same s t =
    let left : S ≡ records a = run_one [] (map Apply a) S (records a) s (list_run a p) in
    let unique : HaveOneText S = subst HaveOneText (sym left) (lawful_one_text (records a) p) in
    let members = left_same a b S T p q same s t in
    (λ g h x y. one_graph S T g h members x y, one_print S T unique members)

-- ---- no trace

module _ (list : List Record) (change : Arc Record Global) (lawful : IsLawful list) (fresh : is_held list (arc_value change).name ≡ false) where
  taken_out : (next after : List Record) → Leaves list (Apply change) next → Leaves next (Unrecord (arc_value change).name) after → after ≡ list
  taken_out next after a u = elim a [
    | inl k ↦ accepted k.0 (subst (λ (l : List Record). Leaves l (Unrecord (arc_value change).name) after) k.1 u)
    | inr k ↦ refused (subst (λ (l : List Record). Leaves l (Unrecord (arc_value change).name) after) k.1 u)
  ]
    where
      accepted : Follows list (arc_value change) → Leaves (list ++ arc_value change ∷ []) (Unrecord (arc_value change).name) after → after ≡ list
      accepted f v = elim v [
        | inl k ↦ k.1 ∙ without_last list (arc_value change) fresh
        | inr k ↦ absurd (k.0 (applied_may_leave list (arc_value change) lawful f))
      ]

      refused : Leaves list (Unrecord (arc_value change).name) after → after ≡ list
      refused v = elim v [ inl k ↦ absurd (both_ways (is_held list (arc_value change).name) fresh k.0.0) | inr k ↦ k.1 ]

  pub no_trace : (after : List Record) → IsRun list (Apply change ∷ Unrecord (arc_value change).name ∷ []) after → after ≡ list
  no_trace after run = run.2.2 ∙ taken_out run.0 run.2.0 run.1 run.2.1

module _ (before : List (Arc Record Global)) (change : Arc Record Global) (after : List (Arc Record Global)) where
  all_of : records (before ++ change ∷ after) ≡ records before ++ arc_value change ∷ records after
  all_of = map-append arc_value before (change ∷ after)

  others : records (before ++ after) ≡ records before ++ records after
  others = map-append arc_value before after

  pub as_never_applied : (left : List Record) → IsLawful (records (before ++ change ∷ after)) → MayLeave (records (before ++ change ∷ after)) (arc_value change).name →
      IsRun [] (map Apply (before ++ change ∷ after) ++ Unrecord (arc_value change).name ∷ []) left → IsRun [] (map Apply (before ++ after)) left
  as_never_applied left lawful may run =
      let whole = records (before ++ change ∷ after) in
      let name = (arc_value change).name in
      let unrecorded = run_push [] (map Apply (before ++ change ∷ after)) whole (Unrecord name) (without whole name) (list_run (before ++ change ∷ after) lawful) (inl (may, refl)) in
      let is : left ≡ without whole name = run_one [] _ left (without whole name) run unrecorded in
      let rest : without whole name ≡ records (before ++ after) =
      ap (λ l. without l name) all_of ∙ without_middle (records before) (arc_value change) (records after) (subst IsLawful all_of lawful) ∙ sym others in
      let lawful_rest : IsLawful (records (before ++ after)) = subst IsLawful rest (unrecorded_lawful whole name lawful may) in
      subst (IsRun [] (map Apply (before ++ after))) (sym (is ∙ rest)) (list_run (before ++ after) lawful_rest)

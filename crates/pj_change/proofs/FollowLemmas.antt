-- The needs of a change in a list of changes.
use Rattle.std.proofs.Common.{◌≡◌, true, false, List, [], ◌∷◌, refl, ◌∙◌, ap}
use Rattle.std.specs.Prelude.{map, None, ◌↔◌}
use Rattle.std.specs.List.{list_all, filter_map, cons_option}
use Rattle.std.proofs.lemmas.Bool.{and_parts}
use Rattle.pj_name.specs.declared.name.Name.{Name}
use Rattle.pj_change.specs.declared.change.Record.{Record}
use Rattle.pj_change.specs.Context.{holds, first_broken}
use Rattle.pj_change.specs.Lawful.{Follows, is_held, record_of, needs_of}
use Rattle.pj_change.proofs.LawfulLists.{found}
use Rattle.pj_change.proofs.FirstBroken.{none_fails, all_pass}

names_found : (list : List Record) (names : List Name) → list_all (is_held list) names ≡ true → map (λ r. r.name) (filter_map (record_of list) names) ≡ names
names_found list [] held = refl
names_found list (n ∷ names) held =
    let both = and_parts (is_held list n) (list_all (is_held list) names) held in
    let first = found list n both.0 in
    ap (λ o. map (λ (r : Record). r.name) (cons_option o (filter_map (record_of list) names))) first.is
    ∙ (λ i. first.record_is.named i ∷ names_found list names both.1 i)

-- a list that holds the needs of a change has their records
pub needs_found : (list : List Record) (c : Record) → list_all (is_held list) c.change.needs ≡ true → map (λ r. r.name) (needs_of list c) ≡ c.change.needs
needs_found list c held = names_found list c.change.needs held

-- a change follows a list exactly where no hunk is broken
pub unbroken : (list : List Record) (c : Record) → is_held list c.name ≡ false → list_all (is_held list) c.change.needs ≡ true → (first_broken c (needs_of list c) ≡ None) ↔ Follows list c
unbroken list c fresh held = (
  λ none. record { fresh = fresh; needs = held; context = all_pass (holds c (needs_of list c)) c.change.hunks none },
  λ follows. none_fails (holds c (needs_of list c)) c.change.hunks follows.context,
)

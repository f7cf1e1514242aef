-- The least need that is missing, by a search from the front.
use Rattle.std.proofs.Common.{◌≡◌, List, [], ◌∷◌, refl, sym, ◌∙◌, ap, Bool, true, false, not, find, Some, None}
use Rattle.std.specs.List.{list_all}
use Rattle.std.proofs.lemmas.Bool.{not-true}
use Rattle.pj_name.specs.declared.name.Name.{Name}
use Rattle.pj_change.specs.declared.change.Record.{Record}
use Rattle.pj_change.specs.Lawful.{is_held}
use Rattle.pj_change.specs.Least.{IsLeast}
use Rattle.pj_change.specs.Apply.{IsMissing}
use Rattle.pj_change.proofs.LeastNames.{IsPicked, find_least}

module _ (list : List Record) where
  abbrev lacked : Name → Bool
  lacked n = not (is_held list n)

  module _ (c : Record) where
    missing : (n : Name) → IsPicked lacked c.change.needs n → IsMissing list c n
    missing n p = (p.member, not-true (is_held list n) p.passes)

    picked : (n : Name) → IsMissing list c n → IsPicked lacked c.change.needs n
    picked n m = record { member = m.0; passes = ap not m.1 }

    pub least_missing : (name : Name) → find lacked c.change.needs ≡ Some name → IsLeast (IsMissing list c) name
    least_missing name e =
        let l = find_least lacked c.change.needs name c.change.keeps.needs_rise e in
        record { one = missing name l.one; none_below = λ n m. l.none_below n (picked n m) }

  found_later : (n : Name) (names : List Name) → (find lacked names ≡ None → list_all (is_held list) names ≡ true) → find lacked (n ∷ names) ≡ None →
      (b : Bool) → is_held list n ≡ b → list_all (is_held list) (n ∷ names) ≡ true
  found_later n names rest e true h = (let k : find lacked (n ∷ names) ≡ find lacked names = rw h refl in rw h (rest (sym k ∙ e)))
  found_later n names rest e false h = absurd (let k : find lacked (n ∷ names) ≡ Some n = rw h refl in cc)

  -- where the search finds none, all are held
  pub all_held : (names : List Name) → find lacked names ≡ None → list_all (is_held list) names ≡ true
  all_held [] e = refl
  all_held (n ∷ names) e = found_later n names (all_held names) e (is_held list n) refl

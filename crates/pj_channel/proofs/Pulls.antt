-- What a pull has taken of the other list, one change after the other, and how many steps that takes.
use Rattle.std.proofs.Common.{◌≡◌, ◌∙◌, ℕ, refl, sym, ap, subst, arith, true, false, List, [], ◌∷◌, ◌++◌, filter, append-nil, append_assoc}
use Rattle.std.proofs.lemmas.List.Elements.{filter-append}
use Rattle.std.specs.Prelude.{Bool, not, ◌+◌, ◌≤◌}
use Rattle.pj_change.specs.declared.change.Record.{Record}
use Rattle.pj_change.specs.Lawful.{is_held, Follows, IsLawful}
use Rattle.pj_change.specs.Sets.{HaveOneText}
use Rattle.pj_change.specs.Union.{union}
use Rattle.pj_change.proofs.EqualRecords.{have_one_record}
use Rattle.pj_change.proofs.Without.{union_lawful}
use Rattle.pj_apply.specs.StepBounds.{change_bound, append_bound, pull_bound}

-- ---- the steps of changes that are appended

-- those of one change more
append_push : (list more : List Record) (r : Record) → append_bound list (more ++ r ∷ []) ≡ append_bound list more + change_bound (list ++ more) r
append_push list [] r = let same = ap (λ (l : List Record). change_bound l r) (append-nil list) in omega (arith, same)
append_push list (x ∷ more) r =
    let rest = append_push (list ++ x ∷ []) more r in
    let same = ap (λ (l : List Record). change_bound l r) (append_assoc list (x ∷ []) more) in
    omega (arith, rest, same)

-- fewer changes take no more
append_less : (list more rest : List Record) → append_bound list more ≤ append_bound list (more ++ rest)
append_less list [] rest = omega arith
append_less list (x ∷ more) rest = let less = append_less (list ++ x ∷ []) more rest in omega (arith, less)

-- ---- a change that is pulled, or not

module _ (list before : List Record) (r : Record) where
  abbrev lacked : Record → Bool
  lacked c = not (is_held list c.name)

  picked_in : is_held list r.name ≡ false → (rest : List Record) → filter lacked (before ++ r ∷ rest) ≡ filter lacked before ++ r ∷ filter lacked rest
  picked_in new rest = filter-append lacked before (r ∷ rest) ∙ ap (λ (l : List Record). filter lacked before ++ l) one
    where
      one : filter lacked (r ∷ rest) ≡ r ∷ filter lacked rest
      one = rw new refl

  picked_out : is_held list r.name ≡ true → filter lacked (before ++ r ∷ []) ≡ filter lacked before
  picked_out old = filter-append lacked before (r ∷ []) ∙ ap (λ (l : List Record). filter lacked before ++ l) none ∙ append-nil (filter lacked before)
    where
      none : filter lacked (r ∷ []) ≡ []
      none = rw old refl

  -- a change that the list lacks stands behind what was pulled
  united : is_held list r.name ≡ false → (rest : List Record) → union list (before ++ r ∷ rest) ≡ union list before ++ r ∷ filter lacked rest
  united new rest = ap (λ (l : List Record). list ++ l) (picked_in new rest) ∙ sym (append_assoc list (filter lacked before) (r ∷ filter lacked rest))

  -- one that it has does not
  not_united : is_held list r.name ≡ true → union list (before ++ r ∷ []) ≡ union list before
  not_united old = ap (λ (l : List Record). list ++ l) (picked_out old)

  steps_more : is_held list r.name ≡ false → pull_bound list (before ++ r ∷ []) ≡ pull_bound list before + change_bound (union list before) r
  steps_more new = ap (append_bound list) (picked_in new []) ∙ append_push list (filter lacked before) r

  steps_same : is_held list r.name ≡ true → pull_bound list (before ++ r ∷ []) ≡ pull_bound list before
  steps_same old = ap (append_bound list) (picked_out old)

steps_less : (list before rest : List Record) → pull_bound list before ≤ pull_bound list (before ++ rest)
steps_less list before rest =
    subst (λ (l : List Record). pull_bound list before ≤ append_bound list l) (sym (filter-append (λ c. not (is_held list c.name)) before rest))
    (append_less list (filter (λ c. not (is_held list c.name)) before) (filter (λ c. not (is_held list c.name)) rest))

-- ---- the pull

-- both lists are united as far as the rest of the other one, and the steps are within the bound
pub record HasPulled (list other rest both : List Record) (old steps : ℕ) : Type 0 where
  pub before : List Record
  pub is : before ++ rest ≡ other
  pub same : both ≡ union list before
  pub cost : steps ≤ old + pull_bound list before

-- nothing yet
pub pulled_none : (list other both : List Record) (steps : ℕ) → both ≡ list → HasPulled list other other both steps steps
pulled_none list other both steps same = record { before = []; is = refl; same = same ∙ sym (append-nil list); cost = omega arith }

module _ (list other : List Record) (r : Record) (rest both : List Record) (old steps : ℕ) (p : HasPulled list other (r ∷ rest) both old steps) where
  grown : (p.before ++ r ∷ []) ++ rest ≡ other
  grown = append_assoc p.before (r ∷ []) rest ∙ p.is

  pub pulled_in : is_held list r.name ≡ false → (more : List Record) (now : ℕ) → more ≡ both ++ r ∷ [] → now ≤ steps + change_bound both r → HasPulled list other rest more old now
  pulled_in new more now is taken =
      let bound = steps_more list p.before r new in
      let kept = p.cost in
      let at = ap (λ (l : List Record). change_bound l r) p.same in
      record {
        before = p.before ++ r ∷ [];
        is = grown;
        same = is ∙ ap (λ (l : List Record). l ++ r ∷ []) p.same ∙ sym (united list p.before r new []);
        cost = omega (arith, bound, kept, at, taken);
      }

  pub pulled_out : is_held list r.name ≡ true → HasPulled list other rest both old steps
  pulled_out there =
      let bound = steps_same list p.before r there in
      let kept = p.cost in
      record { before = p.before ++ r ∷ []; is = grown; same = p.same ∙ sym (not_united list p.before r there); cost = omega (arith, bound, kept) }

  -- it follows what was pulled
  pub pulled_follows : HaveOneText (list ++ other) → IsLawful list → IsLawful other → is_held list r.name ≡ false → Follows both r
  pulled_follows unique a b new =
      let whole : union list other ≡ union list p.before ++ r ∷ filter (λ c. not (is_held list c.name)) rest = ap (union list) (sym p.is) ∙ united list p.before r new rest in
      subst (λ (l : List Record). Follows l r) (sym p.same)
      (union_lawful list other (have_one_record (list ++ other) unique) a b (union list p.before) r (filter (λ c. not (is_held list c.name)) rest) whole)

-- the steps so far are within the bound of the whole pull
pub pulled_within : (list other rest both : List Record) (old steps : ℕ) → HasPulled list other rest both old steps → steps ≤ old + pull_bound list other
pulled_within list other rest both old steps p =
    let less : pull_bound list p.before ≤ pull_bound list other = subst (λ (l : List Record). pull_bound list p.before ≤ pull_bound list l) p.is (steps_less list p.before rest) in
    let kept = p.cost in
    omega (arith, less, kept)

-- all of the other list
pub pulled_all : (list other both : List Record) (old steps : ℕ) → HasPulled list other [] both old steps → both ≡ union list other
pulled_all list other both old steps p = p.same ∙ ap (union list) (sym (append-nil p.before) ∙ p.is)

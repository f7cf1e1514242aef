-- An application of a change and an unrecord have an answer.
use Rattle.std.proofs.Common.{◌≡◌, ℕ, List, [], ◌∷◌, ◌++◌, refl, inl, inr, Bool, true, false, not, find}
use Rattle.std.specs.Prelude.{Contains, Option, Some, None, Result, Ok, Err, MatchOption}
use Rattle.std.specs.List.{reduce}
use Rattle.std.proofs.lemmas.Bool.{both_ways}
use Rattle.pj_name.specs.declared.name.Name.{Name}
use Rattle.pj_change.specs.declared.change.Record.{Record}
use Rattle.pj_change.specs.declared.refusals.Applied.{Applied}
use Rattle.pj_change.specs.declared.refusals.Applied.TheVariants.{New, Already}
use Rattle.pj_change.specs.declared.refusals.ApplyRefusal.{ApplyRefusal}
use Rattle.pj_change.specs.declared.refusals.ApplyRefusal.TheVariants as apply
use Rattle.pj_change.specs.declared.refusals.UnrecordRefusal.{UnrecordRefusal}
use Rattle.pj_change.specs.declared.refusals.UnrecordRefusal.TheVariants as unrecord
use Rattle.pj_change.specs.Apply.{IsApplyAnswer}
use Rattle.pj_change.specs.Context.{first_broken}
use Rattle.pj_change.specs.Lawful.{is_held, needs_of}
use Rattle.pj_change.specs.Least.{IsLeast}
use Rattle.pj_change.specs.Unrecord.{IsHolder, IsUnrecordAnswer, without}
use Rattle.pj_change.proofs.ApplyAnswers.{lacks_need, breaks_context, is_new, may_follow}
use Rattle.pj_change.proofs.Causes.{excluded}
use Rattle.pj_change.proofs.Decided.{Known}
use Rattle.pj_change.proofs.LeastNames.{lesser, reduce_least}
use Rattle.pj_change.proofs.MissingNeeds.{least_missing, all_held}
use Rattle.pj_change.proofs.UnrecordAnswers.{is_held_by, is_out}
use Rattle.pj_answers.proofs.Finite as finite
use Rattle.pj_answers.proofs.Uproots.{known_among}

-- ---- applications

-- a change that is there is answered so
is_already : (list : List Record) (c : Record) → is_held list c.name ≡ true → IsApplyAnswer list c (Ok Already)
is_already list c e = record {
  already = record { only = λ h. e; always = λ h. inl refl };
  needs = λ name. excluded _ _ _ (λ h. cc) (λ k. both_ways (is_held list c.name) k.0 e);
  context = λ k. excluded _ _ _ (λ h. cc) (λ b. both_ways (is_held list c.name) b.0 e);
  new = λ after. excluded _ _ _ (λ h. cc) (λ n. both_ways (is_held list c.name) n.0.fresh e);
}

-- an answer to an application
abbrev pub IsApplied : List Record → Record → Type 0
IsApplied list c = (result : Result (Applied (List Record)) ApplyRefusal) × IsApplyAnswer list c result × (result ≡ Err apply.Memory → ⊥)

-- an application has an answer that is not out of memory
pub apply_answered : (list : List Record) (c : Record) → IsApplied list c
apply_answered list c = by (is_held list c.name) refl
  where
    whole : is_held list c.name ≡ false → find (λ n. not (is_held list n)) c.change.needs ≡ None → (broken : Option ℕ) → first_broken c
        (needs_of list c) ≡ broken → IsApplied list c
    whole e f None g = (Ok (New (list ++ c ∷ [])), is_new list c (may_follow list c e f g), λ h. cc)
    whole e f (Some k) g = (Err (apply.Context k), breaks_context list c k (e, all_held list c.change.needs f, g), λ h. cc)

    fresh : is_held list c.name ≡ false → (missing : Option Name) → find (λ n. not (is_held list n)) c.change.needs ≡ missing → IsApplied list c
    fresh e None f = whole e f (first_broken c (needs_of list c)) refl
    fresh e (Some name) f = (Err (apply.Needs name), lacks_need list c name (e, least_missing list c name f), λ h. cc)

    by : (b : Bool) → is_held list c.name ≡ b → IsApplied list c
    by true e = (Ok Already, is_already list c e, λ h. cc)
    by false e = fresh e (find (λ n. not (is_held list n)) c.change.needs) refl

-- ---- unrecords

-- the changes that need one, by their names
holders : (list : List Record) (name : Name) → finite.Finite (IsHolder list name)
holders list name =
    finite.alike (λ holder. (r : Record) × Contains list r × (Contains r.change.needs name × (r.name ≡ holder))) (IsHolder list name)
    (λ holder (r, m, h). record { needing = r; member = m; needs = h.0; named = h.1 })
    (λ holder h. (h.needing, h.member, (h.needs, h.named)))
    (finite.some _ list (λ r m. by r (known_among r.change.needs name)))
  where
    by : (r : Record) → Known (Contains r.change.needs name) → finite.Finite {X = Name} (λ holder. Contains r.change.needs name × (r.name ≡ holder))
    by r (inl k) = finite.one _ r.name (k, refl) (λ holder h. h.1)
    by r (inr n) = finite.none _ (λ holder h. n h.0)

-- the answer where the change is not there
unrecord_absent : (list : List Record) (name : Name) → is_held list name ≡ false → IsUnrecordAnswer list name (Err unrecord.Absent)
unrecord_absent list name e = record {
  absent = record { only = λ h. e; always = λ h. inl refl };
  held = λ holder. excluded _ _ _ (λ h. cc) (λ k. both_ways (is_held list name) e k.0);
  out = λ after. excluded _ _ _ (λ h. cc) (λ k. both_ways (is_held list name) e k.0.0);
}

-- an answer to an unrecord
abbrev pub IsUnrecorded : List Record → Name → Type 0
IsUnrecorded list name = (result : Result (List Record) UnrecordRefusal) × IsUnrecordAnswer list name result × (result ≡ Err unrecord.Memory → ⊥)

-- an unrecord has an answer that is not out of memory
pub unrecord_answered : (list : List Record) (name : Name) → IsUnrecorded list name
unrecord_answered list name = by (is_held list name) refl
  where
    there : is_held list name ≡ true → (found : Option Name) → MatchOption found ((n : Name) → IsHolder list name n → ⊥)
        (IsLeast (IsHolder list name)) → IsUnrecorded list name
    there e None none = (Ok (without list name), is_out list name (e, none), λ h. cc)
    there e (Some holder) l = (Err (unrecord.Held holder), is_held_by list name holder (e, l), λ h. cc)

    by : (b : Bool) → is_held list name ≡ b → IsUnrecorded list name
    by false e = (Err unrecord.Absent, unrecord_absent list name e, λ h. cc)
    by true e =
        let all = holders list name in
        there e (reduce lesser all.list) (reduce_least all.list (IsHolder list name) (reduce lesser all.list) refl (λ n. (all.only n, all.all n)))

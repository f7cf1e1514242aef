-- The answers to an application, each from its cause.
use Rattle.std.proofs.Common.{◌≡◌, ℕ, List, [], ◌∷◌, ◌++◌, sym, ◌∙◌, ap, subst, inl, true, false, not, find, Some, None, Ok, Err}
use Rattle.std.specs.List.{list_all}
use Rattle.std.proofs.lemmas.Bool.{both_ways}
use Rattle.pj_name.specs.declared.name.Name.{Name}
use Rattle.pj_change.specs.declared.change.Record.{Record}
use Rattle.pj_change.specs.declared.refusals.Applied.TheVariants.{New}
use Rattle.pj_change.specs.declared.refusals.ApplyRefusal.TheVariants.{Needs, Context}
use Rattle.pj_change.specs.Context.{first_broken}
use Rattle.pj_change.specs.Lawful.{is_held, needs_of, Follows}
use Rattle.pj_change.proofs.Members.{all_member}
use Rattle.pj_change.proofs.FollowLemmas.{unbroken}
use Rattle.pj_change.specs.Apply.{IsMissing, LacksNeed, BreaksContext, IsApplyAnswer}
use Rattle.pj_change.proofs.Causes.{excluded}
use Rattle.pj_change.proofs.LeastNames.{only_least}
use Rattle.pj_change.proofs.MissingNeeds.{all_held}

module _ (list : List Record) (c : Record) where
  none_missing : list_all (is_held list) c.change.needs ≡ true → (name : Name) → IsMissing list c name → ⊥
  none_missing e name m = both_ways (is_held list name) m.1 (all_member (is_held list) c.change.needs name e m.0)

  unbroken_none : Follows list c → first_broken c (needs_of list c) ≡ None
  unbroken_none f = (unbroken list c f.fresh f.needs).1 f

  broken_stays : (k : ℕ) → first_broken c (needs_of list c) ≡ Some k → Follows list c → ⊥
  broken_stays k e f = let n = unbroken_none f in cc

  -- a change that is new, whose needs are all found, and none of whose contexts is broken
  pub may_follow : is_held list c.name ≡ false → find (λ n. not (is_held list n)) c.change.needs ≡ None → first_broken c (needs_of list c) ≡ None → Follows list c
  may_follow new found whole = (unbroken list c new (all_held list c.change.needs found)).0 whole

  pub lacks_need : (name : Name) → LacksNeed list c name → IsApplyAnswer list c (Err (Needs name))
  lacks_need name l = record {
    already = excluded _ _ _ (λ e. cc) (λ k. both_ways (is_held list c.name) l.0 k);
    needs = λ other. record {
      only = λ e. let same : name ≡ other = cc in subst (LacksNeed list c) same l;
      always = λ k. inl (ap (λ n. Err (Needs n)) (only_least (IsMissing list c) name other l.1 k.1));
    };
    context = λ k. excluded _ _ _ (λ e. cc) (λ j. none_missing j.1 name l.1.one);
    new = λ after. excluded _ _ _ (λ e. cc) (λ k. none_missing k.0.needs name l.1.one);
  }

  pub breaks_context : (k : ℕ) → BreaksContext list c k → IsApplyAnswer list c (Err (Context k))
  breaks_context k b = record {
    already = excluded _ _ _ (λ e. cc) (λ h. both_ways (is_held list c.name) b.0 h);
    needs = λ name. excluded _ _ _ (λ e. cc) (λ l. none_missing b.1 name l.1.one);
    context = λ j. record {
      only = λ e. let same : k ≡ j = cc in subst (BreaksContext list c) same b;
      always = λ o. inl (let s : Some k ≡ Some j = sym b.2 ∙ o.2 in let same : k ≡ j = cc in ap (λ n. Err (Context n)) same);
    };
    new = λ after. excluded _ _ _ (λ e. cc) (λ n. broken_stays k b.2 n.0);
  }

  pub is_new : Follows list c → IsApplyAnswer list c (Ok (New (list ++ c ∷ [])))
  is_new f = record {
    already = excluded _ _ _ (λ e. cc) (λ k. both_ways (is_held list c.name) f.fresh k);
    needs = λ name. excluded _ _ _ (λ e. cc) (λ l. none_missing f.needs name l.1.one);
    context = λ k. excluded _ _ _ (λ e. cc) (λ b. broken_stays k b.2 f);
    new = λ after. record {
      only = λ e. (f, (let same : list ++ c ∷ [] ≡ after = cc in sym same));
      always = λ n. inl (ap (λ l. Ok (New l)) (sym n.1));
    };
  }

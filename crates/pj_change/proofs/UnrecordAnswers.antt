-- The answers to an unrecord and to an uproot, each from its cause.
use Rattle.std.proofs.Common.{◌≡◌, List, sym, ap, subst, inl, true, Ok, Err}
use Rattle.std.proofs.lemmas.Bool.{both_ways}
use Rattle.pj_name.specs.declared.name.Name.{Name}
use Rattle.pj_change.specs.declared.change.Record.{Record}
use Rattle.pj_change.specs.declared.refusals.UnrecordRefusal.TheVariants as unrecord
use Rattle.pj_change.specs.declared.refusals.UprootRefusal.TheVariants as uproot
use Rattle.pj_change.specs.Lawful.{is_held}
use Rattle.pj_change.specs.Uproot.{IsUprooted, Reaches}
use Rattle.pj_change.proofs.Without.{without_one}
use Rattle.pj_change.specs.Unrecord.{IsHolder, IsHeldBy, MayLeave, without, IsUnrecordAnswer}
use Rattle.pj_change.specs.Uprooting.{IsUprootAnswer}
use Rattle.pj_change.proofs.Causes.{excluded}
use Rattle.pj_change.proofs.LeastNames.{only_least}

module _ (list : List Record) (name : Name) where
  pub is_held_by : (holder : Name) → IsHeldBy list name holder → IsUnrecordAnswer list name (Err (unrecord.Held holder))
  is_held_by holder h = record {
    absent = excluded _ _ _ (λ e. cc) (λ k. both_ways (is_held list name) k h.0);
    held = λ other. record {
      only = λ e. let same : holder ≡ other = cc in subst (IsHeldBy list name) same h;
      always = λ k. inl (ap (λ n. Err (unrecord.Held n)) (only_least (IsHolder list name) holder other h.1 k.1));
    };
    out = λ after. excluded _ _ _ (λ e. cc) (λ k. k.0.1 holder h.1.one);
  }

  pub is_out : MayLeave list name → IsUnrecordAnswer list name (Ok (without list name))
  is_out m = record {
    absent = excluded _ _ _ (λ e. cc) (λ k. both_ways (is_held list name) k m.0);
    held = λ holder. excluded _ _ _ (λ e. cc) (λ k. m.1 holder k.1.one);
    out = λ after. record {
      only = λ e. (m, (let same : without list name ≡ after = cc in sym same));
      always = λ k. inl (ap Ok (sym k.1));
    };
  }

  pub uproot_is_out : (left : List Record) → is_held list name ≡ true → IsUprooted list name left → IsUprootAnswer list name (Ok left)
  uproot_is_out left there u = record {
    absent = excluded _ _ _ (λ e. cc) (λ k. both_ways (is_held list name) k there);
    out = λ after. record {
      only = λ e. (there, (let same : left ≡ after = cc in subst (IsUprooted list name) same u));
      always = λ k. inl (ap Ok (without_one (Reaches list name) list left after u k.1));
    };
  }

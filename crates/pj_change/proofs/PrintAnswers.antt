-- The answers to a print, each from its cause.
use Rattle.std.proofs.Common.{◌≡◌, ℕ, List, ap, subst, inl, Some, None, Ok, Err}
use Rattle.pj_change.specs.declared.point.Point.{Point}
use Rattle.pj_change.specs.declared.change.Record.{Record}
use Rattle.pj_change.specs.declared.refusals.PrintRefusal.TheVariants.{Wide, Memory}
use Rattle.pj_change.specs.FirstWide.{IsFirstWide}
use Rattle.pj_change.specs.Lawful.{IsLawful}
use Rattle.pj_change.specs.Print.{IsPrint}
use Rattle.pj_change.proofs.LawfulLists.{one_record}
use Rattle.pj_change.proofs.OnePrint.{print_one, first_wide_one}
use Rattle.pj_change.proofs.OneText.{HaveOneChange}
use Rattle.pj_change.specs.Printing.{IsPrintAnswer}
use Rattle.pj_change.proofs.Causes.{excluded, forgiven}

module _ (list : List Record) (limit : ℕ) where
  pub out_of_memory : IsPrintAnswer list limit (Err Memory)
  out_of_memory = record {
    wide = λ inode. forgiven _ _ (λ e. cc);
    print = λ bytes. forgiven _ _ (λ e. cc);
  }

  module _ (lawful : IsLawful list) where
    one_change : HaveOneChange list
    one_change r s m n e = ap (λ (x : Record). x.change) (one_record list lawful r s m n e)

    only_wide : (p q : Point) → IsFirstWide list limit (Some p) → IsFirstWide list limit (Some q) → p ≡ q
    only_wide p q f g = let e = first_wide_one list one_change limit (Some p) (Some q) f g in cc

    wide_or_none : (p : Point) → IsFirstWide list limit (Some p) → IsFirstWide list limit None → ⊥
    wide_or_none p f g = let e = first_wide_one list one_change limit (Some p) None f g in cc

    pub has_wide : (inode : Point) → IsFirstWide list limit (Some inode) → IsPrintAnswer list limit (Err (Wide inode))
    has_wide inode w = record {
      wide = λ other. record {
        only = λ e. let same : inode ≡ other = cc in subst (λ p. IsFirstWide list limit (Some p)) same w;
        always = λ k. inl (ap (λ p. Err (Wide p)) (only_wide inode other w k));
      };
      print = λ bytes. excluded _ _ _ (λ e. cc) (λ k. wide_or_none inode w k.0);
    }

    pub has_print : (bytes : List ℕ) → IsFirstWide list limit None → IsPrint list bytes → IsPrintAnswer list limit (Ok bytes)
    has_print bytes none is = record {
      wide = λ inode. excluded _ _ _ (λ e. cc) (λ k. wide_or_none inode k none);
      print = λ other. record {
        only = λ e. (none, (let same : bytes ≡ other = cc in subst (IsPrint list) same is));
        always = λ k. inl (ap Ok (print_one list one_change bytes other is k.1));
      };
    }

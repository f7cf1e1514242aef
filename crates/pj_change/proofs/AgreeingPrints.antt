-- Lists with the same members have one answer to a print.
use Rattle.std.proofs.Common.{◌≡◌, ℕ, List, refl, ap, inl, inr, Ok, Err}
use Rattle.std.specs.Prelude.{Option, Some, None, Result}
use Rattle.std.proofs.lemmas.Option.{same_Some, none-some}
use Rattle.pj_change.specs.declared.point.Point.{Point}
use Rattle.pj_change.specs.declared.change.Record.{Record}
use Rattle.pj_change.specs.declared.refusals.PrintRefusal.{PrintRefusal}
use Rattle.pj_change.specs.declared.refusals.PrintRefusal.TheVariants.{Wide, Memory}
use Rattle.pj_change.specs.ChannelLaws.{HaveOnePrint}
use Rattle.pj_change.specs.FirstWide.{IsFirstWide}
use Rattle.pj_change.specs.Print.{IsPrint}
use Rattle.pj_change.specs.Printing.{IsPrintAnswer}
use Rattle.pj_change.specs.Sets.{HaveSameMembers, HaveOneText}
use Rattle.pj_change.proofs.Causes.{alike}
use Rattle.pj_change.proofs.EqualRecords.{have_one_change}
use Rattle.pj_change.proofs.OnePrint.{print_one, first_wide_one}
use Rattle.pj_change.proofs.SamePrints.{print-same, first_wide-same}
use Rattle.pj_change.proofs.SameSets.{back_again}

-- ---- the answers of one list are those of the other

module _ (S T : List Record) (same : HaveSameMembers S T) where
  wide_shared : (limit : ℕ) (inode : Point) → IsFirstWide S limit (Some inode) → IsFirstWide T limit (Some inode)
  wide_shared limit inode w = first_wide-same S T same limit (Some inode) w

  whole_shared : (limit : ℕ) (bytes : List ℕ) → IsFirstWide S limit None × IsPrint S bytes → IsFirstWide T limit None × IsPrint T bytes
  whole_shared limit bytes h = (first_wide-same S T same limit None h.0, print-same S T same bytes h.1)

pub answer_shared : (S T : List Record) → HaveSameMembers S T → (limit : ℕ) (x : Result (List ℕ) PrintRefusal) → IsPrintAnswer S limit x → IsPrintAnswer T limit x
answer_shared S T same limit x a =
    let back = back_again S T same in
    record {
      wide = λ inode. alike (a.wide inode) (wide_shared S T same limit inode) (wide_shared T S back limit inode);
      print = λ bytes. alike (a.print bytes) (whole_shared S T same limit bytes) (whole_shared T S back limit bytes);
    }

-- ---- there is one answer

module _ (S T : List Record) (unique : HaveOneText S) (same : HaveSameMembers S T) where
  prints_are_one : (a b : List ℕ) → IsPrint S a → IsPrint T b → a ≡ b
  prints_are_one a b f g = print_one S (have_one_change S unique) a b f (print-same T S (back_again S T same) b g)

  first_wides_are_one : (limit : ℕ) (p q : Option Point) → IsFirstWide S limit p → IsFirstWide T limit q → p ≡ q
  first_wides_are_one limit p q f g =
      first_wide_one S (have_one_change S unique) limit p q f (first_wide-same T S (back_again S T same) limit q g)

  pub one_print : HaveOnePrint S T
  one_print limit (Err Memory) y p q = inl refl
  one_print limit (Ok a) (Err Memory) p q = inr (inl refl)
  one_print limit (Err (Wide i)) (Err Memory) p q = inr (inl refl)
  one_print limit (Ok a) (Ok b) p q = inr (inr (ap Ok (prints_are_one a b ((p.print a).only refl).1 ((q.print b).only refl).1)))
  one_print limit (Ok a) (Err (Wide j)) p q = absurd (none-some j (first_wides_are_one limit None (Some j) ((p.print a).only refl).0 ((q.wide j).only refl)))
  one_print limit (Err (Wide i)) (Ok b) p q = absurd (let e = first_wides_are_one limit (Some i) None ((p.wide i).only refl) ((q.print b).only refl).0 in cc)
  one_print limit (Err (Wide i)) (Err (Wide j)) p q =
      inr (inr (ap (λ k. Err (Wide k)) (same_Some i j (first_wides_are_one limit (Some i) (Some j) ((p.wide i).only refl) ((q.wide j).only refl)))))

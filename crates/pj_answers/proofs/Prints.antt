-- A print of a lawful list has an answer.
use Rattle.std.proofs.Common.{◌≡◌, ℕ, ◌<◌, List, [], ◌∷◌, ◌++◌, length, refl, subst, inl, inr}
use Rattle.std.specs.Prelude.{Option, Some, None, Result, Ok, Err, codes, decimal, if◌then◌else◌}
use Rattle.pj_change.specs.declared.point.Point.{Point}
use Rattle.pj_change.specs.declared.print.Step.{Step}
use Rattle.pj_change.specs.declared.print.StepKind.{StepKind}
use Rattle.pj_change.specs.declared.print.StepKind.TheVariants as step_kind
use Rattle.pj_change.specs.declared.change.Record.{Record}
use Rattle.pj_change.specs.declared.refusals.PrintRefusal.{PrintRefusal}
use Rattle.pj_change.specs.declared.refusals.PrintRefusal.TheVariants.{Wide, Memory}
use Rattle.pj_change.specs.FileText.{IsLiveIn}
use Rattle.pj_change.specs.FirstWide.{IsWide, IsFirstWideOf, IsFirstWide}
use Rattle.pj_change.specs.Graph.{vertex_cmp}
use Rattle.pj_change.specs.Lawful.{IsLawful}
use Rattle.pj_change.specs.Print.{IsEntryBy, AreEntries, IsPrint, word_text}
use Rattle.pj_change.specs.Printing.{IsPrintAnswer}
use Rattle.pj_change.specs.Text.{line}
use Rattle.pj_change.proofs.Decided.{Known, known_as, known_both, known_less}
use Rattle.pj_change.proofs.Listings.{one_list}
use Rattle.pj_change.proofs.Orders.{vertex_total}
use Rattle.pj_change.proofs.PrintAnswers.{has_wide, has_print}
use Rattle.pj_answers.proofs.FileTexts.{text_there}
use Rattle.pj_answers.proofs.LiveTexts.{live_list}
use Rattle.pj_answers.proofs.Walks.{walk_there}

-- whether an entry is that of a file
known_file : (k : StepKind) → Known (k ≡ step_kind.File)
known_file step_kind.File = inl refl
known_file step_kind.Dir = inr (λ e. cc)
known_file step_kind.Same = inr (λ e. cc)

module _ (S : List Record) (lawful : IsLawful S) where
  -- ---- the first wide file

  -- whether a file is wide
  known_wide : (limit : ℕ) (s : Step) → Known (IsWide S limit s)
  known_wide limit s =
      let live = live_list S s.inode lawful in
      known_as (λ h. record { file = h.0; live = live.0; live_are = live.1; more = h.1 })
      (λ w. (
        w.file,
        (
            let same = one_list vertex_cmp vertex_total (IsLiveIn S s.inode) (IsLiveIn S s.inode) (λ v h. h) (λ v h. h) w.live live.0 w.live_are live.1 in
            subst (λ l. limit < length l) same w.more),
      ))
      (known_both (known_file s.kind) (known_less limit (length live.0)))

  -- the entries have a first wide file, or none
  first_of : (limit : ℕ) (steps : List Step) → (found : Option Point) × IsFirstWideOf S limit steps found
  first_of limit [] = (None, refl)
  first_of limit (s ∷ steps) = by (known_wide limit s) (first_of limit steps)
    where
      by : Known (IsWide S limit s) → (found : Option Point) × IsFirstWideOf S limit steps found → (found : Option Point) × IsFirstWideOf S limit
          (s ∷ steps) found
      by (inl w) rest = (Some s.inode, inl (w, refl))
      by (inr n) rest = (rest.0, inr (n, rest.1))

  -- ---- the entries

  -- an entry has its bytes
  entry : (s : Step) (k : StepKind) → (bytes : List ℕ) × IsEntryBy S s bytes k
  entry s step_kind.Dir = (line (codes "dir" ∷ word_text s.word ∷ s.path ∷ []), refl)
  entry s step_kind.Same = (line (codes "same" ∷ word_text s.word ∷ s.path ∷ []), refl)
  entry s step_kind.File =
      let text = text_there S lawful s.inode in (
        line ((if s.exec then codes "exec" else codes "file") ∷ word_text s.word ∷ decimal (length text.0) ∷ s.path ∷ []) ++ text.0 ++ 10 ∷ [],
        (text.0, text.1, refl),
      )

  -- so have all of them
  entries : (steps : List Step) → (bytes : List ℕ) × AreEntries S steps bytes
  entries [] = ([], refl)
  entries (s ∷ steps) = (let first = entry s s.kind in let rest = entries steps in (first.0 ++ rest.0, (first.0, rest.0, refl, first.1, rest.1)))

-- ---- prints and their answers

-- a lawful list has a print
pub print_there : (S : List Record) → IsLawful S → (bytes : List ℕ) × IsPrint S bytes
print_there S lawful =
    let w = walk_there S lawful in
    let bytes = entries S lawful w.0 in
    (bytes.0, record { walk = w.0; is_walk = w.1; entries = bytes.1 })

-- and a first wide file, or none
pub first_wide_there : (S : List Record) → IsLawful S → (limit : ℕ) → (found : Option Point) × IsFirstWide S limit found
first_wide_there S lawful limit =
    let w = walk_there S lawful in
    let first = first_of S lawful limit w.0 in
    (first.0, record { walk = w.0; is_walk = w.1; first = first.1 })

-- an answer to a print
abbrev IsPrinted : List Record → ℕ → Type 0
IsPrinted S limit = (result : Result (List ℕ) PrintRefusal) × IsPrintAnswer S limit result × (result ≡ Err Memory → ⊥)

-- a print has an answer that is not out of memory
pub print_answered : (S : List Record) → IsLawful S → (limit : ℕ) → IsPrinted S limit
print_answered S lawful limit = (let wide = first_wide_there S lawful limit in by wide.0 wide.1)
  where
    by : (found : Option Point) → IsFirstWide S limit found → IsPrinted S limit
    by (Some inode) is = (Err (Wide inode), has_wide S limit lawful inode is, λ e. cc)
    by None is = (let bytes = print_there S lawful in (Ok bytes.0, has_print S limit lawful bytes.0 is bytes.1, λ e. cc))

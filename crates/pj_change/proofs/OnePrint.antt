-- A set has at most one print, and at most one first wide file.
use Rattle.std.proofs.Common.{◌≡◌, ℕ, List, [], ◌∷◌, ◌++◌, length, sym, ◌∙◌, ap, subst, inl, inr}
use Rattle.std.specs.Prelude.{Option, codes, decimal, if◌then◌else◌}
use Rattle.pj_change.specs.declared.point.Point.{Point}
use Rattle.pj_change.specs.declared.print.Step.{Step}
use Rattle.pj_change.specs.declared.print.StepKind.{StepKind}
use Rattle.pj_change.specs.declared.print.StepKind.TheVariants as step_kind
use Rattle.pj_change.specs.declared.change.Record.{Record}
use Rattle.pj_change.specs.Text.{line}
use Rattle.pj_change.specs.Print.{word_text, IsEntryBy, AreEntries, IsPrint}
use Rattle.pj_change.specs.FirstWide.{IsFirstWideOf, IsFirstWide}
use Rattle.pj_change.proofs.OneText.{HaveOneChange, text_one}
use Rattle.pj_change.proofs.OneWalk.{walk_one}

module _ (S : List Record) (unique : HaveOneChange S) where
  entry_one : (s : Step) (a b : List ℕ) (k : StepKind) → IsEntryBy S s a k → IsEntryBy S s b k → a ≡ b
  entry_one s a b step_kind.Dir f g = f ∙ sym g
  entry_one s a b step_kind.Same f g = f ∙ sym g
  entry_one s a b step_kind.File f g =
      let e : f.0 ≡ g.0 = text_one S unique s.inode f.0 g.0 f.1 g.1 in
      f.2
      ∙ ap (λ text. line ((if s.exec then codes "exec" else codes "file") ∷ word_text s.word ∷ decimal (length text) ∷ s.path ∷ []) ++ text ++ 10 ∷ []) e
      ∙ sym g.2

  entries_one : (steps : List Step) (a b : List ℕ) → AreEntries S steps a → AreEntries S steps b → a ≡ b
  entries_one [] a b f g = f ∙ sym g
  entries_one (s ∷ steps) a b f g =
      let e = entry_one s f.0 g.0 s.kind f.3 g.3 in
      let r = entries_one steps f.1 g.1 f.4 g.4 in
      f.2 ∙ (λ i. e i ++ r i) ∙ sym g.2

  pub print_one : (a b : List ℕ) → IsPrint S a → IsPrint S b → a ≡ b
  print_one a b f g =
      let w : f.walk ≡ g.walk = walk_one S unique f.walk g.walk f.is_walk g.is_walk in
      entries_one f.walk a b f.entries (subst (λ steps. AreEntries S steps b) (sym w) g.entries)

  first_one : (limit : ℕ) (steps : List Step) (p q : Option Point) → IsFirstWideOf S limit steps p → IsFirstWideOf S limit steps q → p ≡ q
  first_one limit [] p q f g = f ∙ sym g
  first_one limit (s ∷ steps) p q f g = elim f [
    | inl h ↦ elim g [ inl k ↦ h.1 ∙ sym k.1 | inr k ↦ absurd (k.0 h.0) ]
    | inr h ↦ elim g [ inl k ↦ absurd (h.0 k.0) | inr k ↦ first_one limit steps p q h.1 k.1 ]
  ]

  pub first_wide_one : (limit : ℕ) (p q : Option Point) → IsFirstWide S limit p → IsFirstWide S limit q → p ≡ q
  first_wide_one limit p q f g =
      let w : f.walk ≡ g.walk = walk_one S unique f.walk g.walk f.is_walk g.is_walk in
      first_one limit f.walk p q f.first (subst (λ steps. IsFirstWideOf S limit steps q) (sym w) g.first)

-- The entries of a walk in turn: their bytes, and the first that is wide.
use Rattle.std.proofs.Common.{◌≡◌, ℕ, ◌+◌, ◌<◌, ◌≤◌, List, [], ◌∷◌, ◌++◌, length, drop, get_or, refl, sym, ◌∙◌, ap, subst, inl, inr, append_assoc, append-nil, Some, None}
use Rattle.std.specs.Prelude.{◌↔◌, IsTrue, Option, nat_lt}
use Rattle.std.proofs.lemmas.Bool.Decides.{Decides-ltb}
use Rattle.std.proofs.lemmas.List.{drop_more, at_drop_all}
use Rattle.pj_change.specs.declared.point.Point.{Point}
use Rattle.pj_change.specs.declared.graph.Vertex.{Vertex}
use Rattle.pj_change.specs.declared.print.Step.{Step}
use Rattle.pj_change.specs.declared.print.StepKind.TheVariants as step_kind
use Rattle.pj_change.specs.declared.change.Record.{Record}
use Rattle.pj_change.specs.FileText.{IsLiveIn, IsLiveList, IsFileText}
use Rattle.pj_change.specs.FirstWide.{IsWide, IsFirstWideOf}
use Rattle.pj_change.specs.Graph.{vertex_cmp}
use Rattle.pj_change.specs.Print.{AreEntries}
use Rattle.pj_change.proofs.Listings.{one_list}
use Rattle.pj_change.proofs.Orders.{vertex_total}
use Rattle.pj_print.specs.Entries.{entry_text}
use Rattle.pj_print.proofs.EntryTexts.{is_entry}

-- what is left of a list where a loop is at one of its things
left_at : {X : Type 0} (xs : List X) (i : ℕ) (x : X) → i < length xs → x ≡ get_or xs i x → drop i xs ≡ x ∷ drop (i + 1) xs
left_at xs i x low is = drop_more xs i x low ∙ ap (λ y. y ∷ drop (i + 1) xs) (sym is)

-- ---- wide files

module _ (S : List Record) (limit : ℕ) where
  -- the live text that the test counts is the only list of it
  pub wide_by_count : (s : Step) (live : List Vertex) → s.kind ≡ step_kind.File → IsLiveList S s.inode live → IsTrue (nat_lt limit (length live)) ↔ IsWide S limit s
  wide_by_count s live file is = (
    λ t. record { file = file; live = live; live_are = is; more = (Decides-ltb limit (length live)).0 t },
    λ w. (let same : w.live ≡ live = one_list vertex_cmp vertex_total (IsLiveIn S s.inode) (IsLiveIn S s.inode) (λ v h. h) (λ v h. h) w.live live w.live_are is in
        (Decides-ltb limit (length live)).1 (subst (λ l. limit < length l) same w.more)),
  )

  module _ (steps : List Step) where
    -- what is the first wide file from a number on is that of all
    abbrev pub IsFirstFrom : ℕ → Type 0
    IsFirstFrom i = (found : Option Point) → IsFirstWideOf S limit (drop i steps) found → IsFirstWideOf S limit steps found

    pub wide_here : (i : ℕ) (s : Step) → i < length steps → s ≡ get_or steps i s → IsFirstFrom i → IsWide S limit s → IsFirstWideOf S limit steps (Some s.inode)
    wide_here i s low is from w =
        from (Some s.inode) (subst (λ rest. IsFirstWideOf S limit rest (Some s.inode)) (sym (left_at steps i s low is)) (inl (w, refl)))

    pub wide_later : (i : ℕ) (s : Step) → i < length steps → s ≡ get_or steps i s → IsFirstFrom i → (IsWide S limit s → ⊥) → IsFirstFrom (i + 1)
    wide_later i s low is from not found h =
        from found (subst (λ rest. IsFirstWideOf S limit rest found) (sym (left_at steps i s low is)) (inr (not, h)))

    pub none_wide : (i : ℕ) → length steps ≤ i → IsFirstFrom i → IsFirstWideOf S limit steps None
    none_wide i all from = from None (let e : drop i steps ≡ [] = at_drop_all (λ l. l) steps i all in subst (λ rest. IsFirstWideOf S limit rest None) (sym e) refl)

-- ---- bytes

module _ (S : List Record) where
  module _ (steps : List Step) where
    -- some bytes, and the entries from a number on, are the entries of all
    abbrev pub AreEntriesUpTo : List ℕ → ℕ → Type 0
    AreEntriesUpTo bytes i = (rest : List ℕ) → AreEntries S (drop i steps) rest → AreEntries S steps (bytes ++ rest)

    pub entries_more : (i : ℕ) (s : Step) → i < length steps → s ≡ get_or steps i s → (text : List ℕ) → (s.kind ≡ step_kind.File → IsFileText S s.inode text) →
        (old new : List ℕ) → new ≡ old ++ entry_text s text → AreEntriesUpTo old i → AreEntriesUpTo new (i + 1)
    entries_more i s low is text file old new e upto rest h =
        let first = entry_text s text in
        let more : AreEntries S (s ∷ drop (i + 1) steps) (first ++ rest) = (first, rest, refl, is_entry S s text file, h) in
        let whole : AreEntries S steps (old ++ (first ++ rest)) = upto (first ++ rest) (subst (λ l. AreEntries S l (first ++ rest)) (sym (left_at steps i s low is)) more) in
        let same : new ++ rest ≡ old ++ (first ++ rest) = ap (λ l. l ++ rest) e ∙ append_assoc old first rest in
        subst (AreEntries S steps) (sym same) whole

    pub entries_all : (i : ℕ) → length steps ≤ i → (bytes : List ℕ) → AreEntriesUpTo bytes i → AreEntries S steps bytes
    entries_all i all bytes upto =
        let e : drop i steps ≡ [] = at_drop_all (λ l. l) steps i all in
        subst (AreEntries S steps) (append-nil bytes) (upto [] (subst (λ l. AreEntries S l []) (sym e) refl))

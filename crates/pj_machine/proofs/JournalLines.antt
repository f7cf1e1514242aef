-- The lines of a journal, one entry after the other.
use Rattle.std.proofs.Common.{◌≡◌, ℕ, suc, ◌+◌, ◌<◌, ◌≤◌, List, ◌∷◌, ◌++◌, length, get_or, drop, refl, sym, ◌∙◌, ap, append_assoc, append-nil, add-one}
use Rattle.std.proofs.lemmas.List.{drop_all}
use Rattle.std.proofs.Math.Seq.{drop-cons}
use Rattle.pj_machine.specs.declared.journal.Entry.{Entry}
use Rattle.pj_machine.specs.JournalText.{entry_line, journal_from}

-- the lines of some entries begin with the line of the first of them
journal_from-cons : (place : ℕ) (e : Entry) (es : List Entry) → journal_from place (e ∷ es) ≡ entry_line place e ++ journal_from (place + 1) es
unfolding journal_from
journal_from-cons place e es = refl

-- the lines of the entries from one on are its own line, and those of the later ones
pub journal_from-on : (es : List Entry) (k : ℕ) (e : Entry) (done : List ℕ) → e ≡ get_or es k e → k < length es →
    (done ++ entry_line (k + 1) e) ++ journal_from (k + 1 + 1) (drop (k + 1) es) ≡ done ++ journal_from (k + 1) (drop k es)
journal_from-on es k e done at low =
    let later : List ℕ = journal_from (k + 1 + 1) (drop (k + 1) es) in
    let here : drop k es ≡ e ∷ drop (k + 1) es =
    drop-cons es k e low ∙ ap (λ x. x ∷ drop (suc k) es) (sym at) ∙ ap (λ n. e ∷ drop n es) (sym (add-one k)) in
    append_assoc done (entry_line (k + 1) e) later
    ∙ ap (λ t. done ++ t) (sym (journal_from-cons (k + 1) e (drop (k + 1) es)))
    ∙ ap (λ rest. done ++ journal_from (k + 1) rest) (sym here)

-- past the last entry no line is missing
pub journal_from-end : (es : List Entry) (k place : ℕ) (done all : List ℕ) → length es ≤ k → done ++ journal_from place (drop k es) ≡ all → done ≡ all
unfolding journal_from
journal_from-end es k place done all past is =
    sym (append-nil done) ∙ sym (ap (λ rest. done ++ journal_from place rest) (drop_all k es past)) ∙ is

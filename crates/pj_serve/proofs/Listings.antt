-- The lines of a journal on a sink, one entry after the other.
use Rattle.std.proofs.Common.{◌≡◌, ℕ, zero, suc, ◌+◌, ◌<◌, ◌≤◌, List, [], ◌∷◌, ◌++◌, length, take, drop, get_or, refl, sym, ◌∙◌, ap, arith, append_assoc, length-append}
use Rattle.pj_io.specs.Sink.{AppendsFront}
use Rattle.pj_machine.specs.declared.journal.Entry.{Entry}
use Rattle.pj_machine.specs.JournalText.{entry_line, journal_from, journal_text}
use Rattle.pj_machine.proofs.JournalLines.{journal_from-on, journal_from-end}

-- behind the bytes before stand the lines of the first k entries
pub record Listed (before now : List ℕ) (k : ℕ) (entries : List Entry) : Type 0 where
  pub done : List ℕ
  pub wrote : now ≡ before ++ done
  pub rest : done ++ journal_from (k + 1) (drop k entries) ≡ journal_text entries

-- a front that ends within the middle one of three lists
front_behind : (done line later : List ℕ) (n m : ℕ) → m ≡ length done + n → n ≤ length line → take m (done ++ (line ++ later)) ≡ done ++ take n line
front_behind [] line later n m is low = (let same : m ≡ n = omega arith in ap (λ k. take k (line ++ later)) same) ∙ within line n low
  where
    within : (line : List ℕ) (n : ℕ) → n ≤ length line → take n (line ++ later) ≡ take n line
    within line zero low = refl
    within [] (suc n) low = absurd (omega arith)
    within (b ∷ line) (suc n) low = ap (λ t. b ∷ t) (within line n (omega arith))
front_behind (b ∷ done) line later n zero is low = absurd (omega arith)
front_behind (b ∷ done) line later n (suc m) is low = ap (λ t. b ∷ t) (front_behind done line later n m (omega arith) low)

module _ (before now after : List ℕ) (k : ℕ) (entries : List Entry) (e : Entry) (listed : Listed before now k entries) (at : e ≡ get_or entries k e) (inside : k < length entries) where
  missing : List ℕ
  missing = journal_from (k + 1 + 1) (drop (k + 1) entries)

  all_lines : (listed.done ++ entry_line (k + 1) e) ++ missing ≡ journal_text entries
  unfolding missing
  all_lines = journal_from-on entries k e listed.done at inside ∙ listed.rest

  -- one line more
  pub listed_more : after ≡ now ++ entry_line (k + 1) e → Listed before after (k + 1) entries
  unfolding missing
  listed_more wrote = record {
    done = listed.done ++ entry_line (k + 1) e;
    wrote = wrote ∙ ap (λ w. w ++ entry_line (k + 1) e) listed.wrote ∙ append_assoc before listed.done (entry_line (k + 1) e);
    rest = all_lines;
  }

  -- a front of one line more
  pub listed_front : AppendsFront now after (entry_line (k + 1) e) → AppendsFront before after (journal_text entries)
  listed_front front =
      let line : List ℕ = entry_line (k + 1) e in
      let n = front.0 in
      let whole : listed.done ++ (line ++ missing) ≡ journal_text entries = sym (append_assoc listed.done line missing) ∙ all_lines in
      let size : length (journal_text entries) ≡ length listed.done + length (line ++ missing) = sym (ap (λ (t : List ℕ). length t) whole) ∙ length-append listed.done (line ++ missing) in
      let size' : length (line ++ missing) ≡ length line + length missing = length-append line missing in
      let low = front.1 in (
        length listed.done + n,
        (omega arith),
        front.2 ∙ ap (λ w. w ++ take n line) listed.wrote ∙ append_assoc before listed.done (take n line)
            ∙ ap (λ t. before ++ t) (sym (front_behind listed.done line missing n (length listed.done + n) refl low) ∙ ap (λ t. take (length listed.done + n) t) whole),
      )

-- all lines
pub listed_all : (before now : List ℕ) (k : ℕ) (entries : List Entry) → Listed before now k entries → length entries ≤ k → now ≡ before ++ journal_text entries
listed_all before now k entries listed past = listed.wrote ∙ ap (λ t. before ++ t) (journal_from-end entries k (k + 1) listed.done (journal_text entries) past listed.rest)

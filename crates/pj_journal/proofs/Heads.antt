-- What the first bytes from a place on say of the file.
use Rattle.std.proofs.Common.{◌≡◌, ◌∙◌, ℕ, ◌+◌, List, length, take, drop, sym, ap, arith, length-take, length-drop}
use Rattle.std.proofs.lemmas.List.{drop-drop, take_at, take_min}
use Rattle.std.specs.Int.{w64, from_be_bytes}
use Rattle.pj_disk.specs.Reading.{ReadAt}
use Rattle.pj_journal.specs.Head.{IsHead, SaysHead}
use Rattle.pj_journal.specs.declared.head.Head.{Head}
use Rattle.pj_journal.specs.declared.head.Head.TheVariants.{Closed, Entry, Broken}
use Rattle.pj_journal.proofs.Slices.{within_front}
use Rattle.pj_journal.proofs.Entries.{entry_within}

-- what a read gave of a place
pub front_read : (file into into_after : List ℕ) (place n : ℕ) → ReadAt file place into into_after n
    → take n into_after ≡ take (length into) (drop place file)
front_read file into into_after place n read =
    let rest = drop place file in
    let long : length (take n rest) ≡ n = omega (arith, read.count, length-take n rest) in
    ap (take n) read.bytes ∙ take_at (take n rest) (drop n into) n long ∙ ap (λ m. take m rest) read.count ∙ take_min (length into) rest

module _ (file : List ℕ) (place : ℕ) where
  gate : take 1 (take 9 (drop place file)) ≡ take 1 (drop place file)
  gate = within_front 9 0 1 (drop place file) (omega arith)

  size : take 8 (drop 1 (take 9 (drop place file))) ≡ take 8 (drop (place + 1) file)
  size = within_front 9 1 8 (drop place file) (omega arith) ∙ ap (take 8) (drop-drop 1 place file)

  -- they say what stands there
  pub says_head : (head : Head) → SaysHead (take 9 (drop place file)) place (length file) head → IsHead file place head
  says_head Closed says = sym gate ∙ says
  says_head (Entry n) says = record {
    is_open = λ closed. says.is_open (gate ∙ closed);
    some = says.some;
    most = says.most;
    size = ap (from_be_bytes w64) (sym size) ∙ says.size;
    room = says.room;
  }
  says_head Broken says = record {
    is_open = λ closed. says.0 (gate ∙ closed);
    none = λ string entry.
        let within = entry_within file place string entry in
        says.1 (length string) (record {
          is_open = λ closed. entry.is_open (sym gate ∙ closed);
          whole = omega (arith, length-take 9 (drop place file), length-drop place file, entry.storable.some);
          some = entry.storable.some;
          most = entry.storable.most;
          size = ap (from_be_bytes w64) size ∙ entry.size;
          room = within;
        });
  }

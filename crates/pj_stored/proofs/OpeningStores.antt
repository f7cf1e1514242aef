-- What came of a disk whose file was opened and restored.
use Rattle.std.proofs.Common.{◌≡◌, ℕ, ◌≤◌, Bool, true, false, IsTrue, List, [], length, inl, inr, refl, sym, ap, subst, arith, ⊎_elim}
use Rattle.std.proofs.lemmas.Bool.{cases_lt}
use mathlib.Core.List.{IsPrefix}
use Rattle.pj_disk.specs.Told.{Where}
use Rattle.pj_disk.specs.Image.{Only}
use Rattle.pj_disk.specs.Moments.{LeavesOnly}
use Rattle.pj_journal.specs.Appended.{opened, LeftByOpen}
use Rattle.pj_journal.specs.Format.{empty_file}
use Rattle.pj_journal.specs.Stored.{Spans, Reads, Stores, IsForeign}
use Rattle.pj_journal.proofs.Entries.{opened_short, opened_long, reads_empty, reads_stores, stores_one}
use Rattle.pj_journal.proofs.Moments.{and_then, weaker}
use Rattle.pj_machine.specs.declared.limits.Limits.{Limits}
use Rattle.pj_machine.specs.Call.{PassView, IsFresh, own}
use Rattle.pj_stored.specs.Opened.{Behind, HasRestored, StoppedAt, Stopped, Lacked}
use Rattle.pj_stored.specs.Reading.{IsRead}
use Rattle.pj_stored.specs.Store.{HasLeftOff, IsNotRestorable, StaysStored}
use Rattle.pj_stored.proofs.Quiet.{declines_own, lacks_own}
use Rattle.pj_stored.proofs.Stopping.{begins_with, stopped_is_not_restored}
use Rattle.pj_stored.proofs.Strings.{accepted_none}

-- ---- the file

-- what the file stores is what is read once it is open
pub reads_stored : (file : List ℕ) (strings : List (List ℕ)) → Stores file strings → Reads (opened file) strings
reads_stored file strings (inl none) =
    subst (λ f. Reads f strings) (sym (opened_short file none.0)) (subst (λ l. Reads empty_file l) (sym none.1) reads_empty)
reads_stored file strings (inr reads) = subst (λ f. Reads f strings) (sym (opened_long file reads.0)) reads.1

-- and the other way round
pub opened_stores : (file : List ℕ) (strings : List (List ℕ)) → Stores file strings → Stores (opened file) strings
opened_stores file strings stores = reads_stores (opened file) strings (reads_stored file strings stores)

-- what is stored once the file is open was stored before
stores_given : (file : List ℕ) (strings : List (List ℕ)) → Stores (opened file) strings → Stores file strings
stores_given file strings stores = elim (cases_lt 9 (length file)) [
  | inl longer ↦ subst (λ f. Stores f strings) (opened_long file longer) stores
  | inr short ↦
      inl (short, stores_one empty_file strings [] (subst (λ f. Stores f strings) (opened_short file short) stores) (reads_stores empty_file [] reads_empty))
]

-- a file with another header stores no list
foreign_stores_none : (file : List ℕ) (strings : List (List ℕ)) → IsForeign file → Stores file strings → ⊥
foreign_stores_none file strings foreign (inl none) = absurd (let long = foreign.longer in let short = none.0 in omega arith)
foreign_stores_none file strings foreign (inr reads) = foreign.other reads.1.header

-- ---- the images

module _ {K : Type 0} (tells : K → Bool) (seen : K → List ℕ) (may_leave : K → List ℕ → Type 0) (moment : K → ℕ)
    (left_since : K → ℕ → List ℕ → Type 0) (faults : K → ℕ) where
  -- an opening leaves only what stores the list
  pub stays_opened : (a b : K) → Where (tells a) (LeavesOnly moment left_since a b (LeftByOpen (may_leave a) (seen a))) →
      StaysStored tells seen may_leave moment left_since a b
  stays_opened a b run told strings stored only = weaker moment left_since a b (λ c. Stores c strings) (LeftByOpen (may_leave a) (seen a)) (run told) either
    where
      short : (c : List ℕ) → length (seen a) ≤ 9 → length c ≤ 9 → Stores (seen a) strings → Stores c strings
      short c few fewer (inl none) = inl (fewer, none.1)
      short c few fewer (inr reads) = absurd (let long = reads.0 in omega arith)

      either : (c : List ℕ) → LeftByOpen (may_leave a) (seen a) c → Stores c strings
      either c (inl was) = subst (λ f. Stores f strings) (sym (only c was)) stored
      either c (inr few) = short c few.0 few.1 stored

  -- and so does a reading behind it
  pub stays_read : (a b d : K) → tells b ≡ tells a → Where (tells a) (LeavesOnly moment left_since a b (LeftByOpen (may_leave a) (seen a))) →
      Where (tells a) (Only (seen b) (may_leave b)) → Where (tells a) (seen b ≡ opened (seen a)) →
      IsRead tells seen may_leave moment left_since faults b d → StaysStored tells seen may_leave moment left_since a d
  stays_read a b d same run durable is read told strings stored only =
      let there : Stores (seen b) strings = subst (λ f. Stores f strings) (sym (is told)) (opened_stores (seen a) strings stored) in
      and_then moment left_since a b d (λ c. Stores c strings) (may_leave b)
      (stays_opened a b run told strings stored only) (read.moments (subst IsTrue (sym same) told))
      (λ c was. subst (λ f. Stores f strings) (sym (durable told c was)) there)

-- ---- the strings

module _ (limits : Limits) (a b : PassView) (told : Bool) (file given : List ℕ) (opens : Where told (file ≡ opened given)) where
  -- each list of the file begins with the strings that stand first
  begins : (first : List (List ℕ)) → Where told (Spans file 8 first) → Where told ((all : List (List ℕ)) → Stores given all → IsPrefix first all)
  begins first spans is all stores =
      begins_with file first all (spans is) (subst (λ f. Reads f all) (sym (opens is)) (reads_stored given all stores))

  -- behind the strings that were accepted nothing more was entered
  left_behind : (Then : List (List ℕ) → PassView → Type 0) (behind : Behind limits a told file Then) → own b ≡ own behind.middle →
      HasLeftOff limits a b told given
  left_behind Then behind same = record {
    strings = behind.strings;
    middle = behind.middle;
    accepted = behind.accepted;
    own_is = same;
    begins = begins behind.strings behind.spans;
  }

  -- the pass stopped at an entry
  pub left_stopped : (number : ℕ) → StoppedAt limits a b told file number → HasLeftOff limits a b told given
  left_stopped number h = left_behind _ h
      (⊎_elim (λ none. ap own none.same) (λ other. declines_own limits h.middle b other.string other.declined) h.then.1)

  -- a string was not read
  pub left_unread : Stopped limits a b told file → HasLeftOff limits a b told given
  left_unread h = left_behind _ h (ap own h.then)

  -- there was no memory for a string
  pub left_lacking : Lacked limits a b told file → HasLeftOff limits a b told given
  left_lacking h = left_behind _ h (⊎_elim (λ none. ap own none) (λ more. lacks_own limits h.middle b more.string more.lacks) h.then)

  -- the pass stopped at an entry
  pub stopped_not_restorable : (number : ℕ) → IsFresh a → StoppedAt limits a b told file number → IsNotRestorable limits b told given
  stopped_not_restorable number fresh h alone is strings journal stores restored =
      stopped_is_not_restored limits a b file number strings journal fresh alone (told_there told is h)
      (subst (λ f. Reads f strings) (sym (opens is)) (reads_stored given strings stores)) restored
    where
      told_there : (t : Bool) → IsTrue t → StoppedAt limits a b t file number → StoppedAt limits a b true file number
      told_there true is h = h
      told_there false is h = absurd (cc is)

  -- all strings of the file are those of the disk
  pub restored_given : HasRestored limits a b told file → HasRestored limits a b told given
  restored_given h = record {
    strings = h.strings;
    accepted = h.accepted;
    stored = λ is. stores_given given h.strings (subst (λ f. Stores f h.strings) (opens is) (h.stored is));
  }

-- a pass that was asked nothing has left off at the beginning
pub left_none : (limits : Limits) (a : PassView) (told : Bool) (given : List ℕ) → HasLeftOff limits a a told given
left_none limits a told given = record {
  strings = [];
  middle = a;
  accepted = accepted_none limits a;
  own_is = refl;
  begins = λ is all stores. (all, refl);
}

-- a file with another header cannot be restored
pub foreign_not_restorable : (limits : Limits) (b : PassView) (told : Bool) (given : List ℕ) → Where told (IsForeign given) →
    IsNotRestorable limits b told given
foreign_not_restorable limits b told given foreign alone is strings journal stores restored = foreign_stores_none given strings (foreign is) stores

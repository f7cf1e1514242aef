-- A log to whose end strings are staged, and then stored.
use Rattle.std.proofs.Common.{◌≡◌, ◌∙◌, ◌⊎◌, inl, inr, ⊎_elim, ℕ, ◌+◌, ◌≤◌, ◌<◌, List, [], ◌∷◌, ◌++◌, length, take, sym, ap, subst, arith, append-nil}
use Rattle.pj_disk.specs.Image.{Torn, Only}
use Rattle.pj_journal.specs.Stored.{IsClosedAt, end_of, Reads, Stores}
use Rattle.pj_journal.specs.Group.{gate_opened, Stages, HasPrefix, IsGrouped, StoresAllOrNone}
use Rattle.pj_journal.proofs.Entries.{reads_stores, stores_one}
use Rattle.pj_journal.proofs.Appends.{reads_kept}
use Rattle.pj_journal.proofs.Groups.{end_append, none_between, stages_none, reads_opened_gate, reads_torn_gate}

module _ (file : List ℕ) (may_leave : List ℕ → Type 0) (place end : ℕ) (grouped : IsGrouped file may_leave place end) where
  -- all that has what is stored, and the gate behind it, reads as the list
  reads_prefix : (c : List ℕ) → HasPrefix (place + 1) file c → Reads c grouped.strings
  reads_prefix c has = reads_kept file grouped.strings grouped.reads c (subst (λ p. take (p + 1) c ≡ take (p + 1) file) (sym grouped.place_is) has)

  -- the list that the file stores
  same_list : (strings : List (List ℕ)) → Stores file strings → grouped.strings ≡ strings
  same_list strings stored = stores_one file grouped.strings strings (reads_stores file grouped.strings grouped.reads) stored

  -- and stores it
  pub stores_prefix : (strings : List (List ℕ)) → Stores file strings → (c : List ℕ) → HasPrefix (place + 1) file c → Stores c strings
  stores_prefix strings stored c has = subst (Stores c) (same_list strings stored) (reads_stores c grouped.strings (reads_prefix c has))

  -- one string more is staged
  pub grouped_staged : place ≤ end → (string file_after : List ℕ) (may_leave_after : List ℕ → Type 0)
      → ((group : List (List ℕ)) → Stages file place end group → Stages file_after place (end + (9 + length string)) (group ++ string ∷ []))
      → HasPrefix (place + 1) file file_after → ((c : List ℕ) → may_leave_after c → HasPrefix (place + 1) file c)
      → IsGrouped file_after may_leave_after place (end + (9 + length string))
  grouped_staged order string file_after may_leave_after staged stays images = record {
    strings = grouped.strings;
    reads = reads_prefix file_after stays;
    place_is = grouped.place_is;
    more = grouped.more ++ string ∷ [];
    stages = staged grouped.more grouped.stages;
    kept = λ c is. images c is ∙ sym stays;
    durable = λ same. absurd (omega arith);
  }

  module _ (some : place < end) where
    -- the opened gate has the list of all
    opened_reads : Reads (gate_opened file place) (grouped.strings ++ grouped.more)
    opened_reads = reads_opened_gate file grouped.strings grouped.reads place grouped.place_is end grouped.more grouped.stages some

    -- which ends where what is staged does
    end_is : end_of 8 (grouped.strings ++ grouped.more) ≡ end
    end_is = end_append 8 grouped.strings grouped.more ∙ ap (λ p. end_of p grouped.more) grouped.place_is ∙ grouped.stages.end_is

    -- nothing is staged behind a gate that was opened
    pub stages_sealed : (file_after : List ℕ) → file_after ≡ gate_opened file place → Stages file_after end end []
    stages_sealed file_after is =
        subst (λ f. Stages f end end []) (sym is)
        (stages_none (gate_opened file place) end (subst (IsClosedAt (gate_opened file place)) end_is opened_reads.closed))

    -- all is stored
    pub grouped_sealed : (file_after : List ℕ) (may_leave_after : List ℕ → Type 0) → file_after ≡ gate_opened file place → Only file_after may_leave_after
        → IsGrouped file_after may_leave_after end end
    grouped_sealed file_after may_leave_after is only = record {
      strings = grouped.strings ++ grouped.more;
      reads = subst (λ f. Reads f (grouped.strings ++ grouped.more)) (sym is) opened_reads;
      place_is = end_is;
      more = [];
      stages = stages_sealed file_after is;
      kept = λ c image. ap (take (end + 1)) (only c image);
      durable = λ _. only;
    }

    module _ (strings group : List (List ℕ)) (stored : Stores file strings) (stages : Stages file place end group) where
      -- the list with the group
      pub stores_sealed : (file_after : List ℕ) → file_after ≡ gate_opened file place → Stores file_after (strings ++ group)
      stores_sealed file_after is =
          subst (λ f. Stores f (strings ++ group)) (sym is) (subst (λ l. Stores (gate_opened file place) (l ++ group)) (same_list strings stored)
          (reads_stores _ _ (reads_opened_gate file grouped.strings grouped.reads place grouped.place_is end group stages some)))

      -- in the middle all of the group is stored, or none
      pub stores_torn : (c : List ℕ) → (HasPrefix (place + 1) file c ⊎ Torn place 1 file c) → StoresAllOrNone strings group c
      stores_torn c (inl has) = inl (stores_prefix strings stored c has)
      stores_torn c (inr torn) =
          subst (λ l. StoresAllOrNone l group c) (same_list strings stored)
          (⊎_elim (λ less. inl (reads_stores c grouped.strings less)) (λ all. inr (reads_stores c (grouped.strings ++ group) all))
          (reads_torn_gate file grouped.strings grouped.reads place grouped.place_is end group stages some c torn))

-- where nothing is staged, the list has the whole group
pub stores_none : (file : List ℕ) (place end : ℕ) → place ≡ end → (strings group : List (List ℕ))
    → Stages file place end group → Stores file strings → Stores file (strings ++ group)
stores_none file place end none strings group stages stored =
    subst (λ l. Stores file (strings ++ l)) (sym (none_between place group (stages.end_is ∙ sym none))) (subst (Stores file) (sym (append-nil strings)) stored)

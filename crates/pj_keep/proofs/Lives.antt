-- The journal of a repository that was restored by one pass and spoken to by another one.
use Rattle.std.proofs.Common.{◌≡◌, ◌≢◌, ◌==◌, ◌∙◌, ℕ, ◌≤◌, Bool, List, [], ◌∷◌, ◌++◌, length, not, refl, sym, ap, subst, arith, append-nil, length-append}
use Rattle.std.proofs.lemmas.List.Filters.{length-filter_both}
use mathlib.Core.List.{IsPrefix}
use Rattle.pj_disk.specs.Told.{Where}
use Rattle.pj_disk.specs.Image.{Only}
use Rattle.pj_io.specs.Causes.{Rose}
use Rattle.pj_io.specs.Meanings.{Streams}
use Rattle.pj_journal.specs.Stored.{Stores}
use Rattle.pj_machine.specs.declared.journal.Entry.{Entry}
use Rattle.pj_machine.specs.declared.limits.Limits.{Limits}
use Rattle.pj_machine.specs.Call.{PassView, IsFresh, entries_of, own}
use Rattle.pj_machine.specs.Entries.{writes, numbered_from}
use Rattle.pj_machine.specs.Legal.{IsLegal}
use Rattle.pj_session.specs.declared.end.End.{End}
use Rattle.pj_session.specs.declared.end.End.TheVariants.{StoreFault}
use Rattle.pj_session.specs.Served.{ServedBy}
use Rattle.pj_session.proofs.Serving.{served_later}
use Rattle.pj_session.proofs.Spoken.{grew_all}
use Rattle.pj_stored.specs.Opened.{HasRestored}
use Rattle.pj_stored.specs.Restored.{requests_of, Restores}
use Rattle.pj_stored.specs.Store.{HasLeftOff as LeftOff}
use Rattle.pj_stored.proofs.Alone.{accepted_are_entered, accepted_are_restored}
use Rattle.pj_keep.specs.declared.stop.Stop.{Stop}
use Rattle.pj_keep.specs.Disks.{Disks}
use Rattle.pj_keep.specs.Images.{KeepsAll}
use Rattle.pj_keep.specs.Session.{KeptSession}
use Rattle.pj_keep.specs.Life.{HasKept, HasLeftOff, StopsBy}
use Rattle.pj_keep.proofs.Parts.{only_of, two_parts}
use Rattle.pj_keep.proofs.Sessions.{rose_within, served_for}
use Rattle.pj_keep.proofs.Stores.{Stays, stays_prefixes, kept_from}

-- ---- what a pass saw where nothing else was entered

-- a pass has at most as many entries as there are
few_own : (n : ℕ) (journal : List Entry) → length (entries_of n journal) ≤ length journal
few_own n journal =
    let both = length-filter_both (λ (e : Entry). e.pass == n) (λ (e : Entry). not (e.pass == n)) (λ e. refl) journal in omega (arith, both)

-- what begins a journal and has as many entries is the journal
same_length : (a journal : List Entry) → IsPrefix a journal → length journal ≤ length a → a ≡ journal
same_length a journal begins long = none_behind begins.0 begins.1
  where
    none_behind : (x : List Entry) → a ++ x ≡ journal → a ≡ journal
    none_behind [] is = sym (append-nil a) ∙ is
    none_behind (e ∷ x) is =
        let size : length (a ++ e ∷ x) ≡ length journal = ap (λ (l : List Entry). length l) is in
        let parts = length-append a (e ∷ x) in
        absurd (omega arith)

-- a pass whose own entries are the whole journal has seen just them
pub saw_all : (p : PassView) (journal : List Entry) → own p ≡ journal → IsPrefix p.journal journal → p.journal ≡ journal
saw_all p journal own_is begins =
    let few = few_own p.number p.journal in
    let size : length (own p) ≡ length journal = ap (λ (l : List Entry). length l) own_is in
    same_length p.journal journal begins (omega arith)

-- ---- what was restored

-- What pass 1 restored: all that it entered.
pub record IsRestored (limits : Limits) (told : Bool) (file : List ℕ) (first : List Entry) : Type 0 where
  pub by_calls : first ≡ numbered_from 1 1 (writes first)
  pub stored : Where told (Stores file (requests_of first))
  pub restores : Restores limits 1 [] (requests_of first) first

pub restored_all : (limits : Limits) (told : Bool) (file : List ℕ) (a b : PassView) (first : List Entry) → IsFresh a → b.number ≡ 1 →
    own b ≡ first → IsPrefix b.journal first → HasRestored limits a b told file → IsRestored limits told file first
restored_all limits told file a b first fresh number own_is begins restored =
    let strings = restored.strings in
    let entered = accepted_are_entered limits a b strings fresh restored.accepted in
    let asked : strings ≡ requests_of first = sym entered.0 ∙ ap requests_of own_is in
    let saw : b.journal ≡ first = saw_all b first own_is begins in
    let restores : Restores limits b.number [] strings b.journal =
    accepted_are_restored limits a b strings fresh (own_is ∙ sym saw) restored.accepted in
    record {
      by_calls = sym own_is ∙ entered.1 ∙ ap (λ n. numbered_from n 1 (writes (own b))) number ∙ ap (λ l. numbered_from 1 1 (writes l)) own_is;
      stored = λ there. subst (λ l. Stores file l) asked (restored.stored there);
      restores = subst (λ n. Restores limits n [] (requests_of first) first) number
          (subst (λ l. Restores limits b.number [] l first) asked (subst (λ j. Restores limits b.number [] strings j) saw restores));
    }

module _ {K : Type 0} (disks : Disks K) (limits : Limits) (given now : K) (journal : List Entry) where
  -- the restoring stopped, and the pass saw all that was entered
  pub left_off : (why : Stop) (a b : PassView) → IsFresh a → a.number ≡ 1 → b.number ≡ a.number →
      ((n : ℕ) → n ≢ 1 → entries_of n journal ≡ []) → IsPrefix b.journal journal → entries_of b.number journal ≡ own b → IsLegal limits journal →
      LeftOff limits a b (disks.tells given) (disks.seen given) → (own b ≡ b.journal → StopsBy disks limits given now journal why) →
      disks.tells now ≡ disks.tells given → disks.faults given ≤ disks.faults now → Stays disks given now →
      HasLeftOff disks limits given now journal why
  left_off why a b fresh first same others begins has_own legal left cause told count stays =
      let number : b.number ≡ 1 = same ∙ first in
      let own_is : own b ≡ journal = sym has_own ∙ ap (λ n. entries_of n journal) number ∙ (only_of 1 journal others).0 in
      let middle = left.middle in
      let grew = grew_all limits a middle left.accepted.commands left.accepted.replies left.accepted.calls in
      let number' : middle.number ≡ 1 = grew.number ∙ first in
      let own_is' : own middle ≡ journal = sym left.own_is ∙ own_is in
      let entered = accepted_are_entered limits a middle left.strings fresh left.accepted in
      let asked : left.strings ≡ requests_of journal = sym entered.0 ∙ ap requests_of own_is' in
      record {
        legal = legal;
        by_calls = sym own_is' ∙ entered.1 ∙ ap (λ n. numbered_from n 1 (writes (own middle))) number' ∙ ap (λ l. numbered_from 1 1 (writes l)) own_is';
        begins = λ there strings stored. subst (λ l. IsPrefix l strings) asked (left.begins there strings stored);
        cause = cause (own_is ∙ sym (saw_all b journal own_is begins));
        told = told;
        count = count;
        images = stays_prefixes disks given now [] stays;
      }

  module _ {S D : Type 0} (streams : Streams S D) (source source' : S) (sink sink' : D) (end : End) where
    -- all was restored by pass 1, and then pass 2 spoke
    pub has_kept : (middle : K) (a b c d e : PassView) → IsFresh a → b.number ≡ 1 →
        HasRestored limits a b (disks.tells given) (disks.seen given) →
        -- pass 1 as it was seen by the new pass 2
        own c ≡ own b → IsPrefix b.journal c.journal → c.number ≡ 1 → d.journal ≡ c.journal → d.number ≡ 2 → own d ≡ [] →
        -- pass 2 behind its session
        e.number ≡ d.number → IsPrefix d.journal e.journal →
        KeptSession disks streams limits e.journal e.number middle now source source' sink sink' end →
        -- the journal of the two
        ((n : ℕ) → n ≢ 1 → n ≢ 2 → entries_of n journal ≡ []) → IsPrefix c.journal journal → entries_of c.number journal ≡ own c →
        IsPrefix e.journal journal → entries_of e.number journal ≡ own e → IsLegal limits journal →
        -- the store as it was opened
        Stays disks given middle → disks.tells middle ≡ disks.tells given → disks.faults given ≤ disks.faults middle →
        Where (disks.tells given) ((strings : List (List ℕ)) → Stores (disks.seen given) strings → Stores (disks.seen middle) strings) →
        Where (disks.tells middle) (Only (disks.seen middle) (disks.may_leave middle)) →
        HasKept disks limits given now journal streams source source' sink sink' end
    has_kept middle a b c d e fresh number_b restored own_c begins_b number_c seen_d number_d own_d number_e begins_e session others begins_c has_c begins has_e
        legal stays told count list durable =
        let first : List Entry = c.journal in
        let second : List Entry = begins_c.0 in
        let whole : journal ≡ first ++ second = sym begins_c.1 in
        let number_e' : e.number ≡ 2 = number_e ∙ number_d in
        let ones : entries_of 1 journal ≡ entries_of 1 first =
        ap (λ n. entries_of n journal) (sym number_c) ∙ has_c ∙ ap (λ n. entries_of n first) number_c in
        let no_twos : entries_of 2 first ≡ [] =
        ap (λ n. entries_of n first) (sym number_d) ∙ ap (λ j. entries_of d.number j) (sym seen_d) ∙ own_d in
        let parts = two_parts first second journal whole ones no_twos others in
        let own_b : own b ≡ first = sym own_c ∙ ap (λ n. entries_of n first) number_c ∙ parts.all_first in
        let is = restored_all limits (disks.tells given) (disks.seen given) a b first fresh number_b own_b begins_b restored in
        let rose : Rose (disks.faults middle) (disks.faults now) → Rose (disks.faults given) (disks.faults now) =
        rose_within (disks.faults given) (disks.faults middle) (disks.faults now) count in
        let entered : entries_of e.number e.journal ≡ second = sym has_e ∙ ap (λ n. entries_of n journal) number_e' ∙ parts.all_second in
        let later =
        served_later (Rose (disks.faults middle) (disks.faults now)) streams limits e.journal journal e.number source source' sink sink' end
        begins has_e session.served in
        record {
          first = first;
          second = second;
          whole = whole;
          legal = legal;
          by_calls = is.by_calls;
          stored = is.stored;
          restores = is.restores;
          of_second = parts.of_second;
          session = served_for (Rose (disks.faults middle) (disks.faults now)) (Rose (disks.faults given) (disks.faults now)) streams limits journal 2
              source source' sink sink' end rose
              (subst (λ n. ServedBy (Rose (disks.faults middle) (disks.faults now)) streams limits journal n source source' sink sink' end) number_e' later);
          told = session.told ∙ told;
          count = (let below = session.count in omega (arith, below, count));
          images = kept_from disks given middle now (end ≢ StoreFault) (requests_of second) stays told list durable
              (λ there strings stored only.
              subst (λ l. KeepsAll disks middle now (end ≢ StoreFault) strings (requests_of l)) entered (session.images there strings stored only));
        }

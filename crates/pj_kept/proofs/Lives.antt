-- Why a kept repository was not restored, and what is left where it was not begun.
use Rattle.std.proofs.Common.{◌≡◌, ◌∙◌, ℕ, ◌≤◌, List, [], ◌∷◌, ◌++◌, Err, refl, sym, subst, arith}
use Rattle.pj_io.specs.Causes.{Rose}
use Rattle.pj_journal.specs.Log.{LogOver}
use Rattle.pj_machine.specs.declared.journal.Entry.{Entry}
use Rattle.pj_machine.specs.declared.limits.Limits.{Limits}
use Rattle.pj_machine.specs.Call.{PassView, IsFresh}
use Rattle.pj_machine.specs.Legal.{IsLegal}
use Rattle.pj_stored.specs.declared.store.StoreRefusal.{StoreRefusal}
use Rattle.pj_stored.specs.declared.store.StoreRefusal.TheVariants as refusal
use Rattle.pj_stored.specs.Restored.{Restores}
use Rattle.pj_stored.specs.Store.{StoreOpened, OnStore, store_after}
use Rattle.pj_keep.specs.declared.stop.Stop.TheVariants as stop
use Rattle.pj_keep.specs.Disks.{Disks}
use Rattle.pj_keep.specs.Life.{HasLeftOff}
use Rattle.pj_keep.proofs.Lives.{left_off}
use Rattle.pj_keep.proofs.Stores.{Stays, stays_itself, stays_prefixes}
use Rattle.pj_kept.specs.Journals.{IsOfOne}
use Rattle.pj_kept.specs.Life.{store_left, stop_left}

module _ {K : Type 0} (disks : Disks K) (limits : Limits) (given : K) (journal : List Entry) where
  -- nothing was done
  pub nothing_done : ((disk : K) (c : List ℕ) → disks.left_since disk (disks.moment disk) c → disks.may_leave disk c) →
      journal ≡ [] → HasLeftOff disks limits given given journal stop.Memory
  nothing_done only_now none = subst (λ j. HasLeftOff disks limits given given j stop.Memory) (sym none) (record {
    legal = record { few = omega arith; each = λ before e after is. absurd (no_entry before e after is) };
    by_calls = refl;
    begins = λ told strings stored. (strings, refl);
    cause = tt;
    told = refl;
    count = omega arith;
    images = stays_prefixes disks given given [] (stays_itself disks only_now given);
  })
    where
      no_entry : (before : List Entry) (e : Entry) (after : List Entry) → [] ≡ before ++ e ∷ after → ⊥
      no_entry [] e after is = cc is
      no_entry (x ∷ before) e after is = cc is

  -- the restoring stopped
  pub stopped : (why : StoreRefusal K) (a b : PassView) → IsFresh a → a.number ≡ 1 → b.number ≡ a.number → IsOfOne journal b → IsLegal limits journal →
      StoreOpened {K = K} limits a b (disks.tells given) (disks.seen given) (Err why) →
      OnStore {T = LogOver K} {K = K} (Err why) (Rose (disks.faults given) (disks.faults (store_after {K = K} (Err why)))) →
      disks.tells (store_after {K = K} (Err why)) ≡ disks.tells given → disks.faults given ≤ disks.faults (store_after {K = K} (Err why)) →
      Stays disks given (store_after {K = K} (Err why)) →
      HasLeftOff disks limits given (store_left why) journal (stop_left why)
  stopped (refusal.Foreign store) a b fresh first same of legal opened cause told count stays =
      left_off disks limits given store journal stop.Foreign a b fresh first same of.others of.begins of.own_is legal opened.0
      (λ alone there strings stored restorable. opened.1 alone there strings restorable.0 stored
      (subst (λ n. Restores limits n [] strings restorable.0) (sym (same ∙ first)) restorable.1)) told count stays
  stopped (refusal.Store store) a b fresh first same of legal opened cause told count stays =
      left_off disks limits given store journal stop.Store a b fresh first same of.others of.begins of.own_is legal opened (λ alone. cause) told count stays
  stopped (refusal.Memory store) a b fresh first same of legal opened cause told count stays =
      left_off disks limits given store journal stop.Memory a b fresh first same of.others of.begins of.own_is legal opened (λ alone. tt) told count stays

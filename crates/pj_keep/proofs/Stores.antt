-- The images of a store over its opening and what comes behind it.
use Rattle.std.proofs.Common.{◌≡◌, ℕ, IsTrue, List, ◌++◌, length, inl, sym, subst, arith}
use Rattle.pj_disk.specs.Told.{Where}
use Rattle.pj_disk.specs.Image.{Only}
use Rattle.pj_journal.specs.Stored.{Stores}
use Rattle.pj_journal.proofs.Moments.{and_then, weaker}
use Rattle.pj_stored.specs.Prefixes.{StoresPrefix}
use Rattle.pj_stored.specs.Store.{StaysStored}
use Rattle.pj_stored.proofs.Chained.{prefix}
use Rattle.pj_keep.specs.Disks.{Disks}
use Rattle.pj_keep.specs.Images.{OfList, LeavesPrefixes, KeepsAll}

module _ {K : Type 0} (disks : Disks K) where
  -- from when the first store was given to the second one, each image stores the list
  abbrev pub Stays : K → K → Type 0
  Stays given now = StaysStored disks.tells disks.seen disks.may_leave disks.moment disks.left_since given now

  -- then it stores the list, and behind it a prefix of any strings
  pub stays_prefixes : (given now : K) (more : List (List ℕ)) → Stays given now → OfList disks given now (λ strings. LeavesPrefixes disks given now strings more)
  stays_prefixes given now more stays told strings stored only =
      weaker disks.moment disks.left_since given now (StoresPrefix (length strings) (strings ++ more)) (λ c. Stores c strings)
      (stays told strings stored only) (λ c is. prefix strings more (length strings) c (omega arith) is)

  -- a store to which nothing was done
  pub stays_itself : ((disk : K) (c : List ℕ) → disks.left_since disk (disks.moment disk) c → disks.may_leave disk c) → (given : K) → Stays given given
  stays_itself only_now given told strings stored only = record {
    later = omega arith;
    each = λ c left. subst (λ f. Stores f strings) (sym (only c (only_now given c left))) stored;
    before = λ t c le left. inl left;
  }

  -- what is kept from the opening on is kept from when the store was given
  pub kept_from : (given middle now : K) (Sound : Type 0) (more : List (List ℕ)) → Stays given middle → disks.tells middle ≡ disks.tells given →
      Where (disks.tells given) ((strings : List (List ℕ)) → Stores (disks.seen given) strings → Stores (disks.seen middle) strings) →
      Where (disks.tells middle) (Only (disks.seen middle) (disks.may_leave middle)) →
      OfList disks middle now (λ strings. KeepsAll disks middle now Sound strings more) →
      OfList disks given now (λ strings. KeepsAll disks given now Sound strings more)
  kept_from given middle now Sound more stays same list durable later told strings stored only =
      let there : IsTrue (disks.tells middle) = subst IsTrue (sym same) told in
      let k = later there strings (list told strings stored) (durable there) in
      record {
        moments = and_then disks.moment disks.left_since given middle now (StoresPrefix (length strings) (strings ++ more))
            (StoresPrefix (length strings) (strings ++ more)) (stays_prefixes given middle more stays told strings stored only) k.moments (λ c is. is);
        acknowledged = k.acknowledged;
        all_but_last = k.all_but_last;
      }

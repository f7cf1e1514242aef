-- What a look at the fields says of the state that the journal leads to.
use Rattle.std.proofs.Common.{◌≡◌, ◌<◌, ◌≤◌, ℕ, List, [], refl, sym, ◌∙◌, ap, subst, Bool, true, false, cond, length, arith, Some, None, Ok, Err, IsTrue, Bor, nat_lt}
use Rattle.std.specs.Prelude.{Option, MatchOption, Result, OnOk, codes}
use Rattle.std.specs.Result.{is_err}
use Rattle.std.proofs.lemmas.Bool.{leb-true, le-leb}
use Rattle.std.specs.Option.{option_map, option_copied}
use Rattle.std.specs.Str.{bytes_eq}
use Rattle.std.specs.BTreeMap.{BTreeMap, get, Updates}
use Rattle.std.specs.declared.sync.Arc.{Arc}
use Rattle.std.proofs.lemmas.Map.Text.{is_eq-slice_cmp}
use Rattle.std.proofs.lemmas.Bool.Decides.{nat_tests}
use lib.Dec.{leb}
use Rattle.pj_name.specs.declared.name.Name.{Name}
use Rattle.pj_change.specs.declared.change.Record.{Record}
use Rattle.pj_change.specs.Lawful.{record_of}
use Rattle.pj_machine.specs.declared.channel_name.ChannelName.{ChannelName}
use Rattle.pj_machine.specs.declared.journal.Entry.{Entry}
use Rattle.pj_machine.specs.declared.limits.Limits.{Limits}
use Rattle.pj_machine.specs.ChannelName.{channel_cmp}
use Rattle.pj_machine.specs.Replay.{IsReplay}
use Rattle.pj_machine.specs.State.{State, opening}
use Rattle.pj_machine.proofs.Replays.{replay_one}
use Rattle.pj_change.proofs.Members.{not_nil}
use Rattle.pj_state.specs.declared.standing.Standing.{Standing}
use Rattle.pj_state.specs.IsKept.{IsStore, IsKept, standing, standing_of}
use Rattle.pj_state.specs.Kept.{Kept, kept}
use Rattle.pj_state.specs.LastEntry.{last_of}
use Rattle.pj_state.specs.Records.{record_in}

module _ {Z : Type 0} (limits : Limits) (journal : List Entry) (pairs : List (Name × Arc Record Z)) (bytes : ℕ) (channels : BTreeMap ChannelName Standing)
    (h : IsKept limits journal pairs bytes channels) (k : Kept) (seen : kept limits journal ≡ k) (s : State) (r : IsReplay k.journal s) where
  -- there is one state
  pub state_is : h.state ≡ s
  state_is = replay_one journal h.state s h.replayed (subst (λ (x : Kept). IsReplay x.journal s) (sym seen) r)

  pub record_is : (name : Name) → record_in pairs name ≡ record_of s.store name
  record_is name = h.store.records name ∙ ap (λ (t : State). record_of t.store name) state_is

  pub standing_is : (name : ChannelName) → get channel_cmp channels name ≡ standing_of s k.journal name
  standing_is name = h.each name ∙ ap (λ (t : State). standing_of t journal name) state_is ∙ ap (λ (x : Kept). standing_of s x.journal name) seen

  pub store_full : IsStore limits s pairs bytes
  store_full = subst (λ (t : State). IsStore limits t pairs bytes) state_is h.store

-- what was found of a channel
pub match_standing : (o : Option (Bor Standing)) (l : Option (List Record)) (n : ℕ) → option_copied o ≡ option_map (λ list. standing list n) l → MatchOption o (l ≡ None) (λ c. option_map (λ list. standing list n) l ≡ Some c.now)
match_standing None None n e = refl
match_standing None (Some list) n e = absurd (cc)
match_standing (Some c) l n e = sym e

pub le_iff : (a b m n : ℕ) → a ≡ m → b ≡ n → (IsTrue (leb a b) → m ≤ n) × (m ≤ n → IsTrue (leb a b))
le_iff a b m n e f = (λ t. (let x : a ≤ b = leb-true a b t in omega arith), λ g. (let x : a ≤ b = omega arith in le-leb a b x))

pub lt_iff : (a b : ℕ) → (IsTrue (nat_lt a b) → a < b) × (a < b → IsTrue (nat_lt a b))
lt_iff a b = (λ t. grind (arith, nat_tests), λ g. grind (arith, nat_tests))

-- what holds where a call did not fail
pub came_back : {A E : Type 0} (r : Result A E) (P : Type 0) → OnOk r P → is_err r ≡ false → P
came_back (Ok a) P h e = h
came_back (Err x) P h e = absurd (cc)

-- nothing was entered
pub kept_opening : {Z : Type 0} (limits : Limits) (items : List Entry) (pairs : List (Name × Arc Record Z)) (bytes : ℕ) (before after : BTreeMap ChannelName Standing) (name : ChannelName) (list : List Record) →
    items ≡ [] → pairs ≡ [] → bytes ≡ 0 → before.entries ≡ [] → name ≡ codes "main" → list ≡ [] → Updates channel_cmp before after name (Some (standing list 0)) → IsKept limits items pairs bytes after
kept_opening {Z} limits items pairs bytes before after name list no_items no_pairs no_bytes empty named none updates = record {
  legal = record {
    few = (let n = ap length no_items in omega arith);
    each = λ a x b e. absurd (not_nil a x b (sym no_items ∙ e));
  };
  state = opening;
  replayed = subst (λ j. IsReplay j opening) (sym no_items) refl;
  store = record {
    records = λ q. ap (λ m. record_in m q) no_pairs;
    count = ap length no_pairs;
    bytes_are = no_bytes;
    few = omega arith;
  };
  each = λ q. updates.0 q ∙ ap (λ b. cond b (Some (standing list 0)) (get channel_cmp before q)) (is_eq-slice_cmp name q ∙ ap (λ n. bytes_eq n q) named)
      ∙ ap (λ l. cond (bytes_eq (codes "main") q) (Some (standing l 0)) (get channel_cmp before q)) none ∙ nothing q ∙ go q (bytes_eq (codes "main") q) refl;
}
  where
    nothing : (q : ChannelName) → cond (bytes_eq (codes "main") q) (Some (standing [] 0)) (get channel_cmp before q) ≡ cond (bytes_eq (codes "main") q) (Some (standing [] 0)) None
    nothing q = rw empty refl

    go : (q : ChannelName) (b : Bool) → bytes_eq (codes "main") q ≡ b → cond (bytes_eq (codes "main") q) (Some (standing [] 0)) None ≡ standing_of opening items q
    go q true f = (let n = ap (last_of q) no_items in rw (f, n) refl)
    go q false f = rw f refl

-- An exchange that comes to its end leaves the union on both sides.
use Rattle.std.proofs.Common.{◌≡◌, ℕ, List, [], ◌++◌, drop, take, refl, sym, ◌∙◌, subst, inl, inr, append-nil}
use Rattle.std.specs.Prelude.{Contains, Some}
use Rattle.std.proofs.lemmas.List.{take-append-drop}
use Rattle.pj_name.specs.Name.{same_name}
use Rattle.pj_change.specs.declared.change.Record.{Record}
use Rattle.pj_change.specs.Lawful.{record_of}
use Rattle.pj_change.specs.Sets.{HaveOneText}
use Rattle.pj_change.specs.Union.{union}
use Rattle.pj_change.proofs.AgreeingPrints.{one_print}
use Rattle.pj_change.proofs.EqualRecords.{one_text_within}
use Rattle.pj_change.proofs.LawfulLists.{append_cases, first_part, second_part}
use Rattle.pj_change.proofs.OneGraph.{one_graph}
use Rattle.pj_change.proofs.Unions.{union_commutes, union_one_text}
use Rattle.pj_machine.specs.declared.channel_name.ChannelName.{ChannelName}
use Rattle.pj_machine.specs.declared.journal.Entry.{Entry}
use Rattle.pj_machine.specs.declared.limits.Limits.{Limits}
use Rattle.pj_machine.specs.Legal.{IsLegal}
use Rattle.pj_machine.specs.Replay.{IsReplay}
use Rattle.pj_machine.specs.State.{State}
use Rattle.pj_machine.proofs.Found.{found_by}
use Rattle.pj_machine.proofs.SoundStates.{AreStored, list_stored, none_stored}
use Rattle.pj_machine.proofs.SoundSteps.{legal_replay, legal_sound}
use Rattle.pj_session.specs.Calls.{Chain}
use Rattle.pj_exchange.specs.Events.{asked, told, sent, got}
use Rattle.pj_exchange.specs.Laws.{ExchangeUnites, UnitedAgree}
use Rattle.pj_exchange.specs.Phases.{Asking, Over}
use Rattle.pj_exchange.specs.Sides.{HasListAt}
use Rattle.pj_exchange.proofs.Beginning.{own_starts, sent_starts, side_runs, list_at, StartsWithLog}
use Rattle.pj_exchange.proofs.Opening.{arrives}
use Rattle.pj_exchange.proofs.SideSteps.{Links, kept, legal_prefix}

-- the law
pub exchange_unites : ExchangeUnites
exchange_unites c run limits others here there pass other runs own peer =
    let whole = legal_replay limits here own.legal in
    let end = legal_replay others there peer.legal in
    let starts = subst (λ l. StartsWithLog c (asked l) (told l)) (append-nil run) (own_starts c run [] Over runs (λ e. tt)) in
    let first = subst (λ l. StartsWithLog c (sent l) (got l)) (append-nil run) (sent_starts c Asking run [] Over tt runs (λ early. tt)) in
    let mine = side_runs limits here pass c (asked run) (told run) own starts whole.0 whole.1 in
    let theirs = side_runs others there other c (sent run) (got run) peer first end.0 end.1 in
    let a = arrives limits others c whole.0.store end.0.store mine.old theirs.old Asking run [] Over mine.old theirs.old mine.new theirs.new runs
    (subst (λ l. Chain (λ o x r n. Links limits c whole.0.store o x r n) mine.old (asked l) (told l) mine.new) (sym (append-nil run)) mine.chain)
    (subst (λ l. Chain (λ o x r n. Links others c end.0.store o x r n) theirs.old (sent l) (got l) theirs.new) (sym (append-nil run)) theirs.chain)
    (refl, refl) in
    let met = a.opens in
    record {
      mine = met.mine;
      theirs = met.theirs;
      mine_are = list_at here c _ mine.old met.mine mine.first met.mine_are;
      theirs_are = list_at there c _ theirs.old met.theirs theirs.first (inl met.theirs_are);
      here_is = list_at here c _ mine.new (union met.mine met.theirs) mine.last (inl (a.rest_here ∙ met.stands.0));
      there_is = list_at there c _ theirs.new (union met.theirs met.mine) theirs.last (inl (a.rest_there ∙ met.stands.1));
    }

-- ---- one graph and one print

-- a change that is found in the store is a member
pub stored_member : (store : List Record) (r : Record) → record_of store r.name ≡ Some r → Contains store r
stored_member store r there = (found_by (λ q. same_name q.name r.name) store r there).member

-- lists of two stores that have one text for each name, taken together, have so too
pub lists_one_text : (own other mine theirs : List Record) → HaveOneText (own ++ other) → AreStored own mine → AreStored other theirs →
    HaveOneText (mine ++ theirs)
lists_one_text own other mine theirs one stored stored' =
    one_text_within (own ++ other) (mine ++ theirs) one (λ r m. elim (append_cases mine theirs r m) [
      | inl k ↦ first_part own other r (stored_member own r (stored r k))
      | inr k ↦ second_part own other r (stored_member other r (stored' r k))
    ])

-- the changes that a channel has at a place are in the store after all
stored_at : (limits : Limits) (journal : List Entry) (c : ChannelName) (place : ℕ) (list : List Record) → IsLegal limits journal → (whole : State) →
    IsReplay journal whole →
    HasListAt journal place c list → AreStored whole.store list
stored_at limits journal c place list legal whole all at =
    let stands : journal ≡ take place journal ++ drop place journal = sym (take-append-drop place journal) in
    let sound = legal_sound limits (take place journal) at.0 (legal_prefix limits journal (take place journal) (drop place journal) legal stands) at.1 in
    elim at.2 [
      | inl e ↦ λ r m. kept limits journal 0 c legal whole all (take place journal) (drop place journal) stands at.0 at.1 r.name r
          (list_stored at.0 c list sound e r m)
      | inr e ↦ subst (λ l. AreStored whole.store l) (sym e.1) (none_stored whole.store)
    ]

-- the law
pub united_agree : UnitedAgree
united_agree c limits others here from to there low high u legal legal' together =
    let whole = legal_replay limits here legal in
    let end = legal_replay others there legal' in
    let unique : HaveOneText (u.mine ++ u.theirs) =
    lists_one_text whole.0.store end.0.store u.mine u.theirs (together whole.0 end.0 whole.1 end.1)
    (stored_at limits here c from u.mine legal whole.0 whole.1 u.mine_are) (stored_at others there c low u.theirs legal' end.0 end.1 u.theirs_are) in
    let same = union_commutes u.mine u.theirs unique in
    let a : List Record = union u.mine u.theirs in
    let b : List Record = union u.theirs u.mine in
    (same, λ g h x y. one_graph a b g h same x y, one_print a b (union_one_text u.mine u.theirs unique) same)

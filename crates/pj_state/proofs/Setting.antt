-- What each write that gives a channel a list does.
use Rattle.std.proofs.Common.{◌≡◌, List, [], ◌∷◌, ◌++◌, refl, ap, inl, inr}
use Rattle.std.specs.Prelude.{Some, None}
use Rattle.pj_name.specs.declared.name.Name.{Name}
use Rattle.pj_change.specs.declared.change.Record.{Record}
use Rattle.pj_change.specs.Lawful.{record_of}
use Rattle.pj_change.specs.Sets.{HaveOneText}
use Rattle.pj_change.specs.Union.{union}
use Rattle.pj_change.specs.Unrecord.{without}
use Rattle.pj_change.specs.Uproot.{IsUprooted}
use Rattle.pj_change.proofs.LawfulLists.{append_cases}
use Rattle.pj_machine.specs.declared.channel_name.ChannelName.{ChannelName}
use Rattle.pj_machine.specs.declared.command.Write.TheVariants as write
use Rattle.pj_machine.specs.Sound.{IsSound}
use Rattle.pj_machine.specs.State.{State, list_of, with_channel, with_list}
use Rattle.pj_machine.proofs.SoundStates.{list_stored, stored_one_text}
use Rattle.pj_state.specs.Installs.{Sets}
use Rattle.pj_state.proofs.Lists.{list_with_channel, list_with_list}

module _ (s : State) (name : ChannelName) where
  pub sets_new : list_of s name ≡ None → Sets s (write.New name) name []
  sets_new none = record { to = with_channel s name []; steps = refl; store = refl; lists = list_with_channel s name [] none; changed = λ other. refl }

  pub sets_fork : (from : ChannelName) (list : List Record) → list_of s from ≡ Some list → list_of s name ≡ None → Sets s (write.Fork from name) name list
  sets_fork from list e none = record { to = with_channel s name list; steps = (list, e, refl); store = refl; lists = list_with_channel s name list none; changed = λ other. refl }

  module _ (list : List Record) (e : list_of s name ≡ Some list) where
    pub sets_apply : (change : Name) (r : Record) → record_of s.store change ≡ Some r → (after : List Record) → after ≡ list ++ r ∷ [] → Sets s (write.Apply name change) name after
    sets_apply change r stored after is = record {
      to = with_list s name after;
      steps = (list, r, e, stored, ap (with_list s name) is);
      store = refl;
      lists = list_with_list s name after list e;
      changed = λ other. refl;
    }

    pub sets_unrecord : (change : Name) (after : List Record) → after ≡ without list change → Sets s (write.Unrecord name change) name after
    sets_unrecord change after is = record {
      to = with_list s name after;
      steps = (list, e, ap (with_list s name) is);
      store = refl;
      lists = list_with_list s name after list e;
      changed = λ other. refl;
    }

    pub sets_uproot : (change : Name) (after : List Record) → IsUprooted list change after → Sets s (write.Uproot name change) name after
    sets_uproot change after is = record {
      to = with_list s name after;
      steps = (list, after, e, is, refl);
      store = refl;
      lists = list_with_list s name after list e;
      changed = λ other. refl;
    }

    pub sets_pull : (from : ChannelName) (other : List Record) → list_of s from ≡ Some other → (after : List Record) → after ≡ union list other → Sets s (write.Pull name from) name after
    sets_pull from other f after is = record {
      to = with_list s name after;
      steps = (list, other, e, f, ap (with_list s name) is);
      store = refl;
      lists = list_with_list s name after list e;
      changed = λ q. refl;
    }

-- two channels of one sound state have one text for each name
pub one_text : (s : State) → IsSound s → (into from : ChannelName) (list other : List Record) → list_of s into ≡ Some list → list_of s from ≡ Some other → HaveOneText (list ++ other)
one_text s sound into from list other e f =
    stored_one_text s.store (list ++ other) (λ r m. elim (append_cases list other r m) [
      | inl n ↦ list_stored s into list sound e r n
      | inr n ↦ list_stored s from other sound f r n
    ])

-- What a journal leads to.
use Rattle.std.proofs.Common.{◌≡◌, List, [], ◌∷◌, ◌++◌, refl, sym, ◌∙◌, ap, subst}
use Rattle.std.proofs.lemmas.Option.{same_Some}
use Rattle.pj_change.specs.declared.change.Record.{Record}
use Rattle.pj_change.specs.Union.{union}
use Rattle.pj_change.specs.Unrecord.{without}
use Rattle.pj_change.specs.Uproot.{IsWithout, Reaches}
use Rattle.pj_change.proofs.Without.{without_one}
use Rattle.pj_machine.specs.declared.channel_name.ChannelName.{ChannelName}
use Rattle.pj_machine.specs.declared.command.Write.{Write}
use Rattle.pj_machine.specs.declared.command.Write.TheVariants as write
use Rattle.pj_machine.specs.declared.journal.Entry.{Entry}
use Rattle.pj_machine.specs.State.{State, opening, with_channel, with_list}
use Rattle.pj_machine.specs.Step.{IsListOf, Steps}
use Rattle.pj_machine.specs.Replay.{Leads, IsReplay}

-- ---- at most one state

one_list_of : (s : State) (name : ChannelName) (a b : List Record) → IsListOf s name a → IsListOf s name b → a ≡ b
one_list_of s name a b e f = same_Some a b (sym e ∙ f)

pub steps_one : (s : State) (w : Write) (t u : State) → Steps s w t → Steps s w u → t ≡ u
steps_one s (write.Put r) t u a b = a ∙ sym b
steps_one s (write.New name) t u a b = a ∙ sym b
steps_one s (write.Fork from to) t u a b = a.2 ∙ ap (λ list. with_channel s to list) (one_list_of s from a.0 b.0 a.1 b.1) ∙ sym b.2
steps_one s (write.Drop name) t u a b = a ∙ sym b
steps_one s (write.Apply name change) t u a b =
    let list = one_list_of s name a.0 b.0 a.2 b.2 in
    let r = same_Some a.1 b.1 (sym a.3 ∙ b.3) in
    a.4 ∙ (λ i. with_list s name (list i ++ r i ∷ [])) ∙ sym b.4
steps_one s (write.Unrecord name change) t u a b = a.2 ∙ ap (λ list. with_list s name (without list change)) (one_list_of s name a.0 b.0 a.1 b.1) ∙ sym b.2
steps_one s (write.Uproot name change) t u a b =
    let list = one_list_of s name a.0 b.0 a.2 b.2 in
    let there = subst (λ list. IsWithout (Reaches list change) list a.1) list a.3 in
    let rest = without_one (Reaches b.0 change) b.0 a.1 b.1 there b.3 in
    a.4 ∙ ap (λ rest. with_list s name rest) rest ∙ sym b.4
steps_one s (write.Pull into from) t u a b =
    let list = one_list_of s into a.0 b.0 a.2 b.2 in
    let other = one_list_of s from a.1 b.1 a.3 b.3 in
    a.4 ∙ (λ i. with_list s into (union (list i) (other i))) ∙ sym b.4

leads_one : (s : State) (entries : List Entry) (t u : State) → Leads s entries t → Leads s entries u → t ≡ u
leads_one s [] t u a b = a ∙ sym b
leads_one s (e ∷ entries) t u a b =
    let same = steps_one s e.write a.0 b.0 a.1 b.1 in
    leads_one b.0 entries t u (subst (λ m. Leads m entries t) same a.2) b.2

pub replay_one : (journal : List Entry) (s t : State) → IsReplay journal s → IsReplay journal t → s ≡ t
replay_one journal s t a b = leads_one opening journal s t a b

-- ---- one entry more

pub leads_push : (s : State) (entries : List Entry) (e : Entry) (t u : State) → Leads s entries t → Steps t e.write u → Leads s (entries ++ e ∷ []) u
leads_push s [] e t u a b = (u, subst (λ x. Steps x e.write u) a b, refl)
leads_push s (f ∷ entries) e t u a b = (a.0, a.1, leads_push a.0 entries e t u a.2 b)

-- The sets of the channels after the journal of a large run.
use Rattle.std.proofs.Common.{◌≡◌, ◌==◌, ℕ, zero, suc, ◌<◌, ◌+◌, ◌-◌, ◌%◌, Bool, true, false, not, cond, ◌&&◌, ◌||◌, List, [], ◌∷◌, ◌++◌, map, get_or, inl, inr, refl, sym, ◌∙◌, ap, subst, arith, Some}
use Rattle.std.specs.Prelude.{◌≢◌, AllPairs, All, Contains, if◌then◌else◌}
use Rattle.std.specs.Str.{bytes_eq}
use Rattle.std.specs.List.{list_any}
use Rattle.std.proofs.lemmas.Bool.Decides.{eqb_tells}
use Rattle.std.proofs.lemmas.Nat.{mod_below}
use Rattle.std.proofs.lemmas.List.{get_or_default, map-append}
use Rattle.std.proofs.lemmas.List.Elements.{Contains-append_cases}
use Rattle.std.proofs.Math.Bool.{or-false}
use mathlib.Core.Logic.{dite}
use native.Mathlib.Decide.{dec_le}
use Rattle.pj_name.specs.declared.name.Name.{Name}
use Rattle.pj_name.specs.Name.{name_of, same_name}
use Rattle.pj_change.specs.declared.change.Record.{Record}
use Rattle.pj_change.specs.Lawful.{is_held, IsLawful}
use Rattle.pj_change.proofs.EqualNames.{same_name_is, is_same_name}
use Rattle.pj_change.proofs.LawfulLists.{held, held_member}
use Rattle.pj_change.proofs.Members.{any_member, passes, uncons, first_member, later_member, no_member, each}
use Rattle.pj_change.proofs.PickedMembers.{image, mapped, kept, passed}
use Rattle.pj_machine.specs.declared.channel_name.ChannelName.{ChannelName}
use Rattle.pj_machine.specs.declared.command.Command.{Command}
use Rattle.pj_machine.specs.declared.command.Command.TheVariants as command
use Rattle.pj_machine.specs.declared.journal.Entry.{Entry}
use Rattle.pj_machine.specs.declared.limits.Limits.{Limits}
use Rattle.pj_machine.specs.Call.{entries_of}
use Rattle.pj_machine.specs.Entries.{commands}
use Rattle.pj_machine.specs.Legal.{IsLegal, command_of}
use Rattle.pj_machine.specs.Replay.{Leads, IsReplay}
use Rattle.pj_machine.specs.Sound.{IsSound}
use Rattle.pj_machine.specs.State.{State, opening, list_of}
use Rattle.pj_machine.proofs.Found.{found_by}
use Rattle.pj_machine.proofs.SoundStates.{list_lawful, list_stored}
use Rattle.pj_machine.proofs.SoundSteps.{legal_sound}
use Rattle.pj_gen.specs.Changes.{eight, line_name, zero_text, zero_name, change_text}
use Rattle.pj_gen.specs.Requests.{main, opening_requests, session_requests}
use Rattle.pj_gen.specs.Summary.{line_texts, all_texts, IsSetOf}
use Rattle.pj_load.specs.Stages.{IsLoaded}
use Rattle.pj_load.specs.Stands.{IsPlain, stands_after, stands, HasList}
use Rattle.pj_load.proofs.Channels.{plain_steps, stored, once}
use Rattle.pj_load.proofs.Scripts.{named_in, line_stands, zero_in, text_cases, line_in, IsOwn, own_plain, other_line, session_commands, applied_in}
use Rattle.pj_load.proofs.Prelude.{HasZero, prelude_leads}

-- ---- a set by its names

-- texts whose names differ are one where their names are
one_named : (texts : List (List ℕ)) → AllPairs (λ a b. name_of a ≢ name_of b) texts → (a b : List ℕ) → Contains texts a → Contains texts b → name_of a ≡ name_of b → a ≡ b
one_named texts apart a b m n same =
    let at : get_or texts n.0 a ≡ b = get_or_default texts n.0 a b n.1 ∙ n.2 in
    dite (dec_le (m.0 + 1) n.0)
    (λ lt. absurd (apart m.0 n.0 a (omega (arith, lt)) n.1 (ap name_of m.2 ∙ same ∙ sym (ap name_of at))))
    (λ ge. dite (dec_le (n.0 + 1) m.0)
    (λ lt. absurd (apart n.0 m.0 a (omega (arith, lt)) m.1 (ap name_of at ∙ sym same ∙ sym (ap name_of m.2))))
    (λ le. let is : m.0 ≡ n.0 = omega (arith, ge, le) in sym m.2 ∙ ap (λ k. get_or texts k a) is ∙ at))

named_text : (texts : List (List ℕ)) (name : Name) → named_in texts name ≡ true → (t : List ℕ) × Contains texts t × (name_of t ≡ name)
named_text texts name h = let p = passes (λ t. same_name (name_of t) name) texts h in (p.it, p.member, same_name_is (name_of p.it) name p.is)

text_named : (texts : List (List ℕ)) (text : List ℕ) → Contains texts text → named_in texts (name_of text) ≡ true
text_named texts text m = any_member (λ t. same_name (name_of t) (name_of text)) texts text m (is_same_name (name_of text) (name_of text) refl)

pub set_is : (texts all : List (List ℕ)) (list : List Record) → ((t : List ℕ) → Contains texts t → Contains all t) → AllPairs (λ a b. name_of a ≢ name_of b) all → IsLawful list
    → ((name : Name) → is_held list name ≡ named_in texts name) → ((r : Record) → Contains list r → Contains all r.text) → IsSetOf texts list
set_is texts all list within apart lawful members told = record {
  once = once list lawful;
  each = λ text m.
      let r = held list (name_of text) (members (name_of text) ∙ text_named texts text m) in
      let same : r.0.text ≡ text = one_named all apart r.0.text text (told r.0 r.1.member) (within text m) (sym r.0.named ∙ r.1.named) in
      subst (λ t. Contains (map (λ (q : Record). q.text) list) t) same (mapped (λ (q : Record). q.text) list r.0 r.1.member);
  only = λ text m.
      let r = image (λ (q : Record). q.text) list text m in
      let t = named_text texts r.it.name (sym (members r.it.name) ∙ held_member list r.it.name r.it (record { member = r.member; named = refl })) in
      let same : t.0 ≡ r.it.text = one_named all apart t.0 r.it.text (within t.0 t.1) (told r.it r.member) (t.2 ∙ r.it.named) in
      subst (λ x. Contains texts x) (same ∙ r.is) t.1;
}

-- ---- entries of one pass among others

-- where no other pass has a command that matters, those of the pass matter alone
only_own : (c : ChannelName) (name : Name) (p : ℕ) (es : List Entry) → ((e : Entry) → Contains es e → e.pass ≢ p → (v : Bool) → stands_after c name (command_of e.write) v ≡ v)
    → (v : Bool) → stands c name (commands es) v ≡ stands c name (commands (entries_of p es)) v
only_own c name p [] quiet v = refl
only_own c name p (e ∷ es) quiet v = elim (eqb_tells e.pass p) [
  | inl own ↦ only_own c name p es (λ f m. quiet f (later_member e es f m)) (stands_after c name (command_of e.write) v)
      ∙ sym (ap (λ b. stands c name (commands (cond b (e ∷ entries_of p es) (entries_of p es))) v) own.0)
  | inr other ↦ ap (λ b. stands c name (commands es) b) (quiet e (first_member e es) other.1 v) ∙ only_own c name p es (λ f m. quiet f (later_member e es f m)) v
      ∙ sym (ap (λ b. stands c name (commands (cond b (e ∷ entries_of p es) (entries_of p es))) v) other.0)
]

leads_split : (s t : State) (a b : List Entry) → Leads s (a ++ b) t → (m : State) × Leads s a m × Leads m b t
leads_split s t [] b leads = (s, refl, leads)
leads_split s t (e ∷ a) b leads = let rest = leads_split leads.0 t a b leads.2 in (rest.0, (leads.0, leads.1, rest.1), rest.2)

-- ---- `main`

-- it is an application of the change to `main`
abbrev applies : Name → Command → Bool
applies name (command.Apply c change) = bytes_eq c main && same_name change name
applies name x = false

main_step : (texts : List (List ℕ)) (sessions s : ℕ) (name : Name) (x : Command) (v : Bool) → IsOwn texts sessions s x → stands_after main name x v ≡ (v || applies name x)
main_step texts sessions s name (command.Put text) v is = sym (or-false v)
main_step texts sessions s name (command.Apply c change) v is = go (bytes_eq c main) (same_name change name) v
  where
    go : (a m b : Bool) → (if a then b || m else b) ≡ (b || (a && m))
    go true m b = refl
    go false m true = refl
    go false m false = refl
main_step texts sessions s name (command.Unrecord c change) v is = ap (λ n. if bytes_eq n main then v && not (same_name change name) else v) is.3 ∙ sym (or-false v)
main_step texts sessions s name (command.Get n) v is = absurd is
main_step texts sessions s name (command.Inverse n) v is = absurd is
main_step texts sessions s name (command.New n) v is = absurd is
main_step texts sessions s name (command.Fork from to) v is = absurd is
main_step texts sessions s name (command.Drop n) v is = absurd is
main_step texts sessions s name (command.Uproot n change) v is = absurd is
main_step texts sessions s name (command.Pull into from) v is = absurd is
main_step texts sessions s name (command.Graph n) v is = absurd is
main_step texts sessions s name (command.Print n) v is = absurd is
main_step texts sessions s name (command.Log n) v is = absurd is
main_step texts sessions s name command.Channels v is = absurd is
main_step texts sessions s name command.Journal v is = absurd is
main_step texts sessions s name command.Quit v is = absurd is

main_stands : (name : Name) (xs : List Command) → ((x : Command) → Contains xs x → (v : Bool) → stands_after main name x v ≡ (v || applies name x)) → (v : Bool) → stands main name xs v ≡ (v || list_any (applies name) xs)
main_stands name [] each v = sym (or-false v)
main_stands name (x ∷ xs) each v =
    main_stands name xs (λ y m. each y (later_member x xs y m)) (stands_after main name x v) ∙ ap (λ b. b || list_any (applies name) xs) (each x (first_member x xs) v) ∙ or_assoc v (applies name x) (list_any (applies name) xs)
  where
    or_assoc : (a b c : Bool) → ((a || b) || c) ≡ (a || (b || c))
    or_assoc true b c = refl
    or_assoc false b c = refl

applied_own : (texts : List (List ℕ)) (sessions s : ℕ) (name : Name) (x : Command) → IsOwn texts sessions s x → applies name x ≡ true → named_in texts name ≡ true
applied_own texts sessions s name (command.Apply c change) (inl line) h = absurd (let no : applies name (command.Apply c change) ≡ false = ap (λ n. bytes_eq n main && same_name change name) line.3 in let k : true ≡ false = sym h ∙ no in cc)
applied_own texts sessions s name (command.Apply c change) (inr at) h =
    let is : (bytes_eq main main && same_name change name) ≡ true = sym (ap (λ n. bytes_eq n main && same_name change name) at.0) ∙ h in
    subst (λ n. named_in texts n ≡ true) (same_name_is change name is) at.1
applied_own texts sessions s name (command.Put text) is h = absurd (cc h)
applied_own texts sessions s name (command.Unrecord c change) is h = absurd (cc h)
applied_own texts sessions s name (command.Get n) is h = absurd is
applied_own texts sessions s name (command.Inverse n) is h = absurd is
applied_own texts sessions s name (command.New n) is h = absurd is
applied_own texts sessions s name (command.Fork from to) is h = absurd is
applied_own texts sessions s name (command.Drop n) is h = absurd is
applied_own texts sessions s name (command.Uproot n change) is h = absurd is
applied_own texts sessions s name (command.Pull into from) is h = absurd is
applied_own texts sessions s name (command.Graph n) is h = absurd is
applied_own texts sessions s name (command.Print n) is h = absurd is
applied_own texts sessions s name (command.Log n) is h = absurd is
applied_own texts sessions s name command.Channels is h = absurd is
applied_own texts sessions s name command.Journal is h = absurd is
applied_own texts sessions s name command.Quit is h = absurd is

-- ---- texts that are stored

opening_puts : (text : List ℕ) → Contains opening_requests (command.Put text) → zero_text ≡ text
unfolding opening_requests
opening_puts text m = elim (uncons (command.Put zero_text) (command.Apply main zero_name ∷ map (λ l. command.Fork main (line_name l)) eight) (command.Put text) m) [
  | inl e ↦ (let k : zero_text ≡ text = cc in k)
  | inr n ↦ elim (uncons (command.Apply main zero_name) (map (λ l. command.Fork main (line_name l)) eight) (command.Put text) n) [
    | inl e ↦ absurd (cc e)
    | inr f ↦ (let i = image (λ l. command.Fork main (line_name l)) eight (command.Put text) f in absurd (let e = i.is in cc e))
  ]
]

own_puts : (texts : List (List ℕ)) (sessions s : ℕ) (text : List ℕ) → IsOwn texts sessions s (command.Put text) → Contains texts text
own_puts texts sessions s text is = is

-- ---- the whole journal

module _ (number sessions n : ℕ) (some : 0 < sessions) (prelude rest : List Entry) (loaded : IsLoaded number sessions n prelude rest) where
  abbrev texts : List (List ℕ)
  texts = all_texts number n

  -- a command of the rest is one of a session
  own : (e : Entry) → Contains rest e → IsOwn texts sessions (e.pass - 2) (command_of e.write)
  own e m =
      let p = loaded.passes_are e m in
      let low = p.0 in let high = p.1 in
      let pass : e.pass - 2 + 2 ≡ e.pass = omega arith in
      let itself : (e.pass == e.pass) ≡ true = elim (eqb_tells e.pass e.pass) [ inl h ↦ h.0 | inr h ↦ absurd (h.1 refl) ] in
      let there : Contains (entries_of e.pass rest) e = kept (λ f. f.pass == e.pass) rest e m itself in
      let asked : Contains (commands (entries_of e.pass rest)) (command_of e.write) = mapped (λ f. command_of f.write) (entries_of e.pass rest) e there in
      let in_script : Contains (session_requests number sessions (e.pass - 2) n) (command_of e.write) =
      subst (λ l. Contains l (command_of e.write)) (ap (λ k. commands (entries_of k rest)) (sym pass) ∙ loaded.sessions_are (e.pass - 2) (omega arith)) asked in
      let at : get_or (session_requests number sessions (e.pass - 2) n) in_script.0 (command_of e.write) ≡ command_of e.write = in_script.2 in
      subst (λ x. IsOwn texts sessions (e.pass - 2) x) at (session_commands number sessions (e.pass - 2) n in_script.0 (command_of e.write) in_script.1)

  from_entry : (x : Command) → Contains (commands rest) x → (e : Entry) × Contains rest e × (command_of e.write ≡ x)
  from_entry x m = let i = image (λ f. command_of f.write) rest x m in (i.it, i.member, i.is)

  plain : All IsPlain (commands rest)
  plain k d lt =
      let x = get_or (commands rest) k d in
      let e = from_entry x (k, lt, get_or_default (commands rest) k x d lt) in
      subst IsPlain e.2 (own_plain texts sessions (e.0.pass - 2) (command_of e.0.write) (own e.0 e.1))

  module _ (limits : Limits) (t : State) (legal : IsLegal limits (prelude ++ rest)) (replayed : IsReplay (prelude ++ rest) t) (apart : AllPairs (λ a b. name_of a ≢ name_of b) (all_texts number n)) where
    parts : (m : State) × Leads opening prelude m × Leads m rest t
    parts = leads_split opening t prelude rest replayed

    sound : IsSound t
    sound = legal_sound limits (prelude ++ rest) t legal replayed

    -- a channel that the prelude leaves
    after : (c : ChannelName) (has : HasZero parts.0 c) → HasList t c has.list (commands rest)
    after c has = plain_steps parts.0 t rest c has.list plain parts.2 has.is

    -- the texts of all changes that are stored
    told : (c : ChannelName) (list : List Record) → list_of t c ≡ Some list → (r : Record) → Contains list r → Contains (all_texts number n) r.text
    told c list is r m =
        let there : Contains t.store r = (found_by (λ q. same_name q.name r.name) t.store r (list_stored t c list sound is r m)).member in
        elim (stored opening t (prelude ++ rest) r replayed there) [
          | inl none ↦ absurd (no_member r none)
          | inr put ↦ elim (Contains-append_cases (commands prelude) (commands rest) (command.Put r.text) (subst (λ l. Contains l (command.Put r.text)) (map-append (λ e. command_of e.write) prelude rest) put)) [
            | inl first ↦ subst (λ x. Contains (all_texts number n) x) (opening_puts r.text (subst (λ l. Contains l (command.Put r.text)) loaded.prelude_is first)) (zero_in number n)
            | inr later ↦ (let e = from_entry (command.Put r.text) later in own_puts texts sessions (e.0.pass - 2) r.text (subst (λ x. IsOwn texts sessions (e.0.pass - 2) x) e.2 (own e.0 e.1)))
          ]
        ]

    -- the channel has this set
    pub record HasSet (c : ChannelName) (its : List (List ℕ)) : Type 0 where
      pub list : List Record
      pub is : list_of t c ≡ Some list
      pub set : IsSetOf its list

    has_set : (c : ChannelName) (its : List (List ℕ)) → HasZero parts.0 c → ((text : List ℕ) → Contains its text → Contains (all_texts number n) text)
        → ((name : Name) → stands c name (commands rest) (same_name zero_name name) ≡ named_in its name) → HasSet c its
    has_set c its has within stand =
        let h = after c has in
        record {
          list = h.list;
          is = h.is;
          set = set_is its (all_texts number n) h.list within apart (list_lawful t c h.list sound h.is)
              (λ name. h.members name ∙ ap (λ b. stands c name (commands rest) b) (has.members name) ∙ stand name) (told c h.list h.is);
        }

    pub line_set : (l : ℕ) → l < 8 → HasSet (line_name l) (line_texts number l n)
    line_set l lt = has_set (line_name l) (line_texts number l n) ((prelude_leads parts.0 prelude loaded.prelude_is parts.1).1 (line_name l) (mapped line_name eight l (eight_has l lt))) (line_in number l n) (λ name.
        only_own (line_name l) name (l % sessions + 2) rest (quiet name) (same_name zero_name name)
        ∙ ap (λ xs. stands (line_name l) name xs (same_name zero_name name)) (loaded.sessions_are (l % sessions) (mod_below l sessions some))
        ∙ line_stands number sessions l n name)
      where
        eight_has : (k : ℕ) → k < 8 → Contains eight k
        eight_has zero lt = (0, lt, refl)
        eight_has (suc zero) lt = (1, lt, refl)
        eight_has (suc (suc zero)) lt = (2, lt, refl)
        eight_has (suc (suc (suc zero))) lt = (3, lt, refl)
        eight_has (suc (suc (suc (suc zero)))) lt = (4, lt, refl)
        eight_has (suc (suc (suc (suc (suc zero))))) lt = (5, lt, refl)
        eight_has (suc (suc (suc (suc (suc (suc zero)))))) lt = (6, lt, refl)
        eight_has (suc (suc (suc (suc (suc (suc (suc zero))))))) lt = (7, lt, refl)
        eight_has (suc (suc (suc (suc (suc (suc (suc (suc k)))))))) lt = absurd (omega (arith, lt))

        quiet : (name : Name) (e : Entry) → Contains rest e → e.pass ≢ l % sessions + 2 → (v : Bool) → stands_after (line_name l) name (command_of e.write) v ≡ v
        quiet name e m other v =
            let low = (loaded.passes_are e m).0 in
            other_line texts sessions (e.pass - 2) l name (command_of e.write) v (own e m) (λ same. other (omega (arith, low, same)))

    pub main_set : HasSet main (all_texts number n)
    main_set = has_set main (all_texts number n) (prelude_leads parts.0 prelude loaded.prelude_is parts.1).0 (λ text m. m) (λ name.
        main_stands name (commands rest) (λ x m v. let e = from_entry x m in subst (λ y. stands_after main name y v ≡ (v || applies name y)) e.2 (main_step texts sessions (e.0.pass - 2) name (command_of e.0.write) v (own e.0 e.1))) (same_name zero_name name)
        ∙ both name (same_name zero_name name) refl (list_any (applies name) (commands rest)) refl (named_in texts name) refl)
      where
        both : (name : Name) (z : Bool) → same_name zero_name name ≡ z → (a : Bool) → list_any (applies name) (commands rest) ≡ a → (b : Bool) → named_in texts name ≡ b
            → (same_name zero_name name || list_any (applies name) (commands rest)) ≡ named_in texts name
        both name true zh a ah b bh =
            ap (λ v. v || list_any (applies name) (commands rest)) zh ∙ sym (subst (λ x. named_in texts x ≡ true) (same_name_is zero_name name zh) (text_named texts zero_text (zero_in number n)))
        both name false zh true ah b bh =
            let p = passes (applies name) (commands rest) ah in
            let e = from_entry p.it p.member in
            ap (λ v. v || list_any (applies name) (commands rest)) zh ∙ ah ∙ sym (applied_own texts sessions (e.0.pass - 2) name (command_of e.0.write) (own e.0 e.1) (ap (applies name) e.2 ∙ p.is))
        both name false zh false ah false bh = ap (λ v. v || list_any (applies name) (commands rest)) zh ∙ ah ∙ sym bh
        both name false zh false ah true bh = absurd (
            let t = named_text texts name bh in
            elim (text_cases number n t.0 t.1) [
              | inl e ↦ (let h : same_name zero_name name ≡ true = is_same_name zero_name name (ap name_of e ∙ t.2) in let k : true ≡ false = sym h ∙ zh in cc)
              | inr k ↦
                  let named : name_of (change_text number k.0) ≡ name = ap name_of k.2 ∙ t.2 in
                  let s = k.0 % 8 % sessions in
                  let x = command.Apply main (name_of (change_text number k.0)) in
                  let asked : Contains (commands (entries_of (s + 2) rest)) x = subst (λ l. Contains l x) (sym (loaded.sessions_are s (mod_below (k.0 % 8) sessions some))) (applied_in number sessions n k.0 k.1) in
                  let i = image (λ f. command_of f.write) (entries_of (s + 2) rest) x asked in
                  let there : Contains (commands rest) x = subst (λ y. Contains (commands rest) y) i.is (mapped (λ f. command_of f.write) rest i.it (passed (λ f. f.pass == (s + 2)) rest i.it i.member).member) in
                  let h : list_any (applies name) (commands rest) ≡ true = any_member (applies name) (commands rest) x there (is_same_name (name_of (change_text number k.0)) name named) in
                  let no : true ≡ false = sym h ∙ ah in cc
            ])

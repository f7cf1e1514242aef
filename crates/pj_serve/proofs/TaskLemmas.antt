-- What the top call promises, from what it does for the command that the words are.
use Rattle.std.proofs.Common.{◌≡◌, ◌≢◌, List, String, Global, Option, Some, None, true, map, refl, sym, ◌∙◌, ap, subst, inl, inr, string_bytes, arith}
use Rattle.std.specs.Prelude.{option_map, if◌then◌else◌}
use Rattle.pj_machine.specs.declared.limits.Limits.{Limits}
use Rattle.pj_words.specs.Words.{Work, asked_of}
use Rattle.pj_serve.specs.declared.finish.Finish.{Finish}
use Rattle.pj_serve.specs.declared.status.Status.{Status}
use Rattle.pj_serve.specs.declared.status.Status.TheVariants.{Done, Malformed, Words, ReadFault, WriteFault, Memory, Session, Journal, Store}
use Rattle.pj_serve.specs.Loads.{DoesLoad}
use Rattle.pj_serve.specs.Outside.{Outside, KeepsOffice}
use Rattle.pj_serve.specs.Promises.{HasShown, Promises}
use Rattle.pj_serve.specs.Serves.{DoesServe}
use Rattle.pj_serve.specs.Sessions.{DoesOne, DoesRun, HoldsNone}
use Rattle.pj_serve.specs.Status.{exit_status}
use Rattle.pj_serve.specs.Tasks.{TaskView, Show, One, Run, Serve, Load, LacksTask, is_to_load, is_to_serve, load_of, paths_of, plain_of, task_of}
use Rattle.pj_serve.proofs.EndsLoaded.{load_command}
use Rattle.pj_serve.proofs.EndsServed.{serve_command}
use Rattle.pj_serve.proofs.EndsWell.{one_command, run_command}
use Rattle.pj_serve.proofs.ShowLemmas.{exit_status_words, shows_command}

some_is_not_none : {X : Type 0} (x : X) → ◌≡◌ {A = Option X} (Some x) None → ⊥
some_is_not_none x e = cc

same_some : {X : Type 0} (x y : X) → ◌≡◌ {A = Option X} (Some x) (Some y) → x ≡ y
same_some x y e = cc

-- ---- the words of `serve`

abbrev IsServe : TaskView → Type 0
IsServe Show = ⊥
IsServe One = ⊥
IsServe Run = ⊥
IsServe (Serve work) = Unit {0}
IsServe (Load loading) = ⊥

only_serve : (o : Option Work) (asked : TaskView) → option_map Serve o ≡ Some asked → IsServe asked
only_serve None asked e = absurd (some_is_not_none asked (sym e))
only_serve (Some work) asked e = subst IsServe (same_some (Serve work) asked e) tt

-- the words of `serve` are no other command
serves_alone : (words : List (String Global)) (asked : TaskView) → is_to_serve words ≡ true → task_of words ≡ Some asked → IsServe asked
serves_alone words asked serves is =
    let other : Option TaskView = if is_to_load words then option_map Load (load_of (paths_of words)) else plain_of words in
    only_serve (asked_of (map string_bytes words)) asked (sym (ap (λ b. if b then option_map Serve (asked_of (map string_bytes words)) else other) serves) ∙ is)

-- ---- promises

module _ {O S D V : Type 0} (outside : Outside O S D V) (limits : Limits) (old new : O) (words : List (String Global)) (result : Finish S D V) where
  -- what the call does for a command
  abbrev pub Does : TaskView → Type 0
  Does Show = HasShown outside.offices outside.streams old new result
  Does One = DoesOne outside limits old new result
  Does Run = DoesRun outside limits old new result (paths_of words)
  Does (Serve work) = DoesServe outside limits old new result work.address work.sessions work.workers
  Does (Load loading) = DoesLoad outside old new result loading.number loading.changes loading.sessions

  -- no command says that its words are none
  is_command : (asked : TaskView) → Does asked → result.status ≢ exit_status Words
  is_command Show does = λ e. shows_command outside.offices outside.streams old new _ _ does.ended does.shows (exit_status_words does.ended (sym does.status ∙ e))
  is_command One does = one_command outside limits old new result does
  is_command Run does = run_command outside limits old new result (paths_of words) does
  is_command (Serve work) does = serve_command outside limits old new result work.address work.sessions work.workers does
  is_command (Load loading) does = load_command outside old new result loading.number loading.changes loading.sessions does

  -- the words are a command, which was carried out
  pub carried_out : (asked : TaskView) → task_of words ≡ Some asked → Does asked → KeepsOffice outside.offices old new → Promises outside limits old new words result
  carried_out asked is does office =
      let did : (other : TaskView) → task_of words ≡ Some other → Does other = λ other e. subst Does (same_some asked other (sym is ∙ e)) does in
      record {
        by_words = λ e. absurd (is_command asked does e);
        refused = λ none. absurd (some_is_not_none asked (sym is ∙ none));
        show = λ e. did Show e;
        one = λ e. did One e;
        run = λ e. did Run e;
        serve = λ work e. did (Serve work) e;
        load = λ loading e. did (Load loading) e;
        office = office;
      }

  -- the words are those of `run`, and the scripts are under these paths
  pub ran_scripts : (paths : List (String Global)) → task_of words ≡ Some Run → paths ≡ paths_of words → DoesRun outside limits old new result paths → KeepsOffice outside.offices old new
      → Promises outside limits old new words result
  ran_scripts paths is same does office = carried_out Run is (subst (DoesRun outside limits old new result) same does) office

  office_stays : new ≡ old → KeepsOffice outside.offices old new
  office_stays same = subst (KeepsOffice outside.offices old) (sym same) (record {
    same_telling = refl;
    same_contents = λ told. refl;
    read_never_falls = omega arith;
    write_never_falls = omega arith;
  })

  -- there is no command, and nothing was opened
  pub refused_words : (status : Status) → LacksTask words status → result.status ≡ exit_status status → HoldsNone result → new ≡ old → Promises outside limits old new words result
  refused_words Words none is holds same =
      let no : (asked : TaskView) → task_of words ≡ Some asked → ⊥ = λ asked e. some_is_not_none asked (sym e ∙ none) in
      record {
        by_words = λ e. none;
        refused = λ e. record { status = inl is; office = same; holds = holds };
        show = λ e. absurd (no Show e);
        one = λ e. absurd (no One e);
        run = λ e. absurd (no Run e);
        serve = λ work e. absurd (no (Serve work) e);
        load = λ loading e. absurd (no (Load loading) e);
        office = office_stays same;
      }
  refused_words Memory serves is holds same = record {
    by_words = λ e. (let never : Memory ≡ Words = exit_status_words Memory (sym is ∙ e) in cc);
    refused = λ e. record { status = inr (is, serves); office = same; holds = holds };
    show = λ e. absurd (serves_alone words Show serves e);
    one = λ e. absurd (serves_alone words One serves e);
    run = λ e. absurd (serves_alone words Run serves e);
    serve = λ work e. record {
      outcome = inr (record { ended = Memory; status = is; lacks = (holds.idle.kept, holds.input); none = record { journal = holds.idle.journal; ends = holds.idle.ends; out = holds.out; doors = holds.idle.doors } });
      no_writing = ap outside.offices.write_faults same;
      ends_well = λ told complete none kept no_door. inr is;
    };
    load = λ loading e. absurd (serves_alone words (Load loading) serves e);
    office = office_stays same;
  }
  refused_words Done none is holds same = absurd none
  refused_words Malformed none is holds same = absurd none
  refused_words ReadFault none is holds same = absurd none
  refused_words WriteFault none is holds same = absurd none
  refused_words Session none is holds same = absurd none
  refused_words Journal none is holds same = absurd none
  refused_words Store none is holds same = absurd none

-- What `load` does implies that it ends well where nothing fails.
use Rattle.std.proofs.Common.{◌≡◌, ◌≢◌, ◌⊎◌, ℕ, Bool, List, Option, Some, None, refl, sym, ◌∙◌, ap, subst, inl, inr, arith}
use Rattle.pj_serve.specs.declared.finish.Finish.{Finish}
use Rattle.pj_serve.specs.declared.status.Status.{Status}
use Rattle.pj_serve.specs.declared.status.Status.TheVariants.{Done, Malformed, Words, ReadFault, WriteFault, Memory, Session, Journal, Store}
use Rattle.pj_serve.specs.Complete.{NoOfficeFault}
use Rattle.pj_serve.specs.Loads.{LacksOutput, WroteSummary, HasLoaded, DoesLoad}
use Rattle.pj_serve.specs.Outside.{Outside}
use Rattle.pj_serve.specs.Status.{exit_status}
use Rattle.pj_serve.proofs.ShowLemmas.{exit_status_words, failed_command}

-- a summary says nothing of other words
wrote_command : (tells : Bool) (written : List ℕ) (faults : ℕ) (summary : Option (List ℕ)) → WroteSummary tells written faults summary Words → ⊥
wrote_command tells written faults (Some text) wrote = wrote
wrote_command tells written faults None wrote = wrote

-- where the sink has had no fault, the summary was written, or there is none
wrote_well : (tells : Bool) (written : List ℕ) (faults : ℕ) (summary : Option (List ℕ)) (ended : Status) → WroteSummary tells written faults summary ended → faults ≡ 0 → (ended ≡ Done) ⊎ (ended ≡ Memory)
wrote_well tells written faults (Some text) Done wrote zero = inl refl
wrote_well tells written faults (Some text) Malformed wrote zero = absurd wrote
wrote_well tells written faults (Some text) Words wrote zero = absurd wrote
wrote_well tells written faults (Some text) ReadFault wrote zero = absurd wrote
wrote_well tells written faults (Some text) WriteFault wrote zero = absurd (let above = wrote.0 in omega arith)
wrote_well tells written faults (Some text) Memory wrote zero = absurd wrote
wrote_well tells written faults (Some text) Session wrote zero = absurd wrote
wrote_well tells written faults (Some text) Journal wrote zero = absurd wrote
wrote_well tells written faults (Some text) Store wrote zero = absurd wrote
wrote_well tells written faults None Done wrote zero = absurd wrote
wrote_well tells written faults None Malformed wrote zero = absurd wrote
wrote_well tells written faults None Words wrote zero = absurd wrote
wrote_well tells written faults None ReadFault wrote zero = absurd wrote
wrote_well tells written faults None WriteFault wrote zero = absurd wrote
wrote_well tells written faults None Memory wrote zero = inr refl
wrote_well tells written faults None Session wrote zero = absurd wrote
wrote_well tells written faults None Journal wrote zero = absurd wrote
wrote_well tells written faults None Store wrote zero = absurd wrote

module _ {O S D V : Type 0} (outside : Outside O S D V) (old new : O) (result : Finish S D V) (number changes sessions : ℕ) where
  -- `load` never says that its words are none
  pub load_command : DoesLoad outside old new result number changes sessions → result.status ≢ exit_status Words
  load_command does e = elim does.outcome [
    | inl loaded ↦ wrote_command _ _ _ loaded.summary (subst (WroteSummary _ _ _ loaded.summary) (exit_status_words loaded.ended (sym loaded.status ∙ e)) loaded.wrote)
    | inr lacks ↦ failed_command WriteFault lacks.ended _ (λ h. cc) lacks.cause (exit_status_words lacks.ended (sym lacks.status ∙ e))
  ]

  loaded_well : HasLoaded outside old new result number changes sessions → ((sink : D) → result.out ≡ Some sink → outside.streams.sinks.faults sink ≡ 0)
      → (result.status ≡ exit_status Done) ⊎ (result.status ≡ exit_status Memory)
  loaded_well loaded none = elim (wrote_well _ _ _ loaded.summary loaded.ended loaded.wrote (none loaded.sink loaded.out)) [
    | inl done ↦ inl (loaded.status ∙ ap exit_status done)
    | inr memory ↦ inr (loaded.status ∙ ap exit_status memory)
  ]

  lacks_well : LacksOutput outside.offices old new result → NoOfficeFault outside.offices old new → (result.status ≡ exit_status Done) ⊎ (result.status ≡ exit_status Memory)
  lacks_well lacks none = elim lacks.cause [ inl rose ↦ absurd (none.write rose.1) | inr memory ↦ inr (lacks.status ∙ ap exit_status memory) ]

  pub does_load : outside.offices.read_faults new ≡ outside.offices.read_faults old → HasLoaded outside old new result number changes sessions ⊎ LacksOutput outside.offices old new result
      → DoesLoad outside old new result number changes sessions
  does_load no_reading outcome = record {
    outcome = outcome;
    no_reading = no_reading;
    ends_well = λ none out. elim outcome [ inl loaded ↦ loaded_well loaded out | inr lacks ↦ lacks_well lacks none ];
  }

-- What a parse of the words of `serve` gives.
use Rattle.std.proofs.Common.{◌≡◌, ◌≢◌, ◌∙◌, inl, inr, sym, subst, ap, ap₂, refl, codes, List, [], ◌∷◌, Option, None, true}
use Rattle.clap.specs.Kinds.{HasKind, IsAmong}
use Rattle.clap.specs.Words.{App, Kinds, Row, Text, fault_of, first_of, first_value, is_simple, is_simple_and_free, kind_of, matches_of, rows_of}
use Rattle.clap.specs.declared.error.Error.{Error}
use Rattle.clap.specs.declared.error.kind.ErrorKind.{ErrorKind}
use Rattle.clap.specs.declared.error.kind.ErrorKind.TheVariants.{OutOfMemory}
use Rattle.clap.specs.declared.parser.matches.Found.{Found}
use Rattle.clap.proofs.WalkLemmas.{first_value-rows}
use Rattle.pj_words.specs.Words.{asked_by, asked_of, faults_in, rows_in, serve_app, texts_of, values_of}

-- the values that were found are those of the rows
pub values_found : (f : Found) (address sessions workers idle mode : Option Text) → address ≡ first_value f (codes "address") → sessions ≡ first_value f (codes "sessions")
    → workers ≡ first_value f (codes "workers") → idle ≡ first_value f (codes "idle") → mode ≡ first_value f (codes "mode")
    → texts_of address sessions workers idle mode ≡ values_of (rows_of f)
values_found f address sessions workers idle mode a s w i m =
    ap (λ o. texts_of o sessions workers idle mode) (a ∙ first_value-rows f (codes "address"))
    ∙ (ap₂ (λ o p. texts_of (first_of (codes "address") (rows_of f)) o p idle mode) (s ∙ first_value-rows f (codes "sessions")) (w ∙ first_value-rows f (codes "workers"))
    ∙ ap₂ (texts_of (first_of (codes "address") (rows_of f)) (first_of (codes "sessions") (rows_of f)) (first_of (codes "workers") (rows_of f)))
    (i ∙ first_value-rows f (codes "idle")) (m ∙ first_value-rows f (codes "mode")))

pub faults_are : (app : App) (words : List Text) → faults_in app words ≡ fault_of app words
unfolding faults_in
faults_are app words = refl

pub rows_are : (app : App) (words : List Text) → rows_in app words ≡ matches_of app words
unfolding rows_in
rows_are app words = refl

-- the command is simple, and has no rule of one argument on another
pub is_free : is_simple_and_free serve_app ≡ true
is_free = refl

pub is_plain : is_simple serve_app ≡ true
is_plain = refl

-- where no fault is found the rows are what the words ask for
asked_without_fault : (faults : App → Kinds) (matched : App → List Row) (app serve : App) (rows : List Row) → app ≡ serve → faults app ≡ []
    → rows ≡ matched app → values_of rows ≡ asked_by (faults serve) (matched serve)
asked_without_fault faults matched app serve rows is none same =
    ap values_of same ∙ (ap (λ kinds. asked_by kinds (matched app)) (sym none) ∙ ap (λ a. asked_by (faults a) (matched a)) is)

pub asked_at_ok : (app : App) (words : List Text) (rows : List Row) → app ≡ serve_app → (is_simple_and_free app ≡ true → fault_of app words ≡ [])
    → (is_simple app ≡ true → rows ≡ matches_of app words) → values_of rows ≡ asked_of words
asked_at_ok app words rows is faultless matched = asked_without_fault (λ a. faults_in a words) (λ a. rows_in a words) app serve_app rows is
    (faults_are app words ∙ faultless (ap is_simple_and_free is ∙ is_free)) (matched (ap is_simple is ∙ is_plain) ∙ sym (rows_are app words))

-- where there is a fault the words ask for nothing
nothing_asked : (kinds : Kinds) (kind : ErrorKind) (rows : List Row) → IsAmong kind kinds → None ≡ asked_by kinds rows
nothing_asked [] kind rows among = absurd among
nothing_asked (k ∷ kinds) kind rows among = refl

pub asked_at_err : (app : App) (words : List Text) (e : Error) → app ≡ serve_app → (is_simple_and_free app ≡ true → HasKind (fault_of app words) e)
    → kind_of e ≢ OutOfMemory → None ≡ asked_of words
asked_at_err app words e is fails other = elim (fails (ap is_simple_and_free is ∙ is_free)) [
  | inl memory ↦ absurd (other memory)
  | inr among ↦ nothing_asked (faults_in app words) (kind_of e) (rows_in app words) (subst (IsAmong (kind_of e)) (sym (faults_are app words)) among)
      ∙ ap (λ a. asked_by (faults_in a words) (rows_in a words)) is
]

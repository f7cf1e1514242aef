-- Records with one text are one.
use Rattle.std.proofs.Common.{◌≡◌, ℕ, List, sym, ◌∙◌, ap, subst}
use Rattle.std.specs.Prelude.{Contains}
use Rattle.std.proofs.Props.{props}
use Rattle.pj_name.specs.declared.name.Name.{Name}
use Rattle.pj_name.specs.Name.{name_of}
use Rattle.pj_change.specs.declared.change.Change.{Change}
use Rattle.pj_change.specs.declared.change.Record.{Record}
use Rattle.pj_change.specs.Lawful.{IsLawful}
use Rattle.pj_change.specs.Text.{text_of}
use Rattle.pj_change.specs.Parts.{parts_of}
use Rattle.pj_change.specs.Sets.{HaveOneText}
use Rattle.pj_change.proofs.LawfulLists.{one_record}
use Rattle.pj_change.proofs.OneText.{HaveOneChange}
use Rattle.pj_change.proofs.Without.{HaveOneRecord}
use Rattle.pj_change.proofs.SpelledChanges.{one_change}

text-prop : (s t : List ℕ) → IsProp (s ≡ t)
text-prop s t = hlevel props

name-prop : (m n : Name) → IsProp (m ≡ n)
name-prop m n = hlevel props

abbrev from_fields : (name : Name) (text : List ℕ) (change : Change) → text ≡ text_of (parts_of change) → name ≡ name_of text → Record
from_fields name text change spelled named = record { name = name; text = text; change = change; spelled = spelled; named = named }

record_ext : (r s : Record) → r.name ≡ s.name → r.text ≡ s.text → r.change ≡ s.change → r ≡ s
record_ext r s n t c =
    let P : Name → List ℕ → Change → Type 0 = λ name text change.
    (spelled : text ≡ text_of (parts_of change)) (named : name ≡ name_of text) → r ≡ from_fields name text change spelled named in
    let here : P r.name r.text r.change = λ spelled named i.
    from_fields r.name r.text r.change (text-prop r.text (text_of (parts_of r.change)) r.spelled spelled i) (name-prop r.name (name_of r.text) r.named named i) in
    let at_name : P s.name r.text r.change = subst (λ name. P name r.text r.change) n here in
    let at_text : P s.name s.text r.change = subst (λ text. P s.name text r.change) t at_name in
    let at_change : P s.name s.text s.change = subst (λ change. P s.name s.text change) c at_text in
    at_change s.spelled s.named

-- one text is of one change
one_of_text : (r s : Record) → r.text ≡ s.text → r.change ≡ s.change
one_of_text r s e = one_change r.change s.change (sym r.spelled ∙ e ∙ s.spelled)

pub have_one_change : (S : List Record) → HaveOneText S → HaveOneChange S
have_one_change S unique r s m n e = one_of_text r s (unique r s m n e)

pub have_one_record : (S : List Record) → HaveOneText S → HaveOneRecord S
have_one_record S unique r s m n e = (let t = unique r s m n e in record_ext r s e t (one_of_text r s t))

-- ---- one text per name

-- so it is in fewer
pub one_text_within : (S T : List Record) → HaveOneText S → ((r : Record) → Contains T r → Contains S r) → HaveOneText T
one_text_within S T unique within r s m n e = unique r s (within r m) (within s n) e

-- a lawful list has it
pub lawful_one_text : (list : List Record) → IsLawful list → HaveOneText list
lawful_one_text list lawful r s m n e = ap (λ (q : Record). q.text) (one_record list lawful r s m n e)

use Rattle.std.proofs.Common.{sym, append_assoc, arith}
use Rattle.std.proofs.lemmas.List.{append-nil}
use Rattle.pj_text.proofs.Joins.{owners_none, owners_split}
use Rattle.pj_text.proofs.writing.owners.Goals as goal

pub returns-in_default : goal.returns-in_default
returns-in_default c = rw (owners_none c.args.by.now (omega arith)) (sym (append-nil c.args.out.now.items))

pub returns-in_ok-further_owners : goal.returns-in_ok-further_owners
returns-in_ok-further_owners c =
    rw (c.in_ok-further_owners.ensures, c.in_ok-number.ensures, c.from.ensures, owners_split c.args.by.now (omega arith)) (simp append_assoc)

use Rattle.std.proofs.Common.{◌≡◌, sym, subst, Some}
use Rattle.pj_change.specs.declared.change.Record.{Record}
use Rattle.pj_change.specs.Lawful.{record_of}
use Rattle.pj_state.proofs.state.State.get.Goals as goal

pub returns-in-Some : goal.returns-in-Some
returns-in-Some c =
    c.get_reply.ensures c.args.self.now c.args.name (record {
      at = c.len.ensures.len;
      legal = c.len.ensures.legal;
      state = λ s r. subst (λ (x : Record). record_of s.store c.args.name ≡ Some x) (sym c.deref.ensures) (c.in-Some.ensures s r);
    })

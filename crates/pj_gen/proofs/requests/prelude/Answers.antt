use Rattle.pj_gen.proofs.Openings.{opened}
use Rattle.pj_gen.proofs.requests.prelude.Goals as goal

pub returns : goal.returns
returns c =
    opened c.args.text.now c.args.name c.requires.text c.requires.name
    c.new-out.result.items c.put_put.new.out.items c.put_apply.new.out.items c.put_forks.new.out.items c.put_quit.new.out.items
    c.new-out.ensures.items c.in_ok-put_put.ensures c.in_ok-put_apply.ensures c.in_ok-put_forks.ensures c.in_ok-put_quit.ensures

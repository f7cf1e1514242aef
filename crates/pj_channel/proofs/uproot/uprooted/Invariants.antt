use Rattle.std.proofs.Common.{List, length}
use Rattle.pj_change.specs.declared.change.Record.{Record}
use Rattle.pj_change.specs.Uproot.{IsUprooted}
use Rattle.pj_channel.specs.Ways.{IsWay}
use Rattle.pj_channel.proofs.uproot.uprooted.Given as goal

abbrev pub invariant-loop-from : goal.invariant-loop-from
invariant-loop-from g l = record {
  way : IsWay l.left l.fn.name l.way.items;
  rest : (rest : List Record) → IsUprooted l.left l.fn.name rest → IsUprooted l.tables l.fn.name rest;
}

abbrev pub decreases-loop-from : goal.decreases-loop-from
decreases-loop-from g l = length l.left

use Rattle.std.proofs.Common.{◌≡◌, ◌++◌, take}
use Rattle.std.specs.List.{flat_map}
use Rattle.pj_machine.specs.declared.command.Command.TheVariants as command
use Rattle.pj_wire.specs.Requests.{spelling}
use Rattle.pj_gen.specs.Changes.{line_name}
use Rattle.pj_gen.proofs.requests.put_prints.Given as goal

abbrev pub invariant-loop-line : goal.invariant-loop-line
invariant-loop-line l = l.out.items ≡ l.fn.out.items ++ flat_map (λ k. spelling (command.Print (line_name k))) (take l.line-index l.lines)

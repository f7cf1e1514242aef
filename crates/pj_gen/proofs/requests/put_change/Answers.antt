use Rattle.std.proofs.Common.{◌≡◌, sym, ap, ◌∙◌, ◌++◌, true, false, ◌%◌, rules}
use Rattle.std.specs.Prelude.{nat_eq}
use Rattle.pj_machine.specs.declared.command.Command.TheVariants as command
use Rattle.pj_wire.specs.Requests.{spelling, spellings}
use Rattle.pj_gen.specs.Requests.{main}
use Rattle.pj_gen.proofs.Sessions.{every_fifteenth, the_others, three_appended, five_appended}
use Rattle.pj_gen.proofs.requests.put_change.Goals as goal

pub returns-in_ok-put_apply-3 : goal.returns-in_ok-put_apply-3
returns-in_ok-put_apply-3 c =
    let text = c.args.text.now in
    let channel = c.line_name-channel.result in
    let name = c.args.name in
    let fifteenth : nat_eq (c.args.number % 15) 0 ≡ true = search rules in
    five_appended c.args.out.now.items (spelling (command.Put text)) (spelling (command.Apply channel name)) (spelling (command.Apply main name)) (spelling (command.Unrecord channel name))
    c.put_put.new.out.items c.put_apply.new.out.items c.put_apply-2.new.out.items c.put_unrecord.new.out.items c.put_apply-then-number-eq0.new.out.items
    c.in_ok-put_put.ensures c.in_ok-put_apply.ensures c.in_ok-put_apply-2.ensures c.in_ok-put_unrecord.ensures c.in_ok-put_apply-3.ensures
    ∙ ap (λ xs. c.args.out.now.items ++ spellings xs) (sym (every_fifteenth c.args.line c.args.number text channel name c.line_name-channel.ensures c.requires.name fifteenth))

pub returns-else-number-eq0 : goal.returns-else-number-eq0
returns-else-number-eq0 c =
    let text = c.args.text.now in
    let channel = c.line_name-channel.result in
    let name = c.args.name in
    let other : nat_eq (c.args.number % 15) 0 ≡ false = search rules in
    three_appended c.args.out.now.items (spelling (command.Put text)) (spelling (command.Apply channel name)) (spelling (command.Apply main name))
    c.put_put.new.out.items c.put_apply.new.out.items c.put_apply-2.new.out.items
    c.in_ok-put_put.ensures c.in_ok-put_apply.ensures c.in_ok-put_apply-2.ensures
    ∙ ap (λ xs. c.args.out.now.items ++ spellings xs) (sym (the_others c.args.line c.args.number text channel name c.line_name-channel.ensures c.requires.name other))

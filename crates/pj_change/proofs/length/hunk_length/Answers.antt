use Rattle.std.proofs.Common.{arith, ap, length}
use Rattle.std.specs.Prelude.{decimal}
use Rattle.pj_change.specs.Text.{references, owners}
use Rattle.pj_change.proofs.LengthLemmas.{length-file, length-name, length-insert, length-order, length-range}
use Rattle.pj_change.proofs.RuleLemmas.{insert_rule, range_rule}
use Rattle.pj_change.proofs.length.hunk_length.Goals as goal

pub references_length-requires : goal.references_length-requires
references_length-requires c =
    let k = insert_rule c.args.hunk.now c.in-Insert.file c.in-Insert.ups c.in-Insert.downs c.in-Insert.bytes c.requires c.in-Insert.is in
    omega (arith, k.few_ups, ap length c.items-in-Insert-2.ensures)

pub references_length-requires-in-Insert : goal.references_length-requires-in-Insert
references_length-requires-in-Insert c =
    let k = insert_rule c.args.hunk.now c.in-Insert.file c.in-Insert.ups c.in-Insert.downs c.in-Insert.bytes c.requires c.in-Insert.is in
    omega (arith, k.few_downs, ap length c.items-in-Insert-3.ensures)

pub owners_length-requires-clause-some : goal.owners_length-requires-clause-some
owners_length-requires-clause-some c =
    let k = range_rule c.args.hunk.now c.in-Delete.owner c.in-Delete.start c.in-Delete.end c.in-Delete.by c.requires c.in-Delete.is in
    omega (arith, k.some, ap length c.items-in-Delete.ensures)

pub owners_length-requires-clause-few : goal.owners_length-requires-clause-few
owners_length-requires-clause-few c =
    let k = range_rule c.args.hunk.now c.in-Delete.owner c.in-Delete.start c.in-Delete.end c.in-Delete.by c.requires c.in-Delete.is in
    omega (arith, k.few, ap length c.items-in-Delete.ensures)

pub returns-in-NameOf-clause-exact : goal.returns-in-NameOf-clause-exact
returns-in-NameOf-clause-exact c =
    omega (arith, length-name c.args.hunk.now c.in-NameOf.parent c.in-NameOf.child c.in-NameOf.name c.in-NameOf.exec c.in-NameOf.is, ap length c.word.ensures, ap length c.items.ensures)

pub returns-in-Insert-clause-exact : goal.returns-in-Insert-clause-exact
returns-in-Insert-clause-exact c =
    omega (
      arith,
      length-insert c.args.hunk.now c.in-Insert.file c.in-Insert.ups c.in-Insert.downs c.in-Insert.bytes c.in-Insert.is,
      ap length c.word.ensures,
      ap length c.items-in-Insert.ensures,
      ap (λ l. length (decimal (length l))) c.items-in-Insert.ensures,
      ap (λ l. length (references l)) c.items-in-Insert-2.ensures,
      ap (λ l. length (references l)) c.items-in-Insert-3.ensures,
    )

pub returns-in-Order-clause-exact : goal.returns-in-Order-clause-exact
returns-in-Order-clause-exact c =
    omega (arith, length-order c.args.hunk.now c.in-Order.file c.in-Order.source c.in-Order.target c.in-Order.is, ap length c.word.ensures)

pub returns-in-Delete-clause-exact : goal.returns-in-Delete-clause-exact
returns-in-Delete-clause-exact c =
    omega (
      arith,
      length-range c.args.hunk.now c.in-Delete.owner c.in-Delete.start c.in-Delete.end c.in-Delete.by c.in-Delete.is,
      ap length c.word.ensures,
      ap (λ l. length (owners l)) c.items-in-Delete.ensures,
    )

pub returns-in-File-clause-exact : goal.returns-in-File-clause-exact
returns-in-File-clause-exact c =
    omega (arith, length-file c.args.hunk.now c.in-File.parent c.in-File.name c.in-File.is, ap length c.word.ensures, ap length c.items-in-File.ensures)

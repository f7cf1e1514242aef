use Rattle.std.proofs.Common.{refl, true, false, subst, ◌≡◌, ◌∙◌, sym}
use Rattle.pj_name.specs.Name.{IsHex}
use Rattle.pj_replies.proofs.Hex.{digits_alone, cut_short, more_than, unended, are_hex, name_stands}
use Rattle.pj_replies.proofs.fields.change.Goals as goal

pub returns-then-count-bytes : goal.returns-then-count-bytes
returns-then-count-bytes c = digits_alone c.args.bytes.now _ c.hex_digits-count.ensures c.if-count-bytes.true

pub returns-then-count-lt64 : goal.returns-then-count-lt64
returns-then-count-lt64 c = cut_short c.args.bytes.now _ c.hex_digits-count.ensures c.if-count-lt64.true c.if-count-bytes.false

pub bounds-bytes-64 : goal.bounds-bytes-64
bounds-bytes-64 c = more_than c.args.bytes.now _ c.hex_digits-count.ensures c.if-count-lt64.false c.if-count-bytes.false

pub returns-then-bytes-ne10 : goal.returns-then-bytes-ne10
returns-then-bytes-ne10 c =
    unended c.args.bytes.now _ c.hex_digits-count.ensures (more_than c.args.bytes.now _ c.hex_digits-count.ensures c.if-count-lt64.false c.if-count-bytes.false) c.if-bytes-ne10.true

pub returns-in-Some : goal.returns-in-Some
returns-in-Some c =
    name_stands c.args.bytes.now c.in-Some.name (more_than c.args.bytes.now _ c.hex_digits-count.ensures c.if-count-lt64.false c.if-count-bytes.false) c.if-bytes-ne10.false
    (sym c.split_at.ensures.front ∙ (c.in-Some.ensures.spelled c.in-Some.name).0 refl)

pub returns-in-None : goal.returns-in-None
returns-in-None c =
    let both : false ≡ true = c.in-None.ensures.found.1 (subst IsHex (sym c.split_at.ensures.front) (are_hex c.args.bytes.now _ c.hex_digits-count.ensures c.if-count-lt64.false)) in
    cc both

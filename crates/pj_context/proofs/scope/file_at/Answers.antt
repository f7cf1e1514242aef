use Rattle.std.proofs.Common.{◌≡◌, ◌∙◌, ap, sym}
use Rattle.std.specs.Prelude.{Some, slice_get}
use Rattle.pj_change.specs.declared.kind.Kind.TheVariants.{Text}
use Rattle.pj_change.specs.Makers.{maker}
use Rattle.pj_change.specs.Positions.{kind_at}
use Rattle.pj_change.proofs.Members.{member_at}
use Rattle.pj_change.proofs.HunkNumbers.{file_at_made}
use Rattle.pj_context.proofs.ReferenceLemmas.{refers_within}
use Rattle.pj_context.proofs.scope.file_at.Goals as goal

pub file_of-requires : goal.file_of-requires
file_of-requires c =
    let r = c.args.holder.now in
    let t = c.in-Some-Text-default in
    refers_within r t.hunk.now (member_at r.change.hunks (maker t.field-0-0) t.hunk.now t.ensures.1)

pub returns-in-Some-Text-default : goal.returns-in-Some-Text-default
returns-in-Some-Text-default c =
    let r = c.args.holder.now in
    let t = c.in-Some-Text-default in
    let kind : kind_at r.change.hunks c.args.offset ≡ Some (Text t.field-0-0-0 t.field-0-0-1 t.field-0-0-2) = t.ensures.0 ∙ ap Some t.field-0-0-is in
    let made : slice_get r.change.hunks t.field-0-0-0 ≡ Some t.hunk.now = ap (λ k. slice_get r.change.hunks (maker k)) (sym t.field-0-0-is) ∙ t.ensures.1 in
    c.file_of.ensures ∙ sym (file_at_made r c.args.offset t.field-0-0-0 t.field-0-0-1 t.field-0-0-2 t.hunk.now kind made)

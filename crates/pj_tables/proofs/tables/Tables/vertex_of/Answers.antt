use Rattle.std.proofs.Common.{◌≡◌, ◌∙◌, sym, ap, subst, List, Some, None}
use Rattle.std.specs.Prelude.{slice_get}
use Rattle.pj_change.specs.declared.kind.Kind.{Kind}
use Rattle.pj_change.specs.declared.kind.Kind.TheVariants.{NameAt, FileInode, DirInode, Text}
use Rattle.pj_change.specs.declared.change.Record.{Record}
use Rattle.pj_change.specs.Lawful.{record_of}
use Rattle.pj_change.specs.Makers.{maker}
use Rattle.pj_change.specs.Positions.{kind_at}
use Rattle.pj_change.proofs.PositionLemmas.{position_small}
use Rattle.pj_tables.specs.VerticesIn.{IsVertexOfPoint}
use Rattle.pj_tables.proofs.PointVertices.{none_held, none_there, name_there, file_there, dir_there, text_or_none}
use Rattle.pj_tables.proofs.tables.Tables.vertex_of.Goals as goal

pub returns-in_err-owner : goal.returns-in_err-owner
returns-in_err-owner c =
    let S = c.args.self.now in
    let none : record_of S c.args.at.change ≡ None = sym (ap (λ (l : List Record). record_of l c.args.at.change) c.list-list.ensures.same) ∙ c.in_err-owner.ensures in
    rw c.from_residual.ensures (none_held S c.args.at none)

pub returns-in_err-kind : goal.returns-in_err-kind
returns-in_err-kind c =
    let S = c.args.self.now in
    let o = c.deref.result.now in
    let found : record_of S c.args.at.change ≡ Some o = sym (ap (λ (l : List Record). record_of l c.args.at.change) c.list-list.ensures.same) ∙ c.in_ok-owner.ensures ∙ ap Some (sym c.deref.ensures) in
    rw c.from_residual-in_err-kind.ensures (none_there S c.list-list.ensures.lawful c.args.at o found c.in_err-kind.ensures)

pub single-requires : goal.single-requires
single-requires c = position_small c.deref.result.now.change c.args.at.offset _ c.in_ok-kind.ensures.0

pub single-requires-in-FileInode : goal.single-requires-in-FileInode
single-requires-in-FileInode c = position_small c.deref.result.now.change c.args.at.offset _ c.in_ok-kind.ensures.0

pub single-requires-in-DirInode : goal.single-requires-in-DirInode
single-requires-in-DirInode c = position_small c.deref.result.now.change c.args.at.offset _ c.in_ok-kind.ensures.0

pub returns-in-NameAt : goal.returns-in-NameAt
returns-in-NameAt c =
    let S = c.args.self.now in
    let o = c.deref.result.now in
    let h = c.in_ok-kind.hunk.now in
    let n = c.in-NameAt in
    let found : record_of S c.args.at.change ≡ Some o = sym (ap (λ (l : List Record). record_of l c.args.at.change) c.list-list.ensures.same) ∙ c.in_ok-owner.ensures ∙ ap Some (sym c.deref.ensures) in
    let there : kind_at o.change.hunks c.args.at.offset ≡ Some (NameAt n.hunk) = c.in_ok-kind.ensures.0 ∙ ap Some n.is in
    let made : slice_get o.change.hunks n.hunk ≡ Some h = subst (λ (k : Kind). slice_get o.change.hunks (maker k) ≡ Some h) n.is c.in_ok-kind.ensures.1 in
    subst (IsVertexOfPoint S c.args.at) (sym c.single.ensures)
    (name_there S c.list-list.ensures.lawful c.args.at o found n.hunk h c.name_kind.result c.status.result there made c.name_kind.ensures c.status.ensures)

pub returns-in-FileInode : goal.returns-in-FileInode
returns-in-FileInode c =
    let S = c.args.self.now in
    let o = c.deref.result.now in
    let n = c.in-FileInode in
    let found : record_of S c.args.at.change ≡ Some o = sym (ap (λ (l : List Record). record_of l c.args.at.change) c.list-list.ensures.same) ∙ c.in_ok-owner.ensures ∙ ap Some (sym c.deref.ensures) in
    let there : kind_at o.change.hunks c.args.at.offset ≡ Some (FileInode n.hunk) = c.in_ok-kind.ensures.0 ∙ ap Some n.is in
    subst (IsVertexOfPoint S c.args.at) (sym c.single-in-FileInode.ensures) (file_there S c.list-list.ensures.lawful c.args.at o found n.hunk there)

pub returns-in-DirInode : goal.returns-in-DirInode
returns-in-DirInode c =
    let S = c.args.self.now in
    let o = c.deref.result.now in
    let n = c.in-DirInode in
    let found : record_of S c.args.at.change ≡ Some o = sym (ap (λ (l : List Record). record_of l c.args.at.change) c.list-list.ensures.same) ∙ c.in_ok-owner.ensures ∙ ap Some (sym c.deref.ensures) in
    let there : kind_at o.change.hunks c.args.at.offset ≡ Some (DirInode n.hunk) = c.in_ok-kind.ensures.0 ∙ ap Some n.is in
    subst (IsVertexOfPoint S c.args.at) (sym c.single-in-DirInode.ensures) (dir_there S c.list-list.ensures.lawful c.args.at o found n.hunk there)

pub returns-in-Text : goal.returns-in-Text
returns-in-Text c =
    let S = c.args.self.now in
    let o = c.deref.result.now in
    let n = c.in-Text in
    let found : record_of S c.args.at.change ≡ Some o = sym (ap (λ (l : List Record). record_of l c.args.at.change) c.list-list.ensures.same) ∙ c.in_ok-owner.ensures ∙ ap Some (sym c.deref.ensures) in
    let there : kind_at o.change.hunks c.args.at.offset ≡ Some (Text n.hunk n.start n.end) = c.in_ok-kind.ensures.0 ∙ ap Some n.is in
    text_or_none S c.list-list.ensures.lawful c.args.at o found n.hunk n.start n.end there c.text_at.result c.text_at.ensures

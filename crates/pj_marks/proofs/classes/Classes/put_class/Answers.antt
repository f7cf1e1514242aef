use Rattle.std.proofs.Common.{◌≡◌, OnOk, subst, ◌∙◌, arith}
use Rattle.std.proofs.lemmas.List.{length-map}
use Rattle.pj_change.specs.MarkedText.{put_class}
use Rattle.pj_marks.proofs.Found.{group_has, group_fits, is_class, class_found}
use Rattle.pj_marks.proofs.classes.Classes.put_class.Goals as goal

pub index-requires : goal.index-requires
index-requires g c =
    let is_one = is_class (g.T.Texts.piece c.self.inside.texts.now) c.self.inside.reached.now c.args.class c.args.self.now c.self.view_is c.requires in
    omega (arith, is_one, length-map c.self.inside.members.items (λ class. class.items), c.self.invariant.1.each)

pub cyclic-requires : goal.cyclic-requires
cyclic-requires g c = is_class (g.T.Texts.piece c.self.inside.texts.now) c.self.inside.reached.now c.args.class c.args.self.now c.self.view_is c.requires

pub put_class-requires : goal.put_class-requires
put_class-requires g c =
    let is_one = is_class (g.T.Texts.piece c.self.inside.texts.now) c.self.inside.reached.now c.args.class c.args.self.now c.self.view_is c.requires in
    let has = group_has c.self.inside.reached.now (λ class. class.items) c.self.inside.members.items c.args.class c.index.result.now c.self.invariant.1 is_one c.index.ensures in
    group_fits c.self.inside.reached.now c.args.class _ _ (c.as_slice-members.ensures.value ∙ has) c.self.invariant.0

pub returns : goal.returns
returns g c =
    let is_one = is_class (g.T.Texts.piece c.self.inside.texts.now) c.self.inside.reached.now c.args.class c.args.self.now c.self.view_is c.requires in
    let has = group_has c.self.inside.reached.now (λ class. class.items) c.self.inside.members.items c.args.class c.index.result.now c.self.invariant.1 is_one c.index.ensures in
    let found = class_found (g.T.Texts.piece c.self.inside.texts.now) c.self.inside.reached.now c.args.class c.args.self.now c.self.view_is c.cyclic.result c.as_slice-members.result.now is_one c.cyclic.ensures (c.as_slice-members.ensures.value ∙ has) in
    subst (λ class. OnOk c.put_class.result (c.put_class.new.self ≡ put_class class c.args.marker.now)) found c.put_class.ensures

use Rattle.std.proofs.Common.{◌≡◌, ◌∙◌, refl, sym, ap, subst, ◌++◌, ◌∷◌, [], List, length}
use Rattle.std.specs.Prelude.{◌<◌}
use Rattle.pj_name.specs.declared.name.Name.{Name}
use Rattle.pj_change.specs.declared.change.Record.{Record}
use Rattle.pj_change.specs.Uproot.{IsUprooted}
use Rattle.pj_change.proofs.Steps.{none_uprooted}
use Rattle.pj_channel.specs.Ways.{IsWay}
use Rattle.pj_channel.proofs.Uprooting.{no_way, way_reaches, last_may_leave, way_less, uprooted_more, fewer_left}
use Rattle.pj_channel.proofs.uproot.uprooted.Goals as goal

pub loop-from-init : goal.loop-from-init
loop-from-init g c =
    let name = c.args.name in
    let way : c.push.new.self.items ≡ name ∷ [] = c.in_ok-push.ensures.items ∙ ap (λ (l : List Name). l ++ name ∷ []) c.new-way.ensures.items in
    record {
      way = subst (λ (l : List Record). IsWay l name c.push.new.self.items) (sym c.in_ok-left.ensures) (subst (IsWay c.args.tables.now name) (sym way) (refl, c.requires, tt));
      rest = λ rest u. subst (λ (l : List Record). IsUprooted l name rest) c.in_ok-left.ensures u;
    }

pub lessened-requires : goal.lessened-requires
lessened-requires g c =
    let left = c.loop-from.left in
    let way = c.in_ok-top.ensures.way c.args.name (subst (IsWay left c.args.name) c.in-Some.ensures.items c.loop-from.invariant.way) in
    last_may_leave left c.args.name c.climb.new.way.items c.in_ok-top.top way c.in_ok-top.ensures.free

pub loop-from-smaller : goal.loop-from-smaller
loop-from-smaller g c =
    let left = c.loop-from.left in
    let top = c.in_ok-top.top in
    let way = c.in_ok-top.ensures.way c.args.name (subst (IsWay left c.args.name) c.in-Some.ensures.items c.loop-from.invariant.way) in
    let may = last_may_leave left c.args.name c.climb.new.way.items top way c.in_ok-top.ensures.free in
    subst (λ (l : List Record). length l < length left) (sym c.in_ok-left-2.ensures) (fewer_left left top c.climb.ensures.lawful may)

pub loop-from-preserved : goal.loop-from-preserved
loop-from-preserved g c =
    let left = c.loop-from.left in
    let name = c.args.name in
    let top = c.in_ok-top.top in
    let names = c.climb.new.way.items in
    let way = c.in_ok-top.ensures.way name (subst (IsWay left name) c.in-Some.ensures.items c.loop-from.invariant.way) in
    let may = last_may_leave left name names top way c.in_ok-top.ensures.free in
    record {
      way = subst (λ (l : List Record). IsWay l name names) (sym c.in_ok-left-2.ensures) (way_less left top may name names way);
      rest = λ rest u.
          c.loop-from.invariant.rest rest
          (uprooted_more left name top c.climb.ensures.lawful may (way_reaches left name names top way) rest (subst (λ (l : List Record). IsUprooted l name rest) c.in_ok-left-2.ensures u));
    }

pub returns : goal.returns
returns g c =
    let left = c.loop-from.left in
    let none : length c.loop-from.way.items ≡ 0 = sym c.loop-from.way.ok.0 ∙ c.in_default.ensures.cases.0 in
    c.loop-from.invariant.rest left (none_uprooted left c.args.name (no_way left c.args.name c.loop-from.way.items none c.loop-from.invariant.way))

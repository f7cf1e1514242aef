use Rattle.std.proofs.Common.{◌-◌, ◌++◌, length, take, drop, ap, sym, ◌∙◌, arith}
use Rattle.pj_machine.specs.Listings.{log_text}
use Rattle.pj_sync.proofs.Lines.{line_passed, long_enough, no_log, none_left, some_left}
use Rattle.pj_sync.proofs.names.names_of.Goals as goal

pub returns-in_default : goal.returns-in_default
returns-in_default c =
    no_log c.args.body.now c.loop-rest.names.items c.loop-rest.rest.now c.loop-rest.invariant
    (some_left c.loop-rest.rest.now c.is_empty.result c.is_empty.ensures c.loop-rest-test.true)
    (c.first_name.ensures.none (none_left c.first_name.result c.in_default.not-Some))

pub slice_bounds-rest-count : goal.slice_bounds-rest-count
slice_bounds-rest-count c = long_enough c.loop-rest.rest.now c.in-Some.name _ c.in-Some.ensures.some

pub slice_bounds-rest-start : goal.slice_bounds-rest-start
slice_bounds-rest-start c = (let long = long_enough c.loop-rest.rest.now c.in-Some.name _ c.in-Some.ensures.some in omega arith)

pub loop-rest-preserved : goal.loop-rest-preserved
loop-rest-preserved c =
    line_passed c.args.body.now c.loop-rest.names.items c.loop-rest.rest.now c.in-Some.name c.loop-rest.invariant c.in-Some.ensures.some
    ∙ ap (λ ns. log_text ns ++ take (length c.loop-rest.rest.now - 65) (drop 65 c.loop-rest.rest.now)) (sym c.in_ok-push.ensures.items)

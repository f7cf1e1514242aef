use Rattle.std.proofs.Common.{◌∙◌, ap, ◌++◌}
use Rattle.std.specs.List.{flat_map}
use Rattle.std.specs.Prelude.{slice_index_or}
use Rattle.pj_gen.specs.Changes.{eight}
use Rattle.pj_gen.specs.Requests.{main}
use Rattle.pj_gen.specs.Summary.{line_row, channel_line, head}
use Rattle.pj_gen.proofs.telling.summary_bytes.Goals as goal

pub returns : goal.returns
returns c = λ number d.
    let rows = flat_map (λ l. line_row number c.args.changes l (slice_index_or c.args.lines.now l d)) eight in
    c.in_ok-put_channel.ensures
    ∙ ap (λ t. t ++ channel_line main c.args.changes c.args.main) (c.in_ok-put_rows.ensures number d ∙ ap (λ t. t ++ rows) (c.in_ok-put_head.ensures ∙ ap (λ t. t ++ head c.args.changes c.args.sessions) c.new-out.ensures.items))

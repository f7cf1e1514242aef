use Rattle.std.proofs.Common.{◌∙◌, ap, sym}
use Rattle.std.specs.Option.{option_map}
use Rattle.pj_io.specs.Plan.{named}
use Rattle.pj_io.proofs.Named.{named-map}
use Rattle.pj_bureau.proofs.mem_bureau.MemBureau.bytes_at.Goals as goal

pub returns-in-Some : goal.returns-in-Some
returns-in-Some c =
    ap (λ bureau. named c.args.path.now bureau.stores) (sym c.self.view_is)
    ∙ named-map (λ store. store.items) c.args.path.now c.self.inside.stores.entries
    ∙ ap (option_map (λ store. store.items)) (sym c.in-Some.ensures.value)

pub returns-in-None : goal.returns-in-None
returns-in-None c =
    ap (λ bureau. named c.args.path.now bureau.stores) (sym c.self.view_is)
    ∙ named-map (λ store. store.items) c.args.path.now c.self.inside.stores.entries
    ∙ ap (option_map (λ store. store.items)) (sym c.in-None.ensures.value)

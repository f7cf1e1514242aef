use Rattle.std.proofs.Common.{◌≡◌, ◌∙◌, ℕ, length, map, filter, sym, ap, subst}
use Rattle.std.specs.Prelude.{◌↔◌, IsTrue, nat_lt}
use Rattle.std.proofs.lemmas.List.{length-map}
use Rattle.pj_change.specs.FirstWide.{IsWide}
use Rattle.pj_output.specs.declared.live_text.LiveVertex.{LiveVertex}
use Rattle.pj_output.specs.LiveText.{is_of}
use Rattle.pj_output.proofs.LiveTexts.{live_listed}
use Rattle.pj_print.proofs.Prints.{wide_by_count}
use Rattle.pj_output.proofs.print.is_wide.Goals as goal

pub returns-in-File : goal.returns-in-File
returns-in-File c =
    let S = c.args.tables.now in
    let inode = c.args.step.now.inode in
    let entries = filter (is_of inode) c.args.entries.now in
    let count : length c.text_in.result.now ≡ length (map (λ (e : LiveVertex). e.vertex) entries) = ap (length {A = LiveVertex}) c.text_in.ensures ∙ sym (length-map entries (λ (e : LiveVertex). e.vertex)) in
    subst (λ (n : ℕ). IsTrue (nat_lt c.args.limit n) ↔ IsWide S c.args.limit c.args.step.now) (sym count)
    (wide_by_count S c.args.limit c.args.step.now (map (λ (e : LiveVertex). e.vertex) entries) c.in-File.is (live_listed S c.args.entries.now c.requires inode))

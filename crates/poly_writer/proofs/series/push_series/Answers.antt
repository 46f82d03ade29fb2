use Rattle.std.proofs.Common.{ap, ◌++◌, ◌∙◌, append_assoc, sym, take, get_or}
use Rattle.poly_writer.specs.Texts.{series_lines}
use Rattle.poly_writer.proofs.Lines.{series_line, series_lines-take}
use Rattle.poly_writer.proofs.series.push_series.Goals as goal

pub loop-degree-preserved : goal.loop-degree-preserved
loop-degree-preserved c =
    let ns = c.args.numbers.now in
    let d = c.loop-degree.degree in
    c.in_ok-push_number_of_degree.ensures
    ∙ ap (λ t. t ++ series_line d (get_or ns d 0)) c.loop-degree.invariant
    ∙ append_assoc c.args.text.now.items (series_lines 0 (take d ns)) (series_line d (get_or ns d 0))
    ∙ ap (λ t. c.args.text.now.items ++ t) (sym (series_lines-take ns d c.loop-degree-test.true))

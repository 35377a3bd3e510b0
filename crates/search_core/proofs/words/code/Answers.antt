use Rattle.std.specs.Prelude.{FitsSigned, length}
use Rattle.std.proofs.Common.{◌∙◌, ap, ap₂, arith}
use Rattle.std.proofs.lemmas.Int.{ints}
use Rattle.std.specs.Int.{w128}
use Rattle.search_core.specs.Fair.{code_of}
use Rattle.search_core.proofs.ShownFates.{least_read}
use Rattle.search_core.proofs.words.code.Goals as goal

pub returns : goal.returns
returns g c =
    let fits : FitsSigned w128 c.least_value.result = omega (arith, ints) in
    c.code_at.ensures ∙ ap₂ (code_of c.args.mode) (c.len.ensures.count ∙ ap length c.path.ensures)
    (least_read (g.C.ConeRead.cone c.args.c.now) _ fits c.least_value.ensures)

use Rattle.std.specs.Prelude.{◌<◌, FitsSigned}
use Rattle.std.specs.Int.{w128}
use Rattle.std.proofs.Common.{arith, ◌∙◌}
use Rattle.std.proofs.lemmas.Int.{ints, to_z-of_z}
use Rattle.search_core.proofs.ShownFates.{shown_least_is}
use Rattle.search_core.proofs.judging.judgement_of.Goals as goal

pub returns : goal.returns
returns g c =
    let l : c.requires.least.attained.0 < (g.C.ConeRead.cone c.args.c.now).size = c.requires.least.attained.1 in
    let fits : FitsSigned w128 c.args.least = omega (arith, ints) in
    record {
      path_is = c.path.ensures;
      least_is = to_z-of_z w128 c.args.least fits ∙ shown_least_is (g.C.ConeRead.cone c.args.c.now) _ (omega arith) c.requires.least;
      fate = rw c.of.ensures at c.fate_of.ensures;
    }

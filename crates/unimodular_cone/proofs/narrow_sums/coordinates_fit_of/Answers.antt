use Rattle.std.specs.Prelude.{◌<◌, ℕ, slice_index_or}
use Rattle.std.proofs.Common.{arith}
use Rattle.unimodular_cone.proofs.Limits.{IsWideCoordinate, mediant_mirror}
use Rattle.unimodular_cone.proofs.NarrowChildren.{coordinates_decide}
use Rattle.unimodular_cone.proofs.narrow_sums.coordinates_fit_of.Goals as goal

pub returns-in-None : goal.returns-in-None
returns-in-None c =
    let lr : c.args.r < c.args.c.now.size = omega (arith, c.requires.first, c.requires.size) in
    let ls : c.args.s < c.args.c.now.size = omega (arith, c.requires.second, c.requires.size) in
    let none : (p : ℕ) → p < c.args.c.now.size → ¬ IsWideCoordinate (slice_index_or c.mediant_coordinates-coordinates.result p 0) =
    λ p l. c.in-None.ensures p (rw c.requires.size l) in
    record {
      first = λ t. coordinates_decide c.args.c.now c.args.r c.args.s lr ls c.requires.fits c.requires.narrow c.mediant_coordinates-coordinates.result
          c.mediant_coordinates-coordinates.ensures none;
      second = λ t. coordinates_decide c.args.c.now c.args.s c.args.r ls lr c.requires.fits c.requires.narrow c.mediant_coordinates-coordinates.result
          (mediant_mirror _ c.args.r c.args.s _ c.mediant_coordinates-coordinates.ensures) none;
    }

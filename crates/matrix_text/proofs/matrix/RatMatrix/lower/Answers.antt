use Rattle.std.proofs.Common.{◌≤◌, arith, subst}
use Rattle.exact_forms.specs.Triangles.{triangle}
use Rattle.exact_forms.proofs.Triangles.{triangle_grows}
use Rattle.matrix_text.specs.RationalMatrix.{IsRationalMatrix}
use Rattle.matrix_text.proofs.matrix.RatMatrix.lower.Goals as goal

eight : triangle 8 ≤ 36
unfolding triangle
eight = omega arith

pub returns-clause-short : goal.returns-clause-short
returns-clause-short c =
    let is : IsRationalMatrix c.args.self.now = subst IsRationalMatrix c.self.view_is c.self.invariant in
    let len = is.triangle in
    let grows = triangle_grows c.args.self.now.size 8 is.small in
    let most = eight in
    omega (arith, len, grows, most)

use Rattle.std.proofs.Common.{arith}
use Rattle.exact_forms.proofs.Triangles.{twice_triangle}
use Rattle.unimodular_cone.proofs.narrow_numbers.entries_of.Goals as goal

pub returns : goal.returns
returns c = rw (c.from.ensures, c.from-2.ensures) (omega (arith, twice_triangle c.args.n))

use Rattle.std.proofs.Common.{◌≡◌, ap, sym, ◌∙◌, subst, nat_abs, ℕ, to_z}
use Rattle.std.proofs.lemmas.Int.{to_z_pos}
use mir.Syntax.{w128}
use Rattle.symmetric_matrix.specs.Divisors.{divisor_from, IsGreatestDivisor}
use Rattle.symmetric_matrix.specs.Symmetric.{Symmetric}
use Rattle.symmetric_matrix.proofs.Divisors.{divisor_is_greatest}
use Rattle.symmetric_matrix.proofs.matrix.SymInt.gcd_of_entries.Goals as goal

pub returns-clause-greatest : goal.returns-clause-greatest
returns-clause-greatest c =
    let lower : c.as_slice.result.now ≡ c.args.self.now.lower = c.as_slice.ensures.value ∙ ap (λ (q : Symmetric). q.lower) c.self.view_is in
    let found : nat_abs (to_z w128 c.divisor_of.result) ≡ divisor_from 0 c.args.self.now.lower =
    ap nat_abs (to_z_pos w128 c.divisor_of.result c.divisor_of.ensures.fits) ∙ c.divisor_of.ensures.value ∙ ap (divisor_from 0) lower in
    subst (λ (g : ℕ). IsGreatestDivisor g c.args.self.now.lower) (sym found) (divisor_is_greatest c.args.self.now.lower)

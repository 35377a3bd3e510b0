use Rattle.std.proofs.Common.{◌≡◌, ◌∙◌, rules, ap, ap₂, sym, subst, to_z, of_z, to_z-of_z, SFits, ℤ, pos, nat_abs, ◌≤ℤ◌}
use mir.Syntax.{w128}
use Rattle.commutative_ring.specs.Gcd.{divided}
use Rattle.symmetric_matrix.specs.Symmetric.{Symmetric}
use Rattle.symmetric_matrix.specs.Divisors.{divisor_from}
use Rattle.symmetric_matrix.specs.Combining.{primitive_of, IsCombineRefused}
use Rattle.symmetric_matrix.specs.declared.combining.Fail.{Fail}
use Rattle.contiguous.specs.Tightenings.{line_along, tighten_of}
use Rattle.contiguous.proofs.Candidates.{candidate_is, level_of, divisor_nonzero, divisor_positive, combined_at}
use Rattle.contiguous.proofs.Makings.{AreParts, parts_read, IsLevelMade, level_read, combined_read, level_refused, tighten_is}
use Rattle.contiguous.proofs.tightening.scaled.Goals.{After-den-q, After-gcd_of_entries-divisor, In-Ok}
use Rattle.contiguous.proofs.tightening.scaled.Goals as goal

mu_same : (mu : ℤ) → SFits w128 mu → to_z w128 (of_z w128 mu) ≡ mu
mu_same mu fits = to_z-of_z fits

parts : (c : After-den-q) → AreParts (line_along c.args.p_matrix.now c.args.mu c.args.r_matrix.now) c.args.w.now
    (to_z w128 (of_z w128 c.num-p.result)) (to_z w128 (of_z w128 c.den-q.result))
parts c = parts_read _ c.args.w.now c.num-p.result c.den-q.result c.args.lambda (search rules)
    (search rules) c.num-p.ensures.value c.den-q.ensures.value c.requires.lambda

level : (c : In-Ok) → AreParts (line_along c.args.p_matrix.now c.args.mu c.args.r_matrix.now) c.args.w.now
    (to_z w128 (of_z w128 c.num-p.result)) (to_z w128 (of_z w128 c.den-q.result))
    → IsLevelMade (line_along c.args.p_matrix.now c.args.mu c.args.r_matrix.now) c.args.w.now
    (to_z w128 (of_z w128 c.num-p.result)) (to_z w128 (of_z w128 c.den-q.result)) c.in-Ok.level
level c a = level_read _ _ _ _ (to_z w128 (of_z w128 c.args.mu)) c.in-Ok.level a (mu_same c.args.mu (search rules)) (sym c.int_mul.ensures ∙ c.in-Ok.is)

divisor_same : (c : After-gcd_of_entries-divisor) → c.in-Ok-combine.combined ≡ combined_at
    (line_along c.args.p_matrix.now c.args.mu c.args.r_matrix.now) c.args.w.now
    → to_z w128 (of_z w128 c.gcd_of_entries-divisor.result)
    ≡ pos (divisor_from 0 (combined_at (line_along c.args.p_matrix.now c.args.mu c.args.r_matrix.now) c.args.w.now).lower)
divisor_same c e =
    let fits : SFits w128 c.gcd_of_entries-divisor.result = search rules in
    to_z-of_z fits ∙ c.gcd_of_entries-divisor.ensures.value ∙ ap (λ (m : Symmetric). pos (divisor_from 0 m.lower)) e

pub returns-in-Err-clause-refused : goal.returns-in-Err-clause-refused
returns-in-Err-clause-refused c =
    level_refused (line_along c.args.p_matrix.now c.args.mu c.args.r_matrix.now) c.args.w.now (to_z w128 (of_z w128 c.den-q.result))
    (to_z w128 (of_z w128 c.args.mu)) c.in-Err.op (parts (goal.at.returns-in-Err-clause-refused c).After-den-q).q_is
    (mu_same c.args.mu (search rules)) (sym c.int_mul.ensures ∙ c.in-Err.is)

pub returns-in-Err-Wide-clause-refused : goal.returns-in-Err-Wide-clause-refused
returns-in-Err-Wide-clause-refused c =
    let at = goal.at.returns-in-Err-Wide-clause-refused c in
    (level at.In-Ok (parts at.After-den-q)).owes
    ∙ subst (λ (f : Fail). IsCombineRefused (to_z w128 (of_z w128 c.den-q.result)) c.args.p_matrix.now
    (to_z w128 (of_z w128 c.num-p.result)) c.args.r_matrix.now f)
    c.in-Err-Wide.field-0-is c.in-Err-Wide.ensures

pub primitive-requires : goal.primitive-requires
primitive-requires c e =
    let l = line_along c.args.p_matrix.now c.args.mu c.args.r_matrix.now in
    let a = parts (goal.at.primitive-requires c).After-den-q in
    divisor_nonzero l c.requires.sizes c.args.w.now c.requires.tightenable c.requires.positive
    (ap (λ (m : Symmetric). divisor_from 0 m.lower) (sym (combined_read c.in-Ok-combine.combined a c.in-Ok-combine.ensures.1)) ∙ e)

pub over-requires : goal.over-requires
over-requires c =
    let l = line_along c.args.p_matrix.now c.args.mu c.args.r_matrix.now in
    let at = goal.at.over-requires c in
    let combined_is = combined_read c.in-Ok-combine.combined (parts at.After-den-q) c.in-Ok-combine.ensures.1 in
    subst (λ (z : ℤ). pos 1 ≤ℤ z) (sym (divisor_same at.After-gcd_of_entries-divisor combined_is))
    (divisor_positive l c.requires.sizes c.args.w.now c.requires.tightenable c.requires.positive)

pub returns-clause-made : goal.returns-clause-made
returns-clause-made c =
    let l = line_along c.args.p_matrix.now c.args.mu c.args.r_matrix.now in
    let at = goal.at.returns-clause-made c in
    let a = parts at.After-den-q in
    let made = level at.In-Ok a in
    let combined_is = combined_read c.in-Ok-combine.combined a c.in-Ok-combine.ensures.1 in
    let level_fits : SFits w128 c.in-Ok.level = search rules in
    let over_fits : SFits w128 c.over.result = search rules in
    record {
      step = tighten_is l c.args.w.now c.copy.result _ _ c.copy.ensures a.p_is a.q_is;
      matrix = c.in_ok-matrix.ensures.value ∙ ap primitive_of combined_is ∙ sym (candidate_is l (tighten_of l c.args.w.now));
      level = to_z-of_z over_fits ∙ c.over.ensures ∙ ap₂ (λ (z : ℤ) (g : ℤ). divided z (nat_abs g)) (to_z-of_z level_fits ∙ made.level)
          (divisor_same at.After-gcd_of_entries-divisor combined_is) ∙ sym (level_of l (tighten_of l c.args.w.now));
      owes = made.owes ∙ c.in-Ok-combine.ensures.0;
    }

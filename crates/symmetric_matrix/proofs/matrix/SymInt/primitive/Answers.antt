use Rattle.std.proofs.Common.{◌≡◌, ◌∙◌, rules, ap, ap₂, sym, subst, to_z-of_z, nat_abs, map, length, ℕ, ℤ, pos, ◌*ℤ◌, List, SFits}
use mir.Syntax.{w128}
use Rattle.commutative_ring.specs.Gcd.{divided}
use Rattle.exact_forms.specs.Triangles.{triangle}
use Rattle.symmetric_matrix.specs.Divisors.{divisor_from}
use Rattle.symmetric_matrix.specs.Symmetric.{Symmetric, IsLower, entry}
use Rattle.symmetric_matrix.proofs.FormSteps.{symmetric_of}
use Rattle.symmetric_matrix.proofs.Primitives.{parts_lower, parts_lowest, primitive_is, primitive_times}
use Rattle.symmetric_matrix.proofs.matrix.SymInt.primitive.Goals as goal

items_are : (c : goal.In_ok-divide_lower)
    → c.in_ok-divide_lower.field-0.items ≡ map (λ (z : ℤ). divided z (divisor_from 0 c.args.self.now.lower)) c.args.self.now.lower
items_are c =
    let fits : SFits w128 c.gcd_of_entries.result = search rules in
    c.in_ok-divide_lower.ensures.value
    ∙ ap₂ (λ (g : ℕ) (xs : List ℤ). map (λ (z : ℤ). divided z g) xs) (ap nat_abs (to_z-of_z fits ∙ c.gcd_of_entries.ensures.value))
    (c.as_slice.ensures.value ∙ ap (λ (q : Symmetric). q.lower) c.self.view_is)

pub invariant_of-result : goal.invariant_of-result
invariant_of-result c =
    let size = ap (λ (q : Symmetric). q.size) c.self.view_is in
    let parts = parts_lower c.args.self.now.size (divisor_from 0 c.args.self.now.lower) c.args.self.now.lower
    (subst (λ (q : Symmetric). IsLower q.size q.lower) c.self.view_is c.self.invariant.triangle) in
    record {
      positive = c.self.invariant.positive;
      small = c.self.invariant.small;
      triangle = subst (λ (n : ℕ). IsLower n c.in_ok-divide_lower.field-0.items) (sym size)
          (subst (λ (xs : List ℤ). IsLower c.args.self.now.size xs) (sym (items_are c)) parts);
    }

pub returns-clause-value : goal.returns-clause-value
returns-clause-value c =
    ap₂ symmetric_of (ap (λ (q : Symmetric). q.size) c.self.view_is) (items_are c) ∙ primitive_is c.args.self.now

pub returns-clause-lowest : goal.returns-clause-lowest
returns-clause-lowest c = ap (divisor_from 0) (items_are c) ∙ parts_lowest c.args.self.now.lower c.requires

pub returns-clause-times : goal.returns-clause-times
returns-clause-times c i j li lj =
    let long : length c.args.self.now.lower ≡ triangle c.args.self.now.size =
    subst (λ (q : Symmetric). length q.lower ≡ triangle q.size) c.self.view_is c.self.invariant.triangle.entries in
    ap (λ (q : Symmetric). pos (divisor_from 0 c.args.self.now.lower) *ℤ entry q i j) (returns-clause-value c) ∙ primitive_times c.args.self.now i j long li lj

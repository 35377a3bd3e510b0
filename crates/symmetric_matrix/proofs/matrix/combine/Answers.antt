use Rattle.std.proofs.Common.{◌≡◌, ◌∙◌, rules, ap, ap₂, sym, subst, to_z, of_z, to_z-of_z, ℕ, ℤ, List, SFits}
use mir.Syntax.{w128}
use Rattle.symmetric_matrix.specs.Symmetric.{Symmetric}
use Rattle.symmetric_matrix.specs.Combining.{AreCombined}
use Rattle.symmetric_matrix.proofs.FormSteps.{symmetric_of}
use Rattle.symmetric_matrix.proofs.Combinations.{combined_is}
use Rattle.symmetric_matrix.proofs.matrix.combine.Goals as goal

plain : (q p : ℤ) (P R : Symmetric) (sums : List ℤ) → SFits w128 q → SFits w128 p → AreCombined (to_z w128 (of_z w128 q)) P (to_z w128 (of_z w128 p)) R sums
    → AreCombined q P p R sums
plain q p P R sums fq fp h =
    subst (λ (p : ℤ). AreCombined q P p R sums) (to_z-of_z fp) (subst (λ (q : ℤ). AreCombined q P (to_z w128 (of_z w128 p)) R sums) (to_z-of_z fq) h)

pub returns : goal.returns
returns c =
    let p_is : symmetric_of c.p_matrix.inside.size c.as_slice.result.now ≡ c.args.p_matrix.now =
    ap (symmetric_of c.p_matrix.inside.size) c.as_slice.ensures.value ∙ c.p_matrix.view_is in
    let sizes : c.p_matrix.inside.size ≡ c.r_matrix.inside.size = ap (λ (q : Symmetric). q.size) c.p_matrix.view_is ∙ c.requires
    ∙ sym (ap (λ (q : Symmetric). q.size) c.r_matrix.view_is) in
    let r_is : symmetric_of c.p_matrix.inside.size c.as_slice-2.result.now ≡ c.args.r_matrix.now = ap₂ symmetric_of sizes c.as_slice-2.ensures.value
    ∙ c.r_matrix.view_is in
    let made = plain c.args.q c.args.p (symmetric_of c.p_matrix.inside.size c.as_slice.result.now) (symmetric_of c.p_matrix.inside.size c.as_slice-2.result.now)
    c.in_ok-combine_lower.field-0.items
    (search rules) (search rules) c.in_ok-combine_lower.ensures.ok in
    let moved : AreCombined c.args.q c.args.p_matrix.now c.args.p c.args.r_matrix.now c.in_ok-combine_lower.field-0.items =
    subst (λ (R : Symmetric). AreCombined c.args.q c.args.p_matrix.now c.args.p R c.in_ok-combine_lower.field-0.items) r_is
    (subst (λ (P : Symmetric). AreCombined c.args.q P c.args.p (symmetric_of c.p_matrix.inside.size c.as_slice-2.result.now)
    c.in_ok-combine_lower.field-0.items) p_is made) in
    let answered = combined_is c.args.q c.args.p_matrix.now c.args.p c.args.r_matrix.now c.in_ok-combine_lower.field-0.items moved in
    (answered.0, ap (λ (n : ℕ). symmetric_of n c.in_ok-combine_lower.field-0.items) (ap (λ (q : Symmetric). q.size) c.p_matrix.view_is) ∙ answered.1)

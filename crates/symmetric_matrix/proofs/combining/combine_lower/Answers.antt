use Rattle.std.proofs.Common.{◌+◌, rules, arith, to_z, of_z, to_z-of_z, sym, subst, refl, ℤ, ℕ, List, SFits}
use mir.Syntax.{w128}
use Rattle.symmetric_matrix.specs.Symmetric.{Symmetric}
use Rattle.symmetric_matrix.proofs.FormSteps.{symmetric_of}
use Rattle.symmetric_matrix.proofs.Combinations.{IsCombinedTo, combine_starts, combine_refused, combine_continues, combine_ends}
use Rattle.symmetric_matrix.proofs.combining.combine_lower.Goals as goal

same_arguments : (q p : ℤ) (P R : Symmetric) (k : ℕ) (sums : List ℤ) → SFits w128 q → SFits w128 p
    → IsCombinedTo (to_z w128 (of_z w128 q)) P (to_z w128 (of_z w128 p)) R k sums → IsCombinedTo q P p R k sums
same_arguments q p P R k sums fq fp h =
    subst (λ (p : ℤ). IsCombinedTo q P p R k sums) (to_z-of_z fp) (subst (λ (q : ℤ). IsCombinedTo q P (to_z w128 (of_z w128 p)) R k sums) (to_z-of_z fq) h)

back_arguments : (q p : ℤ) (P R : Symmetric) (k : ℕ) (sums : List ℤ) → SFits w128 q → SFits w128 p
    → IsCombinedTo q P p R k sums → IsCombinedTo (to_z w128 (of_z w128 q)) P (to_z w128 (of_z w128 p)) R k sums
back_arguments q p P R k sums fq fp h =
    subst (λ (p : ℤ). IsCombinedTo (to_z w128 (of_z w128 q)) P p R k sums) (sym (to_z-of_z fp))
    (subst (λ (q : ℤ). IsCombinedTo q P p R k sums) (sym (to_z-of_z fq)) h)

pub loop-k-init : goal.loop-k-init
loop-k-init c =
    subst (λ (sums : List ℤ). IsCombinedTo (to_z w128 (of_z w128 c.args.q)) (symmetric_of c.args.n c.args.lower.now) (to_z w128 (of_z w128 c.args.p))
    (symmetric_of c.args.n c.args.other.now) 0 sums) (sym c.in_ok-sums.ensures.items)
    (combine_starts (to_z w128 (of_z w128 c.args.q)) (symmetric_of c.args.n c.args.lower.now) (to_z w128 (of_z w128 c.args.p))
    (symmetric_of c.args.n c.args.other.now))

pub returns-in-Err-clause-refused : goal.returns-in-Err-clause-refused
returns-in-Err-clause-refused c =
    let inv = same_arguments c.args.q c.args.p _ _ _ _ (search rules) (search rules) c.loop-k.invariant in
    combine_refused c.args.q (symmetric_of c.args.n c.args.lower.now) c.args.p (symmetric_of c.args.n c.args.other.now) c.loop-k.k c.loop-k.sums.items _ _
    c.in-Err.op
    (omega (arith, c.requires.lower.entries)) refl refl (grind (arith, to_z-of_z)) inv

pub loop-k-preserved : goal.loop-k-preserved
loop-k-preserved c =
    let inv = same_arguments c.args.q c.args.p _ _ _ _ (search rules) (search rules) c.loop-k.invariant in
    back_arguments c.args.q c.args.p (symmetric_of c.args.n c.args.lower.now) (symmetric_of c.args.n c.args.other.now) (c.loop-k.k + 1) c.push.new.self.items
    (search rules) (search rules)
    (subst (λ (sums : List ℤ). IsCombinedTo c.args.q (symmetric_of c.args.n c.args.lower.now) c.args.p (symmetric_of c.args.n c.args.other.now) (c.loop-k.k + 1)
    sums) (sym c.in_ok-push-in-Ok.ensures.items)
    (combine_continues c.args.q (symmetric_of c.args.n c.args.lower.now) c.args.p (symmetric_of c.args.n c.args.other.now) c.loop-k.k c.loop-k.sums.items _ _ _
    (omega (arith, c.requires.lower.entries)) refl refl (grind (arith, to_z-of_z)) inv))

pub returns-clause-ok : goal.returns-clause-ok
returns-clause-ok c =
    combine_ends c.args.q (symmetric_of c.args.n c.args.lower.now) c.args.p (symmetric_of c.args.n c.args.other.now) c.loop-k.k c.loop-k.sums.items
    (omega (arith, c.requires.lower.entries, c.loop-k-test.false))
    (same_arguments c.args.q c.args.p _ _ _ _ (search rules) (search rules) c.loop-k.invariant)

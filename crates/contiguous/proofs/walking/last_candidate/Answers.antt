use Rattle.std.proofs.Common.{◌≡◌, ◌∙◌, rules, arith, ap, sym, subst, to_z, of_z, to_z-of_z, SFits, ℤ, ℕ, ◌-◌, List, Some, None, slice_get, length}
use mir.Syntax.{w128}
use Rattle.symmetric_matrix.specs.Symmetric.{Symmetric}
use Rattle.symmetric_matrix.specs.Owed.{first_owed}
use Rattle.contiguous.specs.declared.neighbour.Tighten.{Tighten}
use Rattle.contiguous.specs.declared.tightening.Candidate.{Candidate}
use Rattle.contiguous.specs.declared.tightening.TightenFail.{TightenFail}
use Rattle.contiguous.specs.declared.tightening.TightenFail.TheVariants as fail
use Rattle.contiguous.specs.Tightenings.{line_along, last_tighten, tighten_ops, neighbour_is_owed, IsTightenable, IsTightenAlong}
use Rattle.contiguous.specs.Making.{IsTightenMade, IsMakingRefused}
use Rattle.contiguous.proofs.Makings.{only_memory}
use Rattle.contiguous.proofs.Ways.{last_at, searched_none, again_at, searched_again}
use Rattle.contiguous.proofs.walking.last_candidate.Goals.{After-at}
use Rattle.contiguous.proofs.walking.last_candidate.Goals as goal

is_last : (ts : List Tighten) (t : Tighten) (n : ℕ) → n ≡ length ts → slice_get ts (n - 1) ≡ Some t → last_tighten ts ≡ Some t
is_last ts t n e h = last_at ts t (ap (λ (n : ℕ). slice_get ts (n - 1)) (sym e) ∙ h)

-- the minimum as it comes back from an argument
tightenable_back : (P R : Symmetric) (mu : ℤ) (x : List ℕ) → SFits w128 mu → IsTightenable (line_along P mu R) x
    → IsTightenable (line_along P (to_z w128 (of_z w128 mu)) R) x
tightenable_back P R mu x fits h = subst (λ (m : ℤ). IsTightenable (line_along P m R) x) (sym (to_z-of_z fits)) h

made_plain : (P R : Symmetric) (mu : ℤ) (x : List ℕ) (c : Candidate) → SFits w128 mu → IsTightenMade (line_along P (to_z w128 (of_z w128 mu)) R) x c
    → IsTightenMade (line_along P mu R) x c
made_plain P R mu x c fits h = subst (λ (m : ℤ). IsTightenMade (line_along P m R) x c) (to_z-of_z fits) h

memory_alone : (P R : Symmetric) (mu : ℤ) (x : List ℕ) (f : TightenFail) → SFits w128 mu
    → first_owed neighbour_is_owed (tighten_ops (line_along P mu R) x) ≡ None
    → IsMakingRefused (line_along P (to_z w128 (of_z w128 mu)) R) x f → f ≡ fail.OutOfMemory
memory_alone P R mu x f fits n h = only_memory (line_along P mu R) x f n (subst (λ (m : ℤ). IsMakingRefused (line_along P m R) x f) (to_z-of_z fits) h)

pub returns-then-len-eq0 : goal.returns-then-len-eq0
returns-then-len-eq0 c =
    searched_none (line_along c.args.p_matrix.now c.args.mu c.args.r_matrix.now) c.args.steps.now (omega (arith, c.len.ensures, c.if-len-eq0.true))

last : (c : After-at) → IsTightenAlong (line_along c.args.p_matrix.now c.args.mu c.args.r_matrix.now) c.at.result.now
last c =
    again_at (line_along c.args.p_matrix.now c.args.mu c.args.r_matrix.now) c.args.steps.now c.at.result.now c.requires.again
    (is_last c.args.steps.now c.at.result.now c.len-2.result c.len-2.ensures c.at.ensures)

pub tighten-requires-clause-tightenable : goal.tighten-requires-clause-tightenable
tighten-requires-clause-tightenable c =
    tightenable_back c.args.p_matrix.now c.args.r_matrix.now c.args.mu c.at.result.now.vector (search rules)
    (last (goal.at.tighten-requires-clause-tightenable c).After-at).tightenable

pub want_of_memory-requires : goal.want_of_memory-requires
want_of_memory-requires c =
    memory_alone c.args.p_matrix.now c.args.r_matrix.now c.args.mu c.at.result.now.vector c.in-Err.fail (search rules)
    (last (goal.at.want_of_memory-requires c).After-at).owes c.in-Err.ensures.refused

pub returns-in-Ok : goal.returns-in-Ok
returns-in-Ok c =
    searched_again (line_along c.args.p_matrix.now c.args.mu c.args.r_matrix.now) c.args.steps.now c.at.result.now c.in-Ok.made.matrix c.requires.again
    (is_last c.args.steps.now c.at.result.now c.len-2.result c.len-2.ensures c.at.ensures)
    (made_plain c.args.p_matrix.now c.args.r_matrix.now c.args.mu c.at.result.now.vector c.in-Ok.made (search rules) c.in-Ok.ensures.made).matrix

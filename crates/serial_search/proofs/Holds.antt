-- What the answers say, and the answers at the root.
use Rattle.std.specs.Prelude.{◌≢◌, ℕ, [], Option, Some, None, Result, Ok, Err, IfOk, IfSome}
use Rattle.std.proofs.Common.{inl}
use Rattle.exact_forms.specs.Forms.{IsSymmetric}
use Rattle.unimodular_cone.specs.declared.Mode.{Mode}
use Rattle.unimodular_cone.specs.declared.WideAt.{WideAt}
use Rattle.unimodular_cone.specs.declared.ConeFail.{ConeFail}
use Rattle.unimodular_cone.specs.declared.ConeFail.TheVariants.{Wide, OutOfMemory}
use Rattle.unimodular_cone.specs.Cones.{Matrix, cone_from}
use Rattle.unimodular_cone.specs.Answer.{SearchAnswer, IsSearchAnswer, BoundFits}
use Rattle.unimodular_cone.specs.Shown.{IsFirstWideAt, IsWideWhere}
use Rattle.unimodular_cone.proofs.Minimum.{minimum_is, copositive_is, low_is}
use Rattle.search_core.specs.declared.Least.{Least}
use Rattle.search_core.specs.declared.Sign.{Sign}
use Rattle.search_core.specs.Answers.{IsLeastAnswer, IsSignAnswer, LeastHolds, SignHolds}

pub wide_at_root : (m : Mode) (n : ℕ) (q : Matrix) (d : ℕ) (at : WideAt) → BoundFits m n q → IsFirstWideAt n q [] at
    → IsSearchAnswer m n q d (SearchAnswer.Wide at.path at.entry)
unfolding cone_from
wide_at_root m n q d at narrow w = inl (narrow, w.path_is, w.entry)

pub least_holds : (n : ℕ) (q : Matrix) (d : ℕ) (answer : Least) → IsSymmetric n q → IsLeastAnswer n q d answer → LeastHolds n q answer
least_holds n q d (Least.Found m vectors) s a = minimum_is n q d m vectors s a
least_holds n q d (Least.Low x z path) s a = low_is Mode.Least n q d x z path a
least_holds n q d (Least.Depth path) s a = tt
least_holds n q d (Least.Wide at) s a = tt
least_holds n q d (Least.BoundWide z) s a = tt
least_holds n q d Least.OutOfMemory s a = tt

pub sign_holds : (n : ℕ) (q : Matrix) (d : ℕ) (answer : Sign) → IsSymmetric n q → IsSignAnswer n q d answer → SignHolds n q answer
sign_holds n q d Sign.Copositive s a = copositive_is n q d s a
sign_holds n q d (Sign.Low x z path) s a = low_is Mode.Sign n q d x z path a
sign_holds n q d (Sign.Depth path) s a = tt
sign_holds n q d (Sign.Wide at) s a = tt
sign_holds n q d Sign.OutOfMemory s a = tt

pub not_memory : (P : WideAt → Type 0) (fail : ConeFail) → IsWideWhere P fail → fail ≢ OutOfMemory
not_memory P (Wide at) w e = (cc)
not_memory P OutOfMemory w e = w

-- what holds anyway holds of what is found
pub anyway : {A E : Type 0} (F : Type 0) (r : Result (Option A) E) → F → IfOk r (λ x. IfSome x (λ _. F))
anyway F (Ok None) f = tt
anyway F (Ok (Some x)) f = f
anyway F (Err e) f = tt

use Rattle.std.proofs.Common.{◌≡◌, ℕ, ◌+◌, ◌*◌, ◌/◌, ◌++◌, ◌∷◌, [], pos, sym, ap, ap₂, ◌∙◌, take, List, rules, subst, IfOk, Result, Ok, Err, to_z, of_z}
use Rattle.std.specs.Int.{w128}
use Rattle.std.proofs.lemmas.Int.{to_z-of_z}
use Rattle.std.proofs.lemmas.List.{map_more}
use Rattle.exact_forms.specs.Rational.{Rational, whole}
use Rattle.matrix_sample.specs.Samples.{IsSample}
use Rattle.matrix_sample.proofs.SampleSums.{sampled}
use Rattle.matrix_sample.proofs.sample.sample_matrix.Goals as goal

abbrev of_sum : ℕ → Rational
of_sum s = whole (pos s)

pub loop-sum-init : goal.loop-sum-init
loop-sum-init c = c.new-lower.ensures.items

pub loop-sum-preserved : goal.loop-sum-preserved
loop-sum-preserved c =
    let used : List ℕ = take (c.from-rows.result * (c.from-rows.result + 1) / 2) c.sums_of_products-sums.result in
    let fits : to_z w128 (of_z w128 c.from.result) ≡ c.from.result = search (rules, to_z-of_z) in
    c.in_ok-push.ensures.items
    ∙ ap₂ (λ (qs : List Rational) (q : Rational). qs ++ q ∷ []) c.loop-sum.invariant (c.whole.ensures ∙ ap whole (fits ∙ c.from.ensures))
    ∙ sym (map_more of_sum used c.loop-sum.sum-index 0 c.loop-sum-test.true)

pub from_lower-requires-clause-triangle : goal.from_lower-requires-clause-triangle
from_lower-requires-clause-triangle c =
    let sample = sampled c.args.n c.args.k c.args.first c.from-rows.result c.loop-sum.sum-index c.sums_of_products-sums.result
    c.loop-sum.lower.items c.deref.result.now
    c.requires.first_size c.requires.last_size c.sums_of_products-sums.ensures.size c.sums_of_products-sums.ensures.sums
    c.from-rows.ensures c.loop-sum.invariant c.loop-sum-test.false c.deref.ensures.value in
    sample.matrix.triangle

-- what holds of a value holds of what is equal to it
if_ok_same : {A E : Type 0} (P : A → Type 0) (r : Result A E) (x : A) → P x → IfOk r (λ a. a ≡ x) → IfOk r P
if_ok_same P (Ok a) x h e = subst P (sym e) h
if_ok_same P (Err e) x h none = none

pub returns : goal.returns
returns c =
    if_ok_same (IsSample c.args.n c.args.k c.args.first) c.from_lower.result (record { size = c.args.n; lower = c.deref.result.now })
    (sampled c.args.n c.args.k c.args.first c.from-rows.result c.loop-sum.sum-index c.sums_of_products-sums.result c.loop-sum.lower.items c.deref.result.now
    c.requires.first_size c.requires.last_size c.sums_of_products-sums.ensures.size c.sums_of_products-sums.ensures.sums
    c.from-rows.ensures c.loop-sum.invariant c.loop-sum-test.false c.deref.ensures.value) c.from_lower.ensures

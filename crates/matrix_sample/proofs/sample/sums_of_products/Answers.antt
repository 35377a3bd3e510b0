use Rattle.std.proofs.Common.{◌≡◌, ℕ, ◌+◌, ◌*◌, ◌<◌, pos, refl, sym, ap, ◌∙◌, slice_index_or, arith}
use Rattle.exact_forms.specs.Triangles.{triangle}
use Rattle.matrix_sample.specs.Samples.{number_at, coordinate_from, sample_coordinate, sample_sum}
use Rattle.matrix_sample.proofs.Draws.{number_at_none}
use Rattle.matrix_sample.proofs.SampleSums.{zeros_are_zero, no_sum, drawn_coordinate, next_drawn, sum_with_next, sum_small}
use Rattle.matrix_sample.proofs.sample.sums_of_products.Goals as goal

pub loop-drawn-init : goal.loop-drawn-init
loop-drawn-init c =
    let none : 0 ≡ 0 * c.args.n = omega arith in
    record {
      long = refl;
      number = sym (number_at_none c.args.first) ∙ ap (number_at c.args.first) none;
      sums = λ i j lj li. ap pos (zeros_are_zero 21 (triangle i + j)) ∙ no_sum c.args.n c.args.first i j;
    }

pub loop-drawn-preserved : goal.loop-drawn-preserved
loop-drawn-preserved c =
    let now = c.loop-drawn in
    let vector = c.next_vector-vector in
    let drawn : (p : ℕ) → p < c.args.n → slice_index_or vector.result p 0 ≡ sample_coordinate c.args.n c.args.first now._drawn p =
    (λ p l. drawn_coordinate c.args.n c.args.first now._drawn p (slice_index_or vector.result p 0)
    (vector.ensures.coordinates p l ∙ ap (λ (x : ℕ). coordinate_from (number_at x (p + 1))) now.invariant.number)) in
    record {
      long = (let same = c.add_products.auto.sums in omega (arith, now.invariant.long));
      number = vector.ensures.number ∙ ap (λ (x : ℕ). number_at x c.args.n) now.invariant.number ∙ next_drawn c.args.n c.args.first now._drawn;
      sums = λ i j lj li. sum_with_next c.args.n c.args.first now._drawn i j (slice_index_or now.sums (triangle i + j) 0)
          (slice_index_or vector.result i 0) (slice_index_or vector.result j 0) (slice_index_or c.add_products.new.sums (triangle i + j) 0)
          (now.invariant.sums i j lj li) (drawn i li) (drawn j (omega arith)) (c.add_products.ensures i j lj li);
    }

pub add_products-requires-clause-low : goal.add_products-requires-clause-low
add_products-requires-clause-low c = λ i j lj li.
    sum_small c.args.n c.loop-drawn._drawn c.args.first i j (slice_index_or c.loop-drawn.sums (triangle i + j) 0)
    (let t = c.loop-drawn-test.true in let k = c.requires.count in omega arith) (c.loop-drawn.invariant.sums i j lj li)

pub returns-clause-size : goal.returns-clause-size
returns-clause-size c = c.loop-drawn.invariant.long

pub returns-clause-sums : goal.returns-clause-sums
returns-clause-sums c =
    let done : c.loop-drawn._drawn ≡ c.args.k = (let t = c.loop-drawn-test.false in let e = c.loop-drawn.auto._drawn-end in omega arith) in
    λ i j lj li. c.loop-drawn.invariant.sums i j lj li ∙ ap (λ (m : ℕ). sample_sum c.args.n m c.args.first i j) done

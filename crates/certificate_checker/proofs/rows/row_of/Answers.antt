use Rattle.std.proofs.Common.{◌≡◌, ◌<◌, ◌+◌, ◌-◌, ◌∙◌, pos, ap₂, length, arith, refl, to_z, of_z, to_z-of_z, length-set, ℕ}
use mir.Syntax.{w128}
use Rattle.symmetric_matrix.specs.Symmetric.{entry}
use Rattle.exact_forms.proofs.Lists.{more_set}
use Rattle.certificate_checker.proofs.rows.row_of.Goals as goal

pub loop-j-init : goal.loop-j-init
loop-j-init c = record { room = refl; row = λ p l. absurd (omega arith) }

pub loop-j-preserved : goal.loop-j-preserved
loop-j-preserved c =
    let few : c.loop-j.j < 8 = omega (arith, c.n-n.ensures.matrix.small) in
    let room : c.loop-j.j < length c.loop-j.row = omega (arith, c.loop-j.invariant.room) in
    let i : c.args.i + 1 - 1 ≡ c.args.i = omega arith in
    let j : c.loop-j.j + 1 - 1 ≡ c.loop-j.j = omega arith in
    let value : c.get.result ≡ entry c.args.w.now c.args.i c.loop-j.j = c.get.ensures.value ∙ ap₂ (λ (a : ℕ) (b : ℕ). entry c.args.w.now a b) i j in
    let read : to_z w128 (of_z w128 c.get.result) ≡ entry c.args.w.now c.args.i c.loop-j.j = grind (arith, to_z-of_z) in
    record {
      room = length-set c.loop-j.row c.from.result _ ∙ c.loop-j.invariant.room;
      row = more_set (pos 0) c.loop-j.row (entry c.args.w.now c.args.i) c.loop-j.j c.from.result _ c.loop-j.invariant.row room c.from.ensures read;
    }

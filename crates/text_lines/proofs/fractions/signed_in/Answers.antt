use Rattle.std.proofs.Common.{◌≡◌, rules, ap, sym, ◌∙◌, Bool, cond, ℤ, pos, neg_ℤ, to_z, of_z, Result, Ok}
use Rattle.std.specs.Int.{w128}
use Rattle.std.proofs.lemmas.Int.{to_z-of_z}
use Rattle.text_lines.specs.declared.fractions.NumberFault.{NumberFault}
use Rattle.text_lines.proofs.FractionWords.{signed-good}
use Rattle.text_lines.proofs.fractions.signed_in.Goals as goal

pub returns : goal.returns
returns c =
    let good = signed-good c.args.limit c.args.word.now c.value.result c.in-Some.number.magnitude c.requires c.in-Some.ensures.0 c.in-Some.ensures.2
    c.if-number-limit.false
    (c.value.ensures ∙ ap (λ (b : Bool). cond b (neg_ℤ (pos c.in-Some.number.magnitude)) (pos c.in-Some.number.magnitude)) c.in-Some.ensures.1) in
    let num : to_z w128 (of_z w128 c.value.result) ≡ c.value.result = search (rules, to_z-of_z) in
    ap ok num ∙ sym good
  where
    ok : ℤ → Result ℤ NumberFault
    ok z = Ok z

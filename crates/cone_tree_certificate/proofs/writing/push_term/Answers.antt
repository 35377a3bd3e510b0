use Rattle.std.proofs.Common.{[], ◌≡◌, ◌++◌, ◌∙◌, get_or, refl, arith, rules, ap, subst, ℤ, pos, to_z, of_z}
use Rattle.std.specs.Int.{w128}
use Rattle.std.specs.Fmt.{signed_decimal}
use Rattle.std.proofs.lemmas.Int.{to_z-of_z}
use Rattle.exact_forms.specs.Factors.{WeightedVector}
use Rattle.text_lines.specs.Spelling.{Extends, line_of_words}
use Rattle.text_lines.proofs.Written.{Extends-then, Extends-append}
use Rattle.cone_tree_certificate.specs.VerdictText.{term_words, IsNarrowTerm}
use Rattle.cone_tree_certificate.proofs.WrittenLines.{coordinates_none, coordinates_more, term_end}
use Rattle.cone_tree_certificate.proofs.writing.push_term.Goals as goal
use Rattle.cone_tree_certificate.proofs.writing.push_term.Goals.{After-push_number}

-- what stood there still does
kept_number : (c : After-push_number) → Extends c.args.into.now.items c.push_number.new.into.items
kept_number c = Extends-then c.args.into.now.items c.loop-coordinate.into.items c.push_number.new.into.items c.loop-coordinate.invariant.kept
    (Extends-then c.loop-coordinate.into.items c.push.new.self.items c.push_number.new.into.items
    (Extends-append c.loop-coordinate.into.items _ c.push.new.self.items c.in_ok-push.ensures.items) c.push_number.ensures.kept)

pub loop-coordinate-init : goal.loop-coordinate-init
loop-coordinate-init c = record { so_far = coordinates_none [] c.push_quotient.new.into.items; kept = c.push_quotient.ensures.kept }

pub loop-coordinate-preserved : goal.loop-coordinate-preserved
loop-coordinate-preserved c =
    let fits : to_z w128 (of_z w128 c.from.result) ≡ c.from.result = search (rules, to_z-of_z) in
    let value : to_z w128 (of_z w128 c.from.result) ≡ pos (get_or c.as_slice-coordinates.result.now c.loop-coordinate.coordinate-index 0) = fits
    ∙ c.from.ensures in
    record {
      so_far = coordinates_more c.as_slice-coordinates.result.now c.loop-coordinate.coordinate-index
          (get_or c.as_slice-coordinates.result.now c.loop-coordinate.coordinate-index 0) c.push_quotient.new.into.items c.loop-coordinate.into.items
          c.push.new.self.items c.push_number.new.into.items
          (omega arith) refl c.loop-coordinate.invariant.so_far c.in_ok-push.ensures.items (c.in_ok-push_number.ensures.ok
          ∙ ap (λ (z : ℤ). c.push.new.self.items ++ signed_decimal z) value);
      kept = kept_number (goal.at.loop-coordinate-preserved c).After-push_number;
    }

pub returns-in_err-push_number-clause-kept : goal.returns-in_err-push_number-clause-kept
returns-in_err-push_number-clause-kept c = kept_number (goal.at.returns-in_err-push_number-clause-kept c).After-push_number

pub returns-clause-ok : goal.returns-clause-ok
returns-clause-ok c =
    subst (λ (term : WeightedVector). c.push-2.new.self.items ≡ c.args.into.now.items ++ line_of_words (term_words term)) c.term.view_is
    (term_end (record { weight = c.term.inside.weight; vector = c.term.inside.vector }) c.loop-coordinate.coordinate-index c.as_slice-coordinates.result.now
    c.args.into.now.items c.push_quotient.new.into.items c.loop-coordinate.into.items c.push-2.new.self.items
    c.as_slice-coordinates.ensures.value (omega arith) c.in_ok-push_quotient.ensures.ok c.loop-coordinate.invariant.so_far c.in_ok-push-2.ensures.items)

pub returns-clause-narrow : goal.returns-clause-narrow
returns-clause-narrow c =
    subst IsNarrowTerm c.term.view_is (record {
      num = c.in_ok-push_quotient.ensures.num;
      den = c.in_ok-push_quotient.ensures.den;
      vector =
          c.as_slice-coordinates.ensures.vector;
    })

use Rattle.std.proofs.Common.{Ok}
use Rattle.std.proofs.lemmas.Result.{err_from_is_err_and}
use Rattle.cone_tree_certificate.specs.ProofText.{factors_of, no_more_lines}
use Rattle.cone_tree_certificate.specs.declared.verdict.Verdict.TheVariants.{Factors}
use Rattle.cone_tree_certificate.proofs.Steps.{refused_same}
use Rattle.cone_tree_certificate.proofs.Wholes.{terms_refused, terms_read, factors_end}
use Rattle.cone_tree_certificate.proofs.reading.factors_in.Goals as goal

pub returns-in_err-terms : goal.returns-in_err-terms
returns-in_err-terms c =
    let p = err_from_is_err_and c.from_residual.result c.from_residual.ensures.1 in
    rw (p.1, p.2) (terms_refused c.args.n c.args.count c.args.lines.end c.args.lines.lines c.in_err-terms.field-0.0 c.in_err-terms.ensures.read)

pub returns-in_err-end_of_lines : goal.returns-in_err-end_of_lines
returns-in_err-end_of_lines c =
    let p = err_from_is_err_and c.from_residual-in_err-end_of_lines.result c.from_residual-in_err-end_of_lines.ensures.1 in
    rw (p.1, p.2)
    (refused_same (no_more_lines c.terms_in.new.lines.lines (Ok (Factors c.args.n c.in_ok-terms.terms)))
    (factors_of c.args.n c.args.count c.args.lines.end c.args.lines.lines) c.in_err-end_of_lines.field-0.0
    (terms_read c.args.n c.args.count c.args.lines.end c.args.lines.lines _ c.in_ok-terms.ensures.read)
    (c.in_err-end_of_lines.ensures (Ok (Factors c.args.n c.in_ok-terms.terms))))

pub returns : goal.returns
returns c = factors_end c.args.n c.args.count c.args.lines.end c.args.lines.lines _ c.in_ok-terms.ensures.read c.in_ok-end_of_lines.ensures

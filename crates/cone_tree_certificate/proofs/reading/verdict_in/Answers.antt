use Rattle.std.proofs.Common.{◌∙◌, ap}
use Rattle.std.proofs.lemmas.Result.{err_from_is_err_and}
use Rattle.text_lines.specs.Lines.{Content}
use Rattle.cone_tree_certificate.specs.ProofText.{verdict_of}
use Rattle.cone_tree_certificate.proofs.Steps.{reads_same}
use Rattle.cone_tree_certificate.proofs.Wholes.{header_refused, factors_text, separator_text}
use Rattle.cone_tree_certificate.proofs.reading.verdict_in.Goals as goal

pub returns-in_err-header : goal.returns-in_err-header
returns-in_err-header c =
    let p = err_from_is_err_and c.from_residual.result c.from_residual.ensures.1 in
    let is = rw c.of-lines.ensures at c.in_err-header.ensures.read in
    rw (p.1, p.2) (header_refused c.args.bytes.now c.in_err-header.field-0.0 is)

pub returns-in-OfFactors : goal.returns-in-OfFactors
returns-in-OfFactors c =
    let is = rw c.of-lines.ensures at c.in_ok-header.ensures.read in
    reads_same (λ v. v) c.factors_in.result _ (verdict_of c.args.bytes.now)
    (factors_text c.args.bytes.now c.in_ok-header.header c.next_header.new.lines.lines c.next_header.new.lines.end c.in-OfFactors.n c.in-OfFactors.count is
    c.in-OfFactors.is (c.next_header.ensures.end ∙ ap (λ (text : Content). text.end) c.of-lines.ensures)) c.factors_in.ensures

pub returns-in-OfSeparator : goal.returns-in-OfSeparator
returns-in-OfSeparator c =
    let is = rw c.of-lines.ensures at c.in_ok-header.ensures.read in
    reads_same (λ v. v) c.separator_in.result _ (verdict_of c.args.bytes.now)
    (separator_text c.args.bytes.now c.in_ok-header.header c.next_header.new.lines.lines c.next_header.new.lines.end c.in-OfSeparator.n is c.in-OfSeparator.is
    (c.next_header.ensures.end ∙ ap (λ (text : Content). text.end) c.of-lines.ensures)) c.separator_in.ensures

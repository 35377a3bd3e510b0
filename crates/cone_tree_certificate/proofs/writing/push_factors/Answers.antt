use Rattle.std.proofs.Common.{arith}
use Rattle.std.proofs.lemmas.Result.{on_ok_weaker}
use Rattle.text_lines.proofs.Written.{Extends-then}
use Rattle.cone_tree_certificate.proofs.WrittenLines.{factors_made}
use Rattle.cone_tree_certificate.proofs.writing.push_factors.Goals as goal

pub returns-clause-ok : goal.returns-clause-ok
returns-clause-ok c =
    on_ok_weaker c.push_terms.result
    (λ e. factors_made c.args.n c.args.terms.now c.len.result c.args.into.now.items c.push_factored.new.into.items c.push_terms.new.into.items c.len.ensures
    c.in_ok-push_factored.ensures.ok e) c.push_terms.ensures.ok

pub returns-clause-kept : goal.returns-clause-kept
returns-clause-kept c =
    Extends-then c.args.into.now.items c.push_factored.new.into.items c.push_terms.new.into.items c.push_factored.ensures.kept c.push_terms.ensures.kept

pub returns-clause-whole : goal.returns-clause-whole
returns-clause-whole c = on_ok_weaker c.push_terms.result (λ e. (omega (arith, c.len.ensures), e)) c.push_terms.ensures.narrow

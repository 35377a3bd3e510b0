use Rattle.std.proofs.Common.{◌≤◌, length, arith}
use Rattle.std.proofs.lemmas.List.Elements.{All-nil}
use Rattle.cone_tree_certificate.specs.VerdictText.{IsNarrowTerm}
use Rattle.cone_tree_certificate.proofs.WrittenLines.{flat_none, flat_more, all_taken_more, all_taken}
use Rattle.cpfactor_lines.specs.Texts.{term_line}
use Rattle.cpfactor_lines.proofs.Listings.{terms_appended}
use Rattle.cpfactor_lines.proofs.factorization.push_factorization.Goals as goal

pub loop-k-init : goal.loop-k-init
loop-k-init c = record { so_far = flat_none term_line _; narrow = All-nil IsNarrowTerm }

pub loop-k-preserved : goal.loop-k-preserved
loop-k-preserved c = record {
  so_far = flat_more term_line c.args.terms.now c.loop-k.k c.at.result.now _ _ _ c.at.ensures c.loop-k.invariant.so_far c.in_ok-push_term.ensures.line;
  narrow = all_taken_more IsNarrowTerm c.args.terms.now c.loop-k.k c.at.result.now c.at.ensures c.loop-k.invariant.narrow c.push_term.ensures.narrow;
}

pub returns-clause-text : goal.returns-clause-text
returns-clause-text c =
    let all : length c.args.terms.now ≤ c.loop-k.k = omega (arith, c.len-k-end.ensures, c.loop-k-test.false) in
    terms_appended c.args.n c.args.terms.now c.len.result c.loop-k.k c.args.into.now.items _ _ c.len.ensures.value all c.in_ok-push_factored.ensures
    c.loop-k.invariant.so_far

pub returns-clause-whole : goal.returns-clause-whole
returns-clause-whole c =
    let all : length c.args.terms.now ≤ c.loop-k.k = omega (arith, c.len-k-end.ensures, c.loop-k-test.false) in
    (omega (arith, c.len.ensures), all_taken IsNarrowTerm c.args.terms.now c.loop-k.k all c.loop-k.invariant.narrow)

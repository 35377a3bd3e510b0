use Rattle.std.proofs.Common.{◌≡◌, ◌≤◌, length, refl, arith}
use Rattle.std.proofs.lemmas.List.Elements.{All-nil}
use Rattle.exact_forms.specs.Factors.{WeightedVector}
use Rattle.text_lines.specs.Spelling.{line_of_words}
use Rattle.text_lines.proofs.Written.{Extends-same, still_kept}
use Rattle.cone_tree_certificate.specs.VerdictText.{term_words, written_terms, IsNarrowTerm}
use Rattle.cone_tree_certificate.proofs.WrittenLines.{flat_none, flat_more, flat_all, all_taken_more, all_taken}
use Rattle.cone_tree_certificate.proofs.writing.push_terms.Goals as goal

pub loop-index-init : goal.loop-index-init
loop-index-init c = record {
  writing = record {
    so_far = flat_none (λ (term : WeightedVector). line_of_words (term_words term)) c.args.into.now.items;
    kept = Extends-same _ _ refl;
  };
  narrow = All-nil IsNarrowTerm;
}

pub loop-index-preserved : goal.loop-index-preserved
loop-index-preserved c = record {
  writing = record {
    so_far = flat_more (λ (term : WeightedVector). line_of_words (term_words term)) c.args.terms.now c.loop-index.index _ c.args.into.now.items
        c.loop-index.into.items c.push_term.new.into.items c.at.ensures c.loop-index.invariant.writing.so_far c.in_ok-push_term.ensures.ok;
    kept = still_kept _ _ _ _ c.loop-index.invariant.writing c.push_term.ensures.kept;
  };
  narrow = all_taken_more IsNarrowTerm c.args.terms.now c.loop-index.index c.at.result.now c.at.ensures c.loop-index.invariant.narrow
      c.in_ok-push_term.ensures.narrow;
}

pub returns-in_err-push_term-clause-kept : goal.returns-in_err-push_term-clause-kept
returns-in_err-push_term-clause-kept c = still_kept _ _ _ _ c.loop-index.invariant.writing c.push_term.ensures.kept

pub returns-clause-ok : goal.returns-clause-ok
unfolding written_terms
returns-clause-ok c =
    let n = c.len-index-end.ensures in
    let test = c.loop-index-test.false in
    let all : length c.args.terms.now ≤ c.loop-index.index = omega (arith, n, test) in
    flat_all (λ (term : WeightedVector). line_of_words (term_words term)) c.args.terms.now c.loop-index.index c.args.into.now.items c.loop-index.into.items all
    c.loop-index.invariant.writing.so_far

pub returns-clause-narrow : goal.returns-clause-narrow
returns-clause-narrow c =
    let n = c.len-index-end.ensures in
    let test = c.loop-index-test.false in
    let all : length c.args.terms.now ≤ c.loop-index.index = omega (arith, n, test) in
    all_taken IsNarrowTerm c.args.terms.now c.loop-index.index all c.loop-index.invariant.narrow

use Rattle.cpfactor_top.specs.Searching.{IsSearched, IsSearchDue}
use Rattle.cpfactor_top.specs.Answers.{IsBytesAnswer}
use Rattle.cpfactor_top.proofs.OutcomeLaws.{ends_yield, ends_with_status}
use Rattle.cpfactor_top.proofs.AnswerLaws.{searching, bytes_is_due, bytes_due_once, bytes_status}
use Rattle.cpfactor_top.proofs.searching.minimum_alone.Goals as goal

pub returns-clause-status : goal.returns-clause-status
returns-clause-status g c =
    let A = IsSearched c.args.mode c.args.depth in let D = IsSearchDue c.args.mode c.args.depth in let Q = searching c.args.mode c.args.depth in
    ends_with_status (IsBytesAnswer A c.args.bytes.now) _ _ (λ e text h. bytes_status A D Q c.args.bytes.now e (bytes_is_due A D Q c.args.bytes.now e text h))
    c.search_with.ensures

pub returns-clause-due : goal.returns-clause-due
returns-clause-due g c e due =
    let A = IsSearched c.args.mode c.args.depth in let D = IsSearchDue c.args.mode c.args.depth in let Q = searching c.args.mode c.args.depth in
    ends_yield (IsBytesAnswer A c.args.bytes.now) _ e c.search_with.result
    (λ text h. bytes_due_once A D Q c.args.bytes.now c.search_with.result e (bytes_is_due A D Q c.args.bytes.now c.search_with.result text h) due)
    c.search_with.ensures

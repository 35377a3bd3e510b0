use Rattle.std.proofs.Common.{◌∙◌, rules}
use Rattle.std.proofs.lemmas.Iterator.{YieldsList-from_slice}
use Rattle.std.proofs.lemmas.Iterator.Search.{all_from_yields_List}
use borrow.Author.Tests.{tests}
use Rattle.std.specs.Char.{is_ascii_digit}
use Rattle.cpfactor_lines.proofs.Numerals.{numeral_other}
use Rattle.cpfactor_lines.proofs.row.is_numeral.Goals as goal

pub returns : goal.returns
returns c =
    let word = c.as_bytes-digits.result.now in
    let all = all_from_yields_List is_ascii_digit _ _ c.all.result c.all.ensures.ran (YieldsList-from_slice word cc) (λ x b q k. search (rules, tests)) in
    let other = numeral_other word c.in-len1-up.len_at_least c.if-first-eq48.false in
    rw (← c.as_bytes-digits.ensures.value) (all ∙ other)

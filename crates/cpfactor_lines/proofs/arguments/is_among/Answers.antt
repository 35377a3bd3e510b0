use Rattle.std.proofs.Common.{◌∙◌, sym, rules}
use Rattle.std.proofs.lemmas.Iterator.{YieldsList-from_slice}
use Rattle.std.proofs.lemmas.Iterator.Search.{any_from_yields_List}
use borrow.Author.Tests.{tests}
use Rattle.std.specs.Prelude.{String}
use Rattle.std.specs.Global.{Global}
use Rattle.std.specs.Str.{bytes_eq}
use Rattle.std.specs.String.{string_bytes}
use Rattle.cpfactor_lines.proofs.Rows.{is_among-texts}
use Rattle.cpfactor_lines.proofs.arguments.is_among.Goals as goal

pub returns : goal.returns
returns c =
    any_from_yields_List (λ (w : String Global). bytes_eq (string_bytes w) c.args.word.now) _ _ c.any.result c.any.ensures.ran
    (YieldsList-from_slice c.args.words.now cc) (λ x b q k. search (rules, tests)) ∙ sym (is_among-texts c.args.words.now c.args.word.now)

use Rattle.std.proofs.Common.{◌≡◌, ◌∙◌, ap, rules}
use Rattle.std.proofs.lemmas.Iterator.{YieldsList-from_slice}
use Rattle.std.proofs.lemmas.Iterator.Search.{find_from_yields_List}
use borrow.Author.Tests.{tests}
use Rattle.std.specs.Prelude.{find, option_map}
use Rattle.std.specs.Str.{bytes_eq}
use Rattle.cpfactor_lines.specs.Requests.{option_of}
use Rattle.cpfactor_lines.specs.declared.row.OptionRow.{OptionRow}
use Rattle.cpfactor_lines.proofs.Rows.{option_named-of}
use Rattle.cpfactor_lines.proofs.row.CommandRow.option_named.Goals as goal

pub returns : goal.returns
returns c =
    let found = find_from_yields_List (λ (o : OptionRow). bytes_eq c.args.word.now o.name.now) _ _ c.find.result c.find.ensures.ran
    (YieldsList-from_slice c.args.self.now.options.now cc) (λ x b q k. search (rules, tests)) in
    let same : c.copied.result ≡ find (λ (o : OptionRow). bytes_eq c.args.word.now o.name.now) c.args.self.now.options.now = c.copied.ensures ∙ found in
    ap (option_map option_of) same ∙ option_named-of c.args.self.now.options.now c.args.word.now

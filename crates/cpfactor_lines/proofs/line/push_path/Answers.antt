use Rattle.std.proofs.Common.{◌≡◌, ◌++◌, ℕ, List, OnOk, subst}
use Rattle.cpfactor_lines.proofs.LineLemmas.{no_digits, some_digits}
use Rattle.cpfactor_lines.proofs.line.push_path.Goals as goal

pub returns-then-len-eq0 : goal.returns-then-len-eq0
returns-then-len-eq0 c = no_digits c.args.path.now c.len.result _ _ c.if-len-eq0.true c.len.ensures.count c.in_ok-push.ensures.items

pub returns : goal.returns
returns c =
    subst (λ (t : List ℕ). OnOk c.push_digits.result (c.push_digits.new.into.items ≡ c.args.into.now.items ++ t))
    (some_digits c.args.path.now c.len.result c.if-len-eq0.false c.len.ensures.count) c.push_digits.ensures

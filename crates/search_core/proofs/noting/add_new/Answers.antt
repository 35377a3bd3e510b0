use Rattle.std.specs.Prelude.{◌≡◌, ◌-◌, pos, OnOk, FitsSigned}
use Rattle.std.specs.Int.{w128}
use Rattle.std.proofs.Common.{arith, sym, ◌∙◌, subst}
use Rattle.std.proofs.lemmas.Int.{ints}
use Rattle.unimodular_cone.specs.Shown.{ShownCone, shown_gram}
use Rattle.search_core.specs.Noting.{NewGenerators, NamesNew, AddsNew}
use Rattle.search_core.proofs.Keys.{one_new, on_ok}
use Rattle.search_core.proofs.WaysDown.{same_when_read}
use Rattle.search_core.proofs.noting.add_new.Goals as goal

pub returns-in-One : goal.returns-in-One
returns-in-One g c =
    let cone : ShownCone = g.C.ConeRead.cone c.args.c.now in
    let named = subst (λ (f : NewGenerators). NamesNew cone.size f) c.in-One.is c.requires in
    let first : FitsSigned w128 c.gram.result = omega (arith, ints) in
    let second : FitsSigned w128 c.from.result = omega (arith, ints) in
    let value : shown_gram cone (c.in-One.which - 1) (c.in-One.which - 1) ≡ pos c.args.value =
    sym c.gram.ensures ∙ same_when_read c.gram.result c.from.result first second c.if-gram-from.true ∙ c.from.ensures in
    subst (λ (f : NewGenerators). OnOk c.insert.result (AddsNew cone f (pos c.args.value) c.args.found.now.keys c.insert.new.self.keys)) (sym c.in-One.is)
    (on_ok c.insert.result (one_new cone c.in-One.which (pos c.args.value) c.args.found.now.keys c.insert.new.self.keys c.key_of.result named value
    c.key_of.ensures.key) c.insert.ensures)

use Rattle.std.proofs.Common.{rules, arith, ap, ◌∙◌, subst, to_z-of_z, SFits}
use mir.Syntax.{w128}
use Rattle.symmetric_matrix.specs.Symmetric.{Symmetric, IsSymmetricMatrix}
use Rattle.symmetric_matrix.proofs.Places.{place_in_range, read_is_entry, entry_narrow}
use Rattle.symmetric_matrix.proofs.matrix.SymInt.get.Goals as goal

pub index-requires : goal.index-requires
index-requires c =
    let size = ap (λ (q : Symmetric). q.size) c.self.view_is in
    let inside = place_in_range _ c.self.invariant c.args.row c.args.column c.place_of.result c.requires.first_row (omega arith) c.requires.first_column
    (omega arith)
    (rw (c.max-below.ensures, c.min-beside.ensures) at c.place_of.ensures) in
    omega arith

pub returns-clause-value : goal.returns-clause-value
returns-clause-value c =
    let fits : SFits w128 c.index.result.now = search rules in
    to_z-of_z fits
    ∙ read_is_entry _ c.args.self.now c.self.view_is c.self.invariant c.args.row c.args.column c.place_of.result c.index.result.now
    c.requires.first_row c.requires.last_row c.requires.first_column c.requires.last_column
    (rw (c.max-below.ensures, c.min-beside.ensures) at c.place_of.ensures) c.index.ensures

pub returns-clause-fits : goal.returns-clause-fits
returns-clause-fits c =
    let matrix : IsSymmetricMatrix c.args.self.now = subst IsSymmetricMatrix c.self.view_is c.self.invariant in
    rw (returns-clause-value c) (entry_narrow c.args.self.now matrix _ _ (omega arith) (omega arith))

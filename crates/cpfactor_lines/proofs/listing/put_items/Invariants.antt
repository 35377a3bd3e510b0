use Rattle.std.proofs.Common.{◌≡◌, take, List, ℕ}
use Rattle.std.specs.List.{flat_map}
use Rattle.cp_outside.specs.Puts.{appended}
use Rattle.cpfactor_lines.proofs.listing.put_items.Given as goal

abbrev pub invariant-loop-k : goal.invariant-loop-k
invariant-loop-k g l = record {
  written : g.K.Sink.told l.sink ≡ appended (g.K.Sink.told l.fn.sink) (flat_map (λ (t : List ℕ). t) (take l.k (g.L.Listing.lines l.list)));
  quiet : g.K.Sink.faults l.sink ≡ g.K.Sink.faults l.fn.sink;
}

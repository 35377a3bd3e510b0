use Rattle.std.proofs.Common.{◌≡◌, ◌++◌, map, take}
use Rattle.std.specs.Fmt.{decimal}
use Rattle.text_lines.specs.Spelling.{Extends}
use Rattle.text_lines.proofs.Written.{spaced}
use Rattle.cone_tree_certificate.proofs.writing.push_term.Given as goal

abbrev pub invariant-loop-coordinate : goal.invariant-loop-coordinate
invariant-loop-coordinate l = record {
  so_far : l.into.items ≡ l.initial.into.items ++ spaced (map decimal (take l.coordinate-index l.coordinates));
  kept : Extends l.fn.into.items l.into.items;
}

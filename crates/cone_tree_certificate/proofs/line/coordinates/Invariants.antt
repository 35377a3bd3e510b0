use Rattle.std.proofs.Common.{◌≡◌, ◌-◌, take, length}
use Rattle.text_lines.proofs.Fronts.{after_front}
use Rattle.cone_tree_certificate.specs.Words.{coordinates_of}
use Rattle.cone_tree_certificate.proofs.line.coordinates.Given as goal

abbrev pub invariant-loop-place : goal.invariant-loop-place
invariant-loop-place l = record {
  so_far : after_front (take l.place l.vector) (coordinates_of (l.n - l.place) l.words) ≡ coordinates_of l.n (l.fn.words);
  room : length l.vector ≡ 6;
}

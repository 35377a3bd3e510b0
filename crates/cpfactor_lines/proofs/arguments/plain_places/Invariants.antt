use Rattle.std.proofs.Common.{◌≡◌, ℕ, ◌<◌, true}
use Rattle.cpfactor_lines.specs.Arguments.{can_be_read}
use Rattle.cpfactor_lines.specs.Requests.{texts, plain_of, options_of}
use Rattle.cpfactor_lines.specs.ReaderStates.{HasRead}
use Rattle.cpfactor_lines.proofs.arguments.plain_places.Given as goal

abbrev pub invariant-loop-place : goal.invariant-loop-place
invariant-loop-place l = record {
  stands : HasRead l.row (texts l.words) l.place l.reader;
  fits : (j : ℕ) → j < l.place → can_be_read (plain_of l.row) (options_of l.row) (texts l.words) j ≡ true;
}

-- Searches of a range, as the crates above cite them.
pub use Rattle.text_lines.proofs.Squares.{find-none, none-find}
